use Rattle.std.proofs.Common.{sym, ◌∙◌}
use Rattle.chorus_entry.proofs.Same.{from_same_uis}
use Rattle.chorus_explore.proofs.alike_sites.names.are_same_names.Goals as goal

pub returns : goal.returns
returns c = λ e. from_same_uis c.args.one.now c.args.other.now (sym c.eq.ensures ∙ e)
