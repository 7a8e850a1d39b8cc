use Rattle.std.proofs.Common.{sym, ◌∙◌}
use Rattle.chorus_entry.proofs.Same.{from_same_body}
use Rattle.chorus_explore.proofs.race_sites.is_same_text.Goals as goal

pub returns : goal.returns
returns c = λ e. from_same_body c.args.one.now c.args.other.now (sym c.eq.ensures ∙ e)
