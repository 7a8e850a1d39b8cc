use Rattle.std.proofs.Common.{sym, ◌∙◌}
use Rattle.chorus_entry.proofs.Same.{from_same_ids}
use Rattle.chorus_explore.proofs.race_sites.are_same_posts.Goals as goal

pub returns : goal.returns
returns c = λ e. from_same_ids c.args.one.now c.args.other.now (sym c.eq.ensures ∙ e)
