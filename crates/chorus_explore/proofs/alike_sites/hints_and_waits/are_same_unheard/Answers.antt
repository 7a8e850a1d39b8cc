use Rattle.std.proofs.Common.{refl}
use Rattle.chorus_explore.proofs.AlikeSites.Kept.{same-unheard}
use Rattle.chorus_explore.proofs.alike_sites.hints_and_waits.are_same_unheard.Goals as goal

pub returns : goal.returns
returns c = λ e. same-unheard c.args.one.now c.args.other.now (c.if-not-are_posts_in.ensures refl) (c.are_posts_in-back.ensures e)
