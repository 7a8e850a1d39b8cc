use Rattle.chorus_world.proofs.Moments.{always-one-copy, always-one-member, entries-on-site}
use Rattle.chorus_world.proofs.laws.functional_post_reaches_one_member.Goals as goal

pub returns : goal.returns
returns c = record { copy = always-one-copy; accepted = always-one-member; site = entries-on-site }
