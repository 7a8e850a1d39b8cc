use Rattle.law_world.specs.Choices.{ChoosesMembers, FindsNoMember}
use Rattle.chorus_world.proofs.Moments.{legal-entries}
use Rattle.law_world.proofs.Choosing.{chooses-members, finds-no-member}
use Rattle.law_world.proofs.choices.a_choice_is_of_members.Goals as goal

pub returns-clause-members : goal.returns-clause-members
returns-clause-members c = legal-entries ChoosesMembers chooses-members

pub returns-clause-none : goal.returns-clause-none
returns-clause-none c = legal-entries FindsNoMember finds-no-member
