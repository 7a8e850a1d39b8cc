-- The words of a rule, by the acts.
use Rattle.std.proofs.Common.{refl}
use Rattle.chorus_entry.specs.declared.act.Act.TheVariants.{Make, MakeFull, NoActor, NoSite, Post, Accept, Full, Already, ClientsFull, Stale, Early, NoPort, Elsewhere, NoMember, Choose, Try, Told, Heard, Take, Done, Late, Empty, NotHere, Rehome, Depart, Arrive, GroupMake, GroupsFull, Join, Leave, NoGroup, There, NotThere, MembersFull, Outstanding, NoCall, NoRequest, Cancel, Delete, Gone}
use Rattle.chorus_picture.specs.RuleWords.{EachRuleNamesItsAct}

pub each_rule_names_its_act : EachRuleNamesItsAct
each_rule_names_its_act (Make q a c) = refl
each_rule_names_its_act (MakeFull a) = refl
each_rule_names_its_act (NoActor a) = refl
each_rule_names_its_act (NoSite n) = refl
each_rule_names_its_act (Post m d) = refl
each_rule_names_its_act (Accept x q n) = refl
each_rule_names_its_act (Full x q n) = refl
each_rule_names_its_act (Already x q) = refl
each_rule_names_its_act (ClientsFull x q) = refl
each_rule_names_its_act (Stale x q tried to hop) = refl
each_rule_names_its_act (Early x q hop) = refl
each_rule_names_its_act (NoPort x q) = refl
each_rule_names_its_act (Elsewhere x q to hop) = refl
each_rule_names_its_act (NoMember x g) = refl
each_rule_names_its_act (Choose x g qs) = refl
each_rule_names_its_act (Try x q to hop) = refl
each_rule_names_its_act (Told x answer) = refl
each_rule_names_its_act (Heard x answer) = refl
each_rule_names_its_act (Take q n x) = refl
each_rule_names_its_act (Done n) = refl
each_rule_names_its_act (Late n) = refl
each_rule_names_its_act (Empty q) = refl
each_rule_names_its_act (NotHere q) = refl
each_rule_names_its_act (Rehome q a) = refl
each_rule_names_its_act (Depart q to a hop) = refl
each_rule_names_its_act (Arrive q hop) = refl
each_rule_names_its_act (GroupMake g) = refl
each_rule_names_its_act (GroupsFull n) = refl
each_rule_names_its_act (Join g q) = refl
each_rule_names_its_act (Leave g q) = refl
each_rule_names_its_act (NoGroup g) = refl
each_rule_names_its_act (There g q) = refl
each_rule_names_its_act (NotThere g q) = refl
each_rule_names_its_act (MembersFull g) = refl
each_rule_names_its_act (Outstanding n) = refl
each_rule_names_its_act NoCall = refl
each_rule_names_its_act NoRequest = refl
each_rule_names_its_act (Cancel n) = refl
each_rule_names_its_act (Delete q xs) = refl
each_rule_names_its_act (Gone x q) = refl
