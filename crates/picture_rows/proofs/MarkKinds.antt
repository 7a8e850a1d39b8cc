-- What the marks tell, by the acts.
use Rattle.std.proofs.Common.{Some, None, refl}
use Rattle.std.proofs.lemmas.Bool.{false≢true}
use Rattle.chorus_entry.specs.declared.act.Act.TheVariants.{Make, MakeFull, NoActor, NoSite, Post, Accept, Full, Already, ClientsFull, Stale, Early, NoPort, Elsewhere, NoMember, Choose, Try, Told, Heard, Take, Done, Late, Empty, NotHere, Rehome, Depart, Arrive, GroupMake, GroupsFull, Join, Leave, NoGroup, There, NotThere, MembersFull, Outstanding, NoCall, NoRequest, Cancel, Delete, Gone}
use Rattle.picture_rows.specs.Marks.{EachMarkTells}

pub each_mark_tells : EachMarkTells
each_mark_tells cause (Make q a c) = record { squares = refl; crosses = refl; triangles = refl; discs = λ h. absurd (false≢true h) }
each_mark_tells cause (MakeFull a) = record { squares = refl; crosses = refl; triangles = refl; discs = λ h. absurd (false≢true h) }
each_mark_tells cause (NoActor a) = record { squares = refl; crosses = refl; triangles = refl; discs = λ h. absurd (false≢true h) }
each_mark_tells cause (NoSite s) = record { squares = refl; crosses = refl; triangles = refl; discs = λ h. absurd (false≢true h) }
each_mark_tells cause (Post m d) = record { squares = refl; crosses = refl; triangles = refl; discs = λ h. absurd (false≢true h) }
each_mark_tells None (Accept x q n) = record { squares = refl; crosses = refl; triangles = refl; discs = λ h. absurd (false≢true h) }
each_mark_tells (Some r) (Accept x q n) = record { squares = refl; crosses = refl; triangles = refl; discs = λ h. refl }
each_mark_tells cause (Full x q n) = record { squares = refl; crosses = refl; triangles = refl; discs = λ h. absurd (false≢true h) }
each_mark_tells cause (Already x q) = record { squares = refl; crosses = refl; triangles = refl; discs = λ h. absurd (false≢true h) }
each_mark_tells cause (ClientsFull x q) = record { squares = refl; crosses = refl; triangles = refl; discs = λ h. absurd (false≢true h) }
each_mark_tells cause (Stale x q tried to hop) = record { squares = refl; crosses = refl; triangles = refl; discs = λ h. absurd (false≢true h) }
each_mark_tells cause (Early x q hop) = record { squares = refl; crosses = refl; triangles = refl; discs = λ h. absurd (false≢true h) }
each_mark_tells cause (NoPort x q) = record { squares = refl; crosses = refl; triangles = refl; discs = λ h. absurd (false≢true h) }
each_mark_tells cause (Elsewhere x q to hop) = record { squares = refl; crosses = refl; triangles = refl; discs = λ h. absurd (false≢true h) }
each_mark_tells cause (NoMember x g) = record { squares = refl; crosses = refl; triangles = refl; discs = λ h. absurd (false≢true h) }
each_mark_tells None (Choose x g qs) = record { squares = refl; crosses = refl; triangles = refl; discs = λ h. absurd (false≢true h) }
each_mark_tells (Some r) (Choose x g qs) = record { squares = refl; crosses = refl; triangles = refl; discs = λ h. refl }
each_mark_tells None (Try x q to hop) = record { squares = refl; crosses = refl; triangles = refl; discs = λ h. absurd (false≢true h) }
each_mark_tells (Some r) (Try x q to hop) = record { squares = refl; crosses = refl; triangles = refl; discs = λ h. refl }
each_mark_tells None (Told x answer) = record { squares = refl; crosses = refl; triangles = refl; discs = λ h. absurd (false≢true h) }
each_mark_tells (Some r) (Told x answer) = record { squares = refl; crosses = refl; triangles = refl; discs = λ h. refl }
each_mark_tells None (Heard x answer) = record { squares = refl; crosses = refl; triangles = refl; discs = λ h. absurd (false≢true h) }
each_mark_tells (Some r) (Heard x answer) = record { squares = refl; crosses = refl; triangles = refl; discs = λ h. refl }
each_mark_tells cause (Take q n x) = record { squares = refl; crosses = refl; triangles = refl; discs = λ h. absurd (false≢true h) }
each_mark_tells None (Done n) = record { squares = refl; crosses = refl; triangles = refl; discs = λ h. absurd (false≢true h) }
each_mark_tells (Some r) (Done n) = record { squares = refl; crosses = refl; triangles = refl; discs = λ h. refl }
each_mark_tells None (Late n) = record { squares = refl; crosses = refl; triangles = refl; discs = λ h. absurd (false≢true h) }
each_mark_tells (Some r) (Late n) = record { squares = refl; crosses = refl; triangles = refl; discs = λ h. refl }
each_mark_tells cause (Empty q) = record { squares = refl; crosses = refl; triangles = refl; discs = λ h. absurd (false≢true h) }
each_mark_tells cause (NotHere q) = record { squares = refl; crosses = refl; triangles = refl; discs = λ h. absurd (false≢true h) }
each_mark_tells cause (Rehome q a) = record { squares = refl; crosses = refl; triangles = refl; discs = λ h. absurd (false≢true h) }
each_mark_tells cause (Depart q to a hop) = record { squares = refl; crosses = refl; triangles = refl; discs = λ h. absurd (false≢true h) }
each_mark_tells None (Arrive q hop) = record { squares = refl; crosses = refl; triangles = refl; discs = λ h. absurd (false≢true h) }
each_mark_tells (Some r) (Arrive q hop) = record { squares = refl; crosses = refl; triangles = refl; discs = λ h. refl }
each_mark_tells cause (GroupMake g) = record { squares = refl; crosses = refl; triangles = refl; discs = λ h. absurd (false≢true h) }
each_mark_tells cause (GroupsFull s) = record { squares = refl; crosses = refl; triangles = refl; discs = λ h. absurd (false≢true h) }
each_mark_tells cause (Join g q) = record { squares = refl; crosses = refl; triangles = refl; discs = λ h. absurd (false≢true h) }
each_mark_tells cause (Leave g q) = record { squares = refl; crosses = refl; triangles = refl; discs = λ h. absurd (false≢true h) }
each_mark_tells cause (NoGroup g) = record { squares = refl; crosses = refl; triangles = refl; discs = λ h. absurd (false≢true h) }
each_mark_tells cause (There g q) = record { squares = refl; crosses = refl; triangles = refl; discs = λ h. absurd (false≢true h) }
each_mark_tells cause (NotThere g q) = record { squares = refl; crosses = refl; triangles = refl; discs = λ h. absurd (false≢true h) }
each_mark_tells cause (MembersFull g) = record { squares = refl; crosses = refl; triangles = refl; discs = λ h. absurd (false≢true h) }
each_mark_tells cause (Outstanding n) = record { squares = refl; crosses = refl; triangles = refl; discs = λ h. absurd (false≢true h) }
each_mark_tells cause NoCall = record { squares = refl; crosses = refl; triangles = refl; discs = λ h. absurd (false≢true h) }
each_mark_tells cause NoRequest = record { squares = refl; crosses = refl; triangles = refl; discs = λ h. absurd (false≢true h) }
each_mark_tells cause (Cancel n) = record { squares = refl; crosses = refl; triangles = refl; discs = λ h. absurd (false≢true h) }
each_mark_tells cause (Delete q xs) = record { squares = refl; crosses = refl; triangles = refl; discs = λ h. absurd (false≢true h) }
each_mark_tells cause (Gone x q) = record { squares = refl; crosses = refl; triangles = refl; discs = λ h. absurd (false≢true h) }
