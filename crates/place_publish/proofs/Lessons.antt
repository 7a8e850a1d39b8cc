-- What an entry teaches is what it adds to where ports are located.
use Rattle.std.proofs.Common.{ℕ, ◌≡◌, List, Option, Some, None, Bool, true, false, true≢false, if◌then◌else◌, refl, sym, ◌∙◌, ap, subst}
use Rattle.std.proofs.lemmas.Bool.{and_parts}
use Rattle.chorus_ui.specs.declared.kind.Kind.TheVariants.{Port}
use Rattle.chorus_ui.specs.declared.layout.Layout.{Layout}
use Rattle.chorus_ui.specs.Kind.{same_kind}
use Rattle.chorus_ui.specs.Layout.{can_make_port, names_port}
use Rattle.chorus_ui.proofs.Names.{from_same_ui, from_same_kind}
use Rattle.chorus_ui.specs.declared.ui.Ui.{Ui}
use Rattle.chorus_ui.specs.Name.{same_ui}
use Rattle.chorus_entry.specs.declared.act.Act.{Act}
use Rattle.chorus_entry.specs.declared.act.Act.TheVariants.{Make, MakeFull, NoActor, NoSite, Post, Accept, Full, Already, ClientsFull, Stale, Early, NoPort, Elsewhere, NoMember, Choose, Try, Told, Heard, Take, Done, Late, Empty, NotHere, Rehome, Depart, Arrive, GroupMake, GroupsFull, Join, Leave, NoGroup, There, NotThere, MembersFull, Outstanding, NoCall, NoRequest, Cancel, Delete, Gone}
use Rattle.chorus_entry.specs.declared.answer.Answer.{Answer}
use Rattle.chorus_entry.specs.declared.answer.Answer.TheVariants as A
use Rattle.chorus_entry.specs.declared.entry.Entry.{Entry}
use Rattle.chorus_world.specs.declared.place.Sent.{Sent}
use Rattle.chorus_world.specs.declared.place.Location.{Location}
use Rattle.chorus_world.specs.Places.{find_sent, sent, learned, taught, is_sent_to}
use Rattle.chorus_board.specs.Located.{told_of, IsPortIn}
use Rattle.place_publish.specs.declared.lesson.Lesson.{Lesson}
use Rattle.place_publish.specs.Lessons.{port_in, lesson_told, lesson_in, counted, lesson, told_in}

nowhere : (b : Bool) → (let none : Option Location = None in none) ≡ (if b then None else None)
nowhere true = refl
nowhere false = refl

told-port : (q : Ui) (m : Option Sent) (a : Answer) → told_in (lesson_told (port_in m) a) q ≡ (if is_sent_to q m then taught a else None)
told-port q None a = refl
told-port q (Some m) (A.Stale to hop) = refl
told-port q (Some m) (A.Elsewhere to hop) = refl
told-port q (Some m) (A.Accepted a) = nowhere (same_ui m.port q)
told-port q (Some m) (A.Full a) = nowhere (same_ui m.port q)
told-port q (Some m) (A.Early a) = nowhere (same_ui m.port q)
told-port q (Some m) A.NoPort = nowhere (same_ui m.port q)
told-port q (Some m) A.Already = nowhere (same_ui m.port q)
told-port q (Some m) A.ClientsFull = nowhere (same_ui m.port q)
told-port q (Some m) A.NoMember = nowhere (same_ui m.port q)
told-port q (Some m) (A.Chosen a) = nowhere (same_ui m.port q)
told-port q (Some m) A.Gone = nowhere (same_ui m.port q)

taught-act : (q : Ui) (p : ℕ) (here : List Entry) (act : Act) → told_in (lesson_in p here act) q ≡ learned q p here act
taught-act q p here (Make a b c) = refl
taught-act q p here (MakeFull a) = refl
taught-act q p here (NoActor a) = refl
taught-act q p here (NoSite a) = refl
taught-act q p here (Post a b) = refl
taught-act q p here (Accept a b c) = refl
taught-act q p here (Full a b c) = refl
taught-act q p here (Already a b) = refl
taught-act q p here (ClientsFull a b) = refl
taught-act q p here (Stale a b c d e) = refl
taught-act q p here (Early a b c) = refl
taught-act q p here (NoPort a b) = refl
taught-act q p here (Elsewhere a b c d) = refl
taught-act q p here (NoMember a b) = refl
taught-act q p here (Choose a b c) = refl
taught-act q p here (Try a b c d) = refl
taught-act q p here (Told x a) = told-port q (find_sent x (sent here)) a
taught-act q p here (Heard a b) = refl
taught-act q p here (Take a b c) = refl
taught-act q p here (Done a) = refl
taught-act q p here (Late a) = refl
taught-act q p here (Empty a) = refl
taught-act q p here (NotHere a) = refl
taught-act q p here (Rehome a b) = refl
taught-act q p here (Depart a b c d) = refl
taught-act q p here (Arrive a b) = refl
taught-act q p here (GroupMake a) = refl
taught-act q p here (GroupsFull a) = refl
taught-act q p here (Join a b) = refl
taught-act q p here (Leave a b) = refl
taught-act q p here (NoGroup a) = refl
taught-act q p here (There a b) = refl
taught-act q p here (NotThere a b) = refl
taught-act q p here (MembersFull a) = refl
taught-act q p here (Outstanding a) = refl
taught-act q p here NoCall = refl
taught-act q p here NoRequest = refl
taught-act q p here (Cancel a) = refl
taught-act q p here (Delete a b) = refl
taught-act q p here (Gone a b) = refl

-- of a port that the layout can make all lessons count
counts : (l : Layout) (q : Ui) (o : Option Lesson) → IsPortIn l q → told_in (counted l o) q ≡ told_in o q
counts l q None listed = refl
counts l q (Some t) listed = by (names_port l t.ui) refl
  where
    told : Bool → Option Location
    told b = told_in (if b then Some t else None) q

    other : (c : Bool) → same_ui t.ui q ≡ c → names_port l t.ui ≡ false → told false ≡ (if c then Some (record { to = t.place; hop = t.hop }) else None)
    other true same is = absurd (true≢false (sym listed ∙ ap (names_port l) (sym (from_same_ui t.ui q same)) ∙ is))
    other false same is = refl

    by : (b : Bool) → names_port l t.ui ≡ b → told (names_port l t.ui) ≡ told_of q t.ui t.place t.hop
    by true is = ap told is
    by false is = ap told is ∙ other (same_ui t.ui q) refl is

-- a lesson that counts is of one
counted-listed : (l : Layout) (o : Option Lesson) (t : Lesson) → counted l o ≡ Some t → (t.ui.kind ≡ Port) × (can_make_port l t.ui ≡ true)
counted-listed l None t is = absurd (cc)
counted-listed l (Some u) t is = by (names_port l u.ui) refl
  where
    by : (b : Bool) → names_port l u.ui ≡ b → (t.ui.kind ≡ Port) × (can_make_port l t.ui ≡ true)
    by true listed =
        let is_t : Some u ≡ Some t = sym (ap (λ (b : Bool). if b then Some u else None) listed) ∙ is in
        let same : u ≡ t = cc (is_t) in
        let two = and_parts (same_kind t.ui.kind Port) (can_make_port l t.ui) (subst (λ (x : Lesson). names_port l x.ui ≡ true) same listed) in
        (from_same_kind t.ui.kind Port two.0, two.1)
    by false listed =
        let none : (let n : Option Lesson = None in n) ≡ Some t = sym (ap (λ (b : Bool). if b then Some u else None) listed) ∙ is in absurd (cc (none))

pub lesson-listed : (l : Layout) (here : List Entry) (e : Entry) (t : Lesson) → lesson l here e ≡ Some t → (t.ui.kind ≡ Port) × (can_make_port l t.ui ≡ true)
lesson-listed l here e t is = counted-listed l (lesson_in e.place here e.act) t is

pub teaches : (l : Layout) (q : Ui) (here : List Entry) (e : Entry) → IsPortIn l q → told_in (lesson l here e) q ≡ learned q e.place here e.act
teaches l q here e listed = counts l q (lesson_in e.place here e.act) listed ∙ taught-act q e.place here e.act
