-- An entry has an arrow exactly where what it is about comes from another place in the world.
use Rattle.std.proofs.Common.{ℕ, ◌≡◌, ◌≢◌, ◌==◌, ◌&&◌, ◌+◌, ◌⊎◌, true, not, cond, is_some, List, [], ◌∷◌, Option, Some, None, refl, sym, ◌∙◌, ap, subst, inl, inr, arith}
use Rattle.std.proofs.lemmas.Bool.{and_parts, eqb-false, eq-eqb, false≢true, ne_eqb, not-true}
use Rattle.chorus_ui.specs.declared.ui.Ui.{Ui}
use Rattle.chorus_ui.specs.declared.layout.Layout.{Layout}
use Rattle.chorus_ui.specs.Layout.{IsLayout, group_place}
use Rattle.chorus_entry.specs.declared.entry.Entry.{Entry}
use Rattle.chorus_entry.specs.declared.id.MsgId.{MsgId}
use Rattle.chorus_entry.specs.declared.answer.Answer.{Answer}
use Rattle.chorus_entry.specs.declared.act.Act.{Act}
use Rattle.chorus_entry.specs.declared.act.Act.TheVariants.{Post, Accept, Full, Already, ClientsFull, Stale, Early, NoPort, Elsewhere, NoMember, Choose, Try, Told, Heard, Arrive, Gone}
use Rattle.chorus_entry.specs.Act.{message_of, port_of, is_decision}
use Rattle.chorus_entry.specs.Dest.{group_in}
use Rattle.chorus_entry.specs.Same.{is_number}
use Rattle.chorus_world.specs.declared.progress.Progress.{Progress}
use Rattle.chorus_world.specs.declared.progress.Progress.TheVariants.{Idle, Asked, Tried, Decided, Settled, Reported}
use Rattle.chorus_world.specs.Views.{views, at, by, about, is_about, is_on}
use Rattle.chorus_world.specs.Groups.{is_choosing_place}
use Rattle.chorus_world.specs.Messages.{progress, is_to_be_heard}
use Rattle.chorus_world.specs.Places.{is_first}
use Rattle.chorus_world.specs.Posts.{Posted, post_of}
use Rattle.chorus_world.specs.Seats.{posts}
use Rattle.chorus_world.specs.Steps.{act_may, is_asked_from, is_asking_place, is_legal}
use Rattle.chorus_world.proofs.Steps.LegalLemmas.{legal_parts, under}
use Rattle.chorus_world.proofs.Ports.LineLemmas.{none_some}
use Rattle.chorus_world.proofs.Ports.PortMoves.{to_be_told}
use Rattle.chorus_world.proofs.Messages.SendingLemmas.{some_is, first_here}
use Rattle.chorus_world.proofs.Messages.StageLemmas.{IsUnknown, MessageFacts, first_is_idle}
use Rattle.chorus_world.proofs.Messages.PostLemmas.{ChoiceNeeds, choose_needs, no_member_needs, post_needs}
use Rattle.chorus_world.proofs.Messages.DueLemmas.{IsDue, first_try}
use Rattle.chorus_world.proofs.Messages.VerdictLemmas.{decision_due}
use Rattle.chorus_world.proofs.Messages.MessageInvariant.{told_needs, legal_messages}
use Rattle.chorus_world.proofs.Messages.Decided.{may_as}
use Rattle.chorus_world.proofs.Messages.Ways.{Passes, passes}
use Rattle.law_picture.specs.declared.row.Row.{Row}
use Rattle.law_picture.specs.Causes.{caused_by, from_elsewhere, goes_on, latest}
use Rattle.law_picture.specs.Laws.{ArrowsAreOfTheWorld, WhatComesFromAfarHasOne, away, came_from, comes_from_afar, group_at, group_of, place_of, sender, sender_of}
use Rattle.law_picture.proofs.Came.{Came, IsHome, came}
use Rattle.law_picture.proofs.Standing.{comes}

away-here : (p r : ℕ) → r ≡ p → away p (Some r) ≡ None
away-here p r same = ap (λ b. cond b None (Some r)) (eq-eqb r p same)

away-there : (p r : ℕ) → r ≢ p → away p (Some r) ≡ Some r
away-there p r ne = ap (λ b. cond b None (Some r)) (ne_eqb r p ne)

-- who asks for members hears of them from another place
pub asking : (l : Layout) (p : ℕ) (d : Option Ui) → is_asking_place l p d ≡ true → (r : ℕ) × (group_at l d ≡ Some r) × (r ≢ p)
asking l p None h = absurd (false≢true h)
asking l p (Some g) h = go (group_place l g) h
  where
    go : (o : Option ℕ) → is_some o && not (is_number p o) ≡ true → (r : ℕ) × (o ≡ Some r) × (r ≢ p)
    go None k = absurd (false≢true k)
    go (Some r) k = (r, refl, eqb-false r p (not-true (r == p) k))

pub asked-group : (l : Layout) (p : ℕ) (o : Option Posted) → is_asked_from l p o ≡ true → (r : ℕ) × (group_of l o ≡ Some r) × (r ≢ p)
asked-group l p None h = absurd (false≢true h)
asked-group l p (Some m) h = asking l p (group_in m.dest) (and_parts (m.place == p) (is_asking_place l p (group_in m.dest)) h).1

-- What an entry about a message needs of how far the message is.

abbrev pub Follows : Layout → List Entry → ℕ → MsgId → Progress → Type 0
Follows l past p x Idle = IsUnknown x past ⊎ ((q : Ui) × (is_first x q (at p past) ≡ true))
Follows l past p x (Asked from d) = (g : Ui) × (group_in d ≡ Some g) × (is_choosing_place l g from p ≡ true)
Follows l past p x (Tried from q to hop) = to ≡ p
Follows l past p x (Decided from b q a) = from ≡ p
Follows l past p x (Settled a) = is_asked_from l p (post_of x past) ≡ true
Follows l past p x Reported = ⊥

module _ (l : Layout) (past : List Entry) (p s : ℕ) (x : MsgId) (legal : is_legal l past ≡ true) where
  f : MessageFacts x past
  f = legal_messages l past legal x

  by-stage-is : (z : Progress) → progress (about x past) ≡ z → Follows l past p x z → Follows l past p x (progress (about x past))
  by-stage-is z is h = subst (Follows l past p x) (sym is) h

  by-first : (q : Ui) → is_first x q (at p past) ≡ true → Follows l past p x (progress (about x past))
  by-first q first = by-stage-is Idle (first_is_idle x q p past f (first_here x q p past first)).0 (inr (q, first))

  by-due : (a : Act) (q : Ui) → is_decision a ≡ true → message_of a ≡ Some x → port_of a ≡ Some q → act_may l (views past p s a) p s a ≡ true → Follows l past p x (progress (about x past))
  by-due a q d this o h = go (decision_due l past p s a x q d this o h)
    where
      go : IsDue x q p past → Follows l past p x (progress (about x past))
      go (inl t) = by-stage-is (Tried t.from q p t.hop) t.is refl
      go (inr first) = by-first q first

  by-choice : (y : MsgId) (g : Ui) → Some y ≡ Some x → ChoiceNeeds l past p y g → Follows l past p x (progress (about x past))
  by-choice y g this n =
      by-stage-is (Asked n.from n.dest) (sym (ap (λ z. progress (about z past)) (some_is y x this)) ∙ n.asked) (g, n.group, n.place)

  unknown : (m : MsgId) → m ≡ x → m.seat ≡ s → m.number ≡ posts (by s past) + 1 → IsUnknown x past
  unknown m same seat number =
      let next : x.number ≡ posts (by x.seat past) + 1 =
      subst (λ (z : MsgId). z.number ≡ posts (by z.seat past) + 1) same (number ∙ ap (λ z. posts (by z past) + 1) (sym seat)) in
      f.fresh (omega (arith, next))

  heard : (a : Answer) (z : Progress) → progress (about x past) ≡ z → is_to_be_heard a z ≡ true → is_asked_from l p (post_of x past) ≡ true → Follows l past p x (progress (about x past))
  heard a (Settled b) is h asked = by-stage-is (Settled b) is asked
  heard a Idle is h asked = absurd (false≢true h)
  heard a (Asked g d) is h asked = absurd (false≢true h)
  heard a (Tried g q to hop) is h asked = absurd (false≢true h)
  heard a (Decided g b q r) is h asked = absurd (false≢true h)
  heard a Reported is h asked = absurd (false≢true h)

  pub follows : (a : Act) → message_of a ≡ Some x → act_may l (views past p s a) p s a ≡ true → Follows l past p x (progress (about x past))
  follows (Post k d) this h =
      let n = post_needs l past p s k d h in
      let new = unknown k.id (some_is k.id x this) n.seat n.number in
      by-stage-is Idle (ap progress new.about) (inl new)
  follows (Choose y g qs) this h = by-choice y g this (choose_needs l past p s y g qs h)
  follows (NoMember y g) this h = by-choice y g this (no_member_needs l past p s y g h)
  follows (Heard y a) this h =
      let two = and_parts (is_asked_from l p (post_of y past)) (is_to_be_heard a (progress (about y past))) h in
      let same = some_is y x this in
      heard a (progress (about x past)) refl (subst (λ z. is_to_be_heard a (progress (about z past)) ≡ true) same two.1)
      (subst (λ z. is_asked_from l p (post_of z past) ≡ true) same two.0)
  follows (Try y q to hop) this h =
      by-first q (subst (λ z. is_first z q (at p past) ≡ true) (some_is y x this) (first_try l past p s y q to hop h))
  follows (Told y a) this h =
      let n = told_needs l past p s y a h in
      by-stage-is (Decided p n.by n.port a) (sym (ap (λ z. progress (about z past)) (some_is y x this)) ∙ n.is) refl
  follows (Accept y q n) this h = by-due (Accept y q n) q refl this refl h
  follows (Full y q n) this h = by-due (Full y q n) q refl this refl h
  follows (Already y q) this h = by-due (Already y q) q refl this refl h
  follows (ClientsFull y q) this h = by-due (ClientsFull y q) q refl this refl h
  follows (Stale y q t to hop) this h = by-due (Stale y q t to hop) q refl this refl h
  follows (Early y q hop) this h = by-due (Early y q hop) q refl this refl h
  follows (NoPort y q) this h = by-due (NoPort y q) q refl this refl h
  follows (Elsewhere y q to hop) this h = by-due (Elsewhere y q to hop) q refl this refl h
  follows (Gone y q) this h = by-due (Gone y q) q refl this refl h
  follows a this h = none_some x this

-- The law.

afar-place : (e : Entry) (o : Option Row) → place_of (from_elsewhere e o) ≡ away e.place (place_of o)
afar-place e None = refl
afar-place e (Some r) = under place_of (r.place == e.place) None (Some r)

pub latest_none : (past : List Entry) → latest (is_about None) past ≡ None
latest_none [] = refl
latest_none (e ∷ past) = latest_none past

module _ (l : Layout) (past : List Entry) (e : Entry) (shape : IsLayout l) (legal : is_legal l (e ∷ past) ≡ true) where
  before : is_legal l past ≡ true
  before = (legal_parts l e past legal).1

  may : act_may l (views past e.place e.seat e.act) e.place e.seat e.act ≡ true
  may = (legal_parts l e past legal).0

  -- what waits was sent from here
  waits-here : (x : MsgId) (o : Option Row) → Follows l past e.place x Idle → (h : IsHome x past o) → h.row.place ≡ e.place
  waits-here x o (inl unknown) h = none_some h.message (sym (unknown.unsent h.row.place) ∙ h.sent)
  waits-here x o (inr (q, first)) h =
      let here = first_here x q e.place past first in
      (legal_messages l past before x).home h.row.place e.place h.message here.message h.sent here.is

  by-stage : (x : MsgId) (o : Option Row) (s : Progress) → Follows l past e.place x s → Came l x past s o → away e.place (place_of o) ≡ away e.place (sender l (post_of x past) s)
  by-stage x o Idle follow (inl none) = ap (λ r. away e.place (place_of r)) none
  by-stage x o Idle follow (inr h) = ap (λ r. away e.place (place_of r)) h.last ∙ away-here e.place h.row.place (waits-here x o follow h)
  by-stage x o (Asked from d) follow h = ap (λ r. away e.place (place_of r)) h.1 ∙ ap (λ r. away e.place (Some r)) h.2
  by-stage x o (Tried from q to hop) follow h = ap (λ r. away e.place (place_of r)) h.1 ∙ ap (λ r. away e.place (Some r)) h.2
  by-stage x o (Decided from b q a) follow h = ap (λ r. away e.place (place_of r)) h.1 ∙ ap (λ r. away e.place (Some r)) h.2
  by-stage x o (Settled a) follow h =
      let asked = asked-group l e.place (post_of x past) follow in
      ap (λ r. away e.place (place_of r)) h.last
      ∙ ap (λ r. away e.place (Some r)) (h.group asked.0 (ap (group_of l) (sym h.posted) ∙ asked.1))
      ∙ ap (away e.place) (sym asked.1)
  by-stage x o Reported follow h = absurd follow

  by-message : (o : Option MsgId) → message_of e.act ≡ o → away e.place (place_of (latest (is_about o) past)) ≡ away e.place (sender_of l past o)
  by-message None m = ap (λ r. away e.place (place_of r)) (latest_none past)
  by-message (Some x) m =
      by-stage x (latest (is_about (Some x)) past) (progress (about x past)) (follows l past e.place e.seat x before e.act m may) (came l past x before)

  by-act : (a : Act) → e.act ≡ a → place_of (from_elsewhere e (latest (goes_on a) past)) ≡ away e.place (came_from l past a)
  by-act (Arrive q hop) is =
      let come = comes l past e.place q hop shape before (subst (λ a. act_may l (views past e.place e.seat a) e.place e.seat a ≡ true) is may) in
      afar-place e (latest (is_on (Some q)) past) ∙ ap (away e.place) (come.last ∙ sym come.mover)
  by-act a is = afar-place e (latest (is_about (message_of a)) past) ∙ by-message (message_of a) (ap message_of is)

  pub arrow-is : place_of (caused_by past e) ≡ away e.place (came_from l past e.act)
  arrow-is = by-act e.act refl

  -- what comes from afar

  has : (a : Act) (p : ℕ) → e.act ≡ a → came_from l past a ≡ Some p → p ≢ e.place → is_some (caused_by past e) ≡ true
  has a p is from ne = go (caused_by past e) (arrow-is ∙ ap (λ z. away e.place (came_from l past z)) is ∙ ap (away e.place) from ∙ away-there e.place p ne)
    where
      go : (o : Option Row) → place_of o ≡ Some p → is_some o ≡ true
      go None h = none_some p h
      go (Some r) h = refl

  from-afar : (a : Act) → e.act ≡ a → comes_from_afar a ≡ true → is_some (caused_by past e) ≡ true
  from-afar (Told x answer) is afar =
      let told = to_be_told e.place answer (progress (about x past)) (may_as l past e (Told x answer) legal is) in
      let ways = subst (Passes l) told.2 (passes l past x shape before) in
      has (Told x answer) told.0 is (ap (sender l (post_of x past)) told.2) ways.2
  from-afar (Heard x answer) is afar =
      let two = and_parts (is_asked_from l e.place (post_of x past)) (is_to_be_heard answer (progress (about x past))) (may_as l past e (Heard x answer) legal is) in
      let asked = asked-group l e.place (post_of x past) two.0 in
      has (Heard x answer) asked.0 is (settled (progress (about x past)) two.1 ∙ asked.1) asked.2
    where
      settled : (s : Progress) → is_to_be_heard answer s ≡ true → sender l (post_of x past) s ≡ group_of l (post_of x past)
      settled (Settled b) h = refl
      settled Idle h = absurd (false≢true h)
      settled (Asked f d) h = absurd (false≢true h)
      settled (Tried f q to hop) h = absurd (false≢true h)
      settled (Decided f b q r) h = absurd (false≢true h)
      settled Reported h = absurd (false≢true h)
  from-afar (Arrive q hop) is afar =
      let come = comes l past e.place q hop shape before (subst (λ a. act_may l (views past e.place e.seat a) e.place e.seat a ≡ true) is may) in
      has (Arrive q hop) come.from is come.mover come.apart
  from-afar _ is afar = absurd (false≢true afar)

pub arrows_are_of_the_world : (l : Layout) (past : List Entry) (e : Entry) → IsLayout l → is_legal l (e ∷ past) ≡ true → ArrowsAreOfTheWorld l past e
arrows_are_of_the_world l past e shape legal = arrow-is l past e shape legal

pub what_comes_from_afar_has_one : (l : Layout) (past : List Entry) (e : Entry) → IsLayout l → is_legal l (e ∷ past) ≡ true → WhatComesFromAfarHasOne l past e
what_comes_from_afar_has_one l past e shape legal = from-afar l past e shape legal e.act refl
