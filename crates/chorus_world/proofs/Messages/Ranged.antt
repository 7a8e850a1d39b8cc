-- Facts of legal lists: what a message that is under way names is within its range: no hop and no position is above the clock of
-- the last entry about it, and each place is one of the layout.
use Rattle.std.proofs.Common.{ℕ, zero, suc, ◌≡◌, ◌≢◌, ◌<◌, ◌≤◌, ◌+◌, ◌*◌, ◌==◌, nat_le, nat_lt, Bool, true, false, ◌&&◌, not, cond, List, [], ◌∷◌, length, Option, Some, None, is_none, is_some, slice_get, refl, sym, ◌∙◌, ap, subst, inl, inr, ◌⊎◌, arith}
use Rattle.std.specs.List.{All}
use Rattle.std.proofs.lemmas.Bool.{eqb-true, eq-eqb, and_parts, and_from, or_cases, leb-true, le-leb, ltb-true, false≢true, cond_both}
use Rattle.std.proofs.lemmas.List.Elements.{All-head, All-tail}
use Rattle.chorus_ui.specs.declared.ui.Ui.{Ui}
use Rattle.chorus_ui.specs.Name.{same_ui}
use Rattle.chorus_ui.proofs.Names.{from_same_ui, same_ui-self}
use Rattle.chorus_ui.specs.declared.layout.Layout.{Layout}
use Rattle.chorus_ui.specs.Layout as layout
use Rattle.chorus_ui.specs.Layout.{IsLayout, has_site, has_place, can_make_port}
use Rattle.chorus_entry.specs.declared.entry.Entry.{Entry}
use Rattle.chorus_entry.specs.declared.id.MsgId.{MsgId}
use Rattle.chorus_entry.specs.declared.dest.Dest.TheVariants as D
use Rattle.chorus_entry.specs.declared.answer.Answer.{Answer}
use Rattle.chorus_entry.specs.declared.answer.Answer.TheVariants as A
use Rattle.chorus_entry.specs.declared.act.Act.{Act}
use Rattle.chorus_entry.specs.declared.act.Act.TheVariants.{Post, Accept, Full, Already, ClientsFull, Stale, Early, NoPort, Elsewhere, NoMember, Choose, Try, Told, Heard, Gone, Depart, Arrive}
use Rattle.chorus_entry.specs.Act.{message_of, held_port_of, port_of, is_decision}
use Rattle.chorus_entry.specs.MsgId.{same_id}
use Rattle.chorus_entry.proofs.Same.{from_same_id, same_id-self}
use Rattle.chorus_entry.specs.Answer.{is_final}
use Rattle.chorus_entry.specs.Ranges.{is_place_number, has_range_of_id, has_ranges_of_answer, is_told}
use Rattle.chorus_world.specs.declared.place.Location.{Location}
use Rattle.chorus_world.specs.declared.place.Sent.{Sent}
use Rattle.chorus_world.specs.declared.progress.Progress.{Progress}
use Rattle.chorus_world.specs.declared.progress.Progress.TheVariants.{Idle, Asked, Tried, Decided, Settled, Reported}
use Rattle.chorus_world.specs.declared.due.Due.{Due}
use Rattle.chorus_world.specs.declared.due.Due.TheVariants.{NotDue, ByTry, AtHome}
use Rattle.chorus_world.specs.Views.{Views, views, at, on, about, is_on, is_about}
use Rattle.chorus_entry.specs.Order.{is_at}
use Rattle.chorus_entry.specs.Same.{are_same}
use Rattle.chorus_world.specs.Messages.{progress, progress_after, decided, told, settled}
use Rattle.chorus_world.specs.Ports.{PortState, fate, is_held_at, is_coming, is_next_hop, is_full, has_room, waiting}
use Rattle.chorus_world.specs.Posts.{site_asked, is_on_site}
use Rattle.chorus_world.specs.Places.{last_clock, located, named_location, learned, farther, is_location, sent, taught, is_sent_to, find_sent, is_first}
use Rattle.chorus_world.specs.Groups.{choice}
use Rattle.chorus_world.specs.Steps.{act_may, is_legal, is_to_go, due, due_by_try, due_at_home, is_due_with, is_tried_with, is_early, suits, may_enter, is_elsewhere}
use Rattle.chorus_world.specs.LocationLaws.{path_of}
use Rattle.chorus_world.specs.Order.{IsCausal}
use Rattle.chorus_world.proofs.Steps.LegalLemmas.{legal_parts}
use Rattle.chorus_world.proofs.Ports.LineLemmas.{none_some, id_is}
use Rattle.chorus_world.proofs.Messages.SendingLemmas.{some_is, first_here}
use Rattle.chorus_world.proofs.Messages.StageLemmas.{MessageFacts, first_is_idle}
use Rattle.chorus_world.proofs.Messages.PostLemmas.{post_needs, choose_needs, no_member_needs}
use Rattle.chorus_world.proofs.Ports.PortMoves.{coming_fate}
use Rattle.chorus_world.proofs.Ports.PortLaws.{keeps_to_capacity}
use Rattle.chorus_world.proofs.Messages.DueLemmas.{IsDue}
use Rattle.chorus_world.proofs.Messages.VerdictLemmas.{decision_due}
use Rattle.chorus_world.proofs.Messages.MessageSteps.{locates, to_go_parts}
use Rattle.chorus_world.proofs.Messages.MessageInvariant.{told_needs, legal_messages}
use Rattle.chorus_world.proofs.Messages.SentFacts.{found-has}
use Rattle.chorus_world.proofs.Ports.Paths.{PathIn, path-in}
use Rattle.chorus_world.proofs.Messages.Ways.{Has, located-in}
use Rattle.chorus_world.proofs.Ports.MadePorts.{rising-le, rising-view, causal-older, clock-some, IsWellMade, MadeWell, made-well}
use Rattle.chorus_world.proofs.Groups.Members.{choose-names}
use Rattle.chorus_world.proofs.Messages.Ids.{range-of-id, choice-few, sent-ranged}

-- Places.

few-places : (t n p : ℕ) → 1 ≤ t → t ≤ 4 → t ≢ 3 → n ≤ 16 → p ≤ n * t → p ≤ 64
few-places zero n p a b c d e = absurd (omega arith)
few-places (suc zero) n p a b c d e = omega arith
few-places (suc (suc zero)) n p a b c d e = omega arith
few-places (suc (suc (suc zero))) n p a b c d e = absurd (c refl)
few-places (suc (suc (suc (suc zero)))) n p a b c d e = omega arith
few-places (suc (suc (suc (suc (suc t))))) n p a b c d e = absurd (omega arith)

pub place-number : (l : Layout) (p : ℕ) → IsLayout l → has_place l p ≡ true → is_place_number p ≡ true
place-number l p shape h =
    let two = and_parts (nat_le 1 p) (nat_le p (layout.places l)) h in
    let most = leb-true p (layout.places l) two.1 in
    and_from (nat_le 1 p) (nat_le p 64) two.0 (le-leb p 64 (few-places l.turns l.sites p shape.turns_from_one shape.turns_to_four shape.turns_not_three shape.sites_to_max most))

-- where a port is located by a hop from 1 on it was made, and departed there
pub located-made : (l : Layout) (past : List Entry) (p : ℕ) (q : Ui) → IsLayout l → is_legal l past ≡ true → IsCausal past → 1 ≤ (located l q (at p past)).hop → (can_make_port l q ≡ true) × Has l (located l q (at p past)).to
located-made l past p q shape legal causal some =
    go (fate (on q past)) (made-well l past q shape legal causal) (path-in l past q shape legal) (locates l past p q shape legal)
  where
    get-all : (xs : List ℕ) (i z : ℕ) → All (Has l) xs → slice_get xs i ≡ Some z → Has l z
    get-all [] i z h e = absurd (cc)
    get-all (x ∷ xs) zero z h e = (let same : x ≡ z = cc in subst (Has l) same (All-head (Has l) x xs h))
    get-all (x ∷ xs) (suc i) z h e = get-all xs i z (All-tail (Has l) x xs h) e

    past-end : (x : ℕ) (i z : ℕ) → 1 ≤ i → slice_get (x ∷ []) i ≡ Some z → ⊥
    past-end x zero z le e = omega (arith, le)
    past-end x (suc i) z le e = cc

    go : (o : Option PortState) → MadeWell l q o (on q past) → PathIn l q o → slice_get (path_of l q o) (located l q (at p past)).hop ≡ Some (located l q (at p past)).to → (can_make_port l q ≡ true) × Has l (located l q (at p past)).to
    go None m h e = absurd (past-end (named_location l q).to (located l q (at p past)).hop (located l q (at p past)).to some e)
    go (Some f) m h e = (m.listed, get-all f.path (located l q (at p past)).hop (located l q (at p past)).to h.0 e)

-- Answers.

-- the places that an answer names are in the layout
abbrev pub NamesPlaces : Layout → Answer → Type 0
NamesPlaces l (A.Stale to hop) = has_place l to ≡ true
NamesPlaces l (A.Elsewhere to hop) = has_place l to ≡ true
NamesPlaces l _ = Unit {0}

-- what an answer teaches is of a port that was made, and by a hop from 1 on
abbrev pub Teaches : Layout → Ui → Answer → Type 0
Teaches l q (A.Stale to hop) = (can_make_port l q ≡ true) × (1 ≤ hop)
Teaches l q (A.Elsewhere to hop) = (can_make_port l q ≡ true) × (1 ≤ hop)
Teaches l q _ = Unit {0}

pub record AnswerFits (l : Layout) (clock : ℕ) (a : Answer) : Type 0 where
  pub ranges : has_ranges_of_answer clock a ≡ true
  pub places : NamesPlaces l a

hop-later : (c d hop : ℕ) → c ≤ d → nat_le hop c ≡ true → nat_le hop d ≡ true
hop-later c d hop le h = (let less = leb-true hop c h in le-leb hop d (omega (arith, le, less)))

ranges-later : (c d : ℕ) (a : Answer) → c ≤ d → has_ranges_of_answer c a ≡ true → has_ranges_of_answer d a ≡ true
ranges-later c d (A.Accepted pos) le h = hop-later c d pos le h
ranges-later c d (A.Stale to hop) le h =
    let two = and_parts (is_place_number to) (nat_le hop c) h in and_from (is_place_number to) (nat_le hop d) two.0 (hop-later c d hop le two.1)
ranges-later c d (A.Early hop) le h = hop-later c d hop le h
ranges-later c d (A.Elsewhere to hop) le h =
    let two = and_parts (is_place_number to) (nat_le hop c) h in and_from (is_place_number to) (nat_le hop d) two.0 (hop-later c d hop le two.1)
ranges-later c d (A.Full len) le h = h
ranges-later c d A.NoPort le h = h
ranges-later c d A.Already le h = h
ranges-later c d A.ClientsFull le h = h
ranges-later c d A.NoMember le h = h
ranges-later c d (A.Chosen n) le h = h
ranges-later c d A.Gone le h = h

later-fits : (l : Layout) (c d : ℕ) (a : Answer) → c ≤ d → AnswerFits l c a → AnswerFits l d a
later-fits l c d a le f = record { ranges = ranges-later c d a le f.ranges; places = f.places }

-- Messages, by their progress, and the clock of the last entry about them.
abbrev pub ProgressFits : Layout → MsgId → ℕ → Progress → Type 0
ProgressFits l x c Idle = Unit {0}
ProgressFits l x c (Asked from d) = has_range_of_id x ≡ true
ProgressFits l x c (Tried from q hop_to hop) = (has_range_of_id x ≡ true) × (hop ≤ c) × (has_site l q.site ≡ true)
ProgressFits l x c (Decided from by q a) = (has_range_of_id x ≡ true) × AnswerFits l c a × (is_told a ≡ true) × Teaches l q a
ProgressFits l x c (Settled a) = (has_range_of_id x ≡ true) × AnswerFits l c a × (is_final a ≡ true)
ProgressFits l x c Reported = Unit {0}

pub record AllFit (l : Layout) (past : List Entry) : Type 0 where
  pub hops : (p : ℕ) (q : Ui) → (located l q (at p past)).hop ≤ last_clock (at p past)
  pub messages : (x : MsgId) → ProgressFits l x (last_clock (about x past)) (progress (about x past))

settled-fits : (l : Layout) (x : MsgId) (c : ℕ) (a : Answer) → has_range_of_id x ≡ true → AnswerFits l c a → ProgressFits l x c (settled a)
settled-fits l x c a i f = cond_both (is_final a) (Settled a) Idle (ProgressFits l x c) (λ final. (i, f, final)) (λ _. tt)

farther-hop : (l : Location) (o : Option Location) (n : ℕ) → l.hop ≤ n → ((m : Location) → o ≡ Some m → m.hop ≤ n) → (farther l o).hop ≤ n
farther-hop l None n a k = a
farther-hop l (Some m) n a k = cond_both (nat_lt l.hop m.hop) m l (λ z. z.hop ≤ n) (λ _. k m refl) (λ _. a)

-- what is due with a test: by its try, or at home with the hop by which the port is located
due-by : (l : Layout) (past : List Entry) (v : Views) (p : ℕ) (x : MsgId) (q : Ui) (test : ℕ → Bool) → v.message ≡ about x past → v.here ≡ at p past → is_due_with test (due l v p x q) ≡ true
    → ((from : ℕ) × (h : ℕ) × (progress (about x past) ≡ Tried from q p h) × (test h ≡ true)) ⊎ (test (located l q (at p past)).hop ≡ true)
due-by l past v p x q test m w h =
    elim (go (progress v.message) refl h) [
      | inl t ↦ inl (t.0, t.1, ap progress (sym m) ∙ t.2, t.3)
      | inr t ↦ inr (ap (λ es. test (located l q es).hop) (sym w) ∙ t)
    ]
  where
    home : is_due_with test (due_at_home l v p x q) ≡ true → test (located l q v.here).hop ≡ true
    home k = by (is_to_go l v x q p && suits l v p x) k
      where
        by : (b : Bool) → is_due_with test (cond b (AtHome (located l q v.here).hop) NotDue) ≡ true → test (located l q v.here).hop ≡ true
        by true z = z
        by false z = absurd (false≢true z)

    go : (z : Progress) → progress v.message ≡ z → is_due_with test (due_by_try p q z (due_at_home l v p x q)) ≡ true → ((from : ℕ) × (h : ℕ) × (progress v.message ≡ Tried from q p h) × (test h ≡ true)) ⊎ (test (located l q v.here).hop ≡ true)
    go (Tried from r to hop) e k = by ((to == p) && same_ui r q) refl k
      where
        by : (b : Bool) → ((to == p) && same_ui r q) ≡ b → is_due_with test (cond b (ByTry hop) (due_at_home l v p x q)) ≡ true → ((from : ℕ) × (h : ℕ) × (progress v.message ≡ Tried from q p h) × (test h ≡ true)) ⊎ (test (located l q v.here).hop ≡ true)
        by true t z =
            let two = and_parts (to == p) (same_ui r q) t in
            let there : to ≡ p = eqb-true to p two.0 in
            let port : r ≡ q = from_same_ui r q two.1 in
            inl (from, hop, e ∙ (λ i. Tried from (port i) (there i) hop), z)
        by false t z = inr (home z)
    go Idle e k = inr (home k)
    go (Asked from d) e k = inr (home k)
    go (Decided from b r a) e k = inr (home k)
    go (Settled a) e k = inr (home k)
    go Reported e k = inr (home k)

found-id : (x : MsgId) (ms : List Sent) (m : Sent) → find_sent x ms ≡ Some m → m.id ≡ x
found-id x [] m h = absurd (let bad : None ≡ Some m = h in cc)
found-id x (k ∷ ms) m h = go (same_id k.id x) refl h (found-id x ms m)
  where
    go : (b : Bool) → same_id k.id x ≡ b → cond b (Some k) (find_sent x ms) ≡ Some m → (find_sent x ms ≡ Some m → m.id ≡ x) → m.id ≡ x
    go true e f ih = (let same : k ≡ m = cc in ap (λ (z : Sent). z.id) (sym same) ∙ from_same_id k.id x e)
    go false e f ih = ih f

not-not : (b : Bool) → not b ≡ false → b ≡ true
not-not true k = refl
not-not false k = absurd (false≢true (sym k))

-- tried by a hop below this one
tried-some : (hop : ℕ) (d : Due) → is_tried_with (λ h. nat_lt h hop) d ≡ true → 1 ≤ hop
tried-some hop (ByTry h) k = (let lt = ltb-true h hop k in omega (arith, lt))
tried-some hop NotDue k = absurd (false≢true k)
tried-some hop (AtHome h) k = absurd (false≢true k)

-- One more entry.
module _ (l : Layout) (past : List Entry) (e : Entry) (shape : IsLayout l) (legal : is_legal l (e ∷ past) ≡ true) (causal : IsCausal (e ∷ past)) (old : AllFit l past) where
  before : is_legal l past ≡ true
  before = (legal_parts l e past legal).1

  older : IsCausal past
  older = causal-older e past causal

  here-lt : last_clock (at e.place past) < e.clock
  here-lt = (clock-some l past e legal).1

  -- the port that the entry needs held, comes or goes
  line-le : (q : Ui) (f : PortState) → held_port_of e.act ≡ Some q → fate (on q past) ≡ Some f → length f.accepted + length f.path ≤ e.clock
  line-le q f port is =
      let on_line : is_on (Some q) e ≡ true = ap (are_same same_ui (Some q)) port ∙ same_ui-self q in
      let le = rising-le e (on q past) (rising-view (is_on (Some q)) e past on_line (causal.ports q)) in
      let made : IsWellMade l q f (on q past) = subst (λ o. MadeWell l q o (on q past)) is (made-well l past q shape before older) in
      let less = made.clock in
      omega (arith, le, less)

  located-le : (q : Ui) → (located l q (at e.place past)).hop ≤ e.clock
  located-le q = (let le = old.hops e.place q in let lt = here-lt in omega (arith, le, lt))

  -- a location by a hop from 1 on fits in an answer
  stale-fits : (q : Ui) (to hop : ℕ) → is_location to hop (located l q (at e.place past)) ≡ true → 1 ≤ hop → AnswerFits l e.clock (A.Stale to hop) × AnswerFits l e.clock (A.Elsewhere to hop) × Teaches l q (A.Stale to hop)
  stale-fits q to hop h some =
      let at_it = located l q (at e.place past) in
      let two = and_parts (at_it.to == to) (at_it.hop == hop) h in
      let to_is : at_it.to ≡ to = eqb-true at_it.to to two.0 in
      let hop_is : at_it.hop ≡ hop = eqb-true at_it.hop hop two.1 in
      let le = located-le q in
      let made = located-made l past e.place q shape before older (omega (arith, hop_is, some)) in
      let has : has_place l to ≡ true = ap (has_place l) (sym to_is) ∙ made.1 in
      let ranges : is_place_number to && nat_le hop e.clock ≡ true = and_from (is_place_number to) (nat_le hop e.clock) (place-number l to shape has) (le-leb hop e.clock (omega (arith, le, hop_is))) in (
        record { ranges = ranges; places = has },
        record { ranges = ranges; places = has },
        (made.0, some),
      )

  module _ (x : MsgId) (about_x : is_about (Some x) e ≡ true) where
    facts : MessageFacts x past
    facts = legal_messages l past before x

    about-le : last_clock (about x past) ≤ e.clock
    about-le = rising-le e (about x past) (rising-view (is_about (Some x)) e past about_x (causal.messages x))

    -- who waits first was sent
    first-id : (q : Ui) → is_first x q (at e.place past) ≡ true → has_range_of_id x ≡ true
    first-id q first =
        let f = first_here x q e.place past first in
        let ranged = found-has (λ (m : Sent). has_range_of_id m.id ≡ true) x (sent (at e.place past)) f.message (sent-ranged l past e.place before) f.is in
        subst (λ z. has_range_of_id z ≡ true) (found-id x (sent (at e.place past)) f.message f.is) ranged

    decides : (a : Act) (q : Ui) (answer : Answer) → ((z : Progress) → progress_after e.place a z ≡ decided e.place q answer z) → IsDue x q e.place past → AnswerFits l e.clock answer → is_told answer ≡ true
        → ((from h : ℕ) → progress (about x past) ≡ Tried from q e.place h → Teaches l q answer) → ProgressFits l x e.clock (progress_after e.place a (progress (about x past)))
    decides a q answer gives (inl t) fits can_tell teaches =
        let now : progress_after e.place a (progress (about x past)) ≡ Decided t.from e.place q answer =
        gives (progress (about x past)) ∙ ap (decided e.place q answer) t.is
        ∙ ap (λ b. cond b (Decided t.from e.place q answer) Idle) (and_from (e.place == e.place) (same_ui q q) (eq-eqb e.place e.place refl) (same_ui-self q)) in
        let was : ProgressFits l x (last_clock (about x past)) (Tried t.from q e.place t.hop) = subst (ProgressFits l x (last_clock (about x past))) t.is (old.messages x) in
        subst (ProgressFits l x e.clock) (sym now) (was.0, fits, can_tell, teaches t.from t.hop t.is)
    decides a q answer gives (inr first) fits can_tell teaches =
        let idle = (first_is_idle x q e.place past facts (first_here x q e.place past first)).0 in
        let now : progress_after e.place a (progress (about x past)) ≡ settled answer = gives (progress (about x past)) ∙ ap (decided e.place q answer) idle in
        subst (ProgressFits l x e.clock) (sym now) (settled-fits l x e.clock answer (first-id q first) fits)

    plain : (a : Act) (q : Ui) (answer : Answer) → ((z : Progress) → progress_after e.place a z ≡ decided e.place q answer z) → IsDue x q e.place past → has_ranges_of_answer e.clock answer ≡ true → NamesPlaces l answer → is_told answer ≡ true → Teaches l q answer → ProgressFits l x e.clock (progress_after e.place a (progress (about x past)))
    plain a q answer gives due ranges places can_tell teaches = decides a q answer gives due (record { ranges = ranges; places = places }) can_tell (λ from h t. teaches)

    room-is : (n : ℕ) (o : Option PortState) → has_room n o ≡ true → (f : PortState) × (o ≡ Some f) × (n ≡ length f.accepted)
    room-is n None h = absurd (false≢true h)
    room-is n (Some f) h = (f, refl, eqb-true n (length f.accepted) (and_parts (nat_lt (waiting f) f.capacity) (n == length f.accepted) h).1)

    full-is : (n : ℕ) (o : Option PortState) → is_full n o ≡ true → (f : PortState) × (o ≡ Some f) × (n ≡ f.capacity)
    full-is n None h = absurd (false≢true h)
    full-is n (Some f) h =
        let two = and_parts (waiting f == f.capacity) (n == waiting f) h in
        (f, refl, eqb-true n (waiting f) two.1 ∙ eqb-true (waiting f) f.capacity two.0)

    early-le : (q : Ui) (hop h : ℕ) → h ≤ e.clock → is_early e.place hop (located l q (at e.place past)) h ≡ true → hop ≤ e.clock
    early-le q hop h le k =
        let at_it = located l q (at e.place past) in
        elim (or_cases (is_location e.place hop at_it && nat_lt h hop) (nat_le at_it.hop h && (hop == h) && nat_lt 0 h) k) [
          | inl a ↦ (
              let b = (and_parts (is_location e.place hop at_it) (nat_lt h hop) a).0 in
              let c : at_it.hop ≡ hop = eqb-true at_it.hop hop (and_parts (at_it.to == e.place) (at_it.hop == hop) b).1 in
              let d = located-le q in
              omega (arith, c, d))
          | inr a ↦ (
              let b = (and_parts (nat_le at_it.hop h && (hop == h)) (nat_lt 0 h) a).0 in
              let c : hop ≡ h = eqb-true hop h (and_parts (nat_le at_it.hop h) (hop == h) b).1 in
              omega (arith, c, le))
        ]

    abbrev is_may : Act → Type 0
    is_may a = act_may l (views past e.place e.seat a) e.place e.seat a ≡ true

    due-now : (a : Act) (q : Ui) → is_decision a ≡ true → message_of a ≡ Some x → port_of a ≡ Some q → is_may a → IsDue x q e.place past
    due-now a q d m o h = decision_due l past e.place e.seat a x q d m o h

    message-fits : (a : Act) → e.act ≡ a → is_may a → message_of a ≡ Some x → ProgressFits l x e.clock (progress_after e.place a (progress (about x past)))
    message-fits (Post m (D.Port q)) is h this = tt
    message-fits (Post m (D.All g)) is h this =
        let n = post_needs l past e.place e.seat m (D.All g) h in
        let number = n.number in
        let copy = n.copy in
        subst (λ z. has_range_of_id z ≡ true) (some_is m.id x this) (range-of-id m.id (omega (arith, number)) (omega (arith, copy)))
    message-fits (Post m (D.One g)) is h this =
        let n = post_needs l past e.place e.seat m (D.One g) h in
        let number = n.number in
        let copy = n.copy in
        subst (λ z. has_range_of_id z ≡ true) (some_is m.id x this) (range-of-id m.id (omega (arith, number)) (omega (arith, copy)))
    message-fits (Post m (D.OneAt g s)) is h this =
        let n = post_needs l past e.place e.seat m (D.OneAt g s) h in
        let number = n.number in
        let copy = n.copy in
        subst (λ z. has_range_of_id z ≡ true) (some_is m.id x this) (range-of-id m.id (omega (arith, number)) (omega (arith, copy)))
    message-fits (Choose y g qs) is h this =
        let n = choose_needs l past e.place e.seat y g qs h in
        let same : y ≡ x = some_is y x this in
        let was : has_range_of_id x ≡ true = subst (λ z. has_range_of_id z ≡ true) same (subst (ProgressFits l y (last_clock (about y past))) n.asked (old.messages y)) in
        let c = choose-names l past e.place e.seat y g qs h in
        let few = choice-few l past e.place c.0 before in
        let long : length qs ≡ length (choice l c.0 (at e.place past)) = ap length c.2 in
        let v = views past e.place e.seat (Choose y g qs) in
        let some = ltb-true 0 (length qs) (and_parts _ (nat_lt 0 (length qs)) (and_parts _ _ h).0).1 in
        (was, record { ranges = and_from (nat_le 1 (length qs)) (nat_le (length qs) 32) (le-leb 1 (length qs) (omega (arith, some))) (le-leb (length qs) 32 (omega (arith, few, long))); places = tt }, refl)
    message-fits (NoMember y g) is h this =
        let n = no_member_needs l past e.place e.seat y g h in
        let same : y ≡ x = some_is y x this in
        let was : has_range_of_id x ≡ true = subst (λ z. has_range_of_id z ≡ true) same (subst (ProgressFits l y (last_clock (about y past))) n.asked (old.messages y)) in
        (was, record { ranges = refl; places = tt }, refl)
    message-fits (Heard y a) is h this = tt
    message-fits (Try y q to hop) is h this =
        let same : y ≡ x = some_is y x this in
        let three = and_parts _ (is_on_site l (site_asked y past) to) h in
        let two = and_parts _ (not (to == e.place)) three.0 in
        let one = and_parts (is_to_go l (views past e.place e.seat (Try y q to hop)) y q to) ((located l q (at e.place past)).hop == hop) two.0 in
        let go = to_go_parts l past e.place e.seat (Try y q to hop) y q to one.0 in
        let hop_is : (located l q (at e.place past)).hop ≡ hop = eqb-true (located l q (at e.place past)).hop hop one.1 in
        let le = located-le q in
        (first-id q (subst (λ z. is_first z q (at e.place past) ≡ true) same go.0), omega (arith, hop_is, le), not-not (has_site l q.site) go.1)
    message-fits (Told y a) is h this =
        let same : y ≡ x = some_is y x this in
        let n = told_needs l past e.place e.seat x a (subst (λ z. act_may l (views past e.place e.seat (Told z a)) e.place e.seat (Told z a) ≡ true) same h) in
        let was : ProgressFits l x (last_clock (about x past)) (Decided e.place n.by n.port a) = subst (ProgressFits l x (last_clock (about x past))) n.is (old.messages x) in
        subst (λ z. ProgressFits l x e.clock (told a z)) (sym n.is) (settled-fits l x e.clock a was.0 (later-fits l (last_clock (about x past)) e.clock a about-le was.1))
    message-fits (Accept y q n) is h this =
        let v = views past e.place e.seat (Accept y q n) in
        let room = room-is n (fate (on q past)) (and_parts (may_enter l v e.place y q) (has_room n (fate (on q past))) h).1 in
        let le = line-le q room.0 (ap held_port_of is) room.1 in
        let pos = room.2 in
        plain (Accept y q n) q (A.Accepted n) (λ z. refl) (due-now (Accept y q n) q refl this refl h) (le-leb n e.clock (omega (arith, le, pos))) tt refl tt
    message-fits (Full y q n) is h this =
        let v = views past e.place e.seat (Full y q n) in
        let full = full-is n (fate (on q past)) (and_parts (may_enter l v e.place y q) (is_full n (fate (on q past))) h).1 in
        let cap = keeps_to_capacity l past shape before q full.0 full.1 in
        let low = cap.2 in
        let high = cap.3 in
        let len = full.2 in
        plain (Full y q n) q (A.Full n) (λ z. refl) (due-now (Full y q n) q refl this refl h) (and_from (nat_le 1 n) (nat_le n 64) (le-leb 1 n (omega (arith, low, len))) (le-leb n 64 (omega (arith, high, len)))) tt refl tt
    message-fits (Already y q) is h this = plain (Already y q) q A.Already (λ z. refl) (due-now (Already y q) q refl this refl h) refl tt refl tt
    message-fits (ClientsFull y q) is h this = plain (ClientsFull y q) q A.ClientsFull (λ z. refl) (due-now (ClientsFull y q) q refl this refl h) refl tt refl tt
    message-fits (NoPort y q) is h this = plain (NoPort y q) q A.NoPort (λ z. refl) (due-now (NoPort y q) q refl this refl h) refl tt refl tt
    message-fits (Gone y q) is h this = plain (Gone y q) q A.Gone (λ z. refl) (due-now (Gone y q) q refl this refl h) refl tt refl tt
    message-fits (Stale y q tried to hop) is h this =
        let v = views past e.place e.seat (Stale y q tried to hop) in
        let five = and_parts _ (is_none (site_asked y past)) h in
        let four = and_parts _ (not (to == e.place)) five.0 in
        let three = and_parts _ (nat_lt tried hop) four.0 in
        let two = and_parts _ (is_location to hop (located l q (at e.place past))) three.0 in
        let lt = ltb-true tried hop three.1 in
        let f = stale-fits q to hop two.1 (omega (arith, lt)) in
        decides (Stale y q tried to hop) q (A.Stale to hop) (λ z. refl) (due-now (Stale y q tried to hop) q refl this refl h) f.0 refl (λ from k t. f.2)
    message-fits (Early y q hop) is h this =
        let v = views past e.place e.seat (Early y q hop) in
        let same : y ≡ x = some_is y x this in
        let test = is_early e.place hop (located l q (at e.place past)) in
        let k = (and_parts (is_due_with test (due l v e.place y q)) (is_coming e.place hop (fate (on q past))) h).0 in
        let by = due-by l past v e.place y q test refl refl k in
        let le : hop ≤ e.clock = early same by in
        plain (Early y q hop) q (A.Early hop) (λ z. refl) (due-now (Early y q hop) q refl this refl h) (le-leb hop e.clock le) tt refl tt
      where
        early : y ≡ x → ((from : ℕ) × (k : ℕ) × (progress (about y past) ≡ Tried from q e.place k) × (is_early e.place hop (located l q (at e.place past)) k ≡ true)) ⊎ (is_early e.place hop (located l q (at e.place past)) (located l q (at e.place past)).hop ≡ true) → hop ≤ e.clock
        early same (inl t) =
            let is_tried : progress (about x past) ≡ Tried t.0 q e.place t.1 = ap (λ z. progress (about z past)) (sym same) ∙ t.2 in
            let was : ProgressFits l x (last_clock (about x past)) (Tried t.0 q e.place t.1) = subst (ProgressFits l x (last_clock (about x past))) is_tried (old.messages x) in
            let a = was.1 in
            let b = about-le in
            early-le q hop t.1 (omega (arith, a, b)) t.3
        early same (inr t) = early-le q hop (located l q (at e.place past)).hop (located-le q) t
    message-fits (Elsewhere y q to hop) is h this =
        let v = views past e.place e.seat (Elsewhere y q to hop) in
        let same : y ≡ x = some_is y x this in
        let two = and_parts (is_some (site_asked y past) && is_location to hop (located l q (at e.place past))) (is_elsewhere l v e.place y q to hop) h in
        let there = (and_parts (is_some (site_asked y past)) (is_location to hop (located l q (at e.place past))) two.0).1 in
        let due_x = due-now (Elsewhere y q to hop) q refl this refl h in
        elim (or_cases (is_to_go l v y q to && not (is_on_site l (site_asked y past) to)) (is_tried_with (λ k. nat_lt k hop) (due l v e.place y q) && not (is_held_at e.place (fate (on q past))) && not (to == e.place)) two.1) [
          | inl a ↦ (
              let go = to_go_parts l past e.place e.seat (Elsewhere y q to hop) y q to (and_parts (is_to_go l v y q to) (not (is_on_site l (site_asked y past) to)) a).0 in
              let site : has_site l q.site ≡ true = not-not (has_site l q.site) go.1 in
              let has : has_place l to ≡ true = ap (has_place l) (sym go.2) ∙ located-in l past e.place q shape before site in
              let hop_is : (located l q (at e.place past)).hop ≡ hop = eqb-true (located l q (at e.place past)).hop hop (and_parts ((located l q (at e.place past)).to == to) ((located l q (at e.place past)).hop == hop) there).1 in
              let le = located-le q in
              let first : is_first x q (at e.place past) ≡ true = subst (λ z. is_first z q (at e.place past) ≡ true) same go.0 in
              let idle = (first_is_idle x q e.place past facts (first_here x q e.place past first)).0 in
              decides (Elsewhere y q to hop) q (A.Elsewhere to hop) (λ z. refl) due_x
              (record { ranges = and_from (is_place_number to) (nat_le hop e.clock) (place-number l to shape has) (le-leb hop e.clock (omega (arith, le, hop_is))); places = has }) refl
              (λ from k t. absurd (let bad : Idle ≡ Tried from q e.place k = sym idle ∙ t in cc)))
          | inr a ↦ (
              let b = (and_parts (is_tried_with (λ k. nat_lt k hop) (due l v e.place y q)) (not (is_held_at e.place (fate (on q past)))) (and_parts (is_tried_with (λ k. nat_lt k hop) (due l v e.place y q) && not (is_held_at e.place (fate (on q past)))) (not (to == e.place)) a).0).0 in
              let some = tried-some hop (due l v e.place y q) b in
              let f = stale-fits q to hop there some in
              decides (Elsewhere y q to hop) q (A.Elsewhere to hop) (λ z. refl) due_x f.1 refl (λ from k t. f.2))
        ]
    message-fits a is h this = none_some x this

  -- what the place learns
  next-hop : (hop : ℕ) (o : Option PortState) → is_next_hop hop o ≡ true → (f : PortState) × (o ≡ Some f) × (hop ≡ length f.path)
  next-hop hop None h = absurd (false≢true h)
  next-hop hop (Some f) h = (f, refl, eqb-true hop (length f.path) h)

  told-hop : (c : ℕ) (a : Answer) (m : Location) → has_ranges_of_answer c a ≡ true → taught a ≡ Some m → m.hop ≤ c
  told-hop c (A.Stale to hop) m r h =
      let same : record { to = to; hop = hop } ≡ m = cc in
      let le = leb-true hop c (and_parts (is_place_number to) (nat_le hop c) r).1 in
      subst (λ (z : Location). z.hop ≤ c) same le
  told-hop c (A.Elsewhere to hop) m r h =
      let same : record { to = to; hop = hop } ≡ m = cc in
      let le = leb-true hop c (and_parts (is_place_number to) (nat_le hop c) r).1 in
      subst (λ (z : Location). z.hop ≤ c) same le
  told-hop c (A.Accepted n) m r h = absurd (cc)
  told-hop c (A.Full n) m r h = absurd (cc)
  told-hop c (A.Early n) m r h = absurd (cc)
  told-hop c A.NoPort m r h = absurd (cc)
  told-hop c A.Already m r h = absurd (cc)
  told-hop c A.ClientsFull m r h = absurd (cc)
  told-hop c A.NoMember m r h = absurd (cc)
  told-hop c (A.Chosen n) m r h = absurd (cc)
  told-hop c A.Gone m r h = absurd (cc)

  some-lesson : (b : Bool) (o : Option Location) (m : Location) → cond b o None ≡ Some m → o ≡ Some m
  some-lesson true o m h = h
  some-lesson false o m h = absurd (cc)

  lesson-le : (a : Act) (q : Ui) (m : Location) → e.act ≡ a → act_may l (views past e.place e.seat a) e.place e.seat a ≡ true → learned q e.place (at e.place past) a ≡ Some m → m.hop ≤ e.clock
  lesson-le (Arrive r hop) q m is h k =
      let c = coming_fate e.place hop (fate (on r past)) h in
      let le = line-le r c.0 (ap held_port_of is) c.2 in
      let hop_is = c.5 in
      let same : record { to = e.place; hop = hop } ≡ m = (let some = some-lesson (same_ui r q) (Some (let z : Location = record { to = e.place; hop = hop } in z)) m k in cc) in
      subst (λ (z : Location). z.hop ≤ e.clock) same (omega (arith, le, hop_is))
  lesson-le (Depart r to a hop) q m is h k =
      let four = and_parts _ (is_next_hop hop (fate (on r past))) h in
      let f = next-hop hop (fate (on r past)) four.1 in
      let le = line-le r f.0 (ap held_port_of is) f.1 in
      let hop_is = f.2 in
      let same : record { to = to; hop = hop } ≡ m = (let some = some-lesson (same_ui r q) (Some (let z : Location = record { to = to; hop = hop } in z)) m k in cc) in
      subst (λ (z : Location). z.hop ≤ e.clock) same (omega (arith, le, hop_is))
  lesson-le (Told x a) q m is h k =
      let n = told_needs l past e.place e.seat x a h in
      let was : ProgressFits l x (last_clock (about x past)) (Decided e.place n.by n.port a) = subst (ProgressFits l x (last_clock (about x past))) n.is (old.messages x) in
      let about_x : is_about (Some x) e ≡ true = ap (λ z. are_same same_id (Some x) (message_of z)) is ∙ same_id-self x in
      let le = about-le x about_x in
      let less = told-hop (last_clock (about x past)) a m (was.1).ranges (some-lesson (is_sent_to q (find_sent x (sent (at e.place past)))) (taught a) m k) in
      omega (arith, le, less)
  lesson-le a q m is h k = absurd (cc)

  hops-fit : (p : ℕ) (q : Ui) → (located l q (at p (e ∷ past))).hop ≤ last_clock (at p (e ∷ past))
  hops-fit p q = go (is_at p e) refl
    where
      go : (b : Bool) → is_at p e ≡ b → (located l q (cond b (e ∷ at p past) (at p past))).hop ≤ last_clock (cond b (e ∷ at p past) (at p past))
      go false t = old.hops p q
      go true t =
          let here : e.place ≡ p = eqb-true e.place p t in
          subst (λ z. (farther (located l q (at z past)) (learned q e.place (at z past) e.act)).hop ≤ e.clock) here
          (farther-hop (located l q (at e.place past)) (learned q e.place (at e.place past) e.act) e.clock (located-le q) (λ m k. lesson-le e.act q m refl (legal_parts l e past legal).0 k))

  pub fit-more : AllFit l (e ∷ past)
  fit-more = record { hops = hops-fit; messages = λ x. go x (is_about (Some x) e) refl }
    where
      go : (x : MsgId) (b : Bool) → is_about (Some x) e ≡ b → ProgressFits l x (last_clock (cond b (e ∷ about x past) (about x past))) (progress (cond b (e ∷ about x past) (about x past)))
      go x true t = message-fits x t e.act refl (legal_parts l e past legal).0 (id_is x (message_of e.act) t)
      go x false t = old.messages x

pub all-fit : (l : Layout) (past : List Entry) → IsLayout l → is_legal l past ≡ true → IsCausal past → AllFit l past
all-fit l [] shape h c = record { hops = λ p q. omega arith; messages = λ x. tt }
all-fit l (e ∷ past) shape h c = fit-more l past e shape h c (all-fit l past shape (legal_parts l e past h).1 (causal-older e past c))

-- what is due at a place has an id within its range
pub due-ranged : (l : Layout) (past : List Entry) (p : ℕ) (x : MsgId) (q : Ui) → is_legal l past ≡ true → AllFit l past → IsDue x q p past → has_range_of_id x ≡ true
due-ranged l past p x q legal fit (inl t) = (subst (ProgressFits l x (last_clock (about x past))) t.is (fit.messages x)).0
due-ranged l past p x q legal fit (inr first) =
    let f = first_here x q p past first in
    let ranged = found-has (λ (m : Sent). has_range_of_id m.id ≡ true) x (sent (at p past)) f.message (sent-ranged l past p legal) f.is in
    subst (λ z. has_range_of_id z ≡ true) (found-id x (sent (at p past)) f.message f.is) ranged
