-- Takes put no packets and work none off; so where nothing was left before them, nothing is left behind them.
-- l is a layout, p the number of a place, q a port, t a turn of a place, k and s are seats.
use mathlib.Core.Logic.{dite}
use native.Mathlib.Decide.{ℕ_discrete}
use Rattle.std.proofs.Common.{ℕ, zero, suc, ◌≡◌, ◌≢◌, ◌+◌, ◌-◌, ◌<◌, ◌≤◌, ◌==◌, ◌&&◌, inl, inr, Bool, true, false, cond, if◌then◌else◌, List, [], ◌∷◌, ◌++◌, append-nil, append_assoc, length, map, Option, Some, None, slice_get, refl, sym, ◌∙◌, ap, subst, arith}
use Rattle.std.specs.List.{All, filter}
use Rattle.std.proofs.lemmas.Bool.{eqb-true, eq-eqb, false≢true, cases_lt}
use Rattle.std.proofs.lemmas.List.{append_cancel_left}
use Rattle.std.proofs.lemmas.List.Elements.{All-nil, All-cons, All-head, All-tail, All-weaker, All-filter, filter-append, filter_passes}
use Rattle.chorus_ui.specs.declared.ui.Ui.{Ui}
use Rattle.chorus_ui.specs.declared.layout.Layout.{Layout}
use Rattle.chorus_ui.specs.Layout.{IsLayout, places}
use Rattle.chorus_entry.specs.declared.id.MsgId.{MsgId}
use Rattle.chorus_entry.specs.declared.tag.Tag.{Tag}
use Rattle.chorus_entry.specs.declared.message.Message.{Message}
use Rattle.chorus_entry.specs.declared.act.Act.{Act}
use Rattle.chorus_entry.specs.declared.command.Command.{Command}
use Rattle.chorus_entry.specs.declared.packet.Packet.{Packet}
use Rattle.chorus_calls.specs.Callers.{Seated, with_client}
use Rattle.chorus_calls.specs.Clients.{is_outstanding, after_cancel}
use Rattle.chorus_ports.specs.declared.taking.Taken.{Taken}
use Rattle.chorus_ports.specs.declared.taking.Taken.TheVariants as takes
use Rattle.chorus_ports.specs.Table.{find}
use Rattle.chorus_ports.specs.Taking.{taken}
use Rattle.law_machine.specs.PlaceState.{PlaceState, Turn, started, say, note, unchanged}
use Rattle.law_machine.specs.PlaceMachine.{begun}
use Rattle.law_machine.specs.Doing.{does, takes as takes_message, ends, first_message}
use Rattle.law_machine.specs.Own.{take_act}
use Rattle.law_history.specs.declared.turns.Input.{Input}
use Rattle.law_history.specs.Turns as T
use Rattle.law_history.specs.Network.{Network}
use Rattle.law_history.specs.Histories.{Takes, IsTurn}
use Rattle.law_history.specs.PlaceTurns.{as_sent, machine, turn}
use Rattle.law_history.specs.Counts.{total, put_count, got_count, packets_in}
use Rattle.law_history.specs.Journals.{PlaceTurn, Comer, AreHistories}
use Rattle.law_history.specs.Places.{all_put, all_got}
use Rattle.law_history.proofs.Left.{counts-tell}
use Rattle.law_closing.specs.Places.{PlaceNote}
use Rattle.law_closing.specs.Remarks.{turns_at, turn_of, begins, turns_in}
use Rattle.law_closing.specs.Closing.{IsPlace, Tells}
use Rattle.chorus_turn.specs.declared.knowledge.Note.{Note}
use Rattle.chorus_turn.specs.declared.knowledge.Remarked.{Remarked}
use Rattle.chorus_turn.specs.declared.knowledge.Knowledge.{Knowledge}
use Rattle.chorus_turn.specs.Journals.{at_place, by_seat}
use Rattle.chorus_turn.specs.Knowing.{Shows, seen_at}
use Rattle.law_emptied.specs.Crewed.{port_on}
use Rattle.law_crews.specs.Crewed.{AreTakers, IsSettledAt}
use Rattle.chorus_nucleus.proofs.Posted.{turns-append}

-- A take puts no packet.

ends-none : (tag : Tag) (t : Turn) → (ends tag t).puts ≡ t.puts
ends-none Tag.Plain t = refl
ends-none (Tag.Request n back) t = refl
ends-none (Tag.Reply client number) t = go ((client == t.caller.seat) && is_outstanding number t.caller.client)
  where
    go : (b : Bool) → (if b then say (Act.Done number) (record (unchanged t) { caller = with_client t.caller (after_cancel t.caller.client) }) t else note (Act.Late number) t).puts ≡ t.puts
    go true = append-nil t.puts
    go false = append-nil t.puts

takes-none : (q : Ui) (position : ℕ) (x : MsgId) (o : Option Message) (t : Turn) → (takes_message q position x o t).puts ≡ t.puts
takes-none q position x None t = append-nil t.puts
takes-none q position x (Some m) t = ends-none m.tag _ ∙ append-nil t.puts

take-none : (q : Ui) (x : Taken) (t : Turn) → (does (take_act q x) t).puts ≡ t.puts
take-none q (takes.Message position m) t = takes-none q position m.id (first_message (find q t.place.ports)) t
take-none q takes.Empty t = append-nil t.puts
take-none q takes.NotHere t = append-nil t.puts

silent-take : (q : Ui) (s : PlaceState) (w : Seated) → (turn (Input.Command (Command.Take q)) s w).puts ≡ []
silent-take q s w = ap (map as_sent) (take-none q (taken w.actor (find q s.ports)) (begun s w))

-- the turn puts nothing and takes no packet
pub record IsSilent (t : PlaceTurn) : Type 0 where
  pub puts : t.puts ≡ []
  pub takes_none : packets_in t.input ≡ 0

abbrev pub IsTake : PlaceTurn → Type 0
IsTake t = (q : Ui) × (t.input ≡ Input.Command (Command.Take q))

abbrev Happens : Layout → ℕ → PlaceTurn → Type 0
Happens l p t = (x : PlaceState) × IsTurn (machine l) p x t

take-silent : (l : Layout) (p : ℕ) (t : PlaceTurn) → Happens l p t → IsTake t → IsSilent t
take-silent l p t h i = record {
  puts = h.1.puts ∙ ap (λ z. (turn z h.0 t.before).puts) i.1 ∙ silent-take i.0 h.0 t.before;
  takes_none = ap packets_in i.1;
}

all-happen : (l : Layout) (p : ℕ) (x y : PlaceState) (ts : List PlaceTurn) → Takes (machine l) p x ts y → All (Happens l p) ts
all-happen l p x y [] h = All-nil (Happens l p)
all-happen l p x y (t ∷ ts) h = All-cons (Happens l p) t ts (x, h.0) (all-happen l p (turn t.input x t.before).place y ts h.1)

silent-counts : (ts : List PlaceTurn) → All IsSilent ts → (put_count ts ≡ 0) × (got_count ts ≡ 0)
silent-counts [] a = (refl, refl)
silent-counts (t ∷ ts) a =
    let here = All-head IsSilent t ts a in
    let rest = silent-counts ts (All-tail IsSilent t ts a) in
    let none = ap length here.puts in
    let got = here.takes_none in
    (omega (arith, none, rest.0), omega (arith, got, rest.1))

put-append : (xs ys : List PlaceTurn) → put_count (xs ++ ys) ≡ put_count xs + put_count ys
put-append [] ys = omega arith
put-append (x ∷ xs) ys = let ih = put-append xs ys in omega (arith, ih)

got-append : (xs ys : List PlaceTurn) → got_count (xs ++ ys) ≡ got_count xs + got_count ys
got-append [] ys = omega arith
got-append (x ∷ xs) ys = let ih = got-append xs ys in omega (arith, ih)

total-same : (m : ℕ) (f g : ℕ → ℕ) → ((k : ℕ) → k < m → f k ≡ g k) → total m f ≡ total m g
total-same zero f g h = refl
total-same (suc m) f g h = let ih = total-same m f g (λ k lt. h k (omega (arith, lt))) in let here = h m (omega arith) in omega (arith, ih, here)

-- The turns of the seats that took.

takers-take : (l : Layout) (clock s : ℕ) (notes : List (Note PlaceNote)) (seats : ℕ → List PlaceTurn) → AreTakers l clock s notes → All (λ (m : Note PlaceNote). seats m.seat ≡ turns_in m.mine) notes
    → (k : ℕ) → s ≤ k → k < s + length notes → All IsTake (seats k)
takers-take l clock s [] seats a noted k low high = absurd (omega (arith, low, high))
takers-take l clock s (m ∷ notes) seats a noted k low high =
    let here = All-head (λ (z : Note PlaceNote). seats z.seat ≡ turns_in z.mine) m notes noted in
    dite (ℕ_discrete k s)
    (λ same. subst (All IsTake) (sym (ap seats (same ∙ sym a.0) ∙ here)) (All-weaker (λ (t : PlaceTurn). t.input ≡ Input.Command (Command.Take (port_on s))) IsTake (λ t is. (port_on s, is)) (turns_in m.mine) a.1.turns))
    (λ apart. takers-take l clock (s + 1) notes seats a.3 (All-tail (λ (z : Note PlaceNote). seats z.seat ≡ turns_in z.mine) m notes noted) k (omega (arith, low, apart)) (omega (arith, high)))

-- of turns by seat: those of other seats than 0 take
abbrev IsOtherTake : PlaceTurn → Type 0
IsOtherTake t = t.seat ≢ 0 → IsTake t

pub all-from : {X : Type 0} (P : X → Type 0) (key : X → ℕ) (xs : List X) → ((k : ℕ) → All P (filter (λ x. key x == k) xs)) → All P xs
all-from P key [] h = All-nil P
all-from {X = X} P key (x ∷ xs) h = All-cons P x xs (here (h (key x))) (all-from P key xs (λ k. rest (filter (λ y. key y == k) xs) (key x == k) (h k)))
  where
    here : All P (cond (key x == key x) (x ∷ filter (λ y. key y == key x) xs) (filter (λ y. key y == key x) xs)) → P x
    here a = All-head P x (filter (λ y. key y == key x) xs) (subst (λ b. All P (cond b (x ∷ filter (λ y. key y == key x) xs) (filter (λ y. key y == key x) xs))) (eq-eqb (key x) (key x) refl) a)

    rest : (ys : List X) (b : Bool) → All P (cond b (x ∷ ys) ys) → All P ys
    rest ys true a = All-tail P x ys a
    rest ys false a = a

pub all-two : {X : Type 0} (P Q R : X → Type 0) (xs : List X) → ((x : X) → P x → Q x → R x) → All P xs → All Q xs → All R xs
all-two P Q R [] f a b = All-nil R
all-two P Q R (x ∷ xs) f a b = All-cons R x xs (f x (All-head P x xs a) (All-head Q x xs b)) (all-two P Q R xs f (All-tail P x xs a) (All-tail Q x xs b))

all-right : {X : Type 0} (P : X → Type 0) (xs ys : List X) → All P (xs ++ ys) → All P ys
all-right P [] ys a = a
all-right P (x ∷ xs) ys a = all-right P xs ys (All-tail P x (xs ++ ys) a)

-- no turn of seat 0 began in these entries
not-first : (p : ℕ) (rs : List (Remarked PlaceNote)) → by_seat 0 rs ≡ [] → All (λ (t : PlaceTurn). t.seat ≢ 0) (turns_at p rs)
not-first p [] h = All-nil (λ (t : PlaceTurn). t.seat ≢ 0)
not-first p (r ∷ rs) h = go (r.entry.seat == 0) refl h (not-first p rs)
  where
    more : (b : Bool) → r.entry.seat ≢ 0 → All (λ (t : PlaceTurn). t.seat ≢ 0) (turns_at p rs) → All (λ (t : PlaceTurn). t.seat ≢ 0) (map (turn_of p) (cond b (r ∷ filter begins rs) (filter begins rs)))
    more true apart a = All-cons (λ (t : PlaceTurn). t.seat ≢ 0) (turn_of p r) (turns_at p rs) apart a
    more false apart a = a

    go : (b : Bool) → (r.entry.seat == 0) ≡ b → cond b (r ∷ by_seat 0 rs) (by_seat 0 rs) ≡ [] → (by_seat 0 rs ≡ [] → All (λ (t : PlaceTurn). t.seat ≢ 0) (turns_at p rs)) → All (λ (t : PlaceTurn). t.seat ≢ 0) (turns_at p (r ∷ rs))
    go true t k ih = absurd (cc)
    go false t k ih = more (begins r) (λ e. false≢true (sym t ∙ eq-eqb r.entry.seat 0 e)) (ih k)

pub beyond : (xs : List Comer) (k : ℕ) → length xs ≤ k → slice_get xs k ≡ None
beyond [] k le = refl
beyond (x ∷ xs) zero le = absurd (omega (arith, le))
beyond (x ∷ xs) (suc k) le = beyond xs k (omega (arith, le))

module _ (l : Layout) (v b : Knowledge PlaceNote) (comers : List Comer) (log : ℕ → List (Remarked PlaceNote)) (of_places of_seats : ℕ → List PlaceTurn) (closing : Network PlaceState Seated Packet) (clock : ℕ) (histories : AreHistories l comers of_places of_seats closing)
    (made : (p : ℕ) → IsPlace (places l) p → of_places p ≡ turns_at p (log p)) (tells : Tells (places l) log v) (noted : All (λ (m : Note PlaceNote). of_seats m.seat ≡ turns_in m.mine) v.notes) (count : length comers ≡ length v.notes + 1)
    (seat : v.seat ≡ 0) (takers : AreTakers l clock 1 v.notes) (settled : IsSettledAt l b v) where
  others-take : (k : ℕ) → k ≢ 0 → All IsTake (of_seats k)
  others-take k some = elim (cases_lt k (1 + length v.notes)) [
    | inl lt ↦ takers-take l clock 1 v.notes of_seats takers noted k (omega (arith, some)) lt
    | inr le ↦ subst (All IsTake) (sym (histories.no_caller k (beyond comers k (omega (arith, count, le))))) (All-nil IsTake)
  ]

  at-place : (p : ℕ) → All IsOtherTake (of_places p)
  at-place p = all-from IsOtherTake (λ (t : PlaceTurn). t.seat) (of_places p) (λ k. subst (All IsOtherTake) (sym (histories.histories.shared p k)) (of-seat k))
    where
      of-seat : (k : ℕ) → All IsOtherTake (filter (T.is_at p) (of_seats k))
      of-seat k =
          dite (ℕ_discrete k 0)
          (λ none. subst (All IsOtherTake) (histories.histories.shared p k)
          (All-weaker (λ (t : PlaceTurn). T.is_by k t ≡ true) IsOtherTake (λ t is some. absurd (some (eqb-true t.seat k is ∙ none))) (filter (T.is_by k) (of_places p)) (filter_passes (T.is_by k) (of_places p))))
          (λ some. All-weaker IsTake IsOtherTake (λ t is apart. is) (filter (T.is_at p) (of_seats k)) (All-filter (T.is_at p) IsTake (of_seats k) (others-take k some)))

  abbrev IsOtherSilent : PlaceTurn → Type 0
  IsOtherSilent t = t.seat ≢ 0 → IsSilent t

  silent-at : (p : ℕ) → All IsOtherSilent (of_places p)
  silent-at p =
      all-two (Happens l p) IsOtherTake IsOtherSilent (of_places p) (λ t h i apart. take-silent l p t h (i apart))
      (all-happen l p (started l p) (closing.places p) (of_places p) (histories.histories.takes p)) (at-place p)

  -- what stands at the place behind what seat 0 saw
  record Behind (p : ℕ) : Type 0 where
    rest : List (Remarked PlaceNote)
    is : log p ≡ seen_at p b ++ rest
    none : by_seat 0 rest ≡ []

  behind : (p : ℕ) → IsPlace (places l) p → Behind p
  behind p at =
      let e : (p - 1) + 1 ≡ p = omega (arith, at.0) in
      let shows = subst (λ z. Shows z v (log z)) e (tells.shows (p - 1) (omega (arith, at.0, at.1))) in
      let first = settled.more p in
      let second = shows.begins in
      let is : log p ≡ seen_at p b ++ (first.0 ++ second.0) = second.1 ∙ ap (λ zs. zs ++ second.0) first.1 ∙ append_assoc (seen_at p b) first.0 second.0 in
      let own : by_seat 0 (log p) ≡ at_place p v.mine = ap (λ k. by_seat k (log p)) (sym seat) ∙ shows.own in
      let was : by_seat 0 (seen_at p b) ≡ at_place p v.mine = ap (λ k. by_seat k (seen_at p b)) (sym settled.seat) ∙ (settled.seen p at).own ∙ ap (at_place p) settled.mine in
      record {
        rest = first.0 ++ second.0;
        is = is;
        none = append_cancel_left (by_seat 0 (seen_at p b)) (by_seat 0 (first.0 ++ second.0)) []
            (sym (filter-append (λ (r : Remarked PlaceNote). r.entry.seat == 0) (seen_at p b) (first.0 ++ second.0)) ∙ ap (by_seat 0) (sym is) ∙ own ∙ sym was ∙ sym (append-nil (by_seat 0 (seen_at p b))));
      }

  same-counts : (p : ℕ) → IsPlace (places l) p → (put_count (of_places p) ≡ put_count (turns_at p (seen_at p b))) × (got_count (of_places p) ≡ got_count (turns_at p (seen_at p b)))
  same-counts p at =
      let h = behind p at in
      let xs = turns_at p (seen_at p b) in
      let ys = turns_at p h.rest in
      let split : of_places p ≡ xs ++ ys = made p at ∙ ap (turns_at p) h.is ∙ turns-append p (seen_at p b) h.rest in
      let quiet : All IsSilent ys = all-two IsOtherSilent (λ (t : PlaceTurn). t.seat ≢ 0) IsSilent ys (λ t f apart. f apart) (all-right IsOtherSilent xs ys (subst (All IsOtherSilent) split (silent-at p))) (not-first p h.rest h.none) in
      let none = silent-counts ys quiet in
      let put = ap put_count split ∙ put-append xs ys in
      let got = ap got_count split ∙ got-append xs ys in
      (omega (arith, put, none.0), omega (arith, got, none.1))

  pub even-all : all_put l of_places ≡ all_got l of_places
  even-all =
      total-same (places l) (λ k. put_count (of_places (k + 1))) (λ k. put_count (turns_at (k + 1) (seen_at (k + 1) b))) (λ k lt. (same-counts (k + 1) (omega arith, omega (arith, lt))).0)
      ∙ settled.even
      ∙ sym (total-same (places l) (λ k. got_count (of_places (k + 1))) (λ k. got_count (turns_at (k + 1) (seen_at (k + 1) b))) (λ k lt. (same-counts (k + 1) (omega arith, omega (arith, lt))).1))

  pub no-links : IsLayout l → (x y : ℕ) → closing.links x y ≡ []
  no-links shape = (counts-tell l comers of_places of_seats closing shape histories).even even-all
