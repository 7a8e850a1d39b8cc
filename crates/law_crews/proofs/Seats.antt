-- The positions at which one seat takes from a port.
-- s is a seat, q a port, n, m and k are positions, t is the next position. A past has its newest entry first.
use mathlib.Core.Logic.{dite}
use native.Mathlib.Decide.{ℕ_discrete}
use Rattle.std.proofs.Common.{ℕ, ◌≡◌, ◌≢◌, ◌+◌, ◌<◌, inl, inr, Bool, true, false, cond, List, [], ◌∷◌, ◌++◌, length, length-append, Some, refl, sym, ◌∙◌, ap, subst, arith}
use Rattle.std.specs.List.{All}
use Rattle.std.proofs.lemmas.Bool.{eq-eqb, true≢false}
use Rattle.std.proofs.lemmas.List.Elements.{All-nil, All-cons, All-head, All-tail, All-weaker, All-push}
use Rattle.chorus_ui.specs.declared.ui.Ui.{Ui}
use Rattle.chorus_ui.specs.declared.layout.Layout.{Layout}
use Rattle.chorus_ui.specs.Layout.{IsLayout}
use Rattle.chorus_entry.specs.declared.entry.Entry.{Entry}
use Rattle.chorus_entry.specs.declared.id.MsgId.{MsgId}
use Rattle.chorus_entry.specs.declared.act.Act.{Act}
use Rattle.chorus_entry.specs.Act.{held_port_of}
use Rattle.chorus_world.specs.Views.{on, by, is_on, is_by}
use Rattle.chorus_world.specs.Steps.{is_legal}
use Rattle.chorus_world.proofs.Steps.LegalLemmas.{legal_parts, on_is, keeps, skips}
use Rattle.chorus_world.proofs.Messages.SendingLemmas.{some_is}
use Rattle.law_crews.specs.Positions.{TookOther, IsRising, OthersBetween, OthersBetweenFrom, CountsFrom, AreInARow, NoneTakesBetween, TakesInOrder, LegalTakesOfASeat, positions, positions_after}
use Rattle.law_crews.proofs.Positions.{next-taken}

-- Lists of positions.

pub rising-push : (ns : List ℕ) (k : ℕ) → IsRising ns → All (λ (n : ℕ). n < k) ns → IsRising (ns ++ k ∷ [])
rising-push [] k r a = (All-nil (λ n. k < n), tt)
rising-push (n ∷ ns) k r a =
    (All-push (λ m. n < m) ns k r.0 (All-head (λ m. m < k) n ns a), rising-push ns k r.1 (All-tail (λ m. m < k) n ns a))

pub rising-front : (ns ms : List ℕ) → IsRising (ns ++ ms) → IsRising ns
rising-front [] ms r = tt
rising-front (n ∷ ns) ms r = (all-front (λ m. n < m) ns ms r.0, rising-front ns ms r.1)
  where
    all-front : (P : ℕ → Type 0) (xs ys : List ℕ) → All P (xs ++ ys) → All P xs
    all-front P [] ys a = All-nil P
    all-front P (x ∷ xs) ys a = All-cons P x xs (All-head P x (xs ++ ys) a) (all-front P xs ys (All-tail P x (xs ++ ys) a))

module _ (past : List Entry) (s : ℕ) (q : Ui) where
  abbrev Others : ℕ → ℕ → Type 0
  Others n m = (k : ℕ) → n < k → k < m → TookOther past s q k

  pub between-front : (n : ℕ) (ns ms : List ℕ) → OthersBetweenFrom past s q n (ns ++ ms) → OthersBetweenFrom past s q n ns
  between-front n [] ms b = tt
  between-front n (m ∷ ns) ms b = (b.0, between-front m ns ms b.1)

  -- where no other seat takes between, there is no gap
  counts-on : (n : ℕ) (ns : List ℕ) → IsRising (n ∷ ns) → OthersBetweenFrom past s q n ns → ((k : ℕ) → TookOther past s q k → (n < k) → All (λ (m : ℕ). m < k) ns) → CountsFrom (n + 1) ns
  counts-on n [] r b none = tt
  counts-on n (m ∷ ns) r b none =
      let lt : n < m = All-head (λ k. n < k) m ns r.0 in
      let is : m ≡ n + 1 = dite (ℕ_discrete m (n + 1)) (λ same. same) (λ apart.
      let low : n < n + 1 = omega arith in
      let high : n + 1 < m = omega (arith, lt, apart) in
      let past-it = All-head (λ k. k < n + 1) m ns (none (n + 1) (b.0 (n + 1) low high) low) in
      absurd (omega (arith, lt, past-it))) in
      (is, subst (λ z. CountsFrom (z + 1) ns) is (counts-on m ns r.1 b.1 (λ k other above. All-tail (λ j. j < k) m ns (none k other (omega (arith, lt, above))))))

  in-row : (ns : List ℕ) → IsRising ns → OthersBetween past s q ns → NoneTakesBetween past s q ns → AreInARow ns
  in-row [] r b none = tt
  in-row (n ∷ ns) r b none =
      counts-on n ns r b (λ k other above. elim (none k other) [
        | inl before ↦ absurd (let low = All-head (λ m. k < m) n ns before in omega (arith, above, low))
        | inr behind ↦ All-tail (λ m. m < k) n ns behind
      ])

  pub in-order : (ns : List ℕ) → IsRising ns → OthersBetween past s q ns → TakesInOrder past s q ns
  in-order ns r b = record { rising = r; between = b; in_a_row = in-row ns r b }

  pub in-order-front : (ns ms : List ℕ) → TakesInOrder past s q (ns ++ ms) → TakesInOrder past s q ns
  in-order-front [] ms t = in-order [] tt tt
  in-order-front (n ∷ ns) ms t = in-order (n ∷ ns) (rising-front (n ∷ ns) ms t.rising) (between-front n ns ms t.between)

  -- the same up to the next position, t
  abbrev ToNext : List ℕ → ℕ → Type 0
  ToNext [] t = Unit {0}
  ToNext (n ∷ ns) t = OthersBetweenFrom past s q n (ns ++ t ∷ [])

  push-own : (n : ℕ) (ns : List ℕ) (t : ℕ) → OthersBetweenFrom past s q n (ns ++ t ∷ []) → OthersBetweenFrom past s q n ((ns ++ t ∷ []) ++ (t + 1) ∷ [])
  push-own n [] t b = (b.0, (λ k low high. absurd (omega (arith, low, high)), tt))
  push-own n (m ∷ ns) t b = (b.0, push-own m ns t b.1)

  own-next : (ns : List ℕ) (t : ℕ) → ToNext ns t → ToNext (ns ++ t ∷ []) (t + 1)
  own-next [] t b = (λ k low high. absurd (omega (arith, low, high)), tt)
  own-next (n ∷ ns) t b = push-own n ns t b

  push-other : (n : ℕ) (ns : List ℕ) (t : ℕ) → TookOther past s q t → OthersBetweenFrom past s q n (ns ++ t ∷ []) → OthersBetweenFrom past s q n (ns ++ (t + 1) ∷ [])
  push-other n [] t other b =
      (λ k low high. dite (ℕ_discrete k t) (λ same. subst (TookOther past s q) (sym same) other) (λ apart. b.0 k low (omega (arith, high, apart))), tt)
  push-other n (m ∷ ns) t other b = (b.0, push-other m ns t other b.1)

  other-next : (ns : List ℕ) (t : ℕ) → TookOther past s q t → ToNext ns t → ToNext ns (t + 1)
  other-next [] t other b = tt
  other-next (n ∷ ns) t other b = push-other n ns t other b

  from-next : (n : ℕ) (ns : List ℕ) (t : ℕ) → OthersBetweenFrom past s q n (ns ++ t ∷ []) → OthersBetweenFrom past s q n ns
  from-next n ns t b = between-front n ns (t ∷ []) b

  pub to-between : (ns : List ℕ) (t : ℕ) → ToNext ns t → OthersBetween past s q ns
  to-between [] t b = tt
  to-between (n ∷ ns) t b = from-next n ns t b

-- what was taken stays taken
other-later : (e : Entry) (past : List Entry) (s : ℕ) (q : Ui) (k : ℕ) → TookOther past s q k → TookOther (e ∷ past) s q k
other-later e past s q k o = record {
  entry = o.entry;
  id = o.id;
  stands = record { newer = e ∷ o.stands.newer; older = o.stands.older; is = ap (λ zs. e ∷ zs) o.stands.is };
  act = o.act;
  other = o.other;
}

from-later : (e : Entry) (past : List Entry) (s : ℕ) (q : Ui) (n : ℕ) (ns : List ℕ) → OthersBetweenFrom past s q n ns → OthersBetweenFrom (e ∷ past) s q n ns
from-later e past s q n [] b = tt
from-later e past s q n (m ∷ ns) b = (λ k low high. other-later e past s q k (b.0 k low high), from-later e past s q m ns b.1)

next-later : (e : Entry) (past : List Entry) (s : ℕ) (q : Ui) (ns : List ℕ) (t : ℕ) → ToNext past s q ns t → ToNext (e ∷ past) s q ns t
next-later e past s q [] t b = tt
next-later e past s q (n ∷ ns) t b = from-later e past s q n (ns ++ t ∷ []) b

-- What the newest entry does, by whether the seat made it, and whether it stands on the line of the port.

record Keeps (past : List Entry) (s : ℕ) (q : Ui) (ns : List ℕ) (t : ℕ) : Type 0 where
  rising : IsRising ns
  upto : All (λ (n : ℕ). n < t) ns
  next : ToNext past s q ns t

-- the next position of the port
abbrev next_of : Ui → List Entry → ℕ
next_of q past = length (positions (on q past))

raised : (ns : List ℕ) (t : ℕ) → All (λ (n : ℕ). n < t) ns → All (λ (n : ℕ). n < t + 1) ns
raised ns t a = All-weaker (λ n. n < t) (λ n. n < t + 1) (λ n lt. let le : n < t = lt in omega (arith, le)) ns a

keeps-own : (e : Entry) (past : List Entry) (s : ℕ) (q : Ui) (ns : List ℕ) (t : ℕ) → Keeps past s q ns t → Keeps (e ∷ past) s q (ns ++ t ∷ []) (t + 1)
keeps-own e past s q ns t k = record {
  rising = rising-push ns t k.rising k.upto;
  upto = All-push (λ n. n < t + 1) ns t (raised ns t k.upto) (let lt : t < t + 1 = omega arith in lt);
  next = next-later e past s q (ns ++ t ∷ []) (t + 1) (own-next past s q ns t k.next);
}

keeps-other : (e : Entry) (past : List Entry) (s : ℕ) (q : Ui) (ns : List ℕ) (t : ℕ) → TookOther (e ∷ past) s q t → Keeps past s q ns t → Keeps (e ∷ past) s q ns (t + 1)
keeps-other e past s q ns t other k = record {
  rising = k.rising;
  upto = raised ns t k.upto;
  next = other-next (e ∷ past) s q ns t other (next-later e past s q ns t k.next);
}

keeps-none : (e : Entry) (past : List Entry) (s : ℕ) (q : Ui) (ns : List ℕ) (t : ℕ) → Keeps past s q ns t → Keeps (e ∷ past) s q ns t
keeps-none e past s q ns t k = record { rising = k.rising; upto = k.upto; next = next-later e past s q ns t k.next }

-- where the entry is a take of the port, it is one at the position t
abbrev TakesAt : Act → Ui → ℕ → Type 0
TakesAt (Act.Take r n x) q t = (r ≡ q) → n ≡ t
TakesAt _ q t = Unit {0}

other-here : (e : Entry) (past : List Entry) (s : ℕ) (q : Ui) (n : ℕ) (x : MsgId) → e.act ≡ Act.Take q n x → is_by s e ≡ false → TookOther (e ∷ past) s q n
other-here e past s q n x act apart = record {
  entry = e;
  id = x;
  stands = record { newer = []; older = past; is = refl };
  act = act;
  other = λ same. true≢false (sym (eq-eqb e.seat s same) ∙ apart);
}

one-longer : (ps : List ℕ) (n : ℕ) → length ps + 1 ≡ length (ps ++ n ∷ [])
one-longer ps n = sym (length-append ps (n ∷ []))

-- an entry on the line of the port
step-on : (e : Entry) (past : List Entry) (s : ℕ) (q : Ui) (ns ps : List ℕ) (a : Act) → e.act ≡ a → held_port_of a ≡ Some q → TakesAt a q (length ps) → (mine : Bool) → is_by s e ≡ mine → Keeps past s q ns (length ps)
    → Keeps (e ∷ past) s q (cond mine (positions_after a ns) ns) (length (positions_after a ps))
step-on e past s q ns ps (Act.Take r n x) act line takes true own k =
    let same : r ≡ q = some_is r q line in
    let at : n ≡ length ps = takes same in
    subst (λ t. Keeps (e ∷ past) s q (ns ++ n ∷ []) t) (one-longer ps n)
    (subst (λ m. Keeps (e ∷ past) s q (ns ++ m ∷ []) (length ps + 1)) (sym at) (keeps-own e past s q ns (length ps) k))
step-on e past s q ns ps (Act.Take r n x) act line takes false own k =
    let same : r ≡ q = some_is r q line in
    let at : n ≡ length ps = takes same in
    let is : e.act ≡ Act.Take q (length ps) x = act ∙ ap (λ z. Act.Take z n x) same ∙ ap (λ m. Act.Take q m x) at in
    subst (λ t. Keeps (e ∷ past) s q ns t) (one-longer ps n) (keeps-other e past s q ns (length ps) (other-here e past s q (length ps) x is own) k)
step-on e past s q ns ps a act line takes true own k = keeps-none e past s q ns (length ps) k
step-on e past s q ns ps a act line takes false own k = keeps-none e past s q ns (length ps) k

step : (e : Entry) (past : List Entry) (s : ℕ) (q : Ui) (mine on_line : Bool) → is_by s e ≡ mine → is_on (Some q) e ≡ on_line → TakesAt e.act q (next_of q past) → Keeps past s q (positions (on q (by s past))) (next_of q past)
    → Keeps (e ∷ past) s q (positions (on q (cond mine (e ∷ by s past) (by s past)))) (length (positions (cond on_line (e ∷ on q past) (on q past))))
step e past s q false false own line takes k = keeps-none e past s q (positions (on q (by s past))) (next_of q past) k
step e past s q true false own line takes k =
    subst (λ (es : List Entry). Keeps (e ∷ past) s q (positions es) (next_of q past)) (sym (skips (is_on (Some q)) e (by s past) line))
    (keeps-none e past s q (positions (on q (by s past))) (next_of q past) k)
step e past s q false true own line takes k =
    step-on e past s q (positions (on q (by s past))) (positions (on q past)) e.act refl (on_is q (held_port_of e.act) line) takes false own k
step e past s q true true own line takes k =
    subst (λ (es : List Entry). Keeps (e ∷ past) s q (positions es) (length (positions (e ∷ on q past)))) (sym (keeps (is_on (Some q)) e (by s past) line))
    (step-on e past s q (positions (on q (by s past))) (positions (on q past)) e.act refl (on_is q (held_port_of e.act) line) takes true own k)

takes-at : (l : Layout) (past : List Entry) (e : Entry) (q : Ui) → IsLayout l → is_legal l (e ∷ past) ≡ true → (a : Act) → e.act ≡ a → TakesAt a q (next_of q past)
takes-at l past e q shape h (Act.Take r n x) act = λ same. next-taken l past e q n x shape h (act ∙ ap (λ z. Act.Take z n x) same)
takes-at l past e q shape h a act = tt

seat-keeps : (l : Layout) (past : List Entry) (s : ℕ) (q : Ui) → IsLayout l → is_legal l past ≡ true → Keeps past s q (positions (on q (by s past))) (next_of q past)
seat-keeps l [] s q shape h = record { rising = tt; upto = All-nil (λ n. n < 0); next = tt }
seat-keeps l (e ∷ past) s q shape h =
    step e past s q (is_by s e) (is_on (Some q) e) refl refl (takes-at l past e q shape h e.act refl) (seat-keeps l past s q shape (legal_parts l e past h).1)

pub legal-takes-of-a-seat : LegalTakesOfASeat
legal-takes-of-a-seat l past s q shape h =
    let k = seat-keeps l past s q shape h in
    in-order past s q (positions (on q (by s past))) k.rising (to-between past s q (positions (on q (by s past))) (next_of q past) k.next)
