-- The same moves come to the same, whoever delivers.
use Rattle.std.proofs.Common.{ℕ, zero, suc, ◌≡◌, ◌≤◌, ◌==◌, Bool, true, false, ◌&&◌, cond, List, [], ◌∷◌, length, map, Option, Some, None, is_some, slice_get, slice_set, inl, inr, refl, sym, ◌∙◌, ap, subst, arith}
use Rattle.std.specs.Option.{option_map}
use Rattle.std.proofs.lemmas.Bool.{false≢true, and_parts, and_from, cases_Bool, eqb-false}
use Rattle.chorus_ui.specs.declared.layout.Layout.{Layout}
use Rattle.chorus_entry.specs.declared.command.Command.{Command}
use Rattle.chorus_entry.specs.declared.entry.Entry.{Entry}
use Rattle.chorus_calls.specs.Callers.{Seated}
use Rattle.law_network.specs.Packets.{first_on}
use Rattle.law_network.specs.Network.{NetState, Event, Act, Deliver, happened}
use Rattle.law_network.proofs.Standing.CallerList.{get-other, get-replaced}
use Rattle.law_explore.specs.Alike.{ActAlike, CallerAlike, NetsAlike, AreSameMove}
use Rattle.law_explore.specs.Neighbours.{seat_of, is_ready}
use Rattle.law_explore.specs.Search.{state_after, IsHistory}
use Rattle.law_explore.specs.declared.moves.Move.{Move}
use Rattle.law_explore.specs.declared.moves.Move.TheVariants.{Go, Carry}
use Rattle.law_explore.specs.Races.{Race, Order, Position, Told, next_of, are_linked, event_of, may_now, is_now, may_come_by, scripts_after, own_by, own_of, answers_after, position_after, is_ready_by, racing}
use Rattle.law_explore.specs.Outcome.{outcome_with}
use Rattle.law_explore.specs.Laws.{RacesAlike, MovesComeToTheSame}
use Rattle.law_explore.proofs.Alike.{Keeping, keep_acts}
use Rattle.law_explore.proofs.Settling.{told-alike}
use Rattle.law_explore.proofs.Nets.{nets-stay-alike, begins, some-too}
use Rattle.law_explore.proofs.Races.{caller, turn, is, now-same}
use Rattle.law_explore.proofs.Telling.{acts-tell, outcomes}

-- Who was there stays there.

pub stays-there : (e : Event) (n : NetState) (j : ℕ) → is_ready e n ≡ true → is_some (slice_get n.callers j) ≡ true → is_some (slice_get (happened e n).callers j) ≡ true
stays-there e n j ready some =
    let t = turn e n ready in
    let w = caller e n ready in
    ap (λ (m : NetState). is_some (slice_get m.callers j)) (is e n ready)
    ∙ elim (cases_Bool (seat_of e == j)) [
      | inl here ↦
          (ap (λ k. is_some (slice_get (slice_set n.callers (seat_of e) t.caller) k)) (sym (equal (seat_of e) j here))
          ∙ ap is_some (get-replaced n.callers (seat_of e) w.0 t.caller w.1))
      | inr away ↦ (ap is_some (get-other n.callers (seat_of e) j t.caller (eqb-false (seat_of e) j away)) ∙ some)
    ]
  where
    equal : (a b : ℕ) → (a == b) ≡ true → a ≡ b
    equal a b g = grind (arith, g)

pub length-set : {A : Type 0} (xs : List A) (i : ℕ) (x : A) → length (slice_set xs i x) ≡ length xs
length-set [] i x = refl
length-set (y ∷ xs) zero x = refl
length-set (y ∷ xs) (suc i) x = ap suc (length-set xs i x)

pub long : (m : Move) (left : List (List Order)) → length (scripts_after m left) ≡ length left
long (Go i) left = length-set left i _
long (Carry a b) left = refl

pub short : (left : List (List Order)) (i : ℕ) (o : Order) → next_of (slice_get left i) ≡ Some o → suc i ≤ length left
short [] i o h = absurd (cc)
short (os ∷ left) zero o h = omega arith
short (os ∷ left) (suc i) o h = let le = short left i o h in omega (arith, le)

-- Positions that stay alike, by a relation of journals and one of the acts that answered.
module _ (J : List Entry → List Entry → Type 0) (T : List (List Told) → List (List Told) → Type 0) where
  pub record Stay (count : ℕ) (other : ℕ → ℕ) (s t : Position) : Type 0 where
    pub nets : NetsAlike J count s.net t.net
    pub left : t.left ≡ s.left
    pub told : T s.told t.told
    pub all : length s.left ≡ count
    pub there : (b : ℕ) → is_some (slice_get t.net.callers (other b)) ≡ true

abbrev pub Grows : (List (List Told) → List (List Told) → Type 0) → Type 0
Grows T = (m : Move) (a : Option Told) (x z : List (List Told)) → T x z → T (answers_after m a x) (answers_after m a z)

module _ (J : List Entry → List Entry → Type 0) (keep : Keeping J) (T : List (List Told) → List (List Told) → Type 0) (grow : Grows T)
    (l : Layout) (count : ℕ) (one other : ℕ → ℕ) (behind : (b k : ℕ) → 1 ≤ k → k ≤ count → (one b ≡ k → ⊥) × (other b ≡ k → ⊥)) where
  -- may come in the second too, and they stay alike
  abbrev Follows : Move → Position → Position → Type 0
  Follows m s t = (may_come_by l other m t ≡ true) × Stay J T count other (position_after (event_of l one m s.left) m s) (position_after (event_of l other m t.left) m t)

  module _ (s t : Position) (h : Stay J T count other s t) where
    goes : (m : Move) (e f : Event) → event_of l one m s.left ≡ Some e → event_of l other m t.left ≡ Some f → is_ready f t.net ≡ true → is_now m s.left s.net ≡ true → AreSameMove count e f s.net t.net → own_of f t.net ≡ own_of e s.net
        → is_now m s.left t.net ≡ is_now m s.left s.net → Follows m s t
    goes m e f is_e is_f ready now same own times = (
      ap (λ x. is_ready_by x t.net && is_now m t.left t.net) is_f
          ∙ and_from (is_ready f t.net) (is_now m t.left t.net) ready (ap (λ (ls : List (List Order)). is_now m ls t.net) h.left ∙ times ∙ now),
      subst (λ x. Stay J T count other (position_after x m s) (position_after (event_of l other m t.left) m t)) (sym is_e)
          (subst (λ x. Stay J T count other (position_after (Some e) m s) (position_after x m t)) (sym is_f)
          (record {
            nets = nets-stay-alike J keep count s.net t.net e f h.nets same;
            left = ap (scripts_after m) h.left;
            told = subst (λ a. T (answers_after m (own_of e s.net) s.told) (answers_after m a t.told)) (sym own) (grow m (own_of e s.net) s.told t.told h.told);
            all = long m s.left ∙ h.all;
            there = λ b. stays-there f t.net (other b) ready (h.there b);
          })),
    )

    pub follows : (m : Move) → may_come_by l one m s ≡ true → Follows m s t
    follows (Go i) ready = by (next_of (slice_get s.left i)) refl ready
      where
        by : (o : Option Order) → next_of (slice_get s.left i) ≡ o → is_ready_by (option_map (λ (x : Order). Act (suc i) x.command) o) s.net && may_now o i s.net ≡ true → Follows (Go i) s t
        by None e k = absurd (false≢true k)
        by (Some o) e k =
            let c = o.command in
            let parts = and_parts (is_ready (Act (suc i) c) s.net) (may_now (Some o) i s.net) k in
            let low : 1 ≤ suc i = omega arith in
            let high : suc i ≤ count = subst (λ z. suc i ≤ z) h.all (short s.left i o e) in
            let alike = h.nets.callers (suc i) low high in
            let same = owned c low high (slice_get s.net.callers (suc i)) (slice_get t.net.callers (suc i)) alike in
            let is_e : event_of l one (Go i) s.left ≡ Some (Act (suc i) c) = ap (option_map (λ (x : Order). Act (suc i) x.command)) e in
            let is_f : event_of l other (Go i) t.left ≡ Some (Act (suc i) c) = ap (λ (ls : List (List Order)). event_of l other (Go i) ls) h.left ∙ is_e in
            goes (Go i) (Act (suc i) c) (Act (suc i) c) is_e is_f
            (and_from (is_some (slice_get t.net.callers (suc i))) true (both (slice_get s.net.callers (suc i)) (slice_get t.net.callers (suc i)) alike (and_parts (is_some (slice_get s.net.callers (suc i))) true parts.0).0) refl)
            (ap (λ (x : Option Order). may_now x i s.net) e ∙ parts.1)
            (inl (suc i, (c, (refl, refl, low, high))))
            (sym same)
            (now-same l one (Go i) s.left (Act (suc i) c) t.net s.net is_e (sym same))
          where
            both : (x z : Option Seated) → CallerAlike x z → is_some x ≡ true → is_some z ≡ true
            both None z a g = absurd (false≢true g)
            both (Some w) None a g = absurd a
            both (Some w) (Some v) a g = refl

            owned : (c : Command) → 1 ≤ suc i → suc i ≤ count → (x z : Option Seated) → CallerAlike x z → own_by c s.net x ≡ own_by c t.net z
            owned c low high None None a = refl
            owned c low high None (Some v) a = absurd a
            owned c low high (Some w) None a = absurd a
            owned c low high (Some w) (Some v) a =
                ap (λ (x : Told). Some x) (told-alike J keep c _ _ (begins J keep count s.net t.net h.nets (suc i) c low high w v a))
    follows (Carry a b) ready = by (are_linked l a b) refl ready
      where
        by : (x : Bool) → are_linked l a b ≡ x → is_ready_by (cond x (Some (Deliver (one b) a b)) None) s.net && true ≡ true → Follows (Carry a b) s t
        by false e k = absurd (false≢true k)
        by true e k =
            let ready = (and_parts (is_ready (Deliver (one b) a b) s.net) true k).0 in
            let parts = and_parts (is_some (slice_get s.net.callers (one b))) (is_some (first_on a b s.net.packets)) ready in
            goes (Carry a b) (Deliver (one b) a b) (Deliver (other b) a b)
            (ap (λ x. cond x (Some (Deliver (one b) a b)) None) e) (ap (λ x. cond x (Some (Deliver (other b) a b)) None) e)
            (and_from (is_some (slice_get t.net.callers (other b))) (is_some (first_on a b t.net.packets)) (h.there b) (some-too a b s.net.packets t.net.packets h.nets.packets parts.1))
            refl
            (inr (one b, (other b, (a, (b, (refl, refl, parts.0, h.there b, behind b))))))
            refl
            refl

abbrev pub SameTold : List (List Told) → List (List Told) → Type 0
SameTold told other = other ≡ told

pub grow-same : Grows SameTold
grow-same m a told other h = ap (answers_after m a) h

-- Histories of races that are alike, move by move.
module _ (r q : Race) (one other : ℕ → ℕ) (alike : RacesAlike r q one other) where
  abbrev pub Stays : Position → Position → Type 0
  Stays s t = Stay ActAlike SameTold (length r.scripts) other s t

  pub alike-after : (ms : List Move) → IsHistory (racing r one) ms → IsHistory (racing q other) ms × Stays (state_after (racing r one) ms) (state_after (racing q other) ms)
  alike-after [] h = (
    tt,
    record {
      nets = alike.nets;
      left = alike.scripts;
      told = ap (map (λ (os : List Order). [])) alike.scripts;
      all = refl;
      there = alike.there;
    },
  )
  alike-after (m ∷ ms) h =
      let before = alike-after ms h.1 in
      let s = state_after (racing r one) ms in
      let t = state_after (racing q other) ms in
      let next = follows ActAlike keep_acts SameTold grow-same r.net.layout (length r.scripts) one other alike.behind s t before.1 m h.0 in
      let same = sym alike.nets.layout in (
        (ap (λ (k : Layout). may_come_by k other m t) (sym same) ∙ next.0, before.0),
        subst (λ (k : Layout). Stays (position_after (event_of r.net.layout one m s.left) m s) (position_after (event_of k other m t.left) m t)) same next.1,
      )

pub moves_come_to_the_same : MovesComeToTheSame
moves_come_to_the_same r q one other ms alike history =
    let all = alike-after r q one other alike ms history in
    let s = state_after (racing r one) ms in
    let t = state_after (racing q other) ms in (
      all.0,
      (λ i. outcome_with (alike.scripts i) (all.1.left i) (all.1.told i) t.net.places)
          ∙ sym (outcomes ActAlike acts-tell r.scripts s.left s.told s.net.places t.net.places all.1.nets.places),
    )
