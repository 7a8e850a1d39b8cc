-- What the commands of a race were answered, kept beside its network, is what its events say.
-- r is a race, l a layout, base are the events where it begins, ms are moves, both with the latest first; i is the place of a script.
use Rattle.std.proofs.Common.{ℕ, zero, suc, ◌≡◌, ◌+◌, ◌==◌, Bool, true, false, cond, List, [], ◌∷◌, ◌++◌, length, map, option_to_list, unwrap_or, Option, Some, None, slice_get, slice_set, refl, sym, ◌∙◌, ap, arith}
use Rattle.std.specs.Option.{option_map}
use Rattle.std.proofs.lemmas.Bool.{eqb-true, eq-eqb, false≢true}
use Rattle.std.proofs.lemmas.Option.{slice_get-map}
use Rattle.chorus_ui.specs.declared.layout.Layout.{Layout}
use Rattle.chorus_entry.specs.declared.command.Command.{Command}
use Rattle.law_network.specs.Network.{NetState, Event, Act, Deliver, after, happened, numbers, schedule}
use Rattle.law_explore.specs.declared.moves.Move.{Move}
use Rattle.law_explore.specs.declared.moves.Move.TheVariants.{Go, Carry}
use Rattle.law_explore.specs.Races.{Race, Order, Position, Told, are_linked, next_of, own_by, position_after, replaying, with_answer}
use Rattle.law_explore.specs.Replays.{events_of}
use Rattle.law_explore.specs.Search.{state_after}
use Rattle.law_explore.proofs.Showing.{net-after}
use Rattle.law_moments.specs.Answers.{answered_by}

-- Lists.

set-none : {X : Type 0} (xs : List X) (i j : ℕ) (y : X) → slice_get xs i ≡ None → slice_get (slice_set xs j y) i ≡ None
set-none [] i j y e = refl
set-none (z ∷ xs) zero j y e = absurd (cc)
set-none (z ∷ xs) (suc i) zero y e = e
set-none (z ∷ xs) (suc i) (suc j) y e = set-none xs i j y e

set-same : {X : Type 0} (xs : List X) (i : ℕ) (x y : X) → slice_get xs i ≡ Some x → slice_get (slice_set xs i y) i ≡ Some y
set-same [] i x y e = absurd (cc)
set-same (z ∷ xs) zero x y e = refl
set-same (z ∷ xs) (suc i) x y e = set-same xs i x y e

set-other : {X : Type 0} (xs : List X) (i j : ℕ) (y : X) → (j ≡ i → ⊥) → slice_get (slice_set xs j y) i ≡ slice_get xs i
set-other [] i j y ne = refl
set-other (z ∷ xs) zero zero y ne = absurd (ne refl)
set-other (z ∷ xs) (suc i) zero y ne = refl
set-other (z ∷ xs) zero (suc j) y ne = refl
set-other (z ∷ xs) (suc i) (suc j) y ne = set-other xs i j y (λ q. ne (ap suc q))

-- a list is that of its values, number by number
pub by-number : {X Y : Type 0} (f : ℕ → Y) (xs : List X) (ys : List Y) (p : ℕ) → ((i : ℕ) → slice_get ys i ≡ option_map (λ (x : X). f (p + i)) (slice_get xs i)) → ys ≡ map f (numbers (length xs) p)
by-number f [] [] p h = refl
by-number f [] (y ∷ ys) p h = absurd (let none = h 0 in cc)
by-number f (x ∷ xs) [] p h = absurd (let none = h 0 in cc)
by-number f (x ∷ xs) (y ∷ ys) p h =
    let first : y ≡ f (p + 0) = (let some = h 0 in cc) in
    let n : p + 0 ≡ p = omega arith in
    ap (λ z. z ∷ ys) (first ∙ ap f n)
    ∙ ap (λ zs. f p ∷ zs) (by-number f xs ys (p + 1) (λ i. h (suc i) ∙ ap (λ (k : ℕ). option_map (λ (x : _). f k) (slice_get xs i)) (next i)))
  where
    next : (i : ℕ) → p + suc i ≡ (p + 1) + i
    next i = omega arith

after-all : (fs es : List Event) (l : Layout) → schedule l (fs ++ es) ≡ after fs (schedule l es)
after-all [] es l = refl
after-all (f ∷ fs) es l = ap (happened f) (after-all fs es l)

module _ (r : Race) (l : Layout) (base : List Event) (start : r.net ≡ schedule l base) where
  -- all events behind moves
  abbrev pub events : List Move → List Event
  events ms = events_of r ms ++ base

  pub net-is : (ms : List Move) → schedule l (events ms) ≡ (state_after (replaying r) ms).net
  net-is ms = after-all (events_of r ms) base l ∙ ap (after (events_of r ms)) (sym start) ∙ sym (net-after r ms)

  -- the script of this place was answered so
  abbrev Answered : List Move → ℕ → Type 0
  Answered ms i = slice_get (state_after (replaying r) ms).told i ≡ option_map (λ (os : List Order). answered_by l (suc i) (events ms)) (slice_get r.scripts i)

  -- a script is told one answer more, where its caller is there
  more : (a : Option Told) (o : Option (List Told)) (told : List Told) → o ≡ Some told → with_answer a o ≡ option_to_list a ++ told
  more None o told e = ap (λ x. unwrap_or x []) e
  more (Some a) o told e = ap (λ x. a ∷ unwrap_or x []) e

  module _ (ms : List Move) (i : ℕ) (ih : Answered ms i) where
    abbrev s : Position
    s = state_after (replaying r) ms

    gone : (j : ℕ) (d : Command) (o : Option (List Order)) → slice_get r.scripts i ≡ o → (b : Bool) → (suc j == suc i) ≡ b
        → slice_get (slice_set s.told j (with_answer (own_by d s.net (slice_get s.net.callers (suc j))) (slice_get s.told j))) i
        ≡ option_map (λ (os : List Order). cond b (option_to_list (own_by d s.net (slice_get s.net.callers (suc j)))) [] ++ answered_by l (suc i) (events ms)) o
    gone j d None e b f = set-none s.told i j _ (ih ∙ ap (option_map (λ (os : List Order). answered_by l (suc i) (events ms))) e)
    gone j d (Some cs) e false f =
        set-other s.told i j _ (λ same. false≢true (sym f ∙ eq-eqb (suc j) (suc i) (ap suc same)))
        ∙ ih ∙ ap (option_map (λ (os : List Order). answered_by l (suc i) (events ms))) e
    gone j d (Some cs) e true f =
        let same : j ≡ i = (let n = eqb-true (suc j) (suc i) f in omega (arith, n)) in
        let a = own_by d s.net (slice_get s.net.callers (suc j)) in
        let told = answered_by l (suc i) (events ms) in
        let was : slice_get s.told i ≡ Some told = ih ∙ ap (option_map (λ (os : List Order). answered_by l (suc i) (events ms))) e in
        ap (λ (k : ℕ). slice_get (slice_set s.told k (with_answer a (slice_get s.told k))) i) same
        ∙ set-same s.told i told (with_answer a (slice_get s.told i)) was
        ∙ ap (λ (xs : List Told). Some xs) (more a (slice_get s.told i) told was)

    went : (j : ℕ) (o : Option Order) → next_of (slice_get s.left j) ≡ o
        → slice_get (position_after (option_map (λ (x : Order). Act (suc j) x.command) o) (Go j) s).told i
        ≡ option_map (λ (os : List Order). answered_by l (suc i) ((option_to_list (option_map (λ (x : Order). Act (suc j) x.command) o) ++ events_of r ms) ++ base)) (slice_get r.scripts i)
    went j None e = ih
    went j (Some o) e =
        gone j o.command (slice_get r.scripts i) refl (suc j == suc i) refl
        ∙ ap (λ (n : NetState). option_map (λ (os : List Order). cond (suc j == suc i) (option_to_list (own_by o.command n (slice_get n.callers (suc j)))) [] ++ answered_by l (suc i) (events ms)) (slice_get r.scripts i)) (sym (net-is ms))

    carried : (a b : ℕ) (q : Bool) → slice_get (position_after (cond q (Some (Deliver 0 a b)) None) (Carry a b) s).told i
        ≡ option_map (λ (os : List Order). answered_by l (suc i) ((option_to_list (cond q (Some (Deliver 0 a b)) None) ++ events_of r ms) ++ base)) (slice_get r.scripts i)
    carried a b false = ih
    carried a b true = ih

  pub answered-at : ((i : ℕ) (script : List Order) → slice_get r.scripts i ≡ Some script → answered_by l (suc i) base ≡ []) → (ms : List Move) (i : ℕ) → Answered ms i
  answered-at none [] i = slice_get-map (λ (os : List Order). []) r.scripts i ∙ by (slice_get r.scripts i) refl
    where
      by : (o : Option (List Order)) → slice_get r.scripts i ≡ o → option_map (λ (os : List Order). []) o ≡ option_map (λ (os : List Order). answered_by l (suc i) base) o
      by None e = refl
      by (Some script) e = ap (λ (xs : List Told). Some xs) (sym (none i script e))
  answered-at none (Go j ∷ ms) i = went ms i (answered-at none ms i) j (next_of (slice_get (state_after (replaying r) ms).left j)) refl
  answered-at none (Carry a b ∷ ms) i = carried ms i (answered-at none ms i) a b (are_linked r.net.layout a b)
