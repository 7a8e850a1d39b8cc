-- The copies of a post, and the member to which one goes.
use Rattle.std.proofs.Common.{ℕ, zero, suc, ◌≡◌, ◌≢◌, ◌⊎◌, ◌+◌, ◌-◌, ◌<◌, ◌≤◌, ◌==◌, nat_lt, Bool, true, false, ◌&&◌, if◌then◌else◌, List, [], ◌∷◌, length, slice_get, Some, None, inl, inr, refl, sym, ◌∙◌, ap, arith}
use Rattle.std.proofs.lemmas.Bool.{and_left, and_right, and_from, eq-eqb, ne_eqb, cases_eq}
use Rattle.chorus_ui.specs.declared.ui.Ui.{Ui}
use Rattle.chorus_entry.specs.declared.id.MsgId.{MsgId}
use Rattle.chorus_entry.specs.MsgId.{same_id}
use Rattle.chorus_world.specs.Places.{find_sent, copies}
use Rattle.place_publish.specs.Lessons.{port_in}

differs : (x y : MsgId) (n : ℕ) → ((x.seat ≢ y.seat) ⊎ ((x.number ≢ y.number) ⊎ (n ≢ y.copy))) → same_id (record x { copy = n }) y ≡ false
differs x y n (inl h) = and_left ((x.seat == y.seat) && (x.number == y.number)) (n == y.copy) (and_left (x.seat == y.seat) (x.number == y.number) (ne_eqb x.seat y.seat h))
differs x y n (inr (inl h)) = and_left ((x.seat == y.seat) && (x.number == y.number)) (n == y.copy) (and_right (x.seat == y.seat) (x.number == y.number) (ne_eqb x.number y.number h))
differs x y n (inr (inr h)) = and_right ((x.seat == y.seat) && (x.number == y.number)) (n == y.copy) (ne_eqb n y.copy h)

later : (x y : MsgId) (g q : Ui) (n : ℕ) (qs : List Ui) → same_id (record x { copy = n }) y ≡ false → find_sent y (copies x g n (q ∷ qs)) ≡ find_sent y (copies x g (n + 1) qs)
later x y g q n qs e = ap (λ (b : Bool). if b then Some (record { id = record x { copy = n }; port = q; route = Some g }) else find_sent y (copies x g (n + 1) qs)) e

pub copies-none : (x y : MsgId) (g : Ui) (n : ℕ) (qs : List Ui) → ((x.seat ≢ y.seat) ⊎ ((x.number ≢ y.number) ⊎ (y.copy < n))) → find_sent y (copies x g n qs) ≡ None
copies-none x y g n [] h = refl
copies-none x y g n (q ∷ qs) (inl h) = later x y g q n qs (differs x y n (inl h)) ∙ copies-none x y g (n + 1) qs (inl h)
copies-none x y g n (q ∷ qs) (inr (inl h)) = later x y g q n qs (differs x y n (inr (inl h))) ∙ copies-none x y g (n + 1) qs (inr (inl h))
copies-none x y g n (q ∷ qs) (inr (inr h)) =
    later x y g q n qs (differs x y n (inr (inr (λ same. omega (arith, same, h))))) ∙ copies-none x y g (n + 1) qs (inr (inr (omega (arith, h))))

pub copies-at : (x y : MsgId) (g : Ui) (n : ℕ) (qs : List Ui) → x.seat ≡ y.seat → x.number ≡ y.number → n ≤ y.copy → port_in (find_sent y (copies x g n qs)) ≡ slice_get qs (y.copy - n)
copies-at x y g n [] s m le = refl
copies-at x y g n (q ∷ qs) s m le = elim (cases_eq n y.copy) [
  | inl same ↦ (let is : same_id (record x { copy = n }) y ≡ true =
      and_from ((x.seat == y.seat) && (x.number == y.number)) (n == y.copy) (and_from (x.seat == y.seat) (x.number == y.number) (eq-eqb x.seat y.seat s) (eq-eqb x.number y.number m)) (eq-eqb n y.copy same) in
      let none : y.copy - n ≡ 0 = omega (arith, same) in
      ap (λ (b : Bool). port_in (if b then Some (record { id = record x { copy = n }; port = q; route = Some g }) else find_sent y (copies x g (n + 1) qs))) is
      ∙ ap (slice_get (q ∷ qs)) (sym none))
  | inr other ↦ (let more : n + 1 ≤ y.copy = next n y.copy le other in
      let one : y.copy - n ≡ suc (y.copy - (n + 1)) = omega (arith, more) in
      ap port_in (later x y g q n qs (differs x y n (inr (inr other)))) ∙ copies-at x y g (n + 1) qs s m more ∙ ap (slice_get (q ∷ qs)) (sym one))
]
  where
    next : (a b : ℕ) → a ≤ b → a ≢ b → a + 1 ≤ b
    next a b le ne = by (nat_lt a b) refl
      where
        by : (c : Bool) → nat_lt a b ≡ c → a + 1 ≤ b
        by true e = grind (arith, e)
        by false e = absurd (ne (grind (arith, e, le)))

pub not-below : (a b : ℕ) → false ≡ nat_lt a b → b ≤ a
not-below a b e = grind (arith, e)

pub slice-none : (qs : List Ui) (i : ℕ) → length qs ≤ i → slice_get qs i ≡ None
slice-none [] i le = refl
slice-none (q ∷ qs) zero le = absurd (omega (arith, le))
slice-none (q ∷ qs) (suc i) le = slice-none qs i (omega (arith, le))

pub below : (a b : ℕ) → true ≡ nat_lt a b → a < b
below a b e = grind (arith, e)

pub rest : (n : ℕ) → (n ≡ 0 → ⊥) → 1 ≤ n
rest zero h = absurd (h refl)
rest (suc n) h = omega arith
