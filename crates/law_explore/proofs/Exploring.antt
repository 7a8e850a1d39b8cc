-- The moves that may come are listed, and the search comes to each whole history in normal form.
use Rattle.std.proofs.Common.{ℕ, zero, suc, ◌≡◌, ◌<◌, ◌≤◌, ◌+◌, ◌==◌, nat_le, Bool, true, false, ◌&&◌, not, cond, List, [], ◌∷◌, ◌++◌, length, map, Option, Some, None, is_some, slice_get, ◌⊎◌, inl, inr, refl, sym, ◌∙◌, ap, subst, arith}
use Rattle.std.specs.List.{Contains, filter}
use Rattle.std.specs.Option.{option_map}
use Rattle.std.proofs.lemmas.Bool.{false≢true, and_parts, leb-true, cases_Bool}
use Rattle.std.proofs.lemmas.List.Elements.{Contains-append_left, Contains-append_right}
use Rattle.chorus_ui.specs.declared.layout.Layout.{Layout}
use Rattle.chorus_ui.specs.Layout.{places, has_place}
use Rattle.law_network.specs.Network.{Act, Deliver, numbers, place_numbers}
use Rattle.law_explore.specs.Search.{ListsNext}
use Rattle.law_explore.specs.declared.moves.Move.{Move}
use Rattle.law_explore.specs.declared.moves.Move.TheVariants.{Go, Carry}
use Rattle.law_explore.specs.Races.{Race, Order, Position, next_of, event_of, is_now, are_linked, is_ready_by, seat_0, may_come, replaying, links_to, links_between, all_moves, next_moves}
use Rattle.law_explore.specs.Laws.{RacesAreExplored}
use Rattle.law_explore.proofs.Searching.{none, here, there, which, finds_all, finds_no_other}

-- Lists.

module _ {X : Type 0} where
  in-filter : (p : X → Bool) (xs : List X) (x : X) → Contains xs x → p x ≡ true → Contains (filter p xs) x
  in-filter p [] x h t = absurd (none x h)
  in-filter p (z ∷ xs) x h t = by (which x z xs h) (λ k. in-filter p xs x k t)
    where
      more : (b : Bool) → Contains (filter p xs) x → Contains (cond b (z ∷ filter p xs) (filter p xs)) x
      more true k = there x z (filter p xs) k
      more false k = k

      by : (z ≡ x) ⊎ Contains xs x → (Contains xs x → Contains (filter p xs) x) → Contains (cond (p z) (z ∷ filter p xs) (filter p xs)) x
      by (inl e) ih =
          subst (λ (b : Bool). Contains (cond b (z ∷ filter p xs) (filter p xs)) x) (sym (ap p e ∙ t)) (subst (λ y. Contains (z ∷ filter p xs) y) e (here z (filter p xs)))
      by (inr k) ih = more (p z) (ih k)

  of-filter : (p : X → Bool) (xs : List X) (x : X) → Contains (filter p xs) x → p x ≡ true
  of-filter p [] x h = absurd (none x h)
  of-filter p (z ∷ xs) x h = by (p z) refl h (of-filter p xs x)
    where
      by : (b : Bool) → p z ≡ b → Contains (cond b (z ∷ filter p xs) (filter p xs)) x → (Contains (filter p xs) x → p x ≡ true) → p x ≡ true
      by true e k ih = one (which x z (filter p xs) k)
        where
          one : (z ≡ x) ⊎ Contains (filter p xs) x → p x ≡ true
          one (inl same) = sym (ap p same) ∙ e
          one (inr j) = ih j
      by false e k ih = ih k

in-map : (xs : List ℕ) (i : ℕ) → Contains xs i → Contains (map Go xs) (Go i)
in-map [] i h = absurd (none i h)
in-map (z ∷ xs) i h = by (which i z xs h) (in-map xs i)
  where
    by : (z ≡ i) ⊎ Contains xs i → (Contains xs i → Contains (map Go xs) (Go i)) → Contains (Go z ∷ map Go xs) (Go i)
    by (inl e) ih = subst (λ j. Contains (Go z ∷ map Go xs) (Go j)) e (here (Go z) (map Go xs))
    by (inr k) ih = there (Go i) (Go z) (map Go xs) (ih k)

in-numbers : (count p i : ℕ) → p ≤ i → i < p + count → Contains (numbers count p) i
in-numbers zero p i le lt = absurd (omega (arith, le, lt))
in-numbers (suc count) p i le lt =
    elim (cases_Bool (p == i)) [
      | inl e ↦ subst (λ j. Contains (numbers (suc count) p) j) (equal p i e) (here p (numbers count (p + 1)))
      | inr ne ↦ there i p (numbers count (p + 1)) (in-numbers count (p + 1) i (above p i le ne) (omega (arith, lt)))
    ]
  where
    equal : (a b : ℕ) → (a == b) ≡ true → a ≡ b
    equal a b g = grind (arith, g)

    above : (a b : ℕ) → a ≤ b → (a == b) ≡ false → a + 1 ≤ b
    above a b le g = grind (arith, le, g)

short : {A : Type 0} (xs : List A) (i : ℕ) → is_some (slice_get xs i) ≡ true → i < length xs
short [] i h = absurd (false≢true h)
short (x ∷ xs) zero h = omega arith
short (x ∷ xs) (suc i) h = let lt = short xs i h in omega (arith, lt)

-- Links.

in-links-to : (a b : ℕ) (bs : List ℕ) → Contains bs b → Contains (links_to a bs) (Carry a b)
in-links-to a b [] h = absurd (none b h)
in-links-to a b (z ∷ bs) h = by (which b z bs h) (in-links-to a b bs)
  where
    by : (z ≡ b) ⊎ Contains bs b → (Contains bs b → Contains (links_to a bs) (Carry a b)) → Contains (Carry a z ∷ links_to a bs) (Carry a b)
    by (inl e) ih = subst (λ j. Contains (Carry a z ∷ links_to a bs) (Carry a j)) e (here (Carry a z) (links_to a bs))
    by (inr k) ih = there (Carry a b) (Carry a z) (links_to a bs) (ih k)

in-links : (a b : ℕ) (as_ bs : List ℕ) → Contains as_ a → Contains bs b → Contains (links_between as_ bs) (Carry a b)
in-links a b [] bs h k = absurd (none a h)
in-links a b (z ∷ rest) bs h k = by (which a z rest h) (λ j. in-links a b rest bs j k)
  where
    by : (z ≡ a) ⊎ Contains rest a → (Contains rest a → Contains (links_between rest bs) (Carry a b)) → Contains (links_to z bs ++ links_between rest bs) (Carry a b)
    by (inl e) ih =
        Contains-append_left (links_to z bs) (links_between rest bs) (Carry a b)
        (subst (λ y. Contains (links_to z bs) (Carry y b)) e (in-links-to z b bs k))
    by (inr j) ih = Contains-append_right (links_to z bs) (links_between rest bs) (Carry a b) (ih j)

in-places : (l : Layout) (p : ℕ) → has_place l p ≡ true → Contains (place_numbers l) p
in-places l p h = in-numbers (places l) 1 p low (above p (places l) high)
  where
    low : 1 ≤ p
    low = leb-true 1 p (and_parts (nat_le 1 p) (nat_le p (places l)) h).0

    high : p ≤ places l
    high = leb-true p (places l) (and_parts (nat_le 1 p) (nat_le p (places l)) h).1

    above : (a b : ℕ) → a ≤ b → a < 1 + b
    above a b le = omega (arith, le)

-- Moves.

some-script : (l : Layout) (left : List (List Order)) (i : ℕ) (s : Position) → is_ready_by (event_of l seat_0 (Go i) left) s.net ≡ true → is_some (slice_get left i) ≡ true
some-script l left i s h = by (slice_get left i) h
  where
    by : (o : Option (List Order)) → is_ready_by (option_map (λ (x : Order). Act (suc i) x.command) (next_of o)) s.net ≡ true → is_some o ≡ true
    by None k = absurd (false≢true k)
    by (Some os) k = refl

is-among : (l : Layout) (s : Position) (m : Move) → may_come l m s ≡ true → Contains (all_moves l s.left) m
is-among l s (Go i) h =
    let ready = (and_parts (is_ready_by (event_of l seat_0 (Go i) s.left) s.net) (is_now (Go i) s.left s.net) h).0 in
    let lt = short s.left i (some-script l s.left i s ready) in
    Contains-append_left (map Go (numbers (length s.left) 0)) (links_between (place_numbers l) (place_numbers l)) (Go i)
    (in-map (numbers (length s.left) 0) i (in-numbers (length s.left) 0 i (omega arith) (omega (arith, lt))))
is-among l s (Carry a b) h = by (are_linked l a b) refl h
  where
    by : (x : Bool) → are_linked l a b ≡ x → is_ready_by (cond x (Some (Deliver 0 a b)) None) s.net && true ≡ true → Contains (all_moves l s.left) (Carry a b)
    by false e k = absurd (false≢true k)
    by true e k =
        let one = and_parts (has_place l a && has_place l b) (not (a == b)) e in
        let two = and_parts (has_place l a) (has_place l b) one.0 in
        Contains-append_right (map Go (numbers (length s.left) 0)) (links_between (place_numbers l) (place_numbers l)) (Carry a b)
        (in-links a b (place_numbers l) (place_numbers l) (in-places l a two.0) (in-places l b two.1))

pub lists-next : (r : Race) → ListsNext (replaying r) (next_moves r)
lists-next r s m =
    let l = r.net.layout in (
      (λ h. in-filter (λ (o : Move). may_come l o s) (all_moves l s.left) m (is-among l s m h) h),
      (λ h. of-filter (λ (o : Move). may_come l o s) (all_moves l s.left) m h),
    )

pub races_are_explored : RacesAreExplored
races_are_explored r most ms = (
  (λ h lt. finds_all (replaying r) (next_moves r) (lists-next r) most ms h.0 h.1 lt),
  (λ h. finds_no_other (replaying r) (next_moves r) (lists-next r) most ms h),
)
