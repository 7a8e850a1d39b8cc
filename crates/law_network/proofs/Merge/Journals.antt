-- The merge of the journals of a network is the past that it stands for, sorted by clock and place. So it is a run, and the
-- parts of it are the journals.
use Rattle.std.proofs.Common.{ℕ, zero, suc, ◌≡◌, ◌<◌, ◌≤◌, ◌+◌, true, cond, List, [], ◌∷◌, map, reverse, refl, sym, ◌∙◌, ap, arith}
use Rattle.std.proofs.lemmas.Bool.{eq-eqb, ne_eqb}
use Rattle.std.proofs.lemmas.List.{reverse-reverse}
use Rattle.chorus_ui.specs.declared.layout.Layout.{Layout}
use Rattle.chorus_ui.specs.Layout as layout
use Rattle.chorus_ui.specs.Layout.{IsLayout}
use Rattle.chorus_entry.specs.declared.entry.Entry.{Entry}
use Rattle.chorus_world.specs.Views.{at}
use Rattle.chorus_world.specs.Runs.{is_run}
use Rattle.chorus_world.specs.Order.{sort}
use Rattle.chorus_world.specs.SortingLaws.{SortsViews}
use Rattle.chorus_world.proofs.Sorted.Exchange.{keeps_views}
use Rattle.chorus_world.proofs.Sorted.Holders.{sorts_runs}
use Rattle.chorus_merge.specs.Merge.{merged}
use Rattle.law_machine.specs.PlaceState.{PlaceState, started}
use Rattle.law_network.specs.Network.{NetState, numbers, place, place_in}
use Rattle.law_network.specs.Left.{journals, merged_past}
use Rattle.law_network.specs.Stands.{Stands, actor_of}
use Rattle.law_network.proofs.Merge.Parts.{part, parts, merged-parts}

-- Lists of numbers, and of places with these numbers.

pub map-from : {X : Type 0} → (f g : ℕ → X) (m p : ℕ) → ((k : ℕ) → p ≤ k → f k ≡ g k) → map f (numbers m p) ≡ map g (numbers m p)
map-from f g zero p h = refl
map-from f g (suc m) p h =
    ap (λ x. x ∷ map f (numbers m (p + 1))) (h p (omega arith))
    ∙ ap (λ xs. g p ∷ xs) (map-from f g m (p + 1) (λ k le. h k (omega (arith, le))))

-- the place of another number is in the rest
later : (l : Layout) (r : PlaceState) (rs : List PlaceState) (p k : ℕ) → r.number ≡ p → p + 1 ≤ k → place_in l k rs ≡ place_in l k (r ∷ rs)
later l r rs p k e le =
    sym (ap (λ b. cond b r (place_in l k rs)) (ne_eqb r.number k (λ same. omega (arith, e, le, same))))

-- each place is the one of its number
pub map-places : {X : Type 0} → (f : PlaceState → X) (l : Layout) (rs : List PlaceState) (m p : ℕ) → map (λ (s : PlaceState). s.number) rs ≡ numbers m p → map f rs ≡ map (λ (k : ℕ). f (place_in l k rs)) (numbers m p)
map-places f l [] zero p h = refl
map-places f l [] (suc m) p h = absurd (cc)
map-places f l (r ∷ rs) zero p h = absurd (cc)
map-places f l (r ∷ rs) (suc m) p h =
    let number : r.number ≡ p = cc in
    let rest : map (λ (s : PlaceState). s.number) rs ≡ numbers m (p + 1) = cc in
    ap (λ x. f x ∷ map f rs) (sym (ap (λ b. cond b r (place_in l p rs)) (eq-eqb r.number p number)))
    ∙ ap (λ xs. f (place_in l p (r ∷ rs)) ∷ xs)
    (map-places f l rs m (p + 1) rest
    ∙ map-from (λ k. f (place_in l k rs)) (λ k. f (place_in l k (r ∷ rs))) m (p + 1) (λ k le. ap f (later l r rs p k number le)))

-- a place of another number is as it was started
pub place-absent : (l : Layout) (rs : List PlaceState) (m p q : ℕ) → map (λ (s : PlaceState). s.number) rs ≡ numbers m p → (p ≤ q → q < p + m → ⊥) → place_in l q rs ≡ started l q
place-absent l [] m p q h o = refl
place-absent l (r ∷ rs) zero p q h o = absurd (cc)
place-absent l (r ∷ rs) (suc m) p q h o =
    let number : r.number ≡ p = cc in
    let rest : map (λ (s : PlaceState). s.number) rs ≡ numbers m (p + 1) = cc in
    ap (λ b. cond b r (place_in l q rs)) (ne_eqb r.number q (λ same. o (omega (arith, number, same)) (omega (arith, number, same))))
    ∙ place-absent l rs m (p + 1) q rest (λ a b. o (omega (arith, a)) (omega (arith, b)))

module _ (n : NetState) (past : List Entry) (s : Stands n past) where
  pub views : SortsViews past
  views = keeps_views past s.causal

  pub journals-are : journals n ≡ parts past (layout.places n.layout) 1
  journals-are =
      map-places (λ (r : PlaceState). reverse r.journal) n.layout n.places (layout.places n.layout) 1 s.places.numbers
      ∙ map-from (λ k. reverse (place k n).journal) (part past) (layout.places n.layout) 1 (λ k le. ap reverse (s.journal k))

  -- nothing happened where the layout has no place
  pub nothing-there : (q : ℕ) → (1 ≤ q → q < 1 + layout.places n.layout → ⊥) → at q past ≡ []
  nothing-there q o =
      sym (s.journal q) ∙ ap (λ (r : PlaceState). r.journal) (place-absent n.layout n.places (layout.places n.layout) 1 q s.places.numbers o)

  pub merge-is : merged_past n ≡ sort past
  merge-is =
      ap (λ js. reverse (merged js)) journals-are
      ∙ ap reverse (merged-parts past (layout.places n.layout) s.causal (nothing-there 0 (λ a b. omega (arith, a))) (λ q far. nothing-there q (λ a b. omega (arith, far, b))))
      ∙ reverse-reverse (sort past)

  pub merge-run : IsLayout n.layout → is_run n.layout (actor_of n) (merged_past n) ≡ true
  merge-run shape =
      ap (is_run n.layout (actor_of n)) merge-is ∙ sorts_runs n.layout (actor_of n) past shape s.causal s.looks s.run

  pub merge-journal : (p : ℕ) → at p (merged_past n) ≡ (place p n).journal
  merge-journal p = ap (at p) merge-is ∙ views.places p ∙ sym (s.journal p)
