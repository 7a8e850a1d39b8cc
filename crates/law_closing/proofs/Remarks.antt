-- The turns of a log, by seat and by place.
use Rattle.std.proofs.Common.{ℕ, ◌≡◌, Bool, true, false, cond, List, [], ◌∷◌, map, eqb, refl, sym, ◌∙◌, ap}
use Rattle.std.specs.List.{All, filter}
use Rattle.std.proofs.lemmas.Bool.{eqb-true}
use Rattle.std.proofs.lemmas.List.Elements.{All-head, All-tail, All-weaker, All-filter, filter_passes}
use Rattle.law_history.specs.Turns.{Turn, is_at, is_by}
use Rattle.chorus_turn.specs.declared.knowledge.Remarked.{Remarked}
use Rattle.chorus_turn.specs.declared.knowledge.Placed.{Placed}
use Rattle.chorus_turn.specs.Journals.{by_seat, at_place}
use Rattle.law_closing.specs.declared.noted.Noted.{Noted}
use Rattle.law_closing.specs.Remarks.{turn_of, begins, turns_at, turns_in}
use Rattle.law_history.proofs.Lists.{filter_swap}

module _ {X Y : Type 0} where
  choice : (b : Bool) (x : X) (xs : List X) (f : X → Y) → cond b (f x ∷ map f xs) (map f xs) ≡ map f (cond b (x ∷ xs) xs)
  choice true x xs f = refl
  choice false x xs f = refl

  pub filter-map : (p : Y → Bool) (f : X → Y) (xs : List X) → filter p (map f xs) ≡ map f (filter (λ x. p (f x)) xs)
  filter-map p f [] = refl
  filter-map p f (x ∷ xs) = ap (λ ws. cond (p (f x)) (f x ∷ ws) ws) (filter-map p f xs) ∙ choice (p (f x)) x (filter (λ x. p (f x)) xs) f

  pub map_same : (f g : X → Y) (xs : List X) → All (λ x. f x ≡ g x) xs → map f xs ≡ map g xs
  map_same f g [] h = refl
  map_same f g (x ∷ xs) h =
      let Same : X → Type 0 = λ x. f x ≡ g x in
      let first : f x ≡ g x = All-head Same x xs h in
      ap (λ y. y ∷ map f xs) first ∙ ap (λ ys. g x ∷ ys) (map_same f g xs (All-tail Same x xs h))

pub map_twice : {X Y Z : Type 0} (g : Y → Z) (f : X → Y) (xs : List X) → map g (map f xs) ≡ map (λ x. g (f x)) xs
map_twice g f [] = refl
map_twice g f (x ∷ xs) = ap (λ zs. g (f x) ∷ zs) (map_twice g f xs)

module _ {C M K : Type 0} where
  pub by_turns_at : (p q : ℕ) (log : List (Remarked (Noted C M K))) → filter (is_by q) (turns_at p log) ≡ turns_at p (by_seat q log)
  by_turns_at p q log =
      filter-map (is_by q) (turn_of p) (filter begins log) ∙ ap (λ rs. map (turn_of p) rs) (filter_swap (λ (r : Remarked (Noted C M K)). eqb r.entry.seat q) begins log)

  pub at_turns_in : (p : ℕ) (made : List (Placed (Noted C M K))) → filter (is_at p) (turns_in made) ≡ turns_at p (at_place p made)
  at_turns_in p made =
      let Made : Type 0 = Placed (Noted C M K) in
      let here : Made → Bool = λ m. eqb m.place p in
      let heads : Made → Bool = λ m. begins m.remarked in
      let own : Made → Turn C M K = λ m. turn_of m.place m.remarked in
      let found : List Made = filter heads (filter here made) in
      let at : All (λ (m : Made). here m ≡ true) found = All-filter heads (λ (m : Made). here m ≡ true) (filter here made) (filter_passes here made) in
      filter-map (is_at p) own (filter heads made) ∙ ap (λ ms. map own ms) (filter_swap here heads made)
      ∙ map_same own (λ m. turn_of p m.remarked) found (All-weaker (λ (m : Made). here m ≡ true) (λ (m : Made). own m ≡ turn_of p m.remarked) (λ m e. ap (λ x. turn_of x m.remarked) (eqb-true m.place p e)) found at)
      ∙ sym (map_twice (turn_of p) (λ (m : Made). m.remarked) found) ∙ ap (λ rs. map (turn_of p) rs) (sym (filter-map begins (λ (m : Made). m.remarked) (filter here made)))
