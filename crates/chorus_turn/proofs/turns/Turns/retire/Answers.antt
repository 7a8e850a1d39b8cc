use Rattle.std.proofs.Common.{◌≡◌, ℕ, ◌∷◌, [], List, ap, ◌∙◌, sym, subst}
use Rattle.chorus_turn.specs.declared.knowledge.Remarked.{Remarked}
use Rattle.chorus_turn.specs.declared.view.View.{View}
use Rattle.chorus_turn.specs.Lists.{StartsWith, list_at, first_or}
use Rattle.chorus_turn.specs.Rule.{spent_view}
use Rattle.chorus_turn.proofs.turns.Turns.retire.Goals as goal

module _ {R : Type 0} where
  seen_of : (views : List (View R)) (v : View R) → views ≡ v ∷ [] → v.knows.seen ≡ (first_or spent_view views).knows.seen
  seen_of views v e = ap (λ (l : List (View R)). (first_or spent_view l).knows.seen) (sym e)

  sees_too : {now now' old old' other other' : List (List (Remarked R))} → now ≡ now' → old ≡ old' → other ≡ other'
      → ((p : ℕ) → StartsWith (list_at p now) (list_at p old) × StartsWith (list_at p now) (list_at p other)) → (p : ℕ) → StartsWith (list_at p now') (list_at p old') × StartsWith (list_at p now') (list_at p other')
  sees_too a b c h = let Row : Type 0 = List (List (Remarked R)) in
      subst (λ (z : Row × Row × Row). (p : ℕ) → StartsWith (list_at p z.0) (list_at p z.1) × StartsWith (list_at p z.0) (list_at p z.2)) (λ i. (a i, b i, c i)) h

pub returns-then-keeper-clause-sees : goal.returns-then-keeper-clause-sees
returns-then-keeper-clause-sees g c =
    sees_too (seen_of _ _ c.into_badge.ensures.2) (seen_of _ _ (ap (λ b. b.views) (sym c.replace.ensures.value) ∙ c.into_seat-seat.ensures.2)) (seen_of _ _ c.into_seat.ensures.2) c.merge.ensures.sees

pub returns-else-keeper-clause-sees : goal.returns-else-keeper-clause-sees
returns-else-keeper-clause-sees g c =
    sees_too (seen_of _ _ c.into_badge.ensures.2) (seen_of _ _ (ap (λ b. b.views) (sym c.replace.ensures.value) ∙ c.into_seat-seat.ensures.2)) (seen_of _ _ c.into_seat.ensures.2) c.merge.ensures.sees
