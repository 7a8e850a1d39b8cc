-- Where a number has made more at a place, the journals and what each number has made still agree.
use Rattle.std.proofs.Common.{◌≡◌, ◌≢◌, ℕ, List, ◌++◌, sym, refl, ap, ◌∙◌, subst, append-nil}
use mathlib.Core.Logic.{dite}
use native.Mathlib.Decide.{ℕ_discrete}
use Rattle.chorus_turn.specs.declared.knowledge.Remarked.{Remarked}
use Rattle.chorus_turn.specs.declared.knowledge.Placed.{Placed}
use Rattle.chorus_turn.specs.Lists.{StartsWith}
use Rattle.chorus_turn.specs.Journals.{by_seat, IsBy, with_place, at_place}
use Rattle.chorus_turn.proofs.Fronts.{starts_more, starts_same, changed, changed_here, changed_elsewhere}
use Rattle.chorus_turn.proofs.Parts.{by_seat-append, by_seat-own, by_seat-other, at_place-append, at_place-with_place, at_place-elsewhere}

module _ {R : Type 0} (h p : ℕ) (seen : List (List (Remarked R))) (news : List (Remarked R)) where
  -- what each number has made, after h made the news at p
  pub work_after : (ℕ → List (Placed R)) → ℕ → List (Placed R)
  work_after work = changed h (work h ++ with_place p seen news) work

  -- and the journal of each place
  pub log_after : (ℕ → List (Remarked R)) → ℕ → List (Remarked R)
  log_after log = changed p (log p ++ news) log

  pub work_here : (work : ℕ → List (Placed R)) → work_after work h ≡ work h ++ with_place p seen news
  unfolding work_after
  work_here work = changed_here h h (work h ++ with_place p seen news) work refl

  pub work_elsewhere : (work : ℕ → List (Placed R)) (q : ℕ) → q ≢ h → work_after work q ≡ work q
  unfolding work_after
  work_elsewhere work q apart = changed_elsewhere h q (work h ++ with_place p seen news) work apart

  pub log_here : (log : ℕ → List (Remarked R)) → log_after log p ≡ log p ++ news
  unfolding log_after
  log_here log = changed_here p p (log p ++ news) log refl

  pub log_elsewhere : (log : ℕ → List (Remarked R)) (i : ℕ) → i ≢ p → log_after log i ≡ log i
  unfolding log_after
  log_elsewhere log i apart = changed_elsewhere p i (log p ++ news) log apart

  -- each journal begins with what it began with
  pub log_grows : (log : ℕ → List (Remarked R)) (i : ℕ) (front : List (Remarked R)) → StartsWith (log i) front → StartsWith (log_after log i) front
  log_grows log i front b = dite (ℕ_discrete i p)
      (λ e. starts_same (log p ++ news) (log_after log i) front (ap (log_after log) e ∙ log_here log) (starts_more (log p) front news (starts_same (log i) (log p) front (ap log (sym e)) b)))
      (λ apart. starts_same (log i) (log_after log i) front (log_elsewhere log i apart) b)

  module _ (work : ℕ → List (Placed R)) (log : ℕ → List (Remarked R)) (made : (i q : ℕ) → by_seat q (log i) ≡ at_place i (work q)) (all : IsBy h news) where
    own_here : by_seat h (log_after log p) ≡ at_place p (work_after work h)
    own_here = ap (by_seat h) (log_here log) ∙ by_seat-append h (log p) news ∙ ap (λ l. l ++ by_seat h news) (made p h) ∙ ap (λ l. at_place p (work h) ++ l) (by_seat-own h news all ∙ sym (at_place-with_place p seen news))
        ∙ sym (at_place-append p (work h) (with_place p seen news)) ∙ ap (at_place p) (sym (work_here work))

    other_here : (q : ℕ) → q ≢ h → by_seat q (log_after log p) ≡ at_place p (work_after work q)
    other_here q apart = ap (by_seat q) (log_here log) ∙ by_seat-append q (log p) news ∙ ap (λ l. by_seat q (log p) ++ l) (by_seat-other q h news all apart) ∙ append-nil (by_seat q (log p)) ∙ made p q
        ∙ ap (at_place p) (sym (work_elsewhere work q apart))

    own_elsewhere : (i : ℕ) → i ≢ p → by_seat h (log_after log i) ≡ at_place i (work_after work h)
    own_elsewhere i apart = ap (by_seat h) (log_elsewhere log i apart) ∙ made i h ∙ sym (append-nil (at_place i (work h))) ∙ ap (λ l. at_place i (work h) ++ l) (sym (at_place-elsewhere p i seen news (λ e. apart (sym e))))
        ∙ sym (at_place-append i (work h) (with_place p seen news)) ∙ ap (at_place i) (sym (work_here work))

    other_elsewhere : (i q : ℕ) → i ≢ p → q ≢ h → by_seat q (log_after log i) ≡ at_place i (work_after work q)
    other_elsewhere i q apart apart' = ap (by_seat q) (log_elsewhere log i apart) ∙ made i q ∙ ap (at_place i) (sym (work_elsewhere work q apart'))

    pub made_after : (i q : ℕ) → by_seat q (log_after log i) ≡ at_place i (work_after work q)
    made_after i q = dite (ℕ_discrete i p)
        (λ e. subst (λ (n : ℕ). by_seat q (log_after log n) ≡ at_place n (work_after work q)) (sym e) (dite (ℕ_discrete q h) (λ f. subst (λ (n : ℕ). by_seat n (log_after log p) ≡ at_place p (work_after work n)) (sym f) own_here) (other_here q)))
        (λ apart. dite (ℕ_discrete q h) (λ f. subst (λ (n : ℕ). by_seat n (log_after log i) ≡ at_place i (work_after work n)) (sym f) (own_elsewhere i apart)) (other_elsewhere i q apart))
