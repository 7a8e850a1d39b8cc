use Rattle.std.proofs.Common.{◌≡◌, ℕ, List, [], ◌∷◌, ◌++◌, ◌∙◌, ap, codes, decimal, append_assoc, append-nil}
use Rattle.chorus_show.proofs.status.push_fault.Goals as goal

joined : (out word a more b end : List ℕ) → ((out ++ (word ++ (a ++ []))) ++ (more ++ b)) ++ end ≡ out ++ ((word ++ (a ++ (more ++ b))) ++ end)
joined out word a more b end = simp (append_assoc, append-nil)

pub returns-in_ok-push_word-in-Scenario : goal.returns-in_ok-push_word-in-Scenario
returns-in_ok-push_word-in-Scenario c =
    let reason = 32 ∷ decimal c.in-Scenario.reason ++ [] in
    rw (c.in-Scenario.is) (c.in_ok-push_word-in-Scenario.ensures
    ∙ ap (λ text. text ++ 10 ∷ []) (c.in_ok-push_with_one-in-Scenario-2.ensures.text ∙ ap (λ text. text ++ (codes " reason" ++ reason)) c.in_ok-push_with_one-in-Scenario.ensures.text)
    ∙ joined c.args.out.now.items (codes "chorus: scenario line") (32 ∷ decimal c.in-Scenario.line) (codes " reason") reason (10 ∷ []))
