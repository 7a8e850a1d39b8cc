use Rattle.std.proofs.Common.{◌≡◌, ℕ, Result, Ok, Err, IfOk, List, length, subst}
use Rattle.std.specs.Prelude.{◌↔◌}
use Rattle.std.specs.declared.alloc.AllocError.{AllocError}
use Rattle.chorus_ui.specs.declared.layout.Layout.{Layout}
use Rattle.chorus_entry.specs.declared.entry.Entry.{Entry}
use Rattle.chorus_audit.specs.declared.judging.Audit.{Audit}
use Rattle.chorus_audit.specs.declared.judging.Audit.TheVariants.{Legal, Wrong}
use Rattle.chorus_audit.specs.Report.{IsReport}
use Rattle.chorus_audit.specs.Tests.{IsVerdict, IsWrong}
use Rattle.chorus_audit.proofs.Verdicts.{texts_have_one_verdict}
use Rattle.chorus_audit.proofs.judging.audit_text.Goals as goal

module _ (l : Layout) (text : List ℕ) where
  legal_of : (r : Result Audit AllocError) → IfOk r (IsVerdict l text) → IfOk r (λ a. (n : ℕ) → (a ≡ Legal n) ↔ ((es : List Entry) × IsReport l text es × (length es ≡ n)))
  legal_of (Ok a) h = λ n. (λ e. subst (IsVerdict l text) e h, λ s. texts_have_one_verdict l text a (Legal n) h s)
  legal_of (Err e) h = tt

  wrong_of : (r : Result Audit AllocError) → IfOk r (IsVerdict l text) → IfOk r (λ a. (line rule : ℕ) → (a ≡ Wrong line rule) ↔ IsWrong l text line rule)
  wrong_of (Ok a) h = λ line rule. (λ e. subst (IsVerdict l text) e h, λ s. texts_have_one_verdict l text a (Wrong line rule) h s)
  wrong_of (Err e) h = tt

pub returns-clause-legal : goal.returns-clause-legal
returns-clause-legal c = legal_of c.args.layout c.args.text.now c.judged.result c.judged.ensures

pub returns-clause-wrong : goal.returns-clause-wrong
returns-clause-wrong c = wrong_of c.args.layout c.args.text.now c.judged.result c.judged.ensures
