-- What an audit did to its source and sink, by its status.
use Rattle.std.specs.Prelude.{◌≡◌, ℕ, List, [], ◌∷◌, ◌++◌, codes, decimal, Option, IfSome}
use Rattle.std.specs.Io.KnownBytes.{Appends}
use Rattle.chorus_ui.specs.declared.layout.Layout.{Layout}
use Rattle.chorus_io.specs.Bytes.{AppendsPrefix, IsReadWhole, IsReadWithin, IsTooLong}
use Rattle.chorus_show.specs.Phrases.{phrase}
use Rattle.chorus_show.specs.declared.status.Status.{Status}
use Rattle.chorus_show.specs.declared.status.Status.TheVariants.{Done, Usage, Scenario, ReadFault, WriteFault, Memory, Worn}
use Rattle.chorus_show.specs.declared.status.TheConstants.Status.{TOO_LONG}
use Rattle.chorus_audit.specs.declared.judging.Audit.{Audit}
use Rattle.chorus_audit.specs.declared.judging.Audit.TheVariants.{Legal, Wrong}
use Rattle.chorus_audit.specs.declared.limits.TheConstants.{AUDIT_LIMIT}
use Rattle.chorus_audit.specs.Tests.{IsVerdict}

-- the line of a verdict
abbrev pub verdict_text : Audit → List ℕ
verdict_text (Legal n) = phrase (codes "legal") (decimal n ∷ []) ++ 10 ∷ []
verdict_text (Wrong line rule) =
    phrase (codes "wrong line") (decimal line ∷ codes "rule" ∷ decimal rule ∷ []) ++ 10 ∷ []

-- how an audit ends, and what it read: the byte above the limit exactly at Scenario
abbrev pub ReadsBy : Status → Option (List ℕ) → Option (List ℕ) → Type 0
ReadsBy Done old new = (bytes : List ℕ) × IsReadWhole AUDIT_LIMIT bytes old new
ReadsBy WriteFault old new = (bytes : List ℕ) × IsReadWhole AUDIT_LIMIT bytes old new
ReadsBy (Scenario line reason) old new =
    (Scenario line reason ≡ TOO_LONG) × ((bytes : List ℕ) × IsTooLong AUDIT_LIMIT bytes old new)
ReadsBy ReadFault old new = (bytes : List ℕ) × IsReadWithin AUDIT_LIMIT bytes old new
ReadsBy Memory old new = (bytes : List ℕ) × IsReadWithin AUDIT_LIMIT bytes old new
ReadsBy Usage old new = ⊥
ReadsBy (Worn clock) old new = ⊥

-- the sink took the line of the verdict on what the source had at Done, a prefix of it at WriteFault, and nothing with
-- any other status
abbrev pub Prints : Layout → Status → Option (List ℕ) → Option (List ℕ) → Option (List ℕ) → Type 0
Prints l Done input old new =
    (audit : Audit) × IfSome input (λ text. IsVerdict l text audit) × Appends old new (verdict_text audit)
Prints l WriteFault input old new =
    (audit : Audit) × IfSome input (λ text. IsVerdict l text audit) × AppendsPrefix old new (verdict_text audit)
Prints l _ input old new = new ≡ old
