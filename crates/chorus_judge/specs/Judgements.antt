-- What a journal is judged to be.
use Rattle.std.specs.Prelude.{ℕ, ◌≡◌, ◌↔◌, List, [], ◌∷◌, reverse}
use Rattle.chorus_ui.specs.declared.layout.Layout.{Layout}
use Rattle.chorus_ui.specs.Layout.{IsLayout}
use Rattle.chorus_entry.specs.declared.entry.Entry.{Entry}
use Rattle.law_network.specs.Quiet.{IsQuiet}
use Rattle.law_judge.specs.declared.open.OpenAt.{OpenAt}
use Rattle.law_judge.specs.Open.{all_open}
use Rattle.chorus_audit.specs.declared.judging.Audit.{Audit}
use Rattle.chorus_audit.specs.declared.judging.Audit.TheVariants.{Legal}
use Rattle.chorus_audit.specs.declared.judging.Audit.TheVariants as audits
use Rattle.chorus_audit.specs.Tests.{IsRead}
use Rattle.chorus_judge.specs.declared.judgement.Judgement.{Judgement}
use Rattle.chorus_judge.specs.declared.judgement.Judgement.TheVariants.{Quiet, Open, Wrong}

-- wrong where an audit finds a wrong line, else by whether anything is open
abbrev pub judgement_of : Audit → List OpenAt → Judgement
judgement_of (audits.Wrong line rule) opens = Wrong
judgement_of (audits.Legal n) [] = Quiet
judgement_of (audits.Legal n) (o ∷ opens) = Open

abbrev pub judgement_number : Judgement → ℕ
judgement_number Quiet = 0
judgement_number Open = 8
judgement_number Wrong = 7

-- a text of which this was read is judged Quiet exactly where an audit finds it legal and its entries are a quiet list
abbrev pub QuietIsQuiet : Type 0
QuietIsQuiet =
    (l : Layout) (text : List ℕ) (audit : Audit) (es : List Entry) → IsLayout l → IsRead l text audit es →
    (judgement_of audit (all_open l (reverse es)) ≡ Quiet)
    ↔ (((n : ℕ) × (audit ≡ Legal n)) × IsQuiet l (reverse es) [])
