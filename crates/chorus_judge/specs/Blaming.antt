-- What is blamed for a wrong line.
use Rattle.std.specs.Prelude.{◌≡◌, ◌≢◌, ◌⊎◌, ℕ, zero, suc, false, List, [], ◌++◌, Option, Some, None, reverse, unwrap_or}
use Rattle.std.specs.List.{flat_map}
use Rattle.chorus_ui.specs.declared.layout.Layout.{Layout}
use Rattle.chorus_entry.specs.declared.entry.Entry.{Entry}
use Rattle.chorus_world.specs.Steps.{may}
use Rattle.chorus_checker.specs.Rules.{rule_of}
use Rattle.chorus_lines.specs.Text.{cut}
use Rattle.chorus_show.specs.Bounds.{IsWithin}
use Rattle.chorus_show.specs.Lines.{entry_text}
use Rattle.chorus_audit.specs.declared.judging.Audit.{Audit}
use Rattle.chorus_audit.specs.declared.judging.Audit.TheVariants.{Legal, Wrong}
use Rattle.chorus_audit.specs.declared.limits.TheConstants.{NO_LINE}
use Rattle.chorus_audit.specs.Tests.{head, IsRead}
use Rattle.judge_rules.specs.declared.blame.Blame.{Blame}
use Rattle.judge_rules.specs.Blames.{blame}
use Rattle.judge_rules.specs.Laws.{IsTakeBlame}

-- of an entry: its line stands in the text behind those of the entries that were read, and by this rule it may not come
-- next
pub record IsBlamedFor (l : Layout) (text : List ℕ) (rule : ℕ) (es : List Entry) (b : Blame) : Type 0 where
  pub entry : Entry
  pub told : ℕ
  pub rest : List ℕ
  pub stands : text ≡ head told ++ (flat_map entry_text es ++ (entry_text entry ++ rest))
  pub within : IsWithin entry
  pub unlawful : may l (reverse es) entry ≡ false
  pub is_rule : rule ≢ NO_LINE
  pub by_rule : rule ≡ rule_of l (reverse es) entry
  pub is : b ≡ blame l (reverse es) entry

-- by what an audit finds: nothing is blamed where no line is wrong, or the one that is has no entry
abbrev pub BlamesBy : Layout → List ℕ → Audit → List Entry → Option Blame → Type 0
BlamesBy l text (Legal n) es b = b ≡ None
BlamesBy l text (Wrong line rule) es None = rule ≡ NO_LINE
BlamesBy l text (Wrong line rule) es (Some b) = IsBlamedFor l text rule es b

-- line and rule are those of the audit; or the take before that line is blamed, and the line is named
abbrev pub AgreesOn : ℕ → ℕ → List Entry → Blame → Type 0
AgreesOn line rule es b =
    ((b.line ≡ line) × (b.rule ≡ rule)) ⊎ (((e : Entry) × IsTakeBlame (reverse es) e b) × (b.about ≡ line))

abbrev pub BlamesAgreeWithAudits : Type 0
BlamesAgreeWithAudits =
    (l : Layout) (text : List ℕ) (line rule : ℕ) (es : List Entry) (b : Blame) →
    IsRead l text (Wrong line rule) es → BlamesBy l text (Wrong line rule) es (Some b) → AgreesOn line rule es b

-- what stands behind so many lines of a text
abbrev pub behind_line : List ℕ → List ℕ
behind_line text = unwrap_or (cut 10 text).1 []

abbrev pub behind_lines : ℕ → List ℕ → List ℕ
behind_lines zero text = text
behind_lines (suc n) text = behind_line (behind_lines n text)
