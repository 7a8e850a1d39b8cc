-- The tests of an audit: the first line of a text that fails, and by which rule.
use Rattle.std.specs.Prelude.{◌≡◌, ◌≢◌, ℕ, ◌+◌, ◌<◌, ◌≤◌, ◌^◌, ◌==◌, if◌then◌else◌, true, false, List, [], ◌∷◌, ◌++◌, length, reverse, codes}
use Rattle.std.specs.List.{flat_map}
use Rattle.std.specs.Prelude.{◌⊎◌}
use Rattle.chorus_ui.specs.declared.layout.Layout.{Layout}
use Rattle.chorus_entry.specs.declared.entry.Entry.{Entry}
use Rattle.chorus_world.specs.Steps.{may, is_legal}
use Rattle.chorus_checker.specs.Rules.{rule_of}
use Rattle.chorus_show.specs.Lines.{entry_text}
use Rattle.chorus_show.specs.Journal.{count_line}
use Rattle.chorus_show.specs.declared.stuck.Stuck.{Stuck}
use Rattle.chorus_show.specs.Report.{summary_with}
use Rattle.chorus_audit.specs.declared.limits.TheConstants.{NO_LINE}
use Rattle.chorus_audit.specs.declared.judging.Audit.{Audit}
use Rattle.chorus_audit.specs.declared.judging.Audit.TheVariants.{Legal, Wrong}
use Rattle.chorus_show.specs.Bounds.{IsWithin, AreWithin}
use Rattle.chorus_audit.specs.Report.{IsReport}
use Rattle.chorus_audit.specs.Stuck.{AreStuck}

-- the line `journal N`, N being below 2^32
abbrev pub head : ℕ → List ℕ
head n = count_line (codes "journal") n

-- the first line is none
pub record FailsAtHead (text : List ℕ) (line rule : ℕ) : Type 0 where
  pub is_first : line ≡ 1
  pub is_rule : rule ≡ NO_LINE
  pub no_head : (n : ℕ) (rest : List ℕ) → n < 2 ^ 32 → text ≢ head n ++ rest

-- the text begins with the line `journal N` and the lines of these entries, a legal list of at most N, and this is the
-- rest
pub record Begins (l : Layout) (text : List ℕ) (n : ℕ) (es : List Entry) (rest : List ℕ) : Type 0 where
  pub number : n < 2 ^ 32
  pub few : length es ≤ n
  pub within : AreWithin es
  pub legal : is_legal l (reverse es) ≡ true
  pub is : text ≡ head n ++ (flat_map entry_text es ++ rest)

-- the next line is the line of no entry; or of one that may not come next
pub record IsNoEntry (rest : List ℕ) (rule : ℕ) : Type 0 where
  pub is_rule : rule ≡ NO_LINE
  pub no_entry : (e : Entry) (more : List ℕ) → IsWithin e → rest ≢ entry_text e ++ more

pub record IsUnlawful (l : Layout) (past : List Entry) (rest : List ℕ) (rule : ℕ) : Type 0 where
  pub entry : Entry
  pub more : List ℕ
  pub within : IsWithin entry
  pub is : rest ≡ entry_text entry ++ more
  pub unlawful : may l past entry ≡ false
  pub is_rule : rule ≡ rule_of l past entry

-- the entry behind these entries fails
pub record FailsAtEntry (l : Layout) (text : List ℕ) (line rule : ℕ) : Type 0 where
  pub told : ℕ
  pub entries : List Entry
  pub rest : List ℕ
  pub begins : Begins l text told entries rest
  pub more_told : length entries < told
  pub is_line : line ≡ length entries + 2
  pub fails : IsNoEntry rest rule ⊎ IsUnlawful l (reverse entries) rest rule

-- how many lines, each with its LF, two texts have in common before they differ
abbrev pub lines_shared : List ℕ → List ℕ → ℕ
lines_shared [] ds = 0
lines_shared (c ∷ cs) [] = 0
lines_shared (c ∷ cs) (d ∷ ds) = if c == d then (if c == 10 then 1 + lines_shared cs ds else lines_shared cs ds) else 0

-- a text is the summary of these entries, in which some scripts are stuck
abbrev pub IsSummary : List Entry → List ℕ → Type 0
IsSummary es rest = (stuck : List Stuck) × AreStuck es 0 stuck × (rest ≡ summary_with stuck es)

-- It is none. With one of them it shares so many lines, and with none more.
pub record IsNoSummary (es : List Entry) (rest : List ℕ) (shared : ℕ) : Type 0 where
  pub differs : IsSummary es rest → ⊥
  pub stuck : List Stuck
  pub are : AreStuck es 0 stuck
  pub shares : shared ≡ lines_shared rest (summary_with stuck es)
  pub most : (others : List Stuck) → AreStuck es 0 others → lines_shared rest (summary_with others es) ≤ shared

-- what stands behind the entries is not their summary
pub record FailsAtSummary (l : Layout) (text : List ℕ) (line rule : ℕ) : Type 0 where
  pub entries : List Entry
  pub rest : List ℕ
  pub begins : Begins l text (length entries) entries rest
  pub shared : ℕ
  pub none : IsNoSummary entries rest shared
  pub is_line : line ≡ length entries + 2 + shared
  pub is_rule : rule ≡ NO_LINE

-- the first line that fails, and its rule
pub data IsWrong (l : Layout) (text : List ℕ) (line rule : ℕ) : Type 0 where
  AtHead : FailsAtHead text line rule → IsWrong l text line rule
  AtEntry : FailsAtEntry l text line rule → IsWrong l text line rule
  AtSummary : FailsAtSummary l text line rule → IsWrong l text line rule

-- what the audit finds: the entries that the text is the report of, or where it fails
abbrev pub IsVerdict : Layout → List ℕ → Audit → Type 0
IsVerdict l text (Legal n) = (es : List Entry) × IsReport l text es × (length es ≡ n)
IsVerdict l text (Wrong line rule) = IsWrong l text line rule

-- the entries in front of the line that fails
abbrev pub entries_before : {l : Layout} {text : List ℕ} {line rule : ℕ} → IsWrong l text line rule → List Entry
entries_before (AtHead fails) = []
entries_before (AtEntry fails) = fails.entries
entries_before (AtSummary fails) = fails.entries

-- what the audit finds, and the entries that were read: all of the report, or those in front of the line that fails
abbrev pub IsRead : Layout → List ℕ → Audit → List Entry → Type 0
IsRead l text (Legal n) es = IsReport l text es × (length es ≡ n)
IsRead l text (Wrong line rule) es = (wrong : IsWrong l text line rule) × (es ≡ entries_before wrong)

-- a text has one verdict
abbrev pub TextsHaveOneVerdict : Type 0
TextsHaveOneVerdict = (l : Layout) (text : List ℕ) (a b : Audit) → IsVerdict l text a → IsVerdict l text b → a ≡ b
