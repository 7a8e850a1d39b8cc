-- What is read of a text, whatever its entries say.
use Rattle.std.specs.Prelude.{◌≡◌, ℕ, ◌+◌, ◌<◌, ◌≤◌, ◌^◌, List, [], ◌++◌, length, Option, Some, None}
use Rattle.std.specs.List.{flat_map}
use Rattle.chorus_entry.specs.declared.entry.Entry.{Entry}
use Rattle.chorus_show.specs.Bounds.{AreWithin, IsWithin}
use Rattle.chorus_show.specs.Lines.{entry_text}
use Rattle.chorus_show.specs.Report.{report_with}
use Rattle.chorus_show.specs.declared.stuck.Stuck.{Stuck}
use Rattle.chorus_audit.specs.declared.limits.TheConstants.{NO_LINE}
use Rattle.chorus_audit.specs.Stuck.{AreStuck}
use Rattle.chorus_audit.specs.Tests.{head, FailsAtHead, IsNoEntry, IsNoSummary}

-- the text begins with the line of the entry, and this stands behind it
pub record BeginsWithEntry (text : List ℕ) (e : Entry) (rest : List ℕ) : Type 0 where
  pub within : IsWithin e
  pub is : text ≡ entry_text e ++ rest

-- the text begins with the line `journal N` and the lines of these entries, at most N, and this is the rest
pub record BeginsWith (text : List ℕ) (n : ℕ) (es : List Entry) (rest : List ℕ) : Type 0 where
  pub number : n < 2 ^ 32
  pub few : length es ≤ n
  pub within : AreWithin es
  pub is : text ≡ head n ++ (flat_map entry_text es ++ rest)

-- the line behind these entries is that of no entry, where there are to be more
pub record StopsAtEntry (text : List ℕ) (line : ℕ) (es : List Entry) : Type 0 where
  pub told : ℕ
  pub rest : List ℕ
  pub begins : BeginsWith text told es rest
  pub more_told : length es < told
  pub no_entry : IsNoEntry rest NO_LINE
  pub is_line : line ≡ length es + 2

-- what stands behind the entries is not their summary
pub record StopsAtSummary (text : List ℕ) (line : ℕ) (es : List Entry) : Type 0 where
  pub rest : List ℕ
  pub begins : BeginsWith text (length es) es rest
  pub shared : ℕ
  pub none : IsNoSummary es rest shared
  pub is_line : line ≡ length es + 2 + shared

-- the first line that is none that may stand there, and the entries in front of it
pub data Stops (text : List ℕ) (line : ℕ) (es : List Entry) : Type 0 where
  AtHead : FailsAtHead text line NO_LINE → es ≡ [] → Stops text line es
  AtEntry : StopsAtEntry text line es → Stops text line es
  AtSummary : StopsAtSummary text line es → Stops text line es

-- the text is the journal text and the summary text of these entries, in which these scripts are stuck
pub record IsWhole (text : List ℕ) (es : List Entry) : Type 0 where
  pub number : length es < 2 ^ 32
  pub within : AreWithin es
  pub stuck : List Stuck
  pub are : AreStuck es 0 stuck
  pub is : text ≡ report_with stuck es

-- the entries that were read, and the line where the text stops, if it does
abbrev pub AreLines : List ℕ → List Entry → Option ℕ → Type 0
AreLines text es None = IsWhole text es
AreLines text es (Some line) = Stops text line es
