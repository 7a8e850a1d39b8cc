-- What the single facts of outcomes tell.
-- fs are the outcomes that were found, told the single facts, a line is a fact's.
use Rattle.std.specs.Prelude.{ℕ, ◌≡◌, ◌+◌, true, List, [], ◌∷◌, Some, slice_get, Contains}
use Rattle.explore_report.specs.declared.findings.Finding.{Finding}
use Rattle.explore_report.specs.Lines.{lines_in, texts_lines}
use Rattle.explore_report.specs.Reports.{Told, is_told, facts_of}

-- the fact is a line of the outcome that it names, counted from 1
pub record IsShownBy (fs : List Finding) (t : Told) : Type 0 where
  pub place : ℕ
  pub finding : Finding
  pub stands : slice_get fs place ≡ Some finding
  pub number : t.outcome ≡ place + 1
  pub has : Contains (lines_in finding.text.items) t.line

abbrev pub AreShown : List Finding → List Told → Type 0
AreShown fs [] = Unit {0}
AreShown fs (t ∷ told) = IsShownBy fs t × AreShown fs told

-- they are lines of outcomes, none made up, and none is missing
pub record TellSingles (fs : List Finding) (told : List Told) : Type 0 where
  pub shown : AreShown fs told
  pub all : (place : ℕ) (f : Finding) (line : List ℕ) → slice_get fs place ≡ Some f →
      Contains (lines_in f.text.items) line → is_told line told ≡ true

-- so it is of those that are told
abbrev pub FactsTellOutcomes : Type 0
FactsTellOutcomes = (fs : List Finding) → TellSingles fs (facts_of (texts_lines fs))
