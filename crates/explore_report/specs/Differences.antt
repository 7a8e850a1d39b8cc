-- What the text tells of outcomes by difference.
-- all are the lines of each outcome, always those that are in each.
use Rattle.std.specs.Prelude.{ℕ, ◌≢◌, ◌⊎◌, List, []}
use Rattle.std.specs.List.{All, Contains}
use Rattle.explore_report.specs.declared.findings.Finding.{Finding}
use Rattle.explore_report.specs.Lines.{always_lines, others_of, texts_lines}

-- the lines of an outcome are those that are in each, and its others: none made up, none missing
pub record AreWhole (always lines : List (List ℕ)) : Type 0 where
  pub in_each : All (Contains lines) always
  pub others : All (Contains lines) (others_of always lines)
  pub none_missing : All (λ (line : List ℕ). Contains always line ⊎ Contains (others_of always lines) line) lines

-- so it is of each outcome, and what is in all of them is told to be
pub record TellByDifference (all : List (List (List ℕ))) : Type 0 where
  pub outcomes : All (AreWhole (always_lines all)) all
  pub always : (line : List ℕ) → all ≢ [] → All (λ (lines : List (List ℕ)). Contains lines line) all →
      Contains (always_lines all) line

abbrev pub DifferencesTellOutcomes : Type 0
DifferencesTellOutcomes = (fs : List Finding) → TellByDifference (texts_lines fs)
