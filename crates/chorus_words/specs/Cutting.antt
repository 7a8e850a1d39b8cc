-- How the words are cut: at most three, of which each is a value.
use Rattle.std.specs.Prelude.{ℕ, ◌≡◌, ◌==◌, ◌≤◌, Bool, true, false, not, List, [], ◌∷◌, Option, length, slice_get, codes}
use Rattle.clap.specs.Words.{App, first_value, found_of, new_app, new_rule, with_rule}
use Rattle.clap.specs.Simple.{on_top}
use Rattle.clap.specs.declared.parser.matches.ArgMatches.{ArgMatches}
use Rattle.chorus_words.specs.declared.words.Words.{Words}
use Rattle.chorus_words.specs.Words.{IsWithin, spelled}

-- a word that is not empty and does not begin with `-` (45)
abbrev pub is_value : List ℕ → Bool
is_value [] = false
is_value (c ∷ cs) = not (c == 45)

-- the command, as clap sees it
abbrev pub the_command : App
the_command = with_rule (with_rule (with_rule
    (on_top (λ s. record s { no_binary_name = true }) (new_app (codes "chorus")))
    (new_rule (codes "what"))) (new_rule (codes "first"))) (new_rule (codes "second"))

-- the first word, the second and the third, where there are so many, ask this
abbrev pub AskByThree : Option (List ℕ) → Option (List ℕ) → Option (List ℕ) → Words → Type 0
AskByThree what first second asked =
    (what ≡ slice_get (spelled asked) 0) × (first ≡ slice_get (spelled asked) 1) ×
    (second ≡ slice_get (spelled asked) 2) × IsWithin asked

-- the words are at most three, and each is found under its name
pub record IsCut (words : List (List ℕ)) (matches : ArgMatches) : Type 0 where
  pub few : length words ≤ 3
  pub what : first_value (found_of matches) (codes "what") ≡ slice_get words 0
  pub first : first_value (found_of matches) (codes "first") ≡ slice_get words 1
  pub second : first_value (found_of matches) (codes "second") ≡ slice_get words 2
