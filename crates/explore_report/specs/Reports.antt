-- The text of what may come of a race.
-- fs are findings, f is one, all are the lines of each outcome, always those that are in each, n the number of an outcome,
-- from 1, told are facts with the number of the first outcome that has each.
use Rattle.std.specs.Prelude.{ℕ, ◌+◌, ◌-◌, ◌==◌, nat_le, if◌then◌else◌, Bool, false, ◌||◌, List, [], ◌∷◌, ◌++◌, length, codes, decimal}
use Rattle.std.specs.List.{flat_map, insert}
use Rattle.chorus_show.specs.Journal.{count_line}
use Rattle.chorus_show.specs.Phrases.{phrase}
use Rattle.law_explore.specs.declared.moves.Move.{Move}
use Rattle.law_explore.specs.declared.moves.Move.TheVariants.{Go, Carry}
use Rattle.explore_report.specs.declared.explored.Explored.{Explored}
use Rattle.explore_report.specs.declared.findings.Finding.{Finding}
use Rattle.explore_report.specs.Lines.{always_lines, lines_in, others_of, outcomes_with, same_bytes, texts_lines}
use Rattle.explore_report.specs.declared.text.TheConstants.{OUTCOMES_TOLD}
use Rattle.explore_report.specs.declared.text.Told as told

-- The single facts.

pub record Told : Type 0 where
  pub outcome : ℕ
  pub line : List ℕ

-- what stands behind the first word and its space
abbrev pub behind_word : List ℕ → List ℕ
behind_word [] = []
behind_word (b ∷ bs) = if b == 32 then bs else behind_word bs

-- the first words, so many
abbrev pub front_words : ℕ → List ℕ → List ℕ
front_words words [] = []
front_words words (b ∷ bs) =
    if b == 32 || b == 10 then (if nat_le words 1 then [] else b ∷ front_words (words - 1) bs)
    else b ∷ front_words words bs

-- what a line is about: of an answer the two words behind its first, of a message or a port the one
abbrev pub subject_of : List ℕ → List ℕ
subject_of [] = []
subject_of (b ∷ bs) = front_words (if b == 97 then 2 else 1) (behind_word (b ∷ bs))

abbrev pub is_told : List ℕ → List Told → Bool
is_told line [] = false
is_told line (t ∷ told) = same_bytes t.line line || is_told line told

-- behind the last fact of the subject, or behind all
abbrev pub place_from : ℕ → ℕ → List ℕ → List Told → ℕ
place_from n place subject [] = place
place_from n place subject (t ∷ told) =
    place_from (n + 1) (if same_bytes (subject_of t.line) subject then n + 1 else place) subject told

abbrev pub place_in : List ℕ → List Told → ℕ
place_in line told = place_from 0 (length told) (subject_of line) told

abbrev pub tell_line : ℕ → List ℕ → List Told → List Told
tell_line n line told =
    if is_told line told then told else insert told (place_in line told) (record { outcome = n; line = line })

abbrev pub tell_lines : ℕ → List (List ℕ) → List Told → List Told
tell_lines n [] told = told
tell_lines n (line ∷ lines) told = tell_lines n lines (tell_line n line told)

abbrev pub tell_from : ℕ → List (List (List ℕ)) → List Told → List Told
tell_from n [] told = told
tell_from n (lines ∷ all) told = tell_from (n + 1) all (tell_lines n lines told)

abbrev pub facts_of : List (List (List ℕ)) → List Told
facts_of all = tell_from 1 all []

-- The text.

-- a fact with the number of the first outcome that has it, and in how many of all it is
abbrev pub told_line : List (List (List ℕ)) → Told → List ℕ
told_line all t =
    decimal t.outcome ++ 32 ∷ decimal (outcomes_with t.line all) ++ 47 ∷ decimal (length all) ++ 32 ∷ t.line

abbrev pub facts_text : List (List (List ℕ)) → List Told → List ℕ
facts_text all told = count_line (codes "facts") (length told) ++ flat_map (told_line all) told

abbrev pub plain_text : List (List ℕ) → List ℕ
plain_text lines = flat_map (λ (line : List ℕ). line) lines

-- how many outcomes there are, and the lines that are in each
abbrev pub always_text : ℕ → List (List ℕ) → List ℕ
always_text outcomes always =
    count_line (codes "outcomes") outcomes ++ count_line (codes "always") (length always) ++ plain_text always

-- the other lines of an outcome
abbrev pub rest_text : List (List ℕ) → List (List ℕ) → List ℕ
rest_text always lines = plain_text (others_of always lines)

abbrev pub outcomes_from : ℕ → List (List ℕ) → List Finding → List ℕ
outcomes_from n always [] = []
outcomes_from n always (f ∷ fs) =
    10 ∷ count_line (codes "outcome") n ++ count_line (codes "histories") f.histories
    ++ rest_text always (lines_in f.text.items) ++ outcomes_from (n + 1) always fs

abbrev pub are_few : List Finding → Bool
are_few fs = nat_le (length fs) OUTCOMES_TOLD

-- each of them, where they are few
abbrev pub few_outcomes : Bool → List (List ℕ) → List Finding → List ℕ
few_outcomes few always fs = if few then outcomes_from 1 always fs else []

abbrev pub step_line : Move → List ℕ
step_line (Go script) = count_line (codes "step") (script + 1)
step_line (Carry from to) = phrase (codes "deliver") (decimal from ∷ decimal to ∷ []) ++ 10 ∷ []

-- the schedules of those that were told whole, or that a fact names
abbrev pub is_named : ℕ → List Told → Bool
is_named n [] = false
is_named n (t ∷ told) = (t.outcome == n) || is_named n told

abbrev pub is_shown : ℕ → Bool → List Told → Bool
is_shown n few told = few || is_named n told

abbrev pub schedule_text : ℕ → Bool → List Move → List ℕ
schedule_text n shown moves = if shown then 10 ∷ count_line (codes "schedule") n ++ flat_map step_line moves else []

abbrev pub schedules_from : ℕ → Bool → List Told → List Finding → List ℕ
schedules_from n few told [] = []
schedules_from n few told (f ∷ fs) =
    schedule_text n (is_shown n few told) f.moves.items ++ schedules_from (n + 1) few told fs

-- all whole histories were counted, or all that have fewer moves than the bound
abbrev pub limit_line : Bool → ℕ → List ℕ
limit_line is_cut bound = if is_cut then count_line (codes "some") bound else codes "all" ++ 10 ∷ []

abbrev pub outcomes_text : List Finding → List ℕ
outcomes_text fs =
    let always = always_lines (texts_lines fs) in
    always_text (length fs) always ++ few_outcomes (are_few fs) always fs

abbrev pub report_text : Explored → List ℕ
report_text e =
    let fs = e.findings.items.items in
    let all = texts_lines fs in
    count_line (codes "histories") e.histories ++ count_line (codes "events") e.events ++ limit_line e.is_cut e.bound
    ++ facts_text all (facts_of all) ++ outcomes_text fs ++ schedules_from 1 (are_few fs) (facts_of all) fs
    ++ codes "end" ++ 10 ∷ []

-- a fact as the code has it
abbrev pub told_of : told.Told → Told
told_of t = record { outcome = t.outcome; line = t.line.now }
