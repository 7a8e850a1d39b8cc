-- The text of a check.
-- asked are the schedules of which claims are asked, texts are claims as they are spelled, ks are the claims, vs is what is said of them, facts are
-- the lines where the schedules lead, n is the number of a claim.
use Rattle.std.specs.Prelude.{ℕ, ◌+◌, if◌then◌else◌, Bool, List, [], ◌∷◌, ◌++◌, length, reverse, codes, decimal}
use Rattle.std.specs.List.{flat_map}
use Rattle.chorus_claims.specs.Pieces.{Claim}
use Rattle.chorus_show.specs.Journal.{count_line}
use Rattle.chorus_show.specs.Phrases.{phrase}
use Rattle.explore_report.specs.Lines.{lines_in}
use Rattle.explore_report.specs.Reports.{step_line}
use Rattle.chorus_explore.specs.Checked.{Verdict, Holds, Fails, Open}
use Rattle.chorus_check.specs.declared.schedules.Schedules.{Schedules}
use Rattle.chorus_check.specs.declared.schedules.Schedules.TheVariants.{All, Drawn}

-- The words turn where `possible F` is asked, which is kept as `never F`: it holds where a schedule
-- does not meet that.
abbrev pub met_word : Bool → List ℕ
met_word possible = if possible then codes "fails" else codes "holds"

abbrev pub unmet_word : Bool → List ℕ
unmet_word possible = if possible then codes "holds" else codes "fails"

abbrev pub verdict_text : Bool → Verdict → List ℕ
verdict_text possible Holds = met_word possible
verdict_text possible (Fails ms) = phrase (unmet_word possible) (decimal (length ms) ∷ [])
verdict_text possible (Open d) = phrase (codes "open") (decimal d ∷ [])

abbrev pub verdict_line : ℕ → List ℕ → Claim → Verdict → List ℕ
verdict_line n text k v = phrase (decimal n) (verdict_text k.possible v ∷ text ∷ []) ++ 10 ∷ []

abbrev pub verdict_lines : ℕ → List (List ℕ) → List Claim → List Verdict → List ℕ
verdict_lines n (text ∷ texts) (k ∷ ks) (v ∷ vs) = verdict_line n text k v ++ verdict_lines (n + 1) texts ks vs
verdict_lines n _ _ _ = []

-- the schedule that does not meet a claim, and the facts where it leads
abbrev pub schedule_text : ℕ → Verdict → List ℕ → List ℕ
schedule_text n Holds facts = []
schedule_text n (Fails ms) facts =
    count_line (codes "schedule") n ++ flat_map step_line (reverse ms)
    ++ count_line (codes "facts") (length (lines_in facts)) ++ facts
schedule_text n (Open d) facts = []

abbrev pub schedule_texts : ℕ → List Verdict → List (List ℕ) → List ℕ
schedule_texts n (v ∷ vs) (facts ∷ rest) = schedule_text n v facts ++ schedule_texts (n + 1) vs rest
schedule_texts n _ _ = []

-- by what the schedules are drawn, where they are
abbrev pub drawn_line : Schedules → List ℕ
drawn_line (All most) = []
drawn_line (Drawn count first) = phrase (codes "drawn") (decimal count ∷ decimal first ∷ []) ++ 10 ∷ []

abbrev pub check_text : Schedules → ℕ → List (List ℕ) → List Claim → List Verdict → List (List ℕ) → List ℕ
check_text asked events texts ks vs facts =
    drawn_line asked ++ count_line (codes "events") events ++ count_line (codes "claims") (length texts)
    ++ verdict_lines 1 texts ks vs ++ schedule_texts 1 vs facts ++ codes "end" ++ 10 ∷ []
