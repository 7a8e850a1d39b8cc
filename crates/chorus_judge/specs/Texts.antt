-- The text of a judgement: the verdict, how much is open with a line for each thing that is, at most so many, and who sat
-- where.
use Rattle.std.specs.Prelude.{ℕ, zero, suc, List, [], ◌∷◌, ◌++◌, Option, Some, None, codes, decimal, length, take}
use Rattle.std.specs.List.{flat_map}
use Rattle.chorus_ui.specs.declared.layout.Layout.{Layout}
use Rattle.chorus_ui.specs.Text.{name_text}
use Rattle.chorus_entry.specs.declared.entry.Entry.{Entry}
use Rattle.chorus_show.specs.Phrases.{id_text, phrase, spaced}
use Rattle.chorus_show.specs.Journal.{count_line}
use Rattle.chorus_audit.specs.declared.judging.Audit.{Audit}
use Rattle.chorus_audit.specs.declared.judging.Audit.TheVariants.{Legal, Wrong}
use Rattle.chorus_audit.specs.Output.{verdict_text}
use Rattle.law_judge.specs.declared.open.Awaited.{Awaited}
use Rattle.law_judge.specs.declared.open.Awaited.TheVariants.{Verdict, Choice, Told, Heard}
use Rattle.law_judge.specs.declared.open.Open.{Open}
use Rattle.law_judge.specs.declared.open.Open.TheVariants.{Message, Port, Reply}
use Rattle.law_judge.specs.declared.open.OpenAt.{OpenAt}
use Rattle.law_judge.specs.Open.{all_open}
use Rattle.judge_rules.specs.declared.blame.Blame.{Blame}
use Rattle.judge_seats.specs.declared.seating.SeatIn.{SeatIn}
use Rattle.judge_seats.specs.Seats.{first_out, seats_in}
use Rattle.chorus_judge.specs.declared.texts.TheConstants.{TOLD_LIMIT}

-- what a message lacks
abbrev pub awaited_word : Awaited → List ℕ
awaited_word Verdict = codes "verdict"
awaited_word Choice = codes "choose"
awaited_word Told = codes "told"
awaited_word Heard = codes "heard"

-- what is open, and what it lacks
abbrev pub thing_text : Open → List ℕ
thing_text (Message x what) = phrase (codes "message") (id_text x ∷ codes "without" ∷ awaited_word what ∷ [])
thing_text (Port q) = phrase (codes "port") (name_text q ∷ codes "without arrive" ∷ [])
thing_text (Reply x) = phrase (codes "reply") (id_text x ∷ codes "without done" ∷ [])

-- with the line of the entry that it began with
abbrev pub open_line : OpenAt → List ℕ
open_line found = phrase (codes "line") (decimal found.line ∷ thing_text found.what ∷ []) ++ 10 ∷ []

abbrev pub open_lines : List OpenAt → List ℕ
open_lines found = flat_map open_line found

abbrev pub open_text : List OpenAt → List ℕ
open_text found = count_line (codes "open") (length found) ++ open_lines (take TOLD_LIMIT found)

-- a caller, and the actor in which it was
abbrev pub seat_line : SeatIn → List ℕ
seat_line sat = phrase (codes "seat") (decimal sat.seat ∷ name_text sat.actor ∷ []) ++ 10 ∷ []

abbrev pub seat_lines : List SeatIn → List ℕ
seat_lines seats = flat_map seat_line seats

abbrev pub legal_line : ℕ → ℕ → List ℕ
legal_line n line = phrase (codes "legal") (decimal n ∷ codes "line" ∷ decimal line ∷ []) ++ 10 ∷ []

-- of a lawful list of n entries: that it is a run, and who sat where; or the first line that no callers allow
abbrev pub legal_text : ℕ → Option ℕ → List SeatIn → List OpenAt → List ℕ
legal_text n None seats found = count_line (codes "run") n ++ open_text found ++ seat_lines seats
legal_text n (Some line) seats found = legal_line n line ++ open_text found

-- of a wrong line: its rule, which condition of the rule is the first that fails, and the line of the entry that this is
-- about, if there is one; of a line that is no entry what an audit says
abbrev pub about_fields : ℕ → List (List ℕ)
about_fields zero = []
about_fields (suc n) = codes "line" ∷ decimal (suc n) ∷ []

abbrev pub blamed_fields : Blame → List (List ℕ)
blamed_fields b =
    decimal b.line ∷ codes "rule" ∷ decimal b.rule ∷ codes "condition" ∷ decimal b.condition ∷ []

abbrev pub blamed_line : Blame → List ℕ
blamed_line b = phrase (codes "wrong line") (blamed_fields b)

abbrev pub blame_text : Blame → List ℕ
blame_text b = blamed_line b ++ spaced (about_fields b.about) ++ 10 ∷ []

abbrev pub wrong_text : Audit → Option Blame → List ℕ
wrong_text audit None = verdict_text audit
wrong_text audit (Some b) = blame_text b

-- of what an audit finds, what is blamed, and the entries that were read, the newest first
abbrev pub judged_text : Layout → Audit → Option Blame → List Entry → List ℕ
judged_text l (Wrong line rule) blame past = wrong_text (Wrong line rule) blame ++ open_text (all_open l past)
judged_text l (Legal n) blame past = legal_text n (first_out l past) (seats_in l past) (all_open l past)
