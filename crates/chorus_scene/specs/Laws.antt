-- What holds of every text.
use Rattle.std.specs.Prelude.{◌≡◌, ℕ, ◌+◌, ◌≤◌, ◌<◌, List, [], ◌∷◌, ◌++◌, length, true, false, Ok, Err}
use Rattle.chorus_lines.specs.declared.word.Reason.{Reason}
use Rattle.chorus_ui.specs.declared.layout.Layout.{Layout}
use Rattle.chorus_scene.specs.declared.limits.TheConstants.{TEXT_LIMIT}
use Rattle.chorus_lines.specs.Text.{lines}
use Rattle.chorus_scene.specs.Grammar.{State, opening, next, read_scene, is_ended}
use Rattle.chorus_lines.specs.Reasons.{reason_number}
use Rattle.chorus_scene.specs.Scene.{Scene}
use Rattle.chorus_scene.specs.Print.{printed, IsReadAgain}

-- The lines are tested in order: the first one that fails a test is the line of the fault, and its reason that of the
-- first test that it fails. A text with none says what its lines say, or lacks its end.
-- none of the lines fails a test, and they lead from s to t
abbrev pub Pass : State → List (List ℕ) → State → Type 0
Pass s [] t = s ≡ t
Pass s (line ∷ lines) t = (u : State) × (next s line ≡ Ok u) × Pass u lines t

-- a text that is too long is refused at line 0
abbrev pub TooLong : Type 0
TooLong = (l : Layout) (text : List ℕ) → TEXT_LIMIT < length text → read_scene l text ≡ Err (0, 6)

abbrev pub FirstFault : Type 0
FirstFault = (l : Layout) (text : List ℕ) (front : List (List ℕ)) (line : List ℕ) (rest : List (List ℕ)) (s : State)
    (reason : Reason)
    → length text ≤ TEXT_LIMIT → lines text ≡ front ++ line ∷ rest → Pass (opening l) front s → next s line ≡ Err reason
    → read_scene l text ≡ Err (length front + 1, reason_number reason)

abbrev pub NoEnd : Type 0
NoEnd = (l : Layout) (text : List ℕ) (s : State) → length text ≤ TEXT_LIMIT → Pass (opening l) (lines text) s →
    is_ended s.section ≡ false
    → read_scene l text ≡ Err (length (lines text) + 1, 9)

abbrev pub Accepted : Type 0
Accepted = (l : Layout) (text : List ℕ) (s : State) → length text ≤ TEXT_LIMIT → Pass (opening l) (lines text) s →
    is_ended s.section ≡ true
    → read_scene l text ≡ Ok s.scene

-- a scenario that was read keeps the layout, and what is printed of it is no longer than the text and says the same
abbrev pub PrintedAgain : Type 0
PrintedAgain = (l : Layout) (text : List ℕ) (c : Scene) → read_scene l text ≡ Ok c →
    (c.layout ≡ l) × (length (printed c) ≤ length text) × IsReadAgain c
