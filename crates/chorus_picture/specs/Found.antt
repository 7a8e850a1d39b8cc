-- What stands below the rows: what was found of a text, and the legend.
-- es are the entries that were read, summary is what stands behind them, n is their number, y where their rows end.
use Rattle.std.specs.Prelude.{ℕ, ◌+◌, ◌-◌, ◌==◌, ◌||◌, if◌then◌else◌, List, [], ◌∷◌, ◌++◌, codes, drop, length}
use Rattle.std.specs.List.{flat_map}
use Rattle.chorus_entry.specs.declared.entry.Entry.{Entry}
use Rattle.chorus_show.specs.Phrases.{byte_text}
use Rattle.chorus_show.specs.Journal.{journal_lines}
use Rattle.chorus_ui.specs.declared.layout.Layout.{Layout}
use Rattle.chorus_audit.specs.declared.judging.Audit.{Audit}
use Rattle.chorus_audit.specs.declared.judging.Audit.TheVariants.{Legal, Wrong}
use Rattle.chorus_audit.specs.Tests.{IsRead, IsSummary}
use Rattle.chorus_picture.specs.declared.style.TheConstants.{LEGEND}
use Rattle.picture_texts.specs.Filling.{filled, markup, shown}
use Rattle.chorus_picture.specs.RuleWords.{rule_words}

-- a text behind so many lines
abbrev pub behind_lines : ℕ → List ℕ → List ℕ
behind_lines n [] = []
behind_lines n (c ∷ cs) = if n == 0 then c ∷ cs else behind_lines (if c == 10 then n - 1 else n) cs

-- the first bytes of its line, at most so many
abbrev pub line_bytes : ℕ → List ℕ → List ℕ
line_bytes n [] = []
line_bytes n (c ∷ cs) = if (n == 0) || (c == 10) then [] else c ∷ line_bytes (n - 1) cs

-- what stands behind the lines of these entries
abbrev pub behind_entries : List ℕ → List Entry → List ℕ
behind_entries text es = drop (length (journal_lines es)) (behind_lines 1 text)

-- where all is lawful that is their summary
abbrev pub LawfulTextsHaveSummaries : Type 0
LawfulTextsHaveSummaries =
    (l : Layout) (text : List ℕ) (n : ℕ) (es : List Entry) → IsRead l text (Legal n) es →
    IsSummary es (behind_entries text es)

-- all is lawful
unfoldable pub lawful_front : ℕ → ℕ → List ℕ
lawful_front n y =
    filled (codes "<text x='8' y='@'>@ entries, all lawful</text><text class='sum' x='8' y='@'>")
    ((y + 22) ∷ n ∷ (y + 40) ∷ [])

abbrev pub lawful_text : List ℕ → ℕ → ℕ → List ℕ
lawful_text summary n y = lawful_front n y ++ markup summary ++ codes "</text>\n"

-- or this line is wrong; one that is cut has more than 72 characters
unfoldable pub wrong_front : ℕ → ℕ → List ℕ
wrong_front line y = filled (codes "<text class='wrong' x='8' y='@'>line @ is wrong: ") ((y + 22) ∷ line ∷ [])

unfoldable pub rule_front : ℕ → ℕ → List ℕ
rule_front rule y = filled (codes "</text><text class='wrong' x='8' y='@'>rule @: ") ((y + 40) ∷ rule ∷ [])

abbrev pub wrong_text : List ℕ → ℕ → ℕ → ℕ → List ℕ
wrong_text text line rule y =
    wrong_front line y ++ shown (flat_map byte_text (line_bytes 73 (behind_lines (line - 1) text)))
    ++ rule_front rule y ++ markup (rule_words rule) ++ codes "</text>\n"

abbrev pub found_by : List ℕ → List ℕ → Audit → ℕ → List ℕ
found_by text summary (Legal n) y = lawful_text summary n y
found_by text summary (Wrong line rule) y = wrong_text text line rule y

abbrev pub found_text : List ℕ → List Entry → Audit → ℕ → List ℕ
found_text text es audit y = found_by text (behind_entries text es) audit y

unfoldable pub foot_front : ℕ → List ℕ
foot_front y = filled (codes "<g transform='translate(0 @)'>\n") ((y + 56) ∷ [])

abbrev pub foot : ℕ → List ℕ
foot y = foot_front y ++ LEGEND.now ++ codes "</g>\n</svg>\n"
