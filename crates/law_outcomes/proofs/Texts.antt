-- The third line of an exploration's text.
-- e is what a search came to, s, t and more are bytes, b and x are bytes of them.
use Rattle.std.proofs.Common.{ℕ, ◌≡◌, ◌<◌, ◌^◌, ◌==◌, Bool, true, false, not, cond, List, [], ◌∷◌, ◌++◌, length, codes, decimal, Some, slice_get, refl, sym, ◌∙◌, ap, append_assoc, append-nil, arith}
use Rattle.std.proofs.lemmas.Bool.{and_parts, false≢true, not-true}
use Rattle.std.proofs.lemmas.Bool.Decides.{nat_tests}
use Rattle.chorus_show.specs.Journal.{count_line}
use Rattle.chorus_show.specs.Phrases.{phrase, spaced}
use Rattle.chorus_show.specs.Reading.{lacks}
use Rattle.chorus_show.proofs.LineBack.{count_lacks}
use Rattle.law_explore.specs.Explores.{told_number}
use Rattle.explore_report.specs.declared.explored.Explored.{Explored}
use Rattle.explore_report.specs.Lines.{lines_from, lines_in, texts_lines}
use Rattle.explore_report.specs.Reports.{are_few, facts_of, facts_text, limit_line, outcomes_text, report_text, schedules_from}
use Rattle.law_outcomes.specs.Texts.{AllIsUncut}

-- A line, and the lines behind it.

first-line : (before s more : List ℕ) → lacks 10 s ≡ true → lines_from before (s ++ 10 ∷ more) ≡ ((before ++ s) ++ 10 ∷ []) ∷ lines_from [] more
first-line before [] more h = ap (λ xs. (xs ++ 10 ∷ []) ∷ lines_from [] more) (sym (append-nil before))
first-line before (b ∷ s) more h =
    let both = and_parts (not (b == 10)) (lacks 10 s) h in
    ap (λ (q : Bool). cond q ((before ++ b ∷ []) ∷ lines_from [] (s ++ 10 ∷ more)) (lines_from (before ++ b ∷ []) (s ++ 10 ∷ more))) (not-true (b == 10) both.0)
    ∙ first-line (before ++ b ∷ []) s more both.1
    ∙ ap (λ xs. (xs ++ 10 ∷ []) ∷ lines_from [] more) (append_assoc before (b ∷ []) s)

ended : (s more : List ℕ) → (s ++ 10 ∷ []) ++ more ≡ s ++ 10 ∷ more
ended s more = append_assoc s (10 ∷ []) more

counted : (word : List ℕ) (n : ℕ) (more : List ℕ) → lacks 10 (phrase word (decimal n ∷ [])) ≡ true → lines_in (count_line word n ++ more) ≡ count_line word n ∷ lines_in more
counted word n more h = ap lines_in (ended (phrase word (decimal n ∷ [])) more) ∙ first-line [] (phrase word (decimal n ∷ [])) more h

-- a line goes on as it begins
begins : (b : ℕ) (before xs line : List ℕ) → slice_get (lines_from (b ∷ before) xs) 0 ≡ Some line → slice_get line 0 ≡ Some b
begins b before [] line e = absurd (cc)
begins b before (x ∷ xs) line e = by (x == 10) e (begins b (before ++ x ∷ []) xs line)
  where
    by : (q : Bool) → slice_get (cond q ((b ∷ before ++ x ∷ []) ∷ lines_from [] xs) (lines_from (b ∷ before ++ x ∷ []) xs)) 0 ≡ Some line
        → (slice_get (lines_from (b ∷ before ++ x ∷ []) xs) 0 ≡ Some line → slice_get line 0 ≡ Some b) → slice_get line 0 ≡ Some b
    by true f ih = (let same : b ∷ before ++ x ∷ [] ≡ line = cc in ap (λ (ys : List ℕ). slice_get ys 0) (sym same))
    by false f ih = ih f

-- no two numbers are one
apart : (a b : ℕ) → a < b → Some a ≡ Some b → ⊥
apart a b lt e = (let same : a ≡ b = cc in omega (arith, lt, same))

-- a number as it is told is below 2^64
min-below : (m n : ℕ) → m ≡ told_number n → m < 2 ^ 64
min-below m n e = grind (arith, nat_tests)

-- The text.

abbrev rest : Explored → List ℕ
rest e =
    let fs = e.findings.items.items in
    let all = texts_lines fs in
    facts_text all (facts_of all) ++ (outcomes_text fs ++ (schedules_from 1 (are_few fs) (facts_of all) fs ++ (codes "end" ++ 10 ∷ [])))

third-of : (a b c d e f g : List ℕ) → a ++ b ++ c ++ d ++ e ++ f ++ g ≡ a ++ (b ++ (c ++ (d ++ (e ++ (f ++ g)))))
third-of a b c d e f g =
    append_assoc ((((a ++ b) ++ c) ++ d) ++ e) f g ∙ append_assoc (((a ++ b) ++ c) ++ d) e (f ++ g) ∙ append_assoc ((a ++ b) ++ c) d (e ++ (f ++ g))
    ∙ append_assoc (a ++ b) c (d ++ (e ++ (f ++ g))) ∙ append_assoc a b (c ++ (d ++ (e ++ (f ++ g))))

third : (e : Explored) → e.histories < 2 ^ 64 → e.events < 2 ^ 64 → slice_get (lines_in (report_text e)) 2 ≡ slice_get (lines_in (limit_line e.is_cut e.bound ++ rest e)) 0
third e few many =
    let fs = e.findings.items.items in
    let all = texts_lines fs in
    let limit = limit_line e.is_cut e.bound in
    ap (λ text. slice_get (lines_in text) 2)
    (append_assoc (count_line (codes "histories") e.histories ++ count_line (codes "events") e.events ++ limit ++ facts_text all (facts_of all) ++ outcomes_text fs ++ schedules_from 1 (are_few fs) (facts_of all) fs) (codes "end") (10 ∷ [])
    ∙ third-of (count_line (codes "histories") e.histories) (count_line (codes "events") e.events) limit (facts_text all (facts_of all)) (outcomes_text fs) (schedules_from 1 (are_few fs) (facts_of all) fs) (codes "end" ++ 10 ∷ []))
    ∙ ap (λ lines. slice_get lines 2)
    (counted (codes "histories") e.histories (count_line (codes "events") e.events ++ (limit ++ rest e)) (count_lacks (codes "histories") e.histories refl few)
    ∙ ap (λ lines. count_line (codes "histories") e.histories ∷ lines) (counted (codes "events") e.events (limit ++ rest e) (count_lacks (codes "events") e.events refl many)))

all-is : (cut : Bool) (bound : ℕ) (more : List ℕ) → slice_get (lines_in (limit_line cut bound ++ more)) 0 ≡ Some (codes "all" ++ 10 ∷ []) → cut ≡ false
all-is false bound more h = refl
all-is true bound more h = absurd (apart 97 115 (omega arith) (begins 115 [] (((codes "ome" ++ spaced (decimal bound ∷ [])) ++ 10 ∷ []) ++ more) (codes "all" ++ 10 ∷ []) h))

uncut-is : (cut : Bool) (bound : ℕ) (more : List ℕ) → cut ≡ false → slice_get (lines_in (limit_line cut bound ++ more)) 0 ≡ Some (codes "all" ++ 10 ∷ [])
uncut-is false bound more h = refl
uncut-is true bound more h = absurd (false≢true (sym h))

pub all-is-uncut : AllIsUncut
all-is-uncut c most first text small told = (
  λ says. all-is told.explored.is_cut told.explored.bound (rest told.explored) (sym line ∙ says),
  λ uncut. line ∙ uncut-is told.explored.is_cut told.explored.bound (rest told.explored) uncut,
)
  where
    few : told.explored.histories < 2 ^ 64
    few = let n = told.count in min-below told.explored.histories (length (told.histories ++ told.drawn)) n

    many : told.explored.events < 2 ^ 64
    many = (let le = told.events.0 in omega (arith, le, small))

    line : slice_get (lines_in text) 2 ≡ slice_get (lines_in (limit_line told.explored.is_cut told.explored.bound ++ rest told.explored)) 0
    line = ap (λ t. slice_get (lines_in t) 2) told.is ∙ third told.explored few many
