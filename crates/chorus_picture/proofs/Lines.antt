-- A text of which entries were read has their lines behind its first line, and their summary behind these where it is lawful.
use Rattle.std.proofs.Common.{◌≡◌, ℕ, ◌==◌, ◌<◌, ◌^◌, Bool, true, false, not, List, [], ◌∷◌, ◌++◌, length, drop, codes, decimal, cond, refl, sym, ap, ◌∙◌, subst, append_assoc, arith}
use Rattle.std.proofs.lemmas.Bool.{and_parts}
use Rattle.chorus_ui.specs.declared.layout.Layout.{Layout}
use Rattle.chorus_entry.specs.declared.entry.Entry.{Entry}
use Rattle.chorus_show.specs.Journal.{journal_head, journal_lines}
use Rattle.chorus_show.specs.Phrases.{phrase}
use Rattle.chorus_show.specs.Reading.{lacks}
use Rattle.chorus_show.specs.Report.{summary_with}
use Rattle.chorus_show.proofs.LineBack.{count_lacks}
use Rattle.chorus_audit.specs.declared.judging.Audit.{Audit}
use Rattle.chorus_audit.specs.declared.judging.Audit.TheVariants.{Legal, Wrong}
use Rattle.chorus_audit.specs.Report.{IsReport}
use Rattle.chorus_audit.specs.Tests.{Begins, IsRead, IsWrong, AtEntry, AtHead, AtSummary, entries_before}
use Rattle.chorus_picture.specs.Found.{behind_lines, LawfulTextsHaveSummaries}
use Rattle.chorus_picture.specs.Picture.{HasLines}

all_behind : (text : List ℕ) → behind_lines 0 text ≡ text
all_behind [] = refl
all_behind (c ∷ cs) = refl

-- a line is passed
behind_one : (line more : List ℕ) → lacks 10 line ≡ true → behind_lines 1 (line ++ 10 ∷ more) ≡ more
behind_one [] more h = all_behind more
behind_one (c ∷ cs) more h =
    let two = and_parts (not (c == 10)) (lacks 10 cs) h in
    ap (λ b. behind_lines (cond b 0 1) (cs ++ 10 ∷ more)) (fails (c == 10) two.0) ∙ behind_one cs more two.1
  where
    fails : (b : Bool) → not b ≡ true → b ≡ false
    fails true k = sym k
    fails false k = refl

behind_head : (n : ℕ) (more : List ℕ) → n < 2 ^ 32 → behind_lines 1 (journal_head n ++ more) ≡ more
behind_head n more small =
    ap (behind_lines 1) (append_assoc (phrase (codes "journal") (decimal n ∷ [])) (10 ∷ []) more)
    ∙ behind_one (phrase (codes "journal") (decimal n ∷ [])) more (count_lacks (codes "journal") n refl (omega (arith, small)))

begun : (l : Layout) (text : List ℕ) (n : ℕ) (es : List Entry) (rest : List ℕ) → Begins l text n es rest → HasLines text es
begun l text n es rest h = record {
  within = h.within;
  more = rest;
  lines = ap (behind_lines 1) h.is ∙ behind_head n (journal_lines es ++ rest) h.number;
}

wrong_lines : (l : Layout) (text : List ℕ) (line rule : ℕ) (es : List Entry) (wrong : IsWrong l text line rule) → es ≡ entries_before wrong → HasLines text es
wrong_lines l text line rule es (AtHead fails) is = subst (HasLines text) (sym is) (record { within = tt; more = behind_lines 1 text; lines = refl })
wrong_lines l text line rule es (AtEntry fails) is = subst (HasLines text) (sym is) (begun l text fails.told fails.entries fails.rest fails.begins)
wrong_lines l text line rule es (AtSummary fails) is = subst (HasLines text) (sym is) (begun l text (length fails.entries) fails.entries fails.rest fails.begins)

legal_lines : (l : Layout) (text : List ℕ) (es : List Entry) (h : IsReport l text es) → behind_lines 1 text ≡ journal_lines es ++ summary_with h.stuck es
legal_lines l text es h =
    ap (behind_lines 1) (h.is ∙ append_assoc (journal_head (length es)) (journal_lines es) (summary_with h.stuck es))
    ∙ behind_head (length es) (journal_lines es ++ summary_with h.stuck es) h.number

pub has_lines : (l : Layout) (text : List ℕ) (audit : Audit) (es : List Entry) → IsRead l text audit es → HasLines text es
has_lines l text (Legal n) es h = record { within = h.0.within; more = summary_with h.0.stuck es; lines = legal_lines l text es h.0 }
has_lines l text (Wrong line rule) es h = wrong_lines l text line rule es h.0 h.1

-- what stands behind the lines of a lawful text
front_long : (front back : List ℕ) → drop (length front) (front ++ back) ≡ back
front_long [] back = refl
front_long (c ∷ cs) back = front_long cs back

pub lawful_texts_have_summaries : LawfulTextsHaveSummaries
lawful_texts_have_summaries l text n es h = (
  h.0.stuck,
  h.0.are,
  ap (drop (length (journal_lines es))) (legal_lines l text es h.0) ∙ front_long (journal_lines es) (summary_with h.0.stuck es),
)
