-- The steps of the history keep its rule, and what it makes known.
use Rattle.std.proofs.Common.{◌≡◌, ℕ, zero, suc, ◌<◌, ◌==◌, Bool, true, false, true≢false, List, [], ◌∷◌, ◌++◌, length, refl, ap, sym, ◌∙◌, subst, arith, inl, inr, None, set}
use Rattle.std.proofs.lemmas.List.{append-nil, length-set, get_or-set_same, get_or-set_other}
use Rattle.std.proofs.lemmas.Bool.{eq-eqb, cases_eq}
use mathlib.Core.List.{IsPrefix}
use prog.Atomic.{either}
use Rattle.logbook.specs.Pages.{Cell, cell, keeps, adds, gives, no_nib, step, Moves}
use Rattle.chorus_board.specs.declared.history.Stage.{Stage}
use Rattle.chorus_board.specs.Law.{last_stage, entries_in, pen_of, IsHome, AreFollowed, IsKept, claims, extends, confirms}
use Rattle.chorus_board.proofs.Fronts.{prefix_self, prefix_trans}

pub last-more : (log : List Stage) (s : Stage) → last_stage (log ++ s ∷ []) ≡ s
last-more [] s = refl
last-more (t ∷ []) s = refl
last-more (t ∷ u ∷ log) s = last-more (u ∷ log) s

-- What is at home stays so.

abbrev StayHome : List Cell → List Cell → Type 0
StayHome cs ds = (k : ℕ) → IsHome cs k → IsHome ds k

got-home : (cs : List Cell) (j n : ℕ) → j < length cs → IsHome (set cs j (n, true)) j
got-home cs j n within = (
  omega (arith, length-set cs j (n, true), within),
  ap (λ (c : Cell). c.1) (get_or-set_same cs j (n, true) (0, false) within),
)

stay-set : (cs : List Cell) (j n : ℕ) → StayHome cs (set cs j (n, true))
stay-set cs j n k h = elim (cases_eq k j) [
  | inl same ↦ subst (IsHome (set cs j (n, true))) (sym same) (got-home cs j n (subst (λ i. i < length cs) same h.0))
  | inr other ↦ (
    let len = length-set cs j (n, true) in let within = h.0 in omega (arith, len, within),
    ap (λ (c : Cell). c.1) (get_or-set_other cs j k (n, true) (0, false) other) ∙ h.1,
  )
]

stay-more : (cs : List Cell) (c : Cell) → StayHome cs (cs ++ c ∷ [])
stay-more [] c k h = (let within = h.0 in absurd (omega (arith, within)))
stay-more (d ∷ cs) c zero h = (omega arith, h.1)
stay-more (d ∷ cs) c (suc k) h =
    let within = h.0 in
    let r = stay-more cs c k (omega (arith, within), h.1) in
    let more = r.0 in
    (omega (arith, more), r.1)

followed-stay : (cs ds : List Cell) → StayHome cs ds → (log : List Stage) → AreFollowed cs log → AreFollowed ds log
followed-stay cs ds stay [] h = tt
followed-stay cs ds stay (s ∷ []) h = tt
followed-stay cs ds stay (s ∷ t ∷ log) h = (stay s.next h.0, h.1, followed-stay cs ds stay (t ∷ log) h.2)

followed-more : (cs ds : List Cell) → StayHome cs ds → (log : List Stage) (s : Stage) → AreFollowed cs log → IsHome ds (last_stage log).next → IsPrefix (entries_in log) s.entries
    → AreFollowed ds (log ++ s ∷ [])
followed-more cs ds stay [] s h home begins = tt
followed-more cs ds stay (t ∷ []) s h home begins = (home, begins, tt)
followed-more cs ds stay (t ∷ u ∷ log) s h home begins = (stay t.next h.0, h.1, followed-more cs ds stay (u ∷ log) s h.2 home begins)

-- What is known of a history by a pen, and by a beginning of it.

-- who has the pen of the last stage that it saw has seen them all
whole : (cs : List Cell) → IsHome cs 0 → (v log : List Stage) → IsPrefix v log → AreFollowed cs log → (cell cs (last_stage v).next).1 ≡ false → v ≡ log
whole cs word [] log p h away = absurd (true≢false (sym word.1 ∙ away))
whole cs word (s ∷ []) [] p h away = absurd (cc (p.1))
whole cs word (s ∷ []) (t ∷ []) p h away = (let same : s ≡ t = cc (p.1) in ap (λ (x : Stage). x ∷ []) same)
whole cs word (s ∷ []) (t ∷ u ∷ log) p h away =
    let same : s ≡ t = cc (p.1) in absurd (true≢false (sym h.0.1 ∙ ap (λ (x : Stage). (cell cs x.next).1) (sym same) ∙ away))
whole cs word (s ∷ t ∷ v) [] p h away = absurd (cc (p.1))
whole cs word (s ∷ t ∷ v) (u ∷ []) p h away = absurd (cc (p.1))
whole cs word (s ∷ t ∷ v) (u ∷ w ∷ log) p h away =
    let same : s ≡ u = cc (p.1) in
    let rest : t ∷ v ≡ w ∷ log = whole cs word (t ∷ v) (w ∷ log) (p.0, cc (p.1)) h.2 away in
    cc (same, rest)

grows : (cs : List Cell) (s : Stage) (log : List Stage) → AreFollowed cs (s ∷ log) → IsPrefix s.entries (entries_in (s ∷ log))
grows cs s [] h = prefix_self s.entries
grows cs s (t ∷ log) h = prefix_trans s.entries t.entries (entries_in (t ∷ log)) h.1 (grows cs t log h.2)

-- a beginning stands for a beginning of the entries
pub begins-with : (cs : List Cell) (v log : List Stage) → IsPrefix v log → AreFollowed cs log → IsPrefix (entries_in v) (entries_in log)
begins-with cs [] log p h = (entries_in log, refl)
begins-with cs (s ∷ []) [] p h = absurd (cc (p.1))
begins-with cs (s ∷ []) (t ∷ log) p h =
    let same : s ≡ t = cc (p.1) in subst (λ (x : Stage). IsPrefix x.entries (entries_in (t ∷ log))) (sym same) (grows cs t log h)
begins-with cs (s ∷ t ∷ v) [] p h = absurd (cc (p.1))
begins-with cs (s ∷ t ∷ v) (u ∷ []) p h = absurd (cc (p.1))
begins-with cs (s ∷ t ∷ v) (u ∷ w ∷ log) p h = begins-with cs (t ∷ v) (w ∷ log) (p.0, cc (p.1)) h.2

-- The word is raised from 0 to 1.

abbrev raised : ℕ → ℕ
raised n = either (n == 0) 1 n

raised-some : (n : ℕ) → raised n ≡ 0 → ⊥
raised-some n none = by (n == 0) refl
  where
    by : (b : Bool) → (n == 0) ≡ b → ⊥
    by true is = (let one : 1 ≡ 0 = sym (ap (λ (b : Bool). either b 1 n) is) ∙ none in omega (arith, one))
    by false is = (let zero : n ≡ 0 = sym (ap (λ (b : Bool). either b 1 n) is) ∙ none in true≢false (sym (eq-eqb n 0 zero) ∙ is))

first-more : (cs : List Cell) (c : Cell) → 0 < length cs → cell (cs ++ c ∷ []) 0 ≡ cell cs 0
first-more [] c within = absurd (omega (arith, within))
first-more (d ∷ cs) c within = refl

first-some : (cs : List Cell) (j : ℕ) → 0 < length cs → ((cell cs 0).0 ≡ 0 → ⊥) → (cell (set cs j (1, true)) 0).0 ≡ 0 → ⊥
first-some cs j within some none = elim (cases_eq 0 j) [
  | inl same ↦ (let one : 1 ≡ 0 = sym (ap (λ (c : Cell). c.0) (get_or-set_same cs 0 (1, true) (0, false) within)) ∙ ap (λ i. (cell (set cs i (1, true)) 0).0) same ∙ none in absurd (omega (arith, one)))
  | inr other ↦ absurd (some (sym (ap (λ (c : Cell). c.0) (get_or-set_other cs j 0 (1, true) (0, false) other)) ∙ none))
]

module _ (cs : List Cell) (log : List Stage) (kept : IsKept cs log) where
  abbrev now : List Cell
  now = set cs 0 (raised (cell cs 0).0, true)

  stay : StayHome cs now
  stay = stay-set cs 0 (raised (cell cs 0).0)

  word-now : IsHome now 0
  word-now = stay 0 kept.word

  some-now : (cell now 0).0 ≡ 0 → ⊥
  some-now none = raised-some (cell cs 0).0 (sym (ap (λ (c : Cell). c.0) (get_or-set_same cs 0 (raised (cell cs 0).0, true) (0, false) kept.word.0)) ∙ none)

  kept-now : IsKept now log
  kept-now = record { word = word-now; none_added = λ none. absurd (some-now none); followed = followed-stay cs now stay log kept.followed }

  kept-claimed : IsKept (now ++ (0, false) ∷ []) log
  kept-claimed = record {
    word = stay-more now (0, false) 0 word-now;
    none_added = λ none. absurd (some-now (sym (ap (λ (c : Cell). c.0) (first-more now (0, false) word-now.0)) ∙ none));
    followed = followed-stay cs (now ++ (0, false) ∷ []) (λ k h. stay-more now (0, false) k (stay k h)) log kept.followed;
  }

  kept-longer : (s : Stage) → (last_stage log).next < length cs → IsPrefix (entries_in log) s.entries → IsKept (set now (last_stage log).next (1, true)) (log ++ s ∷ [])
  kept-longer s within begins =
      let a = (last_stage log).next in
      let len = length-set cs 0 (raised (cell cs 0).0, true) in
      record {
        word = stay-set now a 1 0 word-now;
        none_added = λ none. absurd (first-some now a word-now.0 some-now none);
        followed = followed-more cs (set now a (1, true)) (λ k h. stay-set now a 1 k (stay k h)) log s kept.followed (got-home now a 1 (omega (arith, len, within))) begins;
      }

abbrev pub nothing_shown : List Stage → List Stage
nothing_shown log = []

abbrev pub moved : List Stage → List Stage → ℕ → Type 0
moved xs ys n = Unit {0}

pub claims-moves : (v : List Stage) (e : Stage)
    → Moves IsKept nothing_shown moved 0 (v, (no_nib, None)) (λ n. either (n == 0) 1 n) (claims (step 0 0 1 e) (v, (no_nib, None)))
claims-moves v e cs log kept pre away = (
  kept.word.0,
  kept.word.1,
  (
    adds,
    [],
    None,
    tt,
    subst (IsKept (set cs 0 (raised (cell cs 0).0, true) ++ (0, false) ∷ [])) (sym (append-nil log)) (kept-claimed cs log kept),
    inl (refl, refl),
    (refl, kept.none_added),
  ),
)

pub extends-moves : (v : List Stage) (e : Stage) → IsPrefix (entries_in v) e.entries
    → Moves IsKept nothing_shown moved 0 (v, (pen_of v, None)) (λ n. either (n == 0) 1 n) (extends (step 0 0 1 e) (v, (pen_of v, None)))
extends-moves v e begins cs log kept pre away =
    let gone = away refl in
    let same : v ≡ log = whole cs kept.word v log pre kept.followed gone.1 in (
      kept.word.0,
      kept.word.1,
      (
        gives,
        e ∷ [],
        None,
        refl,
        subst (λ (l : List Stage). IsKept (set (set cs 0 (raised (cell cs 0).0, true)) (last_stage l).next (1, true)) (log ++ e ∷ [])) (sym same)
            (kept-longer cs log kept e (subst (λ (l : List Stage). (last_stage l).next < length cs) same gone.0) (subst (λ (l : List Stage). IsPrefix (entries_in l) e.entries) same begins)),
        inl (refl, refl),
        ap (λ (l : List Stage). l ++ e ∷ []) (sym same),
      ),
    )

pub confirms-moves : (mine v : List Stage) (e : Stage)
    → Moves IsKept nothing_shown moved 0 (v, (pen_of mine, None)) (λ n. either (n == 0) 1 n) (confirms (step 0 0 1 e) (v, (pen_of mine, None)))
confirms-moves mine v e cs log kept pre away = (
  kept.word.0,
  kept.word.1,
  (
    keeps,
    [],
    None,
    tt,
    subst (IsKept (set cs 0 (raised (cell cs 0).0, true))) (sym (append-nil log)) (kept-now cs log kept),
    inl (refl, refl),
    (
      refl,
      λ (l : List Stage) begins is.
          let gone = away refl in
          append-nil log ∙ sym (whole cs kept.word l log (prefix_trans l v log begins pre) kept.followed (ap (λ k. (cell cs k).1) (sym (ap (λ p. p.key) is)) ∙ gone.1)),
    ),
  ),
)
