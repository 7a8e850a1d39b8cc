-- The first line of a text, and the lines behind it.
use Rattle.std.proofs.Common.{◌≡◌, ℕ, ◌+◌, ◌<◌, ◌≤◌, Bool, true, false, cond, eqb, ltb, List, [], ◌∷◌, length, Option, Some, None, Result, Ok, Err, refl, sym, ap, ◌∙◌, arith, subst, zero, suc, take, drop, add-one}
use Rattle.std.specs.Prelude.{unwrap_or, slice_index, ◌==◌}
use Rattle.chorus_ui.specs.declared.layout.Layout.{Layout}
use Rattle.chorus_lines.specs.declared.fault.Stop.{Stop}
use Rattle.chorus_lines.specs.declared.fault.Stop.TheVariants as stops
use Rattle.chorus_scene.specs.Reader.{Fails}
use Rattle.chorus_lines.specs.Reasons.{fault_at}
use Rattle.chorus_scene.specs.Scene.{Scene}
use Rattle.chorus_lines.specs.Text.{cut, lines, in_front}
use Rattle.chorus_scene.specs.Grammar.{State, next, judge, is_ended, read_scene, opening, Refuses}
use Rattle.std.proofs.lemmas.Bool.Decides.{nat_tests}
use Rattle.chorus_lines.specs.declared.word.Section.{Section}
use Rattle.chorus_lines.specs.declared.word.Section.TheVariants as sections

-- what stands behind the first line
abbrev pub behind : List ℕ × Option (List ℕ) → List ℕ
behind pieces = unwrap_or pieces.1 []

front_step : (c : ℕ) (ls : List (List ℕ)) (f : List ℕ) (r : List (List ℕ)) → ls ≡ f ∷ r → in_front c ls ≡ (c ∷ f) ∷ r
front_step c ls f r e = rw e refl

lines_step : (c : ℕ) (cs : List ℕ) (b : Bool) → eqb c 10 ≡ b → (0 < length cs → lines cs ≡ (cut 10 cs).0 ∷ lines (behind (cut 10 cs))) → lines (c ∷ cs) ≡ (cut 10 (c ∷ cs)).0 ∷ lines (behind (cut 10 (c ∷ cs)))
unfolding lines cut
lines_step c cs true e h = rw e refl
lines_step c [] false e h = rw e refl
lines_step c (d ∷ cs) false e h = rw e (front_step c (lines (d ∷ cs)) (cut 10 (d ∷ cs)).0 (lines (behind (cut 10 (d ∷ cs)))) (h (omega arith)))

pub lines_cut : (text : List ℕ) → 0 < length text → lines text ≡ (cut 10 text).0 ∷ lines (behind (cut 10 text))
lines_cut [] some = absurd (omega arith)
lines_cut (c ∷ cs) some = lines_step c cs (eqb c 10) refl (lines_cut cs)

shorter_step : (c : ℕ) (cs : List ℕ) (b : Bool) → eqb c 10 ≡ b → length (behind (cut 10 cs)) ≤ length cs → length (behind (cut 10 (c ∷ cs))) ≤ length cs
unfolding cut
shorter_step c cs true e h = rw e (omega arith)
shorter_step c cs false e h = rw e h

cut_short : (text : List ℕ) → length (behind (cut 10 text)) ≤ length text
unfolding cut
cut_short [] = omega arith
cut_short (c ∷ cs) = let h = shorter_step c cs (eqb c 10) refl (cut_short cs) in omega arith

pub cut_shorter : (text : List ℕ) → 0 < length text → length (behind (cut 10 text)) < length text
cut_shorter [] some = absurd (omega arith)
cut_shorter (c ∷ cs) some = let h = shorter_step c cs (eqb c 10) refl (cut_short cs) in omega arith

module _ (n : ℕ) (s : State) (text line rest : List ℕ) (total : Result Scene (ℕ × ℕ)) (first : lines text ≡ line ∷ lines rest) (so_far : judge n s (lines text) ≡ total) where
  pub judge_on : (t : State) → next s line ≡ Ok t → judge (n + 1) t (lines rest) ≡ total
  unfolding judge
  judge_on t e = sym (ap (judge n s) first ∙ rw e refl) ∙ so_far

  pub judge_stops : (stop : Stop) → Fails stop (next s line) → Refuses (fault_at n stop) total
  unfolding judge
  judge_stops (stops.Memory error) e = tt
  judge_stops (stops.Fault reason) e = sym so_far ∙ ap (judge n s) first ∙ rw e refl

pub judge_end : (n : ℕ) (s : State) (text : List ℕ) (total : Result Scene (ℕ × ℕ)) → length text ≡ 0 → judge n s (lines text) ≡ total → total ≡ cond (is_ended s.section) (Ok s.scene) (Err (n, 9))
unfolding judge lines
judge_end n s [] total none so_far = sym so_far
judge_end n s (c ∷ cs) total none so_far = absurd (omega arith)

not_so : (t : Bool) → (t ≡ true → ⊥) → t ≡ false
not_so true h = absurd (h refl)
not_so false h = refl

-- a mark that no earlier byte is cuts the text there
pub cut_at : (mark : ℕ) (text : List ℕ) (k : ℕ) → k < length text → ((j : ℕ) → j < k → (slice_index text j == mark) ≡ true → ⊥) → (slice_index text k == mark) ≡ true → (take k text, Some (drop (k + 1) text)) ≡ cut mark text
unfolding cut
cut_at mark [] k lt before is = absurd (omega arith)
cut_at mark (c ∷ cs) zero lt before is = rw is refl
cut_at mark (c ∷ cs) (suc k) lt before is =
    let other : eqb c mark ≡ false = not_so (eqb c mark) (before 0 (omega arith)) in
    let rest = cut_at mark cs k (omega arith) (λ j below. before (suc j) (omega arith)) is in
    rw (other, add-one (suc k)) (ap (λ p. (c ∷ p.0, p.1)) (rw (add-one k) at rest))

pub cut_none : (mark : ℕ) (text : List ℕ) → ((j : ℕ) → j < length text → (slice_index text j == mark) ≡ true → ⊥) → (text, None) ≡ cut mark text
unfolding cut
cut_none mark [] never = refl
cut_none mark (c ∷ cs) never =
    let other : eqb c mark ≡ false = not_so (eqb c mark) (never 0 (omega arith)) in
    let rest = cut_none mark cs (λ j below. never (suc j) (omega arith)) in
    rw other (ap (λ p. (c ∷ p.0, p.1)) rest)

pub first_some : (text line rest : List ℕ) → 0 < length text → (line, Some rest) ≡ cut 10 text → (lines text ≡ line ∷ lines rest) × (length rest < length text)
first_some text line rest some e =
    let P : List ℕ × Option (List ℕ) → Type 0 = λ p. (lines text ≡ p.0 ∷ lines (behind p)) × (length (behind p) < length text) in
    subst P (sym e) (lines_cut text some, cut_shorter text some)

pub first_none : (text line : List ℕ) → 0 < length text → (line, None) ≡ cut 10 text → lines text ≡ line ∷ lines []
first_none text line some e =
    let P : List ℕ × Option (List ℕ) → Type 0 = λ p. lines text ≡ p.0 ∷ lines (behind p) in
    subst P (sym e) (lines_cut text some)

-- an Ended section, and another
pub ended_is : (s : Section) → s ≡ sections.Ended → is_ended s ≡ true
ended_is s e = rw e refl

pub not_ended : (s : Section) → (s ≡ sections.Ended → ⊥) → is_ended s ≡ false
not_ended sections.Ended h = absurd (h refl)
not_ended sections.Head h = refl
not_ended sections.Sites h = refl
not_ended sections.Setup h = refl
not_ended sections.Scripts h = refl
not_ended sections.Claims h = refl
not_ended sections.Schedule h = refl

-- what reading a text that is not too long judges
pub read_is : (l : Layout) (text : List ℕ) → length text ≤ 4194304 → read_scene l text ≡ judge 1 (opening l) (lines text)
unfolding read_scene
read_is l text h = let t : ltb 4194304 (length text) ≡ false = grind (arith, nat_tests) in rw t refl

pub too_long : (l : Layout) (text : List ℕ) → 4194304 < length text → read_scene l text ≡ Err (0, 6)
unfolding read_scene
too_long l text h = let t : ltb 4194304 (length text) ≡ true = grind (arith, nat_tests) in rw t refl
