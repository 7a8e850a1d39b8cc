-- Lines that fail no test are judged one after the other.
use Rattle.std.proofs.Common.{◌≡◌, ℕ, ◌+◌, ◌≤◌, List, [], ◌∷◌, ◌++◌, length, Result, Ok, Err, refl, sym, ap, ◌∙◌, arith, cond}
use Rattle.std.proofs.lemmas.List.{append-nil}
use Rattle.chorus_ui.specs.declared.layout.Layout.{Layout}
use Rattle.chorus_scene.specs.Scene.{Scene}
use Rattle.chorus_lines.specs.Text.{lines}
use Rattle.chorus_scene.specs.Grammar.{State, opening, judge, read_scene, is_ended}
use Rattle.chorus_lines.specs.Reasons.{reason_number}
use Rattle.chorus_scene.specs.Laws.{Pass, FirstFault, NoEnd, Accepted}
use Rattle.chorus_scene.proofs.Lines.{read_is}

passed : (n : ℕ) (s t : State) (front rest : List (List ℕ)) → Pass s front t → judge n s (front ++ rest) ≡ judge (n + length front) t rest
unfolding judge
passed n s t [] rest h = rw h (ap (λ m. judge m t rest) (omega arith))
passed n s t (line ∷ lines) rest h = rw h.1 (passed (n + 1) h.0 t lines rest h.2 ∙ ap (λ m. judge m t rest) (omega arith))

pub first_fault : FirstFault
unfolding judge
first_fault l text front line rest s reason small e pass fails =
    read_is l text small ∙ ap (judge 1 (opening l)) e ∙ passed 1 (opening l) s front (line ∷ rest) pass ∙ rw fails (ap (λ n. Err (n, reason_number reason)) (omega arith))

all : (l : Layout) (text : List ℕ) (s : State) → length text ≤ 4194304 → Pass (opening l) (lines text) s → read_scene l text ≡ cond (is_ended s.section) (Ok s.scene) (Err (length (lines text) + 1, 9))
unfolding judge
all l text s small pass =
    read_is l text small ∙ ap (judge 1 (opening l)) (sym (append-nil (lines text))) ∙ passed 1 (opening l) s (lines text) [] pass
    ∙ ap (λ n. cond {A = Result Scene (ℕ × ℕ)} (is_ended s.section) (Ok s.scene) (Err (n, 9))) (omega arith)

pub no_end : NoEnd
no_end l text s small pass e = all l text s small pass ∙ rw e refl

pub accepted : Accepted
accepted l text s small pass e = all l text s small pass ∙ rw e refl
