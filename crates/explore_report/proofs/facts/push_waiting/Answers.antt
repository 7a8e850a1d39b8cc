use Rattle.std.proofs.Common.{◌≡◌, ◌++◌, ◌∷◌, Some, None, slice_get, take, map, sym, ◌∙◌, ap, arith, append_assoc}
use Rattle.std.specs.Option.{option_copied}
use Rattle.chorus_show.specs.Phrases.{spaced, id_text}
use Rattle.explore_report.specs.Facts.{waiting_in}
use Rattle.explore_report.proofs.More.{waiting-next, within-some}
use Rattle.explore_report.proofs.facts.push_waiting.Goals as goal
use Rattle.explore_report.proofs.facts.push_waiting.Goals.{in-Some+in_ok-push_message, in_default}

pub loop-index-preserved : goal.loop-index-preserved
loop-index-preserved c = elim c.match-get.branch [
  | in-Some+in_ok-push_message w ↦
      (let ms = c.args.port.now.pending in
      let i = c.loop-index.index in
      let m = w.in-Some.message.now in
      let e : slice_get c.args.port.now.pending c.loop-index.index ≡ Some w.in-Some.message.now = sym c.get.ensures ∙ ap (λ o. option_copied o) w.in-Some.is in
      ap (λ v. v.items) w.out-is ∙ w.in_ok-push_message.ensures ∙ ap (λ xs. xs ++ 32 ∷ id_text m.id) c.loop-index.invariant
      ∙ append_assoc c.args.out.now.items (spaced (map id_text (waiting_in (take i ms)))) (32 ∷ id_text m.id)
      ∙ ap (λ ys. c.args.out.now.items ++ ys) (sym (waiting-next ms i m e)))
  | in_default w ↦
      (let e : slice_get c.args.port.now.pending c.loop-index.index ≡ None = sym c.get.ensures ∙ ap (λ o. option_copied o) w.in_default.is in
      let lt = c.loop-index-test.true in
      let n = c.len-index-end.ensures.len in
      absurd (within-some c.args.port.now.pending c.loop-index.index (omega (arith, lt, n)) e))
]
