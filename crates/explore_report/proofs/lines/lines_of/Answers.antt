use Rattle.std.proofs.Common.{◌≡◌, ◌+◌, ◌-◌, ◌++◌, ◌∷◌, [], map, take, drop, get_or, refl, sym, ◌∙◌, ap, ap₂, arith, append_assoc}
use Rattle.std.proofs.lemmas.List.{map-append}
use Rattle.explore_report.specs.Lines.{line_of, lines_from}
use Rattle.explore_report.proofs.Reporting.{drop-first, front-more, line-ends, line-goes-on}
use Rattle.explore_report.proofs.lines.lines_of.Goals as goal
use Rattle.explore_report.proofs.lines.lines_of.Goals.{then-text-index-eq10+in_ok-push, else-text-index-eq10}

pub loop-index-preserved : goal.loop-index-preserved
loop-index-preserved c =
    let text = c.args.text.now in
    let i = c.loop-index.index in
    let s = c.loop-index.start in
    let new = c.if-text-index-eq10.start in
    let b = get_or c.args.text.now c.loop-index.index 0 in
    let told = map line_of c.loop-index.lines.items in
    let front = take (i - s) (drop s text) in
    let rest = drop (i + 1) text in
    let inv = c.loop-index.invariant in
    let le = inv.0 in
    let more = front-more text s i b inv.0 c.loop-index-test.true refl in
    let here = drop-first text i b c.loop-index-test.true refl in
    elim c.if-text-index-eq10.branch [
      | then-text-index-eq10+in_ok-push w ↦
          (let at = w.start-is in
          let zero : c.loop-index.index + 1 - c.if-text-index-eq10.start ≡ 0 = omega (arith, at) in
          let items = ap (λ v. map line_of v.items) w.lines-is ∙ ap (map line_of) w.in_ok-push.ensures.items ∙ map-append line_of c.loop-index.lines.items _ in (
            omega (arith, at),
            ap₂ (λ n ls. ls ++ lines_from (take n (drop new text)) rest) zero items
                ∙ append_assoc told _ (lines_from [] rest)
                ∙ ap (λ line. told ++ line ∷ lines_from [] rest) more
                ∙ sym (ap (λ ls. told ++ ls) (line-ends front rest b w.if-text-index-eq10.true))
                ∙ ap (λ xs. told ++ lines_from front xs) (sym here) ∙ inv.1,
          ))
      | else-text-index-eq10 w ↦
          (let at = w.start-is in (
            omega (arith, at, le),
            ap₂ (λ n v. map line_of v.items ++ lines_from (take (i + 1 - n) (drop n text)) rest) w.start-is w.lines-is
                ∙ ap (λ before. told ++ lines_from before rest) more
                ∙ sym (ap (λ ls. told ++ ls) (line-goes-on front rest b w.if-text-index-eq10.false))
                ∙ ap (λ xs. told ++ lines_from front xs) (sym here) ∙ inv.1,
          ))
    ]
