use Rattle.std.proofs.Common.{◌≡◌, ◌≤◌, ◌<◌, ◌∙◌, ◌∷◌, [], ◌++◌, ◌+◌, length, get_or, take, take_all, sym, ap, arith, codes}
use Rattle.chorus_run.specs.DrawnCrew.Text.{counted, handled_lines, port_line}
use Rattle.chorus_run.proofs.DrawnCrew.Endings.{lines-more}
use Rattle.chorus_run.proofs.drawn_crew.text.text_of.Goals as goal

pub returns : goal.returns
returns c =
    let all : length c.args.handled.now ≤ c.loop-index.index = (let few = c.loop-index-test.false in let ports = c.requires in omega (arith, few, ports)) in
    c.in_ok-extend_from_slice.ensures.items
    ∙ ap (λ xs. xs ++ (codes "end" ++ 10 ∷ [])) (c.loop-index.invariant ∙ ap (handled_lines 1) (take_all c.loop-index.index c.args.handled.now all))

pub loop-index-preserved : goal.loop-index-preserved
loop-index-preserved c =
    let k = c.loop-index.index in
    let handled = c.args.handled.now in
    let h = c.index-handled-from.result in
    let within : k < length handled = (let few = c.loop-index-test.true in let ports = c.requires in omega (arith, few, ports)) in
    let is : h ≡ get_or handled k h = c.index-handled-from.is ∙ ap (λ i. get_or handled i h) c.from.ensures in
    c.in_ok-push_line.ensures
    ∙ ap (λ xs. xs ++ port_line (k + 1) (counted h)) c.loop-index.invariant
    ∙ ap (λ s. handled_lines 1 (take k handled) ++ port_line s (counted h)) (let e : k + 1 ≡ 1 + k = omega arith in e)
    ∙ sym (lines-more 1 k handled h within is)
