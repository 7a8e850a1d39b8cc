use Rattle.std.proofs.Common.{◌++◌, ◌∙◌, ap, ap₂, append_assoc, List}
use Rattle.std.specs.List.{flat_map}
use Rattle.std.proofs.lemmas.Result.{on_ok_weaker}
use Rattle.chorus_ui.specs.declared.ui.Ui.{Ui}
use Rattle.law_explore.specs.Moment.{accepts_in, in_order}
use Rattle.law_explore.specs.Outcome.{Accepted, held_in}
use Rattle.explore_report.specs.Facts.{fact_line}
use Rattle.explore_report.specs.Outcomes.{held_line}
use Rattle.explore_moments.specs.Moments.{states}
use Rattle.explore_moments.proofs.More.{port-lines}
use Rattle.explore_moments.proofs.ports.push_ports.Goals as goal

pub returns : goal.returns
returns c =
    let ps = states c.args.places.now in
    let f = λ (q : Ui). held_line (held_in q (states c.args.places.now)) in
    let g = λ (q : Ui). fact_line (Accepted q (in_order (accepts_in q (states c.args.places.now)))) in
    let old = c.args.text.now.items in
    on_ok_weaker c.push_all_accepted.result
    (λ e.
    e ∙ ap (λ xs. xs ++ flat_map g c.deref-2.result.now) c.in_ok-push_all_held.ensures
    ∙ append_assoc old (flat_map f c.deref.result.now) (flat_map g c.deref-2.result.now)
    ∙ ap (λ ys. c.args.text.now.items ++ ys)
    (ap₂ (λ (qs : List Ui) (rs : List Ui). flat_map f qs ++ flat_map g rs) (c.deref.ensures.value ∙ c.in_ok-made.ensures) (c.deref-2.ensures.value ∙ c.in_ok-made.ensures) ∙ port-lines ps))
    c.push_all_accepted.ensures
