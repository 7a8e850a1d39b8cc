use Rattle.std.proofs.Common.{◌++◌, ◌∷◌, [], map, option_to_list, Option, sym, ◌∙◌, ap}
use Rattle.std.specs.List.{filter_map}
use Rattle.std.proofs.lemmas.List.{append-nil}
use Rattle.chorus_entry.specs.declared.id.MsgId.{MsgId}
use Rattle.law_network.specs.Network.{numbers}
use Rattle.law_explore.specs.Moment.{at_position}
use Rattle.explore_moments.specs.Moments.{accepted_as}
use Rattle.explore_moments.proofs.More.{ordered-next}
use Rattle.explore_moments.proofs.ports.in_order.Goals as goal
use Rattle.explore_moments.proofs.ports.in_order.Goals.{in-Some+in_ok-push, in_default}

pub loop-index-preserved : goal.loop-index-preserved
loop-index-preserved c =
    let all = map accepted_as c.args.accepts.now in
    let i = c.loop-index.index in
    let so-far = filter_map (at_position all) (numbers i 0) in
    elim c.match-at_position.branch [
      | in-Some+in_ok-push w ↦
          (ap (λ v. v.items) w.ids-is ∙ w.in_ok-push.ensures.items ∙ ap (λ xs. xs ++ w.in-Some.id ∷ []) c.loop-index.invariant
          ∙ ap (λ (o : Option MsgId). filter_map (at_position (map accepted_as c.args.accepts.now)) (numbers c.loop-index.index 0) ++ option_to_list o) (sym w.in-Some.is ∙ c.at_position.ensures)
          ∙ sym (ordered-next all i))
      | in_default w ↦
          (ap (λ v. v.items) w.ids-is ∙ c.loop-index.invariant ∙ sym (append-nil so-far)
          ∙ ap (λ (o : Option MsgId). filter_map (at_position (map accepted_as c.args.accepts.now)) (numbers c.loop-index.index 0) ++ option_to_list o) (sym w.in_default.is ∙ c.at_position.ensures)
          ∙ sym (ordered-next all i))
    ]
