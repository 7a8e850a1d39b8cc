use Rattle.std.proofs.Common.{◌≡◌, ◌++◌, map, ◌∙◌, ap, append_assoc}
use Rattle.std.specs.List.{flat_map}
use Rattle.std.proofs.lemmas.Result.{on_ok_weaker}
use Rattle.chorus_ui.specs.declared.ui.Ui.{Ui}
use Rattle.chorus_entry.specs.declared.id.MsgId.{MsgId}
use Rattle.law_explore.specs.Moment.{copy_facts, facts_of}
use Rattle.explore_report.specs.Facts.{outcome_lines}
use Rattle.explore_moments.specs.Moments.{sent_as, states}
use Rattle.explore_moments.proofs.More.{post-lines}
use Rattle.explore_moments.proofs.messages.push_post.Goals as goal

pub returns : goal.returns
returns c =
    let ps = states c.args.places.now in
    let f = λ (x : MsgId × Ui). outcome_lines (copy_facts (states c.args.places.now) x) in
    let own = outcome_lines (facts_of ps c.args.id) in
    let old = c.args.text.now.items in
    on_ok_weaker c.push_all_copies.result
    (λ e.
    e ∙ ap (λ xs. xs ++ flat_map f (map sent_as c.deref.result.now)) c.in_ok-push_message.ensures
    ∙ append_assoc old own (flat_map f (map sent_as c.deref.result.now))
    ∙ ap (λ ys. c.args.text.now.items ++ ys)
    (ap (λ cs. outcome_lines (facts_of (states c.args.places.now) c.args.id) ++ flat_map f cs) (ap (map sent_as) c.deref.ensures.value ∙ c.in_ok-copies.ensures) ∙ post-lines ps c.args.id))
    c.push_all_copies.ensures
