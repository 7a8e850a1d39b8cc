use Rattle.std.proofs.Common.{◌++◌, length, map, take, reverse, refl, sym, ◌∙◌, ap, append_assoc}
use Rattle.std.proofs.lemmas.List.{map-append}
use Rattle.std.proofs.lemmas.Option.{slice_get_read}
use Rattle.chorus_ui.specs.declared.ui.Ui.{Ui}
use Rattle.chorus_entry.specs.declared.id.MsgId.{MsgId}
use Rattle.chorus_world.specs.GroupLaws.{copies_by, copies_of}
use Rattle.chorus_world.specs.declared.place.Sent.{Sent}
use Rattle.law_explore.specs.Moment.{sent_by}
use Rattle.explore_moments.specs.Moments.{sent_as}
use Rattle.explore_moments.proofs.More.{reverse-next}
use Rattle.explore_moments.proofs.messages.push_sent.Goals as goal

pub loop-entry-preserved : goal.loop-entry-preserved
loop-entry-preserved c =
    let j = c.args.journal.now in
    let i = c.loop-entry.entry-index in
    let e = c.entry-item.result in
    let x = c.args.id in
    let f : Sent → MsgId × Ui = λ m. (m.id, m.port) in
    let past = reverse (take i j) in
    let at = slice_get_read j (length j) i e refl c.loop-entry-test.true c.entry-item.is in
    c.in_ok-push_chosen.ensures ∙ ap (λ xs. xs ++ map f (copies_by x e.act)) c.loop-entry.invariant
    ∙ append_assoc (map sent_as c.args.copies.now.items) (sent_by x past) (map f (copies_by x e.act))
    ∙ ap (λ ys. map sent_as c.args.copies.now.items ++ ys) (sym (ap (sent_by x) (reverse-next j i e at) ∙ map-append f (copies_of x past) (copies_by x e.act)))
