use Rattle.std.proofs.Common.{ap, sym, ◌∙◌, ◌<◌, subst}
use Rattle.std.specs.Option.{option_copied_mut}
use Rattle.place_unsettled.specs.Queues.{Row, row, with_last, less_one}
use Rattle.place_unsettled.proofs.Rows.{written, seen, changes, found_row}
use Rattle.place_unsettled.proofs.waits.Waits.push.Goals as goal

pub push-requires : goal.push-requires
push-requires c =
    let found = found_row _ c.args.key.now _ (sym c.get_mut.ensures.value ∙ ap option_copied_mut c.in-Some.is) in
    let before = ap (λ rows. row rows c.args.key.now) c.self.view_is in
    let P : Row → Type 0 = λ r. 0 < r.room in
    subst P (sym before ∙ found) c.requires

pub returns-clause-queues : goal.returns-clause-queues
returns-clause-queues c =
    let found = sym c.get_mut.ensures.value ∙ ap option_copied_mut c.in-Some.is in
    let puts = seen _ _ _ c.args.key.now _ c.self.view_is
    (written _ _ c.args.key.now _ _ (λ s. ((c.get_mut.follows.holds c.push.new.self).3 s).0) found) in
    changes (λ r. r.queue) (with_last c.args.wait) _ _ c.args.key.now c.push.new.self c.in-Some.line.now puts
    (sym (ap (λ rows. row rows c.args.key.now) c.self.view_is) ∙ found_row _ c.args.key.now _ found)
    c.push.ensures.queue

pub returns-clause-rooms : goal.returns-clause-rooms
returns-clause-rooms c =
    let found = sym c.get_mut.ensures.value ∙ ap option_copied_mut c.in-Some.is in
    let puts = seen _ _ _ c.args.key.now _ c.self.view_is
    (written _ _ c.args.key.now _ _ (λ s. ((c.get_mut.follows.holds c.push.new.self).3 s).0) found) in
    changes (λ r. r.room) less_one _ _ c.args.key.now c.push.new.self c.in-Some.line.now puts
    (sym (ap (λ rows. row rows c.args.key.now) c.self.view_is) ∙ found_row _ c.args.key.now _ found)
    c.push.ensures.room
