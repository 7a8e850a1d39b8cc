use Rattle.std.proofs.Common.{◌≡◌, refl, ap, sym, ◌∙◌}
use Rattle.std.specs.Option.{option_copied_mut}
use Rattle.place_unsettled.specs.Queues.{row, at}
use Rattle.place_unsettled.proofs.Rows.{written, seen, changes, relates, found_row}
use Rattle.place_unsettled.proofs.waits.Waits.set_tried.Goals as goal

pub returns-clause-queues : goal.returns-clause-queues
returns-clause-queues c =
    let found = sym c.get_mut.ensures.value ∙ ap option_copied_mut c.in-Some.is in
    let puts = seen _ _ _ c.args.key.now _ c.self.view_is
    (written _ _ c.args.key.now _ _ (λ s. ((c.get_mut.follows.holds c.set_tried.new.self).3 s).0) found) in
    changes (λ r. r.queue) (at c.args.to) _ _ c.args.key.now c.set_tried.new.self c.in-Some.line.now puts
    (sym (ap (λ rows. row rows c.args.key.now) c.self.view_is) ∙ found_row _ c.args.key.now _ found)
    (ap (λ r. r.queue) c.set_tried.ensures)

pub returns-clause-rooms : goal.returns-clause-rooms
returns-clause-rooms c =
    let found = sym c.get_mut.ensures.value ∙ ap option_copied_mut c.in-Some.is in
    let puts = seen _ _ _ c.args.key.now _ c.self.view_is
    (written _ _ c.args.key.now _ _ (λ s. ((c.get_mut.follows.holds c.set_tried.new.self).3 s).0) found) in
    relates (λ a b. b.room ≡ a.room) _ _ c.args.key.now c.set_tried.new.self c.in-Some.line.now puts
    (sym (ap (λ rows. row rows c.args.key.now) c.self.view_is) ∙ found_row _ c.args.key.now _ found)
    (ap (λ r. r.room) c.set_tried.ensures) (λ x. refl)
