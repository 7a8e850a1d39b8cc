use Rattle.std.proofs.Common.{◌≡◌, ◌≤◌, refl, ap, sym, ◌∙◌, arith}
use Rattle.std.specs.Option.{option_copied_mut}
use Rattle.place_unsettled.specs.Queues.{row}
use Rattle.place_unsettled.proofs.Rows.{put, written, seen, relates, found_row}
use Rattle.place_unsettled.proofs.waits.Waits.reserve.Goals as goal

pub returns-in-Some-clause-queues : goal.returns-in-Some-clause-queues
returns-in-Some-clause-queues c =
    let found = sym c.get_mut.ensures.value ∙ ap option_copied_mut c.in-Some.is in
    let puts = seen _ _ _ c.args.key.now _ c.self.view_is
    (written _ _ c.args.key.now _ _ (λ s. ((c.get_mut.follows.holds c.reserve.new.self).3 s).0) found) in
    relates (λ a b. b.queue ≡ a.queue) _ _ c.args.key.now c.reserve.new.self c.in-Some.line.now puts
    (sym (ap (λ rows. row rows c.args.key.now) c.self.view_is) ∙ found_row _ c.args.key.now _ found)
    c.reserve.ensures.queue (λ x. refl)

pub returns-in-Some-clause-kept : goal.returns-in-Some-clause-kept
returns-in-Some-clause-kept c =
    let found = sym c.get_mut.ensures.value ∙ ap option_copied_mut c.in-Some.is in
    let puts = seen _ _ _ c.args.key.now _ c.self.view_is
    (written _ _ c.args.key.now _ _ (λ s. ((c.get_mut.follows.holds c.reserve.new.self).3 s).0) found) in
    relates (λ a b. a.room ≤ b.room) _ _ c.args.key.now c.reserve.new.self c.in-Some.line.now puts
    (sym (ap (λ rows. row rows c.args.key.now) c.self.view_is) ∙ found_row _ c.args.key.now _ found)
    c.reserve.ensures.kept (λ x. omega arith)

pub returns-clause-queues : goal.returns-clause-queues
returns-clause-queues c =
    let before = ap (λ m. m.entries) c.get_mut.follows.holds-at-none ∙ c.self.view_is in
    let none = sym c.get_mut.ensures.value ∙ ap option_copied_mut c.in_default.is in
    let puts = seen _ _ _ c.args.key.now _ before (put _ c.insert.new.self.entries c.args.key.now _ c.in_ok-insert.ensures.updates.0) in
    relates (λ a b. b.queue ≡ a.queue) _ _ c.args.key.now c.in_ok-line.line _ puts
    (sym (ap (λ rows. row rows c.args.key.now) c.self.view_is) ∙ found_row _ c.args.key.now _ none)
    c.in_ok-line.ensures.queue (λ x. refl)

pub returns-clause-kept : goal.returns-clause-kept
returns-clause-kept c =
    let before = ap (λ m. m.entries) c.get_mut.follows.holds-at-none ∙ c.self.view_is in
    let none = sym c.get_mut.ensures.value ∙ ap option_copied_mut c.in_default.is in
    let puts = seen _ _ _ c.args.key.now _ before (put _ c.insert.new.self.entries c.args.key.now _ c.in_ok-insert.ensures.updates.0) in
    relates (λ a b. a.room ≤ b.room) _ _ c.args.key.now c.in_ok-line.line _ puts
    (sym (ap (λ rows. row rows c.args.key.now) c.self.view_is) ∙ found_row _ c.args.key.now _ none)
    (omega arith) (λ x. omega arith)
