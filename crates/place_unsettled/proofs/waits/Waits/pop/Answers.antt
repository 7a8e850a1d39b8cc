use Rattle.std.proofs.Common.{ap, sym, ◌∙◌}
use Rattle.std.specs.Option.{option_copied_mut}
use Rattle.place_unsettled.specs.Queues.{row, empty_row, passed}
use Rattle.place_unsettled.proofs.Rows.{written, taken_out, twice, seen, also, changes, others, emptied, found_row}
use Rattle.place_unsettled.proofs.waits.Waits.pop.Goals as goal
use Rattle.place_unsettled.proofs.waits.Waits.pop.Goals.{in-Some-1, in-None-1}

pub returns-else-len-eq0-clause-queues : goal.returns-else-len-eq0-clause-queues
returns-else-len-eq0-clause-queues c =
    let found = sym c.get_mut.ensures.value ∙ ap option_copied_mut c.in-Some.is in
    let puts = seen _ _ _ c.args.key.now _ c.self.view_is
    (written _ _ c.args.key.now _ _ (λ s. ((c.get_mut.follows.holds c.pop-wait.new.self).3 s).0) found) in
    changes (λ r. r.queue) passed _ _ c.args.key.now c.pop-wait.new.self c.in-Some.line.now puts
    (sym (ap (λ rows. row rows c.args.key.now) c.self.view_is) ∙ found_row _ c.args.key.now _ found)
    c.pop-wait.ensures.after

pub returns-else-len-eq0-clause-rooms : goal.returns-else-len-eq0-clause-rooms
returns-else-len-eq0-clause-rooms c =
    let found = sym c.get_mut.ensures.value ∙ ap option_copied_mut c.in-Some.is in
    let puts = seen _ _ _ c.args.key.now _ c.self.view_is
    (written _ _ c.args.key.now _ _ (λ s. ((c.get_mut.follows.holds c.pop-wait.new.self).3 s).0) found) in
    others (λ r. r.room) _ _ c.args.key.now c.pop-wait.new.self puts

pub returns-then-len-eq0-clause-queues : goal.returns-then-len-eq0-clause-queues
returns-then-len-eq0-clause-queues c =
    let found = sym c.get_mut.ensures.value ∙ ap option_copied_mut c.in-Some.is in
    let first = seen _ _ _ c.args.key.now _ c.self.view_is
    (written _ _ c.args.key.now _ _ (λ s. ((c.get_mut.follows.holds c.pop-wait.new.self).3 s).0) found) in
    let puts = twice _ _ _ c.args.key.now c.pop-wait.new.self empty_row first (taken_out _ _ c.args.key.now c.remove.ensures.updates.0) in
    let before = sym (ap (λ rows. row rows c.args.key.now) c.self.view_is) ∙ found_row _ c.args.key.now _ found in
    let nothing = emptied _ c.in-Some.line.now.queue _ c.pop-wait.ensures.after c.len.ensures.len c.if-len-eq0.true in
    elim c.match-remove.branch [
      | in-Some-1 w ↦ changes (λ r. r.queue) passed _ _ c.args.key.now empty_row c.in-Some.line.now
          (also _ _ _ c.args.key.now empty_row w.self-is puts) before nothing
      | in-None-1 w ↦ changes (λ r. r.queue) passed _ _ c.args.key.now empty_row c.in-Some.line.now
          (also _ _ _ c.args.key.now empty_row w.self-is puts) before nothing
    ]

pub returns-then-len-eq0-clause-rooms : goal.returns-then-len-eq0-clause-rooms
returns-then-len-eq0-clause-rooms c =
    let found = sym c.get_mut.ensures.value ∙ ap option_copied_mut c.in-Some.is in
    let first = seen _ _ _ c.args.key.now _ c.self.view_is
    (written _ _ c.args.key.now _ _ (λ s. ((c.get_mut.follows.holds c.pop-wait.new.self).3 s).0) found) in
    let puts = twice _ _ _ c.args.key.now c.pop-wait.new.self empty_row first (taken_out _ _ c.args.key.now c.remove.ensures.updates.0) in
    elim c.match-remove.branch [
      | in-Some-1 w ↦ others (λ r. r.room) _ _ c.args.key.now empty_row (also _ _ _ c.args.key.now empty_row w.self-is puts)
      | in-None-1 w ↦ others (λ r. r.room) _ _ c.args.key.now empty_row (also _ _ _ c.args.key.now empty_row w.self-is puts)
    ]
