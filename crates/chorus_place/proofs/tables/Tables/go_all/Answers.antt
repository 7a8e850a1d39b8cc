use Rattle.std.proofs.Common.{◌∙◌, subst, arith}
use Rattle.std.proofs.lemmas.List.Elements.{All-head}
use Rattle.place_unsettled.specs.Queues.{queue}
use Rattle.law_machine.specs.Choosing.{by_group}
use Rattle.chorus_place.specs.PlaceTables.Tables.{state, turn, IsPort}
use Rattle.chorus_place.specs.PlaceTables.Groups.{AllGoing, ports_of}
use Rattle.chorus_place.proofs.PlaceTables.Groups.{reports-within, all-next, course-free}
use Rattle.chorus_place.proofs.PlaceTables.Rooms.{kept-then}
use Rattle.chorus_place.proofs.tables.Tables.go_all.Goals as goal

pub go-requires-clause-may : goal.go-requires-clause-may
go-requires-clause-may c =
    let start = turn c.args.self.now c.args.caller.now in
    let p = c.loop-course.self in
    let h = subst (λ xs. AllGoing c.args.group (ports_of c.args.courses.items) start (turn p c.loop-course.caller) xs p.journal.spare p.room) c.in-Some.ensures.items
    c.loop-course.invariant.0 in
    let few = reports-within p.number (queue p.waits (by_group c.args.group c.in-Some.course.port)).waits in
    let entries = h.spare in
    let packets = h.room in
    let clock = h.clock in
    record {
      kind = All-head IsPort c.in-Some.course.port (ports_of c.pop_front.new.self.items) h.kinds;
      spare = omega (arith, entries);
      room = omega (arith, few, packets);
      clock = omega (arith, clock);
    }

pub loop-course-preserved : goal.loop-course-preserved
loop-course-preserved c =
    let start = turn c.args.self.now c.args.caller.now in
    let p = c.loop-course.self in
    let h = subst (λ xs. AllGoing c.args.group (ports_of c.args.courses.items) start (turn p c.loop-course.caller) xs p.journal.spare p.room) c.in-Some.ensures.items
    c.loop-course.invariant.0 in (
      all-next c.args.group (ports_of c.args.courses.items) start (turn p c.loop-course.caller) (turn c.go.new.self c.go.new.caller) c.in-Some.course c.pop_front.new.self.items
          p.journal.spare p.room c.go.new.self.journal.spare c.go.new.self.room h c.go.ensures.turn c.go.ensures.spare c.go.ensures.room,
      c.go.ensures.out ∙ c.loop-course.invariant.1,
      kept-then c.loop-course.invariant.2 c.go.ensures.kept,
    )

pub go-requires-clause-again : goal.go-requires-clause-again
go-requires-clause-again c =
    let start = turn c.args.self.now c.args.caller.now in
    let p = c.loop-course.self in
    let h = subst (λ xs. AllGoing c.args.group (ports_of c.args.courses.items) start (turn p c.loop-course.caller) xs p.journal.spare p.room) c.in-Some.ensures.items
    c.loop-course.invariant.0 in
    λ free. course-free c.args.group (state p) c.in-Some.course c.pop_front.new.self.items h.courses free
