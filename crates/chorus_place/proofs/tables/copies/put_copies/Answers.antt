use Rattle.std.proofs.Common.{◌<◌, subst}
use Rattle.std.proofs.lemmas.List.Elements.{All-head}
use Rattle.place_unsettled.specs.Queues.{room}
use Rattle.law_machine.specs.Choosing.{by_group}
use Rattle.chorus_place.specs.PlaceTables.Groups.{Putting, members_of}
use Rattle.chorus_place.proofs.PlaceTables.Groups.{put-next}
use Rattle.chorus_place.proofs.tables.copies.put_copies.Goals as goal

pub push-requires : goal.push-requires
push-requires c =
    let h = subst (λ xs. Putting c.args.group c.args.copies.items c.args.waits.now c.loop-copy.waits xs) c.in-Some.ensures.items c.loop-copy.invariant in
    All-head (λ q. 0 < room c.loop-copy.waits (by_group c.args.group q)) c.in-Some.copy.port (members_of c.pop_front.new.self.items) h.lines

pub loop-copy-preserved : goal.loop-copy-preserved
loop-copy-preserved c =
    let h = subst (λ xs. Putting c.args.group c.args.copies.items c.args.waits.now c.loop-copy.waits xs) c.in-Some.ensures.items c.loop-copy.invariant in
    put-next c.args.group c.args.copies.items c.args.waits.now c.loop-copy.waits c.push.new.self c.in-Some.copy c.pop_front.new.self.items h c.push.ensures.queues c.push.ensures.rooms
