use Rattle.std.proofs.Common.{◌<◌, refl, ap, subst, sym, max, ◌∙◌, rules}
use Rattle.chorus_ui.specs.declared.limits.TheConstants.{CLOCK_LIMIT}
use Rattle.law_machine.specs.Lawful.{is_lawful}
use Rattle.law_machine.specs.PlaceState.{Turn, greatest_clock}
use Rattle.law_machine.specs.PlaceMachine.{work, begun, begun_by}
use Rattle.chorus_calls.specs.Callers.{after_tick}
use Rattle.chorus_place.specs.PlaceTables.Tables.{state}
use Rattle.chorus_place.proofs.PlaceTables.Rooms.{kept-then}
use Rattle.chorus_place.specs.Calls as calls
use Rattle.chorus_place.proofs.Ended.{begins, ended, stays, stays-then}
use Rattle.chorus_place.proofs.Bounded.{refused-at-rest, works-at-rest}
use Rattle.chorus_place.proofs.place.Place.work.Goals as goal

pub invariant_of-self : goal.invariant_of-self
invariant_of-self c =
    let p = c.deref_mut-tables.result.now in
    let rest = subst calls.IsAtRest (sym c.deref_mut-tables.ensures.value) c.self.invariant in
    let caller = c.args.caller.now in
    refused-at-rest p c.make_ready.new.tables caller caller rest (c.make_ready.ensures.turn caller) c.make_ready.ensures.out

pub returns-in-Err-clause-refused : goal.returns-in-Err-clause-refused
returns-in-Err-clause-refused c =
    let p = c.deref_mut-tables.result.now in
    let rest = subst calls.IsAtRest (sym c.deref_mut-tables.ensures.value) c.self.invariant in
    let caller = c.args.caller.now in
    let seen = ap calls.place_of c.deref_mut-tables.ensures.value ∙ c.self.view_is in (
      subst (λ q. calls.Stays q (calls.place_of c.make_ready.new.tables)) seen
          (stays p c.make_ready.new.tables caller caller rest.none (c.make_ready.ensures.turn caller) c.make_ready.ensures.out c.make_ready.ensures.kept),
      refl,
    )

pub open-requires-clause-lawful : goal.open-requires-clause-lawful
open-requires-clause-lawful c =
    let packet = c.args.packet in
    let same = ap (λ (t : Turn). is_lawful packet.from packet t.place) (c.make_ready.ensures.turn c.args.caller.now) in
    same ∙ ap (λ q. is_lawful packet.from packet (calls.state q)) (ap calls.place_of c.deref_mut-tables.ensures.value ∙ c.self.view_is) ∙ c.requires

pub open-requires-clause-clock : goal.open-requires-clause-clock
open-requires-clause-clock c = subst (λ (t : Turn). greatest_clock t < CLOCK_LIMIT) (sym (c.make_ready.ensures.turn c.tick.new.self)) (search rules)

pub invariant_of-self-2 : goal.invariant_of-self-2
invariant_of-self-2 c =
    let p = c.deref_mut-tables.result.now in
    let e = c.deref_mut-tables.ensures.value in
    let rest = subst calls.IsAtRest (sym e) c.self.invariant in
    let caller = c.args.caller.now in
    let packet = c.args.packet in
    let sent = c.send_out.ensures in
    let heard = c.max-heard.ensures ∙ ap (λ n. max n packet.clock) c.last.ensures in
    works-at-rest packet p c.open.new.tables c.send_out.new.self caller c.tick.new.self c.open.new.caller rest (c.tick.ensures ∙ ap (after_tick caller) heard)
    (c.open.ensures.turn ∙ ap (work packet) (c.make_ready.ensures.turn c.tick.new.self)) (stays-then c.make_ready.ensures.out c.open.ensures.out)
    (record { state = sent.state; lists = sent.lists; count = sent.count; spare = ap (λ j. j.spare) sent.journal; room = sent.room }) sent.none
    (ap (λ q. is_lawful packet.from packet (calls.state q)) (ap calls.place_of e ∙ c.self.view_is) ∙ c.requires)

pub returns-clause-worked : goal.returns-clause-worked
returns-clause-worked c =
    let p = c.deref_mut-tables.result.now in
    let e = c.deref_mut-tables.ensures.value in
    let rest = subst calls.IsAtRest (sym e) c.self.invariant in
    let caller = c.args.caller.now in
    let packet = c.args.packet in
    let sent = c.send_out.ensures in
    let heard = c.max-heard.ensures ∙ ap (λ n. max n packet.clock) c.last.ensures in
    let start = c.make_ready.ensures.turn c.tick.new.self ∙ begins p c.tick.new.self rest.none ∙ ap (begun (state p)) (c.tick.ensures ∙ ap (after_tick caller) heard) in
    subst (λ q. calls.Ended (work packet (begun_by (calls.state q) caller packet)) q (calls.place_of c.send_out.new.self) c.open.new.caller) (ap calls.place_of e ∙ c.self.view_is)
    (ended (work packet (begun_by (state p) caller packet)) p c.open.new.tables c.send_out.new.self c.open.new.caller rest.none (c.open.ensures.turn ∙ ap (work packet) start)
    (stays-then c.make_ready.ensures.out c.open.ensures.out) (kept-then c.make_ready.ensures.kept c.open.ensures.kept)
    (record { state = sent.state; lists = sent.lists; count = sent.count; spare = ap (λ j. j.spare) sent.journal; room = sent.room }))
