use Rattle.std.proofs.Common.{ap, refl, sym, ◌∙◌, ◌≡◌, true, is_some, arith}
use Rattle.chorus_ui.specs.Layout.{has_actor, home, creation_place}
use Rattle.chorus_entry.specs.declared.command.Command.TheVariants as Command
use Rattle.chorus_entry.specs.declared.act.Act.TheVariants as Act
use Rattle.chorus_world.specs.Steps.{is_full_of_ports}
use Rattle.law_machine.specs.declared.reply.Reply.{Reply}
use Rattle.law_machine.specs.Own.{next_port}
use Rattle.chorus_place.specs.PlaceTables.Tables.{Tables, turn}
use Rattle.chorus_place.proofs.PlaceTurns.Posting.{on_err}
use Rattle.chorus_place.proofs.PlaceTurns.Performing.{performs, making, home-here, has-home}
use Rattle.chorus_place.proofs.turns.ports.make.Goals as goal

pub returns-in_err-make_port_room-clause-refused : goal.returns-in_err-make_port_room-clause-refused
returns-in_err-make_port_room-clause-refused c =
    on_err _ _ (c.make_port_room.ensures.turn c.args.caller.now ∙ c.make_room.ensures.turn c.args.caller.now)

pub make_port-requires-clause-may : goal.make_port-requires-clause-may
make_port-requires-clause-may c =
    let same = c.make_room.ensures.same in
    let layout = ap (λ (p : Tables). p.layout) c.make_port_room.ensures.same ∙ same.layout in
    let a = c.args.actor in
    let tells = c.is_none.ensures in
    let holds = c.if-is_none.false in
    let some : is_some c.home.result ≡ true = grind (arith, tells, holds) in
    let there = sym (ap (λ l. is_some (home l a)) (c.layout.ensures ∙ same.layout)) ∙ sym (ap is_some c.home.ensures.value) ∙ some in
    record {
      next = c.next_port-port.ensures;
      actor = ap (λ l. has_actor l a) layout ∙ has-home c.args.tables.now.layout a there;
      home = ap (λ l. creation_place l a) layout ∙ home-here c.args.tables.now.layout a c.args.caller.now.actor c.args.capacity c.args.tables.now.number c.requires.may.here there
          ∙ sym (ap (λ t. t.place.number) (c.make_port_room.ensures.turn c.args.caller.now) ∙ same.number);
      few = ap (λ (p : Tables). is_full_of_ports p.layout p.journal.past) c.make_port_room.ensures.same ∙ sym c.has_made_all.ensures ∙ c.if-has_made_all.false;
      least = c.requires.may.least;
      most = c.requires.may.most;
      slot = c.in_ok-make_port_room.ensures.slot;
    }

pub returns-in_err-make_port-clause-refused : goal.returns-in_err-make_port-clause-refused
returns-in_err-make_port-clause-refused c =
    on_err _ _ (c.in_err-make_port.ensures.refused ∙ c.make_port_room.ensures.turn c.args.caller.now ∙ c.make_room.ensures.turn c.args.caller.now)

pub returns-clause-performed : goal.returns-clause-performed
returns-clause-performed c =
    let a = c.args.actor in
    let caller = c.args.caller.now in
    let same = c.make_room.ensures.same in
    let tells = c.is_none.ensures in
    let holds = c.if-is_none.false in
    let some : is_some c.home.result ≡ true = grind (arith, tells, holds) in
    let there = sym (ap (λ l. is_some (home l a)) (c.layout.ensures ∙ same.layout)) ∙ sym (ap is_some c.home.ensures.value) ∙ some in
    let mid = c.make_port_room.ensures.turn caller ∙ c.make_room.ensures.turn caller in
    let few = sym (ap (λ t. is_full_of_ports t.place.layout t.place.journal) (c.make_room.ensures.turn caller)) ∙ sym c.has_made_all.ensures ∙ c.if-has_made_all.false in
    let old = turn c.args.tables.now caller in
    performs (Command.Make a c.args.capacity) (Act.Make c.next_port-port.result a c.args.capacity) old (turn c.make_port_room.new.self caller) _ (Reply.Made c.next_port-port.result) mid
    (making old.place a c.args.capacity (has-home c.args.tables.now.layout a there) few
    ∙ ap (λ q. Act.Make q a c.args.capacity) (sym (ap (λ t. next_port t.place a) mid) ∙ sym c.next_port-port.ensures))
    c.in_ok-make_port.ensures.turn refl
