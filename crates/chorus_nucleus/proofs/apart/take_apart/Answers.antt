use Rattle.std.proofs.Common.{◌++◌, [], List, ◌∙◌, ap, subst, arith}
use Rattle.std.specs.Global.{Vec}
use Rattle.chorus_entry.specs.declared.entry.Entry.{Entry}
use Rattle.chorus_entry.specs.declared.packet.Packet.{Packet}
use Rattle.law_network.specs.declared.placed.Placed.{Placed}
use Rattle.chorus_merge.specs.Steps.{journals_of}
use Rattle.chorus_net.specs.Closing.{journals_in, ports_of}
use Rattle.chorus_nucleus.specs.Leavings.{TakesAll}
use Rattle.chorus_nucleus.specs.Apart.{places_in}
use Rattle.chorus_nucleus.proofs.Parting.{slots-count, slots-there, slots-linked, parted-rest, parted-settled}
use Rattle.chorus_nucleus.proofs.apart.take_apart.Goals as goal

pub take_all-requires-clause-few : goal.take_all-requires-clause-few
take_all-requires-clause-few g c =
    let n = slots-count c.args.desks.items c.in_ok-slots.slots.items c.in_ok-slots.ensures.remains in
    let few = c.requires.few in
    omega (arith, n, few)

pub take_all-requires-clause-there : goal.take_all-requires-clause-there
take_all-requires-clause-there g c = slots-there c.args.desks.items c.in_ok-slots.slots.items c.in_ok-slots.ensures.remains

pub take_all-requires-clause-linked : goal.take_all-requires-clause-linked
take_all-requires-clause-linked g c = slots-linked c.args.desks.items c.in_ok-slots.slots.items c.in_ok-slots.ensures.remains c.requires.linked

pub returns : goal.returns
returns g c =
    let ss = c.args.desks.items in
    let ts = c.in_ok-slots.slots.items in
    let h = c.in_ok-slots.ensures in
    let rest = c.take_all.new.packets.items in
    let all : TakesAll [] rest ts = subst (λ (was : List Packet). TakesAll was rest ts) c.new-rest.ensures.items c.in_ok-take_all.ensures in
    record {
      journals = h.journals ∙ ap (λ (js : List (Vec Entry)). journals_of js ++ journals_in (places_in ss)) c.new.ensures.items;
      rest = parted-rest ss ts h.remains rest all;
      ports = h.ports ∙ ap (λ (ps : List Placed). ps ++ ports_of (places_in ss)) c.new-2.ensures.items;
      settled = parted-settled ss ts h.remains rest all;
    }
