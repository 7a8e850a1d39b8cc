-- An entry of a turn, with the packets of the whole network: those that the turn left in it, and those that it put.
use Rattle.std.proofs.Common.{◌≡◌, true, false, List, [], ◌∷◌, ◌++◌, map, Some, None, refl, sym, ap, subst}
use Rattle.chorus_entry.specs.declared.entry.Entry.{Entry}
use Rattle.chorus_entry.specs.declared.id.MsgId.{MsgId}
use Rattle.chorus_entry.specs.declared.act.Act.{Act}
use Rattle.chorus_entry.specs.Act.{message_of, held_port_of}
use Rattle.chorus_entry.specs.Kinds.{has_kinds}
use Rattle.chorus_entry.specs.MsgId.{same_id}
use Rattle.chorus_world.specs.declared.place.Sent.{Sent}
use Rattle.chorus_world.specs.Views.{at}
use Rattle.chorus_entry.specs.Same.{are_same}
use Rattle.chorus_world.specs.Places.{just_taken, sent_by}
use Rattle.chorus_world.specs.Steps.{may_stand_behind, is_legal}
use Rattle.chorus_world.specs.Runs.{fits_caller}
use Rattle.chorus_world.specs.SortingLaws.{LooksAtHome}
use Rattle.chorus_world.proofs.Sorted.Local.{local_views, act_may_here}
use Rattle.chorus_world.proofs.Messages.MessageInvariant.{legal_messages}
use Rattle.chorus_world.proofs.Sorted.Observers.{Laws}
use Rattle.chorus_world.proofs.Messages.StageLemmas.{MessageFacts}
use Rattle.chorus_world.proofs.Messages.SendingLemmas.{sent_as}
use Rattle.chorus_calls.specs.Callers.{Seated}
use Rattle.law_machine.specs.declared.outgoing.Outgoing.{Outgoing}
use Rattle.law_machine.specs.PlaceState.{Turn, Change, next_entry, packed, unchanged, say, note}
use Rattle.law_machine.specs.Doing.{with_caller}
use Rattle.law_network.specs.Packets.{put_all}
use Rattle.law_network.specs.Network.{NetState}
use Rattle.law_network.proofs.Standing.InTurn.{ArePackets, InTurn}
use Rattle.law_network.proofs.Standing.Says.{known_clock, CallerSays, PortsSay, TablesSay, MaySay, Says}
use Rattle.law_network.proofs.Standing.Saying.{legal-now, laws-now, legal-next, say-stands}
use Rattle.law_network.proofs.Standing.StillCallers.{moves_caller, asks_or_chooses, caller-still, asks-still, no-message-clock, no-port-clock}
use Rattle.law_network.proofs.Tables.TablesSay.{teaches, posts_or_hears, known-still, unheard-still, waiting-still}
use Rattle.law_network.proofs.Standing.Families.{messages-none, ports-none, transfers-none}

pub puts-append : (xs ys us : List Outgoing) → put_all (xs ++ ys) us ≡ put_all ys (put_all xs us)
puts-append [] ys us = refl
puts-append (x ∷ xs) ys us = puts-append xs ys _

-- the network stands for this past where the turn is so far
abbrev pub Stood : NetState → List Outgoing → List Entry → Turn → Type 0
Stood n us past t = InTurn n (put_all t.puts us) past t

module _ (n : NetState) (us : List Outgoing) (past : List Entry) (t : Turn) (w : Stood n us past t) where
  abbrev pub now : List Outgoing
  now = put_all t.puts us

  pub facts : (x : MsgId) → MessageFacts x past
  facts x = legal_messages t.place.layout past (legal-now n now past t w) x

  pub laws : Laws t.place.layout past
  laws = laws-now n now past t w

  -- the entry, with what it puts
  pub says : (a : Act) (c : Change) → Says (put_all (map (packed t) c.loads) (put_all t.puts us)) past t a c → Stood n us (next_entry a t ∷ past) (say a c t)
  says a c o =
      subst (λ os. InTurn n os (next_entry a t ∷ past) (say a c t)) (sym (puts-append t.puts (map (packed t) c.loads) us))
      (say-stands n now past t w (put_all (map (packed t) c.loads) now) a c o)

  -- packets where no message, no port and no post to a group is concerned
  pub packets-still : (a : Act) → message_of a ≡ None → held_port_of a ≡ None → asks_or_chooses a ≡ false → ArePackets t.place.layout (put_all t.puts us) (next_entry a t ∷ past)
  packets-still a m q g =
      let l = t.place.layout in
      let e = next_entry a t in
      let all = laws.posted in
      record {
        order = w.packets.order;
        messages = messages-none l past e all now now facts m (λ x. refl) w.packets.messages;
        transfers = transfers-none l past e all now now q (λ r. refl) w.packets.transfers;
        asks = asks-still l now now past e g (λ f b r. refl) w.packets.asks;
      }

  -- the past is legal with an entry that may be said
  pub legal-with : (a : Act) → MaySay past t a → is_legal t.place.layout (next_entry a t ∷ past) ≡ true
  legal-with = legal-next n now past t w

  -- the tables of the place, where the act teaches, sends and posts nothing, is not heard, and is about no message that waits here
  pub tables-still : (a : Act) → MaySay past t a → teaches a ≡ false → sent_by a ≡ [] → posts_or_hears a ≡ false
      → ((m : Sent) → sent_as m.id t.place.number past ≡ Some m → are_same same_id (Some m.id) (message_of a) ≡ false)
      → TablesSay past t a t.place.known t.place.waiting t.place.unheard
  tables-still a may teach unsent quiet apart =
      let l = t.place.layout in
      let e = next_entry a t in
      record {
        known = known-still l t.place.known e (at t.place.number past) teach w.here.known;
        waiting = waiting-still l past e t.place.waiting laws.posted (legal-with a may) w.here.waiting unsent apart;
        unheard = unheard-still l past e t.place.unheard quiet w.here.unheard;
      }

  pub ports-still : (a : Act) → held_port_of a ≡ None → PortsSay past (next_entry a t) t.place.ports
  ports-still a q = ports-none t.place.layout past (next_entry a t) laws.posted t.place.ports q w.here.once w.here.ports

  -- an act about no message and at no port may be said
  pub may-say : (a : Act) → message_of a ≡ None → held_port_of a ≡ None → has_kinds a ≡ true → may_stand_behind (just_taken past (at t.place.number past)) a ≡ true
      → act_may_here t.place.layout (local_views past past t.place.number t.caller.seat a) t.place.number t.caller.seat a ≡ true
      → fits_caller past t.place.number t.caller.actor a ≡ true → LooksAtHome t.place.layout t.place.number a → MaySay past t a
  may-say a m q kinds behind may fits looks =
      record {
        kinds = kinds;
        behind = behind;
        may = may;
        fits = fits;
        looks = looks;
        message = no-message-clock past (message_of a) (known_clock t) m;
        port = no-port-clock past (held_port_of a) (known_clock t) q;
      }

  -- an entry alone
  pub notes : (a : Act) → message_of a ≡ None → held_port_of a ≡ None → asks_or_chooses a ≡ false → teaches a ≡ false → sent_by a ≡ [] → posts_or_hears a ≡ false → moves_caller a ≡ false
      → MaySay past t a → Stood n us (next_entry a t ∷ past) (note a t)
  notes a m q g b s h c may =
      says a (unchanged t)
      (record {
        may = may;
        caller = caller-still past t a c w.caller;
        ports = ports-still a q;
        tables = tables-still a may b s h (λ k f. ap (are_same same_id (Some k.id)) m);
        packets = packets-still a m q g;
      })

  -- an entry that changes its caller alone
  pub calls : (a : Act) (c : Seated) → message_of a ≡ None → held_port_of a ≡ None → asks_or_chooses a ≡ false → teaches a ≡ false → sent_by a ≡ [] → posts_or_hears a ≡ false
      → MaySay past t a → CallerSays past t a c → Stood n us (next_entry a t ∷ past) (with_caller a c t)
  calls a c m q g b s h may caller =
      says a (record (unchanged t) { caller = c })
      (record {
        may = may;
        caller = caller;
        ports = ports-still a q;
        tables = tables-still a may b s h (λ k f. ap (are_same same_id (Some k.id)) m);
        packets = packets-still a m q g;
      })
