-- The first entry of a turn in which a packet is worked off.
use Rattle.std.proofs.Common.{ℕ, ◌≡◌, List, [], ◌++◌, ◌∷◌, map, sym, subst}
use Rattle.chorus_entry.specs.declared.entry.Entry.{Entry}
use Rattle.chorus_entry.specs.declared.id.MsgId.{MsgId}
use Rattle.chorus_entry.specs.declared.act.Act.{Act}
use Rattle.chorus_entry.specs.declared.packet.Packet.{Packet}
use Rattle.law_machine.specs.declared.outgoing.Outgoing.{Outgoing}
use Rattle.law_machine.specs.PlaceState.{Turn, Change, next_entry, packed, say}
use Rattle.law_network.specs.Packets.{put_all, rest_on}
use Rattle.law_network.specs.Network.{NetState}
use Rattle.law_network.proofs.Standing.InTurn.{InTurn, ArePackets}
use Rattle.law_network.proofs.Standing.Says.{Says}
use Rattle.law_network.proofs.Standing.Saying.{say-stands}
use Rattle.law_network.proofs.Standing.Steps.{Stood}
use Rattle.law_network.proofs.Links.Abouts.{IsAbout, Moves, moves-take}
use Rattle.law_network.proofs.Standing.Given.{Comes}

-- the first entry of a turn in which a packet is worked off: `rest` are the packets without it
pub takes-says : (n : NetState) (us rest : List Outgoing) (past : List Entry) (t : Turn) (a : Act) (c : Change) → t.puts ≡ [] → Stood n us past t → Says (put_all (map (packed t) c.loads) rest) past t a c → Stood n rest (next_entry a t ∷ past) (say a c t)
takes-says n us rest past t a c none w o =
    subst (λ xs. InTurn n (put_all (xs ++ map (packed t) c.loads) rest) (next_entry a t ∷ past) (say a c t)) (sym none)
    (say-stands n (put_all t.puts us) past t w (put_all (map (packed t) c.loads) rest) a c o)

-- the packets where it comes
module _ (n : NetState) (us : List Outgoing) (past : List Entry) (t : Turn) (from : ℕ) (k : Packet) (i : Comes n us past t from k) where
  abbrev w : Stood n us past t
  w = i.calm.stood

  abbrev p : ℕ
  p = t.place.number

  abbrev rest : List Outgoing
  rest = rest_on from t.place.number us

  pub packets-now : ArePackets t.place.layout us past
  packets-now = subst (λ xs. ArePackets t.place.layout (put_all xs us) past) i.none w.packets

  -- between all packets and those without this one
  pub moved-rest : (x : MsgId) → IsAbout x k.cargo → Moves x (put_all t.puts us) (rest_on from t.place.number us)
  moved-rest x c =
      subst (λ xs. Moves x (put_all xs us) rest) (sym i.none) (moves-take x from p us k packets-now.order c i.first)
