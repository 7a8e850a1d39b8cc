-- The packets of a network, where an entry is about one message: packets about it come and go.
use Rattle.std.proofs.Common.{ℕ, ◌≡◌, true, false, List, ◌∷◌, Some, None, refl, ◌∙◌, ap}
use Rattle.std.specs.List.{filter}
use Rattle.chorus_ui.specs.declared.ui.Ui.{Ui}
use Rattle.chorus_entry.specs.declared.id.MsgId.{MsgId}
use Rattle.chorus_entry.specs.declared.act.Act.{Act}
use Rattle.chorus_entry.specs.declared.entry.Entry.{Entry}
use Rattle.chorus_entry.specs.declared.packet.Packet.{Packet}
use Rattle.chorus_entry.specs.declared.packet.Cargo.{Cargo}
use Rattle.chorus_entry.specs.Act.{message_of, held_port_of}
use Rattle.chorus_entry.specs.MsgId.{same_id}
use Rattle.chorus_world.specs.Views.{about}
use Rattle.chorus_world.specs.Messages.{progress, progress_after}
use Rattle.law_machine.specs.declared.outgoing.Outgoing.{Outgoing}
use Rattle.law_machine.specs.PlaceState.{Turn, next_clock, next_entry}
use Rattle.law_network.specs.Packets.{AreByLink, put, put_all, first_on, rest_on}
use Rattle.law_network.specs.Network.{NetState}
use Rattle.law_network.specs.UnderWay.{carries, moves, asked_for, is_of, is_with, under_way_as, transfer}
use Rattle.law_network.proofs.Links.LinkViews.{put-out, put-order}
use Rattle.law_network.proofs.Links.LinkViews.{rest-order}
use Rattle.law_network.proofs.Standing.InTurn.{ArePackets}
use Rattle.law_network.proofs.Links.PacketViews.{put-asks, rest-asks, is_ask, no-ask, of-other, with-other}
use Rattle.law_network.proofs.Standing.StillCallers.{asks_or_chooses, asks-still}
use Rattle.law_network.proofs.Standing.Families.{messages-one, transfers-none}
use Rattle.law_network.proofs.Standing.Steps.{Stood, facts, laws}

-- the cargo is about this message alone, and asks for nothing
pub record IsAbout (x : MsgId) (c : Cargo) : Type 0 where
  pub this : carries x c ≡ true
  pub others : (z : MsgId) → same_id x z ≡ false → carries z c ≡ false
  pub plain : is_ask c ≡ false
  pub still : (q : Ui) → moves q c ≡ false

-- between these lists only packets about x came and went
pub record Moves (x : MsgId) (old now : List Outgoing) : Type 0 where
  pub order : AreByLink now
  pub others : (z : MsgId) → same_id x z ≡ false → filter (is_of z) now ≡ filter (is_of z) old
  pub ports : (q : Ui) → filter (is_with q) now ≡ filter (is_with q) old
  pub asks : (g : Ui) (a p : ℕ) → asked_for g a p now ≡ asked_for g a p old

pub moves-none : (x : MsgId) (old : List Outgoing) → AreByLink old → Moves x old old
moves-none x old h = record { order = h; others = λ z n. refl; ports = λ q. refl; asks = λ g a p. refl }

pub moves-put : (x : MsgId) (old now : List Outgoing) (o : Outgoing) → IsAbout x o.packet.cargo → Moves x old now → Moves x old (put o now)
moves-put x old now o c h =
    record {
      order = put-order o now h.order;
      others = λ z n. put-out (is_of z) o now (c.others z n) ∙ h.others z n;
      ports = λ q. put-out (is_with q) o now (c.still q) ∙ h.ports q;
      asks = λ g a p. put-asks g a p o now (no-ask g o c.plain) ∙ h.asks g a p;
    }

pub moves-take : (x : MsgId) (a b : ℕ) (old : List Outgoing) (k : Packet) → AreByLink old → IsAbout x k.cargo → first_on a b old ≡ Some k → Moves x old (rest_on a b old)
moves-take x a b old k h c f =
    record {
      order = rest-order a b old h;
      others = λ z n. of-other z a b old k (c.others z n) f;
      ports = λ q. with-other q a b old k (c.still q) f;
      asks = λ g d p. rest-asks g d p a b old k (λ w e. no-ask g w (ap (λ (z : Packet). is_ask z.cargo) e ∙ c.plain)) f;
    }

module _ (n : NetState) (us : List Outgoing) (past : List Entry) (t : Turn) (w : Stood n us past t) where
  -- an act about one message that asks for nothing and chooses nothing, and what it does to the transfers
  pub packets-at : (x : MsgId) (a : Act) (new : List Outgoing) → message_of a ≡ Some x → asks_or_chooses a ≡ false → Moves x (put_all t.puts us) new
      → ((q : Ui) → filter (is_with q) new ≡ transfer (next_entry a t ∷ past) q)
      → filter (is_of x) new ≡ under_way_as t.place.layout (next_entry a t ∷ past) x (next_clock t) (progress_after t.place.number a (progress (about x past)))
      → ArePackets t.place.layout new (next_entry a t ∷ past)
  packets-at x a new m g moved transfers this =
      let l = t.place.layout in
      let e = next_entry a t in
      let all = (laws n us past t w).posted in
      record {
        order = moved.order;
        messages = messages-one l past e all x (put_all t.puts us) new (facts n us past t w) m moved.others w.packets.messages this;
        transfers = transfers;
        asks = asks-still l (put_all t.puts us) new past e g moved.asks w.packets.asks;
      }

  -- that stands on the line of no port
  pub packets-about : (x : MsgId) (a : Act) (new : List Outgoing) → message_of a ≡ Some x → held_port_of a ≡ None → asks_or_chooses a ≡ false → Moves x (put_all t.puts us) new
      → filter (is_of x) new ≡ under_way_as t.place.layout (next_entry a t ∷ past) x (next_clock t) (progress_after t.place.number a (progress (about x past)))
      → ArePackets t.place.layout new (next_entry a t ∷ past)
  packets-about x a new m q g moved this =
      packets-at x a new m g moved
      (transfers-none t.place.layout past (next_entry a t) (laws n us past t w).posted (put_all t.puts us) new q moved.ports w.packets.transfers) this
