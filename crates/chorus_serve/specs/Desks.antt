-- A place at the ends of its links, as its callers see it.
use Rattle.std.specs.Prelude.{ℕ, ◌≡◌, ◌+◌, true, length, Option, Some, None}
use Rattle.chorus_io.specs.Count.{raised}
use Rattle.chorus_ui.specs.declared.layout.Layout.{Layout}
use Rattle.chorus_ui.specs.Layout.{places}
use Rattle.chorus_entry.specs.declared.packet.Packet.{Packet}
use Rattle.place_outbox.specs.Waiting.{nothing_to}
use Rattle.law_machine.specs.PlaceState.{started}
use Rattle.chorus_place.specs.Calls.{Place, state}
use Rattle.chorus_ends.specs.Links.{Links}
use Rattle.chorus_serve.specs.declared.hand.Held.{Held}
use Rattle.chorus_serve.specs.declared.hand.Content.{Content}
use Rattle.chorus_serve.specs.declared.hand.Content.TheVariants as contents
use Rattle.chorus_serve.specs.Flows.{IsOther}

-- the place, its ends, what is in hand, the place from which the last packet was taken, or 0, and how many packets were
-- worked off, up to 2^64 - 1
pub record DeskOf (E P : Type 0) : Type 0 where
  pub place : Place
  pub ends : E
  pub hand : Option (Held P)
  pub last : ℕ
  pub worked : ℕ

-- what is in hand, opened or not
abbrev pub packet_in : {P : Type 0} → (P → Packet) → Content P → Packet
packet_in packet (contents.Sealed parcel) = packet parcel
packet_in packet (contents.Opened opened) = opened

abbrev pub packet_of : {P : Type 0} → Content P → Option Packet
packet_of (contents.Sealed parcel) = None
packet_of (contents.Opened opened) = Some opened

abbrev pub parcel_of : {P : Type 0} → Content P → Option P
parcel_of (contents.Sealed parcel) = Some parcel
parcel_of (contents.Opened opened) = None

abbrev pub in_hand : {P : Type 0} → (P → Packet) → Option (Held P) → Option (ℕ × Packet)
in_hand packet None = None
in_hand packet (Some held) = Some (held.from, packet_in packet held.content)

-- the place from which what is in hand came
abbrev pub from_in : {P : Type 0} → Option (Held P) → Option ℕ
from_in None = None
from_in (Some held) = Some held.from

-- the packet in hand where it is opened, and the parcel where it is not
abbrev pub opened_in : {P : Type 0} → Option (Held P) → Option Packet
opened_in None = None
opened_in (Some held) = packet_of held.content

abbrev pub sealed_in : {P : Type 0} → Option (Held P) → Option P
sealed_in None = None
sealed_in (Some held) = parcel_of held.content

-- the count with what is in hand, up to 2^64 - 1
abbrev pub with_hand : {P : Type 0} → Option (Held P) → ℕ → ℕ
with_hand None count = count
with_hand (Some held) count = raised count

-- the same by what the ends show, and by the packet in hand, with the place that it came from
pub record DeskState : Type 0 where
  pub place : Place
  pub links : Links
  pub hand : Option (ℕ × Packet)
  pub last : ℕ
  pub worked : ℕ

abbrev pub seen : {E P : Type 0} → (E → Links) → (P → Packet) → DeskOf E P → DeskState
seen links packet d =
    record {
      place = d.place;
      links = links d.ends;
      hand = in_hand packet d.hand;
      last = d.last;
      worked = d.worked;
    }

-- the ends reach each other place, and there is a list of what waits for each place
pub record IsDesk (place : Place) (links : Links) : Type 0 where
  pub reaches : (p : ℕ) → IsOther place.layout place.number p → links.reaches p ≡ true
  pub lists : length place.out.lists ≡ places place.layout + 1

-- the place of this number, on which nothing happened yet, at these ends; nothing was received or worked off
pub record IsNewDesk {E P : Type 0} (l : Layout) (number : ℕ) (e : E) (d : DeskOf E P) : Type 0 where
  pub state : state d.place ≡ started l number
  pub out : d.place.out.lists ≡ nothing_to (places l)
  pub puts : d.place.out.puts ≡ 0
  pub ends : d.ends ≡ e
  pub hand : d.hand ≡ None
  pub last : d.last ≡ 0
  pub worked : d.worked ≡ 0

-- nothing was sent, received or worked off
pub record SameHands {E P : Type 0} (old new : DeskOf E P) : Type 0 where
  pub ends : new.ends ≡ old.ends
  pub hand : new.hand ≡ old.hand
  pub last : new.last ≡ old.last
  pub worked : new.worked ≡ old.worked
