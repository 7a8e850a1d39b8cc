-- What closing gives.
-- n is the network.
use Rattle.std.specs.Prelude.{ℕ, ◌≡◌, ◌+◌, List, [], ◌∷◌, ◌++◌, length, map, reverse, Option, None}
use Rattle.std.specs.Global.{Vec}
use Rattle.chorus_ui.specs.declared.layout.Layout.{Layout}
use Rattle.chorus_entry.specs.declared.entry.Entry.{Entry}
use Rattle.chorus_entry.specs.declared.packet.Packet.{Packet}
use Rattle.place_outbox.specs.Waiting.{count}
use Rattle.law_network.specs.declared.placed.Placed.{Placed}
use Rattle.law_network.specs.Network.{NetState}
use Rattle.law_network.specs.Holdings.{Holding, holdings_left}
use Rattle.law_network.specs.Left.{journals, packets_left, placed_at, placed}
use Rattle.chorus_merge.specs.Merge.{merged}
use Rattle.chorus_merge.specs.Steps.{journals_of}
use Rattle.chorus_place.specs.Calls.{Place}
use Rattle.chorus_turn.specs.declared.close.Spent.{Spent}
use Rattle.law_closing.specs.Places.{PlaceNote}
use Rattle.chorus_net.specs.declared.closed.Closed.{Closed}
use Rattle.chorus_net.specs.declared.closed.Origin.{Origin}

-- the journals in it, as lists
abbrev pub closed_journals : Closed → List (List Entry)
closed_journals closed = journals_of closed.journals.items

-- the merge of the journals by clock and place, in order, and as a past of the world
abbrev pub merge_of : Closed → List Entry
merge_of closed = merged (closed_journals closed)

abbrev pub past_of : Closed → List Entry
past_of closed = reverse (merge_of closed)

-- the records that are held, and those on their way
abbrev pub holdings_of : Layout → Closed → List Holding
holdings_of l closed = holdings_left l closed.ports.items closed.rest.items

-- it was made by closing the sites with this mark, and by closing some sites
abbrev pub HasMark : ℕ → Closed → Type 0
HasMark mark closed = closed.origin ≡ Origin.Sites mark

abbrev pub IsOfSites : Closed → Type 0
IsOfSites closed = (mark : ℕ) × HasMark mark closed

-- it was made of places that a pass closed, of which this is left, with this clock, which the caller gave as worn
abbrev pub IsOfTurns : Spent PlaceNote → Option ℕ → Closed → Type 0
IsOfTurns spent worn closed = closed.origin ≡ Origin.Turns spent worn

-- these are its parts
abbrev pub HasParts : Vec (Vec Entry) → Vec Packet → Vec Placed → Closed → Type 0
HasParts journals rest ports closed = (closed.journals ≡ journals) × (closed.rest ≡ rest) × (closed.ports ≡ ports)

-- the clock that the caller gave as worn; none for sites
abbrev pub worn_in : Origin → Option ℕ
worn_in (Origin.Sites mark) = None
worn_in (Origin.Turns spent worn) = worn

abbrev pub worn_of : Closed → Option ℕ
worn_of closed = worn_in closed.origin

-- what is left of the network, whoever closed it: the journals of the places, the packets that were put and not worked
-- off, and the ports that are held
pub record IsLeft (n : NetState) (closed : Closed) : Type 0 where
  pub journals : closed_journals closed ≡ journals n
  pub rest : closed.rest.items ≡ packets_left n
  pub ports : closed.ports.items ≡ placed n

-- and it was made by closing sites
pub record IsClosed (n : NetState) (closed : Closed) : Type 0 where
  pub left : IsLeft n closed
  pub origin : IsOfSites closed

-- What places have, by place: their journals, the packets that wait there, and the ports that they hold.

abbrev pub journals_in : List Place → List (List Entry)
journals_in ps = map (λ (p : Place). reverse p.journal) ps

abbrev pub flat : List (List Packet) → List Packet
flat [] = []
flat (l ∷ ls) = l ++ flat ls

abbrev pub packets_of : List Place → List Packet
packets_of [] = []
packets_of (p ∷ ps) = flat p.out.lists ++ packets_of ps

abbrev pub ports_of : List Place → List Placed
ports_of [] = []
ports_of (p ∷ ps) = placed_at p.number p.ports ++ ports_of ps

-- how many packets, and how many ports
abbrev pub total_waiting : List Place → ℕ
total_waiting [] = 0
total_waiting (p ∷ ps) = count p.out.lists + total_waiting ps

abbrev pub total_held : List Place → ℕ
total_held [] = 0
total_held (p ∷ ps) = length p.ports + total_held ps

-- with what is left of one place more
pub record IsWith (p : Place) (old new : Closed) : Type 0 where
  pub journals : closed_journals new ≡ closed_journals old ++ reverse p.journal ∷ []
  pub rest : new.rest.items ≡ old.rest.items ++ flat p.out.lists
  pub ports : new.ports.items ≡ old.ports.items ++ placed_at p.number p.ports
  pub origin : new.origin ≡ old.origin

-- what is left of these places, made by closing the sites with this mark
pub record HasPartsOf (mark : ℕ) (ps : List Place) (closed : Closed) : Type 0 where
  pub journals : closed_journals closed ≡ journals_in ps
  pub rest : closed.rest.items ≡ packets_of ps
  pub ports : closed.ports.items ≡ ports_of ps
  pub origin : HasMark mark closed
