-- In which order the places and the packets of a network stand.
-- l is a layout, n a network, s a place, o a packet with the place that it goes to.
use Rattle.std.specs.Prelude.{◌≡◌, ◌==◌, true, false, map}
use Rattle.std.specs.List.{All}
use Rattle.chorus_ui.specs.declared.layout.Layout.{Layout}
use Rattle.chorus_ui.specs.Layout.{has_place}
use Rattle.law_machine.specs.declared.outgoing.Outgoing.{Outgoing}
use Rattle.law_machine.specs.PlaceState.{PlaceState}
use Rattle.law_network.specs.Packets.{AreByLink}
use Rattle.law_network.specs.Network.{NetState, place_numbers}
use Rattle.law_network.specs.Schedules.{OfSchedules}

-- the packet goes between two different places of the layout
pub record IsBetweenPlaces (l : Layout) (o : Outgoing) : Type 0 where
  pub has_from : has_place l o.packet.from ≡ true
  pub has_to : has_place l o.to ≡ true
  pub apart : (o.packet.from == o.to) ≡ false

-- the places are those of the layout, by their numbers, and the packets stand by link, each between two of them
pub record StandsByPlace (l : Layout) (n : NetState) : Type 0 where
  pub layout : n.layout ≡ l
  pub places : map (λ (s : PlaceState). s.number) n.places ≡ place_numbers l
  pub order : AreByLink n.packets
  pub between : All (IsBetweenPlaces l) n.packets

abbrev pub SchedulesStandByPlace : Type 0
SchedulesStandByPlace = OfSchedules (λ l es n. StandsByPlace l n)
