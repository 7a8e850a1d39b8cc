-- What holds of a network between two turns besides.
-- n is a network, p the number of a place, k a port and route, g a group. A past has its newest entry first.
use Rattle.std.specs.Prelude.{ℕ, ◌≡◌, true, List, [], None}
use Rattle.chorus_ui.specs.declared.ui.Ui.{Ui}
use Rattle.chorus_entry.specs.declared.entry.Entry.{Entry}
use Rattle.chorus_world.specs.Views.{at}
use Rattle.chorus_world.specs.Places.{just_taken}
use Rattle.chorus_world.specs.Groups.{posts_to, is_choosing_place, unchosen}
use Rattle.place_unsettled.specs.declared.wait.Key.{Key}
use Rattle.law_network.specs.Network.{NetState, place}

pub record IsReady (n : NetState) (past : List Entry) : Type 0 where
  -- where the first message of a port and route is not under way, none waits
  pub tried : (p : ℕ) (k : Key) → ((place p n).waiting k).tried ≡ None → ((place p n).waiting k).waits ≡ []
  -- a place has chosen for each post of its own to a group of its own, or of no place
  pub chosen : (p : ℕ) (g : Ui) → is_choosing_place n.layout g p p ≡ true →
      unchosen (at p past) (posts_to g (at p past)) ≡ []
  -- no journal ends with the Take of a reply
  pub ended : (p : ℕ) → just_taken past (at p past) ≡ None
