-- The one act that answers a command is the own act of the place machine.
-- n is a network. A past has its newest entry first.
use Rattle.std.specs.Prelude.{ℕ, ◌≡◌, ◌<◌, true, List, Some, slice_get}
use Rattle.chorus_ui.specs.Layout.{IsLayout}
use Rattle.chorus_entry.specs.declared.entry.Entry.{Entry}
use Rattle.chorus_entry.specs.declared.command.Command.{Command}
use Rattle.chorus_entry.specs.Command.{meets_conditions}
use Rattle.chorus_entry.specs.Places.{place_for}
use Rattle.chorus_world.specs.Views.{at}
use Rattle.chorus_world.specs.Places.{last_clock}
use Rattle.chorus_world.specs.Answering.{IsOnly}
use Rattle.chorus_calls.specs.Callers.{Seated}
use Rattle.law_machine.specs.Own.{own}
use Rattle.law_network.specs.Network.{NetState, turn_for}
use Rattle.law_network.specs.Stands.{Stands, actor_of}
use Rattle.law_network.specs.Ready.{IsReady}

abbrev pub OwnActAnswers : Type 0
OwnActAnswers =
    (n : NetState) (past : List Entry) (seat : ℕ) (caller : Seated) (command : Command) (clock : ℕ) →
    IsLayout n.layout → Stands n past → IsReady n past → slice_get n.callers seat ≡ Some caller →
    meets_conditions command ≡ true →
    last_clock (at (place_for n.layout caller.actor command) past) < clock → caller.last < clock →
    IsOnly n.layout (actor_of n) past seat caller.actor command clock (own command (turn_for command caller n))
