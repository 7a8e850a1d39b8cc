-- What follows for journals: merged by clock and place alone, they are a run that performs each caller's commands.
-- l is a layout, p, a and b are numbers of places, q is a seat, n what places, links and callers are. A past has its
-- newest entry first.
use Rattle.std.specs.Prelude.{ℕ, ◌≡◌, true, List, [], ◌∷◌, map, reverse, Option, Some, slice_get}
use Rattle.std.specs.Option.{option_map}
use Rattle.chorus_ui.specs.declared.ui.Ui.{Ui}
use Rattle.chorus_ui.specs.declared.layout.Layout.{Layout}
use Rattle.chorus_ui.specs.Layout.{IsLayout}
use Rattle.chorus_entry.specs.declared.entry.Entry.{Entry}
use Rattle.chorus_entry.specs.declared.command.Command.{Command}
use Rattle.chorus_entry.specs.declared.packet.Packet.{Packet}
use Rattle.chorus_world.specs.Views.{at}
use Rattle.chorus_world.specs.Runs.{is_run}
use Rattle.chorus_world.specs.Commands.{performs}
use Rattle.chorus_merge.specs.Merge.{merged}
use Rattle.chorus_calls.specs.Callers.{Seated}
use Rattle.law_machine.specs.PlaceState.{PlaceState}
use Rattle.law_network.specs.Network.{place_numbers, schedule}
use Rattle.law_network.specs.Left.{merged_past}
use Rattle.law_network.specs.Quiet.{IsQuiet}
use Rattle.law_network.specs.Promises.{Promises}
use Rattle.law_history.specs.Turns.{Input, Turn}
use Rattle.law_history.specs.Network.{Network}
use Rattle.law_history.specs.Journals.{PlaceTurn, Comer, AreHistories, events, IsTheirSchedule}

-- the commands of turns, in order
abbrev pub with_command : Input Command Packet → List Command → List Command
with_command (Input.Command c) cs = c ∷ cs
with_command (Input.Packet a k) cs = cs

abbrev pub commands_given : List PlaceTurn → List Command
commands_given [] = []
commands_given (t ∷ ts) = with_command t.input (commands_given ts)

-- the journals by place, each with its oldest entry first, and their merge as a past
abbrev pub journals_at : Layout → Network PlaceState Seated Packet → List (List Entry)
journals_at l n = map (λ (p : ℕ). reverse (n.places p).journal) (place_numbers l)

abbrev pub merged_at : Layout → Network PlaceState Seated Packet → List Entry
merged_at l n = reverse (merged (journals_at l n))

-- the actor in which the caller of a seat came
abbrev pub actor_among : List Comer → ℕ → Option Ui
actor_among comers q = option_map (λ (c : Comer). c.actor) (slice_get comers q)

-- The merge is a run for those who came; its parts are the journals; it performs each caller's commands in their order;
-- and where no link holds a packet, nothing is left to be done.
pub record MergesAsARun (l : Layout) (comers : List Comer) (seats : ℕ → List (Turn Seated Command Packet))
    (closing : Network PlaceState Seated Packet) : Type 0 where
  pub run : is_run l (actor_among comers) (merged_at l closing) ≡ true
  pub journals : (p : ℕ) → at p (merged_at l closing) ≡ (closing.places p).journal
  pub performed : (q : ℕ) (actor : Ui) → actor_among comers q ≡ Some actor →
      performs l q actor (merged_at l closing) (reverse (commands_given (seats q))) ≡ true
  pub quiet : ((a b : ℕ) → closing.links a b ≡ []) → IsQuiet l (merged_at l closing) []

abbrev pub JournalsMergeAsARun : Type 0
JournalsMergeAsARun =
    (l : Layout) (comers : List Comer) (places seats : ℕ → List PlaceTurn)
    (closing : Network PlaceState Seated Packet) → IsLayout l →
    AreHistories l comers places seats closing → MergesAsARun l comers seats closing

-- and all else that each schedule keeps is kept by theirs, of which this is the merge
pub record KeepsPromises (l : Layout) (comers : List Comer) (places seats : ℕ → List (Turn Seated Command Packet))
    (closing : Network PlaceState Seated Packet) : Type 0 where
  pub turns : List PlaceTurn
  pub scheduled : IsTheirSchedule l comers places seats closing turns
  pub promises : Promises l (events comers turns) (schedule l (events comers turns))
  pub merge : merged_past (schedule l (events comers turns)) ≡ merged_at l closing

abbrev pub JournalsKeepPromises : Type 0
JournalsKeepPromises =
    (l : Layout) (comers : List Comer) (places seats : ℕ → List PlaceTurn)
    (closing : Network PlaceState Seated Packet) → IsLayout l →
    AreHistories l comers places seats closing → KeepsPromises l comers places seats closing
