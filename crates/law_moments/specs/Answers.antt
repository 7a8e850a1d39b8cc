-- What answered the commands of a seat: in a schedule, and read from a past.
-- k is a seat, e an event, es are events, the latest first, n is a network, l a layout. A past has its newest entry first;
-- mine are the entries of one seat.
use Rattle.std.specs.Prelude.{ℕ, ◌==◌, if◌then◌else◌, List, [], ◌∷◌, ◌++◌, map, option_to_list, Option, Some, None, slice_get}
use Rattle.std.specs.Option.{option_or}
use Rattle.chorus_ui.specs.declared.layout.Layout.{Layout}
use Rattle.chorus_entry.specs.declared.act.Act as acts
use Rattle.chorus_entry.specs.declared.act.Act.TheVariants as variants
use Rattle.chorus_entry.specs.declared.entry.Entry.{Entry}
use Rattle.chorus_entry.specs.Act.{is_command_entry}
use Rattle.chorus_world.specs.Views.{by}
use Rattle.law_network.specs.Network.{NetState, Event, Enter, Act, Deliver, See, numbers, schedule}
use Rattle.law_explore.specs.Races.{Told, own_by}

-- In a schedule.

-- what answered the seat's command, where the event is one
abbrev pub answer_by : ℕ → Event → NetState → List Told
answer_by k (Enter actor last) n = []
answer_by k (Act j c) n = if j == k then option_to_list (own_by c n (slice_get n.callers j)) else []
answer_by k (Deliver j a b) n = []
answer_by k (See j clock) n = []

abbrev pub answered_by : Layout → ℕ → List Event → List Told
answered_by l k [] = []
answered_by l k (e ∷ es) = answer_by k e (schedule l es) ++ answered_by l k es

-- In a past.

-- the act says that a reply which was taken ended the call, or came late
abbrev pub settle_in : acts.Act → Option acts.Act
settle_in (variants.Done number) = Some (variants.Done number)
settle_in (variants.Late number) = Some (variants.Late number)
settle_in act = None

abbrev pub told_as : acts.Act → Option acts.Act → Told
told_as act settles = record { act = act; settles = settles }

-- The seat's own entries, the latest first, each with what stands behind it of a reply that it took; settles is what
-- stands behind all these entries.
abbrev pub told_behind : Option acts.Act → List Entry → List Told
told_behind settles [] = []
told_behind settles (e ∷ mine) =
    if is_command_entry e.act then told_as e.act settles ∷ told_behind None mine
    else told_behind (option_or (settle_in e.act) settles) mine

abbrev pub told_of : ℕ → List Entry → List Told
told_of k past = told_behind None (by k past)

-- of so many scripts, whose seats have their numbers
abbrev pub told_in : ℕ → List Entry → List (List Told)
told_in count past = map (λ (k : ℕ). told_of k past) (numbers count 1)
