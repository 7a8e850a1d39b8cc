-- Which schedules callers may make, and what a schedule is of.
-- l is a layout, n a network, a and b are numbers of places, es are events, the latest first.
use Rattle.chorus_entry.specs.Command.{is_post, has_body_in_limit, meets_conditions}
use Rattle.std.specs.Prelude.{ℕ, ◌-◌, ◌^◌, ◌==◌, ◌≡◌, nat_lt, Bool, true, false, ◌&&◌, ◌||◌, not, if◌then◌else◌, List, [], ◌∷◌, Option, Some, None, is_some, slice_get}
use Rattle.chorus_ui.specs.declared.layout.Layout.{Layout}
use Rattle.chorus_ui.specs.Layout.{IsLayout, has_actor, has_place}
use Rattle.chorus_entry.specs.declared.command.Command.{Command}
use Rattle.chorus_ui.specs.NameKind.{is_actor}
use Rattle.chorus_calls.specs.Callers.{Seated}
use Rattle.law_network.specs.Network.{NetState, Event, Enter, Act, Deliver, See, schedule}

-- a caller that posts has posted fewer than 2^32 - 1 messages
abbrev pub has_number_left : Seated → Command → Bool
has_number_left caller command = not (is_post command) || nat_lt caller.posts (2 ^ 32 - 1)

-- there is such a caller, and it may give the command
abbrev pub may_give : Option Seated → Command → Bool
may_give None command = false
may_give (Some caller) command =
    meets_conditions command && has_body_in_limit command && has_number_left caller command

-- a caller comes in an actor of the layout; a packet is worked off by somebody who came, between two places of the
-- layout; who came may see entries
abbrev pub may_happen : Event → NetState → Bool
may_happen (Enter actor last) n = is_actor actor && has_actor n.layout actor
may_happen (Act seat command) n = may_give (slice_get n.callers seat) command
may_happen (Deliver seat a b) n =
    is_some (slice_get n.callers seat) && has_place n.layout a && has_place n.layout b && not (a == b)
may_happen (See seat clock) n = is_some (slice_get n.callers seat)

-- each event of the list may happen when it comes
abbrev pub may_be : Layout → List Event → Bool
may_be l [] = true
may_be l (e ∷ es) = may_happen e (schedule l es) && may_be l es

-- the commands of the seat, the latest first
abbrev pub command_in : ℕ → Event → List Command → List Command
command_in seat (Enter actor last) commands = commands
command_in seat (Act giver command) commands = if giver == seat then command ∷ commands else commands
command_in seat (Deliver giver a b) commands = commands
command_in seat (See seer clock) commands = commands

abbrev pub commands_of : ℕ → List Event → List Command
commands_of seat [] = []
commands_of seat (e ∷ es) = command_in seat e (commands_of seat es)

-- what each schedule of each layout leaves has the property
abbrev pub OfSchedules : (Layout → List Event → NetState → Type 0) → Type 0
OfSchedules P = (l : Layout) (es : List Event) → IsLayout l → may_be l es ≡ true → P l es (schedule l es)
