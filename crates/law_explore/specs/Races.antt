-- A race: callers with their scripts on a network. Their commands and the deliveries may come in any order that keeps
-- each script's; a command that waits comes only where it would be answered by a message.
-- r is a race, s a position, m and o are moves, i is the number of a script, from 0 on, a and b are numbers of places, l
-- is a layout, n a network, left is what is left of each script.
use Rattle.std.specs.Prelude.{ℕ, suc, ◌==◌, ◌<◌, nat_lt, if◌then◌else◌, Bool, true, false, ◌&&◌, ◌||◌, not, List, [], ◌∷◌, ◌++◌, length, map, Option, Some, None, is_some, unwrap_or, slice_get, slice_set}
use Rattle.std.specs.List.{filter}
use Rattle.std.specs.Option.{option_map}
use Rattle.chorus_ui.specs.declared.layout.Layout.{Layout}
use Rattle.chorus_ui.specs.Layout.{has_place}
use Rattle.chorus_entry.specs.declared.act.Act as acts
use Rattle.chorus_entry.specs.declared.act.Act.TheVariants as variants
use Rattle.chorus_entry.specs.declared.command.Command.{Command}
use Rattle.chorus_entry.specs.declared.message.Message.{Message}
use Rattle.chorus_entry.specs.declared.tag.Tag.{Tag}
use Rattle.chorus_entry.specs.declared.tag.Tag.TheVariants.{Reply}
use Rattle.chorus_calls.specs.Callers.{Seated}
use Rattle.chorus_calls.specs.Clients.{is_outstanding}
use Rattle.chorus_ports.specs.Table.{find}
use Rattle.law_machine.specs.Doing.{first_message}
use Rattle.law_machine.specs.Own.{own}
use Rattle.law_machine.specs.PlaceState.{Turn}
use Rattle.law_network.specs.Packets.{AreByLink}
use Rattle.law_network.specs.Network.{NetState, Event, Enter, Act, Deliver, See, happened, numbers, place_numbers, turn_for}
use Rattle.law_network.specs.Stands.{actor_of}
use Rattle.law_awaits.specs.Awaits.{would_take}
use Rattle.law_explore.specs.declared.moves.Move.{Move}
use Rattle.law_explore.specs.declared.moves.Move.TheVariants.{Go, Carry}
use Rattle.law_explore.specs.Neighbours.{command_place, are_apart, is_ready}
use Rattle.law_explore.specs.Search.{System, IsComplete, IsNormal, ends_from}

-- a command of a script, and whether it waits for a message
pub record Order : Type 0 where
  pub command : Command
  pub waits : Bool

-- the network when all callers have entered, and the scripts; script i is that of seat i + 1
pub record Race : Type 0 where
  pub net : NetState
  pub scripts : List (List Order)

-- what answered a command: its own act, and of a reply that was taken, whether it ended the caller's outstanding call
pub record Told : Type 0 where
  pub act : acts.Act
  pub settles : Option acts.Act

-- what is reached: the network; what is left of each script; and what answered its commands, the latest first
pub record Position : Type 0 where
  pub net : NetState
  pub left : List (List Order)
  pub told : List (List Told)

abbrev pub next_of : Option (List Order) → Option Order
next_of None = None
next_of (Some []) = None
next_of (Some (o ∷ os)) = Some o

abbrev pub behind_next : Option (List Order) → List Order
behind_next None = []
behind_next (Some []) = []
behind_next (Some (o ∷ os)) = os

-- two different places of the layout
abbrev pub are_linked : Layout → ℕ → ℕ → Bool
are_linked l a b = has_place l a && has_place l b && not (a == b)

-- The event that a move is, where `who b` delivers at b.
abbrev pub event_of : Layout → (ℕ → ℕ) → Move → List (List Order) → Option Event
event_of l who (Go i) left = option_map (λ (o : Order). Act (suc i) o.command) (next_of (slice_get left i))
event_of l who (Carry a b) left = if are_linked l a b then Some (Deliver (who b) a b) else None

-- Whether it is the time for a move: a command that waits would be answered by a message now.

abbrev pub may_now : Option Order → ℕ → NetState → Bool
may_now None i n = true
may_now (Some o) i n = not o.waits || would_take (suc i) o.command n

abbrev pub is_now : Move → List (List Order) → NetState → Bool
is_now (Go i) left n = may_now (next_of (slice_get left i)) i n
is_now (Carry a b) left n = true

abbrev pub scripts_after : Move → List (List Order) → List (List Order)
scripts_after (Go i) left = slice_set left i (behind_next (slice_get left i))
scripts_after (Carry a b) left = left

-- a reply that is taken ends the outstanding call that it answers, or else it is late
abbrev pub settles_by : Tag → Seated → Option acts.Act
settles_by (Reply client number) w =
    Some (if (client == w.seat) && is_outstanding number w.client then variants.Done number else variants.Late number)
settles_by _ w = None

abbrev pub settles_with : Option Message → Seated → Option acts.Act
settles_with None w = None
settles_with (Some m) w = settles_by m.tag w

abbrev pub settled_by : acts.Act → Turn → Option acts.Act
settled_by (variants.Take q position x) t = settles_with (first_message (find q t.place.ports)) t.caller
settled_by _ t = None

-- what answers the command in its turn
abbrev pub told_in : Command → Turn → Told
told_in c t = record { act = own c t; settles = settled_by (own c t) t }

-- what answers the command of the event
abbrev pub own_by : Command → NetState → Option Seated → Option Told
own_by c n None = None
own_by c n (Some w) = Some (told_in c (turn_for c w n))

abbrev pub own_of : Event → NetState → Option Told
own_of (Enter actor last) n = None
own_of (See seat clock) n = None
own_of (Act k c) n = own_by c n (slice_get n.callers k)
own_of (Deliver k a b) n = None

abbrev pub with_answer : Option Told → Option (List Told) → List Told
with_answer None o = unwrap_or o []
with_answer (Some a) o = a ∷ unwrap_or o []

abbrev pub answers_after : Move → Option Told → List (List Told) → List (List Told)
answers_after (Go i) a told = slice_set told i (with_answer a (slice_get told i))
answers_after (Carry x z) a told = told

abbrev pub position_after : Option Event → Move → Position → Position
position_after None m s = s
position_after (Some e) m s = record {
  net = happened e s.net;
  left = scripts_after m s.left;
  told = answers_after m (own_of e s.net) s.told;
}

abbrev pub is_ready_by : Option Event → NetState → Bool
is_ready_by None n = false
is_ready_by (Some e) n = is_ready e n

abbrev pub are_apart_by : Option Event → Option Event → NetState → Bool
are_apart_by None f n = false
are_apart_by (Some e) None n = false
are_apart_by (Some e) (Some f) n = are_apart n.layout (actor_of n) e f

-- the move may come where `who b` delivers at b
abbrev pub may_come_by : Layout → (ℕ → ℕ) → Move → Position → Bool
may_come_by l who m s = is_ready_by (event_of l who m s.left) s.net && is_now m s.left s.net

abbrev pub are_neighbours : Layout → (ℕ → ℕ) → Move → Move → Position → Bool
are_neighbours l who m o s =
    may_come_by l who m s
    && (may_come_by l who o s && are_apart_by (event_of l who m s.left) (event_of l who o s.left) s.net)

-- scripts by their numbers, and behind them deliveries by their places
abbrev pub is_less : Move → Move → Bool
is_less (Go i) (Go j) = nat_lt i j
is_less (Go i) (Carry c d) = true
is_less (Carry a b) (Go j) = false
is_less (Carry a b) (Carry c d) = nat_lt a c || ((a == c) && nat_lt b d)

abbrev pub start_of : Race → Position
start_of r = record { net = r.net; left = r.scripts; told = map (λ (os : List Order). []) r.scripts }

-- The race where `who` delivers.
abbrev pub racing : Race → (ℕ → ℕ) → System Position Move
racing r who =
    record {
      start = start_of r;
      step = λ m s. position_after (event_of r.net.layout who m s.left) m s;
      ready = may_come_by r.net.layout who;
      apart = are_neighbours r.net.layout who;
      less = is_less;
    }

-- The race as a replay goes: seat 0 delivers. Two moves are neighbours where both may come, they are not of one script,
-- and their turns are at two places; two deliveries too, though seat 0 makes both, since its clock is all that they
-- share.

abbrev pub seat_0 : ℕ → ℕ
seat_0 b = 0

abbrev pub are_of_one_script : Move → Move → Bool
are_of_one_script (Go i) (Go j) = i == j
are_of_one_script _ _ = false

abbrev pub place_with : Option Order → ℕ → NetState → ℕ
place_with None i n = 0
place_with (Some o) i n = command_place n.layout o.command (actor_of n (suc i))

abbrev pub place_of_move : Move → Position → ℕ
place_of_move (Go i) s = place_with (next_of (slice_get s.left i)) i s.net
place_of_move (Carry a b) s = b

abbrev pub may_come : Layout → Move → Position → Bool
may_come l m s = may_come_by l seat_0 m s

-- a command is left of script i, and may come
abbrev pub may_script : ℕ → Position → Bool
may_script i s = is_some (next_of (slice_get s.left i)) && may_now (next_of (slice_get s.left i)) i s.net

abbrev pub meet_nowhere : Layout → Move → Move → Position → Bool
meet_nowhere l m o s =
    may_come l m s && (may_come l o s && (not (are_of_one_script m o) && not (place_of_move m s == place_of_move o s)))

abbrev pub replaying : Race → System Position Move
replaying r =
    record {
      start = start_of r;
      step = λ m s. position_after (event_of r.net.layout seat_0 m s.left) m s;
      ready = may_come r.net.layout;
      apart = meet_nowhere r.net.layout;
      less = is_less;
    }

-- The moves that may come, each once: scripts first, then the links that have a packet.

abbrev pub links_to : ℕ → List ℕ → List Move
links_to a [] = []
links_to a (b ∷ bs) = Carry a b ∷ links_to a bs

abbrev pub links_between : List ℕ → List ℕ → List Move
links_between [] bs = []
links_between (a ∷ rest) bs = links_to a bs ++ links_between rest bs

abbrev pub all_moves : Layout → List (List Order) → List Move
all_moves l left = map Go (numbers (length left) 0) ++ links_between (place_numbers l) (place_numbers l)

abbrev pub next_moves : Race → Position → List Move
next_moves r s = filter (λ (m : Move). may_come r.net.layout m s) (all_moves r.net.layout s.left)

-- A history of moves that nothing may come behind; and in the normal form of which there is one for each order of what
-- has nothing in common.

abbrev pub IsWhole : Race → List Move → Type 0
IsWhole r ms = IsComplete (replaying r) (next_moves r) ms

abbrev pub IsNormalWhole : Race → List Move → Type 0
IsNormalWhole r ms = IsWhole r ms × IsNormal (replaying r) ms

-- those that are shorter than this
abbrev pub whole_histories : Race → ℕ → List (List Move)
whole_histories r most = ends_from (replaying r) (next_moves r) most []

-- A race may begin: the packets stand by their links, and seat 0 came, and everybody who has a script.
pub record IsRace (r : Race) : Type 0 where
  pub order : AreByLink r.net.packets
  pub seats : length r.scripts < length r.net.callers
