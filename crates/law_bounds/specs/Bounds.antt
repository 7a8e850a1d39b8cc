-- What a place keeps is within the ranges of the packets that it puts.
-- s is a place, t a turn, c a caller, q a port, r its record, k a port and route, w a message that waits, g a group.
use Rattle.std.specs.Prelude.{ℕ, ◌≡◌, ◌+◌, ◌≤◌, true, All, List, length, IfSome}
use Rattle.chorus_ui.specs.declared.ui.Ui.{Ui}
use Rattle.chorus_ui.specs.declared.limits.TheConstants.{BODY_LIMIT, MEMBERS_LIMIT}
use Rattle.chorus_ui.specs.Layout.{IsLayout}
use Rattle.chorus_entry.specs.declared.packet.Packet.{Packet}
use Rattle.chorus_entry.specs.declared.record.PortRecord.{PortRecord}
use Rattle.chorus_ui.specs.NameKind.{is_port}
use Rattle.chorus_entry.specs.Ranges.{is_place_number, is_route, is_demanded_site, has_ranges_of_message, has_ranges_of_record, has_ranges}
use Rattle.chorus_world.specs.Places.{last_clock}
use Rattle.chorus_world.specs.Groups.{members}
use Rattle.chorus_calls.specs.Clients.{IsRequest}
use Rattle.chorus_calls.specs.Callers.{Seated, IsNumbered, HasBack}
use Rattle.place_unsettled.specs.declared.wait.Key.{Key}
use Rattle.place_unsettled.specs.declared.wait.Wait.{Wait}
use Rattle.law_machine.specs.declared.outgoing.Outgoing.{Outgoing}
use Rattle.law_machine.specs.PlaceState.{PlaceState, Turn}

-- the record may go in a packet with this clock, and the position of the port's next message is not above it
pub record IsPortWithin (clock : ℕ) (r : PortRecord) : Type 0 where
  pub ranges : has_ranges_of_record clock r ≡ true
  pub position : r.first + length r.pending ≤ clock

-- a place where a port is known to be, and its hop, which is not above the clock
abbrev pub IsPairWithin : ℕ → ℕ × ℕ → Type 0
IsPairWithin clock pair = (is_place_number pair.0 ≡ true) × (pair.1 ≤ clock)

-- the message may be tried at the port, by the route
pub record IsWaitWithin (k : Key) (w : Wait) : Type 0 where
  pub port : is_port k.port ≡ true
  pub route : is_route k.route ≡ true
  pub only : is_demanded_site w.only ≡ true
  pub message : has_ranges_of_message w.message ≡ true

-- the members of a group are ports, and at most 32
pub record AreMembersWithin (qs : List Ui) : Type 0 where
  pub ports : All (λ q. is_port q ≡ true) qs
  pub few : length qs ≤ MEMBERS_LIMIT

-- all that the place keeps is within its ranges
pub record IsWithin (s : PlaceState) : Type 0 where
  pub layout : IsLayout s.layout
  pub number : is_place_number s.number ≡ true
  pub ports : All (IsPortWithin (last_clock s.journal)) s.ports
  pub known : (q : Ui) → IfSome (s.known q) (IsPairWithin (last_clock s.journal))
  pub waiting : (k : Key) → All (IsWaitWithin k) (s.waiting k).waits
  pub members : (g : Ui) → AreMembersWithin (members g s.journal)

-- what a caller keeps: the outstanding call has a number from 1 on, goes to a port as its reply does, and its body is
-- within the limit; and the request in hand has a number from 1 on and a reply that goes to a port
pub record IsCallerWithin (c : Seated) : Type 0 where
  pub call : IfSome c.client.outstanding IsRequest
  pub body : IfSome c.client.outstanding (λ call. length call.body ≤ BODY_LIMIT)
  pub numbered : IsNumbered c.hand
  pub back : HasBack c.hand

-- a packet that has a frame
abbrev pub HasRanges : Packet → Type 0
HasRanges packet = has_ranges packet ≡ true

-- all that the place keeps, and each packet that the turn put
pub record IsTurnWithin (t : Turn) : Type 0 where
  pub place : IsWithin t.place
  pub puts : All (λ (o : Outgoing). HasRanges o.packet) t.puts

-- each packet that waits for some place
abbrev pub AreWaitingWithin : List (List Packet) → Type 0
AreWaitingWithin lists = All (All HasRanges) lists
