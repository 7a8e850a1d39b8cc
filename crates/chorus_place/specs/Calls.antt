-- A place as its callers see it, and what its calls do.
-- p is the place, s its state, c a command, t the turn.
use Rattle.std.specs.Prelude.{ℕ, ◌≡◌, ◌+◌, ◌-◌, ◌^◌, ◌<◌, ◌≤◌, min, Bool, true, false, List, [], length, IsNone}
use Rattle.chorus_ui.specs.declared.layout.Layout.{Layout}
use Rattle.chorus_ui.specs.declared.limits.TheConstants.{CLOCK_LIMIT}
use Rattle.chorus_entry.specs.declared.entry.Entry.{Entry}
use Rattle.chorus_entry.specs.declared.record.PortRecord.{PortRecord}
use Rattle.chorus_entry.specs.declared.command.Command.{Command}
use Rattle.chorus_entry.specs.declared.command.Command.TheVariants.{Call, Take, Move, Delete}
use Rattle.chorus_entry.specs.declared.packet.Packet.{Packet}
use Rattle.chorus_entry.specs.Command.{is_post, meets_conditions}
use Rattle.chorus_entry.specs.Places.{place_for}
use Rattle.chorus_ports.specs.Table.{find}
use Rattle.chorus_hints.specs.Known.{Known, kept}
use Rattle.place_unsettled.specs.declared.wait.Key.{Key}
use Rattle.place_unsettled.specs.declared.unheard.Post.{Post}
use Rattle.place_unsettled.specs.declared.unheard.Copies.{Copies}
use Rattle.place_unsettled.specs.Queues.{Row, queue}
use Rattle.place_unsettled.specs.Unheard.{is_unheard}
use Rattle.chorus_calls.specs.Callers.{Seated}
use Rattle.place_outbox.specs.Waiting.{Waiting}
use Rattle.law_machine.specs.declared.reply.Reply.{Reply}
use Rattle.law_machine.specs.PlaceState.{PlaceState, Turn, greatest_clock}
use Rattle.law_machine.specs.PlaceMachine.{begun, begun_by, act, work}
use Rattle.law_machine.specs.Own.{held_by}
use Rattle.law_machine.specs.Replies.{reply}
use Rattle.law_bounds.specs.Bounds.{IsWithin, AreWaitingWithin}
use Rattle.chorus_place.specs.PlaceTables.Tables.{Tables, state as state_of}
use Rattle.chorus_place.specs.PlaceTables.Sending.{with_all}

-- a place: its layout and number; its journal, the newest entry first; its tables; the packets that wait to go to other
-- places, by these; and how many entries and packets need no memory
pub record Place : Type 0 where
  pub layout : Layout
  pub number : ℕ
  pub journal : List Entry
  pub ports : List PortRecord
  pub known : Known
  pub waits : List (Key × Row)
  pub unheard : List (Post × Copies)
  pub out : Waiting
  pub spare : ℕ

-- the place that has these tables, between turns
abbrev pub place_of : Tables → Place
place_of p =
    record {
      layout = p.layout;
      number = p.number;
      journal = p.journal.past;
      ports = p.ports.records;
      known = p.known;
      waits = p.waits;
      unheard = p.unheard;
      out = p.out;
      spare = min p.journal.spare p.room;
    }

-- between turns nothing is put, and what the place keeps and each packet that waits is within the ranges of packets
pub record IsAtRest (p : Tables) : Type 0 where
  pub none : p.puts ≡ []
  pub within : IsWithin (state_of p)
  pub waits : AreWaitingWithin p.out.lists

-- the state that they stand for
abbrev pub state : Place → PlaceState
state p =
    record {
      layout = p.layout;
      number = p.number;
      journal = p.journal;
      ports = p.ports;
      known = kept p.known;
      waiting = queue p.waits;
      unheard = is_unheard p.unheard;
    }

-- the conditions of a command: it meets its own, and is to be carried out here
pub record MayCall (s : PlaceState) (caller : Seated) (c : Command) : Type 0 where
  pub conditions : meets_conditions c ≡ true
  pub here : place_for s.layout caller.actor c ≡ s.number

-- it is a call
abbrev pub is_call : Command → Bool
is_call (Call q back body) = true
is_call _ = false

-- the place that has these tables may perform the command: its conditions are met, and the caller has a number for its
-- post and its call
pub record MayPerform (p : Tables) (caller : Seated) (c : Command) : Type 0 where
  pub conditions : meets_conditions c ≡ true
  pub here : place_for p.layout caller.actor c ≡ p.number
  pub posts : is_post c ≡ true → caller.posts < 2 ^ 32 - 1
  pub given : is_call c ≡ true → caller.client.given < 2 ^ 32 - 1

-- the place and the caller are as the turn left them, what it put waits behind what waited and is counted, and no more
-- room is taken than that of the entries and packets
pub record Ended (t : Turn) (old new : Place) (caller : Seated) : Type 0 where
  pub state : state new ≡ t.place
  pub caller_is : caller ≡ t.caller
  pub waits : new.out.lists ≡ with_all t.puts old.out.lists
  pub puts : new.out.puts ≡ old.out.puts + length t.puts
  pub spare : old.spare + length old.journal ≤ new.spare + length new.journal + length t.puts

-- the call did what the machine does, and gave its reply
pub record Called (old new : Place) (before after : Seated) (c : Command) (r : Reply) : Type 0 where
  pub ended : Ended (act c (begun (state old) before)) old new after
  pub answer : r ≡ reply c (begun (state old) before)

-- the packet was worked off as the machine does it
abbrev pub WorkedOff : Place → Place → Seated → Seated → Packet → Type 0
WorkedOff old new before after packet = Ended (work packet (begun_by (state old) before packet)) old new after

-- the turn's clocks are worn: `clock` is the greatest, and at the limit
abbrev pub IsWornAt : ℕ → Turn → Type 0
IsWornAt clock t = (CLOCK_LIMIT ≤ greatest_clock t) × (clock ≡ greatest_clock t)

-- and the packet is handed back
abbrev pub IsWornBack : ℕ → Packet → Packet → Turn → Type 0
IsWornBack clock back packet t = (CLOCK_LIMIT ≤ greatest_clock t) × (clock ≡ greatest_clock t) × (back ≡ packet)

-- nothing changed but the room, of which there is as much at least
pub record Stays (old new : Place) : Type 0 where
  pub state : state new ≡ state old
  pub waits : new.out.lists ≡ old.out.lists
  pub puts : new.out.puts ≡ old.out.puts
  pub spare : old.spare ≤ new.spare

-- a command that takes no memory where there is room for two: receiving, moving, and a Delete of a port that is not
-- held
abbrev pub TakesNone : Command → PlaceState → Seated → Type 0
TakesNone (Take q) s caller = Unit {0}
TakesNone (Move q actor) s caller = Unit {0}
TakesNone (Delete q) s caller = IsNone (held_by caller.actor (find q s.ports))
TakesNone _ s caller = ⊥
