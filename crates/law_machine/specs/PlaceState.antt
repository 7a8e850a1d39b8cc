-- The state of a place, a turn of a caller there, and one entry more.
-- l is a layout, p the number of a place, s a place, t a turn, q a port, k a port and route, x an id.
use Rattle.std.specs.Prelude.{ℕ, ◌+◌, max, false, List, [], ◌∷◌, ◌++◌, map, Bool, Option, Some, None}
use Rattle.chorus_ui.specs.declared.ui.Ui.{Ui}
use Rattle.chorus_ui.specs.declared.layout.Layout.{Layout}
use Rattle.chorus_entry.specs.declared.entry.Entry.{Entry}
use Rattle.chorus_entry.specs.declared.id.MsgId.{MsgId}
use Rattle.chorus_entry.specs.declared.act.Act.{Act}
use Rattle.chorus_entry.specs.declared.packet.Cargo.{Cargo}
use Rattle.chorus_entry.specs.declared.record.PortRecord.{PortRecord}
use Rattle.chorus_world.specs.declared.place.Location.{Location}
use Rattle.chorus_world.specs.Places.{last_clock, named_location}
use Rattle.chorus_hints.specs.Known.{Pairs}
use Rattle.chorus_calls.specs.Callers.{Seated, after_tick}
use Rattle.place_unsettled.specs.declared.wait.Key.{Key}
use Rattle.place_unsettled.specs.Queues.{Queue, empty_queue}
use Rattle.law_machine.specs.declared.outgoing.Outgoing.{Outgoing}

-- a place of a layout: its number; its journal, the newest entry first; the records of the ports held, in table order;
-- the locations learned, each as place and hop; the messages that wait, by port and route; and of which messages it may
-- still get a report. Its clock, its groups and what it made or deleted are read from its journal.
pub record PlaceState : Type 0 where
  pub layout : Layout
  pub number : ℕ
  pub journal : List Entry
  pub ports : List PortRecord
  pub known : Pairs
  pub waiting : Key → Queue
  pub unheard : MsgId → Bool

-- a place on which nothing happened yet
abbrev pub started : Layout → ℕ → PlaceState
started l p =
    record {
      layout = l;
      number = p;
      journal = [];
      ports = [];
      known = λ q. None;
      waiting = λ k. empty_queue;
      unheard = λ x. false;
    }

-- where a port is: as the place learned, or else as the port's name tells
abbrev pub location : Layout → Ui → Option (ℕ × ℕ) → Location
location l q None = named_location l q
location l q (Some pair) = record { to = pair.0; hop = pair.1 }

-- the newest location of a port that the place knows
abbrev pub newest : PlaceState → Ui → Location
newest s q = location s.layout q (s.known q)

-- a place, the caller in whose turn it is, and the packets that the turn has put so far
pub record Turn : Type 0 where
  pub place : PlaceState
  pub caller : Seated
  pub puts : List Outgoing

-- what goes with an entry: the caller and the tables of the place as it leaves them, and what it puts, each cargo with
-- the place that it goes to
pub record Change : Type 0 where
  pub caller : Seated
  pub ports : List PortRecord
  pub known : Pairs
  pub waiting : Key → Queue
  pub unheard : MsgId → Bool
  pub loads : List (ℕ × Cargo)

-- nothing changes, and nothing is put
abbrev pub unchanged : Turn → Change
unchanged t =
    record {
      caller = t.caller;
      ports = t.place.ports;
      known = t.place.known;
      waiting = t.place.waiting;
      unheard = t.place.unheard;
      loads = [];
    }

-- the greater of the place's clock and the caller's last
abbrev pub greatest_clock : Turn → ℕ
greatest_clock t = max (last_clock t.place.journal) t.caller.last

-- the clock of the next entry: one above it
abbrev pub next_clock : Turn → ℕ
next_clock t = greatest_clock t + 1

abbrev pub next_entry : Act → Turn → Entry
next_entry act t = record { clock = next_clock t; place = t.place.number; seat = t.caller.seat; act = act }

-- a cargo with the place that it goes to, as a packet that carries the clock of the entry that causes it
abbrev pub packed_at : ℕ → ℕ → ℕ × Cargo → Outgoing
packed_at clock from load = record { to = load.0; packet = record { clock = clock; from = from; cargo = load.1 } }

abbrev pub packed : Turn → ℕ × Cargo → Outgoing
packed t load = packed_at (next_clock t) t.place.number load

-- the turn with one entry more and the change that goes with it; the entry's clock becomes the place's and the caller's
abbrev pub say : Act → Change → Turn → Turn
say act change t =
    record {
      place = record t.place {
        journal = next_entry act t ∷ t.place.journal;
        ports = change.ports;
        known = change.known;
        waiting = change.waiting;
        unheard = change.unheard;
      };
      caller = after_tick change.caller (next_clock t);
      puts = t.puts ++ map (packed t) change.loads;
    }

-- the entry alone
abbrev pub note : Act → Turn → Turn
note act t = say act (unchanged t) t
