-- What a place keeps, and what its tables stand for.
-- l is a layout, p the number of a place, q a port, r its record, g a group, k a port and route.
use Rattle.std.specs.Prelude.{ℕ, ◌≡◌, ◌+◌, ◌≤◌, ◌<◌, true, false, List, [], length, Some, None, All}
use Rattle.chorus_ui.specs.declared.ui.Ui.{Ui}
use Rattle.chorus_ui.specs.declared.kind.Kind.TheVariants as kinds
use Rattle.chorus_ui.specs.declared.layout.Layout.{Layout}
use Rattle.chorus_ui.specs.Layout.{places, has_place, can_make_port, creation_place}
use Rattle.chorus_entry.specs.declared.entry.Entry.{Entry}
use Rattle.chorus_entry.specs.declared.message.Message.{Message}
use Rattle.chorus_entry.specs.Ranges.{has_ranges_of_message}
use Rattle.chorus_entry.specs.declared.record.PortRecord.{PortRecord}
use Rattle.chorus_world.specs.Places.{last_clock, is_made_here}
use Rattle.chorus_world.specs.Steps.{next_number}
use Rattle.chorus_world.specs.Groups.{members}
use Rattle.chorus_calls.specs.Callers.{Seated}
use Rattle.chorus_hints.specs.Known.{Known, kept}
use Rattle.chorus_ports.specs.Table.{Table, find}
use Rattle.place_unsettled.specs.declared.wait.Key.{Key}
use Rattle.place_unsettled.specs.declared.wait.Wait.{Wait}
use Rattle.place_unsettled.specs.declared.unheard.Post.{Post}
use Rattle.place_unsettled.specs.declared.unheard.Copies.{Copies}
use Rattle.place_unsettled.specs.Queues.{Row, queue, empty_queue}
use Rattle.place_unsettled.specs.Unheard.{is_unheard}
use Rattle.place_outbox.specs.Waiting.{Waiting}
use Rattle.place_journal.specs.Counting.{JournalState}
use Rattle.law_machine.specs.declared.outgoing.Outgoing.{Outgoing}
use Rattle.law_machine.specs.PlaceState.{PlaceState, Turn}

-- the tables of a place, the packets that the turn has put so far, and for how many more there is room
pub record Tables : Type 0 where
  pub layout : Layout
  pub number : ℕ
  pub journal : JournalState
  pub ports : Table
  pub known : Known
  pub waits : List (Key × Row)
  pub unheard : List (Post × Copies)
  pub puts : List Outgoing
  pub out : Waiting
  pub room : ℕ

-- the state that they stand for
abbrev pub state : Tables → PlaceState
state p =
    record {
      layout = p.layout;
      number = p.number;
      journal = p.journal.past;
      ports = p.ports.records;
      known = kept p.known;
      waiting = queue p.waits;
      unheard = is_unheard p.unheard;
    }

-- what a place that does not hold a port decides by: its number, its journal and the locations that it learned
abbrev pub seen : ℕ → JournalState → Known → PlaceState
seen p journal known =
    record {
      layout = known.layout;
      number = p;
      journal = journal.past;
      ports = [];
      known = kept known;
      waiting = λ k. empty_queue;
      unheard = λ x. false;
    }

-- the turn so far, of the caller in whose turn it is
abbrev pub turn : Tables → Seated → Turn
turn p caller = record { place = state p; caller = caller; puts = p.puts }

-- the position of the port's next message
abbrev pub end_of : PortRecord → ℕ
end_of r = r.first + length r.pending

-- a message within the ranges of a packet
abbrev pub IsSound : Message → Type 0
IsSound m = has_ranges_of_message m ≡ true

-- of each port that is held: the layout can make it, neither its next position nor its hop is above the place's clock,
-- if this is its creation place it was made here, and its messages are within their ranges
pub record MayHold (l : Layout) (p : ℕ) (past : List Entry) (q : Ui) (r : PortRecord) : Type 0 where
  pub kind : q.kind ≡ kinds.Port
  pub can_make : can_make_port l q ≡ true
  pub position : end_of r ≤ last_clock past
  pub hop : r.hop ≤ last_clock past
  pub own : creation_place l q ≡ p → is_made_here q past ≡ true
  pub pending : All IsSound r.pending

abbrev pub AreHeld : Layout → ℕ → List Entry → List PortRecord → Type 0
AreHeld l p past ports = (q : Ui) (r : PortRecord) → find q ports ≡ Some r → MayHold l p past q r

-- what was learned are places of the layout
abbrev pub AreLocated : Layout → Known → Type 0
AreLocated l known = (q : Ui) (to hop : ℕ) → kept known q ≡ Some (to, hop) → has_place l to ≡ true

-- of each message that waits: the place where it was posted is one of the layout, a direct one was posted here, and it
-- is within its ranges
pub record MayWait (l : Layout) (p : ℕ) (k : Key) (w : Wait) : Type 0 where
  pub home : has_place l w.home ≡ true
  pub own : k.route ≡ None → w.home ≡ p
  pub message : IsSound w.message

abbrev pub AreWaiting : Layout → ℕ → List (Key × Row) → Type 0
AreWaiting l p rows = (k : Key) → All (MayWait l p k) (queue rows k).waits

-- each port that was made here has a lower number than the next one
abbrev pub AreNumbered : Layout → ℕ → List Entry → Type 0
AreNumbered l p past = (q : Ui) → is_made_here q past ≡ true → q.number < next_number l p past

-- each member of a group is a port
abbrev pub IsPort : Ui → Type 0
IsPort q = q.kind ≡ kinds.Port

abbrev pub AreMembers : List Entry → Type 0
AreMembers past = (g : Ui) → All IsPort (members g past)

-- each packet goes to a place of the layout
abbrev pub GoesTo : Layout → Outgoing → Type 0
GoesTo l o = has_place l o.to ≡ true

abbrev pub AreSent : Layout → List Outgoing → Type 0
AreSent l puts = All (GoesTo l) puts

-- there is a list for each place, and room for each packet that was put
pub record IsBoxed (l : Layout) (puts : List Outgoing) (out : Waiting) : Type 0 where
  pub lists : length out.lists ≡ places l + 1
  pub room : length puts ≤ out.spare

-- what a place keeps, behind each entry
pub record IsKept (l : Layout) (p : ℕ) (past : List Entry) (ports : List PortRecord) (known : Known)
    (rows : List (Key × Row)) (puts : List Outgoing) : Type 0 where
  pub place : has_place l p ≡ true
  pub held : AreHeld l p past ports
  pub layout : known.layout ≡ l
  pub located : AreLocated l known
  pub waiting : AreWaiting l p rows
  pub numbered : AreNumbered l p past
  pub grouped : AreMembers past
  pub sent : AreSent l puts

-- each packet came with an entry of its own, so no more were put than the place's clock shows
abbrev pub AreCounted : List Entry → List Outgoing → Waiting → Type 0
AreCounted past puts out = out.puts + length puts ≤ last_clock past
