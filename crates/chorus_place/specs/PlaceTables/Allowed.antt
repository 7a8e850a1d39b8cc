-- When a step of a turn may be made, and what each leaves.
-- p is the tables of a place, c the caller in whose turn it is, t their turn, q a port, a an actor, g a group, qs
-- members, cs members with their copies, k a port and route, m a message, d its destination, w a message that waits;
-- `from` is the place that a packet came from, `home` the one where a post was made.
use Rattle.std.specs.Prelude.{ℕ, ◌≡◌, ◌+◌, ◌-◌, ◌^◌, ◌<◌, ◌≤◌, true, false, All, Option, None, IsNone, IsSome, IfSome, List, length, slice_get}
use Rattle.chorus_ui.specs.declared.ui.Ui.{Ui}
use Rattle.chorus_ui.specs.declared.kind.Kind.TheVariants as kinds
use Rattle.chorus_ui.specs.declared.limits.TheConstants.{PENDING_LIMIT}
use Rattle.chorus_ui.specs.Layout.{has_actor, has_site, has_place, creation_place}
use Rattle.chorus_entry.specs.declared.answer.Answer.{Answer}
use Rattle.chorus_entry.specs.declared.dest.Dest.{Dest}
use Rattle.chorus_entry.specs.declared.message.Message.{Message}
use Rattle.chorus_entry.specs.Dest.{port_in}
use Rattle.chorus_entry.specs.Members.{are_distinct}
use Rattle.chorus_world.specs.Places.{taught}
use Rattle.chorus_world.specs.Steps.{is_full_of_ports}
use Rattle.chorus_calls.specs.Callers.{Seated}
use Rattle.place_unsettled.specs.declared.wait.Key.{Key}
use Rattle.place_unsettled.specs.declared.wait.Wait.{Wait}
use Rattle.place_unsettled.specs.Queues.{room}
use Rattle.law_machine.specs.PlaceState.{Turn, greatest_clock}
use Rattle.law_machine.specs.Own.{next_port}
use Rattle.law_machine.specs.Doing.{post}
use Rattle.chorus_place.specs.declared.tables.copies.MemberCopy.{MemberCopy}
use Rattle.chorus_place.specs.PlaceTables.Tables.{Tables, state, turn, IsSound}
use Rattle.chorus_place.specs.PlaceTables.Room.{KeepsRoom}
use Rattle.chorus_place.specs.PlaceTables.Steps.{MayTeach}
use Rattle.chorus_place.specs.PlaceTables.Going.{LeavesRecords, waits_for, first_for, reports_for}
use Rattle.chorus_place.specs.PlaceTables.Groups.{HaveLines, IsCopy, members_of}

-- an entry of the caller may be appended: there is room for it, and its clock has 64 bits
pub record MayAppend (p : Tables) (c : Seated) : Type 0 where
  pub spare : 1 ≤ p.journal.spare
  pub clock : greatest_clock (turn p c) + 1 < 2 ^ 64

-- one entry was appended in the room that was there, and nothing went out
pub record AppendsOne (before after : Tables) : Type 0 where
  pub spare : after.journal.spare ≡ before.journal.spare - 1
  pub out : after.out ≡ before.out
  pub kept : KeepsRoom before after

-- the port may be made: it is the next one for the actor, whose home place this is, and there is room for its record
pub record MayMake (q a : Ui) (capacity : ℕ) (p : Tables) : Type 0 where
  pub next : q ≡ next_port (state p) a
  pub actor : has_actor p.layout a ≡ true
  pub home : creation_place p.layout a ≡ p.number
  pub few : is_full_of_ports p.layout p.journal.past ≡ false
  pub least : 1 ≤ capacity
  pub most : capacity ≤ PENDING_LIMIT
  pub slot : 0 < p.ports.spare

-- the message may be posted directly: w is a copy of it that may wait, in the room that is there
pub record MayPost (k : Key) (m : Message) (w : Wait) (p : Tables) (c : Seated) : Type 0 where
  pub copy : w ≡ post m p.number
  pub direct : k.route ≡ None
  pub sound : IsSound m
  pub line : 0 < room p.waits k
  pub posts : c.posts < 2 ^ 32 - 1

-- the message, with a copy of it, may be posted to a group, and the place `to` asked to choose members for it
pub record MayAskFor (m again : Message) (d : Dest) (to : ℕ) (p : Tables) (c : Seated) : Type 0 where
  pub copy : again ≡ m
  pub group : port_in d ≡ None
  pub place : has_place p.layout to ≡ true
  pub posts : c.posts < 2 ^ 32 - 1

-- these members of the group may be chosen: each once, with a copy that may wait in the room that is there
pub record MayChoose (g : Ui) (home : ℕ) (qs : List Ui) (cs : List MemberCopy) (p : Tables) : Type 0 where
  pub members : qs ≡ members_of cs
  pub distinct : are_distinct (members_of cs) ≡ true
  pub lines : HaveLines g p.waits (members_of cs)
  pub copied : All (IsCopy home) cs
  pub place : has_place p.layout home ≡ true

-- a message that another place tried may be decided here
pub record MayTry (from : ℕ) (m : Message) (q : Ui) (t : Turn) : Type 0 where
  pub kind : q.kind ≡ kinds.Port
  pub site : has_site t.place.layout q.site ≡ true
  pub place : has_place t.place.layout from ≡ true
  pub sound : IsSound m

-- the first message of k may be told the answer
pub record MayTell (k : Key) (answer : Answer) (t : Turn) : Type 0 where
  pub kind : k.port.kind ≡ kinds.Port
  pub teaches : MayTeach t.place.layout k.port (taught answer)
  pub first : IsSome (slice_get (t.place.waiting k).waits 0)

-- the first message of k may be settled here: by the answer that is given, which enqueues nothing, or else by what the
-- place decides
pub record MaySettle (k : Key) (given : Option Answer) (p : Tables) : Type 0 where
  pub kind : k.port.kind ≡ kinds.Port
  pub site : IsNone given → has_site p.layout k.port.site ≡ true
  pub leaves : IfSome given LeavesRecords
  pub first : IsSome (first_for k p)

-- messages of k may be settled, one after the other: there is room for an entry of each and a packet of each report
pub record MaySettleEach (k : Key) (p : Tables) (c : Seated) : Type 0 where
  pub kind : k.port.kind ≡ kinds.Port
  pub spare : length (waits_for k p) ≤ p.journal.spare
  pub room : reports_for k p ≤ p.room
  pub clock : greatest_clock (turn p c) + 1 < 2 ^ 64

-- the messages of k may go: there is room for an entry of each, a packet of each report and one packet more, and their
-- clocks have 64 bits
pub record MayGo (k : Key) (p : Tables) (c : Seated) : Type 0 where
  pub kind : k.port.kind ≡ kinds.Port
  pub spare : length (waits_for k p) ≤ p.journal.spare
  pub room : reports_for k p + 1 ≤ p.room
  pub clock : greatest_clock (turn p c) + length (waits_for k p) + 1 < 2 ^ 64
