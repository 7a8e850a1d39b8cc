-- What the past says of the record of a port, of the messages that wait at a place, of what it may still hear, and of a
-- caller. x is an id, q a port, p the number of a place, k a port and route, m a message as it was sent or posted, f
-- what became of a port, l a layout. A past has its newest entry first.
use Rattle.chorus_world.specs.Clients.{clients_kept}
use Rattle.chorus_world.specs.Posts.{as_posted, Posted, post_of, site_asked}
use Rattle.chorus_world.specs.Places.{is_heard, sent, unsettled}
use Rattle.std.specs.Prelude.{ℕ, ◌-◌, ◌==◌, Bool, ◌&&◌, not, if◌then◌else◌, List, [], ◌∷◌, map, length, drop, Option, Some, None}
use Rattle.std.specs.List.{filter}
use Rattle.chorus_ui.specs.declared.ui.Ui.{Ui}
use Rattle.chorus_ui.specs.Name.{same_ui}
use Rattle.chorus_ui.specs.declared.layout.Layout.{Layout}
use Rattle.chorus_entry.specs.declared.entry.Entry.{Entry}
use Rattle.chorus_entry.specs.declared.id.MsgId.{MsgId}
use Rattle.chorus_entry.specs.declared.message.Message.{Message}
use Rattle.chorus_entry.specs.declared.record.PortRecord.{PortRecord}
use Rattle.chorus_world.specs.declared.spot.Spot.{Spot}
use Rattle.chorus_world.specs.declared.spot.Spot.TheVariants as spots
use Rattle.chorus_world.specs.declared.place.Sent.{Sent}
use Rattle.chorus_world.specs.Views.{at, about, on}
use Rattle.chorus_world.specs.Ports.{PortState, fate, last_of}
use Rattle.chorus_world.specs.declared.progress.Progress.{Progress}
use Rattle.chorus_world.specs.declared.progress.Progress.TheVariants as stages
use Rattle.chorus_world.specs.Messages.{progress}
use Rattle.chorus_entry.specs.Same.{same_route}
use Rattle.chorus_world.specs.Steps.{is_asked_from}
use Rattle.chorus_world.specs.Seats as seats
use Rattle.chorus_calls.specs.Clients as clients
use Rattle.place_unsettled.specs.declared.wait.Key.{Key}
use Rattle.place_unsettled.specs.declared.wait.Wait.{Wait}
use Rattle.place_unsettled.specs.Queues.{Queue}

abbrev pub message : List Entry → MsgId → Message
message past x = as_posted x (post_of x past)

-- the place where it was posted
abbrev pub home_from : Option Posted → ℕ
home_from None = 0
home_from (Some m) = m.place

abbrev pub home : List Entry → MsgId → ℕ
home past x = home_from (post_of x past)

-- Records. `line` are the entries on the port's line.

-- the record of a port in the hands of an actor, or on its way to one
abbrev pub record_for : List Entry → List Entry → Ui → Ui → PortState → PortRecord
record_for past line q actor f =
    record {
      ui = q;
      actor = actor;
      capacity = f.capacity;
      hop = length f.path - 1;
      first = f.taken;
      pending = map (message past) (drop f.taken f.accepted);
      clients = clients_kept past line;
    }

-- the record of the port at the place p, where it is held there
abbrev pub record_held : List Entry → List Entry → Ui → ℕ → PortState → Spot → Option PortRecord
record_held past line q p f (spots.Held actor) =
    if last_of 0 f.path == p then Some (record_for past line q actor f) else None
record_held past line q p f _ = None

abbrev pub record_here : List Entry → List Entry → Ui → ℕ → Option PortState → Option PortRecord
record_here past line q p None = None
record_here past line q p (Some f) = record_held past line q p f f.spot

abbrev pub record_by : List Entry → List Entry → Ui → ℕ → Option PortRecord
record_by past line q p = record_here past line q p (fate line)

abbrev pub record_at : List Entry → Ui → ℕ → Option PortRecord
record_at past q p = record_by past (on q past) q p

-- Messages that wait.

abbrev pub as_wait : List Entry → Sent → Wait
as_wait past m =
    record {
      message = message past m.id;
      only = site_asked m.id past;
      home = home past m.id;
    }

-- the message goes to this port by this route
abbrev pub is_for : Key → Sent → Bool
is_for k m = same_ui m.port k.port && same_route m.route k.route

-- the messages for k that were sent from the place p and are not settled there
abbrev pub sent_for : List Entry → ℕ → Key → List Sent
sent_for past p k = filter (is_for k) (unsettled (at p past) (sent (at p past)))

-- where a message is tried, until the place that tried it is told
abbrev pub tried_at : Progress → Option ℕ
tried_at (stages.Tried from q to hop) = Some to
tried_at (stages.Decided from by q answer) = Some by
tried_at _ = None

abbrev pub first_tried : List Entry → List Sent → Option ℕ
first_tried past [] = None
first_tried past (m ∷ ms) = tried_at (progress (about m.id past))

abbrev pub queue_of : List Entry → List Sent → Queue
queue_of past ms = record { tried = first_tried past ms; waits = map (as_wait past) ms }

-- those that wait at the place p for k
abbrev pub queue_at : List Entry → ℕ → Key → Queue
queue_at past p k = queue_of past (sent_for past p k)

-- Reports.

-- the place p posted x, or the post of which x is a copy, to a group of another place, and did not hear of x
abbrev pub is_unheard : Layout → List Entry → ℕ → MsgId → Bool
is_unheard l past p x = is_asked_from l p (post_of x past) && not (is_heard x (at p past))

-- Callers. `mine` are the caller's entries.

-- the outstanding call, with what its first post has
abbrev pub as_called : ℕ → Option seats.Call → Option clients.Call
as_called number None = None
as_called number (Some call) = Some (record { number = number; port = call.port; back = call.back; body = call.body })

abbrev pub outstanding_as : List Entry → Option ℕ → Option clients.Call
outstanding_as mine None = None
outstanding_as mine (Some number) = as_called number (seats.first_call number mine)

abbrev pub outstanding : List Entry → Option clients.Call
outstanding mine = outstanding_as mine (seats.call mine)
