-- The messages of a port and route go, one after the other: what is left to do, and what it needs.
-- k is a port and route, w a message that waits, p the tables of a place, t a turn.
use Rattle.std.specs.Prelude.{ℕ, ◌≡◌, ◌+◌, ◌<◌, ◌≤◌, ◌==◌, ◌^◌, not, if◌then◌else◌, List, [], ◌∷◌, length, slice_get, Option, Some, None, ◌++◌, drop, option_to_list, unwrap_or}
use Rattle.chorus_ui.specs.declared.ui.Ui.{Ui}
use Rattle.chorus_ui.specs.declared.layout.Layout.{Layout}
use Rattle.chorus_ui.specs.Layout.{has_site}
use Rattle.chorus_entry.specs.declared.answer.Answer.{Answer}
use Rattle.chorus_world.specs.Places.{taught}
use Rattle.chorus_hints.specs.Known.{kept, newest_of}
use Rattle.law_machine.specs.Working.{taught_of}
use Rattle.chorus_entry.specs.declared.message.Message.{Message}
use Rattle.chorus_entry.specs.declared.record.PortRecord.{PortRecord}
use Rattle.chorus_world.specs.Posts.{is_on_site}
use Rattle.place_unsettled.specs.declared.wait.Key.{Key}
use Rattle.place_unsettled.specs.declared.wait.Wait.{Wait}
use Rattle.place_unsettled.specs.Queues.{queue, room}
use Rattle.law_machine.specs.PlaceState.{PlaceState, Turn, newest, greatest_clock}
use Rattle.law_machine.specs.Deciding.{decide, records_after}
use Rattle.law_machine.specs.Trying.{settles_here, tries_at, goes_on}
use Rattle.chorus_place.specs.PlaceTables.Tables.{Tables}

-- the messages that wait, and the first of them
abbrev pub waits_for : Key → Tables → List Wait
waits_for k p = (queue p.waits k).waits

abbrev pub first_for : Key → Tables → Option Wait
first_for k p = slice_get (waits_for k p) 0

-- the answer enqueues nothing
abbrev pub LeavesRecords : Answer → Type 0
LeavesRecords answer = (m : Message) (q : Ui) (ports : List PortRecord) → records_after answer m q ports ≡ ports

-- the first message has this answer, or else what the place decides
abbrev pub settles : Key → Wait → Option Answer → ℕ → Turn → Turn
settles k w given tried t =
    settles_here k w tried (unwrap_or given (decide w.message k.port w.only tried t.place)) t

-- how many of these messages are reported to other places than p when they are settled
abbrev pub reports : ℕ → List Wait → ℕ
reports p [] = 0
reports p (w ∷ ws) = (if w.home == p then 0 else 1) + reports p ws

abbrev pub reports_for : Key → Tables → ℕ
reports_for k p = reports p.number (waits_for k p)

-- What the code looks for before it changes anything: the first message that may be tried at the place `to`.
abbrev pub first_to : Layout → ℕ → List Wait → Option Wait
first_to l to [] = None
first_to l to (w ∷ ws) = if is_on_site l w.only to then Some w else first_to l to ws

-- the message of these that is tried at another place, where the port is located at `to`
abbrev pub leaving_to : Layout → ℕ → Ui → ℕ → List Wait → Option Wait
leaving_to l p q to ws = if not (has_site l q.site) then None else if to == p then None else first_to l to ws

abbrev pub leaving : Key → PlaceState → Option Wait
leaving k s = leaving_to s.layout s.number k.port (newest s k.port).to (s.waiting k).waits

abbrev pub tries_leaving : Key → Option Wait → Turn → Turn
tries_leaving k None t = t
tries_leaving k (Some w) t = tries_at k w (newest t.place k.port) t

-- the first message of k was settled by one entry, and what is left to do is the same
pub record GoesOn (k : Key) (before after : Turn) : Type 0 where
  pub same : goes_on k (after.place.waiting k).waits after ≡ goes_on k (before.place.waiting k).waits before
  pub fewer : length (after.place.waiting k).waits + 1 ≡ length (before.place.waiting k).waits
  pub clock : greatest_clock after ≡ greatest_clock before + 1
  pub leaves : leaving k after.place ≡ leaving k before.place
  pub layout : after.place.layout ≡ before.place.layout

-- nothing waits for k, or its first message is tried at another place
pub record Stops (k : Key) (t : Turn) : Type 0 where
  pub first : slice_get (t.place.waiting k).waits 0 ≡ leaving k t.place
  pub rest : goes_on k (t.place.waiting k).waits t ≡ tries_leaving k (leaving k t.place) t

-- some first messages of k were settled since the turn was `start`: what is left is the same, and there is room for it
pub record Going (k : Key) (again : Option Wait) (start now : Turn) (entries packets left : ℕ) : Type 0 where
  pub same : goes_on k (now.place.waiting k).waits now ≡ goes_on k (start.place.waiting k).waits start
  pub leaves : again ≡ leaving k now.place
  pub spare : length (now.place.waiting k).waits ≤ entries
  pub room : left + 1 ≤ packets
  pub clock : greatest_clock now + length (now.place.waiting k).waits + 1 < 2 ^ 64

-- the message that is tried at another place once the answer is learned: of those behind the first `start`, and then of
-- `last`
abbrev pub leaving_after : Key → Answer → ℕ → Option Wait → Tables → Option Wait
leaving_after k answer start last p =
    leaving_to p.layout p.number k.port (newest_of p.layout k.port (taught_of k.port (taught answer)
    (kept p.known) k.port)).0
    (drop start (waits_for k p) ++ option_to_list last)
