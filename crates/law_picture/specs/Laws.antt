-- Laws: what arrows and bars are, of each legal list. A past has its newest entry first; e is an entry, past what
-- stands before it. x is the id of a message, q a port, g a group, l a layout, r where an entry stands.
use Rattle.std.specs.Prelude.{ℕ, ◌≡◌, ◌≢◌, ◌-◌, ◌==◌, Bool, true, false, if◌then◌else◌, is_some, List, ◌∷◌, ◌++◌, Option, None, Some, slice_get}
use Rattle.chorus_ui.specs.declared.ui.Ui.{Ui}
use Rattle.chorus_ui.specs.declared.layout.Layout.{Layout}
use Rattle.chorus_ui.specs.Layout.{IsLayout, group_place}
use Rattle.chorus_entry.specs.declared.entry.Entry.{Entry}
use Rattle.chorus_entry.specs.declared.id.MsgId.{MsgId}
use Rattle.chorus_entry.specs.declared.act.Act.{Act}
use Rattle.chorus_entry.specs.declared.act.Act.TheVariants.{Told, Heard, Arrive}
use Rattle.chorus_entry.specs.Act.{message_of}
use Rattle.chorus_entry.specs.Dest.{group_in}
use Rattle.chorus_world.specs.declared.progress.Progress.{Progress}
use Rattle.chorus_world.specs.declared.progress.Progress.TheVariants.{Idle, Asked, Tried, Decided, Settled, Reported}
use Rattle.chorus_world.specs.Views.{on, about}
use Rattle.chorus_world.specs.Ports.{PortState, fate, is_held, last_of, waiting}
use Rattle.chorus_world.specs.Messages.{progress}
use Rattle.chorus_world.specs.Posts.{Posted, post_of}
use Rattle.chorus_world.specs.Steps.{is_legal}
use Rattle.law_picture.specs.declared.row.Row.{Row}
use Rattle.law_picture.specs.declared.bar.Bar.{Bar}
use Rattle.law_picture.specs.Causes.{caused_by, row_of}
use Rattle.law_picture.specs.Bars.{bar}

-- Bars.

-- where a port is held, and how many messages wait in it
pub record Held : Type 0 where
  pub place : ℕ
  pub waits : ℕ

-- by its bar
abbrev pub bar_held : Option Bar → Option Held
bar_held None = None
bar_held (Some b) = if b.held then Some (record { place = b.row.place; waits = b.waits }) else None

-- in the world
abbrev pub port_held : Option PortState → Option Held
port_held None = None
port_held (Some f) = if is_held f.spot then Some (record { place = last_of 0 f.path; waits = waiting f }) else None

-- each bar stands where the world holds the port, and nowhere else, with as many messages as wait there
abbrev pub BarsAreOfTheWorld : Type 0
BarsAreOfTheWorld =
    (l : Layout) (past : List Entry) → IsLayout l → is_legal l past ≡ true → (q : Ui) →
    bar_held (bar q past) ≡ port_held (fate (on q past))

-- Arrows.

-- an arrow comes from one entry that stands before, at another place
pub record ComesFrom (past : List Entry) (e : Entry) (r : Row) : Type 0 where
  pub entry : Entry
  pub newer : List Entry
  pub older : List Entry
  pub stands : past ≡ newer ++ entry ∷ older
  pub row : r ≡ row_of older entry
  pub elsewhere : entry.place ≢ e.place

abbrev pub ArrowsLeadForward : Type 0
ArrowsLeadForward = (past : List Entry) (e : Entry) (r : Row) → caused_by past e ≡ Some r → ComesFrom past e r

-- where the group of a post is
abbrev pub group_at : Layout → Option Ui → Option ℕ
group_at l None = None
group_at l (Some g) = group_place l g

abbrev pub group_of : Layout → Option Posted → Option ℕ
group_of l None = None
group_of l (Some m) = group_at l (group_in m.dest)

-- Where what comes next of a message comes from, by how far the message is: from where its members were asked for,
-- where it was tried or where it was decided; and the place of its post hears of it from the place of the group. What
-- waits comes from nowhere.
abbrev pub sender : Layout → Option Posted → Progress → Option ℕ
sender l post Idle = None
sender l post (Asked from d) = Some from
sender l post (Tried from q to hop) = Some from
sender l post (Decided from by q answer) = Some by
sender l post (Settled answer) = group_of l post
sender l post Reported = None

abbrev pub sender_of : Layout → List Entry → Option MsgId → Option ℕ
sender_of l past None = None
sender_of l past (Some x) = sender l (post_of x past) (progress (about x past))

-- a port that comes by a hop comes from where the hop before it led
abbrev pub mover : ℕ → Option PortState → Option ℕ
mover hop None = None
mover hop (Some f) = slice_get f.path (hop - 1)

abbrev pub came_from : Layout → List Entry → Act → Option ℕ
came_from l past (Arrive q hop) = mover hop (fate (on q past))
came_from l past a = sender_of l past (message_of a)

-- nothing comes from the place itself
abbrev pub away : ℕ → Option ℕ → Option ℕ
away p None = None
away p (Some from) = if from == p then None else Some from

abbrev pub place_of : Option Row → Option ℕ
place_of None = None
place_of (Some r) = Some r.place

-- an entry has an arrow exactly where it comes from another place in the world, and it has it from there
abbrev pub ArrowsAreOfTheWorld : Layout → List Entry → Entry → Type 0
ArrowsAreOfTheWorld l past e = place_of (caused_by past e) ≡ away e.place (came_from l past e.act)

-- a place is told, hears and gets a port from other places alone
abbrev pub comes_from_afar : Act → Bool
comes_from_afar (Told x answer) = true
comes_from_afar (Heard x answer) = true
comes_from_afar (Arrive q hop) = true
comes_from_afar _ = false

abbrev pub WhatComesFromAfarHasOne : Layout → List Entry → Entry → Type 0
WhatComesFromAfarHasOne l past e = comes_from_afar e.act ≡ true → is_some (caused_by past e) ≡ true

-- of each entry of a legal list
abbrev pub OfLegal : (Layout → List Entry → Entry → Type 0) → Type 0
OfLegal P = (l : Layout) (past : List Entry) (e : Entry) → IsLayout l → is_legal l (e ∷ past) ≡ true → P l past e
