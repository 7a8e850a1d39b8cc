-- What of the past an entry can read: the entries of its place, of its seat, about its message, and on the line of its
-- port, which are those that stand only where the port is held or comes to be held. A past is the list of all entries
-- so far, the newest first.
--
-- Letters, here and in the other files: e and f are entries, p is a place, s a seat, x and y are the ids of messages, m
-- is a message, d where it goes, q and r are ports, g and h groups, c is a caller's call or a command, l a layout, v
-- what an entry reads, w a world; n, i and j are numbers, and a is an act, an answer or an actor, as its type says. In
-- Ports and where its state is passed, f is the state of a port.
use Rattle.std.specs.Prelude.{ℕ, Bool, false, ◌||◌, List, [], ◌∷◌, Option, Some, ◌==◌}
use Rattle.std.specs.List.{filter}
use Rattle.chorus_ui.specs.declared.ui.Ui.{Ui}
use Rattle.chorus_ui.specs.Name.{same_ui}
use Rattle.chorus_entry.specs.declared.entry.Entry.{Entry}
use Rattle.chorus_entry.specs.declared.id.MsgId.{MsgId}
use Rattle.chorus_entry.specs.declared.act.Act.{Act}
use Rattle.chorus_entry.specs.declared.act.Act.TheVariants.{GroupMake, NoGroup, Gone}
use Rattle.chorus_entry.specs.Act.{message_of, held_port_of, port_read_by}
use Rattle.chorus_entry.specs.MsgId.{same_id}
use Rattle.chorus_entry.specs.Same.{are_same}
use Rattle.chorus_entry.specs.Order.{is_at}

abbrev pub is_by : ℕ → Entry → Bool
is_by s e = e.seat == s

abbrev pub is_about : Option MsgId → Entry → Bool
is_about x e = are_same same_id x (message_of e.act)

abbrev pub is_on : Option Ui → Entry → Bool
is_on q e = are_same same_ui q (held_port_of e.act)

-- the past of a place, of a seat, of a message, and of a port
abbrev pub at : ℕ → List Entry → List Entry
at p past = filter (is_at p) past

abbrev pub by : ℕ → List Entry → List Entry
by s past = filter (is_by s) past

abbrev pub about : MsgId → List Entry → List Entry
about x past = filter (is_about (Some x)) past

abbrev pub on : Ui → List Entry → List Entry
on q past = filter (is_on (Some q)) past

-- the group was made
abbrev pub makes_group : Ui → Act → Bool
makes_group g (GroupMake h) = same_ui h g
makes_group g _ = false

abbrev pub is_group : Ui → List Entry → Bool
is_group g [] = false
is_group g (e ∷ past) = makes_group g e.act || is_group g past

-- the group that a NoGroup names was made
abbrev pub finds_group : Act → List Entry → Bool
finds_group (NoGroup g) past = is_group g past
finds_group _ past = false

-- What one entry reads. In the whole past it only looks up what the oldest fitting entry settles for ever: what was
-- posted under an id, and which posts to a group a place made before one that is there. A NoGroup besides reads that
-- its group was not made, which a later entry may change.
pub record Views : Type 0 where
  pub here : List Entry
  pub mine : List Entry
  pub message : List Entry
  pub port : List Entry
  pub all : List Entry
  pub group_made : Bool

abbrev pub views : List Entry → ℕ → ℕ → Act → Views
views past p s a =
    record {
      here = at p past;
      mine = by s past;
      message = filter (is_about (message_of a)) past;
      port = filter (is_on (port_read_by a)) past;
      all = past;
      group_made = finds_group a past;
    }

-- what a decision on the message x for the port q reads at the place p
abbrev pub views_about : List Entry → ℕ → MsgId → Ui → Views
views_about past p x q = views past p 0 (Gone x q)
