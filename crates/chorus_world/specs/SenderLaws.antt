-- The order in which a port accepts what one caller sends (FIFO by route), said of one past.
use Rattle.std.specs.Prelude.{ℕ, ◌≡◌, ◌<◌, List, Option, Some, None, slice_get}
use Rattle.chorus_ui.specs.declared.ui.Ui.{Ui}
use Rattle.chorus_entry.specs.declared.entry.Entry.{Entry}
use Rattle.chorus_entry.specs.declared.id.MsgId.{MsgId}
use Rattle.chorus_entry.specs.Dest.{group_in}
use Rattle.chorus_world.specs.Posts.{Posted, post_of}
use Rattle.chorus_world.specs.AcceptedLaws.{accepted_by}

abbrev pub route_from : Option Posted → Option Ui
route_from None = None
route_from (Some m) = group_in m.dest

-- the route of a message to its port: the group that it was posted to, or none where it was posted to the port
abbrev pub route_of : MsgId → List Entry → Option Ui
route_of x past = route_from (post_of x past)

-- a port accepts the messages of one caller that came by one route in the order in which they were posted
abbrev pub KeepsSenderOrder : List Entry → Type 0
KeepsSenderOrder past =
    (q : Ui) (i j : ℕ) (x y : MsgId) → i < j → slice_get (accepted_by q past) i ≡ Some x →
    slice_get (accepted_by q past) j ≡ Some y →
    x.seat ≡ y.seat → route_of x past ≡ route_of y past → x.number < y.number
