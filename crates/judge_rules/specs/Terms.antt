-- The terms of the rules that conditions are made of.
use Rattle.std.specs.Prelude.{ℕ, ◌==◌, nat_lt, Bool, false, List, Option, Some, None, length, slice_get}
use Rattle.chorus_ui.specs.declared.ui.Ui.{Ui}
use Rattle.chorus_ui.specs.declared.layout.Layout.{Layout}
use Rattle.chorus_entry.specs.declared.entry.Entry.{Entry}
use Rattle.chorus_entry.specs.declared.id.MsgId.{MsgId}
use Rattle.chorus_entry.specs.MsgId.{same_id}
use Rattle.chorus_entry.specs.Same.{are_same}
use Rattle.chorus_world.specs.declared.due.Due.{Due}
use Rattle.chorus_world.specs.declared.place.Location.{Location}
use Rattle.chorus_world.specs.Views.{at, on, views_about}
use Rattle.chorus_world.specs.Places.{located}
use Rattle.chorus_world.specs.Ports.{PortState, fate, waiting}
use Rattle.chorus_world.specs.Posts.{is_on_site, site_asked}
use Rattle.chorus_world.specs.Steps.{due}

-- how the message x is due at the place p for the port q
abbrev pub due_at : Layout → List Entry → ℕ → MsgId → Ui → Due
due_at l past p x q = due l (views_about past p x q) p x q

-- what became of the port, and where the place locates it
abbrev pub port_of : List Entry → Ui → Option PortState
port_of past q = fate (on q past)

abbrev pub located_at : Layout → List Entry → ℕ → Ui → Location
located_at l past p q = located l q (at p past)

-- the place is on the site that the message asks for, where it asks for one
abbrev pub suits_site : Layout → List Entry → ℕ → MsgId → Bool
suits_site l past p x = is_on_site l (site_asked x past) p

-- the two tests of `has_room`, of `is_full` and of `is_first_waiting`
abbrev pub has_space : Option PortState → Bool
has_space None = false
has_space (Some f) = nat_lt (waiting f) f.capacity

abbrev pub accepted_so_far : ℕ → Option PortState → Bool
accepted_so_far n None = false
accepted_so_far n (Some f) = n == length f.accepted

abbrev pub has_no_space : Option PortState → Bool
has_no_space None = false
has_no_space (Some f) = waiting f == f.capacity

abbrev pub so_many_wait : ℕ → Option PortState → Bool
so_many_wait n None = false
so_many_wait n (Some f) = n == waiting f

abbrev pub taken_so_far : ℕ → Option PortState → Bool
taken_so_far n None = false
taken_so_far n (Some f) = n == f.taken

abbrev pub is_accepted_at : ℕ → MsgId → Option PortState → Bool
is_accepted_at n x None = false
is_accepted_at n x (Some f) = are_same same_id (Some x) (slice_get f.accepted n)
