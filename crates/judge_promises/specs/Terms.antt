-- What the entries that are read say. Read are the acts that any system has whose mailboxes move; all others are passed
-- over. A past has its newest entry first, and here none but entries that are read. p is a place, s a seat, x the id of a
-- message, q a port, g a group; f is the state of a port; n is a number of the act.
use Rattle.std.specs.Prelude.{ℕ, ◌+◌, ◌-◌, ◌==◌, nat_le, nat_lt, Bool, true, false, ◌&&◌, not, if◌then◌else◌, List, [], ◌∷◌, length, Option, Some, None, slice_get}
use Rattle.std.specs.List.{filter, list_any}
use Rattle.std.specs.Option.{option_eq}
use Rattle.chorus_ui.specs.declared.ui.Ui.{Ui}
use Rattle.chorus_ui.specs.Name.{same_ui}
use Rattle.chorus_entry.specs.declared.entry.Entry.{Entry}
use Rattle.chorus_entry.specs.declared.id.MsgId.{MsgId}
use Rattle.chorus_entry.specs.declared.tag.Tag.{Tag}
use Rattle.chorus_entry.specs.declared.tag.Tag.TheVariants.{Request}
use Rattle.chorus_entry.specs.declared.act.Act.{Act}
use Rattle.chorus_entry.specs.declared.act.Act.TheVariants.{Make, Post, Accept, Choose, Take, Depart, Arrive, Delete}
use Rattle.chorus_entry.specs.Act.{is_verdict}
use Rattle.chorus_entry.specs.Dest.{group_in}
use Rattle.chorus_entry.specs.MsgId.{same_id}
use Rattle.chorus_entry.specs.Same.{are_same}
use Rattle.chorus_world.specs.Views.{by, on}
use Rattle.chorus_world.specs.Ports.{PortState, fate, is_ended, is_last, is_moving}
use Rattle.chorus_world.specs.Posts.{Posted, posted_in, tag_of}
use Rattle.chorus_world.specs.SenderLaws.{route_of}
use Rattle.checker_rows.specs.declared.sending.Sending.{Sending}
use Rattle.checker_rows.specs.Messages.{sending}

-- the acts that are read: of verdicts these are accept and the refusals, and that a post has no member
abbrev pub is_read : Act → Bool
is_read (Make q a c) = true
is_read (Post m d) = true
is_read (Choose x g qs) = true
is_read (Take q n x) = true
is_read (Depart q to a hop) = true
is_read (Arrive q hop) = true
is_read (Delete q xs) = true
is_read act = is_verdict act

abbrev pub read : List Entry → List Entry
read past = filter (λ e. is_read e.act) past

-- Posts.

-- the number of the seat's last post, or 0
abbrev pub number_by : Act → ℕ → ℕ
number_by (Post m d) n = m.id.number
number_by _ n = n

abbrev pub last_number : ℕ → List Entry → ℕ
last_number s [] = 0
last_number s (e ∷ past) = if e.seat == s then number_by e.act (last_number s past) else last_number s past

-- the message was sent to the port: it is a post to it, or the copy that a choice made for it
abbrev pub is_for : Ui → Option Sending → Bool
is_for q None = false
is_for q (Some m) = same_ui m.port q

abbrev pub goes_to : MsgId → Ui → List Entry → Bool
goes_to x q past = is_for q (sending x past)

-- the message is a post to the group
abbrev pub is_to_group : Ui → Option Posted → Bool
is_to_group g None = false
is_to_group g (Some m) = are_same same_ui (Some g) (group_in m.dest)

abbrev pub posted_to_group : MsgId → Ui → List Entry → Bool
posted_to_group x g past = is_to_group g (posted_in x (by x.seat past))

-- Ports.

-- what became of the port: `fate` is that of a world whose entries are these
abbrev pub port_of : List Entry → Ui → Option PortState
port_of past q = fate (on q past)

-- it is on its way to the place
abbrev pub is_coming_to : ℕ → Option PortState → Bool
is_coming_to p None = false
is_coming_to p (Some f) = is_moving f.spot && is_last p f

-- it departed so many times
abbrev pub departed : ℕ → Option PortState → Bool
departed n None = false
departed n (Some f) = n == length f.path - 1

-- it was deleted
abbrev pub is_deleted : Option PortState → Bool
is_deleted None = false
is_deleted (Some f) = is_ended f.spot

-- the message waits first in it
abbrev pub waits_first : MsgId → Option PortState → Bool
waits_first x None = false
waits_first x (Some f) = are_same same_id (Some x) (slice_get f.accepted f.taken)

-- What a port accepted of one seat.

-- the number of the last message that it accepted by this route
abbrev pub latest_after : Ui → ℕ → Option Ui → List Entry → Act → Option ℕ → Option ℕ
latest_after q s route past (Accept x r n) last =
    if same_ui r q && ((x.seat == s) && option_eq same_ui (route_of x past) route) then Some x.number else last
latest_after q s route past _ last = last

abbrev pub latest : Ui → ℕ → Option Ui → List Entry → Option ℕ
latest q s route [] = None
latest q s route (e ∷ past) = latest_after q s route past e.act (latest q s route past)

-- the message is the next of its seat and route: its number is above theirs
abbrev pub is_above : ℕ → Option ℕ → Bool
is_above n None = true
is_above n (Some last) = nat_lt last n

abbrev pub is_in_order : MsgId → Ui → List Entry → Bool
is_in_order x q past = is_above x.number (latest q x.seat (route_of x past) past)

-- the numbers of the requests that it accepted
abbrev pub with_request : Tag → List ℕ → List ℕ
with_request (Request n back) ns = n ∷ ns
with_request _ ns = ns

abbrev pub requests_after : Ui → ℕ → List Entry → Act → List ℕ → List ℕ
requests_after q s past (Accept x r n) ns =
    if same_ui r q && (x.seat == s) then with_request (tag_of x past) ns else ns
requests_after q s past _ ns = ns

abbrev pub requests : Ui → ℕ → List Entry → List ℕ
requests q s [] = []
requests q s (e ∷ past) = requests_after q s past e.act (requests q s past)

-- a message with this tag is no request that is among them
abbrev pub is_new : Tag → List ℕ → Bool
is_new (Request n back) ns = not (list_any (λ m. m == n) ns)
is_new _ ns = true

abbrev pub is_new_request : MsgId → Ui → List Entry → Bool
is_new_request x q past = is_new (tag_of x past) (requests q x.seat past)

-- it is a request, and this one or a later one is among them
abbrev pub is_old : Tag → List ℕ → Bool
is_old (Request n back) ns = list_any (λ m. nat_le n m) ns
is_old _ ns = false

abbrev pub is_old_request : MsgId → Ui → List Entry → Bool
is_old_request x q past = is_old (tag_of x past) (requests q x.seat past)
