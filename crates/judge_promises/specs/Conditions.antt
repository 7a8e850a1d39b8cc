-- The conditions of each act that is read, in order: what a system promises that has it. Refusals are asked only for what
-- any system can say. p is a place, s a seat, x the id of a message, q a port, g a group; n is a number of the act.
use Rattle.std.specs.Prelude.{ℕ, ◌==◌, nat_lt, nat_le, Bool, false, ◌&&◌, ◌||◌, not, List, [], ◌∷◌, ◌++◌, length, Option, Some, None, is_none, is_some}
use Rattle.chorus_ui.specs.declared.ui.Ui.{Ui}
use Rattle.chorus_ui.specs.declared.layout.Layout.{Layout}
use Rattle.chorus_ui.specs.declared.limits.TheConstants.{PENDING_LIMIT}
use Rattle.chorus_ui.specs.Layout.{has_place}
use Rattle.chorus_entry.specs.declared.entry.Entry.{Entry}
use Rattle.chorus_entry.specs.declared.id.MsgId.{MsgId}
use Rattle.chorus_entry.specs.declared.act.Act.{Act}
use Rattle.chorus_entry.specs.declared.act.Act.TheVariants.{Make, Post, Accept, Full, Already, ClientsFull, Early, NoPort, Elsewhere, NoMember, Choose, Take, Depart, Arrive, Delete, Gone}
use Rattle.chorus_entry.specs.Kinds.{has_kinds}
use Rattle.chorus_entry.specs.Members.{are_distinct}
use Rattle.chorus_world.specs.Views.{at, by}
use Rattle.chorus_world.specs.GroupLaws.{is_functional}
use Rattle.chorus_world.specs.Groups.{is_chosen}
use Rattle.chorus_world.specs.Messages.{verdict}
use Rattle.chorus_world.specs.Places.{last_clock}
use Rattle.chorus_world.specs.Ports.{are_waiting, is_coming, is_full, is_held_at, is_made, is_next_hop}
use Rattle.chorus_world.specs.Posts.{Posted, posted_in, site_asked, tag_of}
use Rattle.judge_rules.specs.About.{is_request}
use Rattle.judge_rules.specs.Terms.{accepted_so_far, has_space, taken_so_far}
use Rattle.judge_promises.specs.Terms.{departed, goes_to, is_coming_to, is_deleted, is_in_order, is_new_request, is_old_request, last_number, port_of, posted_to_group, waits_first}

-- of each entry: its place is one of the layout, its clock is above that of the last one there, and its names are of the
-- kinds that its act asks for
abbrev pub timely : Layout → List Entry → Entry → List Bool
timely l past e = has_place l e.place ∷ nat_lt (last_clock (at e.place past)) e.clock ∷ has_kinds e.act ∷ []

-- of each decision: the message goes to the port, and is not settled
abbrev pub deciding : List Entry → MsgId → Ui → List Bool → List Bool
deciding past x q more = goes_to x q past ∷ is_none (verdict x past) ∷ more

-- of each choice: the message is a post to the group, and has no choice yet
abbrev pub choosing : List Entry → MsgId → Ui → List Bool → List Bool
choosing past x g more = posted_to_group x g past ∷ not (is_chosen x past) ∷ more

-- the members are some, none twice, and one where the post goes to one
abbrev pub is_single : List Ui → Option Posted → Bool
is_single qs None = false
is_single qs (Some m) = not (is_functional m.dest) || (length qs == 1)

abbrev pub are_members : MsgId → List Ui → List Entry → Bool
are_members x qs past =
    nat_lt 0 (length qs) && are_distinct qs && is_single qs (posted_in x (by x.seat past))

abbrev pub conditions : Layout → List Entry → ℕ → ℕ → Act → List Bool
conditions l past p s (Make q a c) = not (is_made (port_of past q)) ∷ (nat_le 1 c && nat_le c PENDING_LIMIT) ∷ []
conditions l past p s (Post m d) =
    ((m.id.seat == s) && (m.id.copy == 0)) ∷ nat_lt (last_number s past) m.id.number ∷ []
conditions l past p s (Accept x q n) =
    deciding past x q (is_held_at p (port_of past q) ∷ has_space (port_of past q)
    ∷ accepted_so_far n (port_of past q) ∷ is_in_order x q past ∷ is_new_request x q past ∷ [])
conditions l past p s (Full x q n) =
    deciding past x q (is_held_at p (port_of past q) ∷ is_full n (port_of past q) ∷ [])
conditions l past p s (Already x q) =
    deciding past x q (is_held_at p (port_of past q) ∷ is_old_request x q past ∷ [])
conditions l past p s (ClientsFull x q) =
    deciding past x q (is_held_at p (port_of past q) ∷ is_request (tag_of x past) ∷ [])
conditions l past p s (Early x q hop) = deciding past x q (is_coming p hop (port_of past q) ∷ [])
conditions l past p s (NoPort x q) = deciding past x q (not (is_made (port_of past q)) ∷ [])
conditions l past p s (Elsewhere x q to hop) = deciding past x q (is_some (site_asked x past) ∷ [])
conditions l past p s (Gone x q) = deciding past x q (is_deleted (port_of past q) ∷ [])
conditions l past p s (NoMember x g) = choosing past x g []
conditions l past p s (Choose x g qs) = choosing past x g (are_members x qs past ∷ [])
conditions l past p s (Take q n x) =
    is_held_at p (port_of past q) ∷ waits_first x (port_of past q) ∷ taken_so_far n (port_of past q) ∷ []
conditions l past p s (Depart q to a hop) =
    is_held_at p (port_of past q) ∷ (has_place l to && not (to == p)) ∷ is_next_hop hop (port_of past q) ∷ []
conditions l past p s (Arrive q hop) = is_coming_to p (port_of past q) ∷ departed hop (port_of past q) ∷ []
conditions l past p s (Delete q xs) = is_held_at p (port_of past q) ∷ are_waiting xs (port_of past q) ∷ []
conditions l past p s _ = []
