-- Choosing the members of a group for a post, at the group's place.
-- m is the post, d its destination, g the group, q a port, s the place, t a turn; `home` is the place where m was
-- posted.
use Rattle.std.specs.Prelude.{ℕ, ◌+◌, ◌==◌, ◌&&◌, Bool, List, [], ◌∷◌, length, find, Some}
use Rattle.chorus_ui.specs.declared.ui.Ui.{Ui}
use Rattle.chorus_ui.specs.Layout.{has_site, site_of}
use Rattle.chorus_entry.specs.declared.dest.Dest.{Dest}
use Rattle.chorus_entry.specs.declared.message.Message.{Message}
use Rattle.chorus_entry.specs.declared.act.Act.{Act}
use Rattle.chorus_entry.specs.declared.answer.Answer.TheVariants as A
use Rattle.chorus_entry.specs.Dest.{site_in}
use Rattle.chorus_entry.specs.Message.{as_copy}
use Rattle.chorus_world.specs.Groups.{members, in_turn}
use Rattle.chorus_entry.specs.Members.{first_of, listed}
use Rattle.place_unsettled.specs.declared.wait.Key.{Key}
use Rattle.place_unsettled.specs.declared.wait.Wait.{Wait}
use Rattle.place_unsettled.specs.Queues.{Queue, changed, with_last}
use Rattle.law_machine.specs.PlaceState.{PlaceState, Turn, newest, unchanged, say}
use Rattle.law_machine.specs.Trying.{report, go}

-- the port is on the site, as far as the place knows
abbrev pub is_at_site : ℕ → PlaceState → Ui → Bool
is_at_site site s q = has_site s.layout q.site && (site_of s.layout (newest s q).to == site)

-- the members that a post chooses: all, in the order in which they joined; the one whose turn it is; or the first in
-- turn that is at the site
abbrev pub choice : Dest → PlaceState → List Ui
choice (Dest.Port q) s = []
choice (Dest.All g) s = members g s.journal
choice (Dest.One g) s = listed (first_of (in_turn g s.journal))
choice (Dest.OneAt g site) s = listed (find (is_at_site site s) (in_turn g s.journal))

-- the copies of a group's posts go to a member by the group's route
abbrev pub by_group : Ui → Ui → Key
by_group g q = record { port = q; route = Some g }

-- the copy with this number; it demands the site that the post demands
abbrev pub copy : Message → Dest → ℕ → ℕ → Wait
copy m d home number = record { message = as_copy m number; only = site_in d; home = home }

-- a copy waits for each of the members, behind the other messages of its port and route; they are numbered from
-- `number` on
abbrev pub with_copies : Message → Dest → Ui → ℕ → ℕ → List Ui → (Key → Queue) → Key → Queue
with_copies m d g home number [] queues = queues
with_copies m d g home number (q ∷ qs) queues =
    with_copies m d g home (number + 1) qs (changed (by_group g q) (with_last (copy m d home number)) queues)

-- the messages for each of the members go, member by member
abbrev pub all_go : Ui → List Ui → Turn → Turn
all_go g [] t = t
all_go g (q ∷ qs) t = all_go g qs (go (by_group g q) t)

abbrev pub finds_no_member : Message → Ui → ℕ → Turn → Turn
finds_no_member m g home t =
    say (Act.NoMember m.id g) (record (unchanged t) { loads = report t.place.number home m.id A.NoMember }) t

abbrev pub chooses_all : Message → Dest → Ui → ℕ → List Ui → Turn → Turn
chooses_all m d g home qs t =
    say (Act.Choose m.id g qs) (record (unchanged t) {
      waiting = with_copies m d g home 1 qs t.place.waiting;
      loads = report t.place.number home m.id (A.Chosen (length qs));
    }) t

abbrev pub chooses_these : Message → Dest → Ui → ℕ → List Ui → Turn → Turn
chooses_these m d g home [] t = finds_no_member m g home t
chooses_these m d g home (q ∷ qs) t = all_go g (q ∷ qs) (chooses_all m d g home (q ∷ qs) t)

-- the members are chosen for the post, and its copies go
abbrev pub chooses : Message → Dest → Ui → ℕ → Turn → Turn
chooses m d g home t = chooses_these m d g home (choice d t.place) t
