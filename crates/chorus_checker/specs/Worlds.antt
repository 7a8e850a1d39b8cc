-- Worlds: the terms of the step relation, of a world. No definition uses them.
use Rattle.std.specs.Prelude.{ℕ, Bool, List, [], ◌∷◌}
use Rattle.chorus_ui.specs.declared.ui.Ui.{Ui}
use Rattle.chorus_entry.specs.declared.entry.Entry.{Entry}
use Rattle.chorus_entry.specs.declared.id.MsgId.{MsgId}
use Rattle.chorus_entry.specs.declared.message.Message.{Message}
use Rattle.chorus_entry.specs.declared.dest.Dest.{Dest}
use Rattle.chorus_entry.specs.declared.act.Act.{Act}
use Rattle.chorus_entry.specs.declared.act.Act.TheVariants.{Post, NoMember, GroupMake}
use Rattle.chorus_world.specs.declared.progress.Progress.{Progress}
use Rattle.chorus_world.specs.declared.place.Location.{Location}
use Rattle.chorus_world.specs.declared.due.Due.{Due}
use Rattle.chorus_world.specs.Views.{Views, at, by, views, views_about}
use Rattle.chorus_entry.specs.Same.{are_same}
use Rattle.chorus_world.specs.Places.{located}
use Rattle.chorus_world.specs.Seats.{hand, same_hand}
use Rattle.chorus_world.specs.Steps.{State, act_follows, act_may, choice_from, due, is_elsewhere, is_group_at, is_timely, may_choose_from, may_request, may_tag, next_number, reply_to}

-- what the act needs is there, at the place and by the seat
abbrev pub may_do : State → ℕ → ℕ → Act → Bool
may_do w place seat act = act_may w.layout (views w.past place seat act) place seat act

abbrev pub may_happen : State → Entry → Bool
may_happen w e = may_do w e.place e.seat e.act

-- the entry's place and clock may come next, and its act
abbrev pub is_on_time : State → Entry → Bool
is_on_time w e = is_timely w.layout (views w.past e.place e.seat e.act) e

abbrev pub is_next : State → Entry → Bool
is_next w e = act_follows w.layout (views w.past e.place e.seat e.act) e.place e.seat e.act

-- what a decision on the message for the port reads at the place
abbrev pub seen : State → ℕ → MsgId → Ui → Views
seen w place id port = views_about w.past place id port

-- how the message is due at the place
abbrev pub due_in : State → ℕ → MsgId → Ui → Due
due_in w place id port = due w.layout (seen w place id port) place id port

-- where the place locates the port
abbrev pub located_in : State → ℕ → Ui → Location
located_in w place port = located w.layout port (at place w.past)

-- the place where the message waits, or was tried, finds the port elsewhere
abbrev pub finds_elsewhere : State → ℕ → MsgId → Ui → ℕ → ℕ → Bool
finds_elsewhere w place id port to hop = is_elsewhere w.layout (seen w place id port) place id port to hop

-- the post with this progress has its turn to be chosen for, and the members that are chosen
abbrev pub may_choose_in : State → ℕ → MsgId → Ui → Progress → Bool
may_choose_in w place id group progress =
    may_choose_from w.layout (views w.past place 0 (NoMember id group)) place id group progress

abbrev pub choice_in : State → ℕ → Progress → List Ui
choice_in w place progress = choice_from w.layout (at place w.past) progress

-- the group is made, and the place is its own
abbrev pub is_group_in : State → ℕ → Ui → Bool
is_group_in w place group = is_group_at w.layout (views w.past place 0 (GroupMake group)) place group

-- the number of the next port that the place makes
abbrev pub next_in : State → ℕ → ℕ
next_in w place = next_number w.layout place (at place w.past)

-- the message of the seat may have its tag, may be the request of this number, and may be a reply
abbrev pub may_tag_in : State → ℕ → ℕ → Message → Dest → Bool
may_tag_in w place seat m dest = may_tag (views w.past place seat (Post m dest)) m dest m.tag

abbrev pub may_request_in : State → ℕ → ℕ → ℕ → Message → Dest → Bool
may_request_in w place seat number m dest = may_request (views w.past place seat (Post m dest)) number m dest

abbrev pub may_reply_in : State → ℕ → ℕ → ℕ → Dest → Bool
may_reply_in w seat client number dest =
    are_same same_hand (hand w.past (by seat w.past)) (reply_to client number dest)

-- the first list, or the second where it is empty
abbrev pub one_of : List Ui → List Ui → List Ui
one_of [] qs = qs
one_of (q ∷ rs) qs = q ∷ rs
