-- What became of a group's post is reported to the place where it was posted.
use Rattle.std.proofs.Common.{◌≡◌, List, [], ◌∷◌, refl}
use Rattle.chorus_entry.specs.declared.tag.Tag.{Tag}
use Rattle.chorus_entry.specs.declared.dest.Dest.{Dest}
use Rattle.chorus_entry.specs.declared.answer.Answer.TheVariants as A
use Rattle.chorus_entry.specs.declared.act.Act.{Act}
use Rattle.chorus_entry.specs.declared.command.Command.{Command}
use Rattle.law_machine.specs.declared.reply.Reply.{Reply}
use Rattle.law_network.specs.Network.{NetState, Event, Enter, Act as Acts, Deliver}
use Rattle.law_network.specs.Left.{merge}
use Rattle.law_network.proofs.Examples.Names.{actor, port, group, msg, mess, entry, ran, replies}

-- a copy that is decided at the group's place is reported at once, behind the choice; the others when they are told
abbrev reports_of_a_broadcast-events : List Event
reports_of_a_broadcast-events =
    Enter (actor 1 1) 0
    ∷ Acts 0 (Command.Make (actor 1 1) 1)
    ∷ Acts 0 (Command.Make (actor 3 1) 4)
    ∷ Acts 0 (Command.GroupMake 1)
    ∷ Acts 0 (Command.Join (group 1 1) (port 3 1))
    ∷ Acts 0 (Command.Join (group 1 1) (port 1 1))
    ∷ Acts 0 (Command.Join (group 1 1) (port 9 1))
    ∷ Enter (actor 2 1) 6
    ∷ Acts 1 (Command.Send (Dest.All (group 1 1)) (98 ∷ []))
    ∷ Deliver 0 2 1
    ∷ Deliver 0 1 3
    ∷ Deliver 0 3 1
    ∷ Deliver 0 1 2
    ∷ Deliver 0 1 2
    ∷ Deliver 0 1 2
    ∷ Deliver 0 1 2
    ∷ []

abbrev pub reports_of_a_broadcast : NetState
reports_of_a_broadcast = ran 3 1 reports_of_a_broadcast-events

pub reports_of_a_broadcast-replies : replies 3 1 reports_of_a_broadcast-events ≡
    (Reply.Made (port 1 1))
    ∷ (Reply.Made (port 3 1))
    ∷ (Reply.Made (group 1 1))
    ∷ Reply.Joined
    ∷ Reply.Joined
    ∷ Reply.Joined
    ∷ (Reply.Posted (msg 1 1 0))
    ∷ []
reports_of_a_broadcast-replies = refl

pub reports_of_a_broadcast-says : merge reports_of_a_broadcast ≡
    entry 1 1 0 (Act.Make (port 1 1) (actor 1 1) 1)
    ∷ entry 2 3 0 (Act.Make (port 3 1) (actor 3 1) 4)
    ∷ entry 3 1 0 (Act.GroupMake (group 1 1))
    ∷ entry 4 1 0 (Act.Join (group 1 1) (port 3 1))
    ∷ entry 5 1 0 (Act.Join (group 1 1) (port 1 1))
    ∷ entry 6 1 0 (Act.Join (group 1 1) (port 9 1))
    ∷ entry 7 2 1 (Act.Post (mess (msg 1 1 0) Tag.Plain (98 ∷ [])) (Dest.All (group 1 1)))
    ∷ entry 8 1 0 (Act.Choose (msg 1 1 0) (group 1 1) ((port 3 1) ∷ (port 1 1) ∷ (port 9 1) ∷ []))
    ∷ entry 9 1 0 (Act.Try (msg 1 1 1) (port 3 1) 3 0)
    ∷ entry 10 1 0 (Act.Accept (msg 1 1 2) (port 1 1) 0)
    ∷ entry 11 1 0 (Act.NoPort (msg 1 1 3) (port 9 1))
    ∷ entry 12 3 0 (Act.Accept (msg 1 1 1) (port 3 1) 0)
    ∷ entry 13 1 0 (Act.Told (msg 1 1 1) (A.Accepted 0))
    ∷ entry 14 2 0 (Act.Heard (msg 1 1 0) (A.Chosen 3))
    ∷ entry 15 2 0 (Act.Heard (msg 1 1 2) (A.Accepted 0))
    ∷ entry 16 2 0 (Act.Heard (msg 1 1 3) A.NoPort)
    ∷ entry 17 2 0 (Act.Heard (msg 1 1 1) (A.Accepted 0))
    ∷ []
reports_of_a_broadcast-says = refl

pub reports_of_a_broadcast-rest : reports_of_a_broadcast.packets ≡ []
reports_of_a_broadcast-rest = refl

-- there is no member to choose, and no such group; a group of no site is answered where the post is
abbrev no_member_is_reported-events : List Event
no_member_is_reported-events =
    Enter (actor 1 1) 0
    ∷ Acts 0 (Command.GroupMake 1)
    ∷ Enter (actor 2 1) 1
    ∷ Acts 1 (Command.Send (Dest.One (group 1 1)) (97 ∷ []))
    ∷ Acts 1 (Command.Send (Dest.All (group 1 2)) (98 ∷ []))
    ∷ Acts 1 (Command.Send (Dest.OneAt (group 3 1) 1) (99 ∷ []))
    ∷ Deliver 0 2 1
    ∷ Deliver 0 2 1
    ∷ Deliver 0 1 2
    ∷ Deliver 0 1 2
    ∷ []

abbrev pub no_member_is_reported : NetState
no_member_is_reported = ran 2 1 no_member_is_reported-events

pub no_member_is_reported-replies : replies 2 1 no_member_is_reported-events ≡
    (Reply.Made (group 1 1))
    ∷ (Reply.Posted (msg 1 1 0))
    ∷ (Reply.Posted (msg 1 2 0))
    ∷ (Reply.NoMember (msg 1 3 0))
    ∷ []
no_member_is_reported-replies = refl

pub no_member_is_reported-says : merge no_member_is_reported ≡
    entry 1 1 0 (Act.GroupMake (group 1 1))
    ∷ entry 2 2 1 (Act.Post (mess (msg 1 1 0) Tag.Plain (97 ∷ [])) (Dest.One (group 1 1)))
    ∷ entry 3 1 0 (Act.NoMember (msg 1 1 0) (group 1 1))
    ∷ entry 3 2 1 (Act.Post (mess (msg 1 2 0) Tag.Plain (98 ∷ [])) (Dest.All (group 1 2)))
    ∷ entry 4 1 0 (Act.NoMember (msg 1 2 0) (group 1 2))
    ∷ entry 4 2 1 (Act.Post (mess (msg 1 3 0) Tag.Plain (99 ∷ [])) (Dest.OneAt (group 3 1) 1))
    ∷ entry 5 2 1 (Act.NoMember (msg 1 3 0) (group 3 1))
    ∷ entry 6 2 0 (Act.Heard (msg 1 1 0) A.NoMember)
    ∷ entry 7 2 0 (Act.Heard (msg 1 2 0) A.NoMember)
    ∷ []
no_member_is_reported-says = refl

pub no_member_is_reported-rest : no_member_is_reported.packets ≡ []
no_member_is_reported-rest = refl

-- a copy is told Stale while a direct message to the same port is under way from the same place; the second copy goes behind the
-- first
abbrev stale_copy_beside_a_direct_message-events : List Event
stale_copy_beside_a_direct_message-events =
    Enter (actor 1 1) 0
    ∷ Acts 0 (Command.Make (actor 3 1) 4)
    ∷ Acts 0 (Command.GroupMake 1)
    ∷ Acts 0 (Command.Join (group 1 1) (port 3 1))
    ∷ Enter (actor 2 1) 3
    ∷ Enter (actor 3 1) 3
    ∷ Acts 0 (Command.Send (Dest.All (group 1 1)) (97 ∷ []))
    ∷ Acts 0 (Command.Send (Dest.Port (port 3 1)) (98 ∷ []))
    ∷ Acts 1 (Command.Send (Dest.All (group 1 1)) (99 ∷ []))
    ∷ Deliver 0 2 1
    ∷ Acts 2 (Command.Move (port 3 1) (actor 2 1))
    ∷ Deliver 0 1 3
    ∷ Deliver 0 3 1
    ∷ Deliver 0 3 2
    ∷ Deliver 0 1 2
    ∷ Deliver 0 1 2
    ∷ Deliver 0 1 3
    ∷ Deliver 0 2 1
    ∷ Deliver 0 3 1
    ∷ Deliver 0 1 2
    ∷ Deliver 0 2 1
    ∷ Deliver 0 1 2
    ∷ Deliver 0 2 1
    ∷ Deliver 0 1 2
    ∷ []

abbrev pub stale_copy_beside_a_direct_message : NetState
stale_copy_beside_a_direct_message = ran 3 1 stale_copy_beside_a_direct_message-events

pub stale_copy_beside_a_direct_message-replies : replies 3 1 stale_copy_beside_a_direct_message-events ≡
    (Reply.Made (port 3 1))
    ∷ (Reply.Made (group 1 1))
    ∷ Reply.Joined
    ∷ (Reply.Chosen (msg 0 1 0) 1)
    ∷ (Reply.Posted (msg 0 2 0))
    ∷ (Reply.Posted (msg 1 1 0))
    ∷ (Reply.Departed 1)
    ∷ []
stale_copy_beside_a_direct_message-replies = refl

pub stale_copy_beside_a_direct_message-says : merge stale_copy_beside_a_direct_message ≡
    entry 1 3 0 (Act.Make (port 3 1) (actor 3 1) 4)
    ∷ entry 2 1 0 (Act.GroupMake (group 1 1))
    ∷ entry 3 1 0 (Act.Join (group 1 1) (port 3 1))
    ∷ entry 4 1 0 (Act.Post (mess (msg 0 1 0) Tag.Plain (97 ∷ [])) (Dest.All (group 1 1)))
    ∷ entry 4 2 1 (Act.Post (mess (msg 1 1 0) Tag.Plain (99 ∷ [])) (Dest.All (group 1 1)))
    ∷ entry 4 3 2 (Act.Depart (port 3 1) 2 (actor 2 1) 1)
    ∷ entry 5 1 0 (Act.Choose (msg 0 1 0) (group 1 1) ((port 3 1) ∷ []))
    ∷ entry 6 1 0 (Act.Try (msg 0 1 1) (port 3 1) 3 0)
    ∷ entry 7 1 0 (Act.Post (mess (msg 0 2 0) Tag.Plain (98 ∷ [])) (Dest.Port (port 3 1)))
    ∷ entry 8 1 0 (Act.Try (msg 0 2 0) (port 3 1) 3 0)
    ∷ entry 9 1 0 (Act.Choose (msg 1 1 0) (group 1 1) ((port 3 1) ∷ []))
    ∷ entry 10 3 0 (Act.Stale (msg 0 1 1) (port 3 1) 0 2 1)
    ∷ entry 11 1 0 (Act.Told (msg 0 1 1) (A.Stale 2 1))
    ∷ entry 12 1 0 (Act.Try (msg 0 1 1) (port 3 1) 2 1)
    ∷ entry 13 2 0 (Act.Arrive (port 3 1) 1)
    ∷ entry 14 2 0 (Act.Heard (msg 1 1 0) (A.Chosen 1))
    ∷ entry 15 2 0 (Act.Accept (msg 0 1 1) (port 3 1) 0)
    ∷ entry 16 3 0 (Act.Stale (msg 0 2 0) (port 3 1) 0 2 1)
    ∷ entry 17 1 0 (Act.Told (msg 0 1 1) (A.Accepted 0))
    ∷ entry 18 1 0 (Act.Try (msg 1 1 1) (port 3 1) 2 1)
    ∷ entry 19 1 0 (Act.Told (msg 0 2 0) (A.Stale 2 1))
    ∷ entry 20 1 0 (Act.Try (msg 0 2 0) (port 3 1) 2 1)
    ∷ entry 21 2 0 (Act.Accept (msg 1 1 1) (port 3 1) 1)
    ∷ entry 22 1 0 (Act.Told (msg 1 1 1) (A.Accepted 1))
    ∷ entry 23 2 0 (Act.Accept (msg 0 2 0) (port 3 1) 2)
    ∷ entry 24 1 0 (Act.Told (msg 0 2 0) (A.Accepted 2))
    ∷ entry 25 2 0 (Act.Heard (msg 1 1 1) (A.Accepted 1))
    ∷ []
stale_copy_beside_a_direct_message-says = refl

pub stale_copy_beside_a_direct_message-rest : stale_copy_beside_a_direct_message.packets ≡ []
stale_copy_beside_a_direct_message-rest = refl
