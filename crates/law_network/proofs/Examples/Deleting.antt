-- A port is deleted, with what waits in it.
use Rattle.std.proofs.Common.{◌≡◌, List, [], ◌∷◌, refl}
use Rattle.chorus_entry.specs.declared.tag.Tag.{Tag}
use Rattle.chorus_entry.specs.declared.dest.Dest.{Dest}
use Rattle.chorus_entry.specs.declared.act.Act.{Act}
use Rattle.chorus_entry.specs.declared.command.Command.{Command}
use Rattle.law_machine.specs.declared.reply.Reply.{Reply}
use Rattle.law_network.specs.Network.{NetState, Event, Enter, Act as Acts}
use Rattle.law_network.specs.Left.{merge}
use Rattle.law_network.proofs.Examples.Names.{actor, port, group, msg, mess, entry, ran, replies}

-- a deleted port stays a member of its groups, and counts as made: the next name is another one
abbrev deleted_member_stays-events : List Event
deleted_member_stays-events =
    Enter (actor 1 1) 0
    ∷ Acts 0 (Command.Make (actor 1 1) 2)
    ∷ Acts 0 (Command.GroupMake 1)
    ∷ Acts 0 (Command.Join (group 1 1) (port 1 1))
    ∷ Acts 0 (Command.Delete (port 1 1))
    ∷ Acts 0 (Command.Send (Dest.All (group 1 1)) (97 ∷ []))
    ∷ Acts 0 (Command.Make (actor 1 1) 2)
    ∷ []

abbrev pub deleted_member_stays : NetState
deleted_member_stays = ran 1 1 deleted_member_stays-events

pub deleted_member_stays-replies : replies 1 1 deleted_member_stays-events ≡
    (Reply.Made (port 1 1))
    ∷ (Reply.Made (group 1 1))
    ∷ Reply.Joined
    ∷ (Reply.Deleted 0)
    ∷ (Reply.Chosen (msg 0 1 0) 1)
    ∷ (Reply.Made (port 1 2))
    ∷ []
deleted_member_stays-replies = refl

pub deleted_member_stays-says : merge deleted_member_stays ≡
    entry 1 1 0 (Act.Make (port 1 1) (actor 1 1) 2)
    ∷ entry 2 1 0 (Act.GroupMake (group 1 1))
    ∷ entry 3 1 0 (Act.Join (group 1 1) (port 1 1))
    ∷ entry 4 1 0 (Act.Delete (port 1 1) [])
    ∷ entry 5 1 0 (Act.Post (mess (msg 0 1 0) Tag.Plain (97 ∷ [])) (Dest.All (group 1 1)))
    ∷ entry 6 1 0 (Act.Choose (msg 0 1 0) (group 1 1) ((port 1 1) ∷ []))
    ∷ entry 7 1 0 (Act.Gone (msg 0 1 1) (port 1 1))
    ∷ entry 8 1 0 (Act.Make (port 1 2) (actor 1 1) 2)
    ∷ []
deleted_member_stays-says = refl

pub deleted_member_stays-rest : deleted_member_stays.packets ≡ []
deleted_member_stays-rest = refl
