-- Posts to groups: by all members, by one, by one at a site.
use Rattle.std.specs.Prelude.{Some}
use Rattle.std.proofs.Common.{◌≡◌, List, [], ◌∷◌, refl}
use Rattle.chorus_entry.specs.declared.tag.Tag.{Tag}
use Rattle.chorus_entry.specs.declared.dest.Dest.{Dest}
use Rattle.chorus_entry.specs.declared.answer.Answer.TheVariants as A
use Rattle.chorus_entry.specs.declared.act.Act.{Act}
use Rattle.chorus_entry.specs.declared.command.Command.{Command}
use Rattle.chorus_entry.specs.declared.packet.Cargo.{Cargo}
use Rattle.law_machine.specs.declared.reply.Reply.{Reply}
use Rattle.law_network.specs.Network.{NetState, Event, Enter, Act as Acts, Deliver}
use Rattle.law_network.specs.Left.{merge}
use Rattle.law_network.proofs.Examples.Names.{actor, port, group, msg, mess, entry, going, ran, replies}

-- a member before the rotation place leaves, and it moves one back; the last one leaves, and it is the first again
abbrev rotation_moves_back-events : List Event
rotation_moves_back-events =
    Enter (actor 1 1) 0
    ∷ Acts 0 (Command.Make (actor 1 1) 4)
    ∷ Acts 0 (Command.Make (actor 1 1) 4)
    ∷ Acts 0 (Command.Make (actor 1 1) 4)
    ∷ Acts 0 (Command.GroupMake 1)
    ∷ Acts 0 (Command.Join (group 1 1) (port 1 1))
    ∷ Acts 0 (Command.Join (group 1 1) (port 1 2))
    ∷ Acts 0 (Command.Join (group 1 1) (port 1 3))
    ∷ Acts 0 (Command.Send (Dest.One (group 1 1)) (97 ∷ []))
    ∷ Acts 0 (Command.Send (Dest.One (group 1 1)) (98 ∷ []))
    ∷ Acts 0 (Command.Leave (group 1 1) (port 1 1))
    ∷ Acts 0 (Command.Send (Dest.One (group 1 1)) (99 ∷ []))
    ∷ Acts 0 (Command.Send (Dest.One (group 1 1)) (100 ∷ []))
    ∷ Acts 0 (Command.Leave (group 1 1) (port 1 3))
    ∷ Acts 0 (Command.Send (Dest.One (group 1 1)) (101 ∷ []))
    ∷ []

abbrev pub rotation_moves_back : NetState
rotation_moves_back = ran 1 1 rotation_moves_back-events

pub rotation_moves_back-replies : replies 1 1 rotation_moves_back-events ≡
    (Reply.Made (port 1 1))
    ∷ (Reply.Made (port 1 2))
    ∷ (Reply.Made (port 1 3))
    ∷ (Reply.Made (group 1 1))
    ∷ Reply.Joined
    ∷ Reply.Joined
    ∷ Reply.Joined
    ∷ (Reply.Chosen (msg 0 1 0) 1)
    ∷ (Reply.Chosen (msg 0 2 0) 1)
    ∷ Reply.Left
    ∷ (Reply.Chosen (msg 0 3 0) 1)
    ∷ (Reply.Chosen (msg 0 4 0) 1)
    ∷ Reply.Left
    ∷ (Reply.Chosen (msg 0 5 0) 1)
    ∷ []
rotation_moves_back-replies = refl

pub rotation_moves_back-says : merge rotation_moves_back ≡
    entry 1 1 0 (Act.Make (port 1 1) (actor 1 1) 4)
    ∷ entry 2 1 0 (Act.Make (port 1 2) (actor 1 1) 4)
    ∷ entry 3 1 0 (Act.Make (port 1 3) (actor 1 1) 4)
    ∷ entry 4 1 0 (Act.GroupMake (group 1 1))
    ∷ entry 5 1 0 (Act.Join (group 1 1) (port 1 1))
    ∷ entry 6 1 0 (Act.Join (group 1 1) (port 1 2))
    ∷ entry 7 1 0 (Act.Join (group 1 1) (port 1 3))
    ∷ entry 8 1 0 (Act.Post (mess (msg 0 1 0) Tag.Plain (97 ∷ [])) (Dest.One (group 1 1)))
    ∷ entry 9 1 0 (Act.Choose (msg 0 1 0) (group 1 1) ((port 1 1) ∷ []))
    ∷ entry 10 1 0 (Act.Accept (msg 0 1 1) (port 1 1) 0)
    ∷ entry 11 1 0 (Act.Post (mess (msg 0 2 0) Tag.Plain (98 ∷ [])) (Dest.One (group 1 1)))
    ∷ entry 12 1 0 (Act.Choose (msg 0 2 0) (group 1 1) ((port 1 2) ∷ []))
    ∷ entry 13 1 0 (Act.Accept (msg 0 2 1) (port 1 2) 0)
    ∷ entry 14 1 0 (Act.Leave (group 1 1) (port 1 1))
    ∷ entry 15 1 0 (Act.Post (mess (msg 0 3 0) Tag.Plain (99 ∷ [])) (Dest.One (group 1 1)))
    ∷ entry 16 1 0 (Act.Choose (msg 0 3 0) (group 1 1) ((port 1 3) ∷ []))
    ∷ entry 17 1 0 (Act.Accept (msg 0 3 1) (port 1 3) 0)
    ∷ entry 18 1 0 (Act.Post (mess (msg 0 4 0) Tag.Plain (100 ∷ [])) (Dest.One (group 1 1)))
    ∷ entry 19 1 0 (Act.Choose (msg 0 4 0) (group 1 1) ((port 1 2) ∷ []))
    ∷ entry 20 1 0 (Act.Accept (msg 0 4 1) (port 1 2) 1)
    ∷ entry 21 1 0 (Act.Leave (group 1 1) (port 1 3))
    ∷ entry 22 1 0 (Act.Post (mess (msg 0 5 0) Tag.Plain (101 ∷ [])) (Dest.One (group 1 1)))
    ∷ entry 23 1 0 (Act.Choose (msg 0 5 0) (group 1 1) ((port 1 2) ∷ []))
    ∷ entry 24 1 0 (Act.Accept (msg 0 5 1) (port 1 2) 2)
    ∷ []
rotation_moves_back-says = refl

pub rotation_moves_back-rest : rotation_moves_back.packets ≡ []
rotation_moves_back-rest = refl

-- a second message for the site goes on behind the first, and is elsewhere where it waits
abbrev next_at_the_site_is_elsewhere-events : List Event
next_at_the_site_is_elsewhere-events =
    Enter (actor 1 1) 0
    ∷ Acts 0 (Command.Make (actor 2 1) 4)
    ∷ Acts 0 (Command.GroupMake 1)
    ∷ Acts 0 (Command.Join (group 1 1) (port 2 1))
    ∷ Enter (actor 1 1) 3
    ∷ Enter (actor 2 1) 3
    ∷ Acts 1 (Command.Send (Dest.OneAt (group 1 1) 2) (120 ∷ []))
    ∷ Acts 1 (Command.Send (Dest.OneAt (group 1 1) 2) (121 ∷ []))
    ∷ Acts 2 (Command.Move (port 2 1) (actor 1 1))
    ∷ Deliver 0 2 1
    ∷ Deliver 0 1 2
    ∷ Deliver 0 2 1
    ∷ []

abbrev pub next_at_the_site_is_elsewhere : NetState
next_at_the_site_is_elsewhere = ran 2 1 next_at_the_site_is_elsewhere-events

pub next_at_the_site_is_elsewhere-replies : replies 2 1 next_at_the_site_is_elsewhere-events ≡
    (Reply.Made (port 2 1))
    ∷ (Reply.Made (group 1 1))
    ∷ Reply.Joined
    ∷ (Reply.Chosen (msg 1 1 0) 1)
    ∷ (Reply.Chosen (msg 1 2 0) 1)
    ∷ (Reply.Departed 1)
    ∷ []
next_at_the_site_is_elsewhere-replies = refl

pub next_at_the_site_is_elsewhere-says : merge next_at_the_site_is_elsewhere ≡
    entry 1 2 0 (Act.Make (port 2 1) (actor 2 1) 4)
    ∷ entry 2 1 0 (Act.GroupMake (group 1 1))
    ∷ entry 3 1 0 (Act.Join (group 1 1) (port 2 1))
    ∷ entry 4 1 1 (Act.Post (mess (msg 1 1 0) Tag.Plain (120 ∷ [])) (Dest.OneAt (group 1 1) 2))
    ∷ entry 4 2 2 (Act.Depart (port 2 1) 1 (actor 1 1) 1)
    ∷ entry 5 1 1 (Act.Choose (msg 1 1 0) (group 1 1) ((port 2 1) ∷ []))
    ∷ entry 6 1 1 (Act.Try (msg 1 1 1) (port 2 1) 2 0)
    ∷ entry 7 1 1 (Act.Post (mess (msg 1 2 0) Tag.Plain (121 ∷ [])) (Dest.OneAt (group 1 1) 2))
    ∷ entry 8 1 1 (Act.Choose (msg 1 2 0) (group 1 1) ((port 2 1) ∷ []))
    ∷ entry 9 1 0 (Act.Arrive (port 2 1) 1)
    ∷ entry 10 2 0 (Act.Elsewhere (msg 1 1 1) (port 2 1) 1 1)
    ∷ entry 11 1 0 (Act.Told (msg 1 1 1) (A.Elsewhere 1 1))
    ∷ entry 12 1 0 (Act.Elsewhere (msg 1 2 1) (port 2 1) 1 1)
    ∷ []
next_at_the_site_is_elsewhere-says = refl

pub next_at_the_site_is_elsewhere-rest : next_at_the_site_is_elsewhere.packets ≡ []
next_at_the_site_is_elsewhere-rest = refl

-- the first member in turn that is at the site is chosen, where members have moved; none is at site 3
abbrev first_at_the_site-events : List Event
first_at_the_site-events =
    Enter (actor 1 1) 0
    ∷ Acts 0 (Command.Make (actor 1 1) 4)
    ∷ Acts 0 (Command.Make (actor 2 1) 4)
    ∷ Acts 0 (Command.Make (actor 1 1) 4)
    ∷ Acts 0 (Command.GroupMake 1)
    ∷ Acts 0 (Command.Join (group 1 1) (port 1 1))
    ∷ Acts 0 (Command.Join (group 1 1) (port 2 1))
    ∷ Acts 0 (Command.Join (group 1 1) (port 1 2))
    ∷ Acts 0 (Command.Move (port 1 1) (actor 2 1))
    ∷ Deliver 0 1 2
    ∷ Acts 0 (Command.Send (Dest.OneAt (group 1 1) 2) (97 ∷ []))
    ∷ Acts 0 (Command.Send (Dest.OneAt (group 1 1) 2) (98 ∷ []))
    ∷ Acts 0 (Command.Send (Dest.OneAt (group 1 1) 1) (99 ∷ []))
    ∷ Acts 0 (Command.Send (Dest.OneAt (group 1 1) 3) (100 ∷ []))
    ∷ Deliver 0 1 2
    ∷ []

abbrev pub first_at_the_site : NetState
first_at_the_site = ran 3 1 first_at_the_site-events

pub first_at_the_site-replies : replies 3 1 first_at_the_site-events ≡
    (Reply.Made (port 1 1))
    ∷ (Reply.Made (port 2 1))
    ∷ (Reply.Made (port 1 2))
    ∷ (Reply.Made (group 1 1))
    ∷ Reply.Joined
    ∷ Reply.Joined
    ∷ Reply.Joined
    ∷ (Reply.Departed 1)
    ∷ (Reply.Chosen (msg 0 1 0) 1)
    ∷ (Reply.Chosen (msg 0 2 0) 1)
    ∷ (Reply.Chosen (msg 0 3 0) 1)
    ∷ (Reply.NoMember (msg 0 4 0))
    ∷ []
first_at_the_site-replies = refl

pub first_at_the_site-says : merge first_at_the_site ≡
    entry 1 1 0 (Act.Make (port 1 1) (actor 1 1) 4)
    ∷ entry 2 2 0 (Act.Make (port 2 1) (actor 2 1) 4)
    ∷ entry 3 1 0 (Act.Make (port 1 2) (actor 1 1) 4)
    ∷ entry 4 1 0 (Act.GroupMake (group 1 1))
    ∷ entry 5 1 0 (Act.Join (group 1 1) (port 1 1))
    ∷ entry 6 1 0 (Act.Join (group 1 1) (port 2 1))
    ∷ entry 7 1 0 (Act.Join (group 1 1) (port 1 2))
    ∷ entry 8 1 0 (Act.Depart (port 1 1) 2 (actor 2 1) 1)
    ∷ entry 9 2 0 (Act.Arrive (port 1 1) 1)
    ∷ entry 10 1 0 (Act.Post (mess (msg 0 1 0) Tag.Plain (97 ∷ [])) (Dest.OneAt (group 1 1) 2))
    ∷ entry 11 1 0 (Act.Choose (msg 0 1 0) (group 1 1) ((port 1 1) ∷ []))
    ∷ entry 12 1 0 (Act.Try (msg 0 1 1) (port 1 1) 2 1)
    ∷ entry 13 1 0 (Act.Post (mess (msg 0 2 0) Tag.Plain (98 ∷ [])) (Dest.OneAt (group 1 1) 2))
    ∷ entry 14 1 0 (Act.Choose (msg 0 2 0) (group 1 1) ((port 2 1) ∷ []))
    ∷ entry 15 1 0 (Act.Try (msg 0 2 1) (port 2 1) 2 0)
    ∷ entry 16 1 0 (Act.Post (mess (msg 0 3 0) Tag.Plain (99 ∷ [])) (Dest.OneAt (group 1 1) 1))
    ∷ entry 17 1 0 (Act.Choose (msg 0 3 0) (group 1 1) ((port 1 2) ∷ []))
    ∷ entry 18 1 0 (Act.Accept (msg 0 3 1) (port 1 2) 0)
    ∷ entry 19 1 0 (Act.Post (mess (msg 0 4 0) Tag.Plain (100 ∷ [])) (Dest.OneAt (group 1 1) 3))
    ∷ entry 20 1 0 (Act.NoMember (msg 0 4 0) (group 1 1))
    ∷ entry 21 2 0 (Act.Accept (msg 0 1 1) (port 1 1) 0)
    ∷ []
first_at_the_site-says = refl

pub first_at_the_site-rest : first_at_the_site.packets ≡
    going 1 2 15 (Cargo.Try (mess (msg 0 2 1) Tag.Plain (98 ∷ [])) (port 2 1) (Some (group 1 1)) (Some 2) 0)
    ∷ going 2 1 21 (Cargo.Verdict (msg 0 1 1) (port 1 1) (Some (group 1 1)) (A.Accepted 0))
    ∷ []
first_at_the_site-rest = refl

-- the place that is told Elsewhere sends the next message to the port there
abbrev elsewhere_is_learned-events : List Event
elsewhere_is_learned-events =
    Enter (actor 1 1) 0
    ∷ Acts 0 (Command.Make (actor 2 1) 4)
    ∷ Acts 0 (Command.GroupMake 1)
    ∷ Acts 0 (Command.Join (group 1 1) (port 2 1))
    ∷ Enter (actor 2 1) 3
    ∷ Acts 0 (Command.Send (Dest.OneAt (group 1 1) 2) (120 ∷ []))
    ∷ Acts 1 (Command.Move (port 2 1) (actor 3 1))
    ∷ Deliver 0 1 2
    ∷ Deliver 0 2 1
    ∷ Acts 0 (Command.Send (Dest.Port (port 2 1)) (121 ∷ []))
    ∷ Deliver 0 2 3
    ∷ Deliver 0 1 3
    ∷ Deliver 0 3 1
    ∷ []

abbrev pub elsewhere_is_learned : NetState
elsewhere_is_learned = ran 3 1 elsewhere_is_learned-events

pub elsewhere_is_learned-replies : replies 3 1 elsewhere_is_learned-events ≡
    (Reply.Made (port 2 1))
    ∷ (Reply.Made (group 1 1))
    ∷ Reply.Joined
    ∷ (Reply.Chosen (msg 0 1 0) 1)
    ∷ (Reply.Departed 1)
    ∷ (Reply.Posted (msg 0 2 0))
    ∷ []
elsewhere_is_learned-replies = refl

pub elsewhere_is_learned-says : merge elsewhere_is_learned ≡
    entry 1 2 0 (Act.Make (port 2 1) (actor 2 1) 4)
    ∷ entry 2 1 0 (Act.GroupMake (group 1 1))
    ∷ entry 3 1 0 (Act.Join (group 1 1) (port 2 1))
    ∷ entry 4 1 0 (Act.Post (mess (msg 0 1 0) Tag.Plain (120 ∷ [])) (Dest.OneAt (group 1 1) 2))
    ∷ entry 4 2 1 (Act.Depart (port 2 1) 3 (actor 3 1) 1)
    ∷ entry 5 1 0 (Act.Choose (msg 0 1 0) (group 1 1) ((port 2 1) ∷ []))
    ∷ entry 6 1 0 (Act.Try (msg 0 1 1) (port 2 1) 2 0)
    ∷ entry 7 2 0 (Act.Elsewhere (msg 0 1 1) (port 2 1) 3 1)
    ∷ entry 8 1 0 (Act.Told (msg 0 1 1) (A.Elsewhere 3 1))
    ∷ entry 9 1 0 (Act.Post (mess (msg 0 2 0) Tag.Plain (121 ∷ [])) (Dest.Port (port 2 1)))
    ∷ entry 10 1 0 (Act.Try (msg 0 2 0) (port 2 1) 3 1)
    ∷ entry 11 3 0 (Act.Arrive (port 2 1) 1)
    ∷ entry 12 3 0 (Act.Accept (msg 0 2 0) (port 2 1) 0)
    ∷ entry 13 1 0 (Act.Told (msg 0 2 0) (A.Accepted 0))
    ∷ []
elsewhere_is_learned-says = refl

pub elsewhere_is_learned-rest : elsewhere_is_learned.packets ≡ []
elsewhere_is_learned-rest = refl

-- the member at the rotation place leaves: the next one has its place; the rotation place at the end is the first again at once
abbrev rotation_place_stays-events : List Event
rotation_place_stays-events =
    Enter (actor 1 1) 0
    ∷ Acts 0 (Command.Make (actor 1 1) 4)
    ∷ Acts 0 (Command.Make (actor 1 1) 4)
    ∷ Acts 0 (Command.Make (actor 1 1) 4)
    ∷ Acts 0 (Command.GroupMake 1)
    ∷ Acts 0 (Command.Join (group 1 1) (port 1 1))
    ∷ Acts 0 (Command.Join (group 1 1) (port 1 2))
    ∷ Acts 0 (Command.Join (group 1 1) (port 1 3))
    ∷ Acts 0 (Command.Send (Dest.One (group 1 1)) (97 ∷ []))
    ∷ Acts 0 (Command.Leave (group 1 1) (port 1 2))
    ∷ Acts 0 (Command.Send (Dest.One (group 1 1)) (98 ∷ []))
    ∷ Acts 0 (Command.Send (Dest.One (group 1 1)) (99 ∷ []))
    ∷ Acts 0 (Command.Leave (group 1 1) (port 1 3))
    ∷ Acts 0 (Command.Join (group 1 1) (port 1 2))
    ∷ Acts 0 (Command.Send (Dest.One (group 1 1)) (100 ∷ []))
    ∷ []

abbrev pub rotation_place_stays : NetState
rotation_place_stays = ran 1 1 rotation_place_stays-events

pub rotation_place_stays-replies : replies 1 1 rotation_place_stays-events ≡
    (Reply.Made (port 1 1))
    ∷ (Reply.Made (port 1 2))
    ∷ (Reply.Made (port 1 3))
    ∷ (Reply.Made (group 1 1))
    ∷ Reply.Joined
    ∷ Reply.Joined
    ∷ Reply.Joined
    ∷ (Reply.Chosen (msg 0 1 0) 1)
    ∷ Reply.Left
    ∷ (Reply.Chosen (msg 0 2 0) 1)
    ∷ (Reply.Chosen (msg 0 3 0) 1)
    ∷ Reply.Left
    ∷ Reply.Joined
    ∷ (Reply.Chosen (msg 0 4 0) 1)
    ∷ []
rotation_place_stays-replies = refl

pub rotation_place_stays-says : merge rotation_place_stays ≡
    entry 1 1 0 (Act.Make (port 1 1) (actor 1 1) 4)
    ∷ entry 2 1 0 (Act.Make (port 1 2) (actor 1 1) 4)
    ∷ entry 3 1 0 (Act.Make (port 1 3) (actor 1 1) 4)
    ∷ entry 4 1 0 (Act.GroupMake (group 1 1))
    ∷ entry 5 1 0 (Act.Join (group 1 1) (port 1 1))
    ∷ entry 6 1 0 (Act.Join (group 1 1) (port 1 2))
    ∷ entry 7 1 0 (Act.Join (group 1 1) (port 1 3))
    ∷ entry 8 1 0 (Act.Post (mess (msg 0 1 0) Tag.Plain (97 ∷ [])) (Dest.One (group 1 1)))
    ∷ entry 9 1 0 (Act.Choose (msg 0 1 0) (group 1 1) ((port 1 1) ∷ []))
    ∷ entry 10 1 0 (Act.Accept (msg 0 1 1) (port 1 1) 0)
    ∷ entry 11 1 0 (Act.Leave (group 1 1) (port 1 2))
    ∷ entry 12 1 0 (Act.Post (mess (msg 0 2 0) Tag.Plain (98 ∷ [])) (Dest.One (group 1 1)))
    ∷ entry 13 1 0 (Act.Choose (msg 0 2 0) (group 1 1) ((port 1 3) ∷ []))
    ∷ entry 14 1 0 (Act.Accept (msg 0 2 1) (port 1 3) 0)
    ∷ entry 15 1 0 (Act.Post (mess (msg 0 3 0) Tag.Plain (99 ∷ [])) (Dest.One (group 1 1)))
    ∷ entry 16 1 0 (Act.Choose (msg 0 3 0) (group 1 1) ((port 1 1) ∷ []))
    ∷ entry 17 1 0 (Act.Accept (msg 0 3 1) (port 1 1) 1)
    ∷ entry 18 1 0 (Act.Leave (group 1 1) (port 1 3))
    ∷ entry 19 1 0 (Act.Join (group 1 1) (port 1 2))
    ∷ entry 20 1 0 (Act.Post (mess (msg 0 4 0) Tag.Plain (100 ∷ [])) (Dest.One (group 1 1)))
    ∷ entry 21 1 0 (Act.Choose (msg 0 4 0) (group 1 1) ((port 1 1) ∷ []))
    ∷ entry 22 1 0 (Act.Accept (msg 0 4 1) (port 1 1) 2)
    ∷ []
rotation_place_stays-says = refl

pub rotation_place_stays-rest : rotation_place_stays.packets ≡ []
rotation_place_stays-rest = refl
