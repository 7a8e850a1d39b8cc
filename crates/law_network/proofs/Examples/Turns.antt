-- Sites of several places.
use Rattle.std.proofs.Common.{◌≡◌, List, [], ◌∷◌, refl}
use Rattle.chorus_entry.specs.declared.tag.Tag.{Tag}
use Rattle.chorus_entry.specs.declared.dest.Dest.{Dest}
use Rattle.chorus_entry.specs.declared.answer.Answer.TheVariants as A
use Rattle.chorus_entry.specs.declared.act.Act.{Act}
use Rattle.chorus_entry.specs.declared.command.Command.{Command}
use Rattle.law_machine.specs.declared.reply.Reply.{Reply}
use Rattle.law_network.specs.Network.{NetState, Event, Enter, Act as Acts, Deliver}
use Rattle.law_network.specs.Left.{merge, placed}
use Rattle.law_network.proofs.Examples.Names.{actor, port, group, msg, mess, rec, entry, held, ran, replies}

-- the group stands at the first place of its site: a post of the second place asks for it, and hears
abbrev group_at_the_first_place-events : List Event
group_at_the_first_place-events =
    Enter (actor 1 1) 0
    ∷ Acts 0 (Command.Make (actor 1 1) 2)
    ∷ Acts 0 (Command.Make (actor 1 2) 2)
    ∷ Acts 0 (Command.GroupMake 1)
    ∷ Acts 0 (Command.Join (group 1 1) (port 1 2))
    ∷ Acts 0 (Command.Join (group 1 1) (port 1 1))
    ∷ Enter (actor 1 2) 5
    ∷ Acts 1 (Command.Send (Dest.OneAt (group 1 1) 1) (120 ∷ []))
    ∷ Acts 1 (Command.Send (Dest.All (group 1 1)) (121 ∷ []))
    ∷ Deliver 0 2 1
    ∷ Deliver 0 1 2
    ∷ Deliver 0 2 1
    ∷ Deliver 0 1 2
    ∷ Deliver 0 2 1
    ∷ Deliver 0 1 2
    ∷ Deliver 0 1 2
    ∷ Deliver 0 1 2
    ∷ Deliver 0 1 2
    ∷ Deliver 0 2 1
    ∷ Deliver 0 1 2
    ∷ []

abbrev pub group_at_the_first_place : NetState
group_at_the_first_place = ran 1 2 group_at_the_first_place-events

pub group_at_the_first_place-replies : replies 1 2 group_at_the_first_place-events ≡
    (Reply.Made (port 1 1))
    ∷ (Reply.Made (port 1 2))
    ∷ (Reply.Made (group 1 1))
    ∷ Reply.Joined
    ∷ Reply.Joined
    ∷ (Reply.Posted (msg 1 1 0))
    ∷ (Reply.Posted (msg 1 2 0))
    ∷ []
group_at_the_first_place-replies = refl

pub group_at_the_first_place-says : merge group_at_the_first_place ≡
    entry 1 1 0 (Act.Make (port 1 1) (actor 1 1) 2)
    ∷ entry 2 2 0 (Act.Make (port 1 2) (actor 1 2) 2)
    ∷ entry 3 1 0 (Act.GroupMake (group 1 1))
    ∷ entry 4 1 0 (Act.Join (group 1 1) (port 1 2))
    ∷ entry 5 1 0 (Act.Join (group 1 1) (port 1 1))
    ∷ entry 6 2 1 (Act.Post (mess (msg 1 1 0) Tag.Plain (120 ∷ [])) (Dest.OneAt (group 1 1) 1))
    ∷ entry 7 1 0 (Act.Choose (msg 1 1 0) (group 1 1) ((port 1 2) ∷ []))
    ∷ entry 7 2 1 (Act.Post (mess (msg 1 2 0) Tag.Plain (121 ∷ [])) (Dest.All (group 1 1)))
    ∷ entry 8 1 0 (Act.Try (msg 1 1 1) (port 1 2) 2 0)
    ∷ entry 9 2 0 (Act.Heard (msg 1 1 0) (A.Chosen 1))
    ∷ entry 10 1 0 (Act.Choose (msg 1 2 0) (group 1 1) ((port 1 2) ∷ (port 1 1) ∷ []))
    ∷ entry 11 1 0 (Act.Accept (msg 1 2 2) (port 1 1) 0)
    ∷ entry 12 2 0 (Act.Accept (msg 1 1 1) (port 1 2) 0)
    ∷ entry 13 1 0 (Act.Told (msg 1 1 1) (A.Accepted 0))
    ∷ entry 14 1 0 (Act.Try (msg 1 2 1) (port 1 2) 2 0)
    ∷ entry 15 2 0 (Act.Heard (msg 1 2 0) (A.Chosen 2))
    ∷ entry 16 2 0 (Act.Heard (msg 1 2 2) (A.Accepted 0))
    ∷ entry 17 2 0 (Act.Heard (msg 1 1 1) (A.Accepted 0))
    ∷ entry 18 2 0 (Act.Accept (msg 1 2 1) (port 1 2) 1)
    ∷ entry 19 1 0 (Act.Told (msg 1 2 1) (A.Accepted 1))
    ∷ entry 20 2 0 (Act.Heard (msg 1 2 1) (A.Accepted 1))
    ∷ []
group_at_the_first_place-says = refl

pub group_at_the_first_place-rest : group_at_the_first_place.packets ≡ []
group_at_the_first_place-rest = refl

-- places 2 and 6 make the second ports of their sites, and then the sixth; a port goes to the place of its number on the other
-- site
abbrev four_turns_per_site-events : List Event
four_turns_per_site-events =
    Enter (actor 1 1) 0
    ∷ Enter (actor 2 2) 0
    ∷ Acts 0 (Command.Make (actor 1 2) 1)
    ∷ Acts 1 (Command.Make (actor 2 2) 1)
    ∷ Acts 0 (Command.Make (actor 1 2) 1)
    ∷ Acts 1 (Command.Move (port 2 2) (actor 1 2))
    ∷ Deliver 0 6 2
    ∷ Acts 0 (Command.Send (Dest.Port (port 2 2)) (120 ∷ []))
    ∷ Deliver 0 1 6
    ∷ Deliver 0 6 1
    ∷ Deliver 0 1 2
    ∷ Deliver 0 2 1
    ∷ []

abbrev pub four_turns_per_site : NetState
four_turns_per_site = ran 2 4 four_turns_per_site-events

pub four_turns_per_site-replies : replies 2 4 four_turns_per_site-events ≡
    (Reply.Made (port 1 2))
    ∷ (Reply.Made (port 2 2))
    ∷ (Reply.Made (port 1 6))
    ∷ (Reply.Departed 1)
    ∷ (Reply.Posted (msg 0 1 0))
    ∷ []
four_turns_per_site-replies = refl

pub four_turns_per_site-says : merge four_turns_per_site ≡
    entry 1 2 0 (Act.Make (port 1 2) (actor 1 2) 1)
    ∷ entry 1 6 1 (Act.Make (port 2 2) (actor 2 2) 1)
    ∷ entry 2 2 0 (Act.Make (port 1 6) (actor 1 2) 1)
    ∷ entry 2 6 1 (Act.Depart (port 2 2) 2 (actor 1 2) 1)
    ∷ entry 3 2 0 (Act.Arrive (port 2 2) 1)
    ∷ entry 4 1 0 (Act.Post (mess (msg 0 1 0) Tag.Plain (120 ∷ [])) (Dest.Port (port 2 2)))
    ∷ entry 5 1 0 (Act.Try (msg 0 1 0) (port 2 2) 6 0)
    ∷ entry 6 6 0 (Act.Stale (msg 0 1 0) (port 2 2) 0 2 1)
    ∷ entry 7 1 0 (Act.Told (msg 0 1 0) (A.Stale 2 1))
    ∷ entry 8 1 0 (Act.Try (msg 0 1 0) (port 2 2) 2 1)
    ∷ entry 9 2 0 (Act.Accept (msg 0 1 0) (port 2 2) 0)
    ∷ entry 10 1 0 (Act.Told (msg 0 1 0) (A.Accepted 0))
    ∷ []
four_turns_per_site-says = refl

pub four_turns_per_site-rest : four_turns_per_site.packets ≡ []
four_turns_per_site-rest = refl

pub four_turns_per_site-holds : placed four_turns_per_site ≡
    held 2 (rec (port 1 2) (actor 1 2) 1 0 0 [] [])
    ∷ held 2 (rec (port 1 6) (actor 1 2) 1 0 0 [] [])
    ∷ held 2 (rec (port 2 2) (actor 1 2) 1 1 0 ((mess (msg 0 1 0) Tag.Plain (120 ∷ [])) ∷ []) [])
    ∷ []
four_turns_per_site-holds = refl
