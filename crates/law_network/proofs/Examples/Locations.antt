-- What places learn of where ports are, and what they answer by it.
use Rattle.std.proofs.Common.{◌≡◌, List, [], ◌∷◌, refl}
use Rattle.chorus_entry.specs.declared.tag.Tag.{Tag}
use Rattle.chorus_entry.specs.declared.dest.Dest.{Dest}
use Rattle.chorus_entry.specs.declared.answer.Answer.TheVariants as A
use Rattle.chorus_entry.specs.declared.act.Act.{Act}
use Rattle.chorus_entry.specs.declared.command.Command.{Command}
use Rattle.chorus_entry.specs.declared.packet.Cargo.{Cargo}
use Rattle.law_machine.specs.declared.reply.Reply.{Reply}
use Rattle.law_network.specs.Network.{NetState, Event, Enter, Act as Acts, Deliver}
use Rattle.law_network.specs.Left.{merge, placed}
use Rattle.law_network.proofs.Examples.Names.{actor, port, msg, mess, rec, entry, going, held, ran, replies}

-- three messages wait where the port arrives: the first is told Stale and decided there, and the others go on behind it
abbrev port_comes_where_messages_wait-events : List Event
port_comes_where_messages_wait-events =
    Enter (actor 1 1) 0
    ∷ Acts 0 (Command.Make (actor 2 1) 2)
    ∷ Enter (actor 1 1) 1
    ∷ Enter (actor 2 1) 1
    ∷ Acts 1 (Command.Send (Dest.Port (port 2 1)) (97 ∷ []))
    ∷ Acts 1 (Command.Send (Dest.Port (port 2 1)) (98 ∷ []))
    ∷ Acts 1 (Command.Send (Dest.Port (port 2 1)) (99 ∷ []))
    ∷ Acts 2 (Command.Move (port 2 1) (actor 1 2))
    ∷ Deliver 0 1 2
    ∷ Deliver 0 2 1
    ∷ Deliver 0 2 1
    ∷ []

abbrev pub port_comes_where_messages_wait : NetState
port_comes_where_messages_wait = ran 2 1 port_comes_where_messages_wait-events

pub port_comes_where_messages_wait-replies : replies 2 1 port_comes_where_messages_wait-events ≡
    (Reply.Made (port 2 1))
    ∷ (Reply.Posted (msg 1 1 0))
    ∷ (Reply.Posted (msg 1 2 0))
    ∷ (Reply.Posted (msg 1 3 0))
    ∷ (Reply.Departed 1)
    ∷ []
port_comes_where_messages_wait-replies = refl

pub port_comes_where_messages_wait-says : merge port_comes_where_messages_wait ≡
    entry 1 2 0 (Act.Make (port 2 1) (actor 2 1) 2)
    ∷ entry 2 1 1 (Act.Post (mess (msg 1 1 0) Tag.Plain (97 ∷ [])) (Dest.Port (port 2 1)))
    ∷ entry 2 2 2 (Act.Depart (port 2 1) 1 (actor 1 2) 1)
    ∷ entry 3 1 1 (Act.Try (msg 1 1 0) (port 2 1) 2 0)
    ∷ entry 4 1 1 (Act.Post (mess (msg 1 2 0) Tag.Plain (98 ∷ [])) (Dest.Port (port 2 1)))
    ∷ entry 4 2 0 (Act.Stale (msg 1 1 0) (port 2 1) 0 1 1)
    ∷ entry 5 1 1 (Act.Post (mess (msg 1 3 0) Tag.Plain (99 ∷ [])) (Dest.Port (port 2 1)))
    ∷ entry 6 1 0 (Act.Arrive (port 2 1) 1)
    ∷ entry 7 1 0 (Act.Told (msg 1 1 0) (A.Stale 1 1))
    ∷ entry 8 1 0 (Act.Accept (msg 1 1 0) (port 2 1) 0)
    ∷ entry 9 1 0 (Act.Accept (msg 1 2 0) (port 2 1) 1)
    ∷ entry 10 1 0 (Act.Full (msg 1 3 0) (port 2 1) 2)
    ∷ []
port_comes_where_messages_wait-says = refl

pub port_comes_where_messages_wait-rest : port_comes_where_messages_wait.packets ≡ []
port_comes_where_messages_wait-rest = refl

pub port_comes_where_messages_wait-holds : placed port_comes_where_messages_wait ≡
    held 1 (rec (port 2 1) (actor 1 2) 2 1 0 ((mess (msg 1 1 0) Tag.Plain (97 ∷ [])) ∷ (mess (msg 1 2 0) Tag.Plain (98 ∷ [])) ∷ []) [])
    ∷ []
port_comes_where_messages_wait-holds = refl

-- a place holds two ports: one comes last in its table, the other leaves it
abbrev second_in_the_table-events : List Event
second_in_the_table-events =
    Enter (actor 1 1) 0
    ∷ Acts 0 (Command.Make (actor 1 1) 2)
    ∷ Acts 0 (Command.Make (actor 1 1) 3)
    ∷ Acts 0 (Command.Make (actor 2 1) 4)
    ∷ Enter (actor 2 1) 3
    ∷ Acts 1 (Command.Move (port 2 1) (actor 1 1))
    ∷ Deliver 0 2 1
    ∷ Acts 0 (Command.Move (port 1 1) (actor 2 1))
    ∷ []

abbrev pub second_in_the_table : NetState
second_in_the_table = ran 2 1 second_in_the_table-events

pub second_in_the_table-replies : replies 2 1 second_in_the_table-events ≡
    (Reply.Made (port 1 1))
    ∷ (Reply.Made (port 1 2))
    ∷ (Reply.Made (port 2 1))
    ∷ (Reply.Departed 1)
    ∷ (Reply.Departed 1)
    ∷ []
second_in_the_table-replies = refl

pub second_in_the_table-says : merge second_in_the_table ≡
    entry 1 1 0 (Act.Make (port 1 1) (actor 1 1) 2)
    ∷ entry 2 1 0 (Act.Make (port 1 2) (actor 1 1) 3)
    ∷ entry 3 2 0 (Act.Make (port 2 1) (actor 2 1) 4)
    ∷ entry 4 2 1 (Act.Depart (port 2 1) 1 (actor 1 1) 1)
    ∷ entry 5 1 0 (Act.Arrive (port 2 1) 1)
    ∷ entry 6 1 0 (Act.Depart (port 1 1) 2 (actor 2 1) 1)
    ∷ []
second_in_the_table-says = refl

pub second_in_the_table-rest : second_in_the_table.packets ≡
    going 1 2 6 (Cargo.Transfer (rec (port 1 1) (actor 2 1) 2 1 0 [] []))
    ∷ []
second_in_the_table-rest = refl

pub second_in_the_table-holds : placed second_in_the_table ≡
    held 1 (rec (port 1 2) (actor 1 1) 3 0 0 [] [])
    ∷ held 1 (rec (port 2 1) (actor 1 1) 4 1 0 [] [])
    ∷ []
second_in_the_table-holds = refl

-- a message that is sent where the port came finds it there
abbrev port_is_found_where_it_came-events : List Event
port_is_found_where_it_came-events =
    Enter (actor 1 1) 0
    ∷ Acts 0 (Command.Make (actor 1 1) 4)
    ∷ Enter (actor 2 1) 1
    ∷ Acts 0 (Command.Move (port 1 1) (actor 2 1))
    ∷ Deliver 0 1 2
    ∷ Acts 1 (Command.Send (Dest.Port (port 1 1)) (120 ∷ []))
    ∷ []

abbrev pub port_is_found_where_it_came : NetState
port_is_found_where_it_came = ran 2 1 port_is_found_where_it_came-events

pub port_is_found_where_it_came-replies : replies 2 1 port_is_found_where_it_came-events ≡
    (Reply.Made (port 1 1))
    ∷ (Reply.Departed 1)
    ∷ (Reply.Accepted (msg 1 1 0) 0)
    ∷ []
port_is_found_where_it_came-replies = refl

pub port_is_found_where_it_came-says : merge port_is_found_where_it_came ≡
    entry 1 1 0 (Act.Make (port 1 1) (actor 1 1) 4)
    ∷ entry 2 1 0 (Act.Depart (port 1 1) 2 (actor 2 1) 1)
    ∷ entry 3 2 0 (Act.Arrive (port 1 1) 1)
    ∷ entry 4 2 1 (Act.Post (mess (msg 1 1 0) Tag.Plain (120 ∷ [])) (Dest.Port (port 1 1)))
    ∷ entry 5 2 1 (Act.Accept (msg 1 1 0) (port 1 1) 0)
    ∷ []
port_is_found_where_it_came-says = refl

pub port_is_found_where_it_came-rest : port_is_found_where_it_came.packets ≡ []
port_is_found_where_it_came-rest = refl

-- the port was at a place and left it before a Stale that names an earlier place comes there: the later location stays
abbrev older_location_is_not_learned-events : List Event
older_location_is_not_learned-events =
    Enter (actor 1 1) 0
    ∷ Acts 0 (Command.Make (actor 1 1) 4)
    ∷ Enter (actor 3 1) 1
    ∷ Enter (actor 2 1) 1
    ∷ Acts 1 (Command.Send (Dest.Port (port 1 1)) (120 ∷ []))
    ∷ Acts 0 (Command.Move (port 1 1) (actor 2 1))
    ∷ Deliver 0 3 1
    ∷ Deliver 0 1 2
    ∷ Acts 2 (Command.Move (port 1 1) (actor 3 1))
    ∷ Deliver 0 2 3
    ∷ Acts 1 (Command.Move (port 1 1) (actor 1 1))
    ∷ Deliver 0 1 3
    ∷ Deliver 0 3 1
    ∷ Deliver 0 3 1
    ∷ Deliver 0 1 3
    ∷ []

abbrev pub older_location_is_not_learned : NetState
older_location_is_not_learned = ran 3 1 older_location_is_not_learned-events

pub older_location_is_not_learned-replies : replies 3 1 older_location_is_not_learned-events ≡
    (Reply.Made (port 1 1))
    ∷ (Reply.Posted (msg 1 1 0))
    ∷ (Reply.Departed 1)
    ∷ (Reply.Departed 2)
    ∷ (Reply.Departed 3)
    ∷ []
older_location_is_not_learned-replies = refl

pub older_location_is_not_learned-says : merge older_location_is_not_learned ≡
    entry 1 1 0 (Act.Make (port 1 1) (actor 1 1) 4)
    ∷ entry 2 1 0 (Act.Depart (port 1 1) 2 (actor 2 1) 1)
    ∷ entry 2 3 1 (Act.Post (mess (msg 1 1 0) Tag.Plain (120 ∷ [])) (Dest.Port (port 1 1)))
    ∷ entry 3 3 1 (Act.Try (msg 1 1 0) (port 1 1) 1 0)
    ∷ entry 4 1 0 (Act.Stale (msg 1 1 0) (port 1 1) 0 2 1)
    ∷ entry 5 2 0 (Act.Arrive (port 1 1) 1)
    ∷ entry 6 2 2 (Act.Depart (port 1 1) 3 (actor 3 1) 2)
    ∷ entry 7 3 0 (Act.Arrive (port 1 1) 2)
    ∷ entry 8 3 1 (Act.Depart (port 1 1) 1 (actor 1 1) 3)
    ∷ entry 9 3 0 (Act.Told (msg 1 1 0) (A.Stale 2 1))
    ∷ entry 10 3 0 (Act.Try (msg 1 1 0) (port 1 1) 1 3)
    ∷ entry 11 1 0 (Act.Arrive (port 1 1) 3)
    ∷ entry 12 1 0 (Act.Accept (msg 1 1 0) (port 1 1) 0)
    ∷ entry 13 3 0 (Act.Told (msg 1 1 0) (A.Accepted 0))
    ∷ []
older_location_is_not_learned-says = refl

pub older_location_is_not_learned-rest : older_location_is_not_learned.packets ≡ []
older_location_is_not_learned-rest = refl

-- the place that was learned is left too: the message is stale with the hop by which it was tried
abbrev stale_after_a_move-events : List Event
stale_after_a_move-events =
    Enter (actor 1 1) 0
    ∷ Acts 0 (Command.Make (actor 1 1) 4)
    ∷ Enter (actor 4 1) 1
    ∷ Enter (actor 2 1) 1
    ∷ Acts 0 (Command.Move (port 1 1) (actor 2 1))
    ∷ Acts 1 (Command.Send (Dest.Port (port 1 1)) (120 ∷ []))
    ∷ Deliver 0 4 1
    ∷ Deliver 0 1 4
    ∷ Deliver 0 1 2
    ∷ Acts 2 (Command.Move (port 1 1) (actor 3 1))
    ∷ Deliver 0 2 3
    ∷ Deliver 0 4 2
    ∷ Deliver 0 2 4
    ∷ Deliver 0 4 3
    ∷ Deliver 0 3 4
    ∷ []

abbrev pub stale_after_a_move : NetState
stale_after_a_move = ran 4 1 stale_after_a_move-events

pub stale_after_a_move-replies : replies 4 1 stale_after_a_move-events ≡
    (Reply.Made (port 1 1))
    ∷ (Reply.Departed 1)
    ∷ (Reply.Posted (msg 1 1 0))
    ∷ (Reply.Departed 2)
    ∷ []
stale_after_a_move-replies = refl

pub stale_after_a_move-says : merge stale_after_a_move ≡
    entry 1 1 0 (Act.Make (port 1 1) (actor 1 1) 4)
    ∷ entry 2 1 0 (Act.Depart (port 1 1) 2 (actor 2 1) 1)
    ∷ entry 2 4 1 (Act.Post (mess (msg 1 1 0) Tag.Plain (120 ∷ [])) (Dest.Port (port 1 1)))
    ∷ entry 3 4 1 (Act.Try (msg 1 1 0) (port 1 1) 1 0)
    ∷ entry 4 1 0 (Act.Stale (msg 1 1 0) (port 1 1) 0 2 1)
    ∷ entry 5 4 0 (Act.Told (msg 1 1 0) (A.Stale 2 1))
    ∷ entry 6 4 0 (Act.Try (msg 1 1 0) (port 1 1) 2 1)
    ∷ entry 7 2 0 (Act.Arrive (port 1 1) 1)
    ∷ entry 8 2 2 (Act.Depart (port 1 1) 3 (actor 3 1) 2)
    ∷ entry 9 3 0 (Act.Arrive (port 1 1) 2)
    ∷ entry 10 2 0 (Act.Stale (msg 1 1 0) (port 1 1) 1 3 2)
    ∷ entry 11 4 0 (Act.Told (msg 1 1 0) (A.Stale 3 2))
    ∷ entry 12 4 0 (Act.Try (msg 1 1 0) (port 1 1) 3 2)
    ∷ entry 13 3 0 (Act.Accept (msg 1 1 0) (port 1 1) 0)
    ∷ entry 14 4 0 (Act.Told (msg 1 1 0) (A.Accepted 0))
    ∷ []
stale_after_a_move-says = refl

pub stale_after_a_move-rest : stale_after_a_move.packets ≡ []
stale_after_a_move-rest = refl

-- a place was told that the port will come again: a message that was tried by an earlier hop is early by the later one
abbrev early_by_the_hop_that_is_known-events : List Event
early_by_the_hop_that_is_known-events =
    Enter (actor 1 1) 0
    ∷ Acts 0 (Command.Make (actor 1 1) 4)
    ∷ Enter (actor 2 1) 1
    ∷ Enter (actor 3 1) 1
    ∷ Enter (actor 4 1) 1
    ∷ Acts 0 (Command.Move (port 1 1) (actor 2 1))
    ∷ Acts 3 (Command.Send (Dest.Port (port 1 1)) (97 ∷ []))
    ∷ Deliver 0 4 1
    ∷ Deliver 0 1 2
    ∷ Deliver 0 1 4
    ∷ Acts 1 (Command.Move (port 1 1) (actor 3 1))
    ∷ Deliver 0 2 3
    ∷ Acts 2 (Command.Move (port 1 1) (actor 1 1))
    ∷ Deliver 0 3 1
    ∷ Acts 0 (Command.Move (port 1 1) (actor 2 1))
    ∷ Acts 2 (Command.Send (Dest.Port (port 1 1)) (98 ∷ []))
    ∷ Deliver 0 3 1
    ∷ Deliver 0 1 3
    ∷ Acts 1 (Command.Send (Dest.Port (port 1 1)) (99 ∷ []))
    ∷ Deliver 0 2 3
    ∷ Deliver 0 3 2
    ∷ Deliver 0 3 2
    ∷ Deliver 0 4 2
    ∷ Acts 1 (Command.Send (Dest.Port (port 1 1)) (100 ∷ []))
    ∷ Deliver 0 1 2
    ∷ Deliver 0 2 4
    ∷ Deliver 0 2 3
    ∷ []

abbrev pub early_by_the_hop_that_is_known : NetState
early_by_the_hop_that_is_known = ran 4 1 early_by_the_hop_that_is_known-events

pub early_by_the_hop_that_is_known-replies : replies 4 1 early_by_the_hop_that_is_known-events ≡
    (Reply.Made (port 1 1))
    ∷ (Reply.Departed 1)
    ∷ (Reply.Posted (msg 3 1 0))
    ∷ (Reply.Departed 2)
    ∷ (Reply.Departed 3)
    ∷ (Reply.Departed 4)
    ∷ (Reply.Posted (msg 2 1 0))
    ∷ (Reply.Posted (msg 1 1 0))
    ∷ (Reply.Early (msg 1 2 0) 4)
    ∷ []
early_by_the_hop_that_is_known-replies = refl

pub early_by_the_hop_that_is_known-says : merge early_by_the_hop_that_is_known ≡
    entry 1 1 0 (Act.Make (port 1 1) (actor 1 1) 4)
    ∷ entry 2 1 0 (Act.Depart (port 1 1) 2 (actor 2 1) 1)
    ∷ entry 2 4 3 (Act.Post (mess (msg 3 1 0) Tag.Plain (97 ∷ [])) (Dest.Port (port 1 1)))
    ∷ entry 3 4 3 (Act.Try (msg 3 1 0) (port 1 1) 1 0)
    ∷ entry 4 1 0 (Act.Stale (msg 3 1 0) (port 1 1) 0 2 1)
    ∷ entry 5 2 0 (Act.Arrive (port 1 1) 1)
    ∷ entry 6 2 1 (Act.Depart (port 1 1) 3 (actor 3 1) 2)
    ∷ entry 6 4 0 (Act.Told (msg 3 1 0) (A.Stale 2 1))
    ∷ entry 7 2 1 (Act.Post (mess (msg 1 1 0) Tag.Plain (99 ∷ [])) (Dest.Port (port 1 1)))
    ∷ entry 7 4 0 (Act.Try (msg 3 1 0) (port 1 1) 2 1)
    ∷ entry 8 2 1 (Act.Try (msg 1 1 0) (port 1 1) 3 2)
    ∷ entry 8 3 0 (Act.Arrive (port 1 1) 2)
    ∷ entry 9 3 2 (Act.Depart (port 1 1) 1 (actor 1 1) 3)
    ∷ entry 10 1 0 (Act.Arrive (port 1 1) 3)
    ∷ entry 10 3 2 (Act.Post (mess (msg 2 1 0) Tag.Plain (98 ∷ [])) (Dest.Port (port 1 1)))
    ∷ entry 11 1 0 (Act.Depart (port 1 1) 2 (actor 2 1) 4)
    ∷ entry 11 3 2 (Act.Try (msg 2 1 0) (port 1 1) 1 3)
    ∷ entry 12 1 0 (Act.Stale (msg 2 1 0) (port 1 1) 3 2 4)
    ∷ entry 13 3 0 (Act.Told (msg 2 1 0) (A.Stale 2 4))
    ∷ entry 14 3 0 (Act.Try (msg 2 1 0) (port 1 1) 2 4)
    ∷ entry 15 3 0 (Act.Stale (msg 1 1 0) (port 1 1) 2 2 4)
    ∷ entry 16 2 0 (Act.Early (msg 2 1 0) (port 1 1) 4)
    ∷ entry 17 2 0 (Act.Told (msg 1 1 0) (A.Stale 2 4))
    ∷ entry 18 2 0 (Act.Early (msg 1 1 0) (port 1 1) 4)
    ∷ entry 19 2 0 (Act.Early (msg 3 1 0) (port 1 1) 4)
    ∷ entry 20 2 1 (Act.Post (mess (msg 1 2 0) Tag.Plain (100 ∷ [])) (Dest.Port (port 1 1)))
    ∷ entry 21 2 1 (Act.Early (msg 1 2 0) (port 1 1) 4)
    ∷ entry 22 2 0 (Act.Arrive (port 1 1) 4)
    ∷ entry 23 4 0 (Act.Told (msg 3 1 0) (A.Early 4))
    ∷ entry 24 3 0 (Act.Told (msg 2 1 0) (A.Early 4))
    ∷ []
early_by_the_hop_that_is_known-says = refl

pub early_by_the_hop_that_is_known-rest : early_by_the_hop_that_is_known.packets ≡ []
early_by_the_hop_that_is_known-rest = refl
