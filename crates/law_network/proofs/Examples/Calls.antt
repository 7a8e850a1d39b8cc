-- Requests, their replies, and what ends a call.
use Rattle.std.specs.Prelude.{Some, None}
use Rattle.std.proofs.Common.{◌≡◌, List, [], ◌∷◌, refl}
use Rattle.chorus_entry.specs.declared.tag.Tag.{Tag}
use Rattle.chorus_entry.specs.declared.dest.Dest.{Dest}
use Rattle.chorus_entry.specs.declared.act.Act.{Act}
use Rattle.chorus_entry.specs.declared.command.Command.{Command}
use Rattle.chorus_calls.specs.declared.client.Settle.TheVariants as settles
use Rattle.law_machine.specs.declared.reply.Reply.{Reply}
use Rattle.law_network.specs.Network.{NetState, Event, Enter, Act as Acts}
use Rattle.law_network.specs.Left.{merge}
use Rattle.law_network.proofs.Examples.Names.{actor, port, msg, mess, entry, ran, replies}

-- the client is a seat: a reply that another seat of its actor takes is late, though a call of that number is outstanding there
-- too; a later request takes the place of the one in hand
abbrev another_seat_takes_the_reply-events : List Event
another_seat_takes_the_reply-events =
    Enter (actor 1 1) 0
    ∷ Acts 0 (Command.Make (actor 1 1) 4)
    ∷ Enter (actor 1 1) 1
    ∷ Enter (actor 1 1) 1
    ∷ Acts 1 (Command.Call (port 1 1) (port 1 1) (97 ∷ []))
    ∷ Acts 2 (Command.Call (port 1 1) (port 1 1) (98 ∷ []))
    ∷ Acts 0 (Command.Take (port 1 1))
    ∷ Acts 0 (Command.Take (port 1 1))
    ∷ Acts 0 (Command.Reply (99 ∷ []))
    ∷ Acts 1 (Command.Take (port 1 1))
    ∷ Acts 1 Command.Retry
    ∷ []

abbrev pub another_seat_takes_the_reply : NetState
another_seat_takes_the_reply = ran 1 1 another_seat_takes_the_reply-events

pub another_seat_takes_the_reply-replies : replies 1 1 another_seat_takes_the_reply-events ≡
    (Reply.Made (port 1 1))
    ∷ (Reply.Accepted (msg 1 1 0) 0)
    ∷ (Reply.Accepted (msg 2 1 0) 1)
    ∷ (Reply.Taken 0 (mess (msg 1 1 0) (Tag.Request 1 (port 1 1)) (97 ∷ [])) None)
    ∷ (Reply.Taken 1 (mess (msg 2 1 0) (Tag.Request 1 (port 1 1)) (98 ∷ [])) None)
    ∷ (Reply.Accepted (msg 0 1 0) 2)
    ∷ (Reply.Taken 2 (mess (msg 0 1 0) (Tag.Reply 2 1) (99 ∷ [])) (Some settles.Late))
    ∷ (Reply.Already (msg 1 2 0))
    ∷ []
another_seat_takes_the_reply-replies = refl

pub another_seat_takes_the_reply-says : merge another_seat_takes_the_reply ≡
    entry 1 1 0 (Act.Make (port 1 1) (actor 1 1) 4)
    ∷ entry 2 1 1 (Act.Post (mess (msg 1 1 0) (Tag.Request 1 (port 1 1)) (97 ∷ [])) (Dest.Port (port 1 1)))
    ∷ entry 3 1 1 (Act.Accept (msg 1 1 0) (port 1 1) 0)
    ∷ entry 4 1 2 (Act.Post (mess (msg 2 1 0) (Tag.Request 1 (port 1 1)) (98 ∷ [])) (Dest.Port (port 1 1)))
    ∷ entry 5 1 2 (Act.Accept (msg 2 1 0) (port 1 1) 1)
    ∷ entry 6 1 0 (Act.Take (port 1 1) 0 (msg 1 1 0))
    ∷ entry 7 1 0 (Act.Take (port 1 1) 1 (msg 2 1 0))
    ∷ entry 8 1 0 (Act.Post (mess (msg 0 1 0) (Tag.Reply 2 1) (99 ∷ [])) (Dest.Port (port 1 1)))
    ∷ entry 9 1 0 (Act.Accept (msg 0 1 0) (port 1 1) 2)
    ∷ entry 10 1 1 (Act.Take (port 1 1) 2 (msg 0 1 0))
    ∷ entry 11 1 1 (Act.Late 1)
    ∷ entry 12 1 1 (Act.Post (mess (msg 1 2 0) (Tag.Request 1 (port 1 1)) (97 ∷ [])) (Dest.Port (port 1 1)))
    ∷ entry 13 1 1 (Act.Already (msg 1 2 0) (port 1 1))
    ∷ []
another_seat_takes_the_reply-says = refl

pub another_seat_takes_the_reply-rest : another_seat_takes_the_reply.packets ≡ []
another_seat_takes_the_reply-rest = refl

-- a request that found the port full is accepted when it is sent again
abbrev refused_request_is_not_remembered-events : List Event
refused_request_is_not_remembered-events =
    Enter (actor 1 1) 0
    ∷ Acts 0 (Command.Make (actor 1 1) 1)
    ∷ Acts 0 (Command.Send (Dest.Port (port 1 1)) (120 ∷ []))
    ∷ Acts 0 (Command.Call (port 1 1) (port 1 1) (113 ∷ []))
    ∷ Acts 0 (Command.Take (port 1 1))
    ∷ Acts 0 Command.Retry
    ∷ Acts 0 Command.Retry
    ∷ []

abbrev pub refused_request_is_not_remembered : NetState
refused_request_is_not_remembered = ran 1 1 refused_request_is_not_remembered-events

pub refused_request_is_not_remembered-replies : replies 1 1 refused_request_is_not_remembered-events ≡
    (Reply.Made (port 1 1))
    ∷ (Reply.Accepted (msg 0 1 0) 0)
    ∷ (Reply.Full (msg 0 2 0) 1)
    ∷ (Reply.Taken 0 (mess (msg 0 1 0) Tag.Plain (120 ∷ [])) None)
    ∷ (Reply.Accepted (msg 0 3 0) 1)
    ∷ (Reply.Already (msg 0 4 0))
    ∷ []
refused_request_is_not_remembered-replies = refl

pub refused_request_is_not_remembered-says : merge refused_request_is_not_remembered ≡
    entry 1 1 0 (Act.Make (port 1 1) (actor 1 1) 1)
    ∷ entry 2 1 0 (Act.Post (mess (msg 0 1 0) Tag.Plain (120 ∷ [])) (Dest.Port (port 1 1)))
    ∷ entry 3 1 0 (Act.Accept (msg 0 1 0) (port 1 1) 0)
    ∷ entry 4 1 0 (Act.Post (mess (msg 0 2 0) (Tag.Request 1 (port 1 1)) (113 ∷ [])) (Dest.Port (port 1 1)))
    ∷ entry 5 1 0 (Act.Full (msg 0 2 0) (port 1 1) 1)
    ∷ entry 6 1 0 (Act.Take (port 1 1) 0 (msg 0 1 0))
    ∷ entry 7 1 0 (Act.Post (mess (msg 0 3 0) (Tag.Request 1 (port 1 1)) (113 ∷ [])) (Dest.Port (port 1 1)))
    ∷ entry 8 1 0 (Act.Accept (msg 0 3 0) (port 1 1) 1)
    ∷ entry 9 1 0 (Act.Post (mess (msg 0 4 0) (Tag.Request 1 (port 1 1)) (113 ∷ [])) (Dest.Port (port 1 1)))
    ∷ entry 10 1 0 (Act.Already (msg 0 4 0) (port 1 1))
    ∷ []
refused_request_is_not_remembered-says = refl

pub refused_request_is_not_remembered-rest : refused_request_is_not_remembered.packets ≡ []
refused_request_is_not_remembered-rest = refl
