-- A state in the middle: a request waits in a port that is moving; of a broadcast one copy is tried and one has its verdict; a
-- further post is asked for; a Stale is under way, and a message waits behind it. What the past says of it is what it has.
use Rattle.std.proofs.Common.{◌≡◌, List, [], ◌∷◌, refl}
use Rattle.chorus_entry.specs.declared.tag.Tag.{Tag}
use Rattle.chorus_entry.specs.declared.dest.Dest.{Dest}
use Rattle.chorus_entry.specs.declared.answer.Answer.TheVariants as A
use Rattle.chorus_entry.specs.declared.act.Act.{Act}
use Rattle.chorus_entry.specs.declared.command.Command.{Command}
use Rattle.chorus_entry.specs.declared.packet.Cargo.{Cargo}
use Rattle.law_machine.specs.declared.reply.Reply.{Reply}
use Rattle.law_network.specs.Network.{NetState, Event, Enter, Act as Acts, Deliver}
use Rattle.law_network.specs.Left.{merge, placed, packets_left}
use Rattle.std.specs.Prelude.{ℕ, true, map, Some, None}
use Rattle.chorus_ui.specs.declared.ui.Ui.{Ui}
use Rattle.chorus_entry.specs.declared.entry.Entry.{Entry}
use Rattle.chorus_entry.specs.declared.id.MsgId.{MsgId}
use Rattle.chorus_world.specs.Runs.{is_run}
use Rattle.place_unsettled.specs.declared.wait.Key.{Key}
use Rattle.law_network.specs.Stands.{actor_of}
use Rattle.law_network.specs.Holdings.{holding_told, holdings_in, holdings_left}
use Rattle.law_network.proofs.Examples.Views.{key, seen, seen_in, are_tried, are_lawful, journals_at, journals_told, records_at, records_told, locations_at, locations_told, queues_at, queues_told, unheard_at, unheard_told, messages_in, messages_told, transfers_in, transfers_told, asks_in, asks_told, holdings_of}
use Rattle.law_network.proofs.Examples.Names.{actor, port, group, msg, mess, rec, entry, going, held, ran, replies}

-- the state
abbrev middle-events : List Event
middle-events =
    Enter (actor 1 1) 0
    ∷ Acts 0 (Command.Make (actor 1 1) 4)
    ∷ Acts 0 (Command.Make (actor 3 1) 4)
    ∷ Acts 0 (Command.GroupMake 1)
    ∷ Acts 0 (Command.Join (group 1 1) (port 3 1))
    ∷ Acts 0 (Command.Join (group 1 1) (port 1 1))
    ∷ Enter (actor 2 1) 5
    ∷ Enter (actor 1 1) 5
    ∷ Enter (actor 3 1) 5
    ∷ Acts 1 (Command.Call (port 1 1) (port 1 1) (97 ∷ []))
    ∷ Deliver 0 2 1
    ∷ Deliver 0 1 2
    ∷ Acts 1 (Command.Send (Dest.All (group 1 1)) (98 ∷ []))
    ∷ Deliver 0 2 1
    ∷ Acts 2 (Command.Move (port 1 1) (actor 3 2))
    ∷ Acts 1 (Command.Send (Dest.One (group 1 1)) (99 ∷ []))
    ∷ Acts 3 (Command.Send (Dest.Port (port 1 1)) (100 ∷ []))
    ∷ Acts 3 (Command.Send (Dest.Port (port 1 1)) (101 ∷ []))
    ∷ Deliver 0 3 1
    ∷ []

abbrev pub middle : NetState
middle = ran 3 1 middle-events

pub middle-replies : replies 3 1 middle-events ≡
    (Reply.Made (port 1 1))
    ∷ (Reply.Made (port 3 1))
    ∷ (Reply.Made (group 1 1))
    ∷ Reply.Joined
    ∷ Reply.Joined
    ∷ (Reply.Posted (msg 1 1 0))
    ∷ (Reply.Posted (msg 1 2 0))
    ∷ (Reply.Departed 1)
    ∷ (Reply.Posted (msg 1 3 0))
    ∷ (Reply.Posted (msg 3 1 0))
    ∷ (Reply.Posted (msg 3 2 0))
    ∷ []
middle-replies = refl

pub middle-says : merge middle ≡
    entry 1 1 0 (Act.Make (port 1 1) (actor 1 1) 4)
    ∷ entry 2 3 0 (Act.Make (port 3 1) (actor 3 1) 4)
    ∷ entry 3 1 0 (Act.GroupMake (group 1 1))
    ∷ entry 4 1 0 (Act.Join (group 1 1) (port 3 1))
    ∷ entry 5 1 0 (Act.Join (group 1 1) (port 1 1))
    ∷ entry 6 2 1 (Act.Post (mess (msg 1 1 0) (Tag.Request 1 (port 1 1)) (97 ∷ [])) (Dest.Port (port 1 1)))
    ∷ entry 6 3 3 (Act.Post (mess (msg 3 1 0) Tag.Plain (100 ∷ [])) (Dest.Port (port 1 1)))
    ∷ entry 7 2 1 (Act.Try (msg 1 1 0) (port 1 1) 1 0)
    ∷ entry 7 3 3 (Act.Try (msg 3 1 0) (port 1 1) 1 0)
    ∷ entry 8 1 0 (Act.Accept (msg 1 1 0) (port 1 1) 0)
    ∷ entry 8 3 3 (Act.Post (mess (msg 3 2 0) Tag.Plain (101 ∷ [])) (Dest.Port (port 1 1)))
    ∷ entry 9 2 0 (Act.Told (msg 1 1 0) (A.Accepted 0))
    ∷ entry 10 2 1 (Act.Post (mess (msg 1 2 0) Tag.Plain (98 ∷ [])) (Dest.All (group 1 1)))
    ∷ entry 11 1 0 (Act.Choose (msg 1 2 0) (group 1 1) ((port 3 1) ∷ (port 1 1) ∷ []))
    ∷ entry 11 2 1 (Act.Post (mess (msg 1 3 0) Tag.Plain (99 ∷ [])) (Dest.One (group 1 1)))
    ∷ entry 12 1 0 (Act.Try (msg 1 2 1) (port 3 1) 3 0)
    ∷ entry 13 1 0 (Act.Accept (msg 1 2 2) (port 1 1) 1)
    ∷ entry 14 1 2 (Act.Depart (port 1 1) 3 (actor 3 2) 1)
    ∷ entry 15 1 0 (Act.Stale (msg 3 1 0) (port 1 1) 0 3 1)
    ∷ []
middle-says = refl

pub middle-rest : middle.packets ≡
    going 1 2 11 (Cargo.Report (msg 1 2 0) (A.Chosen 2))
    ∷ going 1 2 13 (Cargo.Report (msg 1 2 2) (A.Accepted 1))
    ∷ going 1 3 12 (Cargo.Try (mess (msg 1 2 1) Tag.Plain (98 ∷ [])) (port 3 1) (Some (group 1 1)) None 0)
    ∷ going 1 3 14 (Cargo.Transfer (rec (port 1 1) (actor 3 2) 4 1 0 ((mess (msg 1 1 0) (Tag.Request 1 (port 1 1)) (97 ∷ [])) ∷ (mess (msg 1 2 2) Tag.Plain (98 ∷ [])) ∷ []) ((1, 1) ∷ [])))
    ∷ going 1 3 15 (Cargo.Verdict (msg 3 1 0) (port 1 1) None (A.Stale 3 1))
    ∷ going 2 1 11 (Cargo.Ask (mess (msg 1 3 0) Tag.Plain (99 ∷ [])) (Dest.One (group 1 1)))
    ∷ []
middle-rest = refl

pub middle-holds : placed middle ≡
    held 3 (rec (port 3 1) (actor 3 1) 4 0 0 [] [])
    ∷ []
middle-holds = refl

abbrev middle-past : List Entry
middle-past =
    entry 15 1 0 (Act.Stale (msg 3 1 0) (port 1 1) 0 3 1)
    ∷ entry 8 3 3 (Act.Post (mess (msg 3 2 0) Tag.Plain (101 ∷ [])) (Dest.Port (port 1 1)))
    ∷ entry 7 3 3 (Act.Try (msg 3 1 0) (port 1 1) 1 0)
    ∷ entry 6 3 3 (Act.Post (mess (msg 3 1 0) Tag.Plain (100 ∷ [])) (Dest.Port (port 1 1)))
    ∷ entry 11 2 1 (Act.Post (mess (msg 1 3 0) Tag.Plain (99 ∷ [])) (Dest.One (group 1 1)))
    ∷ entry 14 1 2 (Act.Depart (port 1 1) 3 (actor 3 2) 1)
    ∷ entry 13 1 0 (Act.Accept (msg 1 2 2) (port 1 1) 1)
    ∷ entry 12 1 0 (Act.Try (msg 1 2 1) (port 3 1) 3 0)
    ∷ entry 11 1 0 (Act.Choose (msg 1 2 0) (group 1 1) ((port 3 1) ∷ (port 1 1) ∷ []))
    ∷ entry 10 2 1 (Act.Post (mess (msg 1 2 0) Tag.Plain (98 ∷ [])) (Dest.All (group 1 1)))
    ∷ entry 9 2 0 (Act.Told (msg 1 1 0) (A.Accepted 0))
    ∷ entry 8 1 0 (Act.Accept (msg 1 1 0) (port 1 1) 0)
    ∷ entry 7 2 1 (Act.Try (msg 1 1 0) (port 1 1) 1 0)
    ∷ entry 6 2 1 (Act.Post (mess (msg 1 1 0) (Tag.Request 1 (port 1 1)) (97 ∷ [])) (Dest.Port (port 1 1)))
    ∷ entry 5 1 0 (Act.Join (group 1 1) (port 1 1))
    ∷ entry 4 1 0 (Act.Join (group 1 1) (port 3 1))
    ∷ entry 3 1 0 (Act.GroupMake (group 1 1))
    ∷ entry 2 3 0 (Act.Make (port 3 1) (actor 3 1) 4)
    ∷ entry 1 1 0 (Act.Make (port 1 1) (actor 1 1) 4)
    ∷ []

abbrev middle-places : List ℕ
middle-places = (1 ∷ 2 ∷ 3 ∷ [])

abbrev middle-ports : List Ui
middle-ports = ((port 1 1) ∷ (port 3 1) ∷ [])

abbrev middle-ids : List MsgId
middle-ids = ((msg 1 1 0) ∷ (msg 1 2 0) ∷ (msg 1 2 1) ∷ (msg 1 2 2) ∷ (msg 1 2 3) ∷ (msg 1 3 0) ∷ (msg 3 1 0) ∷ (msg 3 2 0) ∷ (msg 9 1 0) ∷ [])

abbrev middle-keys : List Key
middle-keys = ((key (port 1 1) None) ∷ (key (port 3 1) (Some (group 1 1))) ∷ (key (port 1 1) (Some (group 1 1))) ∷ [])

pub middle-journals : journals_at middle-places middle
    ≡ journals_told middle-places middle-past
middle-journals = refl

pub middle-records : records_at middle-places middle-ports middle
    ≡ records_told middle-places middle-ports middle-past
middle-records = refl

pub middle-locations : locations_at middle-places middle-ports middle
    ≡ locations_told middle-places middle-ports (record { sites = 3; turns = 1 }) middle-past
middle-locations = refl

pub middle-waiting : queues_at middle-places middle-keys middle
    ≡ queues_told middle-places middle-keys middle-past
middle-waiting = refl

pub middle-unheard : unheard_at middle-places middle-ids middle
    ≡ unheard_told middle-places middle-ids (record { sites = 3; turns = 1 }) middle-past
middle-unheard = refl

pub middle-messages : messages_in middle-ids middle
    ≡ messages_told middle-ids (record { sites = 3; turns = 1 }) middle-past
middle-messages = refl

pub middle-transfers : transfers_in middle-ports middle
    ≡ transfers_told middle-ports middle-past
middle-transfers = refl

pub middle-asks-1-1 : asks_in (group 1 1) (2 ∷ 3 ∷ []) 1 middle
    ≡ asks_told (group 1 1) (2 ∷ 3 ∷ []) 1 middle-past
middle-asks-1-1 = refl

pub middle-callers : map seen middle.callers
    ≡ map (seen_in middle-past) (0 ∷ 1 ∷ 2 ∷ 3 ∷ [])
middle-callers = refl

pub middle-run : is_run (record { sites = 3; turns = 1 }) (actor_of middle) middle-past
    ≡ true
middle-run = refl

pub middle-holdings : holdings_of middle-ports (holdings_in middle)
    ≡ map (holding_told middle-past) middle-ports
middle-holdings = refl

pub middle-left : holdings_of middle-ports (holdings_left (record { sites = 3; turns = 1 }) (placed middle) (packets_left middle))
    ≡ map (holding_told middle-past) middle-ports
middle-left = refl

pub middle-tried : are_tried middle-keys middle
    ≡ true
middle-tried = refl

pub middle-lawful : are_lawful middle
    ≡ true
middle-lawful = refl
