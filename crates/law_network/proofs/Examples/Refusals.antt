-- Each command is refused by the first reason that holds.
use Rattle.std.specs.Prelude.{None}
use Rattle.std.proofs.Common.{◌≡◌, List, [], ◌∷◌, refl}
use Rattle.chorus_entry.specs.declared.tag.Tag.{Tag}
use Rattle.chorus_entry.specs.declared.dest.Dest.{Dest}
use Rattle.chorus_entry.specs.declared.act.Act.{Act}
use Rattle.chorus_entry.specs.declared.command.Command.{Command}
use Rattle.chorus_entry.specs.declared.packet.Cargo.{Cargo}
use Rattle.law_machine.specs.declared.reply.Reply.{Reply}
use Rattle.law_network.specs.Network.{NetState, Event, Enter, Act as Acts}
use Rattle.law_network.specs.Left.{merge, placed}
use Rattle.law_network.proofs.Examples.Names.{actor, port, group, msg, mess, rec, entry, going, held, ran, replies}

-- what needs no state: no such actor, site, group, call or request
abbrev refused_at_once-events : List Event
refused_at_once-events =
    Enter (actor 1 1) 0
    ∷ Acts 0 (Command.Make (actor 3 1) 1)
    ∷ Acts 0 (Command.Make (actor 1 9) 1)
    ∷ Acts 0 (Command.GroupMake 3)
    ∷ Acts 0 (Command.Join (group 3 1) (port 1 1))
    ∷ Acts 0 (Command.Leave (group 3 1) (port 1 1))
    ∷ Acts 0 (Command.Join (group 2 1) (port 1 1))
    ∷ Acts 0 (Command.Leave (group 2 1) (port 1 1))
    ∷ Acts 0 Command.Retry
    ∷ Acts 0 Command.Cancel
    ∷ Acts 0 (Command.Reply (120 ∷ []))
    ∷ Acts 0 (Command.Take (port 1 1))
    ∷ Acts 0 (Command.Move (port 1 1) (actor 1 2))
    ∷ Acts 0 (Command.Delete (port 1 1))
    ∷ Acts 0 (Command.Send (Dest.One (group 2 1)) (120 ∷ []))
    ∷ []

abbrev pub refused_at_once : NetState
refused_at_once = ran 2 1 refused_at_once-events

pub refused_at_once-replies : replies 2 1 refused_at_once-events ≡
    Reply.NoActor
    ∷ Reply.NoActor
    ∷ Reply.NoSite
    ∷ Reply.NoGroup
    ∷ Reply.NoGroup
    ∷ Reply.NoGroup
    ∷ Reply.NoGroup
    ∷ Reply.NoCall
    ∷ Reply.NoCall
    ∷ Reply.NoRequest
    ∷ Reply.NotHere
    ∷ Reply.NotHere
    ∷ Reply.NotHere
    ∷ (Reply.Posted (msg 0 1 0))
    ∷ []
refused_at_once-replies = refl

pub refused_at_once-says : merge refused_at_once ≡
    entry 1 1 0 (Act.NoActor (actor 3 1))
    ∷ entry 2 1 0 (Act.NoActor (actor 1 9))
    ∷ entry 3 1 0 (Act.NoSite 3)
    ∷ entry 4 1 0 (Act.NoGroup (group 3 1))
    ∷ entry 5 1 0 (Act.NoGroup (group 3 1))
    ∷ entry 6 2 0 (Act.NoGroup (group 2 1))
    ∷ entry 7 2 0 (Act.NoGroup (group 2 1))
    ∷ entry 8 1 0 Act.NoCall
    ∷ entry 9 1 0 Act.NoCall
    ∷ entry 10 1 0 Act.NoRequest
    ∷ entry 11 1 0 (Act.NotHere (port 1 1))
    ∷ entry 12 1 0 (Act.NotHere (port 1 1))
    ∷ entry 13 1 0 (Act.NotHere (port 1 1))
    ∷ entry 14 1 0 (Act.Post (mess (msg 0 1 0) Tag.Plain (120 ∷ [])) (Dest.One (group 2 1)))
    ∷ []
refused_at_once-says = refl

pub refused_at_once-rest : refused_at_once.packets ≡
    going 1 2 14 (Cargo.Ask (mess (msg 0 1 0) Tag.Plain (120 ∷ [])) (Dest.One (group 2 1)))
    ∷ []
refused_at_once-rest = refl

-- a port of another actor is not here, whoever the next one would be; the holder is told of the actor; and a port that is
-- elsewhere is not here
abbrev refused_by_the_holder-events : List Event
refused_by_the_holder-events =
    Enter (actor 1 1) 0
    ∷ Acts 0 (Command.Make (actor 1 2) 1)
    ∷ Acts 0 (Command.Take (port 1 1))
    ∷ Acts 0 (Command.Move (port 1 1) (actor 9 1))
    ∷ Acts 0 (Command.Delete (port 1 1))
    ∷ Enter (actor 1 2) 4
    ∷ Acts 1 (Command.Take (port 1 1))
    ∷ Acts 1 (Command.Move (port 1 1) (actor 9 1))
    ∷ Acts 1 (Command.Move (port 1 1) (actor 1 2))
    ∷ Acts 1 (Command.Move (port 1 1) (actor 2 1))
    ∷ Acts 1 (Command.Take (port 1 1))
    ∷ Acts 1 (Command.Delete (port 1 1))
    ∷ []

abbrev pub refused_by_the_holder : NetState
refused_by_the_holder = ran 2 1 refused_by_the_holder-events

pub refused_by_the_holder-replies : replies 2 1 refused_by_the_holder-events ≡
    (Reply.Made (port 1 1))
    ∷ Reply.NotHere
    ∷ Reply.NotHere
    ∷ Reply.NotHere
    ∷ Reply.Empty
    ∷ Reply.NoActor
    ∷ Reply.Rehomed
    ∷ (Reply.Departed 1)
    ∷ Reply.NotHere
    ∷ Reply.NotHere
    ∷ []
refused_by_the_holder-replies = refl

pub refused_by_the_holder-says : merge refused_by_the_holder ≡
    entry 1 1 0 (Act.Make (port 1 1) (actor 1 2) 1)
    ∷ entry 2 1 0 (Act.NotHere (port 1 1))
    ∷ entry 3 1 0 (Act.NotHere (port 1 1))
    ∷ entry 4 1 0 (Act.NotHere (port 1 1))
    ∷ entry 5 1 1 (Act.Empty (port 1 1))
    ∷ entry 6 1 1 (Act.NoActor (actor 9 1))
    ∷ entry 7 1 1 (Act.Rehome (port 1 1) (actor 1 2))
    ∷ entry 8 1 1 (Act.Depart (port 1 1) 2 (actor 2 1) 1)
    ∷ entry 9 1 1 (Act.NotHere (port 1 1))
    ∷ entry 10 1 1 (Act.NotHere (port 1 1))
    ∷ []
refused_by_the_holder-says = refl

pub refused_by_the_holder-rest : refused_by_the_holder.packets ≡
    going 1 2 8 (Cargo.Transfer (rec (port 1 1) (actor 2 1) 1 1 0 [] []))
    ∷ []
refused_by_the_holder-rest = refl

-- a place of four on a site makes eight ports, deleted ones counted
abbrev ports_are_made_to_the_limit-events : List Event
ports_are_made_to_the_limit-events =
    Enter (actor 1 1) 0
    ∷ Acts 0 (Command.Make (actor 1 2) 1)
    ∷ Acts 0 (Command.Make (actor 1 2) 1)
    ∷ Acts 0 (Command.Make (actor 1 2) 1)
    ∷ Acts 0 (Command.Make (actor 1 2) 1)
    ∷ Acts 0 (Command.Make (actor 1 2) 1)
    ∷ Acts 0 (Command.Make (actor 1 2) 1)
    ∷ Acts 0 (Command.Make (actor 1 2) 1)
    ∷ Acts 0 (Command.Make (actor 1 2) 1)
    ∷ Enter (actor 1 2) 8
    ∷ Acts 1 (Command.Delete (port 1 2))
    ∷ Acts 0 (Command.Make (actor 1 2) 1)
    ∷ Acts 1 (Command.Make (actor 1 9) 1)
    ∷ Acts 0 (Command.Make (actor 1 3) 64)
    ∷ []

abbrev pub ports_are_made_to_the_limit : NetState
ports_are_made_to_the_limit = ran 1 4 ports_are_made_to_the_limit-events

pub ports_are_made_to_the_limit-replies : replies 1 4 ports_are_made_to_the_limit-events ≡
    (Reply.Made (port 1 2))
    ∷ (Reply.Made (port 1 6))
    ∷ (Reply.Made (port 1 10))
    ∷ (Reply.Made (port 1 14))
    ∷ (Reply.Made (port 1 18))
    ∷ (Reply.Made (port 1 22))
    ∷ (Reply.Made (port 1 26))
    ∷ (Reply.Made (port 1 30))
    ∷ (Reply.Deleted 0)
    ∷ Reply.MakeFull
    ∷ Reply.NoActor
    ∷ (Reply.Made (port 1 3))
    ∷ []
ports_are_made_to_the_limit-replies = refl

pub ports_are_made_to_the_limit-says : merge ports_are_made_to_the_limit ≡
    entry 1 2 0 (Act.Make (port 1 2) (actor 1 2) 1)
    ∷ entry 2 2 0 (Act.Make (port 1 6) (actor 1 2) 1)
    ∷ entry 3 2 0 (Act.Make (port 1 10) (actor 1 2) 1)
    ∷ entry 4 2 0 (Act.Make (port 1 14) (actor 1 2) 1)
    ∷ entry 5 2 0 (Act.Make (port 1 18) (actor 1 2) 1)
    ∷ entry 6 2 0 (Act.Make (port 1 22) (actor 1 2) 1)
    ∷ entry 7 2 0 (Act.Make (port 1 26) (actor 1 2) 1)
    ∷ entry 8 2 0 (Act.Make (port 1 30) (actor 1 2) 1)
    ∷ entry 9 2 1 (Act.Delete (port 1 2) [])
    ∷ entry 10 2 0 (Act.MakeFull (actor 1 2))
    ∷ entry 11 2 1 (Act.NoActor (actor 1 9))
    ∷ entry 11 3 0 (Act.Make (port 1 3) (actor 1 3) 64)
    ∷ []
ports_are_made_to_the_limit-says = refl

pub ports_are_made_to_the_limit-rest : ports_are_made_to_the_limit.packets ≡ []
ports_are_made_to_the_limit-rest = refl

pub ports_are_made_to_the_limit-holds : placed ports_are_made_to_the_limit ≡
    held 2 (rec (port 1 6) (actor 1 2) 1 0 0 [] [])
    ∷ held 2 (rec (port 1 10) (actor 1 2) 1 0 0 [] [])
    ∷ held 2 (rec (port 1 14) (actor 1 2) 1 0 0 [] [])
    ∷ held 2 (rec (port 1 18) (actor 1 2) 1 0 0 [] [])
    ∷ held 2 (rec (port 1 22) (actor 1 2) 1 0 0 [] [])
    ∷ held 2 (rec (port 1 26) (actor 1 2) 1 0 0 [] [])
    ∷ held 2 (rec (port 1 30) (actor 1 2) 1 0 0 [] [])
    ∷ held 3 (rec (port 1 3) (actor 1 3) 64 0 0 [] [])
    ∷ []
ports_are_made_to_the_limit-holds = refl

-- a site makes four groups
abbrev groups_are_made_to_the_limit-events : List Event
groups_are_made_to_the_limit-events =
    Enter (actor 2 1) 0
    ∷ Acts 0 (Command.GroupMake 1)
    ∷ Acts 0 (Command.GroupMake 1)
    ∷ Acts 0 (Command.GroupMake 1)
    ∷ Acts 0 (Command.GroupMake 1)
    ∷ Acts 0 (Command.GroupMake 1)
    ∷ Acts 0 (Command.GroupMake 2)
    ∷ []

abbrev pub groups_are_made_to_the_limit : NetState
groups_are_made_to_the_limit = ran 2 1 groups_are_made_to_the_limit-events

pub groups_are_made_to_the_limit-replies : replies 2 1 groups_are_made_to_the_limit-events ≡
    (Reply.Made (group 1 1))
    ∷ (Reply.Made (group 1 2))
    ∷ (Reply.Made (group 1 3))
    ∷ (Reply.Made (group 1 4))
    ∷ Reply.GroupsFull
    ∷ (Reply.Made (group 2 1))
    ∷ []
groups_are_made_to_the_limit-replies = refl

pub groups_are_made_to_the_limit-says : merge groups_are_made_to_the_limit ≡
    entry 1 1 0 (Act.GroupMake (group 1 1))
    ∷ entry 2 1 0 (Act.GroupMake (group 1 2))
    ∷ entry 3 1 0 (Act.GroupMake (group 1 3))
    ∷ entry 4 1 0 (Act.GroupMake (group 1 4))
    ∷ entry 5 1 0 (Act.GroupsFull 1)
    ∷ entry 6 2 0 (Act.GroupMake (group 2 1))
    ∷ []
groups_are_made_to_the_limit-says = refl

pub groups_are_made_to_the_limit-rest : groups_are_made_to_the_limit.packets ≡ []
groups_are_made_to_the_limit-rest = refl

-- a group has 32 members; one that is there is told so first; when one leaves another joins
abbrev members_join_to_the_limit-events : List Event
members_join_to_the_limit-events =
    Enter (actor 1 1) 0
    ∷ Acts 0 (Command.GroupMake 1)
    ∷ Acts 0 (Command.Join (group 1 1) (port 1 1))
    ∷ Acts 0 (Command.Join (group 1 1) (port 1 2))
    ∷ Acts 0 (Command.Join (group 1 1) (port 1 3))
    ∷ Acts 0 (Command.Join (group 1 1) (port 1 4))
    ∷ Acts 0 (Command.Join (group 1 1) (port 1 5))
    ∷ Acts 0 (Command.Join (group 1 1) (port 1 6))
    ∷ Acts 0 (Command.Join (group 1 1) (port 1 7))
    ∷ Acts 0 (Command.Join (group 1 1) (port 1 8))
    ∷ Acts 0 (Command.Join (group 1 1) (port 1 9))
    ∷ Acts 0 (Command.Join (group 1 1) (port 1 10))
    ∷ Acts 0 (Command.Join (group 1 1) (port 1 11))
    ∷ Acts 0 (Command.Join (group 1 1) (port 1 12))
    ∷ Acts 0 (Command.Join (group 1 1) (port 1 13))
    ∷ Acts 0 (Command.Join (group 1 1) (port 1 14))
    ∷ Acts 0 (Command.Join (group 1 1) (port 1 15))
    ∷ Acts 0 (Command.Join (group 1 1) (port 1 16))
    ∷ Acts 0 (Command.Join (group 1 1) (port 1 17))
    ∷ Acts 0 (Command.Join (group 1 1) (port 1 18))
    ∷ Acts 0 (Command.Join (group 1 1) (port 1 19))
    ∷ Acts 0 (Command.Join (group 1 1) (port 1 20))
    ∷ Acts 0 (Command.Join (group 1 1) (port 1 21))
    ∷ Acts 0 (Command.Join (group 1 1) (port 1 22))
    ∷ Acts 0 (Command.Join (group 1 1) (port 1 23))
    ∷ Acts 0 (Command.Join (group 1 1) (port 1 24))
    ∷ Acts 0 (Command.Join (group 1 1) (port 1 25))
    ∷ Acts 0 (Command.Join (group 1 1) (port 1 26))
    ∷ Acts 0 (Command.Join (group 1 1) (port 1 27))
    ∷ Acts 0 (Command.Join (group 1 1) (port 1 28))
    ∷ Acts 0 (Command.Join (group 1 1) (port 1 29))
    ∷ Acts 0 (Command.Join (group 1 1) (port 1 30))
    ∷ Acts 0 (Command.Join (group 1 1) (port 1 31))
    ∷ Acts 0 (Command.Join (group 1 1) (port 1 32))
    ∷ Acts 0 (Command.Join (group 1 1) (port 1 33))
    ∷ Acts 0 (Command.Join (group 1 1) (port 1 7))
    ∷ Acts 0 (Command.Leave (group 1 1) (port 1 40))
    ∷ Acts 0 (Command.Leave (group 1 1) (port 1 7))
    ∷ Acts 0 (Command.Join (group 1 1) (port 1 33))
    ∷ Acts 0 (Command.Leave (group 1 1) (port 1 7))
    ∷ []

abbrev pub members_join_to_the_limit : NetState
members_join_to_the_limit = ran 1 1 members_join_to_the_limit-events

pub members_join_to_the_limit-replies : replies 1 1 members_join_to_the_limit-events ≡
    (Reply.Made (group 1 1))
    ∷ Reply.Joined
    ∷ Reply.Joined
    ∷ Reply.Joined
    ∷ Reply.Joined
    ∷ Reply.Joined
    ∷ Reply.Joined
    ∷ Reply.Joined
    ∷ Reply.Joined
    ∷ Reply.Joined
    ∷ Reply.Joined
    ∷ Reply.Joined
    ∷ Reply.Joined
    ∷ Reply.Joined
    ∷ Reply.Joined
    ∷ Reply.Joined
    ∷ Reply.Joined
    ∷ Reply.Joined
    ∷ Reply.Joined
    ∷ Reply.Joined
    ∷ Reply.Joined
    ∷ Reply.Joined
    ∷ Reply.Joined
    ∷ Reply.Joined
    ∷ Reply.Joined
    ∷ Reply.Joined
    ∷ Reply.Joined
    ∷ Reply.Joined
    ∷ Reply.Joined
    ∷ Reply.Joined
    ∷ Reply.Joined
    ∷ Reply.Joined
    ∷ Reply.Joined
    ∷ Reply.MembersFull
    ∷ Reply.There
    ∷ Reply.NotThere
    ∷ Reply.Left
    ∷ Reply.Joined
    ∷ Reply.NotThere
    ∷ []
members_join_to_the_limit-replies = refl

pub members_join_to_the_limit-says : merge members_join_to_the_limit ≡
    entry 1 1 0 (Act.GroupMake (group 1 1))
    ∷ entry 2 1 0 (Act.Join (group 1 1) (port 1 1))
    ∷ entry 3 1 0 (Act.Join (group 1 1) (port 1 2))
    ∷ entry 4 1 0 (Act.Join (group 1 1) (port 1 3))
    ∷ entry 5 1 0 (Act.Join (group 1 1) (port 1 4))
    ∷ entry 6 1 0 (Act.Join (group 1 1) (port 1 5))
    ∷ entry 7 1 0 (Act.Join (group 1 1) (port 1 6))
    ∷ entry 8 1 0 (Act.Join (group 1 1) (port 1 7))
    ∷ entry 9 1 0 (Act.Join (group 1 1) (port 1 8))
    ∷ entry 10 1 0 (Act.Join (group 1 1) (port 1 9))
    ∷ entry 11 1 0 (Act.Join (group 1 1) (port 1 10))
    ∷ entry 12 1 0 (Act.Join (group 1 1) (port 1 11))
    ∷ entry 13 1 0 (Act.Join (group 1 1) (port 1 12))
    ∷ entry 14 1 0 (Act.Join (group 1 1) (port 1 13))
    ∷ entry 15 1 0 (Act.Join (group 1 1) (port 1 14))
    ∷ entry 16 1 0 (Act.Join (group 1 1) (port 1 15))
    ∷ entry 17 1 0 (Act.Join (group 1 1) (port 1 16))
    ∷ entry 18 1 0 (Act.Join (group 1 1) (port 1 17))
    ∷ entry 19 1 0 (Act.Join (group 1 1) (port 1 18))
    ∷ entry 20 1 0 (Act.Join (group 1 1) (port 1 19))
    ∷ entry 21 1 0 (Act.Join (group 1 1) (port 1 20))
    ∷ entry 22 1 0 (Act.Join (group 1 1) (port 1 21))
    ∷ entry 23 1 0 (Act.Join (group 1 1) (port 1 22))
    ∷ entry 24 1 0 (Act.Join (group 1 1) (port 1 23))
    ∷ entry 25 1 0 (Act.Join (group 1 1) (port 1 24))
    ∷ entry 26 1 0 (Act.Join (group 1 1) (port 1 25))
    ∷ entry 27 1 0 (Act.Join (group 1 1) (port 1 26))
    ∷ entry 28 1 0 (Act.Join (group 1 1) (port 1 27))
    ∷ entry 29 1 0 (Act.Join (group 1 1) (port 1 28))
    ∷ entry 30 1 0 (Act.Join (group 1 1) (port 1 29))
    ∷ entry 31 1 0 (Act.Join (group 1 1) (port 1 30))
    ∷ entry 32 1 0 (Act.Join (group 1 1) (port 1 31))
    ∷ entry 33 1 0 (Act.Join (group 1 1) (port 1 32))
    ∷ entry 34 1 0 (Act.MembersFull (group 1 1))
    ∷ entry 35 1 0 (Act.There (group 1 1) (port 1 7))
    ∷ entry 36 1 0 (Act.NotThere (group 1 1) (port 1 40))
    ∷ entry 37 1 0 (Act.Leave (group 1 1) (port 1 7))
    ∷ entry 38 1 0 (Act.Join (group 1 1) (port 1 33))
    ∷ entry 39 1 0 (Act.NotThere (group 1 1) (port 1 7))
    ∷ []
members_join_to_the_limit-says = refl

pub members_join_to_the_limit-rest : members_join_to_the_limit.packets ≡ []
members_join_to_the_limit-rest = refl

-- a second call while one is outstanding, whatever it asks; a retry when it is cancelled; and a reply twice
abbrev calls_are_refused-events : List Event
calls_are_refused-events =
    Enter (actor 1 1) 0
    ∷ Acts 0 (Command.Make (actor 1 1) 4)
    ∷ Acts 0 (Command.Call (port 1 1) (port 1 1) (113 ∷ []))
    ∷ Acts 0 (Command.Call (port 9 1) (port 1 1) (113 ∷ []))
    ∷ Acts 0 Command.Retry
    ∷ Acts 0 (Command.Take (port 1 1))
    ∷ Acts 0 (Command.Reply (114 ∷ []))
    ∷ Acts 0 (Command.Reply (114 ∷ []))
    ∷ Acts 0 Command.Cancel
    ∷ Acts 0 Command.Cancel
    ∷ Acts 0 Command.Retry
    ∷ Acts 0 (Command.Call (port 9 1) (port 1 1) (115 ∷ []))
    ∷ []

abbrev pub calls_are_refused : NetState
calls_are_refused = ran 1 1 calls_are_refused-events

pub calls_are_refused-replies : replies 1 1 calls_are_refused-events ≡
    (Reply.Made (port 1 1))
    ∷ (Reply.Accepted (msg 0 1 0) 0)
    ∷ (Reply.Outstanding 1)
    ∷ (Reply.Already (msg 0 2 0))
    ∷ (Reply.Taken 0 (mess (msg 0 1 0) (Tag.Request 1 (port 1 1)) (113 ∷ [])) None)
    ∷ (Reply.Accepted (msg 0 3 0) 1)
    ∷ Reply.NoRequest
    ∷ (Reply.Cancelled 1)
    ∷ Reply.NoCall
    ∷ Reply.NoCall
    ∷ (Reply.NoPort (msg 0 4 0))
    ∷ []
calls_are_refused-replies = refl

pub calls_are_refused-says : merge calls_are_refused ≡
    entry 1 1 0 (Act.Make (port 1 1) (actor 1 1) 4)
    ∷ entry 2 1 0 (Act.Post (mess (msg 0 1 0) (Tag.Request 1 (port 1 1)) (113 ∷ [])) (Dest.Port (port 1 1)))
    ∷ entry 3 1 0 (Act.Accept (msg 0 1 0) (port 1 1) 0)
    ∷ entry 4 1 0 (Act.Outstanding 1)
    ∷ entry 5 1 0 (Act.Post (mess (msg 0 2 0) (Tag.Request 1 (port 1 1)) (113 ∷ [])) (Dest.Port (port 1 1)))
    ∷ entry 6 1 0 (Act.Already (msg 0 2 0) (port 1 1))
    ∷ entry 7 1 0 (Act.Take (port 1 1) 0 (msg 0 1 0))
    ∷ entry 8 1 0 (Act.Post (mess (msg 0 3 0) (Tag.Reply 0 1) (114 ∷ [])) (Dest.Port (port 1 1)))
    ∷ entry 9 1 0 (Act.Accept (msg 0 3 0) (port 1 1) 1)
    ∷ entry 10 1 0 Act.NoRequest
    ∷ entry 11 1 0 (Act.Cancel 1)
    ∷ entry 12 1 0 Act.NoCall
    ∷ entry 13 1 0 Act.NoCall
    ∷ entry 14 1 0 (Act.Post (mess (msg 0 4 0) (Tag.Request 2 (port 1 1)) (115 ∷ [])) (Dest.Port (port 9 1)))
    ∷ entry 15 1 0 (Act.NoPort (msg 0 4 0) (port 9 1))
    ∷ []
calls_are_refused-says = refl

pub calls_are_refused-rest : calls_are_refused.packets ≡ []
calls_are_refused-rest = refl
