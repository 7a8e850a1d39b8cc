-- The rank in worked examples: before the first delivery, and after each.
use Rattle.std.proofs.Common.{ℕ, ◌≡◌, List, [], ◌∷◌, ◌++◌, reverse, refl}
use Rattle.chorus_ui.specs.declared.ui.Ui.{Ui}
use Rattle.chorus_ui.specs.declared.kind.Kind.TheVariants as kinds
use Rattle.chorus_entry.specs.declared.dest.Dest.{Dest}
use Rattle.chorus_entry.specs.declared.command.Command.{Command}
use Rattle.law_network.specs.Network.{NetState, Event, Enter, Act, Deliver, happened, schedule}
use Rattle.law_network.specs.Rank.{rank}
use Rattle.law_ending.specs.Rounds.{worked}

-- by site and number
abbrev actor : ℕ → ℕ → Ui
actor site number = record { site = site; kind = kinds.Actor; number = number }

abbrev port : ℕ → ℕ → Ui
port site number = record { site = site; kind = kinds.Port; number = number }

abbrev group : ℕ → ℕ → Ui
group site number = record { site = site; kind = kinds.Group; number = number }

-- what the events leave on three sites of one place, the first of them first
abbrev ran : List Event → NetState
ran events = schedule (record { sites = 3; turns = 1 }) (reverse events)

-- the rank before the first of the events, and after each
abbrev ranks : List Event → NetState → List ℕ
ranks [] n = rank n ∷ []
ranks (e ∷ es) n = rank n ∷ ranks es (happened e n)

-- nothing happened yet
pub nothing : rank (ran []) ≡ 0
nothing = refl

-- a send to a port at another place: the Try and its verdict
abbrev sent : NetState
sent = ran (
    Enter (actor 1 1) 0
    ∷ Act 0 (Command.Make (actor 1 1) 4)
    ∷ Enter (actor 3 1) 0
    ∷ Act 1 (Command.Send (Dest.Port (port 1 1)) (120 ∷ []))
    ∷ []
    )

pub sent-ranks : ranks (Deliver 0 3 1 ∷ Deliver 0 1 3 ∷ []) sent ≡ 2 ∷ 1 ∷ 0 ∷ []
sent-ranks = refl

-- a send to a port that moved once, which the sender's place does not know: it is tried at the old place, and then at the new one. The
-- port itself is under way. No rank could be less: five deliveries come
abbrev moved-events : List Event
moved-events =
    Enter (actor 1 1) 0
    ∷ Act 0 (Command.Make (actor 1 1) 4)
    ∷ Enter (actor 3 1) 0
    ∷ Act 0 (Command.Move (port 1 1) (actor 2 1))
    ∷ Act 1 (Command.Send (Dest.Port (port 1 1)) (120 ∷ []))
    ∷ []

abbrev moved-deliveries : List Event
moved-deliveries = Deliver 0 1 2 ∷ Deliver 0 3 1 ∷ Deliver 0 1 3 ∷ Deliver 0 3 2 ∷ Deliver 0 2 3 ∷ []

pub moved-ranks : ranks moved-deliveries (ran moved-events) ≡ 5 ∷ 4 ∷ 3 ∷ 2 ∷ 1 ∷ 0 ∷ []
moved-ranks = refl

-- five deliveries work a packet off, and of any others none does
pub moved-worked : worked (reverse (Deliver 1 1 3 ∷ Deliver 1 2 1 ∷ moved-deliveries ++ moved-deliveries)) (ran moved-events) ≡ 5
moved-worked = refl

-- with a second send, which waits until the first is accepted, and is then tried at the new place alone
abbrev second-events : List Event
second-events = moved-events ++ Act 1 (Command.Send (Dest.Port (port 1 1)) (121 ∷ [])) ∷ []

pub second-ranks : ranks (moved-deliveries ++ Deliver 0 3 2 ∷ Deliver 0 2 3 ∷ []) (ran second-events) ≡ 9 ∷ 8 ∷ 7 ∷ 6 ∷ 5 ∷ 2 ∷ 1 ∷ 0 ∷ []
second-ranks = refl

-- a post to all of a group, from another site than that of its two members and than its own: eight deliveries come
abbrev group-events : List Event
group-events =
    Enter (actor 2 1) 0
    ∷ Enter (actor 3 1) 0
    ∷ Act 0 (Command.Make (actor 2 1) 4)
    ∷ Act 0 (Command.Make (actor 2 1) 4)
    ∷ Act 0 (Command.GroupMake 1)
    ∷ Act 0 (Command.Join (group 1 1) (port 2 1))
    ∷ Act 0 (Command.Join (group 1 1) (port 2 2))
    ∷ []

abbrev posted : NetState
posted = ran (group-events ++ Act 1 (Command.Send (Dest.All (group 1 1)) (120 ∷ [])) ∷ [])

abbrev posted-deliveries : List Event
posted-deliveries =
    Deliver 0 3 1
    ∷ Deliver 0 1 3
    ∷ Deliver 0 1 2
    ∷ Deliver 0 1 2
    ∷ Deliver 0 2 1
    ∷ Deliver 0 2 1
    ∷ Deliver 0 1 3
    ∷ Deliver 0 1 3
    ∷ []

pub posted-ranks : ranks posted-deliveries posted ≡ 8 ∷ 7 ∷ 6 ∷ 5 ∷ 4 ∷ 3 ∷ 2 ∷ 1 ∷ 0 ∷ []
posted-ranks = refl

-- to one member: five
abbrev to-one : NetState
to-one = ran (group-events ++ Act 1 (Command.Send (Dest.One (group 1 1)) (120 ∷ [])) ∷ [])

pub to-one-ranks : ranks (Deliver 0 3 1 ∷ Deliver 0 1 3 ∷ Deliver 0 1 2 ∷ Deliver 0 2 1 ∷ Deliver 0 1 3 ∷ []) to-one ≡ 5 ∷ 4 ∷ 3 ∷ 2 ∷ 1 ∷ 0 ∷ []
to-one-ranks = refl
