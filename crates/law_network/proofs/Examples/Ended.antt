-- What became of messages, as the journal of their place tells; and what deliveries and drains answer.
use Rattle.std.proofs.Common.{◌≡◌, [], ◌∷◌, refl}
use Rattle.chorus_entry.specs.declared.tag.Tag.{Tag}
use Rattle.chorus_entry.specs.declared.dest.Dest.{Dest}
use Rattle.chorus_entry.specs.declared.answer.Answer.TheVariants as A
use Rattle.chorus_entry.specs.declared.command.Command.{Command}
use Rattle.law_network.specs.Network.{NetState, place, Enter, Act as Acts, Deliver, after, round, rounds, served, drained, delivery}
use Rattle.law_network.specs.Left.{placed}
use Rattle.std.specs.Prelude.{ℕ, length, map}
use Rattle.chorus_entry.specs.declared.id.MsgId.{MsgId}
use Rattle.law_machine.specs.declared.outcome.Outcome.{Outcome}
use Rattle.law_machine.specs.Outcomes.{outcome}
use Rattle.law_network.specs.declared.delivery.Delivered.{Delivered}
use Rattle.law_network.proofs.Examples.Standing.{middle}
use Rattle.law_network.proofs.Examples.Names.{actor, port, group, msg, mess, rec, held, ran}

abbrev outcome_at : ℕ → NetState → MsgId → Outcome
outcome_at p n x = outcome x (place p n).journal

-- place 2 of the state in the middle: a verdict that was told; a choice that was not heard of; copies that it does not know; no copy of a direct post; no such post
pub outcomes-before : map (outcome_at 2 middle) (msg 1 1 0 ∷ msg 1 2 0 ∷ msg 1 2 1 ∷ msg 1 1 1 ∷ msg 1 4 0 ∷ msg 3 1 0 ∷ [])
    ≡ Outcome.Answer (A.Accepted 0) ∷ Outcome.Pending ∷ Outcome.Unknown ∷ Outcome.Unknown ∷ Outcome.Unknown ∷ Outcome.Unknown ∷ []
outcomes-before = refl

-- the reports of the choice and of one copy come
abbrev heard : NetState
heard = after (Deliver 0 1 2 ∷ Deliver 0 1 2 ∷ []) middle

pub outcomes-after : map (outcome_at 2 heard) (msg 1 2 0 ∷ msg 1 2 1 ∷ msg 1 2 2 ∷ msg 1 2 3 ∷ [])
    ≡ Outcome.Answer (A.Chosen 2) ∷ Outcome.Pending ∷ Outcome.Answer (A.Accepted 1) ∷ Outcome.Unknown ∷ []
outcomes-after = refl

-- a message that was told Stale and is tried again has no outcome
abbrev stale : NetState
stale = ran 3 1 (
    Enter (actor 1 1) 0
    ∷ Acts 0 (Command.Make (actor 1 1) 4)
    ∷ Enter (actor 3 1) 1
    ∷ Enter (actor 1 1) 1
    ∷ Acts 2 (Command.Move (port 1 1) (actor 2 1))
    ∷ Acts 1 (Command.Send (Dest.Port (port 1 1)) (120 ∷ []))
    ∷ Deliver 0 3 1
    ∷ Deliver 0 1 3
    ∷ [])

pub outcome-stale : outcome_at 3 stale (msg 1 1 0) ≡ Outcome.Pending
outcome-stale = refl

-- a post of place 1 to its own group, one to a group without members, and one to a port elsewhere
abbrev own_choice : NetState
own_choice = ran 2 1 (
    Enter (actor 1 1) 0
    ∷ Acts 0 (Command.Make (actor 1 1) 4)
    ∷ Acts 0 (Command.Make (actor 2 1) 4)
    ∷ Acts 0 (Command.GroupMake 1)
    ∷ Acts 0 (Command.Join (group 1 1) (port 1 1))
    ∷ Acts 0 (Command.Join (group 1 1) (port 2 1))
    ∷ Acts 0 (Command.GroupMake 1)
    ∷ Acts 0 (Command.Send (Dest.All (group 1 1)) (97 ∷ []))
    ∷ Acts 0 (Command.Send (Dest.One (group 1 2)) (98 ∷ []))
    ∷ Acts 0 (Command.Send (Dest.Port (port 2 1)) (99 ∷ []))
    ∷ [])

pub outcomes-own : map (outcome_at 1 own_choice) (msg 0 1 0 ∷ msg 0 1 1 ∷ msg 0 1 2 ∷ msg 0 1 3 ∷ msg 0 2 0 ∷ msg 0 3 0 ∷ msg 0 3 1 ∷ msg 0 4 0 ∷ [])
    ≡ Outcome.Answer (A.Chosen 2) ∷ Outcome.Answer (A.Accepted 0) ∷ Outcome.Pending ∷ Outcome.Unknown ∷ Outcome.Answer A.NoMember ∷ Outcome.Pending ∷ Outcome.Unknown ∷ Outcome.Unknown ∷ []
outcomes-own = refl

-- rounds until nothing is served: 5 of them, which work off 12 packets
abbrev rest : NetState
rest = drained 0 40 middle

pub drains-to-rest : rest.packets ≡ []
drains-to-rest = refl

pub drains-says : map (λ (p : ℕ). length (place p rest).journal) (1 ∷ 2 ∷ 3 ∷ []) ≡ (14 ∷ 10 ∷ 10 ∷ [])
drains-says = refl

pub drains-holds : placed rest ≡
    held 3 (rec (port 3 1) (actor 3 1) 4 0 0 ((mess (msg 1 2 1) Tag.Plain (98 ∷ [])) ∷ (mess (msg 1 3 1) Tag.Plain (99 ∷ [])) ∷ []) [])
    ∷ held 3 (rec (port 1 1) (actor 3 2) 4 1 0 ((mess (msg 1 1 0) (Tag.Request 1 (port 1 1)) (97 ∷ [])) ∷ (mess (msg 1 2 2) Tag.Plain (98 ∷ [])) ∷ (mess (msg 3 1 0) Tag.Plain (100 ∷ [])) ∷ (mess (msg 3 2 0) Tag.Plain (101 ∷ [])) ∷ []) ((1, 1) ∷ []))
    ∷ []
drains-holds = refl

pub rounds-rest : (after (rounds middle.layout 0 5) middle).packets ≡ []
rounds-rest = refl

pub rounds-work : served (rounds middle.layout 0 5) middle ≡ 12
rounds-work = refl

pub rounds-before : served (rounds middle.layout 0 6) middle ≡ 12
rounds-before = refl

pub order-of-a-round : round (record { sites = 3; turns = 1 }) 7 ≡
    Deliver 7 3 2 ∷ Deliver 7 3 1 ∷ Deliver 7 2 3 ∷ Deliver 7 2 1 ∷ Deliver 7 1 3 ∷ Deliver 7 1 2 ∷ []
order-of-a-round = refl

pub delivers : delivery 1 3 middle ≡ Delivered.Served
delivers = refl

pub delivers-nothing : delivery 3 1 middle ≡ Delivered.Nothing
delivers-nothing = refl
