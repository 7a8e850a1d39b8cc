-- The four fates of messages, and pasts, none of them legal, whose Take and Delete entries tell them wrongly.
use Rattle.std.proofs.Common.{ℕ, ◌≡◌, true, List, [], ◌∷◌, Some, None, refl, ◌∙◌, ap, arith}
use Rattle.std.specs.Prelude.{slice_get}
use Rattle.chorus_entry.specs.declared.entry.Entry.{Entry}
use Rattle.chorus_entry.specs.declared.id.MsgId.{MsgId}
use Rattle.chorus_entry.specs.declared.tag.Tag.{Tag}
use Rattle.chorus_entry.specs.declared.dest.Dest.{Dest}
use Rattle.chorus_entry.specs.declared.act.Act.{Act}
use Rattle.chorus_world.specs.declared.spot.Spot.{Spot}
use Rattle.chorus_world.specs.Views.{on}
use Rattle.chorus_world.specs.Ports.{PortState, fate}
use Rattle.chorus_world.specs.Fates.{MessageFate, fate_at}
use Rattle.chorus_world.specs.Steps.{is_legal}
use Rattle.chorus_world.specs.AcceptedLaws.{DiscardedByFate, ReceivedByFate}
use Rattle.chorus_world.proofs.Examples.Names.{actor, away, first, now, port, second, two_sites}

abbrev state : ℕ → List ℕ → Spot → PortState
state n path spot = record { capacity = 2; accepted = first ∷ second ∷ []; taken = n; path = path; spot = spot }

abbrev post : MsgId → Act
post x = Act.Post (record { id = x; tag = Tag.Plain; body = 7 ∷ [] }) (Dest.Port port)

-- two messages are accepted, and the first is received; the second then waits, moves with its port, or is discarded with it
abbrev received_one : List Entry
received_one =
    now 6 (Act.Take port 0 first)
    ∷ now 5 (Act.Accept second port 1)
    ∷ now 4 (post second)
    ∷ now 3 (Act.Accept first port 0)
    ∷ now 2 (post first)
    ∷ now 1 (Act.Make port actor 2)
    ∷ []

abbrev moving : List Entry
moving = now 7 (Act.Depart port 2 away 1) ∷ received_one

abbrev ended : List Entry
ended = now 7 (Act.Delete port (second ∷ [])) ∷ received_one

are-legal : (is_legal two_sites moving ≡ true) × (is_legal two_sites ended ≡ true)
are-legal = (refl, refl)

states-are : (fate (on port received_one) ≡ Some (state 1 (1 ∷ []) (Spot.Held actor))) × (fate (on port moving) ≡ Some (state 1 (1 ∷ 2 ∷ []) (Spot.Moving away))) × (fate (on port ended) ≡ Some (state 1 (1 ∷ []) Spot.Ended))
states-are = (refl, refl, refl)

-- the first was received, whatever comes of the port
first-received : (fate_at 0 (state 1 (1 ∷ []) (Spot.Held actor)) ≡ MessageFate.Received) × (fate_at 0 (state 1 (1 ∷ 2 ∷ []) (Spot.Moving away)) ≡ MessageFate.Received) × (fate_at 0 (state 1 (1 ∷ []) Spot.Ended) ≡ MessageFate.Received)
first-received = (refl, refl, refl)

second-left : (fate_at 1 (state 1 (1 ∷ []) (Spot.Held actor)) ≡ MessageFate.Queued) × (fate_at 1 (state 1 (1 ∷ 2 ∷ []) (Spot.Moving away)) ≡ MessageFate.UnderWay) × (fate_at 1 (state 1 (1 ∷ []) Spot.Ended) ≡ MessageFate.Discarded)
second-left = (refl, refl, refl)

-- the second message is taken before the first: the first one has the fate, and no Take entry
abbrev accepted_two : List Entry
accepted_two = now 3 (Act.Accept second port 1) ∷ now 2 (Act.Accept first port 0) ∷ now 1 (Act.Make port actor 2) ∷ []

not-received : ReceivedByFate (now 4 (Act.Take port 1 second) ∷ accepted_two) → ⊥
not-received h =
    let e : Some second ≡ Some first = (h port 0 first (state 1 (1 ∷ []) (Spot.Held actor)) refl refl).0 refl in
    let ids : second ≡ first = cc in
    let numbers : second.number ≡ first.number = ap (λ (x : MsgId). x.number) ids in
    omega (arith, numbers)

-- the port is deleted with two messages, and its Delete has one
not-discarded : DiscardedByFate (now 4 (Act.Delete port (first ∷ [])) ∷ accepted_two) → ⊥
not-discarded h =
    let found = (h port 1 second (state 0 (1 ∷ []) Spot.Ended) refl refl).0 refl in
    let named : Some (first ∷ []) ≡ Some found.0 = found.1 in
    let ids : first ∷ [] ≡ found.0 = cc in
    let at : slice_get found.0 1 ≡ Some second = found.2 in
    let none : None ≡ Some second = ap (λ xs. slice_get xs 1) ids ∙ at in
    absurd (cc)
