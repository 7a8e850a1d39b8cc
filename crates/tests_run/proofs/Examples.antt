-- Examples, each computed: what is a drain and what is none, and room that was not used.
use Rattle.std.proofs.Common.{ℕ, ◌≡◌, ◌+◌, ◌≤◌, ◌==◌, List, [], ◌∷◌, length, refl, ap, arith}
use Rattle.std.proofs.lemmas.Bool.{eq-eqb}
use Rattle.std.specs.Prelude.{if◌then◌else◌}
use Rattle.chorus_ui.specs.declared.kind.Kind.TheVariants as kinds
use Rattle.chorus_ui.specs.declared.layout.Layout.{Layout}
use Rattle.chorus_entry.specs.declared.command.Command.{Command}
use Rattle.chorus_entry.specs.declared.dest.Dest.{Dest}
use Rattle.law_network.specs.Network.{NetState, Event, Enter, Act, schedule}
use Rattle.chorus_place.specs.Calls.{Place}
use Rattle.chorus_net.specs.Drains.{Drains}
use Rattle.chorus_net.specs.Room.{UsesRoom}

abbrev two_sites : Layout
two_sites = record { sites = 2; turns = 1 }

abbrev enters : Event
enters = Enter (record { site = 1; kind = kinds.Actor; number = 1 }) 0

abbrev sends : Event
sends = Act 0 (Command.Send (Dest.Port (record { site = 2; kind = kinds.Port; number = 1 })) (7 ∷ []))

-- where no packet is left, none is worked off
abbrev rests : NetState
rests = schedule two_sites (enters ∷ [])

is-drained : Drains two_sites rests rests 0
is-drained = record { count = 0; drained = refl; unworn = tt; dry = refl; empty = refl; total = refl }

-- where one is, that is no drain, and where none was, none was worked off
abbrev waits : NetState
waits = schedule two_sites (sends ∷ enters ∷ [])

not-empty : (n : ℕ) → Drains two_sites waits waits n → ⊥
not-empty n d = (let e : waits.packets ≡ [] = d.empty in cc)

-- a place has room, and then none, and has put and appended nothing
same-room : (puts : ℕ → ℕ) (places : List Place) → UsesRoom puts places places
same-room puts places number = omega arith

lost-room : (p : Place) → p.number ≡ 1 → 1 ≤ p.spare → UsesRoom (λ n. 0) (p ∷ []) [] → ⊥
lost-room p is some h =
    let le : (if p.number == 1 then p.spare else 0) + (if p.number == 1 then length p.journal else 0) ≤ 0 = h 1 in
    let own : (if p.number == 1 then p.spare else 0) ≡ p.spare = ap (λ b. if b then p.spare else 0) (eq-eqb p.number 1 is) in
    omega (arith, le, own, some)
