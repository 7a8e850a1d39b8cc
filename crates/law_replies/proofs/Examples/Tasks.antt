-- Events that do not carry out their tasks.
use Rattle.std.proofs.Common.{◌≡◌, List, [], ◌∷◌, refl, arith}
use Rattle.chorus_ui.specs.declared.kind.Kind.TheVariants as kinds
use Rattle.chorus_ui.specs.declared.layout.Layout.{Layout}
use Rattle.chorus_entry.specs.declared.command.Command.{Command}
use Rattle.chorus_entry.specs.declared.dest.Dest.{Dest}
use Rattle.law_network.specs.Network.{Event, Enter, Act}
use Rattle.law_network.specs.Tasks.{Task, Do, Drain, CarryOut}

abbrev two_sites : Layout
two_sites = record { sites = 2; turns = 1 }

abbrev enters : Event
enters = Enter (record { site = 1; kind = kinds.Actor; number = 1 }) 0

-- it sends to a port of the other site, so a packet is put
abbrev sends : Event
sends = Act 0 (Command.Send (Dest.Port (record { site = 2; kind = kinds.Port; number = 1 })) (7 ∷ []))

abbrev tasks : List Task
tasks = Do sends ∷ Do enters ∷ []

-- in this order they do
carried : CarryOut two_sites tasks (sends ∷ enters ∷ [])
carried = (enters ∷ [], (refl, ([], (refl, refl))))

-- one is missing, one is too much, or they come in another order
missing : CarryOut two_sites tasks (enters ∷ []) → ⊥
missing h = (let e : enters ≡ sends = (let both : enters ∷ [] ≡ sends ∷ h.0 = h.1.0 in cc) in cc)

too-much : CarryOut two_sites (Do enters ∷ []) (sends ∷ enters ∷ []) → ⊥
too-much h =
    let e : sends ∷ enters ∷ [] ≡ enters ∷ h.0 = h.1.0 in
    let first : sends ≡ enters = cc in
    cc

turned : CarryOut two_sites tasks (enters ∷ sends ∷ []) → ⊥
turned h = (let e : enters ∷ sends ∷ [] ≡ sends ∷ h.0 = h.1.0 in let first : enters ≡ sends = cc in cc)

-- a drain that leaves the packet is none
not-dry : CarryOut two_sites (Drain 0 ∷ tasks) (sends ∷ enters ∷ []) → ⊥
not-dry h = (let d = h.1.0 in let e : 2 ≡ 0 = d.dry in omega (arith, e))
