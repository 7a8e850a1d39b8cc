-- What no turn changes: the place's layout and number, and the caller's seat and actor.
use Rattle.std.proofs.Common.{◌≡◌, refl, ◌∙◌}
use Rattle.chorus_entry.specs.declared.command.Command.{Command}
use Rattle.chorus_entry.specs.declared.packet.Packet.{Packet}
use Rattle.law_machine.specs.PlaceState.{Turn}
use Rattle.law_machine.specs.PlaceMachine.{act, work}
use Rattle.law_machine.proofs.Machine.Chains.{act-keeps, work-keeps}

-- the turn is of the same place and caller
pub record IsOf (t u : Turn) : Type 0 where
  pub layout : u.place.layout ≡ t.place.layout
  pub number : u.place.number ≡ t.place.number
  pub seat : u.caller.seat ≡ t.caller.seat
  pub actor : u.caller.actor ≡ t.caller.actor

abbrev begun : (t : Turn) → IsOf t t
begun t = record { layout = refl; number = refl; seat = refl; actor = refl }

pub act-stays : (c : Command) (t : Turn) → IsOf t (act c t)
act-stays c t =
    act-keeps (IsOf t) (λ a x u s h. record { layout = h.layout; number = h.number; seat = s.seat ∙ h.seat; actor = s.actor ∙ h.actor }) c t (begun t)

pub work-stays : (k : Packet) (t : Turn) → IsOf t (work k t)
work-stays k t =
    work-keeps (IsOf t) (λ a x u s h. record { layout = h.layout; number = h.number; seat = s.seat ∙ h.seat; actor = s.actor ∙ h.actor }) k t (begun t)
