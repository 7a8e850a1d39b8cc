-- What every entry of the same caller keeps, a turn keeps; and a turn with a command appends an entry.
use Rattle.std.proofs.Common.{◌<◌, Option, Some, None}
use Rattle.chorus_entry.specs.declared.act.Act.{Act}
use Rattle.chorus_entry.specs.declared.command.Command.{Command}
use Rattle.chorus_entry.specs.declared.packet.Packet.{Packet}
use Rattle.law_machine.specs.PlaceState.{Turn, Change, say}
use Rattle.law_machine.specs.Own.{own}
use Rattle.law_machine.specs.PlaceMachine.{act, work}
use Rattle.law_machine.proofs.Machine.Steps.{Step, act_of, change_of, opening, begins}
use Rattle.law_machine.proofs.Machine.Follows.{IsSame, same-caller}
use Rattle.law_machine.proofs.Machine.Follows as follows

-- the packet brings an entry
abbrev pub Brings : Option Step → Type 0
Brings None = ⊥
Brings (Some s) = Unit {0}

module _ (P : Turn → Type 0) (keeps : (a : Act) (c : Change) (t : Turn) → IsSame c.caller t.caller → P t → P (say a c t)) where
  abbrev First : Turn → Type 0
  First t = (a : Act) (x : Change) → IsSame x.caller t.caller → P (say a x t)

  -- a turn keeps it, also where only its first entry gives it
  pub act-gives : (c : Command) (t : Turn) → First t → P (act c t)
  act-gives c t first = follows.act-gives P (λ a x u n s h. keeps a x u s h) t c (first (own c t))

  pub act-keeps : (c : Command) (t : Turn) → P t → P (act c t)
  act-keeps c t h = act-gives c t (λ a x s. keeps a x t s h)

  pub work-gives : (k : Packet) (t : Turn) → Brings (opening k.from k.cargo t) → First t → P (work k t)
  work-gives k t some first = follows.work-gives P (λ a x u n s h. keeps a x u s h) k t (by (opening k.from k.cargo t) some)
    where
      by : (o : Option Step) → Brings o → P (begins o t)
      by None some = absurd some
      by (Some s) some = first (act_of s t) (change_of s t) (same-caller s t)

  pub work-keeps : (k : Packet) (t : Turn) → P t → P (work k t)
  work-keeps k t h = follows.work-keeps P (λ a x u n s h. keeps a x u s h) k t h
