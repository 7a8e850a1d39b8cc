-- Refusals: what a fault of the world says.
use Rattle.std.specs.Prelude.{◌≡◌, None}
use Rattle.chorus_entry.specs.declared.entry.Entry.{Entry}
use Rattle.chorus_checker.specs.declared.fault.WorldFault.{WorldFault}
use Rattle.chorus_checker.specs.declared.fault.WorldFault.TheVariants.{NotLegal, Memory}
use Rattle.chorus_world.specs.Steps.{State, next}
use Rattle.chorus_checker.specs.Rules.{rule_of}

-- there is no next world, and by which rule; or memory was wanting
abbrev pub IsRefusal : State → Entry → WorldFault → Type 0
IsRefusal w e (NotLegal rule) = (next w e ≡ None) × (rule ≡ rule_of w.layout w.past e)
IsRefusal w e (Memory fault) = Unit {0}
