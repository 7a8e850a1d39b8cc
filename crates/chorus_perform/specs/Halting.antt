-- Why a pass halts, and what it makes of what its calls are told.
-- n is a nucleus, c a command, p the number of a place, a and b are a pass before and after.
use Rattle.std.specs.Prelude.{ℕ, ◌⊎◌, Result, Ok, Err}
use Rattle.chorus_entry.specs.declared.command.Command.{Command}
use Rattle.law_machine.specs.declared.reply.Reply.{Reply}
use Rattle.chorus_serve.specs.declared.served.Pump.{Pump}
use Rattle.chorus_nucleus.specs.declared.fault.CallFault.{CallFault}
use Rattle.chorus_nucleus.specs.declared.fault.CallFault.TheVariants as faults
use Rattle.chorus_nucleus.specs.declared.nucleus.Nucleus.{Nucleus}
use Rattle.chorus_nucleus.specs.declared.pass.Pass.{Pass}
use Rattle.chorus_nucleus.specs.Calls.{IsCall, IsServe}
use Rattle.chorus_perform.specs.declared.stopped.Halted.{Halted}

-- the call found no memory, or a worn clock: a pass that is told this halts; where the place was busy it goes on
abbrev pub Halts : {T : Type 0} → Result T CallFault → Type 0
Halts (Ok x) = ⊥
Halts (Err (faults.Busy by)) = ⊥
Halts (Err (faults.Memory none)) = Unit {0}
Halts (Err (faults.Worn clock)) = Unit {0}

-- what is made of what a call was told: a halt exactly where it is one
abbrev pub Answers : {T U : Type 0} → Result T CallFault → Result U Halted → Type 0
Answers told (Ok x) = Halts told → ⊥
Answers told (Err halted) = Halts told

-- the one call of a try of the command, and of a pump of the place, was told this
abbrev pub IsTried : {U : Type 0} → Nucleus → Command → Pass → Pass → Result U Halted → Type 0
IsTried n c a b r = (told : Result Reply CallFault) × (IsCall n c a b told × Answers told r)

abbrev pub IsPumped : {U : Type 0} → Nucleus → ℕ → Pass → Pass → Result U Halted → Type 0
IsPumped n p a b r = (told : Result Pump CallFault) × (IsServe n p a b told × Answers told r)

-- the last call of the pass, with a command or at a place, was told why it halts
abbrev pub HaltsAtCall : Nucleus → Pass → Type 0
HaltsAtCall n b = (a : Pass) × ((c : Command) × ((told : Result Reply CallFault) × (IsCall n c a b told × Halts told)))

abbrev pub HaltsAtServe : Nucleus → Pass → Type 0
HaltsAtServe n b = (a : Pass) × ((p : ℕ) × ((told : Result Pump CallFault) × (IsServe n p a b told × Halts told)))

abbrev pub IsHalted : Nucleus → Pass → Type 0
IsHalted n b = HaltsAtCall n b ⊎ HaltsAtServe n b
