-- What a call answers, beside what the bytes say.
use Rattle.std.specs.Prelude.{◌≡◌, ℕ, List, Result, Ok, Err}
use Rattle.chorus_frame.specs.declared.fault.DecodeFault.{DecodeFault}
use Rattle.chorus_frame.specs.declared.fault.DecodeFault.TheVariants as calls
use Rattle.chorus_frame.specs.Fault.{Fault}
use Rattle.chorus_frame.specs.Fault as faults

-- the call says the fault that the bytes have; want of memory says nothing of them
abbrev pub Fails : {A : Type 0} → DecodeFault → Result A Fault → Type 0
Fails calls.Short read = read ≡ Err faults.Short
Fails calls.Kind read = read ≡ Err faults.Kind
Fails calls.Range read = read ≡ Err faults.Range
Fails calls.Trailing read = read ≡ Err faults.Trailing
Fails (calls.Memory error) read = Unit {0}

-- the call gives what the bytes say, unless there is no memory
abbrev pub Gives : {A : Type 0} → Result A DecodeFault → Result A Fault → Type 0
Gives (Ok value) read = read ≡ Ok value
Gives (Err fault) read = Fails fault read

-- the same of a call that reads a part, and leaves the rest
abbrev pub Reads : {A : Type 0} → Result A DecodeFault → List ℕ → Result (A × List ℕ) Fault → Type 0
Reads (Ok value) rest read = read ≡ Ok (value, rest)
Reads (Err fault) rest read = Fails fault read

-- the same of a call that leaves what it reads in a value of its caller
abbrev pub Fills : {U A : Type 0} → Result U DecodeFault → A → List ℕ → Result (A × List ℕ) Fault → Type 0
Fills (Ok done) value rest read = read ≡ Ok (value, rest)
Fills (Err fault) value rest read = Fails fault read
