-- A fault in one field is the fault of all that is read from there on.
use Rattle.std.proofs.Common.{Result, refl}
use Rattle.chorus_frame.specs.declared.fault.DecodeFault.{DecodeFault}
use Rattle.chorus_frame.specs.declared.fault.DecodeFault.TheVariants as calls
use Rattle.chorus_frame.specs.Fault.{Fault}
use Rattle.chorus_frame.specs.Numbers.{◌>>=◌}
use Rattle.chorus_frame.specs.Calls.{Fails}

pub Fails-then : {A B : Type 0} (fault : DecodeFault) (read : Result A Fault) (next : A → Result B Fault) → Fails fault read → Fails fault (read >>= next)
Fails-then calls.Short read next h = rw h refl
Fails-then calls.Kind read next h = rw h refl
Fails-then calls.Range read next h = rw h refl
Fails-then calls.Trailing read next h = rw h refl
Fails-then (calls.Memory error) read next h = tt
