-- What a receive that waits did.
use Rattle.std.specs.Prelude.{ℕ, zero, suc, ◌≡◌, ◌+◌, ◌-◌, ◌*◌, ◌^◌, min, List, [], ◌∷◌, ◌++◌, length, Result, Ok, Err, IfOk}
use Rattle.chorus_ui.specs.declared.ui.Ui.{Ui}
use Rattle.chorus_nucleus.specs.declared.fault.CallFault.{CallFault}
use Rattle.chorus_nucleus.specs.declared.nucleus.Nucleus.{Nucleus}
use Rattle.chorus_nucleus.specs.declared.pass.Pass.{Pass}
use Rattle.chorus_nucleus.specs.Passes.{known}
use Rattle.chorus_choose.specs.declared.bell_ends.Waiter.{Waiter}
use Rattle.chorus_choose.specs.declared.received.Received.{Received}
use Rattle.chorus_choose.specs.declared.received.Received.TheVariants as receives
use Rattle.chorus_choose.specs.declared.received.Waited.{Waited}
use Rattle.chorus_choose.specs.Bells.{notes_of, waits_of}
use Rattle.chorus_choose.specs.Rounds.{IsReceive, rounds}

-- the answer of its last round
abbrev pub last_round : Result Waited CallFault → Result Received CallFault
last_round (Ok w) = Ok (receives.Taken w.port w.pos w.message w.settled)
last_round (Err f) = Err f

-- `count` whole rounds over the ports were in vain, and then one gave the message or was stopped
pub record WaitsAndReceives (n : Nucleus) (count : ℕ) (ports : List Ui) (r : Result Waited CallFault)
    (old new : Pass) : Type 0 where
  pub parks : IfOk r (λ w. w.parks ≡ min count (2 ^ 32 - 1))
  pub last : IsReceive n (rounds count ports) ports (last_round r) old new

-- how much a pass that had made so much has made behind the first round over so many ports, behind the second and so
-- on: each look in vain makes one entry
abbrev pub made_behind : ℕ → ℕ → ℕ → List ℕ
made_behind made ports zero = []
made_behind made ports (suc count) = made_behind made ports count ++ (made + (count + 1) * ports) ∷ []

-- It took `count` tokens, each in a wait of its own. The first wait stood behind one round in vain, and each later one
-- behind exactly one more, as what the pass had made before it tells.
pub record HasWaited (count : ℕ) (ports : List Ui) (begun : Pass) (old new : Waiter) : Type 0 where
  pub taken : waits_of new ≡ waits_of old + count
  pub behind : notes_of new ≡ notes_of old ++ made_behind (length (known begun).mine) (length ports) count
