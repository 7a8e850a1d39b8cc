-- A source and a sink in memory.
use Rattle.std.specs.Prelude.{ℕ, Bool, if◌then◌else◌, List, Contains}
use Rattle.chorus_io.specs.Count.{raised}

-- which calls fail, by their numbers from 1; how many calls were made; and the count of faults
pub record Plan : Type 0 where
  pub failing : List ℕ
  pub made : ℕ
  pub faults : ℕ

-- no call was made yet
abbrev pub fresh : List ℕ → Plan
fresh failing = record { failing = failing; made = 0; faults = 0 }

-- the number of the next call is listed
abbrev pub FailsNext : Plan → Type 0
FailsNext plan = Contains plan.failing (raised plan.made)

-- the plan after one more call, which succeeded or failed
abbrev pub after_call : Plan → Bool → Plan
after_call plan succeeded = record {
  failing = plan.failing;
  made = raised plan.made;
  faults = if succeeded then plan.faults else raised plan.faults;
}

-- a source: the bytes left
pub record SourceState : Type 0 where
  pub left : List ℕ
  pub plan : Plan

-- a sink: the bytes held, and the most that one write takes
pub record SinkState : Type 0 where
  pub held : List ℕ
  pub most : ℕ
  pub plan : Plan
