-- Jobs, and jobs that are done.
-- n is the nucleus, l a layout, q a port, way what the handler does.
use Rattle.std.specs.Prelude.{ℕ, ◌≡◌, ◌≤◌, ◌+◌, true, false, None, Some, List, [], ◌∷◌, map, Option, Err, slice_get}
use Rattle.std.specs.List.{All, Contains}
use Rattle.chorus_ui.specs.declared.ui.Ui.{Ui}
use Rattle.chorus_ui.specs.declared.layout.Layout.{Layout}
use Rattle.chorus_ui.specs.Layout.{has_actor}
use Rattle.chorus_ui.specs.NameKind.{is_actor, is_port}
use Rattle.chorus_nucleus.specs.declared.fault.CallFault.{CallFault}
use Rattle.chorus_nucleus.specs.declared.nucleus.Nucleus.{Nucleus}
use Rattle.chorus_nucleus.specs.declared.pass.Pass.{Pass}
use Rattle.chorus_nucleus.specs.Passes.{layout_of, known, caller_of, worn_by, IsPassOf}
use Rattle.chorus_nucleus.specs.Calls.{worn_after}
use Rattle.chorus_nucleus.specs.declared.taken_message.TakeAnswer.{TakeAnswer}
use Rattle.chorus_nucleus.specs.Taking.{KeepsPass, TakesOn}
use Rattle.chorus_crew.specs.declared.job.Job.{Job}
use Rattle.chorus_crew.specs.declared.job.Done.{Done}
use Rattle.chorus_crew.specs.declared.job.Tally.{Tally}
use Rattle.chorus_crew.specs.Endings.{fault_of}
use Rattle.chorus_crew.specs.Handling.{Way, Drains}

-- the first worn clock, where a fault may have come
abbrev pub worn_behind : Option ℕ → Option CallFault → Option ℕ
worn_behind o None = o
worn_behind o (Some f) = worn_after {T = TakeAnswer} o (Err f)

-- the messages of the port were taken and handled with this pass
pub record IsWork {S : Type 0} (way : Way S) (n : Nucleus) (q : Ui) (t : Tally S) (old new : Pass) : Type 0 where
  pub keeps : KeepsPass n old new
  pub goes : TakesOn n q old new
  pub work : Drains way (layout_of n) q t.from t.count t.state t.ended (known old) (known new)
  pub worn : worn_by new ≡ worn_behind (worn_by old) (fault_of t.ended)

abbrev pub IsJobOf : Nucleus → Job → Type 0
IsJobOf n job = IsPassOf n job.pass × (is_port job.port ≡ true)

-- the job is done
pub record IsDoneOf {S : Type 0} (way : Way S) (n : Nucleus) (job : Job) (done : Done S) : Type 0 where
  pub index : done.index ≡ job.index
  pub port : done.port ≡ job.port
  pub work : IsWork way n job.port done.tally job.pass done.pass

-- one of these jobs is
abbrev pub IsDoneIn : {S : Type 0} → Way S → Nucleus → List Job → Done S → Type 0
IsDoneIn way n jobs done = (job : Job) × Contains jobs job × IsDoneOf way n job done

-- each of these jobs is, in their order
abbrev pub AreDoneOf : {S : Type 0} → Way S → Nucleus → List Job → List (Done S) → Type 0
AreDoneOf way n [] [] = Unit {0}
AreDoneOf way n (j ∷ jobs) (d ∷ dones) = IsDoneOf way n j d × AreDoneOf way n jobs dones
AreDoneOf way n _ _ = ⊥

-- each job has its place in the list as its number
abbrev pub IsNumbered : List Job → Type 0
IsNumbered jobs = (i : ℕ) (j : Job) → slice_get jobs i ≡ Some j → j.index ≡ i

abbrev pub indices : List Job → List ℕ
indices jobs = map (λ (j : Job). j.index) jobs

abbrev pub done_indices : {S : Type 0} → List (Done S) → List ℕ
done_indices {S} dones = map (λ (d : Done S). d.index) dones

-- a pass of this nucleus that draws no numbers and into which none was retired
pub record IsPlain (n : Nucleus) (pass : Pass) : Type 0 where
  pub of_nucleus : IsPassOf n pass
  pub keeper : (known pass).keeper ≡ false
  pub notes : (known pass).notes ≡ []

-- the job that was made for a pair, with a new pass of the next seat
pub record IsEntered (n : Nucleus) (index seat : ℕ) (p : Ui × Ui) (job : Job) : Type 0 where
  pub number : job.index ≡ index
  pub of_port : job.port ≡ p.0
  pub of_actor : (caller_of job.pass).actor ≡ p.1
  pub plain : IsPlain n job.pass
  pub seat_is : (known job.pass).seat ≡ seat
  pub nothing : (known job.pass).mine ≡ []
  pub unworn : worn_by job.pass ≡ None

-- those of these pairs, in their order
abbrev pub AreEntered : Nucleus → ℕ → ℕ → List (Ui × Ui) → List Job → Type 0
AreEntered n index seat [] [] = Unit {0}
AreEntered n index seat (p ∷ pairs) (j ∷ jobs) = IsEntered n index seat p j
    × AreEntered n (index + 1) (seat + 1) pairs jobs
AreEntered n index seat _ _ = ⊥

-- the callers of these jobs begin at this clock, or a later one
abbrev pub BeginAt : ℕ → List Job → Type 0
BeginAt clock jobs = All (λ (j : Job). clock ≤ (caller_of j.pass).last) jobs

abbrev pub AreTheActors : Layout → List (Ui × Ui) → Type 0
AreTheActors l pairs = All (λ (p : Ui × Ui). (is_actor p.1 ≡ true) × (has_actor l p.1 ≡ true)) pairs

-- the keeper has drawn so many numbers more, and is else as it was
pub record HasDrawn (n : Nucleus) (count : ℕ) (old new : Pass) : Type 0 where
  pub pass : IsPassOf n new
  pub knows : known new ≡ record (known old) { made = (known old).made + count }
  pub caller : caller_of new ≡ caller_of old
  pub worn : worn_by new ≡ worn_by old
