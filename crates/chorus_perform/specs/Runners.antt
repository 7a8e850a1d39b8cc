-- The passes of scripts come, run and go.
-- n is a nucleus, c a scenario, i the index of a script, from 0, a and b are a pass, or a runner, before and after,
-- begun is the clock at which the passes came.
use Rattle.std.specs.Prelude.{ℕ, ◌≡◌, ◌<◌, ◌+◌, ◌&&◌, Bool, true, false, List, [], ◌++◌, length, reverse, Some, None, Result, Ok, Err, IfOk, OnOk, OnErr, slice_get, slice_index_or}
use Rattle.std.specs.List.{All}
use Rattle.chorus_ui.specs.declared.ui.Ui.{Ui}
use Rattle.chorus_entry.specs.declared.command.Command.{Command}
use Rattle.chorus_turn.specs.declared.knowledge.Note.{Note}
use Rattle.chorus_turn.specs.Knowing.{note_of}
use Rattle.law_closing.specs.Places.{PlaceNote}
use Rattle.law_closing.specs.Remarks.{turns_in}
use Rattle.chorus_scene.specs.Scene.{Scene, Script, HasNoWait}
use Rattle.chorus_nucleus.specs.SiteTurns.Turning.{HasSeenMore}
use Rattle.chorus_nucleus.specs.declared.nucleus.Nucleus.{Nucleus}
use Rattle.chorus_nucleus.specs.declared.pass.Pass.{Pass}
use Rattle.chorus_nucleus.specs.Passes.{known, caller_of, worn_by, IsPassOf}
use Rattle.chorus_perform.specs.declared.runner.Runner.{Runner}
use Rattle.chorus_perform.specs.declared.stopped.Halted.{Halted}
use Rattle.chorus_perform.specs.Going.{Goes, BeginAbove, CommandsUpTo}
use Rattle.chorus_perform.specs.Halting.{IsHalted}
use Rattle.chorus_perform.specs.Scripts.{IsOfScript, IsKeeper, PerformsSetup}

-- Seat 0.

-- it has performed the setup
pub record IsSetUp (c : Scene) (pass : Pass) : Type 0 where
  pub keeper : IsKeeper 0 pass
  pub setup : PerformsSetup c (known pass).mine
  pub first : CommandsUpTo (caller_of pass).last (turns_in (known pass).mine)

-- it has entered so many passes, and all else is as it was
pub record HasEntered (count : ℕ) (a b : Pass) : Type 0 where
  pub keeper : IsKeeper count b
  pub mine : (known b).mine ≡ (known a).mine
  pub caller : caller_of b ≡ caller_of a
  pub worn : worn_by b ≡ worn_by a

-- A runner.

-- it performed all of its script; where it did not it halted, or waits
abbrev pub is_whole : Result Bool Halted → Bool
is_whole (Ok all) = all
is_whole (Err halted) = false

-- where nothing waits, all of it was performed, unless it halted
abbrev pub WholeUnless : Scene → Result Bool Halted → Type 0
WholeUnless c r = HasNoWait c → IfOk r (λ all. all ≡ true)

-- how two end: one halts where one of them does
abbrev pub both : Result Bool Halted → Result Bool Halted → Result Bool Halted
both (Ok a) (Ok b) = Ok (a && b)
both (Ok a) (Err halted) = Err halted
both (Err halted) r = Err halted

-- how the scripts ended, where all came
abbrev pub if_came : Bool → Result Bool Halted → Result Bool Halted
if_came true how = how
if_came false how = Err (record {})

-- a new pass with this seat in the actor
pub record IsNew (seat : ℕ) (actor : Ui) (pass : Pass) : Type 0 where
  pub seat_is : (known pass).seat ≡ seat
  pub mine : (known pass).mine ≡ []
  pub notes : (known pass).notes ≡ []
  pub keeper : (known pass).keeper ≡ false
  pub actor_is : (caller_of pass).actor ≡ actor
  pub posts : (caller_of pass).posts ≡ 0
  pub worn : worn_by pass ≡ None

pub record IsReadyAt (n : Nucleus) (c : Scene) (i : ℕ) (r : Runner) : Type 0 where
  pub inside : i < length c.scripts
  pub begins : OnOk r.ended ⊥
  pub pass : IsPassOf n r.pass
  pub new : (script : Script) → slice_get c.scripts i ≡ Some script → IsNew (i + 1) script.actor r.pass

-- the runner performed the first commands of its script, or all, and no clock was worn unless it halted
pub record HasRunAt (n : Nucleus) (c : Scene) (i : ℕ) (a b : Runner) : Type 0 where
  pub pass : IsPassOf n b.pass
  pub script : Script
  pub is : slice_get c.scripts i ≡ Some script
  pub given : List Command
  pub left : List Command
  pub whole : script.commands ≡ given ++ left
  pub goes : Goes given a.pass b.pass
  pub all : is_whole b.ended ≡ true → left ≡ []
  pub plain : WholeUnless c b.ended
  pub unworn : OnOk b.ended (worn_by b.pass ≡ worn_by a.pass)
  pub halted : OnErr b.ended (IsHalted n b.pass)

-- what the runner made is of its script, all of it where it performed all
pub record IsEndingAt (n : Nucleus) (c : Scene) (begun i : ℕ) (r : Runner) : Type 0 where
  pub pass : IsPassOf n r.pass
  pub notes : (known r.pass).notes ≡ []
  pub keeper : (known r.pass).keeper ≡ false
  pub script : IsOfScript (is_whole r.ended) c i (note_of (known r.pass))
  pub plain : WholeUnless c r.ended
  pub unworn : OnOk r.ended (worn_by r.pass ≡ None)
  pub later : BeginAbove begun (turns_in (known r.pass).mine)

-- Runners, that of script i + 1 at i.

pub record AreReady (n : Nucleus) (c : Scene) (rs : List Runner) : Type 0 where
  pub each : (i : ℕ) (d : Runner) → i < length rs → IsReadyAt n c i (slice_index_or rs i d)

-- they were just entered, of callers with this last clock
pub record AreEntered (n : Nucleus) (c : Scene) (begun : ℕ) (rs : List Runner) : Type 0 where
  pub ready : AreReady n c rs
  pub last : (i : ℕ) (d : Runner) → i < length rs → (caller_of (slice_index_or rs i d).pass).last ≡ begun

pub record HaveRun (n : Nucleus) (c : Scene) (before after : List Runner) : Type 0 where
  pub each : (i : ℕ) (d : Runner) → i < length before →
      HasRunAt n c i (slice_index_or before i d) (slice_index_or after i d)

pub record AreEnding (n : Nucleus) (c : Scene) (begun : ℕ) (rs : List Runner) : Type 0 where
  pub each : (i : ℕ) (d : Runner) → i < length rs → IsEndingAt n c begun i (slice_index_or rs i d)

-- the pass has the notes of the scripts from the index m on, that of the first last, whose turns began above its
-- caller's clock; its caller was shown what they had seen, and all else is as it was
pub record HasRetired (how : Result Bool Halted) (c : Scene) (m count : ℕ) (a b : Pass) : Type 0 where
  pub later : All (λ (x : Note PlaceNote). BeginAbove (caller_of a).last (turns_in x.mine)) (known b).notes
  pub notes : length (known b).notes ≡ count
  pub scripts : (i : ℕ) (note : Note PlaceNote) → slice_get (reverse (known b).notes) i ≡ Some note →
      IsOfScript (is_whole how) c (m + i) note
  pub seat : (known b).seat ≡ (known a).seat
  pub mine : (known b).mine ≡ (known a).mine
  pub keeper : (known b).keeper ≡ (known a).keeper
  pub made : (known b).made ≡ (known a).made
  pub caller : HasSeenMore (caller_of a) (caller_of b)
  pub plain : WholeUnless c how
  pub unworn : OnOk how (worn_by b ≡ worn_by a)
