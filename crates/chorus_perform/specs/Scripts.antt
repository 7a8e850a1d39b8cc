-- What the passes of a scenario performed, and what seat 0 knows of it when all were retired into it.
-- c is a scenario, i the index of a script, from 0, so that its pass has seat i + 1. With all, all was performed, else
-- a front of it.
use Rattle.std.specs.Prelude.{ℕ, ◌≡◌, ◌+◌, Bool, true, List, [], ◌++◌, length, reverse, Some, slice_get}
use Rattle.std.specs.List.{All}
use Rattle.chorus_ui.specs.declared.ui.Ui.{Ui}
use Rattle.chorus_entry.specs.declared.command.Command.{Command}
use Rattle.law_network.specs.Calls.{first_actor}
use Rattle.chorus_turn.specs.declared.knowledge.Placed.{Placed}
use Rattle.chorus_turn.specs.declared.knowledge.Note.{Note}
use Rattle.chorus_turn.specs.declared.knowledge.Knowledge.{Knowledge}
use Rattle.law_history.specs.Runs.{commands_given}
use Rattle.law_closing.specs.Places.{PlaceNote}
use Rattle.law_closing.specs.Remarks.{turns_in}
use Rattle.chorus_scene.specs.Limits.{Keeps}
use Rattle.chorus_scene.specs.Scene.{Scene, Script}
use Rattle.chorus_report.specs.Setup.{setup_commands}
use Rattle.chorus_nucleus.specs.declared.nucleus.Nucleus.{Nucleus}
use Rattle.chorus_nucleus.specs.declared.pass.Pass.{Pass}
use Rattle.chorus_nucleus.specs.Passes.{known, caller_of, layout_of}
use Rattle.law_closing.specs.Actors.{AreIn}
use Rattle.chorus_perform.specs.Going.{BeginAbove, CommandsUpTo}

-- Seat 0 has drawn so many numbers besides its own, and no pass has ended in it.
pub record IsKeeper (drawn : ℕ) (pass : Pass) : Type 0 where
  pub seat : (known pass).seat ≡ 0
  pub keeper : (known pass).keeper ≡ true
  pub made : (known pass).made ≡ drawn + 1
  pub notes : (known pass).notes ≡ []

-- the opening pass of a nucleus that was just started
pub record IsOpening (pass : Pass) : Type 0 where
  pub keeper : IsKeeper 0 pass
  pub mine : (known pass).mine ≡ []
  pub actor : (caller_of pass).actor ≡ first_actor

-- the scenario is of the nucleus' layout, and keeps its limits
pub record IsScenarioOf (n : Nucleus) (c : Scene) : Type 0 where
  pub layout : c.layout ≡ layout_of n
  pub keeps : Keeps c

-- What a pass made are turns of callers in this actor, and those with a command performed these commands, each once and
-- in their order, or the first of them.
pub record IsPerformedBy (all : Bool) (actor : Ui) (commands : List Command)
    (mine : List (Placed PlaceNote)) : Type 0 where
  pub left : List Command
  pub whole : commands ≡ commands_given (turns_in mine) ++ left
  pub within : AreIn actor mine
  pub none_left : all ≡ true → left ≡ []

-- what a pass made performed all of the setup
abbrev pub PerformsSetup : Scene → List (Placed PlaceNote) → Type 0
PerformsSetup c mine = IsPerformedBy true first_actor (setup_commands c) mine

-- the note is that of the pass of a script
pub record IsOfScript (all : Bool) (c : Scene) (i : ℕ) (note : Note PlaceNote) : Type 0 where
  pub script : Script
  pub is : slice_get c.scripts i ≡ Some script
  pub seat : note.seat ≡ i + 1
  pub performed : IsPerformedBy all script.actor script.commands note.mine

-- The setup stands before the scripts: there is a clock up to which its commands were answered, and above which each
-- turn of the passes in the notes began.
pub record IsSetUpFirst (v : Knowledge PlaceNote) : Type 0 where
  pub begun : ℕ
  pub setup : CommandsUpTo begun (turns_in v.mine)
  pub scripts : All (λ (n : Note PlaceNote). BeginAbove begun (turns_in n.mine)) v.notes

-- Seat 0 performed the setup, and into it were retired the passes that came, those of the first scripts, or of all: the
-- notes of them stand in its own, that of the first script last. It is the keeper, and no other pass is left.
pub record HasPerformed (all : Bool) (c : Scene) (v : Knowledge PlaceNote) : Type 0 where
  pub seat : v.seat ≡ 0
  pub keeper : v.keeper ≡ true
  pub ended : v.made ≡ length v.notes + 1
  pub count : all ≡ true → length v.notes ≡ length c.scripts
  pub setup : IsPerformedBy all first_actor (setup_commands c) v.mine
  pub first : IsSetUpFirst v
  pub scripts : (i : ℕ) (note : Note PlaceNote) → slice_get (reverse v.notes) i ≡ Some note → IsOfScript all c i note
