-- What a scenario says.
use Rattle.std.specs.Prelude.{ℕ, ◌≡◌, ◌==◌, Bool, List, []}
use Rattle.std.specs.List.{All, list_any}
use Rattle.chorus_ui.specs.declared.ui.Ui.{Ui}
use Rattle.chorus_ui.specs.declared.layout.Layout.{Layout}
use Rattle.chorus_entry.specs.declared.command.Command.{Command}
use Rattle.chorus_scene.specs.declared.scenario.SetupLine.{SetupLine}
use Rattle.chorus_scene.specs.declared.scenario.Step.{Step}

-- the commands of one caller, in their order, and which of them are awaits, counted from 0, rising
pub record Script : Type 0 where
  pub actor : Ui
  pub commands : List Command
  pub waits : List ℕ

-- the command with this number, counted from 0, is an await
abbrev pub is_await : List ℕ → ℕ → Bool
is_await waits i = list_any (λ (j : ℕ). j == i) waits

-- a scenario, with the layout for which it was read; claims are kept as they are spelled
pub record Scene : Type 0 where
  pub layout : Layout
  pub version : ℕ
  pub sites : ℕ
  pub setup : List SetupLine
  pub scripts : List Script
  pub claims : List (List ℕ)
  pub schedule : List Step

-- the scenario of these parts, which claims nothing
abbrev pub scene_with : Layout → ℕ → ℕ → List SetupLine → List Script → List Step → Scene
scene_with layout version sites setup scripts schedule = record {
  layout = layout;
  version = version;
  sites = sites;
  setup = setup;
  scripts = scripts;
  claims = [];
  schedule = schedule;
}

-- the scenario with these claims
abbrev pub with_claims : List (List ℕ) → Scene → Scene
with_claims claims c = record c { claims = claims }

-- no command of it is an await
abbrev pub HasNoWait : Scene → Type 0
HasNoWait c = All (λ (script : Script). script.waits ≡ []) c.scripts
