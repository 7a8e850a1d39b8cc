-- What became of the awaits of a scenario: how many commands of each script were done, and why no more.
-- c is a scenario, k the number of a script and of its seat, n how many of its commands were done, `done` how many of
-- each script, l a layout. A past has its newest entry first.
use Rattle.std.specs.Prelude.{ℕ, zero, suc, ◌≡◌, ◌⊎◌, ◌+◌, ◌-◌, true, false, nat_lt, if◌then◌else◌, List, [], ◌∷◌, take, drop, length, slice_get, slice_index_or, Option, Some}
use Rattle.std.specs.List.{flat_map}
use Rattle.std.specs.Option.{option_map}
use Rattle.chorus_ui.specs.declared.layout.Layout.{Layout}
use Rattle.chorus_ui.specs.declared.ui.Ui.{Ui}
use Rattle.chorus_entry.specs.declared.act.Act.{Act}
use Rattle.chorus_entry.specs.declared.command.Command.{Command}
use Rattle.chorus_entry.specs.declared.entry.Entry.{Entry}
use Rattle.chorus_entry.specs.Places.{place_for}
use Rattle.chorus_world.specs.Ports.{fate}
use Rattle.chorus_world.specs.Views.{on}
use Rattle.law_awaits.specs.Awaits.{is_taken, gives, own_acts}
use Rattle.law_network.specs.Network.{numbers}
use Rattle.chorus_scene.specs.Grammar.{script_at}
use Rattle.chorus_scene.specs.Scene.{Scene, Script, is_await}
use Rattle.chorus_show.specs.declared.status.Status.{Status}
use Rattle.chorus_show.specs.declared.status.Status.TheVariants.{Worn}
use Rattle.chorus_show.specs.declared.stuck.Stuck.{Stuck}
use Rattle.chorus_report.specs.Setup.{setup_commands}

-- the commands of each seat that were done: those of the setup for seat 0, and of script k the first ones
abbrev pub fronts_of : Scene → List ℕ → ℕ → Option (List Command)
fronts_of c done zero = Some (setup_commands c)
fronts_of c done (suc i) =
    option_map (λ (script : Script). take (slice_index_or done i 0) script.commands) (slice_get c.scripts i)

-- of the commands from number i on, which these acts answered, each await received a message
abbrev pub AwaitsTake : List ℕ → ℕ → List Act → Type 0
AwaitsTake waits i [] = Unit {0}
AwaitsTake waits i (act ∷ acts) = (is_await waits i ≡ true → is_taken act ≡ true) × AwaitsTake waits (i + 1) acts

-- the next command is an await, and its port gives nothing: the script's actor does not hold it at the await's place,
-- or no message waits in it
pub record IsStuck (l : Layout) (script : Script) (n : ℕ) (past : List Entry) : Type 0 where
  pub waits : is_await script.waits n ≡ true
  pub port : Ui
  pub is : slice_get script.commands n ≡ Some (Command.Take port)
  pub nothing : gives (place_for l script.actor (Command.Take port)) script.actor (fate (on port past)) ≡ false

-- each await of script k that was done received a message; and all its commands were done, or it is stuck at the next
pub record StandsAt (l : Layout) (script : Script) (k n : ℕ) (past : List Entry) : Type 0 where
  pub taken : AwaitsTake script.waits 0 (own_acts k past)
  pub left : (drop n script.commands ≡ []) ⊎ IsStuck l script n past

-- so it is of each script, unless a clock was worn
abbrev pub StandsUnless : Status → Layout → Scene → List ℕ → List Entry → Type 0
StandsUnless (Worn clock) l c done past = Unit {0}
StandsUnless status l c done past =
    (i : ℕ) (script : Script) → slice_get c.scripts i ≡ Some script →
    StandsAt l script (suc i) (slice_index_or done i 0) past

-- The scripts that are stuck, each with the number of the await, both from 1.

abbrev pub left_of : ℕ → Script → ℕ → List Stuck
left_of k script n = if nat_lt n (length script.commands) then record { script = k; command = n + 1 } ∷ [] else []

abbrev pub left_in : Scene → List ℕ → ℕ → List Stuck
left_in c done k = left_of k (script_at k c.scripts) (slice_index_or done (k - 1) 0)

-- the numbers of the scripts
abbrev pub all_scripts : Scene → List ℕ
all_scripts c = numbers (length c.scripts) 1

abbrev pub stuck_of : Scene → List ℕ → List Stuck
stuck_of c done = flat_map (left_in c done) (all_scripts c)
