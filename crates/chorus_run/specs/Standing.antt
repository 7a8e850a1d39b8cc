-- How the scripts of a run stand, as the journals and the ports tell that it closed.
-- c is a scenario, l a layout, k the number of a script and of its seat, n how many of its commands were done, p the number
-- of a place, a an actor, q a port. A past has its newest entry first; es have the oldest first.
use Rattle.std.specs.Prelude.{ℕ, suc, ◌≡◌, ◌<◌, ◌==◌, ◌&&◌, Bool, true, false, not, List, [], length, map, reverse, Option, Some, None, slice_get, slice_index_or}
use Rattle.std.specs.List.{list_any}
use Rattle.chorus_ui.specs.declared.layout.Layout.{Layout}
use Rattle.chorus_ui.specs.declared.ui.Ui.{Ui}
use Rattle.chorus_ui.specs.Name.{same_ui}
use Rattle.chorus_entry.specs.declared.command.Command.{Command}
use Rattle.chorus_entry.specs.declared.entry.Entry.{Entry}
use Rattle.chorus_entry.specs.Places.{place_for}
use Rattle.law_awaits.specs.Awaits.{own_acts}
use Rattle.law_network.specs.declared.placed.Placed.{Placed}
use Rattle.chorus_net.specs.declared.closed.Closed.{Closed}
use Rattle.chorus_net.specs.Closing.{merge_of}
use Rattle.chorus_scene.specs.Scene.{Scene, Script, is_await}
use Rattle.chorus_show.specs.declared.stuck.Stuck.{Stuck}
use Rattle.chorus_report.specs.Awaiting.{AwaitsTake, all_scripts, stuck_of}
use Rattle.chorus_report.specs.Reading.{has_wait}

-- how many commands of each script were done, as the journals tell it
abbrev pub done_in : Scene → List Entry → List ℕ
done_in c past = map (λ (k : ℕ). length (own_acts k past)) (all_scripts c)

-- the entries answer so many commands of the seat, and each await among them by a message
pub record Did (waits : List ℕ) (k : ℕ) (es : List Entry) (n : ℕ) : Type 0 where
  pub count : n ≡ length (own_acts k (reverse es))
  pub taken : AwaitsTake waits 0 (own_acts k (reverse es))

-- a port that is held would give a take of the actor, at this place, a message; and one of them would
abbrev pub gives_now : ℕ → Ui → Ui → Placed → Bool
gives_now p a q h =
    (h.place == p) && same_ui h.port.ui q && same_ui h.port.actor a && not (length h.port.pending == 0)

abbrev pub is_given : List Placed → ℕ → Ui → Ui → Bool
is_given ports p a q = list_any (gives_now p a q) ports

-- the command receives, and none of the ports would give it a message; so it is of the next one, if there is one
abbrev pub gets_nothing : Layout → List Placed → Ui → Command → Bool
gets_nothing l ports a (Command.Take q) = not (is_given ports (place_for l a (Command.Take q)) a q)
gets_nothing l ports a _ = false

abbrev pub next_gets_nothing : Layout → List Placed → Ui → Option Command → Bool
next_gets_nothing l ports a None = false
next_gets_nothing l ports a (Some command) = gets_nothing l ports a command

abbrev pub is_stuck : Layout → List Placed → Script → ℕ → Bool
is_stuck l ports script n =
    is_await script.waits n && next_gets_nothing l ports script.actor (slice_get script.commands n)

-- so many commands of the script with this number were done; and where that is not all, it is stuck behind them
pub record IsAsked (l : Layout) (ports : List Placed) (k : ℕ) (script : Script) (es : List Entry) (n : ℕ) : Type 0 where
  pub did : Did script.waits k es n
  pub stuck : n < length script.commands → is_stuck l ports script n ≡ true

-- so it is of the scripts before this index
abbrev pub AreAskedBelow : Scene → List Placed → List Entry → ℕ → Type 0
AreAskedBelow c ports es m =
    (i : ℕ) (script : Script) → i < m → slice_get c.scripts i ≡ Some script →
    IsAsked c.layout ports (suc i) script es (slice_index_or (done_in c (reverse es)) i 0)

-- and of all scripts, of which these are stuck
pub record AreAsked (c : Scene) (ports : List Placed) (es : List Entry) (stuck : List Stuck) : Type 0 where
  pub each : AreAskedBelow c ports es (length c.scripts)
  pub stuck_is : stuck ≡ stuck_of c (done_in c (reverse es))

-- where something waits in the scenario, the scripts stand so in what was closed; else none is asked, and none is stuck
pub record Stand (c : Scene) (closed : Closed) (stuck : List Stuck) : Type 0 where
  pub asked : has_wait c ≡ true → AreAsked c closed.ports.items (merge_of closed) stuck
  pub none : has_wait c ≡ false → stuck ≡ []
