-- What a crew counts at ports that seat 0 filled before it.
-- n is the nucleus, p its closing pass, room how many messages there is room for in each port, k how many ports there
-- are, one on each of the first sites, later what was sent, the latest first, s a site; value is what a message at its
-- position is worth, and worth what a body is.
use Rattle.std.specs.Prelude.{ℕ, zero, suc, ◌≡◌, ◌+◌, ◌%◌, ◌^◌, ◌≤◌, true, min, List, [], ◌∷◌, length, map, reverse, sum, take}
use Rattle.chorus_ui.specs.declared.ui.Ui.{Ui}
use Rattle.chorus_ui.specs.declared.layout.Layout.{Layout}
use Rattle.chorus_ui.specs.Layout.{has_actor}
use Rattle.chorus_ui.specs.NameKind.{is_actor}
use Rattle.chorus_entry.specs.declared.message.Message.{Message}
use Rattle.law_closing.specs.Actors.{AreIn}
use Rattle.chorus_net.specs.declared.closed.Closed.{Closed}
use Rattle.chorus_nucleus.specs.declared.nucleus.Nucleus.{Nucleus}
use Rattle.chorus_nucleus.specs.declared.pass.Pass.{Pass}
use Rattle.chorus_nucleus.specs.Passes.{caller_of, known, layout_of, IsPassOf}
use Rattle.chorus_nucleus.specs.Calls.{gave}
use Rattle.chorus_nucleus.specs.Closing.{IsClosed}
use Rattle.chorus_crew.specs.declared.handler.Handled.{Handled}
use Rattle.chorus_crew.specs.Crews.{AreHandled}
use Rattle.law_emptied.specs.Crewed.{AreWithin, Sending, actor_on, bodies_to, port_on, script}
use Rattle.law_crews.specs.Crewed.{IsSettledAt}

-- the ports of so many sites, from this one on, each with the actor who takes from it
abbrev pub pairs_from : ℕ → ℕ → List (Ui × Ui)
pairs_from s zero = []
pairs_from s (suc count) = (port_on s, actor_on s) ∷ pairs_from (s + 1) count

-- Seat 0, in the actor, made the ports and sent, till nothing was left. Then the passes of the crew came, those of seats 1
-- to k for the ports in their order, which are retired into it: each took what waited in its port, above the clock that
-- seat 0 had, and the numbers are those of its takes.
pub record HasCrewed (value : Ui → ℕ → Message → ℕ) (n : Nucleus) (actor : Ui) (room k : ℕ) (later : List Sending)
    (handled : List Handled) (p : Pass) : Type 0 where
  pub of_nucleus : IsPassOf n p
  pub seat : (known p).seat ≡ 0
  pub performed : gave (known p) ≡ reverse (script room k later)
  pub within : AreIn actor (known p).mine
  pub ended : (known p).made ≡ length (known p).notes + 1
  pub before : Pass
  pub was : IsPassOf n before
  pub settled : IsSettledAt (layout_of n) (known before) (known p)
  pub handled_is : AreHandled value (layout_of n) (known p) (caller_of before).last 1 (pairs_from 1 k) (known p).notes
      handled

-- it handled the first of these messages, as many as there is room for, and added up what their bodies are worth
pub record IsCounted (worth : List ℕ → ℕ) (room : ℕ) (bodies : List (List ℕ)) (h : Handled) : Type 0 where
  pub count : h.count ≡ min room (length bodies)
  pub total : h.total ≡ sum (map worth (take room bodies)) % 2 ^ 64

-- so at each port, from that of the site s on, of what was sent to it
abbrev pub AreCounted : (List ℕ → ℕ) → ℕ → List Sending → ℕ → List Handled → Type 0
AreCounted worth room later s [] = Unit {0}
AreCounted worth room later s (h ∷ handled) =
    IsCounted worth room (bodies_to s later) h × AreCounted worth room later (s + 1) handled

-- a message is worth what its body is
abbrev pub IsByBody : (Ui → ℕ → Message → ℕ) → (List ℕ → ℕ) → Type 0
IsByBody value worth = (q : Ui) (position : ℕ) (m : Message) → value q position m ≡ worth m.body

abbrev pub IsActorOf : Layout → Ui → Type 0
IsActorOf l actor = (is_actor actor ≡ true) × (has_actor l actor ≡ true)

abbrev pub CrewsCountWhatWasSent : Type 0
CrewsCountWhatWasSent =
    (value : Ui → ℕ → Message → ℕ) (worth : List ℕ → ℕ) (n : Nucleus) (actor : Ui) (room k : ℕ) (later : List Sending)
    (handled : List Handled) (p : Pass) (closed : Closed) → IsByBody value worth → IsActorOf (layout_of n) actor →
    1 ≤ k → k ≤ (layout_of n).sites → AreWithin k later → IsClosed n p closed →
    HasCrewed value n actor room k later handled p → AreCounted worth room later 1 handled
