-- What seat 0 knows when a small scenario was performed, and what it would know where the setup stood behind, or a command was left out.
use Rattle.std.proofs.Common.{ℕ, zero, suc, ◌≡◌, ◌<◌, ◌≤◌, true, List, [], ◌∷◌, Some, slice_get, refl, sym, subst, arith}
use Rattle.std.proofs.lemmas.List.Elements.{All-nil, All-cons, All-head}
use Rattle.chorus_entry.specs.declared.command.Command.{Command}
use Rattle.chorus_entry.specs.declared.act.Act.{Act}
use Rattle.chorus_calls.specs.Callers.{new_caller}
use Rattle.law_network.specs.Calls.{first_actor}
use Rattle.chorus_turn.specs.declared.knowledge.Placed.{Placed}
use Rattle.chorus_turn.specs.declared.knowledge.Note.{Note}
use Rattle.chorus_turn.specs.declared.knowledge.Knowledge.{Knowledge}
use Rattle.law_history.specs.declared.turns.Input.{Input}
use Rattle.law_history.specs.Journals.{PlaceTurn}
use Rattle.law_closing.specs.Places.{PlaceNote}
use Rattle.law_closing.specs.Remarks.{turns_in}
use Rattle.law_closing.specs.Actors.{AreIn}
use Rattle.chorus_scene.specs.declared.scenario.SetupLine.TheVariants as setups
use Rattle.chorus_scene.specs.Scene.{Scene, scene_with}
use Rattle.chorus_perform.specs.Going.{BeginAbove, BeginsUpTo}
use Rattle.chorus_perform.specs.Scripts.{HasPerformed, IsOfScript, IsSetUpFirst}

-- seat 0 makes a port, and the one script cancels a call
abbrev small : Scene
small =
    scene_with (record { sites = 1; turns = 1 }) 2 1 (setups.Port first_actor 4 ∷ []) (record { actor = first_actor; commands = Command.Cancel ∷ []; waits = [] } ∷ []) []

-- a seat performed a command by an entry with this clock
abbrev made : ℕ → ℕ → Command → Placed PlaceNote
made seat clock command =
    record {
      place = 1;
      seen = [];
      remarked = record {
        entry = record { clock = clock; place = 1; seat = seat; act = Act.NoCall };
        remark = record {
          nth = 0;
          input = Input.Command command;
          before = new_caller seat first_actor 0;
          after = new_caller seat first_actor clock;
          puts = [];
        };
      };
    }

abbrev note : List (Placed PlaceNote) → Note PlaceNote
note mine = record { seat = 1; mine = mine }

abbrev knows : List (Placed PlaceNote) → Knowledge PlaceNote
knows mine =
    record { seat = 0; seen = []; mine = made 0 1 (Command.Make first_actor 4) ∷ []; refused = []; notes = note mine ∷ []; keeper = true; made = 2 }

in-actor : (seat clock : ℕ) (command : Command) → AreIn first_actor (made seat clock command ∷ [])
in-actor seat clock command =
    All-cons (λ (m : Placed PlaceNote). m.remarked.remark.before.actor ≡ first_actor) (made seat clock command) [] refl (All-nil _)

-- the setup's entry has clock 1, and the script's has clock 2
pub performed : HasPerformed true small (knows (made 1 2 Command.Cancel ∷ []))
performed = record {
  seat = refl;
  keeper = refl;
  ended = refl;
  count = λ e. refl;
  setup = record { left = []; whole = refl; within = in-actor 0 1 (Command.Make first_actor 4); none_left = λ e. refl };
  first = record {
    begun = 1;
    setup = All-cons (λ (t : PlaceTurn). BeginsUpTo 1 t.first t.input) _ [] (omega arith) (All-nil _);
    scripts = All-cons (λ (n : Note PlaceNote). BeginAbove 1 (turns_in n.mine)) (note (made 1 2 Command.Cancel ∷ [])) [] (All-cons (λ (t : PlaceTurn). 1 < t.first) _ [] (omega arith) (All-nil _)) (All-nil _);
  };
  scripts = scripts;
}
  where
    script : IsOfScript true small 0 (note (made 1 2 Command.Cancel ∷ []))
    script = record {
      script = record { actor = first_actor; commands = Command.Cancel ∷ []; waits = [] };
      is = refl;
      seat = refl;
      performed = record { left = []; whole = refl; within = in-actor 1 2 Command.Cancel; none_left = λ e. refl };
    }

    scripts : (i : ℕ) (n : Note PlaceNote) → slice_get (note (made 1 2 Command.Cancel ∷ []) ∷ []) i ≡ Some n → IsOfScript true small i n
    scripts zero n h = let is : note (made 1 2 Command.Cancel ∷ []) ≡ n = cc in subst (IsOfScript true small 0) is script
    scripts (suc i) n h = absurd (cc)

-- the script's entry has the clock of the setup's
pub not-behind : IsSetUpFirst (knows (made 1 1 Command.Cancel ∷ [])) → ⊥
not-behind h =
    let setup : 1 ≤ h.begun = All-head (λ (t : PlaceTurn). BeginsUpTo h.begun t.first t.input) _ [] h.setup in
    let script = All-head (λ (n : Note PlaceNote). BeginAbove h.begun (turns_in n.mine)) (note (made 1 1 Command.Cancel ∷ [])) [] h.scripts in
    let above : h.begun < 1 = All-head (λ (t : PlaceTurn). h.begun < t.first) _ [] script in
    omega (arith, setup, above)

-- the script performed nothing
pub not-all : HasPerformed true small (knows []) → ⊥
not-all h =
    let one = h.scripts 0 (note []) refl in
    let is : Some one.script ≡ Some (record { actor = first_actor; commands = Command.Cancel ∷ []; waits = [] }) = sym one.is in
    let none = (one.performed).none_left refl in
    let whole = (one.performed).whole in
    cc
