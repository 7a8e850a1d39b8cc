-- Closed places for given actors of those who came.
-- l is a layout, v what the closing pass knows, actors has of each number the actor of the pass with that number.
use Rattle.std.specs.Prelude.{ℕ, ◌≡◌, ◌<◌, true, List, Some}
use Rattle.std.specs.List.{All}
use Rattle.chorus_ui.specs.declared.ui.Ui.{Ui}
use Rattle.chorus_ui.specs.declared.layout.Layout.{Layout}
use Rattle.chorus_ui.specs.Layout.{has_actor, IsLayout}
use Rattle.chorus_entry.specs.declared.packet.Packet.{Packet}
use Rattle.chorus_ui.specs.NameKind.{is_actor}
use Rattle.law_machine.specs.PlaceState.{PlaceState}
use Rattle.chorus_turn.specs.declared.knowledge.Remarked.{Remarked}
use Rattle.chorus_turn.specs.declared.knowledge.Placed.{Placed}
use Rattle.chorus_turn.specs.declared.knowledge.Note.{Note}
use Rattle.chorus_turn.specs.declared.knowledge.Knowledge.{Knowledge}
use Rattle.law_history.specs.Runs.{actor_among}
use Rattle.law_closing.specs.Places.{PlaceNote, ArePlacesClosed, HaveHistories}

-- each entry was made by a caller in the actor
abbrev pub AreIn : Ui → List (Placed PlaceNote) → Type 0
AreIn actor made = All (λ (m : Placed PlaceNote). m.remarked.remark.before.actor ≡ actor) made

-- each entry of the pass, and of each pass in its notes, was made in the actor of its number; and the actors of all
-- numbers that were drawn are the layout's
pub record AreActors (l : Layout) (actors : ℕ → Ui) (v : Knowledge PlaceNote) : Type 0 where
  pub own : AreIn (actors v.seat) v.mine
  pub noted : All (λ (n : Note PlaceNote). AreIn (actors n.seat) n.mine) v.notes
  pub kinds : (q : ℕ) → q < v.made → is_actor (actors q) ≡ true
  pub has : (q : ℕ) → q < v.made → has_actor l (actors q) ≡ true

-- histories in which those who came are in these actors
pub record HaveHistoriesIn (l : Layout) (actors : ℕ → Ui) (log : ℕ → List (Remarked PlaceNote))
    (v : Knowledge PlaceNote) (end : ℕ → PlaceState) (out hand left : ℕ → ℕ → List Packet) : Type 0 where
  pub histories : HaveHistories l log v end out hand left
  pub who : (q : ℕ) → q < v.made → actor_among histories.comers q ≡ Some (actors q)

abbrev pub ClosedPlacesHaveHistoriesIn : Type 0
ClosedPlacesHaveHistoriesIn =
    (l : Layout) (actors : ℕ → Ui) (log : ℕ → List (Remarked PlaceNote)) (v : Knowledge PlaceNote)
    (end : ℕ → PlaceState)
    (pushed out popped hand left : ℕ → ℕ → List Packet) → IsLayout l →
    ArePlacesClosed l log v end pushed out popped hand left →
    AreActors l actors v → HaveHistoriesIn l actors log v end out hand left
