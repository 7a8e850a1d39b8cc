-- The places of this project, closed: what they hand out are histories of those who came.
-- l is a layout, p, a and b are numbers of places, q is a seat, w a caller, v what the closing pass knows.
use Rattle.std.specs.Prelude.{ℕ, ◌≡◌, ◌==◌, Bool, ◌&&◌, List, ◌++◌, length, is_none}
use Rattle.std.specs.List.{All}
use Rattle.chorus_ui.specs.declared.layout.Layout.{Layout}
use Rattle.chorus_ui.specs.Layout.{places, has_actor, IsLayout}
use Rattle.chorus_entry.specs.declared.command.Command.{Command}
use Rattle.chorus_entry.specs.declared.packet.Packet.{Packet}
use Rattle.chorus_ui.specs.NameKind.{is_actor}
use Rattle.chorus_calls.specs.Callers.{Seated}
use Rattle.chorus_turn.specs.declared.knowledge.Remarked.{Remarked}
use Rattle.chorus_turn.specs.declared.knowledge.Note.{Note}
use Rattle.chorus_turn.specs.declared.knowledge.Knowledge.{Knowledge}
use Rattle.law_machine.specs.PlaceState.{PlaceState, started}
use Rattle.law_history.specs.Network.{Network}
use Rattle.law_history.specs.PlaceTurns.{machine}
use Rattle.law_history.specs.Journals.{PlaceTurn, Comer, AreHistories}
use Rattle.law_closing.specs.declared.noted.Noted.{Noted}
use Rattle.law_closing.specs.Remarks.{turns_at, turns_in}
use Rattle.law_closing.specs.Closing.{IsPlace, IsClosed}

-- the remark of a turn at a place
abbrev pub PlaceNote : Type 0
PlaceNote = Noted Seated Command Packet

-- a new caller of the seat, in an actor of the layout
abbrev pub is_new : Layout → ℕ → Seated → Bool
is_new l q w =
    (w.seat == q) && (w.posts == 0) && (w.client.given == 0) && is_none w.client.outstanding && is_none w.hand
    && is_actor w.actor && has_actor l w.actor

-- the places of the layout were closed, with their links and passes
abbrev pub ArePlacesClosed : Layout → (ℕ → List (Remarked PlaceNote)) → Knowledge PlaceNote → (ℕ → PlaceState) →
    (ℕ → ℕ → List Packet) → (ℕ → ℕ → List Packet) → (ℕ → ℕ → List Packet) → (ℕ → ℕ → List Packet) →
    (ℕ → ℕ → List Packet) → Type 0
ArePlacesClosed l log v end pushed out popped hand left =
    IsClosed (machine l) (is_new l) (started l) (places l) log v end pushed out popped hand left

-- Histories of as many callers as seats were drawn, which end with these places and with what is left for them, and
-- have of each place and of each pass just its turns.
pub record HaveHistories (l : Layout) (log : ℕ → List (Remarked (Noted Seated Command Packet)))
    (v : Knowledge (Noted Seated Command Packet)) (end : ℕ → PlaceState)
    (out hand left : ℕ → ℕ → List Packet) : Type 0 where
  pub comers : List Comer
  pub of_places : ℕ → List PlaceTurn
  pub of_seats : ℕ → List PlaceTurn
  pub closing : Network PlaceState Seated Packet
  pub histories : AreHistories l comers of_places of_seats closing
  pub count : length comers ≡ v.made
  pub ends : (p : ℕ) → IsPlace (places l) p → closing.places p ≡ end p
  pub rest : (a b : ℕ) → IsPlace (places l) a → IsPlace (places l) b →
      closing.links a b ≡ hand a b ++ (left a b ++ out a b)
  pub made : (p : ℕ) → IsPlace (places l) p → of_places p ≡ turns_at p (log p)
  pub mine : of_seats v.seat ≡ turns_in v.mine
  pub noted : All (λ (n : Note (Noted Seated Command Packet)). of_seats n.seat ≡ turns_in n.mine) v.notes

abbrev pub ClosedPlacesHaveHistories : Type 0
ClosedPlacesHaveHistories =
    (l : Layout) (log : ℕ → List (Remarked PlaceNote)) (v : Knowledge PlaceNote) (end : ℕ → PlaceState)
    (pushed out popped hand left : ℕ → ℕ → List Packet) → IsLayout l →
    ArePlacesClosed l log v end pushed out popped hand left →
    HaveHistories l log v end out hand left
