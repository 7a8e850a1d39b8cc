-- What a nucleus hands out when it is closed.
-- n is the nucleus, l its layout, v what the closing pass knew, actors has of each seat the actor of the pass with that
-- number.
use Rattle.std.specs.Prelude.{ℕ, ◌≡◌, ◌<◌, ◌≤◌, ◌+◌, List, length, Some, slice_get}
use Rattle.std.specs.List.{All}
use Rattle.chorus_ui.specs.declared.ui.Ui.{Ui}
use Rattle.chorus_ui.specs.declared.layout.Layout.{Layout}
use Rattle.chorus_ui.specs.Layout.{IsLayout, places}
use Rattle.chorus_entry.specs.declared.entry.Entry.{Entry}
use Rattle.chorus_entry.specs.declared.packet.Packet.{Packet}
use Rattle.chorus_calls.specs.Callers.{Seated}
use Rattle.law_machine.specs.PlaceState.{PlaceState}
use Rattle.chorus_turn.specs.declared.close.Spent.{Spent}
use Rattle.chorus_turn.specs.declared.knowledge.Remarked.{Remarked}
use Rattle.chorus_turn.specs.declared.knowledge.Note.{Note}
use Rattle.chorus_turn.specs.declared.knowledge.Knowledge.{Knowledge}
use Rattle.chorus_turn.specs.Passes as turns
use Rattle.chorus_turn.specs.Calls.{AreOut}
use Rattle.chorus_turn.specs.Journals.{entries_of}
use Rattle.law_network.specs.Network.{schedule}
use Rattle.law_history.specs.Network.{Network}
use Rattle.law_history.specs.Runs.{actor_among}
use Rattle.law_history.specs.Journals.{PlaceTurn, Comer, AreHistories, IsTheirSchedule, events}
use Rattle.law_closing.specs.Places.{PlaceNote}
use Rattle.law_closing.specs.Behind.{AllStandBehind, AreAtPlaces}
use Rattle.law_closing.specs.Actors.{AreActors}
use Rattle.law_closing.specs.Remarks.{turns_at, turns_in}
use Rattle.law_closing.specs.Closing.{IsPlace, Tells}
use Rattle.chorus_net.specs.declared.closed.Closed.{Closed}
use Rattle.chorus_net.specs.Closing.{closed_journals, IsLeft, IsOfTurns}
use Rattle.chorus_nucleus.specs.declared.close.CloseFault.{CloseFault}
use Rattle.chorus_nucleus.specs.declared.close.CloseFault.TheVariants as close_faults
use Rattle.chorus_nucleus.specs.declared.nucleus.Nucleus.{Nucleus}
use Rattle.chorus_nucleus.specs.declared.pass.Pass.{Pass}
use Rattle.chorus_nucleus.specs.Passes.{layout_of, known, worn_by}

-- These came, as many as numbers were drawn. The journals with remarks tell all that the pass and those in its notes
-- made, and the turns of the places and of the seats are theirs; they are histories that fit each other. The journals
-- are those that are handed out. Each entry that the pass, or one in its notes, made stands behind all that had been
-- seen before its turn. What was closed is the network of each schedule of these turns.
pub record ClosesAs (l : Layout) (v : Knowledge PlaceNote) (comers : List Comer) (closed : Closed) : Type 0 where
  pub log : ℕ → List (Remarked PlaceNote)
  pub of_places : ℕ → List PlaceTurn
  pub of_seats : ℕ → List PlaceTurn
  pub closing : Network PlaceState Seated Packet
  pub tells : Tells (places l) log v
  pub entries : (p : ℕ) (journal : List Entry) → slice_get (closed_journals closed) p ≡ Some journal
      → journal ≡ entries_of (log (p + 1))
  pub histories : AreHistories l comers of_places of_seats closing
  pub count : length comers ≡ v.made
  pub made : (p : ℕ) → IsPlace (places l) p → of_places p ≡ turns_at p (log p)
  pub mine : of_seats v.seat ≡ turns_in v.mine
  pub noted : All (λ (n : Note PlaceNote). of_seats n.seat ≡ turns_in n.mine) v.notes
  pub within : AreAtPlaces (places l) v.mine
  pub noted_within : All (λ (n : Note PlaceNote). AreAtPlaces (places l) n.mine) v.notes
  pub behind : AllStandBehind v
  pub is_left : (turns : List PlaceTurn) → IsTheirSchedule l comers of_places of_seats closing turns
      → IsLeft (schedule l (events comers turns)) closed

-- those who came are in these actors
abbrev pub AreComersIn : (ℕ → Ui) → ℕ → List Comer → Type 0
AreComersIn actors made comers = (q : ℕ) → q < made → actor_among comers q ≡ Some (actors q)

-- for any actors in which the passes may have come
abbrev pub ClosesFor : Layout → Knowledge PlaceNote → Closed → Type 0
ClosesFor l v closed = (actors : ℕ → Ui) → AreActors l actors v → (comers : List Comer)
    × AreComersIn actors v.made comers × ClosesAs l v comers closed

-- the nucleus was closed by the pass, into which all others were retired
pub record IsClosed (n : Nucleus) (pass : Pass) (closed : Closed) : Type 0 where
  pub shape : IsLayout (layout_of n)
  pub comers : List Comer
  pub closes : ClosesAs (layout_of n) (known pass) comers closed
  pub for_actors : ClosesFor (layout_of n) (known pass) closed
  pub spent : Spent PlaceNote
  pub origin : IsOfTurns spent (worn_by pass) closed
  pub left : turns.IsLeftOf n.turns pass.turner spent

-- Why it was not. Passes are out where fewer have ended than were made, and then nothing changed; at want of memory
-- none was out.
abbrev pub IsNotClosed : Nucleus → Pass → CloseFault → Type 0
IsNotClosed n pass (close_faults.PassesOut nucleus back out) =
    (nucleus ≡ n) × (back ≡ pass) × AreOut (known pass) out.made out.ended
IsNotClosed n pass (close_faults.Memory none) = (known pass).made ≤ length (known pass).notes + 1
