-- One pass made ports and sent to them, and others took; and all was closed.
-- l is the layout of the nucleus, v what the closing pass knew, b what it knew before the others came, comers are those
-- who came, c is what was closed; n is how many messages there is room for in each port, s a site and the seat of the
-- pass that takes there.
use Rattle.std.specs.Prelude.{ℕ, ◌≡◌, ◌≢◌, ◌+◌, ◌≤◌, Some, List, [], ◌∷◌, ◌++◌, length, map, reverse}
use Rattle.std.specs.List.{All}
use Rattle.chorus_ui.specs.declared.ui.Ui.{Ui}
use Rattle.chorus_ui.specs.declared.layout.Layout.{Layout}
use Rattle.chorus_ui.specs.Layout.{IsLayout, places}
use Rattle.chorus_entry.specs.declared.entry.Entry.{Entry}
use Rattle.chorus_calls.specs.Callers.{Seated}
use Rattle.chorus_world.specs.Views.{by}
use Rattle.law_history.specs.Histories.{Follows}
use Rattle.law_history.specs.PlaceTurns.{machine}
use Rattle.law_history.specs.Journals.{Comer}
use Rattle.law_history.specs.Places.{all_put, all_got}
use Rattle.law_history.specs.Runs.{actor_among}
use Rattle.law_closing.specs.Places.{PlaceNote}
use Rattle.law_closing.specs.Remarks.{turns_at, turns_in}
use Rattle.law_closing.specs.Seen.{HasSeen}
use Rattle.chorus_turn.specs.declared.knowledge.Placed.{Placed}
use Rattle.chorus_turn.specs.declared.knowledge.Note.{Note}
use Rattle.chorus_turn.specs.declared.knowledge.Knowledge.{Knowledge}
use Rattle.chorus_turn.specs.Knowing.{seen_at}
use Rattle.chorus_net.specs.declared.closed.Closed.{Closed}
use Rattle.chorus_net.specs.Closing.{past_of}
use Rattle.chorus_nucleus.specs.Calls.{gave}
use Rattle.chorus_nucleus.specs.Closing.{ClosesAs}
use Rattle.chorus_nucleus.specs.Taking.{SeesMore, IsByTakes}
use Rattle.law_emptied.specs.Crewed.{Sending, AreWithin, IsCrewed, IsOfTake, actor_on, place_on, port_on, script}

-- the entries that a pass made, in order
abbrev pub entries_made : List (Placed PlaceNote) → List Entry
entries_made made = map (λ (m : Placed PlaceNote). m.remarked.entry) made

-- the notes are of the seats from s on, in their order: each took at the port of its site, above this clock
abbrev pub AreTakers : Layout → ℕ → ℕ → List (Note PlaceNote) → Type 0
AreTakers l clock s [] = Unit {0}
AreTakers l clock s (m ∷ notes) =
    (m.seat ≡ s) × IsByTakes l (port_on s) (actor_on s) clock m.mine
    × All (λ (e : Entry). IsOfTake (port_on s) e.act) (entries_made m.mine) × AreTakers l clock (s + 1) notes

-- What seat 0 knew when nothing was left, before the others came: it has made nothing since.
pub record IsSettledAt (l : Layout) (b v : Knowledge PlaceNote) : Type 0 where
  pub seat : b.seat ≡ 0
  pub mine : b.mine ≡ v.mine
  pub seen : HasSeen (places l) b
  pub even : all_put l (λ p. turns_at p (seen_at p b)) ≡ all_got l (λ p. turns_at p (seen_at p b))
  pub more : SeesMore b v

-- Seat 0 gave the script, with nothing left at its end, and up to this clock; then as many as it has notes took.
pub record HasTakers (l : Layout) (v b : Knowledge PlaceNote) (clock n : ℕ) (later : List Sending) : Type 0 where
  pub seat : v.seat ≡ 0
  pub gave_is : gave v ≡ reverse (script n (length v.notes) later)
  pub some : turns_in v.mine ≢ []
  pub first : Seated
  pub last : Seated
  pub follows : Follows (machine l) first (turns_in v.mine) last
  pub upto : last.last ≤ clock
  pub settled : IsSettledAt l b v
  pub takers : AreTakers l clock 1 v.notes

-- each is in the actor of its site, and seat 0 in some actor
pub record CameSo (comers : List Comer) (first : Ui) (count : ℕ) : Type 0 where
  pub first_is : actor_among comers 0 ≡ Some first
  pub others : (s : ℕ) → 1 ≤ s → s ≤ count → actor_among comers s ≡ Some (actor_on s)

-- the entries of each seat are those that its pass made, at the place of its port
abbrev pub AreTheirs : Layout → ℕ → List (Note PlaceNote) → List Entry → Type 0
AreTheirs l s [] newer = Unit {0}
AreTheirs l s (m ∷ notes) newer =
    (by s newer ≡ reverse (entries_made m.mine)) × All (λ (e : Entry). e.place ≡ place_on l s) (by s newer)
    × AreTheirs l (s + 1) notes newer

-- The merge is what seat 0 made, and then what the others took.
pub record MergesAsCrewed (l : Layout) (v : Knowledge PlaceNote) (comers : List Comer) (c : Closed) (n : ℕ)
    (later : List Sending) : Type 0 where
  pub newer : List Entry
  pub older : List Entry
  pub whole : past_of c ≡ newer ++ older
  pub crewed : IsCrewed l (actor_among comers) n (length v.notes) later newer older
  pub theirs : AreTheirs l 1 v.notes newer

-- so it is for all of them, where all passes came back and the ports are on sites of the layout
abbrev pub ClosedMergesAsCrewed : Type 0
ClosedMergesAsCrewed =
    (l : Layout) (v b : Knowledge PlaceNote) (comers : List Comer) (c : Closed) (clock n : ℕ) (later : List Sending)
    (first : Ui) → IsLayout l → ClosesAs l v comers c → HasTakers l v b clock n later →
    CameSo comers first (length v.notes) → v.made ≡ length v.notes + 1 → length v.notes ≤ l.sites →
    AreWithin (length v.notes) later → MergesAsCrewed l v comers c n later
