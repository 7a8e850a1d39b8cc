-- What goes out, and what comes in.
-- p is a place, ls are the packets that wait, by the places that they go to; old and new are what the ends show.
use Rattle.std.specs.Prelude.{ℕ, ◌≡◌, ◌≢◌, ◌<◌, ◌≤◌, ◌⊎◌, Bool, true, false, List, [], ◌++◌, length, Option, Some, None, option_to_list}
use Rattle.chorus_ui.specs.declared.layout.Layout.{Layout}
use Rattle.chorus_ui.specs.Layout.{has_place}
use Rattle.chorus_entry.specs.declared.packet.Packet.{Packet}
use Rattle.place_outbox.specs.Waiting.{list_to}
use Rattle.law_history.specs.Turns.{from_place}
use Rattle.chorus_place.specs.Calls.{Place, state}
use Rattle.chorus_io.specs.Count.{Rose}
use Rattle.chorus_ends.specs.Links.{Links, Counts}

-- another place than this one
pub record IsOther (l : Layout) (number p : ℕ) : Type 0 where
  pub place : has_place l p ≡ true
  pub other : p ≢ number

-- what was sent to the place, followed by what then waits for it, is what waited followed by what was put
pub record GoesOut (p : ℕ) (put : List Packet) (before after : List (List Packet)) (old new : Links) : Type 0 where
  pub pushed : List Packet
  pub sent : new.sent p ≡ old.sent p ++ pushed
  pub waits : pushed ++ list_to p after ≡ list_to p before ++ put

-- a packet that waits for the place is kept only where a link to it was found full
abbrev pub KeepsAtFull : ℕ → List (List Packet) → Links → Links → Type 0
KeepsAtFull p after old new = (list_to p after ≡ []) ⊎ Rose (old.fulls p) (new.fulls p)

-- all that waited for the place was sent, and maybe more behind it
pub record Empties (p : ℕ) (before : List (List Packet)) (old new : Links) : Type 0 where
  pub more : List Packet
  pub sent : new.sent p ≡ old.sent p ++ list_to p before ++ more

-- all that waited for the place was sent, or a link to it was found full
abbrev pub EmptiesOrFull : ℕ → List (List Packet) → Links → Links → Type 0
EmptiesOrFull p before old new = Empties p before old new ⊎ Rose (old.fulls p) (new.fulls p)

-- a link from the place was found empty
abbrev pub WasEmpty : ℕ → Links → Links → Type 0
WasEmpty p old new = Rose (old.empties p) (new.empties p)

-- at most this packet was received, and nothing was sent
pub record Takes (popped : Option (ℕ × Packet)) (old new : Links) : Type 0 where
  pub received : (p : ℕ) → new.received p ≡ old.received p ++ from_place p (option_to_list popped)
  pub sent : (p : ℕ) → new.sent p ≡ old.sent p
  pub counts : Counts old new

-- places are asked from the one behind `last` on and around: p before `from`
abbrev pub IsAskedBefore : ℕ → ℕ → ℕ → Type 0
IsAskedBefore from last p = ((last < p) × (p < from)) ⊎ ((from ≤ last) × ((last < p) ⊎ (p < from)))

-- it is another place, and a link from each place that is asked before it was found empty
pub record IsNext (l : Layout) (number last from : ℕ) (old new : Links) : Type 0 where
  pub other : IsOther l number from
  pub empties : (p : ℕ) → IsOther l number p → IsAskedBefore from last p → WasEmpty p old new

-- so the packet, if there is one, came from the next place
abbrev pub ComesNext : Layout → ℕ → ℕ → Option (ℕ × Packet) → Links → Links → Type 0
ComesNext l number last None old new = Unit {0}
ComesNext l number last (Some (from, packet)) old new = IsNext l number last from old new

-- the place from which the last packet was received
abbrev pub last_from : ℕ → Option (ℕ × Packet) → ℕ
last_from last None = last
last_from last (Some (from, packet)) = from

-- where one more packet was sent to the place, fewer wait
abbrev pub HasFewer : Bool → ℕ → List (List Packet) → List (List Packet) → Type 0
HasFewer true to before after = length (list_to to after) < length (list_to to before)
HasFewer false to before after = Unit {0}

-- where none was sent, none waits or a link was found full
abbrev pub StopsAtFull : Bool → ℕ → List (List Packet) → Links → Links → Type 0
StopsAtFull true to after old new = Unit {0}
StopsAtFull false to after old new = KeepsAtFull to after old new

-- some of what waited was sent, and nothing else changed
pub record Pushes (old new : Place) (k l : Links) : Type 0 where
  pub state : state new ≡ state old
  pub out : (p : ℕ) → GoesOut p [] old.out.lists new.out.lists k l
  pub received : (p : ℕ) → l.received p ≡ k.received p
  pub counts : Counts k l
  pub lists : length new.out.lists ≡ length old.out.lists
  pub puts : new.out.puts ≡ old.out.puts
  pub spare : old.spare ≤ new.spare
