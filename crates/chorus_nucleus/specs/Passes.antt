-- What a nucleus and its passes keep.
-- n is a nucleus, l its layout, a, b and p are numbers of places, v is what a pass knows, w its caller.
use Rattle.std.specs.Prelude.{ℕ, ◌≡◌, ◌≢◌, ◌<◌, ◌≤◌, ◌+◌, ◌-◌, true, false, List, [], length, Option, Some, None, is_some, slice_get, slice_index_or, IfSome}
use Rattle.std.specs.Global.{Vec}
use Rattle.std.specs.Vec.{vec_capacity}
use Rattle.chorus_board.specs.declared.start.TheConstants.{READERS_PER_BOARD}
use Rattle.std.specs.List.{All}
use Rattle.chorus_ui.specs.declared.layout.Layout.{Layout}
use Rattle.chorus_ui.specs.Layout.{IsLayout, places, has_actor, creation_place}
use Rattle.chorus_ui.specs.NameKind.{is_actor}
use Rattle.chorus_entry.specs.declared.packet.Packet.{Packet}
use Rattle.chorus_link.specs.declared.name.LinkName.{LinkName}
use Rattle.chorus_ends.specs.declared.ends.EndsName.{EndsName}
use Rattle.chorus_ruled_ends.specs.Ruled.{Ruled, links}
use Rattle.chorus_board.specs.declared.reader.BoardReader.{BoardReader}
use Rattle.chorus_board.specs.Boards as boards
use Rattle.chorus_calls.specs.Callers.{Seated}
use Rattle.chorus_place.specs.GivenPosts.{GaveWithinPosts}
use Rattle.chorus_serve.specs.Desks.{DeskState, seen}
use Rattle.chorus_turn.specs.declared.knowledge.Note.{Note}
use Rattle.chorus_turn.specs.declared.knowledge.Knowledge.{Knowledge}
use Rattle.chorus_turn.specs.Passes as turns
use Rattle.chorus_turn.specs.Calls.{IsMarkAt}
use Rattle.law_history.specs.PlaceTurns.{machine}
use Rattle.law_closing.specs.Closing.{IsPlace, IsThread}
use Rattle.law_closing.specs.Places.{PlaceNote, is_new}
use Rattle.chorus_nucleus.specs.declared.site_turns.site.Site.{Site}
use Rattle.chorus_nucleus.specs.declared.site_turns.site.SiteMark.{SiteMark}
use Rattle.chorus_nucleus.specs.SiteTurns.Sites.{mark}
use Rattle.law_closing.specs.Behind.{HasSeenBelow, AllStandBehind}
use Rattle.chorus_nucleus.specs.SiteTurns.Turning.{HasSeenMore}
use Rattle.chorus_nucleus.specs.declared.nucleus.Nucleus.{Nucleus}
use Rattle.chorus_nucleus.specs.declared.pass.Pass.{Pass}
use Rattle.chorus_nucleus.specs.declared.sight.Sight.{Sight}

abbrev pub layout_of : Nucleus → Layout
layout_of n = n.layout

-- What a pass has: what it knows of turns, its caller, its first worn clock, and what it reads boards with.

abbrev pub known : Pass → Knowledge PlaceNote
known pass = turns.known pass.turner

abbrev pub caller_of : Pass → Seated
caller_of pass = pass.caller

abbrev pub worn_by : Pass → Option ℕ
worn_by pass = pass.worn

abbrev pub sight_of : Pass → Sight
sight_of pass = pass.sight

-- the reader of its home place's board, if it has one, and how many readers of a place's board it has for others
abbrev pub reader_of : Pass → Option BoardReader
reader_of pass = pass.sight.reader

abbrev pub readers_in : Option (Vec BoardReader) → List BoardReader
readers_in None = []
readers_in (Some row) = row.items

abbrev pub row_at : ℕ → List (Vec BoardReader) → List BoardReader
row_at p rows = readers_in (slice_get rows (p - 1))

abbrev pub spare_at : ℕ → Pass → List BoardReader
spare_at p pass = row_at p pass.sight.spare.items

abbrev pub readers_at : ℕ → Pass → ℕ
readers_at p pass = length (spare_at p pass)

-- the home place of an actor of the layout
abbrev pub home_of : Layout → Seated → ℕ
home_of l w = creation_place l w.actor

-- a place that was handed in: its desk, and what no turn changes of it
abbrev pub desk_of : Site Ruled Packet → DeskState
desk_of s = seen links (λ f. f) s.desk

abbrev pub mark_of : Site Ruled Packet → SiteMark
mark_of s = mark (desk_of s) (boards.name_of s.board)

-- the place of this number of the nucleus, as it may be at some moment
abbrev pub IsPlaceOf : List (Site Ruled Packet) → ℕ → Site Ruled Packet → Type 0
IsPlaceOf handed p s = IsMarkAt mark_of handed p (mark_of s)

-- the names of the two ends of the link from a to b
abbrev pub out_name : ℕ → EndsName → Option LinkName
out_name b ends = slice_index_or ends.out b None

abbrev pub into_name : ℕ → EndsName → Option LinkName
into_name a ends = slice_index_or ends.into a None

-- the states were handed in in the order of the places, and from each place to each other one there is a link
pub record AreSites (l : Layout) (handed : List (Site Ruled Packet)) : Type 0 where
  pub shape : IsLayout l
  pub count : length handed ≡ places l
  pub marks : (p : ℕ) (m : SiteMark) → 1 ≤ p → IsMarkAt mark_of handed p m → (m.layout ≡ l) × (m.number ≡ p)
  pub links : (a b : ℕ) (m n : SiteMark) → IsPlace (places l) a → IsPlace (places l) b → a ≢ b
      → IsMarkAt mark_of handed a m → IsMarkAt mark_of handed b n → (is_some (out_name b m.ends) ≡ true)
      × (out_name b m.ends ≡ into_name a n.ends)

-- the reader is of the board of the place p
pub record Reads (l : Layout) (handed : List (Site Ruled Packet)) (p : ℕ) (r : BoardReader) : Type 0 where
  pub layout : boards.layout_read r ≡ l
  pub place : boards.place_read r ≡ p
  pub board : (m : SiteMark) → IsMarkAt mark_of handed p m → boards.name_read r ≡ m.board

-- there is room for all readers of each place's board
abbrev pub AreRoomy : List (Vec BoardReader) → Type 0
AreRoomy rows = All (λ (row : Vec BoardReader). READERS_PER_BOARD ≤ vec_capacity row) rows

-- the readers of each place are of its board, and there is room for all of them
pub record AreSpare (l : Layout) (handed : List (Site Ruled Packet)) (rows : List (Vec BoardReader)) : Type 0 where
  pub read : (p : ℕ) → 1 ≤ p → All (λ (r : BoardReader). Reads l handed p r) (row_at p rows)
  pub room : AreRoomy rows

-- the own reader is of the home place's board; only the keeper has readers for others, of each place
pub record IsSight (l : Layout) (handed : List (Site Ruled Packet)) (v : Knowledge PlaceNote) (w : Seated)
    (s : Sight) : Type 0 where
  pub own : IfSome s.reader (λ r. Reads l handed (home_of l w) r)
  pub spare : AreSpare l handed s.spare.items
  pub rows : v.keeper ≡ true → length s.spare.items ≡ places l
  pub none : v.keeper ≡ false → s.spare.items ≡ []

-- the thread of a pass: its turns, and those of each pass in its notes, go from a new caller of its seat, in an actor
-- of the layout, to the caller that it has, to which entries may have been shown since; what the pass has seen has
-- clocks up to its last one, and what it made stands behind all that it had seen
pub record IsCallerOf (l : Layout) (v : Knowledge PlaceNote) (w : Seated) : Type 0 where
  pub seat : w.seat ≡ v.seat
  pub kind : is_actor w.actor ≡ true
  pub actor : has_actor l w.actor ≡ true
  pub given : GaveWithinPosts w
  pub thread : IsThread (machine l) (is_new l) (places l) v.seat v.mine
  pub last : HasSeenMore thread.last w
  pub threads : All (λ (n : Note PlaceNote). IsThread (machine l) (is_new l) (places l) n.seat n.mine) v.notes
  pub seen : HasSeenBelow (w.last + 1) v
  pub behind : AllStandBehind v

-- the pass is one of this nucleus
pub record IsPassOf (n : Nucleus) (pass : Pass) : Type 0 where
  pub sites : AreSites n.layout (turns.handed n.turns)
  pub turner : turns.IsPassOf n.turns pass.turner
  pub caller : IsCallerOf n.layout (known pass) pass.caller
  pub sight : IsSight n.layout (turns.handed n.turns) (known pass) pass.caller pass.sight
