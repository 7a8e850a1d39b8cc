-- How the places of a nucleus begin.
-- l is a layout, s a place, v the readers of its board, r its ends; ss, vs and rs are these by places.
use Rattle.std.specs.Prelude.{ℕ, ◌≡◌, ◌≤◌, ◌+◌, List, [], ◌∷◌, ◌++◌, length, None}
use Rattle.std.specs.List.{All}
use Rattle.std.specs.Global.{Vec}
use Rattle.std.specs.Vec.{vec_capacity}
use Rattle.chorus_ui.specs.declared.layout.Layout.{Layout}
use Rattle.chorus_ui.specs.Layout.{places}
use Rattle.chorus_entry.specs.declared.packet.Packet.{Packet}
use Rattle.place_outbox.specs.Waiting.{nothing_to}
use Rattle.law_machine.specs.PlaceState.{started}
use Rattle.chorus_place.specs.Calls.{state}
use Rattle.chorus_ruled_ends.specs.Ruled.{Ruled}
use Rattle.chorus_ruled_ends.specs.Linked.{AreLinked}
use Rattle.chorus_board.specs.declared.reader.BoardReader.{BoardReader}
use Rattle.chorus_board.specs.declared.start.TheConstants.{READERS_PER_BOARD}
use Rattle.chorus_board.specs.Boards.{book_of, IsNewBoard, IsNewIn}
use Rattle.chorus_nucleus.specs.declared.site_turns.site.Site.{Site}

-- the place of this number, on which nothing happened yet, at these ends
pub record IsFresh (l : Layout) (number : ℕ) (r : Ruled) (s : Site Ruled Packet) : Type 0 where
  pub state : state s.desk.place ≡ started l number
  pub out : s.desk.place.out.lists ≡ nothing_to (places l)
  pub its_ends : s.desk.ends ≡ r
  pub hand : s.desk.hand ≡ None
  pub puts : s.desk.place.out.puts ≡ 0
  pub worked : s.desk.worked ≡ 0
  pub board : IsNewBoard l number s.board

-- all readers of its board, which have seen nothing
pub record AreItsReaders (l : Layout) (number : ℕ) (s : Site Ruled Packet) (v : Vec BoardReader) : Type 0 where
  pub count : length v.items ≡ READERS_PER_BOARD
  pub new : All (IsNewIn (book_of s.board) l number) v.items
  pub room : READERS_PER_BOARD ≤ vec_capacity v

-- the places, by their numbers from n on, with all readers of their boards, at these ends
abbrev pub AreFreshFrom : Layout → ℕ → List (Site Ruled Packet) → List (Vec BoardReader) → List Ruled → Type 0
AreFreshFrom l n [] [] [] = Unit {0}
AreFreshFrom l n (s ∷ ss) (v ∷ vs) (r ∷ rs) = IsFresh l n r s × AreItsReaders l n s v × AreFreshFrom l (n + 1) ss vs rs
AreFreshFrom l n _ _ _ = ⊥

abbrev pub AreFresh : Layout → List (Site Ruled Packet) → List (Vec BoardReader) → List Ruled → Type 0
AreFresh l ss vs rs = AreFreshFrom l 1 ss vs rs

-- the last ends were taken, and the place of this number is at them
pub record TakesLast (l : Layout) (number : ℕ) (s : Site Ruled Packet) (v : Vec BoardReader)
    (old new : List Ruled) : Type 0 where
  pub last : Ruled
  pub items : old ≡ new ++ last ∷ []
  pub fresh : IsFresh l number last s
  pub readers : AreItsReaders l number s v

-- all places have started, with a link from each to each other one
pub record HaveStarted (l : Layout) (ss : List (Site Ruled Packet)) (vs : List (Vec BoardReader)) : Type 0 where
  pub ends : List Ruled
  pub linked : AreLinked (places l) ends
  pub fresh : AreFresh l ss vs ends
