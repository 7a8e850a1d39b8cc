-- The packets that wait to go to other places.
use Rattle.std.specs.Prelude.{ℕ, ◌≡◌, ◌+◌, ◌<◌, Bool, true, false, List, [], ◌∷◌, ◌++◌, length, drop, Option, Some, None, slice_index_or, slice_set, replicate}
use Rattle.chorus_entry.specs.declared.packet.Packet.{Packet}

-- by the number of the place that they go to, in the order in which they were put; how many more need no memory; how
-- many were put so far; and for which places one may be put back
pub record Waiting : Type 0 where
  pub lists : List (List Packet)
  pub spare : ℕ
  pub puts : ℕ
  pub free : List Bool

-- the same in the pool, where none is put back
pub record Pooled : Type 0 where
  pub lists : List (List Packet)
  pub spare : ℕ
  pub puts : ℕ

-- nothing waits for any place up to this one
abbrev pub nothing_to : ℕ → List (List Packet)
nothing_to places = replicate (places + 1) []

-- what waits for the place
abbrev pub list_to : ℕ → List (List Packet) → List Packet
list_to place lists = slice_index_or lists place []

-- with a packet behind the others for the place
abbrev pub with_last : ℕ → Packet → List (List Packet) → List (List Packet)
with_last place packet lists = slice_set lists place (list_to place lists ++ packet ∷ [])

-- with a packet in front of the others for the place
abbrev pub with_first : ℕ → Packet → List (List Packet) → List (List Packet)
with_first place packet lists = slice_set lists place (packet ∷ list_to place lists)

-- without the first packet for the place
abbrev pub without_first : ℕ → List (List Packet) → List (List Packet)
without_first place lists = slice_set lists place (drop 1 (list_to place lists))

-- how many wait
abbrev pub count : List (List Packet) → ℕ
count [] = 0
count (l ∷ ls) = length l + count ls

-- a packet may be put back for the place: it is one of these places, the one that was put back before was taken, and
-- fewer wait than were put
pub record MayPutBack (place : ℕ) (out : Waiting) : Type 0 where
  pub free : slice_index_or out.free place false ≡ true
  pub fewer : count out.lists < out.puts

-- the first packet for the first place that has one
abbrev pub next : List (List Packet) → Option Packet
next [] = None
next ([] ∷ ls) = next ls
next ((packet ∷ l) ∷ ls) = Some packet

-- and the lists without it
abbrev pub after_next : List (List Packet) → List (List Packet)
after_next [] = []
after_next ([] ∷ ls) = [] ∷ after_next ls
after_next ((packet ∷ l) ∷ ls) = l ∷ ls

-- the first place for which a packet waits; their number where none waits
abbrev pub first_place : List (List Packet) → ℕ
first_place [] = 0
first_place ([] ∷ ls) = first_place ls + 1
first_place ((packet ∷ l) ∷ ls) = 0
