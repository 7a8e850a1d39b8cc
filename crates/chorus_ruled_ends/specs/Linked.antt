-- The ends of all places, linked with each other.
-- a and b are places, all are the ends of each place, that of place a at a - 1; old and new are these before and after
-- a call.
use Rattle.std.specs.Prelude.{ℕ, ◌≡◌, ◌≢◌, ◌+◌, ◌-◌, ◌≤◌, ◌<◌, List, [], length, Option, Some, None, slice_index_or}
use Rattle.chorus_entry.specs.declared.packet.Packet.{Packet}
use Rattle.chorus_link.specs.declared.ends.SendEnd.{SendEnd}
use Rattle.chorus_link.specs.declared.ends.RecvEnd.{RecvEnd}
use Rattle.chorus_link.specs.Ends.{send_name, recv_name, send_link, recv_link, fulls_of, empties_of, room, AreNew}
use Rattle.chorus_ui.specs.declared.limits.TheConstants.{LINK_LIMIT}
use Rattle.chorus_ruled_ends.specs.Ruled.{Ruled, end_to, end_from}

abbrev pub no_ends : Ruled
no_ends = record { out = []; into = [] }

-- the ends of the place
abbrev pub of_place : ℕ → List Ruled → Ruled
of_place a all = slice_index_or all (a - 1) no_ends

-- the two ends of the link from a to b
abbrev pub out_of : ℕ → ℕ → List Ruled → Option (SendEnd Packet)
out_of a b all = end_to b (of_place a all)

abbrev pub into_of : ℕ → ℕ → List Ruled → Option (RecvEnd Packet)
into_of a b all = end_from a (of_place b all)

-- they are of one link, which is new and has room for so many packets
pub record HasLink (a b : ℕ) (all : List Ruled) : Type 0 where
  pub send : SendEnd Packet
  pub recv : RecvEnd Packet
  pub out : out_of a b all ≡ Some send
  pub into : into_of a b all ≡ Some recv
  pub one_link : send_link send ≡ recv_link recv
  pub room : room send ≡ LINK_LIMIT
  pub new : AreNew send recv
  pub fulls : fulls_of send ≡ 0
  pub empties : empties_of recv ≡ 0

-- there are so many places, and from each to each other one there is such a link
pub record AreLinked (places : ℕ) (all : List Ruled) : Type 0 where
  pub count : length all ≡ places
  pub linked : (a b : ℕ) → 1 ≤ a → a ≤ places → 1 ≤ b → b ≤ places → a ≢ b → HasLink a b all

-- there are so many places, each with so many slots for ends to places, and for ends from places
pub record HaveSlots (slots places : ℕ) (all : List Ruled) : Type 0 where
  pub count : length all ≡ places
  pub out : (a : ℕ) → 1 ≤ a → a ≤ places → length (of_place a all).out ≡ slots
  pub into : (a : ℕ) → 1 ≤ a → a ≤ places → length (of_place a all).into ≡ slots

-- the link from a to b, another place, is new, and all others are as they were
pub record LinksOne (a b : ℕ) (old new : List Ruled) : Type 0 where
  pub has : a ≢ b → HasLink a b new
  pub out : (p q : ℕ) → 1 ≤ p → ((p ≡ a) × (q ≡ b) → ⊥) → out_of p q new ≡ out_of p q old
  pub into : (p q : ℕ) → 1 ≤ q → ((p ≡ a) × (q ≡ b) → ⊥) → into_of p q new ≡ into_of p q old

-- the links from a to the places below n are new, and those from others are as they were
pub record LinksBelow (a n : ℕ) (old new : List Ruled) : Type 0 where
  pub has : (b : ℕ) → 1 ≤ b → b < n → a ≢ b → HasLink a b new
  pub out : (p q : ℕ) → 1 ≤ p → p ≢ a → out_of p q new ≡ out_of p q old
  pub into : (p q : ℕ) → 1 ≤ q → p ≢ a → into_of p q new ≡ into_of p q old

-- from each place below n to each other one there is such a link
pub record AreLinkedBelow (n places : ℕ) (all : List Ruled) : Type 0 where
  pub linked : (a b : ℕ) → 1 ≤ a → a < n → 1 ≤ b → b ≤ places → a ≢ b → HasLink a b all

-- both ends are there, and have the name of one link
abbrev pub AreOfOneLink : Option (SendEnd Packet) → Option (RecvEnd Packet) → Type 0
AreOfOneLink None recv = ⊥
AreOfOneLink (Some send) None = ⊥
AreOfOneLink (Some send) (Some recv) = send_name send ≡ recv_name recv
