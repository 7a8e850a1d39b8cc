-- What is left of places, and taking it link by link.
-- a, b, p and q are numbers of places, s and t are what is left of a place, slots are these by places, that of place p
-- at p - 1.
use Rattle.std.specs.Prelude.{ℕ, ◌≡◌, ◌≢◌, ◌-◌, ◌<◌, ◌≤◌, ◌==◌, Bool, true, false, cond, List, [], ◌++◌, length, drop, Option, Some, None, is_some, option_to_list, slice_index_or}
use Rattle.chorus_entry.specs.declared.packet.Packet.{Packet}
use Rattle.place_outbox.specs.Waiting.{list_to}
use Rattle.chorus_link.specs.declared.ends.SendEnd.{SendEnd}
use Rattle.chorus_link.specs.declared.ends.RecvEnd.{RecvEnd}
use Rattle.chorus_ruled_ends.specs.Ruled.{end_to, end_from, sent_by, received_by}
use Rattle.chorus_ruled_ends.specs.Linked.{no_ends, AreOfOneLink}
use Rattle.law_history.specs.Places.{up_to, from_one, by_link}
use Rattle.law_closing.specs.Closing.{IsPlace}
use Rattle.chorus_nucleus.specs.declared.leavings.Remains.{Remains}

-- what is in hand, and where it came from that place

abbrev pub is_from : ℕ → Option ℕ → Bool
is_from a None = false
is_from a (Some b) = b == a

abbrev pub content : Remains → List Packet
content t = option_to_list t.hand ++ option_to_list t.parcel

abbrev pub hand_from : ℕ → Remains → List Packet
hand_from a t = cond (is_from a t.from) (content t) []

-- what a link gives back, by its two ends
abbrev pub unreceived : Option (SendEnd Packet) → Option (RecvEnd Packet) → List Packet
unreceived send recv = drop (length (received_by recv)) (sent_by send)

-- what goes from a to b: what b has in hand of it, what the link gives back, and what waits at a
abbrev pub between : ℕ → Remains → ℕ → Remains → List Packet
between a s b t = hand_from a t ++ (unreceived (end_to b s.ends) (end_from a t.ends) ++ list_to b s.out.lists)

-- what was sent from a to b is what was received, followed by the rest
abbrev pub Settles : ℕ → Remains → ℕ → Remains → Type 0
Settles a s b t =
    sent_by (end_to b s.ends) ≡ received_by (end_from a t.ends) ++ unreceived (end_to b s.ends) (end_from a t.ends)

-- the two ends of the link from a to b are there, and are of one link
abbrev pub IsLinked : ℕ → Remains → ℕ → Remains → Type 0
IsLinked a s b t = AreOfOneLink (end_to b s.ends) (end_from a t.ends)

-- nothing goes to the place q in another way, or comes from the place p
pub record SameOut (q : ℕ) (s t : Remains) : Type 0 where
  pub end : end_to q t.ends ≡ end_to q s.ends
  pub waits : list_to q t.out.lists ≡ list_to q s.out.lists

pub record SameInto (p : ℕ) (s t : Remains) : Type 0 where
  pub end : end_from p t.ends ≡ end_from p s.ends
  pub hand : hand_from p t ≡ hand_from p s

-- what was in hand from a was taken
pub record TakesHand (a : ℕ) (was now : List Packet) (s t : Remains) : Type 0 where
  pub packets : now ≡ was ++ hand_from a s
  pub ends : t.ends ≡ s.ends
  pub lists : t.out.lists ≡ s.out.lists
  pub hand : (p : ℕ) → p ≢ a → hand_from p t ≡ hand_from p s

-- what waited for b was taken
pub record TakesWaiting (b : ℕ) (was now : List Packet) (lists rest : List (List Packet)) : Type 0 where
  pub packets : now ≡ was ++ list_to b lists
  pub others : (q : ℕ) → q ≢ b → list_to q rest ≡ list_to q lists

-- what goes from a to b was taken; s and t are what is left at a before and after, u and v at b
pub record TakesPair (a b : ℕ) (was now : List Packet) (s t u v : Remains) : Type 0 where
  pub packets : now ≡ was ++ between a s b u
  pub settled : Settles a s b u
  pub out : (q : ℕ) → q ≢ b → SameOut q s t
  pub kept : (p : ℕ) → SameInto p s t
  pub there_out : (q : ℕ) → SameOut q u v
  pub into : (p : ℕ) → p ≢ a → SameInto p u v

-- the place's

abbrev pub nothing : Remains
nothing =
    record {
      ends = no_ends;
      out = record { lists = []; spare = 0; puts = 0; free = [] };
      from = None;
      hand = None;
      parcel = None;
    }

abbrev pub the : Option Remains → Remains
the None = nothing
the (Some t) = t

abbrev pub slot : ℕ → List (Option Remains) → Option Remains
slot p slots = slice_index_or slots (p - 1) None

abbrev pub remains_of : ℕ → List (Option Remains) → Remains
remains_of p slots = the (slot p slots)

abbrev pub AreThere : List (Option Remains) → Type 0
AreThere slots = (q : ℕ) → IsPlace (length slots) q → is_some (slot q slots) ≡ true

-- from the place a, of which s is left, to each other one there is a link
abbrev pub IsLinkedWith : ℕ → Remains → List (Option Remains) → Type 0
IsLinkedWith a s slots = (q : ℕ) → IsPlace (length slots) q → q ≢ a → IsLinked a s q (remains_of q slots)

-- from each place to each other one there is a link
abbrev pub AreLinkedAll : List (Option Remains) → Type 0
AreLinkedAll slots = (p : ℕ) → IsPlace (length slots) p → IsLinkedWith p (remains_of p slots) slots

-- what goes from a to b, if it is another place, was taken; s and t are what is left at a before and after
pub record TakesOne (a b : ℕ) (was now : List Packet) (s t : Remains) (old new : List (Option Remains)) : Type 0 where
  pub packets : now ≡ was ++ cond (b == a) [] (between a s b (remains_of b old))
  pub settled : b ≢ a → Settles a s b (remains_of b old)
  pub count : length new ≡ length old
  pub there : (q : ℕ) → is_some (slot q new) ≡ is_some (slot q old)
  pub out : (q : ℕ) → q ≢ b → SameOut q s t
  pub kept : (p : ℕ) → SameInto p s t
  pub others : (q : ℕ) → 1 ≤ q → q ≢ b → slot q new ≡ slot q old
  pub there_out : (q : ℕ) → SameOut q (remains_of b old) (remains_of b new)
  pub into : (p : ℕ) → p ≢ a → SameInto p (remains_of b old) (remains_of b new)

-- what goes from a to each other place up to b was taken
pub record TakesRow (a b : ℕ) (was now : List Packet) (s t : Remains) (old new : List (Option Remains)) : Type 0 where
  pub packets : now ≡ was ++ up_to b (λ q. cond (q == a) [] (between a s q (remains_of q old)))
  pub settled : (q : ℕ) → 1 ≤ q → q ≤ b → q ≢ a → Settles a s q (remains_of q old)
  pub count : length new ≡ length old
  pub there : (q : ℕ) → is_some (slot q new) ≡ is_some (slot q old)
  pub out : (q : ℕ) → b < q → SameOut q s t
  pub kept : (p : ℕ) → SameInto p s t
  pub ahead : (q : ℕ) → b < q → slot q new ≡ slot q old
  pub there_out : (p q : ℕ) → 1 ≤ p → SameOut q (remains_of p old) (remains_of p new)
  pub into : (p q : ℕ) → 1 ≤ q → p ≢ a → SameInto p (remains_of q old) (remains_of q new)

-- what goes from p to q
abbrev pub goes_between : List (Option Remains) → ℕ → ℕ → List Packet
goes_between slots p q = between p (remains_of p slots) q (remains_of q slots)

-- what goes from a to each other place was taken
pub record TakesFrom (a : ℕ) (was now : List Packet) (old new : List (Option Remains)) : Type 0 where
  pub packets : now ≡ was ++ from_one (length old) (goes_between old) a
  pub settled : (q : ℕ) → IsPlace (length old) q → q ≢ a → Settles a (remains_of a old) q (remains_of q old)
  pub count : length new ≡ length old
  pub there : (q : ℕ) → 1 ≤ q → is_some (slot q new) ≡ is_some (slot q old)
  pub out : (p q : ℕ) → 1 ≤ p → p ≢ a → SameOut q (remains_of p old) (remains_of p new)
  pub into : (p q : ℕ) → 1 ≤ q → p ≢ a → SameInto p (remains_of q old) (remains_of q new)

-- what goes from each place up to a to each other one was taken
pub record TakesRows (a : ℕ) (was now : List Packet) (old new : List (Option Remains)) : Type 0 where
  pub packets : now ≡ was ++ up_to a (from_one (length old) (goes_between old))
  pub settled : (p q : ℕ) → 1 ≤ p → p ≤ a → IsPlace (length old) q → q ≢ p
      → Settles p (remains_of p old) q (remains_of q old)
  pub count : length new ≡ length old
  pub there : (q : ℕ) → 1 ≤ q → is_some (slot q new) ≡ is_some (slot q old)
  pub out : (p q : ℕ) → a < p → SameOut q (remains_of p old) (remains_of p new)
  pub into : (p q : ℕ) → 1 ≤ q → a < p → SameInto p (remains_of q old) (remains_of q new)

-- what goes from each place to each other one was taken
pub record TakesAll (was now : List Packet) (old : List (Option Remains)) : Type 0 where
  pub packets : now ≡ was ++ by_link (length old) (goes_between old)
  pub settled : (p q : ℕ) → IsPlace (length old) p → IsPlace (length old) q → q ≢ p
      → Settles p (remains_of p old) q (remains_of q old)
