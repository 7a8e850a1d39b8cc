-- Places that are alike.
-- posts and others are what two places may still hear of, p and q are places, w and v callers.
use Rattle.std.specs.Prelude.{ℕ, ◌≡◌, Bool, List, Some, map}
use Rattle.chorus_calls.specs.Callers.{Seated}
use Rattle.place_unsettled.specs.declared.unheard.Post.{Post}
use Rattle.place_unsettled.specs.declared.unheard.Copies.{Copies}
use Rattle.place_unsettled.specs.Unheard.{post_at, copies_of}
use Rattle.chorus_place.specs.Calls.{Place, state}
use Rattle.law_explore.specs.Alike.{PlaceAlike}
use Rattle.law_explore.specs.Positions.{AskAlike}
use Rattle.chorus_explore.specs.AlikeSites.Packets.{are_plain}

-- of each post of the ones the others keep the same
abbrev pub AreIn : List (Post × Copies) → List (Post × Copies) → Type 0
AreIn posts others =
    (i seat number : ℕ) → post_at posts i ≡ Some (seat, number) →
    copies_of posts seat number ≡ copies_of others seat number

-- the places are alike, where claims are asked or not, and the packets that wait there but for their clocks
pub record SamePlace (asks : Bool) (p q : Place) : Type 0 where
  pub alike : PlaceAlike (AskAlike asks) (state p) (state q)
  pub packets : map are_plain p.out.lists ≡ map are_plain q.out.lists

-- callers of one seat, in one actor, that posted as many messages
pub record AreOfOneSeat (w v : Seated) : Type 0 where
  pub seat : w.seat ≡ v.seat
  pub actor : w.actor ≡ v.actor
  pub posts : w.posts ≡ v.posts
