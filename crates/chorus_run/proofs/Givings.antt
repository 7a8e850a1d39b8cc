-- A port that gives a message in the world of the journals that were closed is one of the ports that were closed, with a message.
-- l is a layout, p the number of a place, a an actor, q a port, h a holding. A past has its newest entry first.
use Rattle.std.proofs.Common.{ℕ, ◌≡◌, ◌≤◌, ◌==◌, ◌-◌, Bool, true, false, ◌&&◌, ◌||◌, not, cond, List, [], ◌∷◌, ◌++◌, length, map, drop, Option, Some, None, refl, sym, ◌∙◌, ap, arith}
use Rattle.std.specs.List.{filter, flat_map, list_any}
use Rattle.std.proofs.lemmas.Bool.{and_parts, and_from, false≢true}
use Rattle.std.proofs.lemmas.Bool.Decides.{nat_tests}
use Rattle.std.proofs.lemmas.List.{length-map, length-drop}
use Rattle.chorus_ui.specs.declared.ui.Ui.{Ui}
use Rattle.chorus_ui.specs.Name.{same_ui}
use Rattle.chorus_ui.proofs.Names.{from_same_ui, same_ui-self}
use Rattle.chorus_ui.specs.declared.layout.Layout.{Layout}
use Rattle.chorus_entry.specs.declared.entry.Entry.{Entry}
use Rattle.chorus_entry.specs.declared.packet.Packet.{Packet}
use Rattle.chorus_entry.specs.declared.packet.Cargo.{Cargo}
use Rattle.chorus_world.specs.declared.spot.Spot.{Spot}
use Rattle.chorus_world.specs.declared.spot.Spot.TheVariants as spots
use Rattle.chorus_world.specs.Views.{on}
use Rattle.chorus_world.specs.Ports.{PortState, fate, last_of}
use Rattle.chorus_world.specs.Runs.{is_held_by}
use Rattle.law_awaits.specs.Awaits.{gives}
use Rattle.law_network.specs.declared.placed.Placed.{Placed}
use Rattle.law_network.specs.Holdings.{Holding, At, OnTheWay, StandsFor, holdings_left, holds, moved_as, moved_to, told_in, told_of}
use Rattle.law_network.specs.Records.{message}
use Rattle.chorus_run.specs.Standing.{gives_now, is_given}

-- the holding would give a take of the actor, at the place, a message
abbrev gives_in : ℕ → Ui → Ui → Holding → Bool
gives_in p a q (At place port) = (place == p) && same_ui port.ui q && same_ui port.actor a && not (length port.pending == 0)
gives_in p a q (OnTheWay from to port) = false

-- one of those that are left is one of all
any-left : (f g : Holding → Bool) (hs : List Holding) → list_any f (filter g hs) ≡ true → list_any f hs ≡ true
any-left f g [] e = e
any-left f g (h ∷ hs) e = by (g h) (f h) refl (any-left f g hs) e
  where
    by : (b c : Bool) → f h ≡ c → (list_any f (filter g hs) ≡ true → list_any f hs ≡ true) → list_any f (cond b (h ∷ filter g hs) (filter g hs)) ≡ true → (c || list_any f hs) ≡ true
    by b true is ih e = refl
    by true false is ih e = ih (sym (ap (λ d. d || list_any f (filter g hs)) is) ∙ e)
    by false false is ih e = ih e

module _ (l : Layout) (p : ℕ) (a q : Ui) where
  -- a packet gives nothing
  none-moved : (from : ℕ) (cargo : Cargo) (hs : List Holding) → list_any (gives_in p a q) hs ≡ false → list_any (gives_in p a q) (moved_to l from cargo ++ hs) ≡ false
  none-moved from (Cargo.Transfer port) hs e = e
  none-moved from (Cargo.Ask m d) hs e = e
  none-moved from (Cargo.Try m r s t u) hs e = e
  none-moved from (Cargo.Verdict x r s t) hs e = e
  none-moved from (Cargo.Report x r) hs e = e

  none-on-the-way : (rest : List Packet) → list_any (gives_in p a q) (flat_map (moved_as l) rest) ≡ false
  none-on-the-way [] = refl
  none-on-the-way (k ∷ rest) = none-moved k.from k.cargo (flat_map (moved_as l) rest) (none-on-the-way rest)

  -- of what was closed the ports alone do
  among : (ports : List Placed) (rest : List Packet) → list_any (gives_in p a q) (holdings_left l ports rest) ≡ is_given ports p a q
  among [] rest = none-on-the-way rest
  among (port ∷ ports) rest = ap (λ b. gives_now p a q port || b) (among ports rest)

  -- what the past tells of a port that gives something gives it
  told : (past : List Entry) (o : Option PortState) → ((f : PortState) → o ≡ Some f → f.taken ≤ length f.accepted) → gives p a o ≡ true → list_any (gives_in p a q) (told_of past q o) ≡ true
  told past None within e = absurd (false≢true e)
  told past (Some f) within e = by f.spot e
    where
      left : (n m : ℕ) → n ≤ m → not (n == m) ≡ true → not (m - n == 0) ≡ true
      left n m le e = grind (arith, nat_tests)

      by : (spot : Spot) → (is_held_by a spot && (last_of 0 f.path == p)) && not (f.taken == length f.accepted) ≡ true → list_any (gives_in p a q) (told_in past q f spot) ≡ true
      by (spots.Held b) e =
          let two = and_parts (same_ui a b && (last_of 0 f.path == p)) (not (f.taken == length f.accepted)) e in
          let one = and_parts (same_ui a b) (last_of 0 f.path == p) two.0 in
          let waits = map (message past) (drop f.taken f.accepted) in
          let count : length waits ≡ length f.accepted - f.taken = length-map (drop f.taken f.accepted) (message past) ∙ length-drop f.taken f.accepted in
          let held = and_from (last_of 0 f.path == p) (same_ui q q) one.1 (same_ui-self q) in
          let by_actor : same_ui b a ≡ true = ap (same_ui b) (from_same_ui a b one.0) ∙ same_ui-self b in
          ap (λ x. x || false)
          (and_from ((last_of 0 f.path == p) && same_ui q q && same_ui b a) (not (length waits == 0)) (and_from ((last_of 0 f.path == p) && same_ui q q) (same_ui b a) held by_actor)
          (ap (λ k. not (k == 0)) count ∙ left f.taken (length f.accepted) (within f refl) two.1))
      by (spots.Moving b) e = absurd (false≢true e)
      by spots.Ended e = absurd (false≢true e)

  -- so none gives anything in the world where none of the ports does
  pub given-by : (past : List Entry) (ports : List Placed) (rest : List Packet) → StandsFor past (holdings_left l ports rest) → ((f : PortState) → fate (on q past) ≡ Some f → f.taken ≤ length f.accepted) → is_given ports p a q ≡ false → gives p a (fate (on q past)) ≡ false
  given-by past ports rest stands within none = by (gives p a (fate (on q past))) refl
    where
      by : (b : Bool) → gives p a (fate (on q past)) ≡ b → b ≡ false
      by false e = refl
      by true e =
          absurd (false≢true (sym none ∙ sym (among ports rest)
          ∙ any-left (gives_in p a q) (holds q) (holdings_left l ports rest) (ap (list_any (gives_in p a q)) (stands.shown q) ∙ told past (fate (on q past)) within e)))
