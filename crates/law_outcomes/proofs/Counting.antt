-- How many moves a history has: the commands that were answered, and the packets that were worked off.
-- c is a scenario, ms are moves, es events, both with the latest first, told are what answered.
use Rattle.std.proofs.Common.{ℕ, zero, suc, ◌≡◌, ◌+◌, Bool, true, false, ◌&&◌, cond, List, [], ◌∷◌, ◌++◌, length, map, reverse, option_to_list, Option, Some, None, is_some, slice_get, slice_set, refl, sym, ◌∙◌, ap, subst, arith}
use Rattle.std.specs.List.{All, flat_map}
use Rattle.std.specs.Option.{option_map}
use Rattle.std.proofs.lemmas.Bool.{and_parts, false≢true}
use Rattle.std.proofs.lemmas.List.{length-append}
use Rattle.std.proofs.lemmas.List.Elements.{All-nil, All-cons, All-head, All-tail, All-append}
use Rattle.chorus_ui.specs.declared.layout.Layout.{Layout}
use Rattle.chorus_entry.specs.declared.command.Command.{Command}
use Rattle.chorus_entry.specs.declared.packet.Packet.{Packet}
use Rattle.chorus_calls.specs.Callers.{Seated}
use Rattle.law_arrows.specs.Arrows.{served, served_by, worked_off}
use Rattle.law_network.specs.Calls.{starting}
use Rattle.law_network.specs.Network.{NetState, Event, Act, Deliver, schedule, turn_for}
use Rattle.law_network.specs.Packets.{first_on}
use Rattle.law_network.proofs.Merge.Parts.{All-reverse}
use Rattle.law_explore.specs.declared.moves.Move.{Move}
use Rattle.law_explore.specs.declared.moves.Move.TheVariants.{Go, Carry}
use Rattle.law_explore.specs.Races.{Order, Position, Told, are_linked, event_of, is_now, is_ready_by, may_come, next_of, own_by, position_after, replaying, seat_0, told_in, with_answer}
use Rattle.law_explore.specs.Replays.{events_of}
use Rattle.law_explore.specs.Search.{IsHistory}
use Rattle.law_moments.specs.Answers.{answered_by}
use Rattle.law_replay.specs.Shown.{race_of}
use Rattle.chorus_scene.specs.Scene.{Scene, Script}
use Rattle.chorus_report.specs.Setup.{setup_commands}
use Rattle.chorus_replay.specs.Order.{entering, in_setup}
use Rattle.chorus_explore.specs.Stages.{position}
use Rattle.chorus_explore.proofs.Happening.{events, left-none, net-is}
use Rattle.chorus_explore.proofs.Racing.{base}
use Rattle.law_outcomes.proofs.Silent.{told-at}

-- Lists of lists.

abbrev pub all_in : List (List Told) → List Told
all_in told = flat_map (λ (its : List Told). its) told

-- one act more in one of them
one-more : (told : List (List Told)) (i : ℕ) (was : List Told) (a : Told) → slice_get told i ≡ Some was → length (all_in (slice_set told i (a ∷ was))) ≡ suc (length (all_in told))
one-more [] i was a e = absurd (cc)
one-more (x ∷ told) zero was a e = (let same : x ≡ was = cc in ap (λ (y : List Told). suc (length (y ++ all_in told))) (sym same))
one-more (x ∷ told) (suc i) was a e =
    let ih = one-more told i was a e in
    let b = length-append x (all_in (slice_set told i (a ∷ was))) in
    let d = length-append x (all_in told) in
    omega (arith, ih, b, d)

-- Before the race no packet is worked off.

abbrev IsIdle : Event → Type 0
IsIdle e = (n : NetState) → served_by e n ≡ []

idle : (l : Layout) (es : List Event) → All IsIdle es → worked_off l es ≡ []
idle l [] h = refl
idle l (e ∷ es) h = ap (λ xs. xs ++ worked_off l es) (All-head IsIdle e es h (schedule l es)) ∙ idle l es (All-tail IsIdle e es h)

each : {X : Type 0} (f : X → Event) (xs : List X) → ((x : X) → IsIdle (f x)) → All IsIdle (map f xs)
each f [] h = All-nil IsIdle
each f (x ∷ xs) h = All-cons IsIdle (f x) (map f xs) (h x) (each f xs h)

pub idle-first : (c : Scene) → worked_off c.layout (reverse (base c)) ≡ []
idle-first c =
    idle c.layout (reverse (base c))
    (All-reverse IsIdle (base c)
    (All-append IsIdle (starting ∷ in_setup c) (entering c)
    (All-cons IsIdle starting (in_setup c) (λ n. refl) (each (Act 0) (setup_commands c) (λ d n. refl)))
    (each _ c.scripts (λ s n. refl))))

none-in : {X : Type 0} (xs : List X) → length (all_in (map (λ (x : X). []) xs)) ≡ 0
none-in [] = refl
none-in (x ∷ xs) = none-in xs

pub served-one : (b : ℕ) (o : Option Seated) (q : Option Packet) → is_some o && is_some q ≡ true → length (served b o q) ≡ 1
served-one b None q h = absurd (false≢true h)
served-one b (Some w) None h = absurd (false≢true h)
served-one b (Some w) (Some q) h = refl

module _ (c : Scene) where
  abbrev Counted : List Move → Type 0
  Counted ms = length (all_in (position c ms).told) + length (worked_off c.layout (events c ms)) ≡ length ms

  module _ (ms : List Move) (ih : Counted ms) where
    abbrev s : Position
    s = position c ms

    abbrev After : Option Event → Move → Type 0
    After o m = length (all_in (position_after o m s).told) + length (worked_off c.layout ((option_to_list o ++ events_of (race_of c) ms) ++ reverse (base c))) ≡ suc (length ms)

    -- a command is answered by one act
    answered : (j : ℕ) (d : Command) (was : List Told) (w : Seated) → slice_get s.told j ≡ Some was → slice_get s.net.callers (suc j) ≡ Some w → After (Some (Act (suc j) d)) (Go j)
    answered j d was w told there =
        let a = own_by d s.net (Some w) in
        let rest = length (worked_off c.layout (events c ms)) in
        ap (λ o. length (all_in (slice_set s.told j (with_answer (own_by d s.net o) (slice_get s.told j)))) + rest) there
        ∙ ap (λ o. length (all_in (slice_set s.told j (with_answer a o))) + rest) told
        ∙ (let more = one-more s.told j was (told_in d (turn_for d w s.net)) told in omega (arith, more, ih))

    -- a delivery works one packet off
    delivered : (a b : ℕ) → is_some (slice_get s.net.callers 0) && is_some (first_on a b s.net.packets) ≡ true → After (Some (Deliver 0 a b)) (Carry a b)
    delivered a b ready =
        let n = schedule c.layout (events c ms) in
        let one = served-one b (slice_get n.callers 0) (first_on a b n.packets)
        (subst (λ (m : NetState). is_some (slice_get m.callers 0) && is_some (first_on a b m.packets) ≡ true) (sym (net-is c ms)) ready) in
        let more = length-append (served b (slice_get n.callers 0) (first_on a b n.packets)) (worked_off c.layout (events c ms)) in
        omega (arith, one, more, ih)

    gone : (h : IsHistory (replaying (race_of c)) ms) (j : ℕ) (o : Option Order) → next_of (slice_get s.left j) ≡ o
        → is_ready_by (option_map (λ (x : Order). Act (suc j) x.command) o) s.net ≡ true → After (option_map (λ (x : Order). Act (suc j) x.command) o) (Go j)
    gone h j None e ready = absurd (false≢true ready)
    gone h j (Some d) e ready = by (slice_get c.scripts j) refl (slice_get s.net.callers (suc j)) refl (and_parts (is_some (slice_get s.net.callers (suc j))) true ready).0
      where
        by : (o : Option Script) → slice_get c.scripts j ≡ o → (w : Option Seated) → slice_get s.net.callers (suc j) ≡ w → is_some w ≡ true → After (Some (Act (suc j) d.command)) (Go j)
        by None none w f some = absurd (let n = ap next_of (sym (left-none c j ms h none)) ∙ e in cc)
        by (Some script) there None f some = absurd (false≢true some)
        by (Some script) there (Some w) f some = answered j d.command (answered_by c.layout (suc j) (events c ms)) w (told-at c ms j script there) f

    carried : (a b : ℕ) (q : Bool) → is_ready_by (cond q (Some (Deliver 0 a b)) None) s.net ≡ true → After (cond q (Some (Deliver 0 a b)) None) (Carry a b)
    carried a b false ready = absurd (false≢true ready)
    carried a b true ready = delivered a b ready

  ready-of : (m : Move) (ms : List Move) → may_come (race_of c).net.layout m (position c ms) ≡ true → is_ready_by (event_of (race_of c).net.layout seat_0 m (position c ms).left) (position c ms).net ≡ true
  ready-of m ms h = (and_parts (is_ready_by (event_of (race_of c).net.layout seat_0 m (position c ms).left) (position c ms).net) (is_now m (position c ms).left (position c ms).net) h).0

  pub counted : (ms : List Move) → IsHistory (replaying (race_of c)) ms → Counted ms
  counted [] h =
      let none = none-in (race_of c).scripts in
      let first = ap length (idle-first c) in
      omega (arith, none, first)
  counted (Go j ∷ ms) h = gone ms (counted ms h.1) h.1 j (next_of (slice_get (position c ms).left j)) refl (ready-of (Go j) ms h.0)
  counted (Carry a b ∷ ms) h = carried ms (counted ms h.1) a b (are_linked (race_of c).net.layout a b) (ready-of (Carry a b) ms h.0)
