-- The sites behind the setup and the entering of the callers, and clocks that are worn.
-- c is a scenario, n a network.
use Rattle.std.proofs.Common.{ℕ, ◌≡◌, ◌≤◌, true, List, [], ◌∷◌, ◌++◌, map, reverse, Some, Result, Err, inl, inr, sym, ◌∙◌, ap, subst, append_assoc}
use Rattle.std.proofs.lemmas.List.{append_cancel_right}
use Rattle.chorus_ui.specs.declared.layout.Layout.{Layout}
use Rattle.chorus_ui.specs.declared.limits.TheConstants.{CLOCK_LIMIT}
use Rattle.law_network.specs.Network.{NetState, Event, schedule}
use Rattle.law_network.specs.Tasks.{Do, Drain, CarryOut}
use Rattle.law_explore.specs.declared.moves.Move.{Move}
use Rattle.law_explore.specs.Races.{event_of, seat_0}
use Rattle.law_replay.specs.Shown.{race_of}
use Rattle.chorus_scene.specs.Scene.{Scene}
use Rattle.chorus_net.specs.Sites.{net}
use Rattle.chorus_place.specs.declared.fault.PlaceFault.{PlaceFault}
use Rattle.chorus_net.specs.Worn.{compared_by}
use Rattle.chorus_replay.specs.Order.{in_schedule, left_from, order}
use Rattle.chorus_replay.specs.Performing.{IsBefore, IsWornAt, to_follow}
use Rattle.chorus_explore.specs.declared.race_sites.Stage.{Stage}
use Rattle.chorus_explore.specs.Stages.{IsReached, MayWear, may_go, moves_of, position}
use Rattle.chorus_explore.proofs.Racing.{base, map-reverse}

carried-do : (l : Layout) (fs es : List Event) → CarryOut l (map Do fs) es → es ≡ fs
carried-do l [] es h = h
carried-do l (f ∷ fs) es h = h.1.0 ∙ ap (λ xs. f ∷ xs) (carried-do l fs h.0 h.1.1)

order-parts : (c : Scene) → order c ≡ map Do (base c) ++ to_follow c
order-parts c =
    let first = map Do (base c) in
    let steps = in_schedule c.scripts [] c.schedule in
    let left = left_from c.schedule 1 c.scripts in
    append_assoc (first ++ steps) left (Drain 0 ∷ []) ∙ append_assoc first steps (left ++ Drain 0 ∷ [])

-- where all callers have entered, the race begins
pub entered-is : (c : Scene) (n : NetState) → IsBefore c (to_follow c) n → n ≡ (race_of c).net
entered-is c n b =
    let done : b.done ≡ map Do (base c) = append_cancel_right b.done (map Do (base c)) (to_follow c) (sym b.whole ∙ order-parts c) in
    let out : CarryOut c.layout (map Do (reverse (base c))) b.events = subst (λ ts. CarryOut c.layout ts b.events) (ap reverse done ∙ sym (map-reverse Do (base c))) b.carried in
    b.is ∙ ap (schedule c.layout) (carried-do c.layout (reverse (base c)) b.events out)

-- a clock that was worn before
pub wears-before : (c : Scene) (n : NetState) (clock : ℕ) → IsWornAt c clock n → MayWear c clock
wears-before c n clock w = inl (n, w)

-- and one that a move wears
pub wears-behind : (c : Scene) (s : Stage) (m : Move) (event : Event) (clock : ℕ) → IsReached c s → may_go c m (moves_of s) ≡ true
    → event_of (race_of c).net.layout seat_0 m (position c (moves_of s)).left ≡ Some event → compared_by event (net s.sites) ≡ Some clock → CLOCK_LIMIT ≤ clock → MayWear c clock
wears-behind c s m event clock h may is compared worn =
    inr (record { moves = moves_of s; mv = m; event = event; history = (may, h.history); is = is; compared = ap (compared_by event) (sym h.at.net) ∙ compared; worn = worn })

pub wears-late : (c : Scene) (clock : ℕ) → MayWear c clock → CLOCK_LIMIT ≤ clock
wears-late c clock (inl w) = w.1.worn.worn
wears-late c clock (inr w) = w.worn

-- a refusal that is passed on is the refusal of the call
pub exit : {T U : Type 0} (r : Result T PlaceFault) (s : Result U PlaceFault) (x y e : PlaceFault) → r ≡ Err y → y ≡ x → s ≡ Err x → r ≡ Err e → s ≡ Err e
exit r s x y e one same was is =
    let other : y ≡ e = (let both : Err y ≡ Err e = sym one ∙ is in cc) in was ∙ ap (λ (z : PlaceFault). Err z) (sym same ∙ other)
