-- A replay of moves, and of a drain behind them, leaves what the moves come to.
use Rattle.std.proofs.Common.{◌≡◌, List, [], ◌∷◌, ◌++◌, map, option_to_list, Option, Some, None, refl, sym, ◌∙◌, ap}
use Rattle.chorus_ui.specs.declared.layout.Layout.{Layout}
use Rattle.law_network.specs.Network.{Event, happened, after, schedule}
use Rattle.law_network.specs.Tasks.{Task, Do, Drain, CarryOut}
use Rattle.law_network.proofs.Draining.Drains.{carried-out-once, drain-when-none}
use Rattle.law_explore.specs.declared.moves.Move.{Move}
use Rattle.law_explore.specs.Search.{state_after}
use Rattle.law_explore.specs.Races.{Race, Position, event_of, position_after, seat_0, replaying}
use Rattle.law_explore.specs.Replays.{events_of, MovesAreReplayed}

one-more : (o : Option Event) (m : Move) (s : Position) → (position_after o m s).net ≡ after (option_to_list o) s.net
one-more None m s = refl
one-more (Some e) m s = refl

after-one : (o : Option Event) (es : List Event) (r : Race) → after (option_to_list o ++ es) r.net ≡ after (option_to_list o) (after es r.net)
after-one None es r = refl
after-one (Some e) es r = refl

pub net-after : (r : Race) (ms : List Move) → (state_after (replaying r) ms).net ≡ after (events_of r ms) r.net
net-after r [] = refl
net-after r (m ∷ ms) =
    let s = state_after (replaying r) ms in
    let o = event_of r.net.layout seat_0 m s.left in
    one-more o m s ∙ ap (after (option_to_list o)) (net-after r ms) ∙ sym (after-one o (events_of r ms) r)

carry-more : (l : Layout) (fs : List Event) (ts : List Task) (base : List Event) → CarryOut l ts base → CarryOut l (map Do fs ++ ts) (fs ++ base)
carry-more l [] ts base h = h
carry-more l (f ∷ fs) ts base h = (fs ++ base, (refl, carry-more l fs ts base h))

after-all : (fs base : List Event) (l : Layout) → schedule l (fs ++ base) ≡ after fs (schedule l base)
after-all [] base l = refl
after-all (f ∷ fs) base l = ap (happened f) (after-all fs base l)

pub moves-are-replayed : MovesAreReplayed
moves-are-replayed l ts base es r ms carried net none all =
    let fs = events_of r ms in
    let is : schedule l (fs ++ base) ≡ (state_after (replaying r) ms).net = after-all fs base l ∙ ap (after fs) (sym net) ∙ sym (net-after r ms) in
    let dry : (schedule l (fs ++ base)).packets ≡ [] = ap (λ n. n.packets) is ∙ none in
    carried-out-once l (Drain 0 ∷ map Do fs ++ ts) es (fs ++ base) all
    (fs ++ base, (drain-when-none l 0 0 (fs ++ base) dry, carry-more l fs ts base carried))
    ∙ is
