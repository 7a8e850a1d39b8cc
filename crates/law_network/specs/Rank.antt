-- How much is left to be done: a ranking function. A packet, and a message that waits, counts as many deliveries as may
-- at most come of it; each delivery that works a packet off lowers the sum.
-- n is a network, s a place, q a port, g a group, k a port and route, x an id, m a message, d a destination; os are
-- packets, ws messages that wait. A past has its newest entry first.
use Rattle.std.specs.Prelude.{ℕ, ◌+◌, ◌-◌, ◌*◌, max, Bool, false, ◌||◌, if◌then◌else◌, List, [], ◌∷◌, ◌++◌, length, drop, Option, Some, None, option_to_list}
use Rattle.chorus_ui.specs.declared.ui.Ui.{Ui}
use Rattle.chorus_ui.specs.Name.{same_ui}
use Rattle.chorus_entry.specs.declared.entry.Entry.{Entry}
use Rattle.chorus_entry.specs.declared.act.Act.{Act}
use Rattle.chorus_entry.specs.declared.dest.Dest.{Dest}
use Rattle.chorus_entry.specs.declared.answer.Answer.{Answer}
use Rattle.chorus_entry.specs.declared.packet.Cargo.{Cargo}
use Rattle.place_unsettled.specs.declared.wait.Key.{Key}
use Rattle.place_unsettled.specs.declared.wait.Wait.{Wait}
use Rattle.place_unsettled.specs.Queues.{Queue, same_key}
use Rattle.law_machine.specs.declared.outgoing.Outgoing.{Outgoing}
use Rattle.law_machine.specs.PlaceState.{PlaceState}
use Rattle.law_machine.specs.Choosing.{by_group}
use Rattle.law_machine.specs.Doing.{direct}
use Rattle.law_network.specs.Network.{NetState, one_if}
use Rattle.law_network.specs.Left.{merged_past}

-- What bounds it: how often each port moved, and what may come of the copies of a post. Deliveries do not change it.

pub record Bounds : Type 0 where
  pub moved : Ui → ℕ
  pub copies : Dest → ℕ

-- The deliveries that may come of a packet, and of a message that waits.

-- a final verdict; of a copy of a post to a group the place of the post may get a Report besides
abbrev pub told_rank : Option Ui → ℕ
told_rank None = 1
told_rank (Some g) = 2

-- a Try, and its verdict; each Stale before that has a higher hop, and is two deliveries more
abbrev pub try_rank : ℕ → Option Ui → ℕ → ℕ
try_rank moved route hop = (moved - hop) + (moved - hop) + 1 + told_rank route

abbrev pub verdict_rank : ℕ → Option Ui → Answer → ℕ
verdict_rank moved route (Answer.Stale to hop) = 1 + try_rank moved route hop
verdict_rank moved route _ = told_rank route

-- a message that waits for a port by a route is still to be tried, by hop 0 or a higher one
abbrev pub wait_rank : (Ui → ℕ) → Key → ℕ
wait_rank moved k = try_rank (moved k.port) k.route 0

-- an Ask is worked off, and tells its sender how many were chosen
abbrev pub cargo_rank : Bounds → Cargo → ℕ
cargo_rank b (Cargo.Try m q route only hop) = try_rank (b.moved q) route hop
cargo_rank b (Cargo.Verdict x q route answer) = verdict_rank (b.moved q) route answer
cargo_rank b (Cargo.Transfer port) = 1
cargo_rank b (Cargo.Ask m d) = b.copies d + 2
cargo_rank b (Cargo.Report x answer) = 1

abbrev pub packets_rank : Bounds → List Outgoing → ℕ
packets_rank b [] = 0
packets_rank b (o ∷ os) = cargo_rank b o.packet.cargo + packets_rank b os

-- how many messages of a queue are not under way, of which the first may be
abbrev pub behind : Option ℕ → List Wait → ℕ
behind None ws = length ws
behind (Some to) ws = length (drop 1 ws)

abbrev pub still : Queue → ℕ
still queue = behind queue.tried queue.waits

-- the messages that wait for these ports and routes at a place, and at all places
abbrev pub waits_rank : Bounds → List Key → (Key → Queue) → ℕ
waits_rank b [] queues = 0
waits_rank b (k ∷ ks) queues = still (queues k) * wait_rank b.moved k + waits_rank b ks queues

abbrev pub places_rank : Bounds → List Key → List PlaceState → ℕ
places_rank b ks [] = 0
places_rank b ks (s ∷ ss) = waits_rank b ks s.waiting + places_rank b ks ss

-- What a past tells of this: how often the port departed.

abbrev pub departs : Ui → Act → Bool
departs q (Act.Depart r to actor hop) = same_ui q r
departs q _ = false

abbrev pub moves : Ui → List Entry → ℕ
moves q [] = 0
moves q (e ∷ past) = one_if (departs q e.act) + moves q past

-- the ports that joined the group, as often as they did
abbrev pub joining : Ui → Act → Option Ui
joining g (Act.Join h q) = if same_ui h g then Some q else None
joining g _ = None

abbrev pub joined : Ui → List Entry → List Ui
joined g [] = []
joined g (e ∷ past) = option_to_list (joining g e.act) ++ joined g past

-- of a post to all there is a copy for each at most, of one to one member a single one
abbrev pub sum_rank : (Ui → ℕ) → Ui → List Ui → ℕ
sum_rank moved g [] = 0
sum_rank moved g (q ∷ qs) = wait_rank moved (by_group g q) + sum_rank moved g qs

abbrev pub most_rank : (Ui → ℕ) → Ui → List Ui → ℕ
most_rank moved g [] = 0
most_rank moved g (q ∷ qs) = max (wait_rank moved (by_group g q)) (most_rank moved g qs)

abbrev pub copies_rank : (Ui → ℕ) → Dest → List Entry → ℕ
copies_rank moved (Dest.Port q) past = 0
copies_rank moved (Dest.All g) past = sum_rank moved g (joined g past)
copies_rank moved (Dest.One g) past = most_rank moved g (joined g past)
copies_rank moved (Dest.OneAt g s) past = most_rank moved g (joined g past)

abbrev pub bounds : List Entry → Bounds
bounds past =
    let moved = λ (q : Ui). moves q past in
    record { moved = moved; copies = λ d. copies_rank moved d past }

-- the ports and routes by which messages may wait, each once: those of direct posts, and of the members of groups
abbrev pub is_among : Key → List Key → Bool
is_among k [] = false
is_among k (j ∷ js) = same_key k j || is_among k js

abbrev pub key_of : Act → Option Key
key_of (Act.Post m (Dest.Port q)) = Some (direct q)
key_of (Act.Join g q) = Some (by_group g q)
key_of _ = None

abbrev pub with_key : Option Key → List Key → List Key
with_key None ks = ks
with_key (Some k) ks = if is_among k ks then ks else k ∷ ks

abbrev pub keys : List Entry → List Key
keys [] = []
keys (e ∷ past) = with_key (key_of e.act) (keys past)

-- The rank of a network, by what its journals say.

abbrev pub rank_by : Bounds → List Key → NetState → ℕ
rank_by b ks n = packets_rank b n.packets + places_rank b ks n.places

abbrev pub rank : NetState → ℕ
rank n = rank_by (bounds (merged_past n)) (keys (merged_past n)) n
