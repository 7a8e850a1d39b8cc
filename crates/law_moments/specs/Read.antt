-- Facts that are read from a past, in which the newest entry stands first, and from packets that are left.
-- l is a layout, p the number of a place, k that of a script and of its seat, q a port, f what became of it, ps are places
-- with their journals alone, es events, the latest first.
use Rattle.std.specs.Prelude.{ℕ, ◌≡◌, true, List, [], ◌∷◌, ◌++◌, length, map, drop, Option, Some, None}
use Rattle.std.specs.List.{flat_map, filter_map}
use Rattle.chorus_ui.specs.declared.layout.Layout.{Layout}
use Rattle.chorus_ui.specs.declared.ui.Ui.{Ui}
use Rattle.chorus_ui.specs.Layout.{IsLayout}
use Rattle.chorus_entry.specs.declared.entry.Entry.{Entry}
use Rattle.chorus_entry.specs.declared.packet.Packet.{Packet}
use Rattle.chorus_world.specs.Ports.{PortState, fate}
use Rattle.chorus_world.specs.Seats.{hand}
use Rattle.chorus_world.specs.Views.{at, by, on}
use Rattle.chorus_world.specs.declared.spot.Spot.{Spot}
use Rattle.chorus_world.specs.declared.spot.Spot.TheVariants as spots
use Rattle.law_machine.specs.PlaceState.{PlaceState, started}
use Rattle.law_network.specs.Left.{merged_past, packets_left}
use Rattle.law_network.specs.Network.{Event, numbers, place_numbers, schedule}
use Rattle.law_network.specs.Records.{outstanding}
use Rattle.law_network.specs.Schedules.{may_be}
use Rattle.law_explore.specs.Races.{Order, Told}
use Rattle.law_explore.specs.Outcome.{Fact, Outcome, Held, answer_facts, made_at, message_facts, outcome_with, posts_in, stuck_facts}
use Rattle.law_explore.specs.Moment.{accept_facts, call_facts, hand_facts, member_facts, moment_with, moving_in, next_facts, post_facts, settled_facts}
use Rattle.law_moments.specs.Answers.{answered_by, told_in, told_of}

-- The places: of each its journal alone.

abbrev pub place_read : Layout → List Entry → ℕ → PlaceState
place_read l past p = record (started l p) { journal = at p past }

abbrev pub places_read : Layout → List Entry → List PlaceState
places_read l past = map (place_read l past) (place_numbers l)

-- Ports: while an actor holds one, the messages that it accepted and that were not received wait in it.

abbrev pub held_read : Ui → PortState → Spot → Option Fact
held_read q f (spots.Held actor) = Some (Held q actor (drop f.taken f.accepted))
held_read q f _ = None

abbrev pub port_read : Ui → Option PortState → Option Fact
port_read q None = None
port_read q (Some f) = held_read q f f.spot

-- those that are held, in the order in which each place made them
abbrev pub ports_read : List Entry → List PlaceState → List Fact
ports_read past ps = filter_map (λ (q : Ui). port_read q (fate (on q past))) (made_at ps)

-- A seat: the call that it posted and that is neither done nor cancelled, and the request that it took last and did not
-- reply to.
abbrev pub caller_read : List Entry → ℕ → List Fact
caller_read past k = call_facts k (outstanding (by k past)) ++ hand_facts k (hand past (by k past))

-- ports on their way, in the packets that are left
abbrev pub moving_read : List Packet → List Fact
moving_read rest = flat_map (λ (packet : Packet). moving_in packet.cargo) rest

-- what is left of scripts of which so many commands were answered
abbrev pub left_behind : List (List Order) → List (List Told) → List (List Order)
left_behind (orders ∷ scripts) (told ∷ rest) = drop (length told) orders ∷ left_behind scripts rest
left_behind _ _ = []

-- An outcome of these scripts.
abbrev pub outcome_read : Layout → List (List Order) → List Entry → Outcome
outcome_read l scripts past =
    let told = told_in (length scripts) past in
    let ps = places_read l past in
    answer_facts 1 told ++ message_facts told ps ++ ports_read past ps ++ stuck_facts scripts (left_behind scripts told)

-- A moment of these scripts.
abbrev pub moment_read : Layout → List (List Order) → List Entry → List Packet → List Fact
moment_read l scripts past rest =
    let told = told_in (length scripts) past in
    let ps = places_read l past in
    settled_facts 1 told ++ flat_map (post_facts ps) (posts_in told) ++ (ports_read past ps ++ accept_facts ps)
    ++ moving_read rest ++ flat_map member_facts ps
    ++ (flat_map (caller_read past) (numbers (length scripts) 1) ++ next_facts scripts (left_behind scripts told))

-- What is read of a schedule's network is what answered the commands, and what is told of the network.

abbrev pub AnswersAreRead : Type 0
AnswersAreRead =
    (l : Layout) (es : List Event) (k : ℕ) → IsLayout l → may_be l es ≡ true →
    told_of k (merged_past (schedule l es)) ≡ answered_by l k es

abbrev pub OutcomesAreRead : Type 0
OutcomesAreRead =
    (l : Layout) (es : List Event) (scripts : List (List Order)) → IsLayout l → may_be l es ≡ true →
    let n = schedule l es in
    let told = told_in (length scripts) (merged_past n) in
    outcome_read l scripts (merged_past n) ≡ outcome_with scripts (left_behind scripts told) told n.places

abbrev pub MomentsAreRead : Type 0
MomentsAreRead =
    (l : Layout) (es : List Event) (scripts : List (List Order)) → IsLayout l → may_be l es ≡ true →
    let n = schedule l es in
    let told = told_in (length scripts) (merged_past n) in
    moment_read l scripts (merged_past n) (packets_left n) ≡ moment_with scripts (left_behind scripts told) told n
