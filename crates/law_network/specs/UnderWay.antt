-- What the past says of the packets that are under way: of each message, of each port, and of the posts to each group.
-- x is an id, m a message or a post, d a destination, q a port, g a group, p, a and b are numbers of places, f is what
-- became of a port, l a layout, o a packet with the place that it goes to. A past has its newest entry first.
use Rattle.std.specs.Prelude.{ℕ, ◌==◌, Bool, false, if◌then◌else◌, List, [], ◌∷◌, Option, Some, None}
use Rattle.std.specs.List.{filter, flat_map}
use Rattle.chorus_ui.specs.declared.ui.Ui.{Ui}
use Rattle.chorus_ui.specs.Name.{same_ui}
use Rattle.chorus_ui.specs.declared.layout.Layout.{Layout}
use Rattle.chorus_ui.specs.Layout.{group_place}
use Rattle.chorus_entry.specs.declared.entry.Entry.{Entry}
use Rattle.chorus_entry.specs.declared.id.MsgId.{MsgId}
use Rattle.chorus_entry.specs.declared.dest.Dest.{Dest}
use Rattle.chorus_entry.specs.declared.answer.Answer.{Answer}
use Rattle.chorus_entry.specs.declared.packet.Cargo.{Cargo}
use Rattle.chorus_entry.specs.Dest.{group_in}
use Rattle.chorus_entry.specs.MsgId.{same_id}
use Rattle.chorus_world.specs.declared.progress.Progress.{Progress}
use Rattle.chorus_world.specs.declared.progress.Progress.TheVariants as stages
use Rattle.chorus_world.specs.declared.place.Sent.{Sent}
use Rattle.chorus_world.specs.declared.spot.Spot.{Spot}
use Rattle.chorus_world.specs.declared.spot.Spot.TheVariants as spots
use Rattle.chorus_world.specs.Views.{at, about, on}
use Rattle.chorus_entry.specs.Same.{are_same}
use Rattle.chorus_world.specs.Messages.{progress}
use Rattle.chorus_world.specs.Ports.{PortState, fate, last_of}
use Rattle.chorus_world.specs.Posts.{Posted, post_of, site_asked}
use Rattle.chorus_world.specs.Places.{last_clock, sent, find_sent}
use Rattle.law_machine.specs.declared.outgoing.Outgoing.{Outgoing}
use Rattle.law_network.specs.Packets.{is_link}
use Rattle.law_network.specs.Records.{message, record_for}

-- a packet that the place `from` put with this clock for the place `to`
abbrev pub packet : ℕ → ℕ → ℕ → Cargo → Outgoing
packet from to clock cargo = record { to = to; packet = record { clock = clock; from = from; cargo = cargo } }

-- Messages.

-- the packet is about the message: it asks for it, tries it, tells or reports what became of it
abbrev pub carries : MsgId → Cargo → Bool
carries x (Cargo.Try m q route only hop) = same_id m.id x
carries x (Cargo.Verdict y q route answer) = same_id y x
carries x (Cargo.Transfer port) = false
carries x (Cargo.Ask m d) = same_id m.id x
carries x (Cargo.Report y answer) = same_id y x

abbrev pub is_of : MsgId → Outgoing → Bool
is_of x o = carries x o.packet.cargo

-- the place of the group that is posted to from `home`, where it is another place
abbrev pub other_place : ℕ → Option ℕ → Option ℕ
other_place home None = None
other_place home (Some p) = if p == home then None else Some p

abbrev pub far_place : Layout → ℕ → Option Ui → Option ℕ
far_place l home None = None
far_place l home (Some g) = other_place home (group_place l g)

-- the route by which a message was sent from the place p
abbrev pub route_in : Option Sent → Option Ui
route_in None = None
route_in (Some m) = m.route

abbrev pub route : List Entry → MsgId → ℕ → Option Ui
route past x p = route_in (find_sent x (sent (at p past)))

-- a post to a group of another place is asked for there
abbrev pub asked_as : List Entry → MsgId → ℕ → ℕ → Dest → Option ℕ → List Outgoing
asked_as past x clock from d None = []
asked_as past x clock from d (Some p) = packet from p clock (Cargo.Ask (message past x) d) ∷ []

-- and what became of it, or of its copy, is reported from there
abbrev pub reported_to : MsgId → ℕ → Answer → ℕ → Option ℕ → List Outgoing
reported_to x clock answer home None = []
reported_to x clock answer home (Some p) = packet p home clock (Cargo.Report x answer) ∷ []

abbrev pub reported_as : Layout → MsgId → ℕ → Answer → Option Posted → List Outgoing
reported_as l x clock answer None = []
reported_as l x clock answer (Some m) = reported_to x clock answer m.place (far_place l m.place (group_in m.dest))

-- what is under way of a message: nothing, or one packet, with the clock of the last entry about it
abbrev pub under_way_as : Layout → List Entry → MsgId → ℕ → Progress → List Outgoing
under_way_as l past x clock stages.Idle = []
under_way_as l past x clock (stages.Asked from d) = asked_as past x clock from d (far_place l from (group_in d))
under_way_as l past x clock (stages.Tried from q to hop) =
    packet from to clock (Cargo.Try (message past x) q (route past x from) (site_asked x past) hop) ∷ []
under_way_as l past x clock (stages.Decided from by q answer) =
    packet by from clock (Cargo.Verdict x q (route past x from) answer) ∷ []
under_way_as l past x clock (stages.Settled answer) = reported_as l x clock answer (post_of x past)
under_way_as l past x clock stages.Reported = []

abbrev pub under_way : Layout → List Entry → MsgId → List Outgoing
under_way l past x = under_way_as l past x (last_clock (about x past)) (progress (about x past))

-- Ports. `line` are the entries on the port's line.

-- the packet brings the port
abbrev pub moves : Ui → Cargo → Bool
moves q (Cargo.Transfer port) = same_ui port.ui q
moves q _ = false

abbrev pub is_with : Ui → Outgoing → Bool
is_with q o = moves q o.packet.cargo

-- the place before the last of a list of places
abbrev pub before_last : ℕ → ℕ → List ℕ → ℕ
before_last p q [] = p
before_last p q (r ∷ rs) = before_last q r rs

abbrev pub transfer_in : List Entry → List Entry → Ui → PortState → Spot → List Outgoing
transfer_in past line q f (spots.Moving actor) =
    packet (before_last 0 0 f.path) (last_of 0 f.path) (last_clock line)
    (Cargo.Transfer (record_for past line q actor f)) ∷ []
transfer_in past line q f _ = []

abbrev pub transfer_of : List Entry → List Entry → Ui → Option PortState → List Outgoing
transfer_of past line q None = []
transfer_of past line q (Some f) = transfer_in past line q f f.spot

abbrev pub transfer_by : List Entry → List Entry → Ui → List Outgoing
transfer_by past line q = transfer_of past line q (fate line)

-- what is under way of a port: nothing, or the one packet with its record
abbrev pub transfer : List Entry → Ui → List Outgoing
transfer past q = transfer_by past (on q past) q

-- Posts to a group.

-- the post to the group that the packet asks for
abbrev pub asked_in : Ui → Cargo → List MsgId
asked_in g (Cargo.Ask m d) = if are_same same_ui (Some g) (group_in d) then m.id ∷ [] else []
asked_in g _ = []

abbrev pub asked_by : Ui → Outgoing → List MsgId
asked_by g o = asked_in g o.packet.cargo

-- the posts to the group that packets from a to b ask for, in order
abbrev pub asked_for : Ui → ℕ → ℕ → List Outgoing → List MsgId
asked_for g a b os = flat_map (asked_by g) (filter (is_link a b) os)
