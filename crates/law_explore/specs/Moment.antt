-- What is so at a moment: facts of a position, without the numbers that only tell when.
-- k is the number of a script, i that of a command, both from 1; x is an id, q a port, g a group, ps are places, j is a
-- journal.
use Rattle.std.specs.Prelude.{ℕ, ◌+◌, ◌-◌, ◌==◌, if◌then◌else◌, List, [], ◌∷◌, ◌++◌, length, map, reverse, Option, Some, None, slice_get}
use Rattle.std.specs.List.{flat_map, filter_map}
use Rattle.chorus_ui.specs.declared.kind.Kind.TheVariants.{Group}
use Rattle.chorus_ui.specs.declared.ui.Ui.{Ui}
use Rattle.chorus_ui.specs.Layout.{site_of}
use Rattle.chorus_ui.specs.Name.{same_ui}
use Rattle.chorus_entry.specs.declared.act.Act as acts
use Rattle.chorus_entry.specs.declared.act.Act.TheVariants as variants
use Rattle.chorus_entry.specs.declared.answer.Answer.{Answer}
use Rattle.chorus_entry.specs.declared.entry.Entry.{Entry}
use Rattle.chorus_entry.specs.declared.hand.Hand.{Hand}
use Rattle.chorus_entry.specs.declared.id.MsgId.{MsgId}
use Rattle.chorus_entry.specs.declared.packet.Cargo.{Cargo}
use Rattle.chorus_entry.specs.declared.packet.Cargo.TheVariants.{Transfer}
use Rattle.chorus_world.specs.Groups.{groups_made, members}
use Rattle.chorus_world.specs.GroupLaws.{copies_of}
use Rattle.chorus_world.specs.declared.place.Sent.{Sent}
use Rattle.chorus_calls.specs.Callers.{Seated}
use Rattle.chorus_calls.specs.Clients.{Call}
use Rattle.law_machine.specs.declared.outgoing.Outgoing.{Outgoing}
use Rattle.law_machine.specs.PlaceState.{PlaceState}
use Rattle.law_network.specs.Network.{NetState, numbers}
use Rattle.law_explore.specs.Search.{state_after}
use Rattle.law_explore.specs.declared.moves.Move.{Move}
use Rattle.law_explore.specs.Races.{Race, Order, Position, Told, replaying}
use Rattle.law_explore.specs.Outcome.{Fact, Answered, Settled, Judged, Open, Copied, Accepted, Moving, Members, Calls, Holds, Next, plain_act, plain_answer, posts_in, verdict_in, copies_in, is_stale_in, stale_facts, made_at, port_facts, left_facts}

-- Answers: of a reply that was taken also whether it ended the script's call.

abbrev pub answer_with : ℕ → ℕ → acts.Act → Option acts.Act → Fact
answer_with k i act None = Answered k i (plain_act act)
answer_with k i act (Some settles) = Settled k i (plain_act act) settles

abbrev pub settled_from : ℕ → ℕ → List Told → List Fact
settled_from k i [] = []
settled_from k i (it ∷ told) = answer_with k i it.act it.settles ∷ settled_from k (i + 1) told

-- of each script from script k on; each list has the latest first
abbrev pub settled_facts : ℕ → List (List Told) → List Fact
settled_facts k [] = []
settled_facts k (told ∷ rest) = settled_from k 1 (reverse told) ++ settled_facts (k + 1) rest

-- Messages: one that was posted is open until it has a verdict, or copies.

abbrev pub judged_or_open : MsgId → Option Answer → List MsgId → Fact
judged_or_open x (Some answer) copies = Judged x (Some (plain_answer answer))
judged_or_open x None [] = Open x
judged_or_open x None (y ∷ copies) = Judged x None

abbrev pub facts_of : List PlaceState → MsgId → List Fact
facts_of ps x = judged_or_open x (verdict_in x ps) (copies_in x ps) ∷ stale_facts x (is_stale_in x ps)

-- the ids of the copies that a journal makes of the message, and to which member each goes
abbrev pub sent_by : MsgId → List Entry → List (MsgId × Ui)
sent_by x j = map (λ (m : Sent). (m.id, m.port)) (copies_of x j)

abbrev pub sent_in : MsgId → List PlaceState → List (MsgId × Ui)
sent_in x ps = flat_map (λ (s : PlaceState). sent_by x s.journal) ps

abbrev pub copy_facts : List PlaceState → MsgId × Ui → List Fact
copy_facts ps copy = Copied copy.0 copy.1 ∷ facts_of ps copy.0

-- of a message, and behind it of its copies
abbrev pub post_facts : List PlaceState → MsgId → List Fact
post_facts ps x = facts_of ps x ++ flat_map (copy_facts ps) (sent_in x ps)

-- Ports: what each accepted, by position.

abbrev pub accept_in : Ui → acts.Act → List (ℕ × MsgId)
accept_in q (variants.Accept x p position) = if same_ui p q then (position, x) ∷ [] else []
accept_in q act = []

abbrev pub accepts_by : Ui → List Entry → List (ℕ × MsgId)
accepts_by q [] = []
accepts_by q (e ∷ here) = accepts_by q here ++ accept_in q e.act

abbrev pub accepts_in : Ui → List PlaceState → List (ℕ × MsgId)
accepts_in q ps = flat_map (λ (s : PlaceState). accepts_by q s.journal) ps

abbrev pub at_position : List (ℕ × MsgId) → ℕ → Option MsgId
at_position [] i = None
at_position (a ∷ more) i = if a.0 == i then Some a.1 else at_position more i

abbrev pub in_order : List (ℕ × MsgId) → List MsgId
in_order accepts = filter_map (at_position accepts) (numbers (length accepts) 0)

abbrev pub accept_facts : List PlaceState → List Fact
accept_facts ps = map (λ (q : Ui). Accepted q (in_order (accepts_in q ps))) (made_at ps)

-- a port that is under way is in a packet
abbrev pub moving_in : Cargo → List Fact
moving_in (Transfer port) = Moving port.ui port.actor ∷ []
moving_in cargo = []

abbrev pub moving_facts : List Outgoing → List Fact
moving_facts packets = flat_map (λ (o : Outgoing). moving_in o.packet.cargo) packets

-- Groups, which are made at the first place of a site and numbered from 1.

abbrev pub group_at : PlaceState → ℕ → Ui
group_at s n = record { site = site_of s.layout s.number; kind = Group; number = n }

abbrev pub member_facts : PlaceState → List Fact
member_facts s =
    map (λ (n : ℕ). Members (group_at s n) (members (group_at s n) s.journal)) (numbers (groups_made s.journal) 1)

-- Callers, and what is left of scripts.

abbrev pub call_facts : ℕ → Option Call → List Fact
call_facts k None = []
call_facts k (Some call) = Calls k call.number ∷ []

abbrev pub hand_facts : ℕ → Option Hand → List Fact
hand_facts k None = []
hand_facts k (Some hand) = Holds k hand.client hand.number ∷ []

abbrev pub caller_facts : ℕ → Option Seated → List Fact
caller_facts k None = []
caller_facts k (Some w) = call_facts k w.client.outstanding ++ hand_facts k w.hand

abbrev pub next_facts : List (List Order) → List (List Order) → List Fact
next_facts scripts left = left_facts Next 1 scripts left

-- Of each script and each command how it was answered; of each message that was posted, and of its copies, the verdict, or
-- that it is open; each port that is held; what each port accepted; the ports under way; the members of each group; the
-- calls, the requests in hand, and the next command of each script.
abbrev pub place_facts : List PlaceState → List Fact
place_facts ps = port_facts ps ++ accept_facts ps

abbrev pub script_facts : List (List Order) → List (List Order) → List Seated → List Fact
script_facts scripts left callers =
    flat_map (λ (k : ℕ). caller_facts k (slice_get callers k)) (numbers (length scripts) 1) ++ next_facts scripts left

abbrev pub moment_with : List (List Order) → List (List Order) → List (List Told) → NetState → List Fact
moment_with scripts left told n =
    settled_facts 1 told ++ flat_map (post_facts n.places) (posts_in told) ++ place_facts n.places
    ++ moving_facts n.packets ++ flat_map member_facts n.places ++ script_facts scripts left n.callers

abbrev pub moment_of : Race → Position → List Fact
moment_of r s = moment_with r.scripts s.left s.told s.net

-- where the moves lead
abbrev pub moment_after : Race → List Move → List Fact
moment_after r ms = moment_of r (state_after (replaying r) ms)
