-- What holds of each schedule of the network machine.
-- l is a layout, es are events, the latest first, n is the network that they leave, p, a and b are numbers of places, x
-- is an id, q a port, m a post. What is said of a past is said of the merge of the journals.
use Rattle.std.specs.Prelude.{ℕ, ◌≡◌, ◌≤◌, ◌+◌, ◌-◌, ◌*◌, Bool, true, false, List, [], length, Option, Some, None}
use Rattle.std.specs.List.{filter}
use Rattle.chorus_ui.specs.declared.ui.Ui.{Ui}
use Rattle.chorus_ui.specs.declared.layout.Layout.{Layout}
use Rattle.chorus_entry.specs.declared.entry.Entry.{Entry}
use Rattle.chorus_entry.specs.declared.id.MsgId.{MsgId}
use Rattle.chorus_entry.specs.declared.dest.Dest.{Dest}
use Rattle.chorus_entry.specs.declared.packet.Packet.{Packet}
use Rattle.chorus_entry.specs.declared.packet.Cargo.{Cargo}
use Rattle.chorus_entry.specs.MsgId.{same_id}
use Rattle.chorus_world.specs.Views.{at, on}
use Rattle.chorus_world.specs.Ports.{PortState, fate}
use Rattle.chorus_world.specs.Posts.{Posted, post_of}
use Rattle.chorus_world.specs.Runs.{is_run}
use Rattle.chorus_world.specs.Commands.{performs}
use Rattle.chorus_world.specs.Always.{Always, EachEntry}
use Rattle.chorus_world.specs.AcceptedLaws.{ReceivesInOrder, KeepsEachMessage}
use Rattle.chorus_world.specs.SenderLaws.{KeepsSenderOrder}
use Rattle.chorus_world.specs.RequestLaws.{AcceptsRequestsOnce}
use Rattle.chorus_world.specs.GroupLaws.{ReachesOneMember, AcceptsOnSite, KeepsChoiceOrder}
use Rattle.law_machine.specs.declared.outgoing.Outgoing.{Outgoing}
use Rattle.law_machine.specs.Lawful.{is_lawful}
use Rattle.law_network.specs.Packets.{first_on}
use Rattle.law_network.specs.Network.{NetState, Event, place}
use Rattle.law_network.specs.Left.{placed, packets_left, merged_past}
use Rattle.law_network.specs.Stands.{actor_of}
use Rattle.law_network.specs.Holdings.{StandsFor, holdings_in, holdings_left}
use Rattle.law_network.specs.Quiet.{IsQuiet}
use Rattle.law_network.specs.Schedules.{commands_of, OfSchedules}
use Rattle.law_network.specs.History.{all_put}

-- the merge is a run for the callers
abbrev pub Runs : Layout → List Event → NetState → Type 0
Runs l es n = is_run l (actor_of n) (merged_past n) ≡ true

-- its parts are the journals
abbrev pub KeepsJournals : Layout → List Event → NetState → Type 0
KeepsJournals l es n = (p : ℕ) → at p (merged_past n) ≡ (place p n).journal

-- the commands of each caller stand in it, each once, in order
abbrev pub Performs : Layout → List Event → NetState → Type 0
Performs l es n = (seat : ℕ) (actor : Ui) → actor_of n seat ≡ Some actor →
    performs l seat actor (merged_past n) (commands_of seat es) ≡ true

-- a packet that is worked off next is lawful at its place
abbrev pub DeliversLawfully : Layout → List Event → NetState → Type 0
DeliversLawfully l es n = (a b : ℕ) (packet : Packet) →
    first_on a b n.packets ≡ Some packet → is_lawful a packet (place b n) ≡ true

-- the records held and the Transfers stand for the ports of its world; and so do those of the network when it is closed
abbrev pub TablesStand : Layout → List Event → NetState → Type 0
TablesStand l es n = StandsFor (merged_past n) (holdings_in n)

abbrev pub ClosesSo : Layout → List Event → NetState → Type 0
ClosesSo l es n = StandsFor (merged_past n) (holdings_left l (placed n) (packets_left n))

-- where no packet is left nothing is left to be done
abbrev pub Rests : Layout → List Event → NetState → Type 0
Rests l es n = n.packets ≡ [] → IsQuiet l (merged_past n) (packets_left n)

-- the packet tries the message, or tells the verdict
abbrev pub carries_over : MsgId → Cargo → Bool
carries_over x (Cargo.Try m q route only hop) = same_id m.id x
carries_over x (Cargo.Verdict y q route answer) = same_id y x
carries_over x _ = false

-- how often a port departed
abbrev pub hops_from : Option PortState → ℕ
hops_from None = 0
hops_from (Some f) = length f.path - 1

abbrev pub hops_of : Ui → List Entry → ℕ
hops_of q past = hops_from (fate (on q past))

-- a direct post is carried by at most 2 (h + 1) Try and Verdict packets, where h are the hops of its port at the end
abbrev pub CarriesFew : Layout → List Event → NetState → Type 0
CarriesFew l es n = (x : MsgId) (m : Posted) (q : Ui) →
    x.copy ≡ 0 → post_of x (merged_past n) ≡ Some m → m.dest ≡ Dest.Port q →
    length (filter (λ (o : Outgoing). carries_over x o.packet.cargo)
    (all_put l es)) ≤ 2 * (hops_of q (merged_past n) + 1)

-- all of it
pub record Promises (l : Layout) (es : List Event) (n : NetState) : Type 0 where
  pub run : Runs l es n
  pub journals : KeepsJournals l es n
  pub performed : Performs l es n
  pub lawful : DeliversLawfully l es n
  pub stands : TablesStand l es n
  pub left : ClosesSo l es n
  pub quiet : Rests l es n
  pub receives : Always ReceivesInOrder (merged_past n)
  pub fates : Always KeepsEachMessage (merged_past n)
  pub sender_order : Always KeepsSenderOrder (merged_past n)
  pub once : Always AcceptsRequestsOnce (merged_past n)
  pub one_member : Always ReachesOneMember (merged_past n)
  pub on_site : EachEntry (AcceptsOnSite l) (merged_past n)
  pub choice_order : Always KeepsChoiceOrder (merged_past n)
  pub few_packets : CarriesFew l es n

abbrev pub SchedulesKeepPromises : Type 0
SchedulesKeepPromises = OfSchedules Promises
