-- Words by which worked examples compare a network with the past that it stands for: at these places (ps), of these ports (qs),
-- messages (xs), ports and routes (ks).
use Rattle.std.specs.Prelude.{ℕ, Bool, true, false, ◌||◌, is_some, List, [], ◌∷◌, map, Option}
use Rattle.std.specs.List.{filter, list_all}
use Rattle.chorus_ui.specs.declared.ui.Ui.{Ui}
use Rattle.chorus_ui.specs.declared.layout.Layout.{Layout}
use Rattle.chorus_entry.specs.declared.entry.Entry.{Entry}
use Rattle.chorus_entry.specs.declared.hand.Hand.{Hand}
use Rattle.chorus_entry.specs.declared.id.MsgId.{MsgId}
use Rattle.chorus_entry.specs.declared.record.PortRecord.{PortRecord}
use Rattle.chorus_world.specs.declared.place.Location.{Location}
use Rattle.chorus_world.specs.Views.{at, by}
use Rattle.chorus_world.specs.Places.{located}
use Rattle.chorus_world.specs.Groups.{posts_to, unchosen}
use Rattle.chorus_world.specs.Seats as seats
use Rattle.chorus_ports.specs.Table.{find}
use Rattle.chorus_calls.specs.Clients as clients
use Rattle.chorus_calls.specs.Callers.{Seated}
use Rattle.place_unsettled.specs.declared.wait.Key.{Key}
use Rattle.place_unsettled.specs.declared.wait.Wait.{Wait}
use Rattle.place_unsettled.specs.Queues.{Queue}
use Rattle.law_machine.specs.declared.outgoing.Outgoing.{Outgoing}
use Rattle.law_machine.specs.PlaceState.{PlaceState, newest}
use Rattle.law_machine.specs.Lawful.{is_lawful}
use Rattle.law_network.specs.Network.{NetState, place}
use Rattle.law_network.specs.Records.{record_at, queue_at, is_unheard, outstanding}
use Rattle.law_network.specs.UnderWay.{is_of, is_with, under_way, transfer, asked_for}
use Rattle.law_network.specs.Holdings.{Holding, holds}

abbrev pub key : Ui → Option Ui → Key
key port route = record { port = port; route = route }

abbrev pub journals_at : List ℕ → NetState → List (List Entry)
journals_at ps n = map (λ (p : ℕ). (place p n).journal) ps

abbrev pub journals_told : List ℕ → List Entry → List (List Entry)
journals_told ps past = map (λ (p : ℕ). at p past) ps

abbrev pub records_at : List ℕ → List Ui → NetState → List (List (Option PortRecord))
records_at ps qs n = map (λ (p : ℕ). map (λ (q : Ui). find q (place p n).ports) qs) ps

abbrev pub records_told : List ℕ → List Ui → List Entry → List (List (Option PortRecord))
records_told ps qs past = map (λ (p : ℕ). map (λ (q : Ui). record_at past q p) qs) ps

abbrev pub locations_at : List ℕ → List Ui → NetState → List (List Location)
locations_at ps qs n = map (λ (p : ℕ). map (newest (place p n)) qs) ps

abbrev pub locations_told : List ℕ → List Ui → Layout → List Entry → List (List Location)
locations_told ps qs l past = map (λ (p : ℕ). map (λ (q : Ui). located l q (at p past)) qs) ps

abbrev pub queues_at : List ℕ → List Key → NetState → List (List Queue)
queues_at ps ks n = map (λ (p : ℕ). map (place p n).waiting ks) ps

abbrev pub queues_told : List ℕ → List Key → List Entry → List (List Queue)
queues_told ps ks past = map (λ (p : ℕ). map (queue_at past p) ks) ps

abbrev pub unheard_at : List ℕ → List MsgId → NetState → List (List Bool)
unheard_at ps xs n = map (λ (p : ℕ). map (place p n).unheard xs) ps

abbrev pub unheard_told : List ℕ → List MsgId → Layout → List Entry → List (List Bool)
unheard_told ps xs l past = map (λ (p : ℕ). map (is_unheard l past p) xs) ps

abbrev pub messages_in : List MsgId → NetState → List (List Outgoing)
messages_in xs n = map (λ (x : MsgId). filter (is_of x) n.packets) xs

abbrev pub messages_told : List MsgId → Layout → List Entry → List (List Outgoing)
messages_told xs l past = map (under_way l past) xs

abbrev pub transfers_in : List Ui → NetState → List (List Outgoing)
transfers_in qs n = map (λ (q : Ui). filter (is_with q) n.packets) qs

abbrev pub transfers_told : List Ui → List Entry → List (List Outgoing)
transfers_told qs past = map (transfer past) qs

-- the posts to the group of the place b, from each of the places
abbrev pub asks_in : Ui → List ℕ → ℕ → NetState → List (List MsgId)
asks_in g ps b n = map (λ (a : ℕ). asked_for g a b n.packets) ps

abbrev pub asks_told : Ui → List ℕ → ℕ → List Entry → List (List MsgId)
asks_told g ps b past = map (λ (a : ℕ). unchosen (at b past) (posts_to g (at a past))) ps

abbrev pub holdings_of : List Ui → List Holding → List (List Holding)
holdings_of qs holdings = map (λ (q : Ui). filter (holds q) holdings) qs

-- what a caller has and what its entries say of it, but for the clock
pub record Seen : Type 0 where
  pub seat : ℕ
  pub posts : ℕ
  pub given : ℕ
  pub call : Option clients.Call
  pub hand : Option Hand

abbrev pub seen : Seated → Seen
seen caller =
    record { seat = caller.seat; posts = caller.posts; given = caller.client.given; call = caller.client.outstanding; hand = caller.hand }

abbrev pub seen_in : List Entry → ℕ → Seen
seen_in past seat =
    record { seat = seat; posts = seats.posts (by seat past); given = seats.requests (by seat past); call = outstanding (by seat past); hand = seats.hand past (by seat past) }

-- where messages wait for one of these, the first is under way
abbrev pub is_empty : List Wait → Bool
is_empty [] = true
is_empty (w ∷ ws) = false

abbrev pub is_tried : Queue → Bool
is_tried queue = is_some queue.tried || is_empty queue.waits

abbrev pub are_tried : List Key → NetState → Bool
are_tried ks n = list_all (λ (s : PlaceState). list_all (λ (k : Key). is_tried (s.waiting k)) ks) n.places

-- each packet under way is lawful where it goes
abbrev pub are_lawful : NetState → Bool
are_lawful n = list_all (λ (o : Outgoing). is_lawful o.packet.from o.packet (place o.to n)) n.packets
