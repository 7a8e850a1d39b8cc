-- What a command's own entry brings with it: what changes, what is put, and what follows.
-- m is a message, d its destination, q a port, g a group, x an id, s the place, t the turn, c the caller.
use Rattle.std.specs.Prelude.{ℕ, ◌==◌, ◌&&◌, if◌then◌else◌, List, [], ◌∷◌, ◌++◌, Option, Some, None, unwrap_or}
use Rattle.chorus_ui.specs.declared.ui.Ui.{Ui}
use Rattle.chorus_ui.specs.Layout.{group_place}
use Rattle.chorus_entry.specs.declared.id.MsgId.{MsgId}
use Rattle.chorus_entry.specs.declared.tag.Tag.{Tag}
use Rattle.chorus_entry.specs.declared.dest.Dest.{Dest}
use Rattle.chorus_entry.specs.declared.message.Message.{Message}
use Rattle.chorus_entry.specs.declared.act.Act.{Act}
use Rattle.chorus_entry.specs.declared.packet.Cargo.{Cargo}
use Rattle.chorus_entry.specs.declared.record.PortRecord.{PortRecord}
use Rattle.chorus_entry.specs.PortRecord.{new_record}
use Rattle.chorus_ports.specs.Table.{find, replace, without}
use Rattle.chorus_ports.specs.Taking.{after_take, rehomed}
use Rattle.chorus_ports.specs.History.{migrated}
use Rattle.chorus_calls.specs.Clients.{is_outstanding, after_begin, after_cancel}
use Rattle.chorus_calls.specs.Callers.{Seated, after_post, with_client, with_hand}
use Rattle.chorus_hints.specs.Known.{learned}
use Rattle.place_unsettled.specs.declared.wait.Key.{Key}
use Rattle.place_unsettled.specs.declared.wait.Wait.{Wait}
use Rattle.place_unsettled.specs.Queues.{changed, with_last}
use Rattle.place_unsettled.specs.Unheard.{asked}
use Rattle.law_machine.specs.PlaceState.{PlaceState, Turn, unchanged, say, note}
use Rattle.law_machine.specs.Trying.{go}
use Rattle.law_machine.specs.Choosing.{chooses}

-- Posting.

-- a request is the outstanding call from then on, where it is not that already; a reply empties the hand
abbrev pub after_tag : Tag → Ui → List ℕ → Seated → Seated
after_tag Tag.Plain q body c = c
after_tag (Tag.Request number back) q body c = with_client c (after_begin c.client q back body)
after_tag (Tag.Reply client number) q body c = with_hand c None

abbrev pub posted_to : Dest → Message → Seated → Seated
posted_to (Dest.Port q) m c = after_tag m.tag q m.body c
posted_to d m c = c

-- the caller after its post, which is one more
abbrev pub poster : Message → Dest → Seated → Seated
poster m d c = after_post (posted_to d m c)

-- direct messages to a port
abbrev pub direct : Ui → Key
direct q = record { port = q; route = None }

-- the message, posted at the place p to a port
abbrev pub post : Message → ℕ → Wait
post m p = record { message = m; only = None; home = p }

-- it waits behind the other direct messages to the port, and goes
abbrev pub posts_direct : Message → Ui → Turn → Turn
posts_direct m q t =
    go (direct q) (say (Act.Post m (Dest.Port q)) (record (unchanged t) {
      caller = poster m (Dest.Port q) t.caller;
      waiting = changed (direct q) (with_last (post m t.place.number)) t.place.waiting;
    }) t)

-- where members are chosen for a post of this place: at the group's place, or here where the layout has no such site
abbrev pub choosing_place : PlaceState → Ui → ℕ
choosing_place s g = unwrap_or (group_place s.layout g) s.number

-- they are chosen here, at once
abbrev pub chooses_own : Message → Dest → Ui → Turn → Turn
chooses_own m d g t =
    chooses m d g t.place.number (say (Act.Post m d) (record (unchanged t) { caller = poster m d t.caller }) t)

-- or the group's place is asked, and the place may hear of the post and of each of its copies
abbrev pub asks : Message → Dest → ℕ → Turn → Turn
asks m d to t =
    say (Act.Post m d) (record (unchanged t) {
      caller = poster m d t.caller;
      unheard = asked m.id.seat m.id.number t.place.unheard;
      loads = (to, Cargo.Ask m d) ∷ [];
    }) t

abbrev pub posts_to_group : Message → Dest → Ui → Turn → Turn
posts_to_group m d g t =
    if choosing_place t.place g == t.place.number then chooses_own m d g t else asks m d (choosing_place t.place g) t

abbrev pub posts : Message → Dest → Turn → Turn
posts m (Dest.Port q) t = posts_direct m q t
posts m (Dest.All g) t = posts_to_group m (Dest.All g) g t
posts m (Dest.One g) t = posts_to_group m (Dest.One g) g t
posts m (Dest.OneAt g site) t = posts_to_group m (Dest.OneAt g site) g t

-- Receiving.

abbrev pub first_in : List Message → Option Message
first_in [] = None
first_in (m ∷ ms) = Some m

-- the message that is taken next
abbrev pub first_message : Option PortRecord → Option Message
first_message None = None
first_message (Some port) = first_in port.pending

-- a request that is taken is in the hand, in place of an earlier one
abbrev pub holding : MsgId → Tag → Seated → Seated
holding x (Tag.Request number back) c = with_hand c (Some (record { client = x.seat; number = number; back = back }))
holding x _ c = c

-- a reply that is taken ends the outstanding call where the taker is the client and the number is outstanding, else it
-- is late
abbrev pub ends_call : ℕ → ℕ → Turn → Turn
ends_call client number t =
    if (client == t.caller.seat) && is_outstanding number t.caller.client
    then say (Act.Done number) (record (unchanged t) { caller = with_client t.caller (after_cancel t.caller.client) }) t
    else note (Act.Late number) t

abbrev pub ends : Tag → Turn → Turn
ends (Tag.Reply client number) t = ends_call client number t
ends _ t = t

-- the record passes its first message; a taken reply is followed by Done or Late
abbrev pub takes : Ui → ℕ → MsgId → Option Message → Turn → Turn
takes q position x None t = note (Act.Take q position x) t
takes q position x (Some m) t =
    ends m.tag (say (Act.Take q position x) (record (unchanged t) {
      caller = holding m.id m.tag t.caller;
      ports = replace q (after_take t.caller.actor) t.place.ports;
    }) t)

-- Moving and deleting a port.

-- the whole record goes to the place, for the actor and with the hop
abbrev pub transfer_to : ℕ → Ui → ℕ → Option PortRecord → List (ℕ × Cargo)
transfer_to to actor hop None = []
transfer_to to actor hop (Some port) = (to, Cargo.Transfer (migrated hop actor port)) ∷ []

-- and the locations learn where it goes
abbrev pub departs : Ui → ℕ → Ui → ℕ → Turn → Turn
departs q to actor hop t =
    say (Act.Depart q to actor hop) (record (unchanged t) {
      ports = without q t.place.ports;
      known = learned q to hop t.place.known;
      loads = transfer_to to actor hop (find q t.place.ports);
    }) t

abbrev pub with_ports : Act → List PortRecord → Turn → Turn
with_ports act ports t = say act (record (unchanged t) { ports = ports }) t

abbrev pub with_caller : Act → Seated → Turn → Turn
with_caller act caller t = say act (record (unchanged t) { caller = caller }) t

-- the turn after a command's own act and all that follows from it; an act that is not named here is an entry alone
abbrev pub does : Act → Turn → Turn
does (Act.Make q actor capacity) t =
    with_ports (Act.Make q actor capacity) (t.place.ports ++ new_record q actor capacity ∷ []) t
does (Act.Post m d) t = posts m d t
does (Act.Take q position x) t = takes q position x (first_message (find q t.place.ports)) t
does (Act.Rehome q actor) t = with_ports (Act.Rehome q actor) (replace q (rehomed actor) t.place.ports) t
does (Act.Depart q to actor hop) t = departs q to actor hop t
does (Act.Delete q xs) t = with_ports (Act.Delete q xs) (without q t.place.ports) t
does (Act.Cancel number) t = with_caller (Act.Cancel number) (with_client t.caller (after_cancel t.caller.client)) t
does act t = note act t
