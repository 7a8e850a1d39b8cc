-- What a packet brings: the entry that a place appends for it, what goes with that, and what follows.
-- m is a message, x its id, d its destination, q a port, k a port and route, p a place's number, t the turn; `from` is
-- the place that the packet came from.
use Rattle.std.specs.Prelude.{ℕ, List, [], ◌∷◌, ◌++◌, Option, Some, None}
use Rattle.chorus_ui.specs.declared.ui.Ui.{Ui}
use Rattle.chorus_entry.specs.declared.id.MsgId.{MsgId}
use Rattle.chorus_entry.specs.declared.dest.Dest.{Dest}
use Rattle.chorus_entry.specs.declared.message.Message.{Message}
use Rattle.chorus_entry.specs.declared.act.Act.{Act}
use Rattle.chorus_entry.specs.declared.answer.Answer.{Answer}
use Rattle.chorus_entry.specs.declared.answer.Answer.TheVariants as A
use Rattle.chorus_entry.specs.declared.packet.Cargo.{Cargo}
use Rattle.chorus_entry.specs.declared.record.PortRecord.{PortRecord}
use Rattle.chorus_world.specs.declared.place.Location.{Location}
use Rattle.chorus_world.specs.Places.{taught}
use Rattle.chorus_hints.specs.Known.{Pairs, learned}
use Rattle.place_unsettled.specs.declared.wait.Key.{Key}
use Rattle.place_unsettled.specs.declared.wait.Wait.{Wait}
use Rattle.place_unsettled.specs.Queues.{Queue, changed, passed, at}
use Rattle.place_unsettled.specs.Unheard.{heard}
use Rattle.law_machine.specs.PlaceState.{Turn, unchanged, say}
use Rattle.law_machine.specs.Deciding.{decide, decision, records_after}
use Rattle.law_machine.specs.Trying.{report, go}
use Rattle.law_machine.specs.Choosing.{chooses}

-- A Try: the message is decided here, and the place that tried it gets the answer.
abbrev pub answers_try : ℕ → Message → Ui → Option Ui → ℕ → Answer → Turn → Turn
answers_try from m q route tried answer t =
    say (decision m.id q tried answer) (record (unchanged t) {
      ports = records_after answer m q t.place.ports;
      loads = (from, Cargo.Verdict m.id q route answer) ∷ [];
    }) t

-- A Verdict: the message that is under way is told what was decided.

-- Stale and Elsewhere teach a location of the port
abbrev pub taught_of : Ui → Option Location → Pairs → Pairs
taught_of q None known = known
taught_of q (Some located) known = learned q located.to located.hop known

-- after Stale the message is to be tried again; after a verdict it waits no more
abbrev pub told : Answer → Queue → Queue
told (A.Stale to hop) queue = at None queue
told answer queue = passed queue

-- the report of the message that was under way, the first of these
abbrev pub report_of : ℕ → MsgId → Answer → List Wait → List (ℕ × Cargo)
report_of p x answer [] = []
report_of p x answer (w ∷ ws) = report p w.home x answer

-- then the first message of its port and route goes: the same one after Stale
abbrev pub hears_verdict : MsgId → Key → Answer → Turn → Turn
hears_verdict x k answer t =
    go k (say (Act.Told x answer) (record (unchanged t) {
      known = taught_of k.port (taught answer) t.place.known;
      waiting = changed k (told answer) t.place.waiting;
      loads = report_of t.place.number x answer (t.place.waiting k).waits;
    }) t)

-- A Transfer: the port is held here, and the locations learn it.
abbrev pub receives_port : PortRecord → Turn → Turn
receives_port port t =
    say (Act.Arrive port.ui port.hop) (record (unchanged t) {
      ports = t.place.ports ++ port ∷ [];
      known = learned port.ui t.place.number port.hop t.place.known;
    }) t

-- An Ask: members are chosen for the post of the place that asks. Ranges leave no Ask of a post to a port.
abbrev pub answers_ask : ℕ → Message → Dest → Turn → Turn
answers_ask from m (Dest.Port q) t = t
answers_ask from m (Dest.All g) t = chooses m (Dest.All g) g from t
answers_ask from m (Dest.One g) t = chooses m (Dest.One g) g from t
answers_ask from m (Dest.OneAt g site) t = chooses m (Dest.OneAt g site) g from t

-- A Report is heard, and heard once.
abbrev pub hears : MsgId → Answer → Turn → Turn
hears x answer t =
    say (Act.Heard x answer) (record (unchanged t) { unheard = heard x t.place.unheard }) t

abbrev pub opens : ℕ → Cargo → Turn → Turn
opens from (Cargo.Try m q route only tried) t = answers_try from m q route tried (decide m q only tried t.place) t
opens from (Cargo.Verdict x q route answer) t = hears_verdict x (record { port = q; route = route }) answer t
opens from (Cargo.Transfer port) t = receives_port port t
opens from (Cargo.Ask m d) t = answers_ask from m d t
opens from (Cargo.Report x answer) t = hears x answer t
