-- Deciding on a message at a place, where it was tried with a hop.
-- m is a message, x its id, q its port, s the place; `only` is the site that the message demands, if it demands one.
use Rattle.chorus_world.specs.Places.{is_deleted}
use Rattle.std.specs.Prelude.{ℕ, ◌==◌, nat_lt, if◌then◌else◌, List, Option, Some, None}
use Rattle.chorus_ui.specs.declared.ui.Ui.{Ui}
use Rattle.chorus_entry.specs.declared.id.MsgId.{MsgId}
use Rattle.chorus_entry.specs.declared.message.Message.{Message}
use Rattle.chorus_entry.specs.declared.act.Act.{Act}
use Rattle.chorus_entry.specs.declared.answer.Answer.{Answer}
use Rattle.chorus_entry.specs.declared.answer.Answer.TheVariants as A
use Rattle.chorus_entry.specs.declared.record.PortRecord.{PortRecord}
use Rattle.chorus_world.specs.declared.place.Location.{Location}
use Rattle.chorus_ports.specs.declared.deciding.Accept.{Accept}
use Rattle.chorus_ports.specs.declared.deciding.Accept.TheVariants as accepts
use Rattle.chorus_ports.specs.Deciding.{answer_to, enqueued}
use Rattle.chorus_ports.specs.Table.{find, replace}
use Rattle.law_machine.specs.PlaceState.{PlaceState, newest}

-- the answer of the record of a port that is held here
abbrev pub answer_in : Accept → Answer
answer_in (accepts.Accepted pos) = A.Accepted pos
answer_in (accepts.Already m) = A.Already
answer_in (accepts.ClientsFull m) = A.ClientsFull
answer_in (accepts.Full len m) = A.Full len

-- the port is known to be at another place by a later hop than the one tried: the message is stale, and settled where
-- it demands a site
abbrev pub answer_moved : Option ℕ → Location → Answer
answer_moved None newer = A.Stale newer.to newer.hop
answer_moved (Some site) newer = A.Elsewhere newer.to newer.hop

-- the answer at the place p to a message that was tried with the hop `tried`, where the port is not held here and was
-- not deleted here, and its newest location is `newer`
abbrev pub answer_away : ℕ → Option ℕ → ℕ → Location → Answer
answer_away p only tried newer =
    if nat_lt tried newer.hop then (if newer.to == p then A.Early newer.hop else answer_moved only newer)
    else if tried == 0 then A.NoPort else A.Early tried

-- the answer, by the record of the port where it is held here
abbrev pub answer_of : Message → Ui → Option ℕ → ℕ → PlaceState → Option PortRecord → Answer
answer_of m q only tried s (Some port) = answer_in (answer_to m port)
answer_of m q only tried s None =
    if is_deleted q s.journal then A.Gone else answer_away s.number only tried (newest s q)

-- the answer of the place to the message m for the port q, which was tried with the hop `tried`
abbrev pub decide : Message → Ui → Option ℕ → ℕ → PlaceState → Answer
decide m q only tried s = answer_of m q only tried s (find q s.ports)

-- the entry's act; the last two are no answers to a message for a port
abbrev pub decision : MsgId → Ui → ℕ → Answer → Act
decision x q tried (A.Accepted pos) = Act.Accept x q pos
decision x q tried (A.Full len) = Act.Full x q len
decision x q tried (A.Stale to hop) = Act.Stale x q tried to hop
decision x q tried (A.Early hop) = Act.Early x q hop
decision x q tried A.NoPort = Act.NoPort x q
decision x q tried A.Already = Act.Already x q
decision x q tried A.ClientsFull = Act.ClientsFull x q
decision x q tried (A.Elsewhere to hop) = Act.Elsewhere x q to hop
decision x q tried A.Gone = Act.Gone x q
decision x q tried A.NoMember = Act.NoPort x q
decision x q tried (A.Chosen count) = Act.NoPort x q

-- the records after it: a port that accepted the message has it behind the others, and nothing else enqueues
abbrev pub records_after : Answer → Message → Ui → List PortRecord → List PortRecord
records_after (A.Accepted pos) m q ports = replace q (enqueued m) ports
records_after _ m q ports = ports
