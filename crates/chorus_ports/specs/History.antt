-- What a port accepted and what was taken from it, over any events of its life: it is offered messages, actors take
-- from it, it gets other holders, and it migrates.
use Rattle.std.specs.Prelude.{◌≡◌, ℕ, ◌==◌, Bool, false, ◌&&◌, List, [], ◌∷◌, ◌++◌}
use Rattle.chorus_ui.specs.declared.ui.Ui.{Ui}
use Rattle.chorus_entry.specs.declared.message.Message.{Message}
use Rattle.chorus_entry.specs.declared.tag.Tag.{Tag}
use Rattle.chorus_entry.specs.declared.tag.Tag.TheVariants.{Plain, Request, Reply}
use Rattle.chorus_entry.specs.declared.record.PortRecord.{PortRecord}
use Rattle.chorus_entry.specs.PortRecord.{new_record}
use Rattle.chorus_ports.specs.declared.deciding.Accept.{Accept}
use Rattle.chorus_ports.specs.declared.deciding.Accept.TheVariants.{Accepted, Already, ClientsFull, Full}
use Rattle.chorus_ports.specs.declared.taking.Taken.{Taken}
use Rattle.chorus_ports.specs.declared.taking.Taken.TheVariants as T
use Rattle.chorus_ports.specs.Deciding.{answer_to, after_offer}
use Rattle.chorus_ports.specs.Taking.{taken_from, after_take, rehomed}

pub data Event : Type 0 where
  Offer : (message : Message) → Event
  Take : (actor : Ui) → Event
  Rehome : (actor : Ui) → Event
  Migrate : (hop : ℕ) (actor : Ui) → Event

-- a port, and all messages that it accepted and that were taken from it, in order
pub record History : Type 0 where
  pub port : PortRecord
  pub accepted : List Message
  pub taken : List Message

abbrev pub accepted_by : Accept → Message → List Message
accepted_by (Accepted pos) m = m ∷ []
accepted_by (Already back) m = []
accepted_by (ClientsFull back) m = []
accepted_by (Full len back) m = []

abbrev pub taken_by : Taken → List Message
taken_by (T.Message pos m) = m ∷ []
taken_by T.Empty = []
taken_by T.NotHere = []

-- a port that migrates gets a hop and an actor; a departure and an arrival hand on all else as it is
abbrev pub migrated : ℕ → Ui → PortRecord → PortRecord
migrated hop actor port = record port { hop = hop; actor = actor }

abbrev pub happens : History → Event → History
happens h (Offer m) = record h {
  port = after_offer m h.port;
  accepted = h.accepted ++ accepted_by (answer_to m h.port) m;
}
happens h (Take actor) = record h {
  port = after_take actor h.port;
  taken = h.taken ++ taken_by (taken_from actor h.port);
}
happens h (Rehome actor) = record h { port = rehomed actor h.port }
happens h (Migrate hop actor) = record h { port = migrated hop actor h.port }

abbrev pub run : List Event → History → History
run [] h = h
run (e ∷ es) h = run es (happens h e)

-- the history of a port from its making on
abbrev pub history : Ui → Ui → ℕ → List Event → History
history ui actor capacity events =
    run events (record { port = new_record ui actor capacity; accepted = []; taken = [] })

-- the first list is a front of the second
abbrev pub IsFrontOf : List Message → List Message → Type 0
IsFrontOf xs ys = (rest : List Message) × (ys ≡ xs ++ rest)

-- it is the client's request of this number
abbrev pub has_request : ℕ → ℕ → ℕ → Tag → Bool
has_request client number seat Plain = false
has_request client number seat (Request n back) = (seat == client) && (n == number)
has_request client number seat (Reply of n) = false

abbrev pub is_request : ℕ → ℕ → Message → Bool
is_request client number m = has_request client number m.id.seat m.tag
