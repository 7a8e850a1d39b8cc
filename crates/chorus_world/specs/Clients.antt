-- Clients: what a port remembers of the requests that it accepted, so that it accepts none twice (an at-most-once table).
use Rattle.std.specs.Prelude.{ℕ, Bool, List, [], ◌∷◌}
use Rattle.chorus_entry.specs.declared.entry.Entry.{Entry}
use Rattle.chorus_entry.specs.declared.id.MsgId.{MsgId}
use Rattle.chorus_entry.specs.declared.act.Act.{Act}
use Rattle.chorus_entry.specs.declared.act.Act.TheVariants.{Accept}
use Rattle.chorus_entry.specs.Clients.{is_one_too_many, is_repeated, remembered}
use Rattle.chorus_world.specs.Posts.{tag_of}

-- of the entries on its line: each client of a request that the port accepted, with the greatest of their numbers
abbrev pub clients_after : List Entry → Act → List (ℕ × ℕ) → List (ℕ × ℕ)
clients_after past (Accept x q n) table = remembered x.seat (tag_of x past) table
clients_after past _ table = table

abbrev pub clients_kept : List Entry → List Entry → List (ℕ × ℕ)
clients_kept past [] = []
clients_kept past (e ∷ port) = clients_after past e.act (clients_kept past port)

-- Already answers the message x at the port: a request that was accepted before, or one before such a one
abbrev pub is_already : MsgId → List Entry → List Entry → Bool
is_already x past port = is_repeated x.seat (tag_of x past) (clients_kept past port)

-- and ClientsFull: a request of a client of whom nothing is kept, while as many others are kept as a port can keep
abbrev pub finds_clients_full : MsgId → List Entry → List Entry → Bool
finds_clients_full x past port = is_one_too_many x.seat (tag_of x past) (clients_kept past port)
