-- Clients: what the tables have of the clients of each port, and what an entry makes of it.
use Rattle.std.specs.Prelude.{ℕ, ◌≡◌, ◌+◌, ◌==◌, if◌then◌else◌, cond, List, [], ◌∷◌, Option, Some, None, is_some, unwrap_or}
use Rattle.std.specs.HashMap.{HashMap, get}
use Rattle.chorus_ui.specs.declared.ui.Ui.{Ui}
use Rattle.chorus_entry.specs.declared.entry.Entry.{Entry}
use Rattle.chorus_entry.specs.declared.tag.Tag.{Tag}
use Rattle.chorus_entry.specs.declared.tag.Tag.TheVariants.{Request}
use Rattle.chorus_entry.specs.declared.act.Act.{Act}
use Rattle.chorus_entry.specs.declared.act.Act.TheVariants.{Accept}
use Rattle.chorus_entry.specs.Clients.{raised}
use Rattle.chorus_world.specs.Views.{on, is_on}
use Rattle.chorus_world.specs.Posts.{tag_of}
use Rattle.checker_rows.specs.Keys.{same_port, same_client}
use Rattle.checker_rows.specs.declared.keys.PortKey.{PortKey}
use Rattle.checker_rows.specs.declared.keys.ClientOf.{ClientOf}

-- the number that a port keeps of the client, after a message of the seat with this tag was accepted
abbrev pub kept_with : ℕ → ℕ → Tag → Option ℕ → Option ℕ
kept_with client seat (Request number back) kept = if seat == client then Some (raised number kept) else kept
kept_with client seat _ kept = kept

abbrev pub kept_by : ℕ → Tag → Act → Option ℕ → Option ℕ
kept_by client tag (Accept x q n) kept = kept_with client x.seat tag kept
kept_by client tag _ kept = kept

-- of a past, with the tag of each message that the port accepted
abbrev pub kept_after : ℕ → List Entry → Act → Option ℕ → Option ℕ
kept_after client past (Accept x q n) kept = kept_with client x.seat (tag_of x past) kept
kept_after client past _ kept = kept

abbrev pub kept : ℕ → List Entry → List Entry → Option ℕ
kept client past [] = None
kept client past (e ∷ port) = kept_after client past e.act (kept client past port)

-- of how many clients it keeps one
abbrev pub clients_with : Option ℕ → Tag → ℕ → ℕ
clients_with kept (Request number back) clients = if is_some kept then clients else clients + 1
clients_with kept _ clients = clients

abbrev pub clients_by : (ℕ → Option ℕ) → Tag → Act → ℕ → ℕ
clients_by kept tag (Accept x q n) clients = clients_with (kept x.seat) tag clients
clients_by kept tag _ clients = clients

abbrev pub clients_met : List Entry → List Entry → Act → ℕ → ℕ
clients_met past port (Accept x q n) clients = clients_with (kept x.seat past port) (tag_of x past) clients
clients_met past port _ clients = clients

abbrev pub clients : List Entry → List Entry → ℕ
clients past [] = 0
clients past (e ∷ port) = clients_met past port e.act (clients past port)

-- The tables.

abbrev pub kept_in : {S : Type 0} → HashMap ClientOf ℕ S → Ui → ℕ → Option ℕ
kept_in t q client = get same_client t (record { port = q; client = client })

abbrev pub kept_row : List Entry → Ui → ℕ → Option ℕ
kept_row past q client = kept client past (on q past)

abbrev pub clients_in : {S : Type 0} → HashMap PortKey ℕ S → Ui → ℕ
clients_in t q = unwrap_or (get same_port t (record { port = q })) 0

abbrev pub clients_row : List Entry → Ui → ℕ
clients_row past q = clients past (on q past)

-- after an entry, where the message that it accepts has this tag
abbrev pub KeptAfter : Tag → Entry → (Ui → ℕ → Option ℕ) → (Ui → ℕ → Option ℕ) → Type 0
KeptAfter tag e old new =
    (q : Ui) (client : ℕ) → new q client ≡ cond (is_on (Some q) e) (kept_by client tag e.act (old q client))
    (old q client)

-- and where this was kept before it
abbrev pub ClientsAfter : (Ui → ℕ → Option ℕ) → Tag → Entry → (Ui → ℕ) → (Ui → ℕ) → Type 0
ClientsAfter kept tag e old new =
    (q : Ui) → new q ≡ cond (is_on (Some q) e) (clients_by (kept q) tag e.act (old q)) (old q)
