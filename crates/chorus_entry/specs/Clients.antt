-- What a port remembers of the requests that it accepted, so that it accepts none twice: a table of clients, each with
-- the greatest number of its requests. The client of a request is the seat that posted it.
use Rattle.std.specs.Prelude.{ℕ, nat_le, max, Bool, false, ◌&&◌, not, if◌then◌else◌, Option, Some, None, is_some, List, [], ◌∷◌, ◌++◌, length}
use Rattle.chorus_ui.specs.declared.limits.TheConstants.{CLIENTS_LIMIT}
use Rattle.chorus_entry.specs.declared.tag.Tag.{Tag}
use Rattle.chorus_entry.specs.declared.tag.Tag.TheVariants.{Plain, Request, Reply}
use Rattle.chorus_entry.specs.ClientTable.{number_of, with_number}

-- a number is kept, and this one is not above it
abbrev pub is_reached : ℕ → Option ℕ → Bool
is_reached number None = false
is_reached number (Some kept) = nat_le number kept

-- it is a request, its client is remembered, and the kept number is not below its own
abbrev pub is_repeated : ℕ → Tag → List (ℕ × ℕ) → Bool
is_repeated client Plain clients = false
is_repeated client (Request number back) clients = is_reached number (number_of clients client)
is_repeated client (Reply of number) clients = false

-- it is a request, its client is not remembered, and as many clients are as may be
abbrev pub is_one_too_many : ℕ → Tag → List (ℕ × ℕ) → Bool
is_one_too_many client Plain clients = false
is_one_too_many client (Request number back) clients =
    not (is_some (number_of clients client)) && nat_le CLIENTS_LIMIT (length clients)
is_one_too_many client (Reply of number) clients = false

-- the number that is kept after this one was accepted: the greater one
abbrev pub raised : ℕ → Option ℕ → ℕ
raised number None = number
raised number (Some kept) = max number kept

-- a client with the number of its request: in place of the earlier one, or last where the client is new
abbrev pub with_client : List (ℕ × ℕ) → ℕ → ℕ → List (ℕ × ℕ)
with_client clients client number =
    if is_some (number_of clients client) then with_number clients client (raised number (number_of clients client))
    else clients ++ (client, number) ∷ []

-- of what was accepted, a request alone is remembered
abbrev pub remembered : ℕ → Tag → List (ℕ × ℕ) → List (ℕ × ℕ)
remembered client Plain clients = clients
remembered client (Request number back) clients = with_client clients client number
remembered client (Reply of number) clients = clients
