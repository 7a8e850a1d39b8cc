-- How the lists stand in one slab: the packets for each place are a chain of nodes, each with the key of the next one.
use Rattle.std.specs.Prelude.{◌≡◌, ℕ, ◌+◌, ◌<◌, ◌≤◌, zero, suc, List, [], ◌∷◌, ◌++◌, map, Option, Some, None, IsSome, slice_index_or}
use Rattle.chorus_entry.specs.declared.packet.Packet.{Packet}
use Rattle.place_outbox.specs.declared.pool.Node.{Node}
use Rattle.place_outbox.specs.declared.pool.Chain.{Chain}

abbrev pub listed : Option Packet → List Packet
listed None = []
listed (Some packet) = packet ∷ []

-- the packet of a node
abbrev pub packet_of : Option Node → Option Packet
packet_of None = None
packet_of (Some node) = Some node.packet

-- the key of the node behind it
abbrev pub next_of : Option Node → ℕ
next_of None = 0
next_of (Some node) = node.next

-- the key that is reached from this one in these many steps, each to the next node
abbrev pub key_after : (ℕ → Option Node) → ℕ → ℕ → ℕ
key_after at key zero = key
key_after at key (suc steps) = next_of (at (key_after at key steps))

-- the packets of these many nodes from this key on
abbrev pub packets_from : (ℕ → Option Node) → ℕ → ℕ → List Packet
packets_from at key zero = []
packets_from at key (suc more) = listed (packet_of (at key)) ++ packets_from at (next_of (at key)) more

-- the list of each place
abbrev pub lists_of : (ℕ → Option Node) → List Chain → List (List Packet)
lists_of at chains = map (λ (chain : Chain). packets_from at chain.first chain.len) chains

-- how many packets the chains have
abbrev pub total : List Chain → ℕ
total [] = 0
total (c ∷ cs) = c.len + total cs

abbrev pub no_chain : Chain
no_chain = record { first = 0; last = 0; len = 0 }

-- the chain of a place
abbrev pub chain_of : List Chain → ℕ → Chain
chain_of chains place = slice_index_or chains place no_chain

-- the key of the node at a position in the chain of a place, from 0
abbrev pub key_at : (ℕ → Option Node) → List Chain → ℕ → ℕ → ℕ
key_at at chains place position = key_after at (chain_of chains place).first position

-- what each pool keeps: each position in a chain has its node, the key of the last one is known, and no two positions
-- share a node
pub record IsPool (at : ℕ → Option Node) (chains : List Chain) (puts waiting : ℕ) : Type 0 where
  pub filled : (place i : ℕ) → i < (chain_of chains place).len → IsSome (at (key_at at chains place i))
  pub last : (place i : ℕ) → (chain_of chains place).len ≡ suc i
      → key_at at chains place i ≡ (chain_of chains place).last
  pub apart : (p i q j : ℕ) → i < (chain_of chains p).len → j < (chain_of chains q).len
      → key_at at chains p i ≡ key_at at chains q j → (p ≡ q) × (i ≡ j)
  pub counted : waiting ≡ total chains
  pub at_most : waiting ≤ puts
