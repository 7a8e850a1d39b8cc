use Rattle.std.proofs.Common.{◌≡◌, drop}
use Rattle.chorus_entry.specs.ClientTable.{number_of}
use Rattle.chorus_entry.proofs.record.clients.ClientTable.number_of.Given as goal

-- the client is none of those passed
abbrev pub invariant-loop-known : goal.invariant-loop-known
invariant-loop-known l = number_of l.self l.client ≡ number_of (drop l.known-index l.self) l.client
