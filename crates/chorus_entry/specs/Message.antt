use Rattle.std.specs.Prelude.{ℕ}
use Rattle.chorus_entry.specs.declared.message.Message.{Message}

-- the message as the given copy of its post
abbrev pub as_copy : Message → ℕ → Message
as_copy m copy = record m { id = record m.id { copy = copy } }
