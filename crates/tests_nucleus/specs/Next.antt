-- A handler that puts down the position behind that of the message.
use Rattle.std.specs.Prelude.{ℕ, ◌+◌, ◌%◌, ◌^◌}
use Rattle.chorus_crew.specs.Handling.{Way}

abbrev pub next : Way ℕ
next = record { begun = λ q. 0; after = λ q t position. (t.position + 1) % 2 ^ 64 }
