-- A linear congruential generator.
-- x is what it has come to.
use Rattle.std.specs.Prelude.{ℕ, ◌+◌, ◌*◌, ◌/◌, ◌%◌, ◌^◌}
use Rattle.chorus_draw.specs.declared.TheConstants.{FACTOR, INCREMENT}

abbrev pub next_state : ℕ → ℕ
next_state x = (x * FACTOR + INCREMENT) % 2 ^ 64

-- the number that is drawn there
abbrev pub number_of : ℕ → ℕ
number_of x = x / 2 ^ 33
