-- Stretches: the bytes that are not written as themselves between tags; what stands between two of them is.
use Rattle.std.specs.Prelude.{ℕ, ◌==◌, Bool, ◌||◌}

abbrev pub is_special : ℕ → Bool
is_special c = c == 60 || c == 62 || c == 38 || c == 39 || c == 34 || c == 10
