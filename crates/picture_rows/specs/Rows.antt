-- Rows: where they stand from above. Each 32 of them have a head before them.
use Rattle.std.specs.Prelude.{ℕ, ◌+◌, ◌-◌, ◌*◌, ◌/◌}

-- the middle of a row; rows are numbered from 0
abbrev pub row_y : ℕ → ℕ
row_y row = 49 + 18 * row + 40 * (row / 32)

-- how many heads so many rows have, at least one
abbrev pub heads : ℕ → ℕ
heads rows = (rows - 1) / 32 + 1

-- where the rows end
abbrev pub end_y : ℕ → ℕ
end_y rows = 9 + 18 * rows + 40 * heads rows
