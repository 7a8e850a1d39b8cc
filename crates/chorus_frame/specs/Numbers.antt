-- Numbers as bytes, the highest byte first.
use Rattle.std.specs.Prelude.{ℕ, List, length, take, drop, Result, Ok, Err, nat_lt, Bool, if◌then◌else◌}
use Rattle.byteorder.specs.Endian.{big_bytes, big_number}
use Rattle.chorus_frame.specs.Fault.{Fault, Short, Range}

infixl 10 ◌>>=◌
-- what is read next, where nothing was wrong so far
abbrev pub ◌>>=◌ : {A B : Type 0} → Result A Fault → (A → Result B Fault) → Result B Fault
(Ok x) >>= next = next x
(Err fault) >>= next = Err fault

-- a number in a field of so many bytes
unfoldable pub number : ℕ → ℕ → List ℕ
number width n = big_bytes width n

-- a field is what it says, and the bytes behind it
unfoldable pub number_at : ℕ → List ℕ → Result (ℕ × List ℕ) Fault
number_at width bytes = if nat_lt (length bytes) width then Err Short else Ok (big_number width bytes, drop width bytes)

-- so many bytes
unfoldable pub bytes_at : ℕ → List ℕ → Result (List ℕ × List ℕ) Fault
bytes_at count bytes = if nat_lt (length bytes) count then Err Short else Ok (take count bytes, drop count bytes)

-- a number that passes the test; one that does not is this fault
abbrev pub passes : (ℕ → Bool) → Fault → ℕ × List ℕ → Result (ℕ × List ℕ) Fault
passes test fault n = if test n.0 then Ok n else Err fault

unfoldable pub tested_at : ℕ → (ℕ → Bool) → Fault → List ℕ → Result (ℕ × List ℕ) Fault
tested_at width test fault bytes = do
  n ← number_at width bytes
  passes test fault n

-- a number within its range
abbrev pub ranged_at : ℕ → (ℕ → Bool) → List ℕ → Result (ℕ × List ℕ) Fault
ranged_at width test bytes = tested_at width test Range bytes
