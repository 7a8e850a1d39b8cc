-- The parts of a text.
-- es are entries that are lent, size is how many of them a part has at most.
use Rattle.std.specs.Prelude.{ℕ, ◌≡◌, ◌<◌, ◌*◌, List, length, take, drop, IfOk, OnOk, Result, slice_index_or}
use Rattle.std.specs.Borrow.{Bor}
use Rattle.std.specs.Global.{Vec}
use Rattle.std.specs.List.{flat_map}
use Rattle.std.specs.declared.alloc.AllocError.{AllocError}
use Rattle.chorus_entry.specs.declared.entry.Entry.{Entry}
use Rattle.chorus_merge.specs.Steps.{lent}
use Rattle.chorus_show.specs.Bounds.{AreWithin}
use Rattle.chorus_show.specs.Journal.{journal_lines}

-- the parts one behind the other
abbrev pub whole : List (Vec ℕ) → List ℕ
whole parts = flat_map (λ (part : Vec ℕ). part.items) parts

-- the lines of these entries were printed, each of them within the bounds of a line; or there was no memory
pub record PrintsPart (es : List (Bor Entry)) (printed : Result (Vec ℕ) AllocError) : Type 0 where
  pub text : IfOk printed (λ (part : Vec ℕ). part.items ≡ journal_lines (lent es))
  pub within : OnOk printed (AreWithin (lent es))

-- so it is of each part
abbrev pub ArePrinted : List (Bor Entry) → ℕ → List (Result (Vec ℕ) AllocError) → Type 0
ArePrinted es size printed =
    (n : ℕ) (d : Result (Vec ℕ) AllocError) → n < length printed →
    PrintsPart (take size (drop (n * size) es)) (slice_index_or printed n d)
