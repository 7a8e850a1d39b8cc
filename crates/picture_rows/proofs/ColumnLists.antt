-- The columns from a place on that has an entry.
use Rattle.std.proofs.Common.{◌≡◌, ℕ, zero, suc, ◌+◌, ◌-◌, ◌<◌, true, List, ◌∷◌, ap, arith}
use Rattle.chorus_entry.specs.declared.entry.Entry.{Entry}
use Rattle.picture_rows.specs.Columns.{column_from, columns_from, has_entry, right_of}

before : (n : ℕ) → n ≡ suc n - 1
before n = omega arith

pub columns_with : (n p left : ℕ) (es : List Entry) → 0 < n → has_entry p es ≡ true
    → columns_from n p left es ≡ column_from left p es ∷ columns_from (n - 1) (p + 1) (right_of (column_from left p es)) es
columns_with zero p left es some here = absurd (omega (arith, some))
columns_with (suc n) p left es some here =
    rw here (ap (λ k. column_from left p es ∷ columns_from k (p + 1) (right_of (column_from left p es)) es) (before n))
