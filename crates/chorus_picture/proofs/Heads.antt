-- The heads from one on, of which there is one more, and their bands.
use Rattle.std.proofs.Common.{◌≡◌, ℕ, zero, suc, ◌+◌, ◌-◌, ◌*◌, ◌<◌, List, ◌++◌, ap, arith}
use Rattle.chorus_ui.specs.declared.layout.Layout.{Layout}
use Rattle.picture_rows.specs.Columns.{ColumnShape}
use Rattle.chorus_picture.specs.Sheet.{band, bands_from, head_at, heads_from}

before : (n : ℕ) → n ≡ suc n - 1
before n = omega arith

-- one head and then the others
pub heads_more : (l : Layout) (cs : List ColumnShape) (n k : ℕ) → 0 < n → heads_from l cs n k ≡ head_at l cs (616 * k) ++ heads_from l cs (n - 1) (k + 1)
heads_more l cs zero k some = absurd (omega (arith, some))
heads_more l cs (suc n) k some = ap (λ m. head_at l cs (616 * k) ++ heads_from l cs m (k + 1)) (before n)

pub bands_more : (w n k : ℕ) → 0 < n → bands_from w n k ≡ band w (616 * k) ++ bands_from w (n - 1) (k + 1)
bands_more w zero k some = absurd (omega (arith, some))
bands_more w (suc n) k some = ap (λ m. band w (616 * k) ++ bands_from w m (k + 1)) (before n)
