use Rattle.std.proofs.Common.{◌≡◌, ℕ, ◌<◌, List, [], ◌∷◌, length, None, Some, refl, arith}
use Rattle.chorus_show.specs.Reading.{unescape}
use Rattle.chorus_audit.proofs.parts.escaped_byte.Goals as goal

cut_off : (digits : List ℕ) → length digits < 2 → unescape (Some None) digits ≡ []
cut_off [] few = refl
cut_off (d ∷ []) few = refl
cut_off (d ∷ e ∷ more) few = absurd (omega arith)

pub returns-in_default-clause-byte : goal.returns-in_default-clause-byte
returns-in_default-clause-byte c = cut_off c.args.digits.now c.in_default.len_below
