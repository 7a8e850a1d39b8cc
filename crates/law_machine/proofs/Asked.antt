-- Whether a message is a post or a copy of it: by the word of the table, and by those of the world.
use Rattle.std.specs.Prelude.{ℕ, ◌≡◌, ◌==◌, Bool, true, false, ◌&&◌}
use Rattle.std.proofs.Common.{refl, ◌∙◌}

and-true : (b : Bool) → (b && true) ≡ b
and-true true = refl
and-true false = refl
