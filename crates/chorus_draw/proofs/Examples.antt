-- The generator's two numbers, and draws from the least state, from 7 and from the greatest one, worked out by hand.
use Rattle.std.proofs.Common.{◌≡◌, ◌-◌, ◌^◌, refl}
use Rattle.chorus_draw.specs.declared.TheConstants.{FACTOR, INCREMENT}
use Rattle.chorus_draw.specs.Draws.{next_state, number_of}

the-factor : FACTOR ≡ 6364136223846793005
the-factor = refl

the-increment : INCREMENT ≡ 1442695040888963407
the-increment = refl

from-none : next_state 0 ≡ 1442695040888963407
from-none = refl

from-seven : next_state 7 ≡ 9098160460397411210
from-seven = refl

from-most : next_state (2 ^ 64 - 1) ≡ 13525302890751722018
from-most = refl

drawn-from-seven : number_of (next_state 7) ≡ 1059165278
drawn-from-seven = refl

drawn-from-most : number_of (next_state (2 ^ 64 - 1)) ≡ 1574552488
drawn-from-most = refl
