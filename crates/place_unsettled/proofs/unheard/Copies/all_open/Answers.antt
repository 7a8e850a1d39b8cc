use Rattle.std.proofs.Common.{true, replicate, refl}
use Rattle.place_unsettled.proofs.Copies.{each_of_all}
use Rattle.place_unsettled.proofs.unheard.Copies.all_open.Goals as goal

pub returns : goal.returns
returns c copy = each_of_all (replicate 33 true) copy refl
