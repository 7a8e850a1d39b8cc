-- Positions in lists of members.
use Rattle.std.proofs.Common.{◌≡◌, ◌-◌, nat_lt, cond, List, [], ◌∷◌, length, arith}
use Rattle.std.proofs.lemmas.Bool.Decides.{nat_tests}
use Rattle.std.proofs.lemmas.Grind.{common_steps}
use Rattle.chorus_ui.specs.declared.ui.Ui.{Ui}
use Rattle.chorus_entry.specs.Members.{index_of, without}

-- the length of a list that a port has left
pub length_without : (q : Ui) (qs : List Ui) → length (without q qs) ≡ cond (nat_lt (index_of q qs) (length qs)) (length qs - 1) (length qs)
length_without q [] = grind (arith, nat_tests, common_steps)
length_without q (r ∷ rs) = grind (arith, nat_tests, common_steps, length_without q rs)
