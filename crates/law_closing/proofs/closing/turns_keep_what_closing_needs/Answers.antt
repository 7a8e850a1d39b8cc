use Rattle.law_closing.proofs.Growth.{turns-keep-places, moves-keep-places, turns-keep-passes}
use Rattle.law_closing.proofs.closing.turns_keep_what_closing_needs.Goals as goal

pub returns-clause-place : goal.returns-clause-place
returns-clause-place g c = turns-keep-places _ _ _ _

pub returns-clause-pass : goal.returns-clause-pass
returns-clause-pass g c = turns-keep-passes _ _ _ _

pub returns-clause-moves : goal.returns-clause-moves
returns-clause-moves g c = moves-keep-places _ _ _ _
