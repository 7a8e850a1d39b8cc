use Rattle.std.proofs.Common.{refl, arith}
use Rattle.chorus_scene.proofs.Tables.{no_tables}
use Rattle.chorus_scene.proofs.setup.Setup.start.Goals as goal

pub returns-clause-tables : goal.returns-clause-tables
returns-clause-tables c = λ l. no_tables l _ c.new-2.ensures.items c.new-3.ensures.items refl (omega (arith, c.loop-at.invariant.many, c.loop-at-test.false, c.loop-at.auto._at-end)) c.loop-at.invariant.none
