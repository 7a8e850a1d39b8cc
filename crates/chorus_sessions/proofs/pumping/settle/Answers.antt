use Rattle.chorus_sessions.proofs.Delivering.{pumps-then}
use Rattle.chorus_sessions.proofs.Steps.{goes-then}
use Rattle.chorus_sessions.proofs.pumping.settle.Goals as goal

pub loop-preserved : goal.loop-preserved
loop-preserved g c =
    let n = c.args.nucleus.now in
    let first = c.args.pass.now in
    let i = c.loop.invariant in
    (goes-then n first c.loop.pass c.sum_all-sums.new.pass i.0 c.sum_all-sums.ensures.goes, pumps-then n first c.loop.pass c.sum_all-sums.new.pass i.1 c.sum_all-sums.ensures.pumps)

pub returns-then-is_some-clause-goes : goal.returns-then-is_some-clause-goes
returns-then-is_some-clause-goes g c = goes-then c.args.nucleus.now c.args.pass.now c.loop.pass c.sum_all-sums.new.pass c.loop.invariant.0 c.sum_all-sums.ensures.goes

pub returns-then-is_some-clause-pumps : goal.returns-then-is_some-clause-pumps
returns-then-is_some-clause-pumps g c = pumps-then c.args.nucleus.now c.args.pass.now c.loop.pass c.sum_all-sums.new.pass c.loop.invariant.1 c.sum_all-sums.ensures.pumps

pub returns-then-eq-clause-goes : goal.returns-then-eq-clause-goes
returns-then-eq-clause-goes g c = goes-then c.args.nucleus.now c.args.pass.now c.loop.pass c.sum_all-sums.new.pass c.loop.invariant.0 c.sum_all-sums.ensures.goes

pub returns-then-eq-clause-pumps : goal.returns-then-eq-clause-pumps
returns-then-eq-clause-pumps g c = pumps-then c.args.nucleus.now c.args.pass.now c.loop.pass c.sum_all-sums.new.pass c.loop.invariant.1 c.sum_all-sums.ensures.pumps

pub returns-then-is_over-clause-goes : goal.returns-then-is_over-clause-goes
returns-then-is_over-clause-goes g c = goes-then c.args.nucleus.now c.args.pass.now c.loop.pass c.sum_all-sums.new.pass c.loop.invariant.0 c.sum_all-sums.ensures.goes

pub returns-then-is_over-clause-pumps : goal.returns-then-is_over-clause-pumps
returns-then-is_over-clause-pumps g c = pumps-then c.args.nucleus.now c.args.pass.now c.loop.pass c.sum_all-sums.new.pass c.loop.invariant.1 c.sum_all-sums.ensures.pumps
