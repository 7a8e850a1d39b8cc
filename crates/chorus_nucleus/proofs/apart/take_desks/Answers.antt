use Rattle.std.proofs.Common.{◌++◌, ◌∷◌, [], sym, subst, List, Option}
use Rattle.chorus_nucleus.specs.declared.leavings.Remains.{Remains}
use Rattle.chorus_nucleus.specs.Apart.{TakesDesks}
use Rattle.chorus_nucleus.proofs.Parting.{next-desk, desks-more}
use Rattle.chorus_nucleus.proofs.apart.take_desks.Goals as goal

pub loop-desk-preserved : goal.loop-desk-preserved
loop-desk-preserved c =
    let i = c.loop-desk.invariant in
    let s = c.in-Some.desk in (
      i.0 ++ s ∷ [],
      next-desk c.args.desks.items i.0 c.loop-desk.desks.items c.pop.new.self.items s i.1 c.in-Some.ensures.items,
      subst (λ (ts : List (Option Remains)). TakesDesks (i.0 ++ s ∷ []) ts c.args.heap.now c.take_desk.new.heap) (sym c.in_ok-push.ensures.items)
          (desks-more i.0 c.loop-desk.all.items s c.in_ok-remains.remains c.args.heap.now c.loop-desk.heap c.take_desk.new.heap i.2 c.in_ok-remains.ensures),
    )
