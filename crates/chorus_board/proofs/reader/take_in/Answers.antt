use Rattle.std.proofs.Common.{◌≤◌, length, ap, sym, subst, arith, List}
use mathlib.Core.List.{IsPrefix}
use Rattle.chorus_board.specs.declared.history.Stage.{Stage}
use Rattle.chorus_board.specs.declared.table.Table.{Table}
use Rattle.chorus_board.specs.Law.{entries_in}
use Rattle.chorus_board.specs.Table.{stands_for}
use Rattle.chorus_board.proofs.Fronts.{prefix_shorter}
use Rattle.chorus_board.proofs.Stages.{begins-with}
use Rattle.chorus_board.proofs.reader.take_in.Goals as goal

pub returns-then-newer-kept-clause-newer : goal.returns-then-newer-kept-clause-newer
returns-then-newer-kept-clause-newer c =
    let rule = c.learn.ensures.4.1.followed in
    let mine : IsPrefix c.args.kept.now.seen.log c.learn.new.self.log = subst (λ (l : List Stage). IsPrefix l c.learn.new.self.log) (ap (λ s. s.log) c.again-both.ensures) c.learn.ensures.2 in
    let a = c.requires.fine.0.1 in
    let b = c.requires.fine.1.1 in
    prefix_shorter _ _ (entries_in c.learn.new.self.log) (begins-with _ _ _ c.learn.ensures.3 rule) (begins-with _ _ _ mine rule) (omega (arith, a, b))

pub returns-clause-begins : goal.returns-clause-begins
returns-clause-begins c =
    let rule = c.learn.ensures.4.1.followed in
    let mine : IsPrefix c.args.kept.now.seen.log c.learn.new.self.log = subst (λ (l : List Stage). IsPrefix l c.learn.new.self.log) (ap (λ s. s.log) c.again-both.ensures) c.learn.ensures.2 in
    let a = c.requires.fine.0.1 in
    let b = c.requires.fine.1.1 in
    let less : length (stands_for c.args.kept.now) ≤ length (stands_for c.args.newer.now) = omega (arith, a, b) in
    subst (λ (t : Table). IsPrefix (stands_for c.args.kept.now) (stands_for t)) (sym c.put_down.ensures) (prefix_shorter _ _ (entries_in c.learn.new.self.log) (begins-with _ _ _ mine rule) (begins-with _ _ _ c.learn.ensures.3 rule) less)
