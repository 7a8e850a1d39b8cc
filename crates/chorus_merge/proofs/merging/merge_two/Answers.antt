use Rattle.std.proofs.Common.{◌+◌, ◌++◌, List, [], ◌∷◌, length, drop, sym, ◌∙◌, ap, subst, arith, length-append}
use Rattle.std.proofs.lemmas.List.{take_rest}
use Rattle.std.specs.Borrow.{Bor}
use Rattle.chorus_entry.specs.declared.entry.Entry.{Entry}
use Rattle.chorus_merge.specs.Steps.{lent}
use Rattle.chorus_merge.proofs.Loops.{Merging, take_first, take_second, first_ends, second_ends}
use Rattle.chorus_merge.proofs.merging.merge_two.Goals as goal
use Rattle.chorus_merge.proofs.merging.merge_two.Goals.{then-loop-i-test+else-j-second, else-loop-i-test}

pub loop-i-preserved : goal.loop-i-preserved
loop-i-preserved c =
    let P : List (Bor Entry) → Type 0 = λ out. Merging out c.args.first.now c.args.second.now (c.loop-i.i + 1) c.loop-i.j in
    record {
      merging =
          subst P (sym c.push_reserved-else-comes_before.ensures.items)
          (take_first c.loop-i.entries.items c.args.first.now c.args.second.now c.loop-i.i c.loop-i.j c.index-first-i.result c.index-second-j.result
          c.loop-i.invariant.merging (omega arith) (omega arith) c.index-first-i.is c.index-second-j.is
          (sym c.comes_before.ensures ∙ c.if-comes_before.false));
      in_first = omega arith;
      in_second = omega arith;
      count =
          let n = c.loop-i.invariant.count in
          let m = ap length c.push_reserved-else-comes_before.ensures.items ∙ length-append c.loop-i.entries.items (c.index-first-i.result ∷ []) in
          omega (arith, n, m);
      room = let r = c.loop-i.invariant.room in let k = c.push_reserved-else-comes_before.ensures.capacity in omega (arith, r, k);
    }

pub loop-i-preserved-then-comes_before : goal.loop-i-preserved-then-comes_before
loop-i-preserved-then-comes_before c =
    let P : List (Bor Entry) → Type 0 = λ out. Merging out c.args.first.now c.args.second.now c.loop-i.i (c.loop-i.j + 1) in
    record {
      merging =
          subst P (sym c.push_reserved.ensures.items)
          (take_second c.loop-i.entries.items c.args.first.now c.args.second.now c.loop-i.i c.loop-i.j c.index-first-i.result c.index-second-j.result
          c.loop-i.invariant.merging (omega arith) (omega arith) c.index-first-i.is c.index-second-j.is
          (sym c.comes_before.ensures ∙ c.if-comes_before.true));
      in_first = omega arith;
      in_second = omega arith;
      count =
          let n = c.loop-i.invariant.count in
          let m = ap length c.push_reserved.ensures.items ∙ length-append c.loop-i.entries.items (c.index-second-j.result ∷ []) in
          omega (arith, n, m);
      room = let r = c.loop-i.invariant.room in let k = c.push_reserved.ensures.capacity in omega (arith, r, k);
    }

pub returns : goal.returns
returns c =
    ap lent
    (c.in_ok-extend_from_slice-2.ensures.items
    ∙ ap (λ ws. c.extend_from_slice.new.self.items ++ ws) (take_rest c.args.second.now c.loop-i.j)
    ∙ ap (λ out. out ++ drop c.loop-i.j c.args.second.now)
    (c.in_ok-extend_from_slice.ensures.items ∙ ap (λ ws. c.loop-i.entries.items ++ ws) (take_rest c.args.first.now c.loop-i.i)))
    ∙ elim c.loop-i-test.branch [
      | then-loop-i-test+else-j-second w ↦
          second_ends c.loop-i.entries.items c.args.first.now c.args.second.now c.loop-i.i c.loop-i.j c.loop-i.invariant.merging (omega arith)
      | else-loop-i-test w ↦
          first_ends c.loop-i.entries.items c.args.first.now c.args.second.now c.loop-i.i c.loop-i.j c.loop-i.invariant.merging (omega arith)
    ]
