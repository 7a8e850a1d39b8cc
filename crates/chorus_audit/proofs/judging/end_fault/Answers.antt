use Rattle.std.proofs.Common.{rules, ◌≡◌, ◌≢◌, ◌+◌, ◌∙◌, codes, sym, arith}
use Rattle.chorus_audit.proofs.Back.{not_equal}
use Rattle.chorus_audit.proofs.Waiters.{is_summary, is_none, skipped_within}
use Rattle.chorus_audit.proofs.judging.end_fault.Goals as goal

pub returns-then-eq : goal.returns-then-eq
returns-then-eq c =
    let found = c.in_ok-stuck in
    let is : found.behind.now ≡ codes "end\n" = search rules in
    is_summary c.args.entries.now (omega (arith, c.requires.few)) c.args.lines.now c.requires.lines c.args.left.now found.stuck found.behind.now found.ensures is

pub overflow_add-shared : goal.overflow_add-shared
overflow_add-shared c =
    let k = c.in_ok-stuck.ensures in
    omega (arith, c.lines_shared.ensures.bound, k.count_is, skipped_within c.args.entries.now k.stuck 0 c.args.left.now c.in_ok-stuck.behind.now k.skips, c.requires.short)

pub lines_shared-requires-2 : goal.lines_shared-requires-2
lines_shared-requires-2 c =
    let k = c.in_ok-stuck.ensures in
    omega (arith, skipped_within c.args.entries.now k.stuck 0 c.args.left.now c.in_ok-stuck.behind.now k.skips, c.requires.short)

pub overflow_add-shared-2 : goal.overflow_add-shared-2
overflow_add-shared-2 c =
    let k = c.in_ok-stuck.ensures in
    let within = skipped_within c.args.entries.now k.stuck 0 c.args.left.now c.in_ok-stuck.behind.now k.skips in
    omega (arith, c.lines_shared.ensures.bound, c.lines_shared-2.ensures.bound, k.count_is, within, c.requires.short)

pub returns : goal.returns
returns c =
    let found = c.in_ok-stuck in
    let k = found.ensures in
    let within = skipped_within c.args.entries.now k.stuck 0 c.args.left.now found.behind.now k.skips in
    let differs : found.behind.now ≢ codes "end\n" = λ is. not_equal found.behind.now c.as_slice.result.now c.if-eq.ensures (is ∙ sym c.as_slice.ensures) in (
      is_none c.args.entries.now (omega (arith, c.requires.few)) c.args.lines.now c.requires.lines c.args.left.now found.stuck found.behind.now k differs
          (c.lines_shared.result + found.stuck + c.lines_shared-2.result) (λ i. c.lines_shared.ensures.value i + found.stuck + c.lines_shared-2.ensures.value i),
      omega (arith, c.lines_shared.ensures.bound, c.lines_shared-2.ensures.bound, k.count_is, within),
    )
