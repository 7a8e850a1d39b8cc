use Rattle.std.proofs.Common.{◌≡◌, ◌≤◌, arith, length, subst, sym}
use Rattle.chorus_audit.specs.declared.lines.Lines.{Lines}
use Rattle.chorus_audit.specs.Lines.{AreLines}
use Rattle.chorus_audit.specs.Tests.{IsNoSummary, IsSummary}
use Rattle.chorus_audit.proofs.Lined.{Read, few, read_next, stop_line, summary_stop, whole_end}
use Rattle.chorus_audit.proofs.lines.read_lines.Goals as goal

pub returns-in_default-2 : goal.returns-in_default-2
returns-in_default-2 c =
    subst (λ (x : Lines). AreLines c.args.text.now x.entries.items x.stop) (sym c.stopped-in_default-2.ensures)
    (stop_line c.args.text.now c.in-Some.count c.loop-taken.entries.items c.loop-taken.rest.now c.loop-taken.taken c.loop-taken.invariant (omega arith)
    (rw c.in_default-2.is at c.in_ok-entry.ensures))

pub loop-taken-preserved : goal.loop-taken-preserved
loop-taken-preserved c =
    read_next c.args.text.now c.in-Some.count c.loop-taken.entries.items c.push.new.self.items c.loop-taken.rest.now c.in-Some-2.behind.now
    c.loop-taken.taken c.in-Some-2.entry c.loop-taken.invariant (omega arith) (rw c.in-Some-2.is at c.in_ok-entry.ensures) c.in_ok-push.ensures.items

pub summary_fault-requires-clause-few : goal.summary_fault-requires-clause-few
summary_fault-requires-clause-few c =
    subst (λ es. length es ≤ 268435456) (sym c.deref.ensures.value)
    (few c.args.text.now c.in-Some.count c.loop-taken.entries.items c.loop-taken.rest.now c.loop-taken.taken c.loop-taken.invariant c.requires)

pub returns-in-None : goal.returns-in-None
returns-in-None c =
    let all : c.loop-taken.taken ≡ c.in-Some.count = omega arith in
    whole_end c.args.text.now c.in-Some.count c.loop-taken.entries.items c.loop-taken.rest.now
    (subst (λ n. Read c.args.text.now c.in-Some.count c.loop-taken.entries.items c.loop-taken.rest.now n) all c.loop-taken.invariant)
    (subst (λ es. IsSummary es c.loop-taken.rest.now) c.deref.ensures.value (rw c.in-None.is at c.in_ok-summary_fault.ensures))

pub returns : goal.returns
returns c =
    let all : c.loop-taken.taken ≡ c.in-Some.count = omega arith in
    let fault = subst (λ es. IsNoSummary es c.loop-taken.rest.now c.in-Some-3.shared × (c.in-Some-3.shared ≤ length c.loop-taken.rest.now)) c.deref.ensures.value (rw c.in-Some-3.is at c.in_ok-summary_fault.ensures) in
    subst (λ (x : Lines). AreLines c.args.text.now x.entries.items x.stop) (sym c.stopped-in-Some-3.ensures)
    (summary_stop c.args.text.now c.in-Some.count c.loop-taken.entries.items c.loop-taken.rest.now c.in-Some-3.shared
    (subst (λ n. Read c.args.text.now c.in-Some.count c.loop-taken.entries.items c.loop-taken.rest.now n) all c.loop-taken.invariant)
    fault.0)
