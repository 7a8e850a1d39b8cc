use Rattle.std.proofs.Common.{◌≡◌, ◌+◌, ◌∙◌, ap, arith, reverse, subst, sym}
use Rattle.chorus_world.specs.Steps.{State}
use Rattle.chorus_audit.specs.declared.judging.Audit.TheVariants.{Wrong}
use Rattle.chorus_audit.specs.Tests.{IsRead}
use Rattle.chorus_audit.specs.Reads.{IsReading}
use Rattle.chorus_audit.proofs.Steps.{Found, few, found_next, legal_end, stop_end, summary_end}
use Rattle.chorus_audit.proofs.judging.read_in.Goals as goal

pub loop-taken-preserved : goal.loop-taken-preserved
loop-taken-preserved c =
    found_next c.args.layout c.args.text.now c.in-Some.count c.loop-taken.world c.take_entry.new.world c.loop-taken.rest.now c.in-Ok.behind.now
    c.loop-taken.taken c.loop-taken.invariant (omega arith) c.in-Ok.ensures.read

pub returns-in-Err-NotLegal : goal.returns-in-Err-NotLegal
returns-in-Err-NotLegal c =
    let stop = c.in-Err-NotLegal in
    subst (IsReading c.args.layout c.args.text.now) (sym c.stopped-in-Err-NotLegal.ensures) (record {
      read =
          rw stop.field-0-is (subst (λ (w : State). IsRead c.args.layout c.args.text.now (Wrong (c.loop-taken.taken + 2) stop.rule) (reverse w.past)) (sym stop.ensures.unchanged)
          (stop_end c.args.layout c.args.text.now c.in-Some.count c.loop-taken.world c.loop-taken.rest.now c.loop-taken.taken stop.rule c.loop-taken.invariant (omega arith)
          (rw stop.field-0-is at stop.ensures.read)));
      layout_is = ap (λ (w : State). w.layout) stop.ensures.unchanged ∙ c.loop-taken.invariant.layout_is;
    })

pub summary_fault-requires-clause-few : goal.summary_fault-requires-clause-few
summary_fault-requires-clause-few c =
    let all : c.loop-taken.taken ≡ c.in-Some.count = omega arith in
    few c.args.layout c.args.text.now c.in-Some.count c.loop-taken.world c.loop-taken.rest.now c.entries.result.now
    (subst (λ n. Found c.args.layout c.args.text.now c.in-Some.count c.loop-taken.world c.loop-taken.rest.now n) all c.loop-taken.invariant)
    c.entries.ensures.value c.requires

pub returns-in-None : goal.returns-in-None
returns-in-None c =
    let all : c.loop-taken.taken ≡ c.in-Some.count = omega arith in
    record {
      read =
          legal_end c.args.layout c.args.text.now c.in-Some.count c.loop-taken.world c.loop-taken.rest.now c.entries.result.now
          (subst (λ n. Found c.args.layout c.args.text.now c.in-Some.count c.loop-taken.world c.loop-taken.rest.now n) all c.loop-taken.invariant)
          c.entries.ensures.value (rw c.in-None.is at c.in_ok-summary_fault.ensures);
      layout_is = c.loop-taken.invariant.layout_is;
    }

pub returns-in-Some-2 : goal.returns-in-Some-2
returns-in-Some-2 c =
    let all : c.loop-taken.taken ≡ c.in-Some.count = omega arith in
    let fault = rw c.in-Some-2.is at c.in_ok-summary_fault.ensures in
    subst (IsReading c.args.layout c.args.text.now) (sym c.stopped-in-Some-2.ensures) (record {
      read =
          summary_end c.args.layout c.args.text.now c.in-Some.count c.loop-taken.world c.loop-taken.rest.now c.entries.result.now
          (subst (λ n. Found c.args.layout c.args.text.now c.in-Some.count c.loop-taken.world c.loop-taken.rest.now n) all c.loop-taken.invariant)
          c.entries.ensures.value c.in-Some-2.shared fault.0;
      layout_is = c.loop-taken.invariant.layout_is;
    })
