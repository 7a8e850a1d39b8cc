use Rattle.std.proofs.Common.{◌≡◌, Ok, ◌∙◌, arith, refl}
use Rattle.std.proofs.lemmas.Bool.Decides.{nat_tests}
use Rattle.chorus_scene.specs.Grammar.{read_scene}
use Rattle.chorus_scene.specs.Reader.{state_of}
use Rattle.chorus_scene.proofs.Law.{printed_again}
use Rattle.chorus_scene.proofs.Kept.{kept}
use Rattle.chorus_scene.proofs.Lines.{judge_on, judge_stops, judge_end, ended_is, not_ended, read_is}
use Rattle.chorus_scene.proofs.reading.read.Goals as goal

pub returns-in-Err : goal.returns-in-Err
returns-in-Err c =
    let h = c.loop-rest.invariant in
    rw (c.fault_at.ensures, read_is c.args.layout c.args.text.now (omega arith))
    (judge_stops c.loop-rest.number (state_of c.loop-rest.reader) c.loop-rest.rest.now c.first_line.result.0.now c.first_line.result.1.now _ c.first_line.ensures.first h.judged c.in-Err.stop c.in-Err.ensures.gives)

pub loop-rest-preserved : goal.loop-rest-preserved
loop-rest-preserved c =
    let h = c.loop-rest.invariant in
    record {
      judged = judge_on c.loop-rest.number (state_of c.loop-rest.reader) c.loop-rest.rest.now c.first_line.result.0.now c.first_line.result.1.now _ c.first_line.ensures.first h.judged (state_of c.line.new.self) c.in-Ok.ensures.gives;
      stands = c.in-Ok.ensures.stands;
      small = omega (arith, h.small, c.first_line.ensures.shorter);
    }

pub finish-requires-clause-again : goal.finish-requires-clause-again
finish-requires-clause-again c =
    let h = c.loop-rest.invariant in
    let s = state_of c.loop-rest.reader in
    let t = ended_is s.section c.in-Ended.is in
    let said : read_scene c.args.layout c.args.text.now ≡ Ok s.scene = read_is c.args.layout c.args.text.now (omega arith) ∙ judge_end c.loop-rest.number s c.loop-rest.rest.now _ (grind (arith, nat_tests)) h.judged ∙ rw t refl in
    (printed_again c.args.layout c.args.text.now s.scene said).2

pub finish-requires-clause-keeps : goal.finish-requires-clause-keeps
finish-requires-clause-keeps c =
    let h = c.loop-rest.invariant in
    let s = state_of c.loop-rest.reader in
    let t = ended_is s.section c.in-Ended.is in
    let said : read_scene c.args.layout c.args.text.now ≡ Ok s.scene = read_is c.args.layout c.args.text.now (omega arith) ∙ judge_end c.loop-rest.number s c.loop-rest.rest.now _ (grind (arith, nat_tests)) h.judged ∙ rw t refl in
    kept c.args.layout c.args.text.now s.scene said

pub returns-in-Ended : goal.returns-in-Ended
returns-in-Ended c =
    let h = c.loop-rest.invariant in
    let s = state_of c.loop-rest.reader in
    let t = ended_is s.section c.in-Ended.is in
    rw c.finish.ensures (read_is c.args.layout c.args.text.now (omega arith) ∙ judge_end c.loop-rest.number s c.loop-rest.rest.now _ (grind (arith, nat_tests)) h.judged ∙ rw t refl)

pub returns : goal.returns
returns c =
    let h = c.loop-rest.invariant in
    let s = state_of c.loop-rest.reader in
    let t = not_ended s.section c.in_default.not-Ended in
    rw c.reason_number.ensures (read_is c.args.layout c.args.text.now (omega arith) ∙ judge_end c.loop-rest.number s c.loop-rest.rest.now _ (grind (arith, nat_tests)) h.judged ∙ rw t refl)
