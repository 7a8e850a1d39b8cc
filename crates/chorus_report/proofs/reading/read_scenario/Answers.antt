use Rattle.std.proofs.Common.{Err, inl, inr, sym, ◌∙◌, ap, subst}
use Rattle.chorus_scene.specs.Grammar.{read_scene, Refuses}
use Rattle.chorus_scene.proofs.Kept.{kept}
use Rattle.chorus_scene.proofs.Law.{printed_again}
use Rattle.chorus_report.proofs.Ends.{ends-fault, ends-memory, ends-refused, ends-read}
use Rattle.chorus_report.proofs.Read.{whole-given, long-given-as}
use Rattle.chorus_report.proofs.reading.read_scenario.Goals as goal

pub returns-in-Err-Fault-clause-ends : goal.returns-in-Err-Fault-clause-ends
returns-in-Err-Fault-clause-ends g c =
    let e = c.in-Err-Fault.ensures in ends-fault _ _ _ _ _ _ e.reliable (e.fault (cc)) e.most

pub returns-in-Err-Memory-clause-ends : goal.returns-in-Err-Memory-clause-ends
returns-in-Err-Memory-clause-ends g c =
    let e = c.in-Err-Memory.ensures in ends-memory _ _ _ _ _ _ (e.steady (λ h. cc)) (e.memory _ (ap Err c.in-Err-Memory.field-0-is))

pub returns-in-Err-TooLong-clause-ends : goal.returns-in-Err-TooLong-clause-ends
returns-in-Err-TooLong-clause-ends g c =
    let e = c.in-Err-TooLong.ensures in
    let long = e.too_long (cc) in
    ends-refused _ _ _ _ _ _ (e.steady (λ h. cc)) e.most _ _ _ c.refused.ensures
    (long-given-as _ _ _ long.0 _ _ long.1.0 long.1.1 (cc) (cc))
    (record { bytes = long.0; read = inr long.1 })

pub returns-in-Err-Scene-clause-ends : goal.returns-in-Err-Scene-clause-ends
returns-in-Err-Scene-clause-ends g c =
    let text = c.in-Ok.text.items in
    let e = c.in-Ok.ensures in
    ends-refused _ _ _ _ _ _ (e.steady (λ h. cc)) e.most _ _ _ c.refused-in-Err-Scene.ensures
    (whole-given _ _ text _ e.whole e.read.2
    (ap (read_scene c.args.layout) (sym c.deref.ensures.value) ∙ subst (λ f. Refuses f (read_scene c.args.layout c.deref.result.now)) c.in-Err-Scene.field-0-is c.in-Err-Scene.ensures))
    (record { bytes = text; read = inl e.read })

pub returns-clause-reads : goal.returns-clause-reads
returns-clause-reads g c =
    let e = c.in-Ok.ensures in
    ends-read _ _ _ _ _ _ (e.steady (λ h. cc)) e.most c.in-Ok.text.items e.read

pub returns-clause-ok : goal.returns-clause-ok
returns-clause-ok g c =
    let layout = c.args.layout in
    let bytes = c.deref.result.now in
    ((printed_again layout bytes c.in-Ok-read.scenario c.in-Ok-read.ensures).0, kept layout bytes c.in-Ok-read.scenario c.in-Ok-read.ensures)

pub returns-clause-given : goal.returns-clause-given
returns-clause-given g c =
    whole-given _ _ c.in-Ok.text.items _ c.in-Ok.ensures.whole c.in-Ok.ensures.read.2
    (ap (read_scene c.args.layout) (sym c.deref.ensures.value) ∙ c.in-Ok-read.ensures)
