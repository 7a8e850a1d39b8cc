use Rattle.std.proofs.Common.{◌∙◌, ap}
use Rattle.chorus_place.specs.Calls.{Place}
use Rattle.chorus_nucleus.proofs.Parting.{takes-desk}
use Rattle.chorus_nucleus.proofs.apart.take_desk.Goals as goal

pub returns : goal.returns
returns c =
    let f = c.finish-journal.ensures in
    let r = c.finish-journal.result in
    takes-desk c.args.desk record { ends = r.ends; out = r.out; from = r.from; hand = r.hand; parcel = r.parcel } c.args.heap.now record { journals = c.push.new.self; ports = c.take_ports.new.placed } r.journal c.number-number.result
    r.ports.records f.ends f.out f.from f.hand f.parcel f.journal c.in_ok-push.ensures.items (c.number-number.ensures.value ∙ ap (λ (p : Place). p.number) c.place.ensures) f.ports c.in_ok-take_ports.ensures
