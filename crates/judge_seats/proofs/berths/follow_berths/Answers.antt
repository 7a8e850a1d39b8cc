use Rattle.std.proofs.Common.{◌∙◌, ap}
use Rattle.judge_seats.specs.Berths.{berth_after, berth_in}
use Rattle.judge_seats.proofs.Berthing.{berthed}
use Rattle.judge_seats.proofs.berths.follow_berths.Goals as goal

pub returns-in_ok-put_berth : goal.returns-in_ok-put_berth
returns-in_ok-put_berth c =
    let e = c.args.entry.now in
    berthed e c.in-Some.port (berth_in c.args.berths.now) (berth_in c.put_berth.new.berths) c.in-Some.ensures c.in-Some-berth_after.berth (c.in-Some-berth_after.ensures ∙ ap (berth_after e.place e.act) c.berth_in.ensures) c.in_ok-put_berth.ensures
