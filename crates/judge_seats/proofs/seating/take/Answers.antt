use Rattle.std.proofs.Common.{◌&&◌, ap}
use Rattle.judge_seats.specs.declared.seating.Tables.{Tables}
use Rattle.judge_seats.proofs.Following.{follows, tells}
use Rattle.judge_seats.proofs.seating.take.Goals as goal

pub returns : goal.returns
returns c =
    let e = c.args.entry.now in
    let old = c.args.tables.now in
    let new : Tables = record { berths = c.follow_berths.new.berths; sittings = c.put_sitting.new.sittings; outs = c.follow_outs.new.outs; order = c.follow_order.new.order } in
    let n = c.needed_in-needed.result in
    let m = c.missed_in-missed.result in
    let row = c.sitting_in-row.result in
    let here = c.sitting_here-here.result in
    record {
      follow = λ past f.
          follows past e old new f n m row here c.needed_in-needed.ensures c.missed_in-missed.ensures c.sitting_in-row.ensures c.sitting_here-here.ensures
          c.in_ok-follow_berths.ensures c.in_ok-follow_outs.ensures c.in_ok-follow_order.ensures c.in_ok-put_sitting.ensures;
      tells = λ past f stand.
          tells past e old new f n m row here c.needed_in-needed.ensures c.missed_in-missed.ensures c.sitting_in-row.ensures c.sitting_here-here.ensures
          c.in_ok-follow_berths.ensures c.in_ok-follow_outs.ensures c.in_ok-follow_order.ensures c.in_ok-put_sitting.ensures c.args.layout stand
          _ c.goes_with.result c.asks_more-known.result c.goes_with.ensures c.asks_more-known.ensures
          (ap (λ b. c.goes_with.result && b) c.is_seated-seated.ensures);
    }
