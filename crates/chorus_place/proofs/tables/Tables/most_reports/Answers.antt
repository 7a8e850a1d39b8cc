use Rattle.std.proofs.Common.{ap, arith}
use Rattle.place_unsettled.specs.Queues.{queue}
use Rattle.chorus_place.specs.PlaceTables.Going.{reports_for}
use Rattle.chorus_place.proofs.PlaceTables.Reports.{reports-direct, reports-most}
use Rattle.chorus_place.proofs.tables.Tables.most_reports.Goals as goal

pub returns-in-None-clause-enough : goal.returns-in-None-clause-enough
returns-in-None-clause-enough c =
    let i = c.self.inside in
    let k = c.args.key.now in
    let none = reports-direct i.layout i.number k (queue i.waits k).waits (c.self.invariant.2.waiting k) c.in-None.is in
    let seen = ap (λ p. reports_for k p) c.self.view_is in
    omega (arith, none, seen)

pub returns-in-Some-clause-enough : goal.returns-in-Some-clause-enough
returns-in-Some-clause-enough c =
    let i = c.self.inside in
    let k = c.args.key.now in
    let most = reports-most i.number (queue i.waits k).waits in
    let seen = ap (λ p. reports_for k p) c.self.view_is in
    let len = c.len.ensures.len in
    omega (arith, most, seen, len)
