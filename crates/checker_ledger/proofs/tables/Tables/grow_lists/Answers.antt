-- In each arm one table's lists grow, by the call there, and the others stay.
use Rattle.std.proofs.Common.{ap, sym, ◌∙◌, refl, arith}
use Rattle.checker_ledger.specs.Groups.{group_in}
use Rattle.checker_rows.specs.Lines.{line_in}
use Rattle.checker_ledger.specs.Ports.{fate_in}
use Rattle.checker_rows.proofs.LineChanges.{on_err}
use Rattle.checker_ledger.proofs.ListLemmas.{is_ports, is_groups, is_asks, is_lines, ports_stay, groups_stay, lines_stay, asks_stay, on_ok, on_oks}
use Rattle.checker_ledger.proofs.tables.Tables.grow_lists.Goals as goal

pub returns-in-Ports-clause-ok : goal.returns-in-Ports-clause-ok
returns-in-Ports-clause-ok c =
    let e = c.args.entry.now in
    let s = c.args.self.now in
    let kind = sym c.grows.ensures ∙ c.in-Ports.is in
    on_ok c.follow_ports.result c.follow_ports.ensures.ok (λ h.
    record {
      ports = h;
      groups = λ k. groups_stay e k (group_in s.groups k) (ap is_groups kind);
      lines = λ k. lines_stay e k (line_in s.lines k) (ap is_lines kind);
      asks = λ k. asks_stay e k (line_in s.asks k) (ap is_asks kind);
      messages = refl;
      locations = refl;
      places = refl;
      seats = refl;
      kept = refl;
      clients = refl;
      room = omega arith;
    })

pub returns-in-Groups-clause-ok : goal.returns-in-Groups-clause-ok
returns-in-Groups-clause-ok c =
    let e = c.args.entry.now in
    let s = c.args.self.now in
    let kind = sym c.grows.ensures ∙ c.in-Groups.is in
    on_oks c.join_group.result c.join_group.ensures.ok c.join_group.ensures.room (λ h room.
    record {
      ports = λ q. ports_stay e q (fate_in s.ports q) (ap is_ports kind);
      groups = h;
      lines = λ k. lines_stay e k (line_in s.lines k) (ap is_lines kind);
      asks = λ k. asks_stay e k (line_in s.asks k) (ap is_asks kind);
      messages = refl;
      locations = refl;
      places = refl;
      seats = refl;
      kept = refl;
      clients = refl;
      room = room;
    })

pub returns-in-Asks-clause-ok : goal.returns-in-Asks-clause-ok
returns-in-Asks-clause-ok c =
    let e = c.args.entry.now in
    let s = c.args.self.now in
    let kind = sym c.grows.ensures ∙ c.in-Asks.is in
    on_ok c.follow_asks.result c.follow_asks.ensures.ok (λ h.
    record {
      ports = λ q. ports_stay e q (fate_in s.ports q) (ap is_ports kind);
      groups = λ k. groups_stay e k (group_in s.groups k) (ap is_groups kind);
      lines = λ k. lines_stay e k (line_in s.lines k) (ap is_lines kind);
      asks = h;
      messages = refl;
      locations = refl;
      places = refl;
      seats = refl;
      kept = refl;
      clients = refl;
      room = omega arith;
    })

pub returns-in-Lines-clause-ok : goal.returns-in-Lines-clause-ok
returns-in-Lines-clause-ok c =
    let e = c.args.entry.now in
    let s = c.args.self.now in
    let kind = sym c.grows.ensures ∙ c.in-Lines.is in
    on_ok c.follow_lines.result c.follow_lines.ensures.ok (λ h.
    record {
      ports = λ q. ports_stay e q (fate_in s.ports q) (ap is_ports kind);
      groups = λ k. groups_stay e k (group_in s.groups k) (ap is_groups kind);
      lines = h;
      asks = λ k. asks_stay e k (line_in s.asks k) (ap is_asks kind);
      messages = refl;
      locations = refl;
      places = refl;
      seats = refl;
      kept = refl;
      clients = refl;
      room = omega arith;
    })

pub returns-in-Ports-clause-err : goal.returns-in-Ports-clause-err
returns-in-Ports-clause-err c =
    on_err c.follow_ports.result c.follow_ports.ensures.err (λ h.
    record {
      ports = h;
      messages = λ k. refl;
      lines = λ k. refl;
      asks = λ k. refl;
      locations = λ k. refl;
      places = λ k. refl;
      seats = λ k. refl;
      groups = λ k. refl;
      kept = λ q client. refl;
      clients = λ k. refl;
    })

pub returns-in-Groups-clause-err : goal.returns-in-Groups-clause-err
returns-in-Groups-clause-err c =
    on_err c.join_group.result c.join_group.ensures.err (λ h.
    record {
      ports = λ k. refl;
      messages = λ k. refl;
      lines = λ k. refl;
      asks = λ k. refl;
      locations = λ k. refl;
      places = λ k. refl;
      seats = λ k. refl;
      groups = h;
      kept = λ q client. refl;
      clients = λ k. refl;
    })

pub returns-in-Asks-clause-err : goal.returns-in-Asks-clause-err
returns-in-Asks-clause-err c =
    on_err c.follow_asks.result c.follow_asks.ensures.err (λ h.
    record {
      ports = λ k. refl;
      messages = λ k. refl;
      lines = λ k. refl;
      asks = h;
      locations = λ k. refl;
      places = λ k. refl;
      seats = λ k. refl;
      groups = λ k. refl;
      kept = λ q client. refl;
      clients = λ k. refl;
    })

pub returns-in-Lines-clause-err : goal.returns-in-Lines-clause-err
returns-in-Lines-clause-err c =
    on_err c.follow_lines.result c.follow_lines.ensures.err (λ h.
    record {
      ports = λ k. refl;
      messages = λ k. refl;
      lines = h;
      asks = λ k. refl;
      locations = λ k. refl;
      places = λ k. refl;
      seats = λ k. refl;
      groups = λ k. refl;
      kept = λ q client. refl;
      clients = λ k. refl;
    })
