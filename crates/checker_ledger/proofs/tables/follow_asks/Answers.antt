use Rattle.std.proofs.Common.{sym}
use Rattle.checker_rows.specs.Lines.{line_in}
use Rattle.checker_ledger.proofs.ListLemmas.{on_ok, ask_put}
use Rattle.checker_ledger.proofs.tables.follow_asks.Goals as goal

pub returns-in-Some-clause-ok : goal.returns-in-Some-clause-ok
returns-in-Some-clause-ok c =
    on_ok c.push.result c.push.ensures.ok (λ h k.
    ask_put c.args.entry.now c.in-Post.message c.in-Post.dest c.in-Some.group c.asked_line.result k (line_in c.args.asks.now k) (line_in c.push.new.lines k) c.in-Post.is (sym c.in-Some.ensures) c.asked_line.ensures (h k))
