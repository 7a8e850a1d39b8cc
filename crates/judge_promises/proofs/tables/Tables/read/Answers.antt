use Rattle.std.proofs.Common.{sym, ◌∙◌}
use Rattle.judge_promises.proofs.Ties.{on-ok, read-more, read-past}
use Rattle.judge_promises.proofs.tables.Tables.read.Goals as goal

pub returns-then-is_read-clause-ok : goal.returns-then-is_read-clause-ok
returns-then-is_read-clause-ok c =
    on-ok c.follow.result c.follow.ensures.ok
    (λ r past f. read-more past c.args.entry.now c.args.self.now c.follow.new.self (sym c.is_read.ensures ∙ c.if-is_read.true) r f)

pub returns-else-is_read-clause-ok : goal.returns-else-is_read-clause-ok
returns-else-is_read-clause-ok c = λ past f.
    read-past past c.args.entry.now c.args.self.now (sym c.is_read.ensures ∙ c.if-is_read.false) f
