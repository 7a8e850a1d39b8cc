use Rattle.chorus_show.proofs.Lent.{head-lines, head-front}
use Rattle.chorus_show.proofs.journal.push_journal.Goals as goal

pub returns-clause-ok : goal.returns-clause-ok
returns-clause-ok c = head-lines _ _ _ _ c.push_lines.result c.in_ok-push_head.ensures.ok c.push_lines.ensures.ok

pub returns-clause-err : goal.returns-clause-err
returns-clause-err c = head-front _ _ _ _ c.push_lines.result c.in_ok-push_head.ensures.ok c.push_lines.ensures.err
