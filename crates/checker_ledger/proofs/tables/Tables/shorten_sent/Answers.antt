use Rattle.checker_ledger.specs.declared.tables.Tables.{Tables}
use Rattle.checker_ledger.proofs.TieLemmas.{lines_shorter}
use Rattle.checker_ledger.proofs.tables.Tables.shorten_sent.Goals as goal

pub returns-in-Some : goal.returns-in-Some
returns-in-Some c = λ l past f.
    let s = c.args.self.now in
    let t : Tables = record s { lines = c.shorten_line.new.lines } in
    lines_shorter l past c.sent_line-line.result s t f c.shorten_line.ensures.at_key c.shorten_line.ensures.others
