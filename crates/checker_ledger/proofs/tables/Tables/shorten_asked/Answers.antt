use Rattle.checker_ledger.specs.declared.tables.Tables.{Tables}
use Rattle.checker_ledger.proofs.TieLemmas.{asks_shorter}
use Rattle.checker_ledger.proofs.tables.Tables.shorten_asked.Goals as goal

pub returns-in-Some : goal.returns-in-Some
returns-in-Some c = λ l past f.
    let s = c.args.self.now in
    let t : Tables = record s { asks = c.shorten_line.new.lines } in
    asks_shorter l past c.asked_line-line.result s t f c.shorten_line.ensures.at_key c.shorten_line.ensures.others
