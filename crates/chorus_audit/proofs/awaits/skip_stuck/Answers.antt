use Rattle.std.proofs.Common.{codes, sym, ◌∙◌}
use Rattle.std.proofs.lemmas.Bool.{false≢true}
use Rattle.std.proofs.lemmas.Bool.Decides.{Decides-eqb}
use Rattle.std.proofs.lemmas.Slice.Eq.{starts_is}
use Rattle.chorus_audit.proofs.Waiters.{no_start, of_table, skips_none}
use Rattle.chorus_audit.proofs.awaits.skip_stuck.Goals as goal

pub skip_lines-requires-clause-few : goal.skip_lines-requires-clause-few
skip_lines-requires-clause-few c = (c.args.entries.now, c.in_ok-table.ensures, c.requires.few)

pub returns-in_ok-table : goal.returns-in_ok-table
returns-in_ok-table c = of_table c.args.entries.now c.in_ok-table.table c.args.text.now c.skip_lines.result c.in_ok-table.ensures c.skip_lines.ensures

pub returns-else-starts_with : goal.returns-else-starts_with
returns-else-starts_with c =
    let es = c.args.entries.now in
    let text = c.args.text.now in
    let starts = starts_is Decides-eqb text (codes "stuck ") c.starts_with.result c.starts_with.ensures.value in
    skips_none es 0 text (no_start es 0 text (λ rest is. false≢true (sym c.if-starts_with.false ∙ starts.1 rest is)))
