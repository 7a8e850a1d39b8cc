use Rattle.std.proofs.Common.{◌≡◌, ◌-◌, ◌+◌, ◌++◌, ◌∷◌, [], ap, sym, ◌∙◌, append_assoc, arith}
use Rattle.picture_rows.specs.Columns.{column_from, columns_from, right_of}
use Rattle.picture_rows.proofs.ColumnLists.{columns_with}
use Rattle.picture_rows.proofs.column.+push_columns.Goals as goal

pub returns : goal.returns
returns t c =
    let es = c.args.entries.now in
    let column = column_from c.args.left c.args.first es in
    let rest = columns_from (c.args.places - 1) (c.args.first + 1) (right_of column) es in
    let next : c.push_columns-2.new.all.items ≡ c.push.new.self.items ++ rest = grind arith in
    let pushed : c.push.new.self.items ≡ c.args.all.now.items ++ column ∷ [] = grind arith in
    next ∙ ap (λ xs. xs ++ rest) pushed ∙ append_assoc c.args.all.now.items (column ∷ []) rest
    ∙ ap (λ xs. c.args.all.now.items ++ xs) (sym (columns_with c.args.places c.args.first c.args.left es (omega arith) (grind arith)))
