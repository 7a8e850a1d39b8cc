use Rattle.std.proofs.Common.{◌≡◌, ◌+◌, ◌-◌, ◌*◌, ◌++◌, OnOk, ap, sym, ◌∙◌, subst, append_assoc, arith}
use Rattle.chorus_picture.specs.Sheet.{head_at, heads_from}
use Rattle.chorus_picture.proofs.Heads.{heads_more}
use Rattle.chorus_picture.proofs.sheet.+push_heads_from.Goals as goal

pub returns : goal.returns
returns t c =
    let out = c.args.out.now.items in
    let head = head_at c.args.layout c.args.columns.now (616 * c.args.first) in
    let rest = heads_from c.args.layout c.args.columns.now (c.args.more - 1) (c.args.first + 1) in
    let one : c.push_head.new.out.items ≡ out ++ head = cc (c.in_ok-push_head.ensures, c.from.ensures) in
    let whole : c.push_head.new.out.items ++ rest ≡ out ++ heads_from c.args.layout c.args.columns.now c.args.more c.args.first =
    ap (λ text. text ++ rest) one ∙ append_assoc out head rest
    ∙ ap (λ text. out ++ text) (sym (heads_more c.args.layout c.args.columns.now c.args.more c.args.first (omega arith))) in
    subst (λ text. OnOk c.push_heads_from.result (c.push_heads_from.new.out.items ≡ text)) whole c.push_heads_from.ensures
