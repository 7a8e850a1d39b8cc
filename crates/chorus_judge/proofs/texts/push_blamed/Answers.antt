use Rattle.std.proofs.Common.{[], ◌++◌, codes, decimal, sym, ◌∙◌, ap, append-nil}
use Rattle.chorus_judge.proofs.Pieces.{behind_piece}
use Rattle.chorus_judge.proofs.texts.push_blamed.Goals as goal

pub returns : goal.returns
returns c =
    let b = c.args.blame.now in
    let rule = c.in_ok-push_decimal-2.ensures.ok ∙ ap (λ n. c.extend_from_slice-2.new.self.items ++ decimal n) c.from.ensures in
    let condition = c.in_ok-push_decimal-3.ensures.ok ∙ ap (λ n. c.extend_from_slice-3.new.self.items ++ decimal n) c.from-2.ensures in
    let last = decimal b.condition ++ [] in
    let end = codes " condition " ++ last in
    let middle = decimal b.rule ++ end in
    let front = codes " rule " ++ middle in
    condition
    ∙ ap (λ t. c.extend_from_slice-3.new.self.items ++ t) (sym (append-nil (decimal b.condition)))
    ∙ behind_piece c.extend_from_slice-3.new.self.items c.push_decimal-2.new.out.items (codes " condition ") last c.in_ok-extend_from_slice-3.ensures.items
    ∙ behind_piece c.push_decimal-2.new.out.items c.extend_from_slice-2.new.self.items (decimal b.rule) end rule
    ∙ behind_piece c.extend_from_slice-2.new.self.items c.push_decimal.new.out.items (codes " rule ") middle c.in_ok-extend_from_slice-2.ensures.items
    ∙ behind_piece c.push_decimal.new.out.items c.extend_from_slice.new.self.items (decimal b.line) front c.in_ok-push_decimal.ensures.ok
    ∙ behind_piece c.extend_from_slice.new.self.items c.args.out.now.items (codes "wrong line ") (decimal b.line ++ front) c.in_ok-extend_from_slice.ensures.items
