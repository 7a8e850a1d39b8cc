use Rattle.std.proofs.Common.{◌≡◌, ◌+◌, ◌-◌, ◌*◌, ◌++◌, OnOk, ap, sym, ◌∙◌, subst, append_assoc, arith}
use Rattle.chorus_picture.specs.Sheet.{band, bands_from}
use Rattle.chorus_picture.proofs.Heads.{bands_more}
use Rattle.chorus_picture.proofs.sheet.+push_bands_from.Goals as goal

pub returns : goal.returns
returns t c =
    let out = c.args.out.now.items in
    let one_band = band c.args.width (616 * c.args.first) in
    let rest = bands_from c.args.width (c.args.more - 1) (c.args.first + 1) in
    let one : c.push_band.new.out.items ≡ out ++ one_band = cc (c.in_ok-push_band.ensures, c.from.ensures) in
    let whole : c.push_band.new.out.items ++ rest ≡ out ++ bands_from c.args.width c.args.more c.args.first =
    ap (λ text. text ++ rest) one ∙ append_assoc out one_band rest
    ∙ ap (λ text. out ++ text) (sym (bands_more c.args.width c.args.more c.args.first (omega arith))) in
    subst (λ text. OnOk c.push_bands_from.result (c.push_bands_from.new.out.items ≡ text)) whole c.push_bands_from.ensures
