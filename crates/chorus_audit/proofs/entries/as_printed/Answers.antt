use Rattle.std.proofs.Common.{◌≡◌, false, [], ◌∷◌, ◌++◌}
use Rattle.std.specs.Str.{bytes_eq}
use Rattle.chorus_show.specs.Lines.{entry_text}
use Rattle.chorus_audit.proofs.Back.{none_printed_by}
use Rattle.chorus_audit.proofs.entries.as_printed.Goals as goal

pub returns-else-printed-clause-none : goal.returns-else-printed-clause-none
returns-else-printed-clause-none c none =
    let a = c.in_ok-printed.ensures in
    let b = c.if-printed.false in
    let other : false ≡ bytes_eq (entry_text c.args.entry) (c.args.line.now ++ 10 ∷ []) = cc in
    none_printed_by c.args.line.now c.args.entry c.requires.read other
