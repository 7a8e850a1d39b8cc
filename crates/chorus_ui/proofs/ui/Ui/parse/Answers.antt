use Rattle.std.proofs.Common.{◌≡◌, refl}
use Rattle.chorus_ui.specs.Text.{parse_name}
use Rattle.chorus_ui.proofs.Texts.{parsed_some, parsed_none}
use Rattle.chorus_ui.proofs.ui.Ui.parse.Goals as goal

pub returns : goal.returns
unfolding parse_name
returns c =
    let text = c.args.text.now in
    let name = c.of_parts.result in
    let value : name ≡ parse_name text = rw (c.of_parts.ensures, c.parse_decimal.ensures.value, c.with_text.ensures, c.parse_decimal-2.ensures.value, c.split_at_dot-2.ensures.before, c.split_at_dot-2.ensures.behind, c.split_at_dot.ensures.before, c.split_at_dot.ensures.behind) refl in
    record { value = value; some = parsed_some text name value; none = parsed_none text name value }
