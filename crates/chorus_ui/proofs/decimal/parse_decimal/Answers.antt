use Rattle.chorus_ui.proofs.Decimals.{parsed_begun, parsed_some, parsed_none, not_parsed}
use Rattle.chorus_ui.proofs.decimal.parse_decimal.Goals as goal

pub returns-then-begins_decimal : goal.returns-then-begins_decimal
returns-then-begins_decimal c =
    let text = c.args.text.now in
    let value = parsed_begun text c.digits_value.result c.if-begins_decimal.ensures c.digits_value.ensures in
    record { value = value; some = parsed_some text _ value; none = parsed_none text _ value }

pub returns-else-begins_decimal : goal.returns-else-begins_decimal
returns-else-begins_decimal c =
    let text = c.args.text.now in
    let value = not_parsed text c.if-begins_decimal.ensures in
    record { value = value; some = tt; none = parsed_none text _ value }
