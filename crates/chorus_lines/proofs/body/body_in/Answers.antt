use Rattle.chorus_lines.proofs.Hex.{digits_small}
use Rattle.chorus_lines.proofs.body.body_in.Goals as goal

pub hex_body-requires-clause-small : goal.hex_body-requires-clause-small
hex_body-requires-clause-small c = digits_small c.args.text.now c.in-len1-up.len_at_least c.requires.body c.requires.small
