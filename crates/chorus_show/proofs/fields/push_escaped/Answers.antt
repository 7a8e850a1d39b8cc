use Rattle.std.proofs.Common.{arith}
use Rattle.std.proofs.lemmas.List.Elements.{All-from_get_or}
use Rattle.chorus_show.specs.Bounds.{Is8}
use Rattle.chorus_show.proofs.Bounds.{are_bytes}
use Rattle.chorus_show.proofs.fields.push_escaped.Goals as goal

pub returns-clause-fits : goal.returns-clause-fits
returns-clause-fits c =
    let bytes = c.args.bytes.now in
    are_bytes bytes (All-from_get_or Is8 bytes 0 (λ i within. omega (arith, c.type_inv.bytes i)))
