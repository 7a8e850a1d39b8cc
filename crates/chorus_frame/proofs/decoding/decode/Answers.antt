use Rattle.std.proofs.Common.{arith}
use Rattle.chorus_frame.proofs.PacketFormats.{is_ranged}
use Rattle.chorus_frame.proofs.decoding.decode.Goals as goal

pub returns-clause-ranges : goal.returns-clause-ranges
returns-clause-ranges c = is_ranged c.args.bytes.now c.whole.result (λ i. omega (arith, c.type_inv.bytes i)) c.whole.ensures
