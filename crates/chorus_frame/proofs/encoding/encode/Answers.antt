use Rattle.std.proofs.lemmas.Result.{on_ok_weaker}
use Rattle.chorus_frame.proofs.PacketFormats.{whole-again}
use Rattle.chorus_frame.proofs.encoding.encode.Goals as goal

pub returns-else-is_err-clause-read : goal.returns-else-is_err-clause-read
returns-else-is_err-clause-read c =
    on_ok_weaker c.push_packet-written.result (λ held. whole-again c.args.packet.now held c.requires) c.push_packet-written.ensures.held
