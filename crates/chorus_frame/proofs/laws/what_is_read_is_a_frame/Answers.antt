use Rattle.chorus_frame.proofs.PacketFormats.{whole-takes}
use Rattle.chorus_frame.proofs.laws.what_is_read_is_a_frame.Goals as goal

pub returns-clause-frame : goal.returns-clause-frame
returns-clause-frame c = λ bytes packet are read. (whole-takes bytes packet are read).0

pub returns-clause-ranges : goal.returns-clause-ranges
returns-clause-ranges c = λ bytes packet are read. (whole-takes bytes packet are read).2

pub returns-clause-held : goal.returns-clause-held
returns-clause-held c = λ bytes packet are read. (whole-takes bytes packet are read).1
