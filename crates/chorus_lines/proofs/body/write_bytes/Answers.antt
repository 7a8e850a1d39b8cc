use Rattle.std.proofs.Common.{length}
use Rattle.chorus_lines.proofs.Hex.{decodes}
use Rattle.chorus_lines.proofs.body.write_bytes.Goals as goal

pub returns : goal.returns
returns c = (rw (decodes c.args.digits.now (length c.args.bytes.now) c.requires.hex c.requires.room) at c.decode_to_slice.ensures.value).1
