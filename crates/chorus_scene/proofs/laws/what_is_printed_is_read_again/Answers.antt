use Rattle.chorus_scene.proofs.Law.{printed_again}
use Rattle.chorus_scene.proofs.laws.what_is_printed_is_read_again.Goals as goal

pub returns : goal.returns
returns c = printed_again
