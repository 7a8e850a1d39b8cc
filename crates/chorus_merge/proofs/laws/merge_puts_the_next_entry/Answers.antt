use Rattle.chorus_merge.proofs.Next.{puts_next}
use Rattle.chorus_merge.proofs.laws.merge_puts_the_next_entry.Goals as goal

pub returns : goal.returns
returns c = puts_next
