use Rattle.std.proofs.Common.{refl}
use Rattle.chorus_explore.proofs.alike_sites.journals.tell_same.Goals as goal

pub returns : goal.returns
returns c = λ e.
    record {
      verdicts = (c.if-not-is_same_verdict_at.ensures refl);
      copies = c.in_ok-copies.ensures e;
      stale = (c.if-not-is_same_stale.ensures refl);
    }
