use Rattle.std.proofs.Common.{refl}
use Rattle.chorus_explore.proofs.alike_sites.journals.agree.Goals as goal

pub returns : goal.returns
returns c = λ e.
    record {
      message = c.in_ok-message.ensures e;
      group = (c.if-not-agree_on_group.ensures refl);
      deleted = (c.if-not-agree_on_deleted.ensures refl);
    }
