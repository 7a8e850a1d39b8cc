use Rattle.std.proofs.Common.{refl}
use Rattle.chorus_explore.proofs.alike_sites.journals.have_same.Goals as goal

pub returns : goal.returns
returns c = λ e.
    record {
      named = (c.if-not-is_same_named.ensures refl);
      members_are = (c.if-not-are_same_members.ensures refl);
      rotates = c.is_same_rotation-turns.ensures e;
    }
