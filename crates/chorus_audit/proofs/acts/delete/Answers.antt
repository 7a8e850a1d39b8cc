use Rattle.std.proofs.Common.{sym, ◌∙◌, subst}
use Rattle.chorus_show.specs.Bounds.{AreIds}
use Rattle.chorus_show.proofs.Bounds.{are_ids}
use Rattle.chorus_audit.proofs.acts.delete.Goals as goal

pub returns-clause-allowed : goal.returns-clause-allowed
returns-clause-allowed c =
    (c.in_ok-port.ensures.allowed, subst AreIds (sym (c.in_ok-discarded.ensures ∙ c.deref.ensures.value)) (are_ids c.in_ok-ids.ids.items c.in_ok-ids.ensures.allowed))
