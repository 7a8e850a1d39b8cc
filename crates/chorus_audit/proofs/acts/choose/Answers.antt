use Rattle.std.proofs.Common.{sym, ◌∙◌, subst}
use Rattle.chorus_show.specs.Bounds.{AreNames}
use Rattle.chorus_show.proofs.Bounds.{are_names}
use Rattle.chorus_audit.proofs.acts.choose.Goals as goal

pub returns-clause-allowed : goal.returns-clause-allowed
returns-clause-allowed c =
    let allowed = c.in_ok-id.ensures.allowed in
    (allowed.0, allowed.1, subst AreNames (sym (c.in_ok-members.ensures ∙ c.deref.ensures.value)) (are_names c.in_ok-uis.uis.items c.in_ok-uis.ensures.allowed))
