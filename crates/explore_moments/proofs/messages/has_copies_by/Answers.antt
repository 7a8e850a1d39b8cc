use Rattle.std.proofs.Common.{◌==◌, List, length, not, sym, ◌∙◌, ap}
use Rattle.chorus_ui.specs.declared.ui.Ui.{Ui}
use Rattle.chorus_entry.specs.declared.act.Act.{Act}
use Rattle.chorus_world.specs.GroupLaws.{copies_by}
use Rattle.explore_moments.specs.Moments.{has_some}
use Rattle.explore_moments.proofs.More.{chosen-some}
use Rattle.explore_moments.proofs.messages.has_copies_by.Goals as goal

pub returns-then-eq : goal.returns-then-eq
returns-then-eq c =
    ap not (c.is_empty.ensures ∙ ap (λ (qs : List Ui). length qs == 0) c.uis.ensures.uis)
    ∙ chosen-some c.args.id c.in-Choose.chosen c.in-Choose.group c.in-Choose.members (sym c.eq.ensures ∙ c.if-eq.true)
    ∙ ap (λ (a : Act). has_some (copies_by c.args.id a)) (sym c.in-Choose.is)
