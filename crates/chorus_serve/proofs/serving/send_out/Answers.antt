use Rattle.std.proofs.Common.{ℕ, OnOk, subst}
use Rattle.chorus_serve.specs.Desks.{DeskOf}
use Rattle.chorus_serve.specs.Flows.{IsOther, EmptiesOrFull}
use Rattle.chorus_serve.proofs.Joining.{all-emptied}
use Rattle.chorus_serve.proofs.serving.send_out.Goals as goal

pub returns-clause-emptied : goal.returns-clause-emptied
returns-clause-emptied g c =
    subst
    (λ (d : DeskOf _ _). OnOk c.push_all.result ((p : ℕ) → IsOther d.place.layout d.place.number p
    → EmptiesOrFull p d.place.out.lists (g.E.Ends.links d.ends) (g.E.Ends.links c.push_all.new.ends)))
    c.desk.view_is
    (all-emptied c.push_all.result c.desk.inside.place c.push_all.new.place (g.E.Ends.links c.desk.inside.ends) (g.E.Ends.links c.push_all.new.ends) c.push_all.ensures.pushes
    c.push_all.ensures.emptied)
