use Rattle.std.proofs.Common.{◌≡◌, ◌≤◌, ℕ, ◌↔◌, IfOk, IsErrOf, refl, subst, ap}
use Rattle.std.proofs.lemmas.Result.{IfOk-weaker}
use Rattle.chorus_ui.specs.declared.limits.TheConstants.{CLOCK_LIMIT}
use Rattle.law_machine.specs.PlaceState.{greatest_clock}
use Rattle.law_machine.specs.PlaceMachine.{begun}
use Rattle.chorus_place.specs.Calls.{Place, state, Called}
use Rattle.chorus_place.specs.declared.fault.PlaceFault.TheVariants as PlaceFault
use Rattle.chorus_serve.specs.Desks.{DeskOf, seen}
use Rattle.chorus_serve.specs.Working.{Performs}
use Rattle.chorus_serve.proofs.Joining.{desk-called, performs}
use Rattle.chorus_serve.proofs.desk.Desk.act.Goals as goal

pub invariant_of-self : goal.invariant_of-self
invariant_of-self g c =
    desk-called c.act.result c.self.inside.place c.act.new.self (g.E.Ends.links c.self.inside.ends) c.args.command c.args.caller.now c.act.new.caller c.self.invariant
    c.act.ensures.called c.act.ensures.refused

pub returns-clause-performed : goal.returns-clause-performed
returns-clause-performed g c =
    let links = g.E.Ends.links in
    let packet = g.E.Ends.packet in
    let a = seen links packet (record { place = c.self.inside.place; ends = c.self.inside.ends; hand = c.self.inside.hand; last = c.self.inside.last; worked = c.self.inside.worked }) in
    let e = seen links packet (record { place = c.act.new.self; ends = c.self.inside.ends; hand = c.self.inside.hand; last = c.self.inside.last; worked = c.self.inside.worked }) in
    let w = c.args.caller.now in
    let v = c.act.new.caller in
    subst (λ (d : DeskOf _ _). IfOk c.act.result (λ r. Performs c.args.command r (seen links packet d) e w v)) c.self.view_is
    (IfOk-weaker c.act.result (λ r. Called a.place e.place w v c.args.command r) (λ r. Performs c.args.command r a e w v)
    (λ r. performs a e c.args.command r w v c.self.invariant refl) c.act.ensures.called)

pub returns-clause-worn : goal.returns-clause-worn
returns-clause-worn g c =
    subst
    (λ (q : Place). (clock : ℕ) → IsErrOf c.act.result (PlaceFault.Worn clock)
    ↔ ((CLOCK_LIMIT ≤ greatest_clock (begun (state q) c.args.caller.now)) × (clock ≡ greatest_clock (begun (state q) c.args.caller.now))))
    (ap (λ (d : DeskOf _ _). d.place) c.self.view_is) c.act.ensures.worn
