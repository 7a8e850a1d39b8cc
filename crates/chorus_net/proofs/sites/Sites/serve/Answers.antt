use Rattle.std.proofs.Common.{◌≡◌, ◌≢◌, Ok, Err, sym, ◌∙◌, ap}
use Rattle.std.proofs.lemmas.Result.{MatchResult-from_err, err_from_is_err_and}
use Rattle.chorus_place.specs.declared.fault.PlaceFault.TheVariants as faults
use Rattle.law_network.specs.Calls.{compared_at}
use Rattle.law_network.specs.declared.delivery.Delivered.{Delivered}
use Rattle.law_network.specs.Network.{NetState, Deliver, happened, delivery}
use Rattle.chorus_net.specs.Drains.{Ticks, AnyCause, ComparesWorn}
use Rattle.chorus_net.specs.Sites.{net}
use Rattle.chorus_net.proofs.Deliveries.{fault-in}
use Rattle.chorus_net.proofs.Rooms.{kept-uses}
use Rattle.chorus_net.proofs.Rounds.{stops-here, serves-one, serves-none, uses-delivery, who-of}
use Rattle.chorus_net.proofs.Worn.{done-unworn}
use Rattle.chorus_net.proofs.sites.Sites.serve.Goals as goal

pub returns-in-Served-clause-ok : goal.returns-in-Served-clause-ok
returns-in-Served-clause-ok c =
    let n = net c.args.self.now in
    let m = net c.deliver.new.self in
    let is : net c.deliver.new.self ≡ happened (Deliver 0 c.args.from c.args.to) (net c.args.self.now) = c.in_ok-deliver.ensures.ok in
    let answer : Delivered.Served ≡ delivery c.args.from c.args.to (net c.args.self.now) = sym c.in-Served.is ∙ c.in_ok-deliver.ensures.answer in
    let ticks : Ticks (net c.args.self.now) (net c.deliver.new.self) = c.deliver.ensures.ticks (c.in_ok-deliver.was ∙ ap Ok c.in-Served.is) in
    let ne : c.args.from ≢ c.args.to = c.if-from-to.false in
    serves-one c.args.from c.args.to n m ne (who-of c.args.from c.args.to n m is ticks) is answer ticks
    (done-unworn c.deliver.result Delivered.Served (compared_at 0 c.args.from c.args.to (net c.args.self.now)) (c.in_ok-deliver.was ∙ ap Ok c.in-Served.is) c.deliver.ensures.worn)

pub returns-in-Nothing-clause-ok : goal.returns-in-Nothing-clause-ok
returns-in-Nothing-clause-ok c =
    let n = net c.args.self.now in
    let m = net c.deliver.new.self in
    let answer : Delivered.Nothing ≡ delivery c.args.from c.args.to (net c.args.self.now) = sym c.in-Nothing.is ∙ c.in_ok-deliver.ensures.answer in
    let ne : c.args.from ≢ c.args.to = c.if-from-to.false in
    serves-none c.args.from c.args.to n m ne c.in_ok-deliver.ensures.ok answer

pub returns-in-Served-clause-room : goal.returns-in-Served-clause-room
returns-in-Served-clause-room c = uses-delivery c.args.from c.args.to c.args.self.now c.deliver.new.self c.if-from-to.false c.in_ok-deliver.ensures.room

pub returns-in-Nothing-clause-room : goal.returns-in-Nothing-clause-room
returns-in-Nothing-clause-room c = uses-delivery c.args.from c.args.to c.args.self.now c.deliver.new.self c.if-from-to.false c.in_ok-deliver.ensures.room

pub returns-in_err-deliver-clause-stopped : goal.returns-in_err-deliver-clause-stopped
returns-in_err-deliver-clause-stopped c =
    MatchResult-from_err c.from_residual.result _ _ c.from_residual.ensures.0 (λ _.
    let same : net c.deliver.new.self ≡ net c.args.self.now = c.in_err-deliver.ensures.refused.same in
    let room = kept-uses c.args.self.now.places c.deliver.new.self.places (ap (λ (n : NetState). n.places) (sym same)) c.in_err-deliver.ensures.refused.room in
    stops-here AnyCause c.args.from c.args.to c.args.self.now c.deliver.new.self c.if-from-to.false same room tt)

pub returns-in_err-deliver-clause-worn : goal.returns-in_err-deliver-clause-worn
returns-in_err-deliver-clause-worn c = λ clock e.
    let p = err_from_is_err_and c.from_residual.result c.from_residual.ensures.1 in
    let a = p.1 in
    let b = p.2 in
    let was = c.in_err-deliver.was in
    let w : c.deliver.result ≡ Err (faults.Worn clock) = was ∙ ap Err (sym b ∙ ap (λ z. fault-in z (faults.Worn clock)) (sym a ∙ e)) in
    let both = (c.deliver.ensures.worn clock).0 w in
    let same : net c.deliver.new.self ≡ net c.args.self.now = c.in_err-deliver.ensures.refused.same in
    let room = kept-uses c.args.self.now.places c.deliver.new.self.places (ap (λ (n : NetState). n.places) (sym same)) c.in_err-deliver.ensures.refused.room in
    stops-here (ComparesWorn clock) c.args.from c.args.to c.args.self.now c.deliver.new.self c.if-from-to.false same room (ap (compared_at 0 c.args.from c.args.to) same ∙ both.1, both.0)
