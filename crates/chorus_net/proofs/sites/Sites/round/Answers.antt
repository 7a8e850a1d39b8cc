use Rattle.std.proofs.Common.{◌≡◌, ◌+◌, ◌-◌, ◌≤◌, ℕ, suc, Result, Ok, Err, sym, ◌∙◌, ap, subst, arith}
use Rattle.std.proofs.lemmas.Result.{MatchResult-from_err, err_from_is_err_and}
use Rattle.chorus_place.specs.declared.fault.PlaceFault.TheVariants as faults
use Rattle.chorus_ui.specs.Layout.{places}
use Rattle.law_network.specs.Network.{numbers, place_numbers, from_one, from_each}
use Rattle.chorus_net.specs.Drains.{Goes, GoesRound, StopsAmong, AnyCause, ComparesWorn, puts_forward}
use Rattle.chorus_net.specs.Room.{UsesRoom}
use Rattle.chorus_net.specs.Sites.{SitesState, net}
use Rattle.chorus_net.proofs.Deliveries.{fault-in}
use Rattle.chorus_net.proofs.Rooms.{uses-reverse}
use Rattle.chorus_net.proofs.Rounds.{round-stops, round-on, round-done, dry-round, uses-round}
use Rattle.chorus_net.proofs.sites.Sites.round.Goals as goal

pub returns-in_err-served-clause-stopped : goal.returns-in_err-served-clause-stopped
returns-in_err-served-clause-stopped c =
    let i = c.loop-from.invariant in
    let low = i.low in
    let t = c.loop-from-test.true in
    let v : c.places-count.result ≡ places c.args.self.now.layout = c.places-count.ensures.value ∙ ap (λ (z : SitesState). places z.layout) c.self.view_is in
    let is : c.loop-from.from ≡ 1 + (c.loop-from.from - 1) = omega (arith, low) in
    let le : c.loop-from.from ≤ places c.args.self.now.layout = omega (arith, t, v) in
    MatchResult-from_err c.from_residual.result _ _ c.from_residual.ensures.0 (λ _.
    let row : StopsAmong (from_one 0 c.loop-from.from (place_numbers c.args.self.now.layout)) AnyCause c.loop-from.self c.deliver_from.new.self =
    subst (λ l. StopsAmong (from_one 0 c.loop-from.from (place_numbers l)) AnyCause c.loop-from.self c.deliver_from.new.self) i.layout c.in_err-served.ensures.stopped in
    round-stops AnyCause (place_numbers c.args.self.now.layout) (c.loop-from.from - 1) c.loop-from.from (places c.args.self.now.layout) c.args.self.now c.loop-from.self c.deliver_from.new.self c.loop-from.served is le i.goes i.room row)

pub loop-from-preserved : goal.loop-from-preserved
loop-from-preserved c =
    let i = c.loop-from.invariant in
    let low = i.low in
    let t = c.loop-from-test.true in
    let b : c.loop-from.from ≡ 1 + (c.loop-from.from - 1) = omega (arith, low) in
    let e : suc (c.loop-from.from - 1) ≡ c.loop-from.from + 1 - 1 = omega (arith, low) in
    let row : Goes (from_one 0 c.loop-from.from (place_numbers c.args.self.now.layout)) (net c.loop-from.self) (net c.deliver_from.new.self) c.in_ok-served.field-0 =
    subst (λ l. Goes (from_one 0 c.loop-from.from (place_numbers l)) (net c.loop-from.self) (net c.deliver_from.new.self) c.in_ok-served.field-0) i.layout c.in_ok-served.ensures.ok in
    let used : UsesRoom (puts_forward (from_one 0 c.loop-from.from (place_numbers c.args.self.now.layout)) (net c.loop-from.self)) c.loop-from.self.places c.deliver_from.new.self.places =
    subst (λ l. UsesRoom (puts_forward (from_one 0 c.loop-from.from (place_numbers l)) (net c.loop-from.self)) c.loop-from.self.places c.deliver_from.new.self.places) i.layout c.in_ok-served.ensures.room in
    record {
      low = omega arith;
      high = omega (arith, t);
      goes = subst (λ k. Goes (from_each 0 (numbers k 1) (place_numbers c.args.self.now.layout)) (net c.args.self.now) (net c.deliver_from.new.self) (c.loop-from.served + c.in_ok-served.field-0)) e
          (round-on (place_numbers c.args.self.now.layout) (c.loop-from.from - 1) c.loop-from.from (net c.args.self.now) (net c.loop-from.self) (net c.deliver_from.new.self) c.loop-from.served c.in_ok-served.field-0 b i.goes row);
      room = subst (λ k. UsesRoom (puts_forward (from_each 0 (numbers k 1) (place_numbers c.args.self.now.layout)) (net c.args.self.now)) c.args.self.now.places c.deliver_from.new.self.places) e
          (uses-round (place_numbers c.args.self.now.layout) (c.loop-from.from - 1) c.loop-from.from c.loop-from.served c.args.self.now c.loop-from.self c.deliver_from.new.self b i.goes i.room used);
      layout = c.in_ok-served.ensures.layout ∙ i.layout;
      mark = c.in_ok-served.ensures.mark ∙ i.mark;
    }

pub returns-clause-ok : goal.returns-clause-ok
returns-clause-ok c =
    let i = c.loop-from.invariant in
    let high = i.high in
    let f = c.loop-from-test.false in
    let v : c.places-count.result ≡ places c.args.self.now.layout = c.places-count.ensures.value ∙ ap (λ (z : SitesState). places z.layout) c.self.view_is in
    let e : c.loop-from.from - 1 ≡ places c.args.self.now.layout = omega (arith, high, f, v) in
    round-done c.args.self.now.layout (net c.args.self.now) (net c.loop-from.self) c.loop-from.served
    (subst (λ k. Goes (from_each 0 (numbers k 1) (place_numbers c.args.self.now.layout)) (net c.args.self.now) (net c.loop-from.self) c.loop-from.served) e i.goes)

pub returns-clause-room : goal.returns-clause-room
returns-clause-room c =
    let i = c.loop-from.invariant in
    let high = i.high in
    let f = c.loop-from-test.false in
    let v : c.places-count.result ≡ places c.args.self.now.layout = c.places-count.ensures.value ∙ ap (λ (z : SitesState). places z.layout) c.self.view_is in
    let e : c.loop-from.from - 1 ≡ places c.args.self.now.layout = omega (arith, high, f, v) in
    uses-reverse (from_each 0 (place_numbers c.args.self.now.layout) (place_numbers c.args.self.now.layout)) (net c.args.self.now) c.args.self.now.places c.loop-from.self.places
    (subst (λ k. UsesRoom (puts_forward (from_each 0 (numbers k 1) (place_numbers c.args.self.now.layout)) (net c.args.self.now)) c.args.self.now.places c.loop-from.self.places) e i.room)

abbrev value-of : {E : Type 0} → Result ℕ E → ℕ
value-of (Ok n) = n
value-of (Err e) = 0

pub returns-clause-dry : goal.returns-clause-dry
returns-clause-dry c = λ ok.
    let s : SitesState = record { layout = c.self.inside.layout; mark = c.self.inside.mark; places = c.self.inside.places.items; callers = c.self.inside.callers.items } in
    let done = returns-clause-ok c in
    dry-round s (net c.loop-from.self) c.loop-from.served c.self.invariant
    (subst (λ (v : SitesState). GoesRound v.layout (net v) (net c.loop-from.self) c.loop-from.served) (sym c.self.view_is) done) (ap (λ r. value-of r) ok)

pub returns-in_err-served-clause-worn : goal.returns-in_err-served-clause-worn
returns-in_err-served-clause-worn c = λ clock e.
    let p = err_from_is_err_and c.from_residual.result c.from_residual.ensures.1 in
    let a = p.1 in
    let b = p.2 in
    let was = c.in_err-served.was in
    let w : c.deliver_from.result ≡ Err (faults.Worn clock) = was ∙ ap Err (sym b ∙ ap (λ z. fault-in z (faults.Worn clock)) (sym a ∙ e)) in
    let i = c.loop-from.invariant in
    let low = i.low in
    let t = c.loop-from-test.true in
    let v : c.places-count.result ≡ places c.args.self.now.layout = c.places-count.ensures.value ∙ ap (λ (z : SitesState). places z.layout) c.self.view_is in
    let is : c.loop-from.from ≡ 1 + (c.loop-from.from - 1) = omega (arith, low) in
    let le : c.loop-from.from ≤ places c.args.self.now.layout = omega (arith, t, v) in
    let row : StopsAmong (from_one 0 c.loop-from.from (place_numbers c.args.self.now.layout)) (ComparesWorn clock) c.loop-from.self c.deliver_from.new.self =
    subst (λ l. StopsAmong (from_one 0 c.loop-from.from (place_numbers l)) (ComparesWorn clock) c.loop-from.self c.deliver_from.new.self) i.layout (c.deliver_from.ensures.worn clock w) in
    round-stops (ComparesWorn clock) (place_numbers c.args.self.now.layout) (c.loop-from.from - 1) c.loop-from.from (places c.args.self.now.layout) c.args.self.now c.loop-from.self c.deliver_from.new.self c.loop-from.served is le i.goes i.room row
