use Rattle.std.proofs.Common.{◌≡◌, Ok, Err, sym, ◌∙◌, ap, subst}
use Rattle.std.proofs.lemmas.Result.{MatchResult-from_err, err_from_is_err_and}
use Rattle.chorus_place.specs.declared.fault.PlaceFault.TheVariants as faults
use Rattle.law_network.specs.Network.{round, place_numbers, from_each}
use Rattle.chorus_net.specs.Drains.{GoesRound, StopsAmong, AnyCause, ComparesWorn}
use Rattle.chorus_net.specs.Room.{UsesRoom, puts_of}
use Rattle.chorus_net.specs.Sites.{net}
use Rattle.chorus_net.proofs.Deliveries.{fault-in}
use Rattle.chorus_net.proofs.Rounds.{rounds-stop, rounds-worn, drained, rounds-on, uses-rounds, used-in-rounds, used-to-a-stop}
use Rattle.chorus_net.proofs.sites.Sites.drain.Goals as goal

pub returns-in_err-more-clause-stopped : goal.returns-in_err-more-clause-stopped
returns-in_err-more-clause-stopped c =
    let i = c.loop-more.invariant in
    MatchResult-from_err c.from_residual.result _ _ c.from_residual.ensures.0 (λ _.
    let among : StopsAmong (from_each 0 (place_numbers c.args.self.now.layout) (place_numbers c.args.self.now.layout)) AnyCause c.loop-more.self c.round.new.self =
    subst (λ l. StopsAmong (from_each 0 (place_numbers l) (place_numbers l)) AnyCause c.loop-more.self c.round.new.self) i.layout c.in_err-more.ensures.stopped in
    rounds-stop AnyCause (net c.args.self.now) c.loop-more.self c.round.new.self c.loop-more.served i.goes among)

pub returns-in_err-more-clause-room : goal.returns-in_err-more-clause-room
returns-in_err-more-clause-room c =
    let i = c.loop-more.invariant in
    let among : StopsAmong (from_each 0 (place_numbers c.args.self.now.layout) (place_numbers c.args.self.now.layout)) AnyCause c.loop-more.self c.round.new.self =
    subst (λ l. StopsAmong (from_each 0 (place_numbers l) (place_numbers l)) AnyCause c.loop-more.self c.round.new.self) i.layout c.in_err-more.ensures.stopped in
    used-to-a-stop AnyCause c.args.self.now c.loop-more.self c.round.new.self i.room among

pub returns-then-more-eq0-clause-room : goal.returns-then-more-eq0-clause-room
returns-then-more-eq0-clause-room c =
    let i = c.loop-more.invariant in
    let r : GoesRound c.args.self.now.layout (net c.loop-more.self) (net c.round.new.self) c.in_ok-more.more =
    subst (λ l. GoesRound l (net c.loop-more.self) (net c.round.new.self) c.in_ok-more.more) i.layout c.in_ok-more.ensures.ok in
    let u : UsesRoom (puts_of (round c.args.self.now.layout 0) (net c.loop-more.self)) c.loop-more.self.places c.round.new.self.places =
    subst (λ l. UsesRoom (puts_of (round l 0) (net c.loop-more.self)) c.loop-more.self.places c.round.new.self.places) i.layout c.in_ok-more.ensures.room in
    used-in-rounds c.args.self.now c.round.new.self (uses-rounds c.args.self.now c.loop-more.self c.round.new.self c.in_ok-more.more i.layout i.room r u)

pub returns-then-more-eq0-clause-ok : goal.returns-then-more-eq0-clause-ok
returns-then-more-eq0-clause-ok c =
    let i = c.loop-more.invariant in
    let r : GoesRound c.args.self.now.layout (net c.loop-more.self) (net c.round.new.self) c.in_ok-more.more =
    subst (λ l. GoesRound l (net c.loop-more.self) (net c.round.new.self) c.in_ok-more.more) i.layout c.in_ok-more.ensures.ok in
    drained c.args.self.now.layout (net c.args.self.now) (net c.loop-more.self) (net c.round.new.self) c.loop-more.served c.in_ok-more.more i.goes r c.if-more-eq0.true
    (c.round.ensures.dry (c.in_ok-more.was ∙ ap Ok c.if-more-eq0.true))

pub loop-more-preserved : goal.loop-more-preserved
loop-more-preserved c =
    let i = c.loop-more.invariant in
    let r : GoesRound c.args.self.now.layout (net c.loop-more.self) (net c.round.new.self) c.in_ok-more.more =
    subst (λ l. GoesRound l (net c.loop-more.self) (net c.round.new.self) c.in_ok-more.more) i.layout c.in_ok-more.ensures.ok in
    let u : UsesRoom (puts_of (round c.args.self.now.layout 0) (net c.loop-more.self)) c.loop-more.self.places c.round.new.self.places =
    subst (λ l. UsesRoom (puts_of (round l 0) (net c.loop-more.self)) c.loop-more.self.places c.round.new.self.places) i.layout c.in_ok-more.ensures.room in
    record {
      goes = rounds-on c.args.self.now.layout (net c.args.self.now) (net c.loop-more.self) (net c.round.new.self) c.loop-more.served c.in_ok-more.more i.goes r;
      room = uses-rounds c.args.self.now c.loop-more.self c.round.new.self c.in_ok-more.more i.layout i.room r u;
      layout = c.in_ok-more.ensures.layout ∙ i.layout;
      mark = c.in_ok-more.ensures.mark ∙ i.mark;
    }

pub returns-in_err-more-clause-worn : goal.returns-in_err-more-clause-worn
returns-in_err-more-clause-worn c = λ clock e.
    let p = err_from_is_err_and c.from_residual.result c.from_residual.ensures.1 in
    let a = p.1 in
    let b = p.2 in
    let was = c.in_err-more.was in
    let w : c.round.result ≡ Err (faults.Worn clock) = was ∙ ap Err (sym b ∙ ap (λ z. fault-in z (faults.Worn clock)) (sym a ∙ e)) in
    let i = c.loop-more.invariant in
    let among : StopsAmong (from_each 0 (place_numbers c.args.self.now.layout) (place_numbers c.args.self.now.layout)) (ComparesWorn clock) c.loop-more.self c.round.new.self =
    subst (λ l. StopsAmong (from_each 0 (place_numbers l) (place_numbers l)) (ComparesWorn clock) c.loop-more.self c.round.new.self) i.layout (c.round.ensures.worn clock w) in
    rounds-worn (net c.args.self.now) c.loop-more.self c.round.new.self c.loop-more.served clock i.goes among
