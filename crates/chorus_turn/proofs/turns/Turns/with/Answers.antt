use Rattle.std.proofs.Common.{◌≡◌, ℕ, sym, ap, ◌∙◌, subst}
use Rattle.std.specs.Prelude.{IfOk}
use Rattle.chorus_turn.specs.declared.knowledge.Knowledge.{Knowledge}
use Rattle.chorus_turn.specs.Lists.{first_or}
use Rattle.chorus_turn.specs.Rule.{known_of, spent_view}
use Rattle.chorus_turn.specs.Passes.{handed}
use Rattle.chorus_turn.specs.Calls.{Worked}
use Rattle.chorus_turn.proofs.turns.Turns.with.Goals as goal

pub returns-clause-ok : goal.returns-clause-ok
returns-clause-ok g c = let Known : Type 0 = Knowledge g.row.S-Remark.Denot in let before = c.args.pass.now in
    let old : c.into_seat-seat.result.me.0.knows ≡ known_of before.badge = sym (ap (λ l. (first_or spent_view l).knows) (ap (λ b. b.views) (sym c.replace.ensures.value) ∙ c.into_seat-seat.ensures.2)) in
    let new : c.work-worked.new.seat.me.0.knows ≡ known_of c.into_badge.result = sym (ap (λ l. (first_or spent_view l).knows) c.into_badge.ensures.2) in
    subst (λ (z : ℕ × Known × Known). IfOk c.work-worked.result (λ out. Worked g.S.Kept.entries g.S.Kept.fits g.S.Kept.mark (handed c.args.self.now) (λ x y. g.J.Job.ran c.args.job.now x z.0 c.work-worked.new.job y out) (g.J.Job.notes c.args.job.now c.work-worked.new.job) c.args.place z.1 z.2))
    (λ i. (sym before.seated i, old i, new i)) c.work-worked.ensures.ok
