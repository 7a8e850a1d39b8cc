use Rattle.std.proofs.Common.{ap, ◌∙◌, arith}
use Rattle.place_outbox.specs.Waiting.{with_last}
use Rattle.place_outbox.specs.Fronts.{with_fronts}
use Rattle.place_outbox.proofs.Fronts.{fronts-last}
use Rattle.place_outbox.proofs.Outboxes.{within, put-outbox}
use Rattle.place_outbox.proofs.outbox.Outbox.put.Goals as goal

pub put-requires-clause-place : goal.put-requires-clause-place
put-requires-clause-place c =
    let w = within _ _ _ c.args.place _ c.self.invariant (ap (λ v. v.lists) c.self.view_is) in
    let r = c.requires.place in
    let p = c.self.invariant.places in
    omega (arith, w, r, p)

pub invariant_of-self : goal.invariant_of-self
invariant_of-self c =
    let e = ap (λ v. v.puts) c.self.view_is in
    let r = c.requires.puts in
    put-outbox _ _ _ _ c.args.place c.args.packet c.self.invariant c.put.ensures.lists c.put.ensures.puts (omega (arith, e, r))

pub returns-clause-lists : goal.returns-clause-lists
returns-clause-lists c =
    ap (with_fronts c.self.inside.fronts.items) c.put.ensures.lists
    ∙ fronts-last c.self.inside.fronts.items c.self.inside.pool.lists c.args.place c.args.packet
    ∙ ap (λ v. with_last c.args.place c.args.packet v.lists) c.self.view_is
