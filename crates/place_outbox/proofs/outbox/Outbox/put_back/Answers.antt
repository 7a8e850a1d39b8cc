use Rattle.std.proofs.Common.{◌≡◌, ap, ◌∙◌, arith, get_or, set, Some, true, false}
use Rattle.place_outbox.specs.Waiting.{with_first, count}
use Rattle.place_outbox.specs.Fronts.{with_fronts, are_free}
use Rattle.place_outbox.proofs.Fronts.{free-front, front-put}
use Rattle.place_outbox.proofs.Outboxes.{back-outbox, waits}
use Rattle.place_outbox.proofs.outbox.Outbox.put_back.Goals as goal

pub overflow_add-self : goal.overflow_add-self
overflow_add-self c =
    let a = waits _ _ _ _ c.self.invariant (ap (λ v. v.lists) c.self.view_is) in
    let b = c.requires.fewer in
    let d = c.self.invariant.fits in
    let e = ap (λ v. v.puts) c.self.view_is in
    omega (arith, a, b, d, e)

pub invariant_of-self : goal.invariant_of-self
invariant_of-self c =
    let free : get_or (are_free c.self.inside.fronts.items) c.args.place false ≡ true = ap (λ v. get_or v.free c.args.place false) c.self.view_is ∙ c.requires.free in
    let f = free-front c.self.inside.fronts.items c.args.place free in
    let a : count (with_fronts c.self.inside.fronts.items c.self.inside.pool.lists) ≡ count c.args.self.now.lists = ap (λ v. count v.lists) c.self.view_is in
    let b = c.requires.fewer in
    let e = ap (λ v. v.puts) c.self.view_is in
    rw c.from.ensures (back-outbox c.self.inside.fronts.items c.self.inside.pool c.self.inside.back c.args.place c.args.packet c.self.invariant f.1 f.0 (omega (arith, a, b, e)))

pub returns-clause-lists : goal.returns-clause-lists
returns-clause-lists c =
    let free : get_or (are_free c.self.inside.fronts.items) c.args.place false ≡ true = ap (λ v. get_or v.free c.args.place false) c.self.view_is ∙ c.requires.free in
    let f = free-front c.self.inside.fronts.items c.args.place free in
    ap (λ p. with_fronts (set c.self.inside.fronts.items p (Some c.args.packet)) c.self.inside.pool.lists) c.from.ensures
    ∙ front-put c.self.inside.fronts.items c.self.inside.pool.lists c.args.place c.args.packet c.self.invariant.places f.0
    ∙ ap (λ v. with_first c.args.place c.args.packet v.lists) c.self.view_is
