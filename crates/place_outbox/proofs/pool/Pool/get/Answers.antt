use Rattle.std.proofs.Common.{refl, ◌≡◌, IsSome, subst, ap, sym, ◌∙◌, add-one, arith, slice_get}
use Rattle.slab.specs.Slab.{get}
use Rattle.place_outbox.specs.Waiting.{list_to}
use Rattle.place_outbox.specs.Chains.{packet_of, next_of, no_chain, chain_of, key_at}
use Rattle.place_outbox.proofs.Lists.{within, any-default}
use Rattle.place_outbox.proofs.Whole.{within-chain, past-chain}
use Rattle.place_outbox.proofs.pool.Pool.get.Goals as goal

pub returns-then-at-chain : goal.returns-then-at-chain
returns-then-at-chain c =
    let l = within (get c.self.inside.nodes) c.self.inside.chains.items _ c.args.place c.args.place (ap (λ v. v.lists) c.self.view_is) c.requires refl in
    let at = c.index-chain.ensures ∙ any-default c.self.inside.chains.items c.args.place c.index-chain.result.now no_chain l in
    let len : c.index-chain.result.now.len ≡ (chain_of c.self.inside.chains.items c.args.place).len = ap (λ t. t.len) at in
    let b = c.if-at-chain.true in
    sym (past-chain _ c.self.inside.chains.items _ _ c.args.place c.args.at c.self.invariant (omega (arith, len, b)))
    ∙ ap (λ v. slice_get (list_to c.args.place v.lists) c.args.at) c.self.view_is

pub loop-step-init : goal.loop-step-init
loop-step-init c =
    let l = within (get c.self.inside.nodes) c.self.inside.chains.items _ c.args.place c.args.place (ap (λ v. v.lists) c.self.view_is) c.requires refl in
    let at = c.index-chain.ensures ∙ any-default c.self.inside.chains.items c.args.place c.index-chain.result.now no_chain l in
    ap (λ t. t.first) at

pub index-requires : goal.index-requires
index-requires c =
    let l = within (get c.self.inside.nodes) c.self.inside.chains.items _ c.args.place c.args.place (ap (λ v. v.lists) c.self.view_is) c.requires refl in
    let at = c.index-chain.ensures ∙ any-default c.self.inside.chains.items c.args.place c.index-chain.result.now no_chain l in
    let len : c.index-chain.result.now.len ≡ (chain_of c.self.inside.chains.items c.args.place).len = ap (λ t. t.len) at in
    let b = c.if-at-chain.false in
    let t = c.loop-step-test.true in
    subst (λ k. IsSome (get c.self.inside.nodes k)) (sym c.loop-step.invariant)
    (c.self.invariant.filled c.args.place c.loop-step._step (omega (arith, len, b, t)))

pub loop-step-preserved : goal.loop-step-preserved
loop-step-preserved c =
    ap next_of (sym c.index.ensures ∙ ap (get c.self.inside.nodes) c.loop-step.invariant)
    ∙ ap (key_at (get c.self.inside.nodes) c.self.inside.chains.items c.args.place) (sym (add-one c.loop-step._step))

pub index-requires-2 : goal.index-requires-2
index-requires-2 c =
    let l = within (get c.self.inside.nodes) c.self.inside.chains.items _ c.args.place c.args.place (ap (λ v. v.lists) c.self.view_is) c.requires refl in
    let at = c.index-chain.ensures ∙ any-default c.self.inside.chains.items c.args.place c.index-chain.result.now no_chain l in
    let len : c.index-chain.result.now.len ≡ (chain_of c.self.inside.chains.items c.args.place).len = ap (λ t. t.len) at in
    let b = c.if-at-chain.false in
    let e = c.loop-step.auto._step-end in
    subst (λ k. IsSome (get c.self.inside.nodes k)) (sym c.loop-step.invariant)
    (c.self.invariant.filled c.args.place c.loop-step._step (omega (arith, len, b, e)))

pub returns : goal.returns
returns c =
    let l = within (get c.self.inside.nodes) c.self.inside.chains.items _ c.args.place c.args.place (ap (λ v. v.lists) c.self.view_is) c.requires refl in
    let at = c.index-chain.ensures ∙ any-default c.self.inside.chains.items c.args.place c.index-chain.result.now no_chain l in
    let len : c.index-chain.result.now.len ≡ (chain_of c.self.inside.chains.items c.args.place).len = ap (λ t. t.len) at in
    let b = c.if-at-chain.false in
    let e = c.loop-step.auto._step-end in
    let f = c.loop-step-test.false in
    let step : c.loop-step._step ≡ c.args.at = omega (arith, e, f) in
    ap packet_of (sym c.index-2.ensures ∙ ap (get c.self.inside.nodes) c.loop-step.invariant)
    ∙ ap (λ i. packet_of (get c.self.inside.nodes (key_at (get c.self.inside.nodes) c.self.inside.chains.items c.args.place i))) step
    ∙ sym (within-chain _ c.self.inside.chains.items _ _ c.args.place c.args.at c.self.invariant (omega (arith, len, b)))
    ∙ ap (λ v. slice_get (list_to c.args.place v.lists) c.args.at) c.self.view_is
