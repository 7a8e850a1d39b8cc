use Rattle.std.proofs.Common.{◌≡◌, ap, ◌∙◌, arith, inl, inr}
use Rattle.slab.specs.Slab.{get}
use Rattle.place_outbox.specs.Waiting.{with_last}
use Rattle.place_outbox.specs.Chains.{lists_of, no_chain}
use Rattle.place_outbox.proofs.Lists.{any-default, within}
use Rattle.place_outbox.proofs.Whole.{last-there, len-waiting}
use Rattle.place_outbox.proofs.Changes.{joins, still-there, put-lists, put-pool}
use Rattle.place_outbox.proofs.pool.Pool.put.Goals as goal
use Rattle.place_outbox.proofs.pool.Pool.put.Goals.{then-chain-eq0, else-chain-eq0}

pub index_mut-requires : goal.index_mut-requires
index_mut-requires c =
    let l = within (get c.self.inside.nodes) c.self.inside.chains.items _ c.args.place c.from-place.result (ap (λ v. v.lists) c.self.view_is) c.requires.place c.from-place.ensures in
    let at = c.index-chain.ensures ∙ any-default c.self.inside.chains.items c.from-place.result c.index-chain.result.now no_chain l in
    still-there c.self.inside.nodes _ c.insert_reserved-key.result c.index-chain.result.now.last _ c.insert_reserved-key.ensures.was_vacant c.insert_reserved-key.ensures.updates
    (last-there _ _ _ _ c.from-place.result c.index-chain.result.now c.self.invariant at c.if-chain-eq0.false)

pub overflow_add-chain : goal.overflow_add-chain
overflow_add-chain c =
    let l = within (get c.self.inside.nodes) c.self.inside.chains.items _ c.args.place c.from-place.result (ap (λ v. v.lists) c.self.view_is) c.requires.place c.from-place.ensures in
    let at = c.index-chain.ensures ∙ any-default c.self.inside.chains.items c.from-place.result c.index-chain.result.now no_chain l in
    let len : c.if-chain-eq0.chain.len ≡ c.index-chain.result.now.len = elim c.if-chain-eq0.branch [
      | then-chain-eq0 w ↦ ap (λ t. t.len) w.chain-is
      | else-chain-eq0 w ↦ ap (λ t. t.len) w.chain-is
    ] in
    let few = len-waiting _ _ _ _ c.from-place.result c.index-chain.result.now c.self.invariant at in
    let most = c.self.invariant.at_most in
    let puts = ap (λ v. v.puts) c.self.view_is in
    let r = c.requires.puts in
    omega (arith, len, few, most, puts, r)

pub invariant_of-self : goal.invariant_of-self
invariant_of-self c =
    let l = within (get c.self.inside.nodes) c.self.inside.chains.items _ c.args.place c.from-place.result (ap (λ v. v.lists) c.self.view_is) c.requires.place c.from-place.ensures in
    let at = c.index-chain.ensures ∙ any-default c.self.inside.chains.items c.from-place.result c.index-chain.result.now no_chain l in
    let joined = joins c.self.inside.nodes c.insert_reserved-key.new.self c.if-chain-eq0.self-inside.nodes c.insert_reserved-key.result 0 c.args.packet
    c.index-chain.result.now _ c.if-chain-eq0.chain at c.insert_reserved-key.ensures.was_vacant c.insert_reserved-key.ensures.updates
    (last-there _ _ _ _ c.from-place.result c.index-chain.result.now c.self.invariant at)
    (elim c.if-chain-eq0.branch [
      | then-chain-eq0 w ↦ inl (w.if-chain-eq0.true, w.chain-is, ap (λ s. s.nodes) w.self-inside-is)
      | else-chain-eq0 w ↦
          inr (w.if-chain-eq0.false, w.chain-is, w.index_mut.result.now, w.index_mut.ensures.value, ap (λ s. s.nodes) w.self-inside-is)
    ]) in
    let kept : (c.if-chain-eq0.self-inside.chains ≡ c.self.inside.chains) × (c.if-chain-eq0.self-inside.puts ≡ c.self.inside.puts) × (c.if-chain-eq0.self-inside.waiting ≡ c.self.inside.waiting) =
    elim c.if-chain-eq0.branch [
      | then-chain-eq0 w ↦ (ap (λ s. s.chains) w.self-inside-is, ap (λ s. s.puts) w.self-inside-is, ap (λ s. s.waiting) w.self-inside-is)
      | else-chain-eq0 w ↦ (ap (λ s. s.chains) w.self-inside-is, ap (λ s. s.puts) w.self-inside-is, ap (λ s. s.waiting) w.self-inside-is)
    ] in
    rw (kept.0, kept.1, kept.2) (put-pool _ _ _ _ _ c.from-place.result c.insert_reserved-key.result c.args.packet _ c.self.invariant joined l)

pub returns-clause-lists : goal.returns-clause-lists
returns-clause-lists c =
    let l = within (get c.self.inside.nodes) c.self.inside.chains.items _ c.args.place c.from-place.result (ap (λ v. v.lists) c.self.view_is) c.requires.place c.from-place.ensures in
    let at = c.index-chain.ensures ∙ any-default c.self.inside.chains.items c.from-place.result c.index-chain.result.now no_chain l in
    let joined = joins c.self.inside.nodes c.insert_reserved-key.new.self c.if-chain-eq0.self-inside.nodes c.insert_reserved-key.result 0 c.args.packet
    c.index-chain.result.now _ c.if-chain-eq0.chain at c.insert_reserved-key.ensures.was_vacant c.insert_reserved-key.ensures.updates
    (last-there _ _ _ _ c.from-place.result c.index-chain.result.now c.self.invariant at)
    (elim c.if-chain-eq0.branch [
      | then-chain-eq0 w ↦ inl (w.if-chain-eq0.true, w.chain-is, ap (λ s. s.nodes) w.self-inside-is)
      | else-chain-eq0 w ↦
          inr (w.if-chain-eq0.false, w.chain-is, w.index_mut.result.now, w.index_mut.ensures.value, ap (λ s. s.nodes) w.self-inside-is)
    ]) in
    let chains : c.if-chain-eq0.self-inside.chains ≡ c.self.inside.chains = elim c.if-chain-eq0.branch [
      | then-chain-eq0 w ↦ ap (λ s. s.chains) w.self-inside-is
      | else-chain-eq0 w ↦ ap (λ s. s.chains) w.self-inside-is
    ] in
    rw chains
    (put-lists _ _ _ _ _ c.from-place.result c.insert_reserved-key.result c.args.packet _ c.self.invariant joined
    ∙ ap (λ x. with_last x c.args.packet (lists_of (get c.self.inside.nodes) c.self.inside.chains.items)) c.from-place.ensures
    ∙ ap (λ v. with_last c.args.place c.args.packet v.lists) c.self.view_is)
