use Rattle.std.proofs.Common.{◌<◌, ◌≤◌, length, slice_get, ap, sym, ◌∙◌, arith}
use Rattle.slab.specs.Slab.{get}
use Rattle.place_outbox.specs.Waiting.{list_to, without_first}
use Rattle.place_outbox.specs.Chains.{no_chain}
use Rattle.place_outbox.proofs.Lists.{any-default, past-lists, empty-list, nothing-first}
use Rattle.place_outbox.proofs.Whole.{first-there, len-waiting}
use Rattle.place_outbox.proofs.Changes.{leaves, taken-list, take-lists, take-pool}
use Rattle.place_outbox.proofs.pool.Pool.take.Goals as goal

pub returns-then-place-len-clause-value : goal.returns-then-place-len-clause-value
returns-then-place-len-clause-value c =
    let l : length c.self.inside.chains.items ≤ c.args.place =
    let a = c.if-place-len.true in let b = c.len.ensures in let d = c.self.inside.chains.ok in omega (arith, a, b, d) in
    ap (λ l. slice_get l 0) (sym (past-lists (get c.self.inside.nodes) c.args.place c.self.inside.chains.items l))
    ∙ ap (λ v. slice_get (list_to c.args.place v.lists) 0) c.self.view_is

pub returns-then-place-len-clause-lists : goal.returns-then-place-len-clause-lists
returns-then-place-len-clause-lists c =
    let l : length c.self.inside.chains.items ≤ c.args.place =
    let a = c.if-place-len.true in let b = c.len.ensures in let d = c.self.inside.chains.ok in omega (arith, a, b, d) in
    nothing-first c.args.self.now.lists c.args.place
    (ap (λ v. list_to c.args.place v.lists) (sym c.self.view_is)
    ∙ past-lists (get c.self.inside.nodes) c.args.place c.self.inside.chains.items l)

pub returns-then-chain-eq0-clause-value : goal.returns-then-chain-eq0-clause-value
returns-then-chain-eq0-clause-value c =
    let l : c.args.place < length c.self.inside.chains.items =
    let a = c.if-place-len.false in let b = c.len.ensures in let d = c.self.inside.chains.ok in omega (arith, a, b, d) in
    let at = c.index-chain.ensures ∙ any-default c.self.inside.chains.items c.args.place c.index-chain.result.now no_chain l in
    ap (λ l. slice_get l 0) (sym (empty-list (get c.self.inside.nodes) c.args.place c.self.inside.chains.items _ at c.if-chain-eq0.true))
    ∙ ap (λ v. slice_get (list_to c.args.place v.lists) 0) c.self.view_is

pub returns-then-chain-eq0-clause-lists : goal.returns-then-chain-eq0-clause-lists
returns-then-chain-eq0-clause-lists c =
    let l : c.args.place < length c.self.inside.chains.items =
    let a = c.if-place-len.false in let b = c.len.ensures in let d = c.self.inside.chains.ok in omega (arith, a, b, d) in
    let at = c.index-chain.ensures ∙ any-default c.self.inside.chains.items c.args.place c.index-chain.result.now no_chain l in
    nothing-first c.args.self.now.lists c.args.place
    (ap (λ v. list_to c.args.place v.lists) (sym c.self.view_is)
    ∙ empty-list (get c.self.inside.nodes) c.args.place c.self.inside.chains.items _ at c.if-chain-eq0.true)

pub remove-packet-requires : goal.remove-packet-requires
remove-packet-requires c =
    let l : c.args.place < length c.self.inside.chains.items =
    let a = c.if-place-len.false in let b = c.len.ensures in let d = c.self.inside.chains.ok in omega (arith, a, b, d) in
    let at = c.index-chain.ensures ∙ any-default c.self.inside.chains.items c.args.place c.index-chain.result.now no_chain l in
    first-there _ _ _ _ c.args.place c.index-chain.result.now c.self.invariant at c.if-chain-eq0.false

pub overflow_sub-self : goal.overflow_sub-self
overflow_sub-self c =
    let l : c.args.place < length c.self.inside.chains.items =
    let a = c.if-place-len.false in let b = c.len.ensures in let d = c.self.inside.chains.ok in omega (arith, a, b, d) in
    let at = c.index-chain.ensures ∙ any-default c.self.inside.chains.items c.args.place c.index-chain.result.now no_chain l in
    let w = len-waiting _ _ _ _ c.args.place c.index-chain.result.now c.self.invariant at in
    let n = c.if-chain-eq0.false in
    omega (arith, w, n)

pub invariant_of-self : goal.invariant_of-self
invariant_of-self c =
    let l : c.args.place < length c.self.inside.chains.items =
    let a = c.if-place-len.false in let b = c.len.ensures in let d = c.self.inside.chains.ok in omega (arith, a, b, d) in
    let at = c.index-chain.ensures ∙ any-default c.self.inside.chains.items c.args.place c.index-chain.result.now no_chain l in
    let leaving = leaves c.self.inside.nodes _ c.remove-packet.result c.index-chain.result.now _ at c.remove-packet.ensures.value c.remove-packet.ensures.updates c.if-chain-eq0.false in
    take-pool _ _ _ _ _ c.args.place _ _ c.self.invariant leaving l

pub returns-clause-value : goal.returns-clause-value
returns-clause-value c =
    let l : c.args.place < length c.self.inside.chains.items =
    let a = c.if-place-len.false in let b = c.len.ensures in let d = c.self.inside.chains.ok in omega (arith, a, b, d) in
    let at = c.index-chain.ensures ∙ any-default c.self.inside.chains.items c.args.place c.index-chain.result.now no_chain l in
    let leaving = leaves c.self.inside.nodes _ c.remove-packet.result c.index-chain.result.now _ at c.remove-packet.ensures.value c.remove-packet.ensures.updates c.if-chain-eq0.false in
    ap (λ l. slice_get l 0) (sym (taken-list _ _ _ _ _ c.args.place _ _ c.self.invariant leaving))
    ∙ ap (λ v. slice_get (list_to c.args.place v.lists) 0) c.self.view_is

pub returns-clause-lists : goal.returns-clause-lists
returns-clause-lists c =
    let l : c.args.place < length c.self.inside.chains.items =
    let a = c.if-place-len.false in let b = c.len.ensures in let d = c.self.inside.chains.ok in omega (arith, a, b, d) in
    let at = c.index-chain.ensures ∙ any-default c.self.inside.chains.items c.args.place c.index-chain.result.now no_chain l in
    let leaving = leaves c.self.inside.nodes _ c.remove-packet.result c.index-chain.result.now _ at c.remove-packet.ensures.value c.remove-packet.ensures.updates c.if-chain-eq0.false in
    take-lists _ _ _ _ _ c.args.place _ _ c.self.invariant leaving
    ∙ ap (λ v. without_first c.args.place v.lists) c.self.view_is
