use Rattle.std.proofs.Common.{ℕ, ◌≡◌, ◌+◌, ◌++◌, slice_get, sym, ◌∙◌, ap, ap₂, arith, append_assoc}
use Rattle.std.specs.List.{flat_map}
use Rattle.std.specs.Option.{option_copied}
use Rattle.law_network.specs.Network.{numbers}
use Rattle.law_explore.specs.Moment.{caller_facts}
use Rattle.explore_report.specs.Facts.{outcome_lines}
use Rattle.explore_moments.proofs.More.{flat-numbers, lent-at}
use Rattle.explore_moments.proofs.callers.push_callers.Goals as goal

pub loop-index-preserved : goal.loop-index-preserved
loop-index-preserved c =
    let ws = c.args.callers.now in
    let i = c.loop-index.index in
    let f = λ (k : ℕ). outcome_lines (caller_facts k (slice_get c.args.callers.now k)) in
    let seat : c.from-seat.result + 1 ≡ 1 + c.loop-index.index = (let e = c.from-seat.ensures in omega (arith, e)) in
    let place : c.from.result + 1 ≡ 1 + c.loop-index.index = (let e = c.from.ensures in omega (arith, e)) in
    let there : option_copied c.get.result ≡ slice_get c.args.callers.now (1 + c.loop-index.index) =
    lent-at ws (c.from.result + 1) c.get.result c.get.ensures.lookup ∙ ap (λ (n : ℕ). slice_get c.args.callers.now n) place in
    c.in_ok-push_seat.ensures
    ∙ ap₂ (λ (k : ℕ) o. c.loop-index.text.items ++ outcome_lines (caller_facts k o)) seat there
    ∙ ap (λ xs. xs ++ f (1 + i)) c.loop-index.invariant
    ∙ append_assoc c.args.text.now.items (flat_map f (numbers i 1)) (f (1 + i))
    ∙ ap (λ ys. c.args.text.now.items ++ ys) (sym (flat-numbers f i 1))
