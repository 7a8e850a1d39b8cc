use Rattle.std.proofs.Common.{ℕ, ◌≡◌, ◌+◌, ◌++◌, sym, ◌∙◌, ap, arith, append_assoc}
use Rattle.std.specs.List.{flat_map}
use Rattle.chorus_world.specs.Groups.{groups_made, members}
use Rattle.chorus_place.specs.Calls.{Place, state}
use Rattle.law_network.specs.Network.{numbers}
use Rattle.law_explore.specs.Moment.{group_at}
use Rattle.law_explore.specs.Outcome.{Members}
use Rattle.explore_report.specs.Facts.{fact_line}
use Rattle.explore_moments.proofs.More.{flat-numbers, group-lines}
use Rattle.explore_moments.proofs.groups.push_at.Goals as goal

pub loop-index-preserved : goal.loop-index-preserved
loop-index-preserved c =
    let i = c.loop-index.index in
    let f = λ (n : ℕ). fact_line (Members (group_at (state c.args.place.now) n) (members (group_at (state c.args.place.now) n) c.args.place.now.journal)) in
    let next : c.loop-index.index + 1 ≡ 1 + c.loop-index.index = omega arith in
    c.in_ok-push_group.ensures
    ∙ ap (λ (n : ℕ). c.loop-index.text.items ++ f n) next
    ∙ ap (λ xs. xs ++ f (1 + i)) c.loop-index.invariant
    ∙ append_assoc c.args.text.now.items (flat_map f (numbers i 1)) (f (1 + i))
    ∙ ap (λ ys. c.args.text.now.items ++ ys) (sym (flat-numbers f i 1))

pub returns : goal.returns
returns c =
    let all : c.loop-index.index ≡ groups_made c.args.place.now.journal =
    (let end = c.loop-index-test.false in
    let most = c.loop-index.auto.index-end in
    let n = c.made-index-end.ensures ∙ c.groups.ensures.made ∙ ap (λ (p : Place). groups_made p.journal) c.tables.ensures in
    omega (arith, end, most, n)) in
    c.loop-index.invariant ∙ ap (λ ys. c.args.text.now.items ++ ys) (group-lines (state c.args.place.now) c.loop-index.index all)
