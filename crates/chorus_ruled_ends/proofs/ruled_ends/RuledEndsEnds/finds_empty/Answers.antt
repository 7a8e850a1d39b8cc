use Rattle.std.proofs.Common.{◌≡◌, ℕ, subst, arith}
use Rattle.chorus_io.specs.Count.{Rose}
use Rattle.chorus_ruled_ends.specs.Ruled.{Ruled, end_from, empties_by}
use Rattle.chorus_ruled_ends.proofs.ruled_ends.RuledEndsEnds.finds_empty.Goals as goal

pub returns-clause-empty : goal.returns-clause-empty
returns-clause-empty c =
    let now : Ruled = record { out = c.self.inside.out.items; into = c.finds_empty_from.new.into.items } in
    let e : c.from.result ≡ c.args.from = omega arith in
    λ is.
    subst (λ (n : ℕ). Rose (empties_by (end_from n c.args.self.now)) (empties_by (end_from n now))) e
    (subst (λ (r : Ruled). Rose (empties_by (end_from c.from.result r)) (empties_by (end_from c.from.result now))) c.self.view_is (c.finds_empty_from.ensures.empty is c.self.inside.out.items))
