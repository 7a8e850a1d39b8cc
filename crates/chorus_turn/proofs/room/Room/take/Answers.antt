use Rattle.std.proofs.Common.{◌≡◌, ◌≤◌, ap, ◌∙◌, sym, subst}
use mathlib.Core.Option.{some-injective}
use lib.ListN.{get_elem?}
use Rattle.std.specs.Vec.{vec_len, vec_capacity}
use Rattle.chorus_turn.proofs.room.Room.take.Goals as goal

pub returns : goal.returns
returns g c = let last = c.close-closed.ensures.values.2 in let kept = last.1 in
    let same : kept.0 ≡ c.take-list.result = some-injective _ _ (sym (last.4 0 kept.0 (ap (λ l. get_elem? l 0) kept.1)) ∙ c.take-list.ensures.value) in
    subst (λ v. (vec_len v ≡ 0) × (c.args.self.table.shared.key ≤ vec_capacity v)) same (kept.2, kept.3)
