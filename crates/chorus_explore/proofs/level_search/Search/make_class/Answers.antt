use Rattle.std.proofs.Common.{◌++◌, ◌∷◌, [], refl, ◌∙◌, ap}
use Rattle.chorus_explore.specs.declared.level_search.Class.{Class}
use Rattle.chorus_explore.proofs.level_search.Search.make_class.Goals as goal

pub returns-clause-made : goal.returns-clause-made
returns-clause-made c =
    let class : Class = record { moves = c.in_ok-moves.moves; number = c.args.number; sum = c.args.sum } in
    record {
      class = class;
      is = c.push_reserved.ensures.items ∙ ap (λ ks. ks ++ class ∷ []) c.in_ok-reserve.ensures.items;
      moves_are = c.in_ok-moves.ensures.items ∙ c.deref.ensures.value;
      number_is = refl;
    }
