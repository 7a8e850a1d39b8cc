use Rattle.std.proofs.Common.{◌≡◌, [], ◌∷◌, ◌++◌, ap, ◌∙◌, map}
use mathlib.Core.Option.{some}
use Rattle.chorus_turn.proofs.room.Room.new.Goals as goal

pub new-requires : goal.new-requires
new-requires g c = let e : c.push.new.self.items ≡ c.args.list ∷ [] = c.in-Ok-push.ensures.items ∙ ap (λ l. l ++ c.args.list ∷ []) c.in-Ok.ensures.items in
    (c.args.list, ap (λ l. map (λ x. some x) l) e, c.requires.0, c.requires.1)
