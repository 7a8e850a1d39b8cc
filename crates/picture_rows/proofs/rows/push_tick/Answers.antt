use Rattle.std.proofs.Common.{◌-◌, ◌++◌, codes, decimal, ap, ◌∙◌}
use Rattle.picture_rows.specs.Edge.{tick_at, tick_end}
use Rattle.picture_texts.proofs.Pieces.{two}
use Rattle.picture_rows.proofs.rows.push_tick.Goals as goal

pub returns : goal.returns
unfolding tick_at
returns c =
    two c.args.out.now.items (codes "<path class='tick' d='M8 " ++ decimal (c.args.y - 9)) (tick_end c.args.edge.now.right)
    c.push_numbered.new.out.items c.extend_from_slice.new.self.items c.in_ok-push_numbered.ensures
    (c.in_ok-extend_from_slice.ensures.items
    ∙ ap (λ t. c.push_numbered.new.out.items ++ t) (c.deref.ensures.value ∙ c.requires.edge.tick))
