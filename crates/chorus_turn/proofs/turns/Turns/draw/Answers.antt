use Rattle.std.proofs.Common.{rules, ℕ, ◌+◌, ap, ◌∙◌, sym}
use Rattle.chorus_turn.specs.Journals.{IsJournal}
use Rattle.chorus_turn.specs.Calls.{IsMarked}
use Rattle.chorus_turn.proofs.Draws.{draws}
use Rattle.chorus_turn.proofs.Splits.{splits}
use Rattle.chorus_turn.proofs.turns.Turns.draw.Goals as goal

pub swap-requires : goal.swap-requires
swap-requires g c = let m = c.requires.made in (
  c.requires.table,
  search rules,
  draws (IsJournal g.S.Kept.entries g.S.Kept.fits) (IsMarked g.S.Kept.mark c.args.self.now.table.shared.key.value.items) _ _ _ _ c.requires.seat.1 c.requires.keeper (ap (λ (n : ℕ). n + 1) (sym m.0)) (search rules),
)

pub split_seat-requires : goal.split_seat-requires
split_seat-requires g c = let rest = c.requires.seat.1 in let m = c.swap.ensures.2 in (
  search rules,
  search rules,
  splits (IsJournal g.S.Kept.entries g.S.Kept.fits) (IsMarked g.S.Kept.mark c.args.self.now.table.shared.key.value.items) _ _ _ (ap (λ x. x.0.live) m ∙ rest.0) (ap (λ x. x.0.holding) m ∙ rest.1) (ap (λ x. x.0.drawn) m),
)
