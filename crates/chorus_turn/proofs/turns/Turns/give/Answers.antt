use Rattle.std.proofs.Common.{rules, ℕ, sym, subst, arith}
use mathlib.Core.Option.{none}
use Rattle.atomic_table.specs.Table.{step, Allows}
use Rattle.chorus_turn.specs.Journals.{IsJournal}
use Rattle.chorus_turn.specs.Calls.{IsMarked}
use Rattle.chorus_turn.specs.Rule.{Turned, give_then}
use Rattle.chorus_turn.proofs.Gives.{gives_at}
use Rattle.chorus_turn.proofs.turns.Turns.give.Goals as goal

pub store-requires : goal.store-requires
store-requires g c = let p = c.requires.seat in let s = c.requires.state in let size = c.args.self.now.handed in let slots : ℕ = c.args.self.now.table.shared.table_id.slots in
    let journal = IsJournal g.S.Kept.entries g.S.Kept.fits in let marked = IsMarked g.S.Kept.mark c.args.self.now.table.shared.key.value.items in (
      c.requires.table,
      search rules,
      subst (λ (w : ℕ). Allows (Turned journal marked) slots c.args.seat.now.id c.args.seat.now.me w (λ _. 0) (λ _. give_then journal g.X.Noting.notes (step slots w 0 0 none) c.args.seat.now.me 0))
          (sym c.word_of.ensures) (gives_at journal marked g.X.Noting.notes _ _ _ _ s.0 s.1 s.2 p.0 p.1 c.requires.place.0 (omega (arith, c.requires.place.1)) s.3 s.4 s.5 s.6),
    )
