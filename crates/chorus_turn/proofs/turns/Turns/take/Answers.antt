use Rattle.std.proofs.Common.{rules, ℕ, List, sym, subst, eqb, arith}
use mathlib.Core.Option.{none}
use prog.Atomic.{either}
use Rattle.atomic_table.specs.Table.{step, Allows}
use Rattle.chorus_turn.specs.Journals.{IsJournal}
use Rattle.chorus_turn.specs.Calls.{IsMarked}
use Rattle.chorus_turn.specs.Rule.{Turned, TakesOver, take_then}
use Rattle.chorus_turn.proofs.Takes.{takes_at}
use Rattle.chorus_turn.proofs.turns.Turns.take.Goals as goal

pub compare_exchange-requires : goal.compare_exchange-requires
compare_exchange-requires g c = let handed : List g.row.S.Denot = c.args.self.now.table.shared.key.value.items in let slots : ℕ = c.args.self.now.table.shared.table_id.slots in let size = c.args.self.now.handed in
    let journal = IsJournal g.S.Kept.entries g.S.Kept.fits in (
      c.requires.table,
      search rules,
      subst (λ (o : List g.row.S.Denot × ℕ). Allows (Turned journal (IsMarked g.S.Kept.mark handed)) slots c.args.seat.now.id c.args.seat.now.me o.1 (λ n. either (eqb n 0) c.args.own n) (take_then journal (IsMarked g.S.Kept.mark o.0) (step slots o.1 0 c.args.own none) c.args.seat.now.me))
          (λ i. (sym c.requires.origin i, sym c.word_of.ensures i)) (takes_at journal (IsMarked g.S.Kept.mark handed) slots _ _ _ _ c.requires.seat.0 c.requires.seat.1 c.requires.number c.requires.place.0 (omega (arith, c.requires.place.1))),
    )

pub returns-clause-free : goal.returns-clause-free
returns-clause-free g c = λ free. subst (λ (o : List g.row.S.Denot). TakesOver (IsJournal g.S.Kept.entries g.S.Kept.fits) (IsMarked g.S.Kept.mark o) c.args.place c.args.seat.now.me.0 c.compare_exchange.new.seat.me)
    c.requires.origin ((c.compare_exchange.ensures.2 c.args.place c.word_of.ensures).0 free)

pub returns-clause-held : goal.returns-clause-held
returns-clause-held g c = (c.compare_exchange.ensures.2 c.args.place c.word_of.ensures).1
