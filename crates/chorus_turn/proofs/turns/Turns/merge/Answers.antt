use Rattle.std.proofs.Common.{rules, ◌≡◌, ℕ, List, length, ap, ◌∙◌, sym, subst}
use Rattle.chorus_turn.specs.declared.knowledge.Remarked.{Remarked}
use Rattle.chorus_turn.specs.Lists.{StartsWith, list_at, all_longer}
use Rattle.chorus_turn.specs.Journals.{IsJournal}
use Rattle.chorus_turn.specs.Calls.{IsMarked}
use Rattle.chorus_turn.proofs.Draws.{counts}
use Rattle.chorus_turn.proofs.Joins.{joins}
use Rattle.chorus_turn.proofs.turns.Turns.merge.Goals as goal

pub join_seat-requires : goal.join_seat-requires
join_seat-requires g c = let p = c.requires.seat in let q = c.requires.other in (
  c.requires.table.0,
  c.requires.table.1,
  q.0,
  search rules,
  joins (IsJournal g.S.Kept.entries g.S.Kept.fits) (IsMarked g.S.Kept.mark c.args.self.now.table.shared.key.value.items) _ _ _ _ p.1 q.1,
)

pub load-requires : goal.load-requires
load-requires g c = let p = c.requires.seat in let m = c.join_seat.ensures.2 in (
  search rules,
  search rules,
  counts (IsJournal g.S.Kept.entries g.S.Kept.fits) (IsMarked g.S.Kept.mark c.args.self.now.table.shared.key.value.items) _ _ _ (ap (λ x. x.1) m ∙ p.0)
      (ap (λ x. x.0.live) m ∙ p.1.0, ap (λ x. x.0.holding) m ∙ p.1.1, ap (λ x. length x.0.drawn) m ∙ p.1.2),
)

pub returns-clause-sees : goal.returns-clause-sees
returns-clause-sees g c = let m = c.join_seat.ensures.2 in let l = c.load.ensures.2 in let Row : Type 0 = List (List (Remarked g.row.S-Remark.Denot)) in
    let seen : c.join_seat.new.seat.me.0.knows.seen ≡ all_longer c.args.seat.now.me.0.knows.seen c.args.other.me.0.knows.seen = ap (λ x. x.0.knows.seen) m in
    let former : c.join_seat.new.seat.me.0.former ≡ c.args.seat.now.me.0.knows.seen = ap (λ x. x.0.former) m in
    let heard : c.join_seat.new.seat.me.0.heard ≡ c.args.other.me.0.knows.seen = ap (λ x. x.0.heard) m in
    let now : c.join_seat.new.seat.me.0.knows.seen ≡ c.load.new.seat.me.0.knows.seen = sym (ap (λ x. x.0.knows.seen) l.0) in
    subst (λ (z : Row × Row × Row). (p : ℕ) → StartsWith (list_at p z.0) (list_at p z.1) × StartsWith (list_at p z.0) (list_at p z.2)) (λ i. (now i, former i, heard i)) (l.2 (seen ∙ (λ i. all_longer (sym former i) (sym heard i))))
