use Rattle.std.proofs.Common.{◌≡◌, ℕ, ◌++◌, List, sym, ap, ◌∙◌, subst}
use Rattle.chorus_turn.specs.declared.knowledge.Remarked.{Remarked}
use Rattle.chorus_turn.specs.Journals.{IsBy, IsJournal}
use Rattle.chorus_turn.specs.Rule.{holding_view}
use Rattle.chorus_turn.proofs.Parts.{news_by}
use Rattle.chorus_turn.proofs.turns.Turns.work.Goals as goal

pub give-requires-clause-state : goal.give-requires-clause-state
give-requires-clause-state g c = let t = c.take-found.ensures.free c.if-found-ne0.false in let mark = t.4 in
    let ran = c.run-out.ensures.ran t.0 (ap (λ x. x.1) t.2) in
    let more = ran.2.goes_on t.1 t.3 in
    let now : c.run-out.new.seat.me.0 ≡ holding_view c.args.place t.1 c.args.seat.now.me.0 = ap (λ x. x.0) ran.1 ∙ ap (λ x. x.0) t.2 in
    let number : c.run-out.new.seat.me.0.knows.seat ≡ c.args.number = ap (λ x. x.knows.seat) now ∙ c.requires.seat.2 in (
      ran.0,
      more.0,
      ap (λ x. x.1) ran.1,
      subst (λ (n : ℕ). IsBy n more.0) (sym number) (news_by c.args.number t.1 more.0 (g.S.Kept.entries t.0) (g.S.Kept.entries ran.0) ran.2.grows t.3.0 more.1.0),
      subst (λ (l : List (Remarked g.row.S-Remark.Denot)). IsJournal g.S.Kept.entries g.S.Kept.fits ran.0 (l ++ more.0)) (sym (ap (λ x. x.took) now)) more.1,
      subst (λ (j : g.row.J.Denot). g.J.Job.notes j c.run-out.new.job more.0) (sym c.of-before.ensures) more.2,
      (mark.0, mark.1, ran.2.marked ∙ mark.2),
    )
