use Rattle.std.proofs.Common.{rules, ◌≡◌, List, ap, ◌∙◌, sym, subst, arith}
use Rattle.std.specs.Slots.{slots_items, slots_counts}
use Rattle.atomic_table.specs.Table.{Final, Seen}
use Rattle.chorus_turn.specs.declared.view.View.{View}
use Rattle.chorus_turn.specs.Journals.{IsJournal}
use Rattle.chorus_turn.specs.Calls.{IsMarked}
use Rattle.chorus_turn.specs.Lists.{first_or}
use Rattle.chorus_turn.specs.Rule.{Turned, spent_view, view_of}
use Rattle.chorus_turn.proofs.Counts.{only_one}
use Rattle.chorus_turn.proofs.Closes.{full_at_close, finishes}
use Rattle.chorus_turn.proofs.turns.Turns.close.Goals as goal

pub unload-requires : goal.unload-requires
unload-requires g c = let p = c.args.pass in let made = p.counted in let ended = p.noted in let handed : List g.row.S.Denot = c.args.self.table.shared.key.value.items in
    let same : c.leave-left.new.seat.me.0 ≡ view_of c.args.pass.badge = ap (λ x. x.0) c.leave-left.ensures.2 ∙ sym (ap (first_or spent_view) c.into_seat-seat.ensures.2) in
    let ends = subst (λ (v : View g.row.S-Remark.Denot). Final (Seen (Turned (IsJournal g.S.Kept.entries g.S.Kept.fits) (IsMarked g.S.Kept.mark handed)) c.leave-left.new.seat.id v) (slots_items c.close_with.result.words) (slots_items c.close_with.result.slots)) same c.close_with.ensures.values.2 in record {
      full = (c.close_with.ensures.values.1, full_at_close g.S.Kept.entries g.S.Kept.fits g.S.Kept.mark handed _ _ _ _ ends p.rests c.requires.keeper (omega arith));
      room = search rules;
    }

pub returns-clause-ok : goal.returns-clause-ok
returns-clause-ok g c = let p = c.args.pass in let made = p.counted in let ended = p.noted in let handed : List g.row.S.Denot = c.args.self.table.shared.key.value.items in
    let same : c.leave-left.new.seat.me.0 ≡ view_of c.args.pass.badge = ap (λ x. x.0) c.leave-left.ensures.2 ∙ sym (ap (first_or spent_view) c.into_seat-seat.ensures.2) in
    let ends = subst (λ (v : View g.row.S-Remark.Denot). Final (Seen (Turned (IsJournal g.S.Kept.entries g.S.Kept.fits) (IsMarked g.S.Kept.mark handed)) c.leave-left.new.seat.id v) (slots_items c.close_with.result.words) (slots_items c.close_with.result.slots)) same c.close_with.ensures.values.2 in (
      (
        c.into_badge.ensures.0 ∙ c.leave-left.ensures.3 ∙ c.into_seat-seat.ensures.0 ∙ c.requires.pass,
        ap (λ l. (first_or spent_view l).knows) c.into_badge.ensures.2 ∙ ap (λ x. x.0.knows) c.leave-left.ensures.4 ∙ sym (ap (λ l. (first_or spent_view l).knows) c.into_seat-seat.ensures.2),
        omega arith,
      ),
      finishes g.S.Kept.entries g.S.Kept.fits g.S.Kept.mark handed _ _ _ _ _ ends p.rests c.requires.keeper (omega arith) c.unload.ensures (c.args.self.handed ∙ sym c.close_with.ensures.counts.1 ∙ (slots_counts c.close_with.result.slots).0),
    )

pub into_seat-seat-requires : goal.into_seat-seat-requires
into_seat-seat-requires g c = only_one c.args.pass.badge.views c.args.pass.one
