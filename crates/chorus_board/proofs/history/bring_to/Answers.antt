use Rattle.std.proofs.Common.{sym, ◌∙◌, ap, subst}
use mathlib.Core.List.{IsPrefix}
use Rattle.chorus_board.specs.declared.history.Stage.{Stage}
use Rattle.logbook.specs.Pages.{nib, may_write}
use Rattle.chorus_board.specs.Law.{last_stage, entries_in}
use Rattle.chorus_board.proofs.Stages.{last-more, extends-moves}
use Rattle.chorus_board.proofs.history.bring_to.Goals as goal

pub compare_exchange-requires : goal.compare_exchange-requires
compare_exchange-requires g c =
    let h = c.requires.head in
    let offer = c.plain-offer.ensures in (
      ap (λ w. w.tracked) h,
      sym (ap (λ w. w.book) h),
      c.requires.author.0 ∙ sym (ap (λ w. w.book) h),
      offer.0,
      rw (ap (λ w. w.key) h, c.requires.author.1, offer.3) (extends-moves _ c.plain-offer.result.ask (subst (λ (s : Stage). IsPrefix (entries_in c.args.front.now.log) s.entries) (sym offer.1) c.requires.longer)),
    )

pub returns-clause-author : goal.returns-clause-author
returns-clause-author g c =
    let offer = c.plain-offer.ensures in
    let more = c.compare_exchange.ensures.7 in (
      c.new_pen-next.ensures.book ∙ sym c.compare_exchange.ensures.0,
      c.new_pen-next.ensures.pen ∙ ap (λ k. nib may_write k 1) (sym (ap (λ (s : Stage). s.next) (ap last_stage more ∙ last-more c.args.front.now.log c.plain-offer.result.ask ∙ offer.1))),
    )

pub returns-clause-entries : goal.returns-clause-entries
returns-clause-entries g c =
    ap (λ (s : Stage). s.entries) (ap last_stage c.compare_exchange.ensures.7 ∙ last-more c.args.front.now.log c.plain-offer.result.ask ∙ c.plain-offer.ensures.1)
