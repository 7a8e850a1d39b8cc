use Rattle.std.proofs.Common.{sym, ◌∙◌, ap}
use Rattle.chorus_board.proofs.Stages.{claims-moves}
use Rattle.chorus_board.proofs.history.new_pen.Goals as goal

pub compare_exchange-found-requires : goal.compare_exchange-found-requires
compare_exchange-found-requires c =
    let h = c.requires in
    let offer = c.plain-offer.ensures in
    let pen = c.no_pen-pen.ensures in
    let again = ap (λ s. s.book) c.again-seen.ensures in (
      ap (λ w. w.tracked) h,
      again ∙ sym (ap (λ w. w.book) h),
      pen.0 ∙ again ∙ sym (ap (λ w. w.book) h),
      offer.0,
      rw (ap (λ w. w.key) h, pen.1, offer.3) (claims-moves _ c.plain-offer.result.ask),
    )
