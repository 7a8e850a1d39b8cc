use Rattle.std.proofs.Common.{sym, ◌∙◌, ap, subst, List}
use mathlib.Core.List.{IsPrefix}
use Rattle.chorus_board.specs.declared.history.Stage.{Stage}
use Rattle.chorus_board.specs.Law.{entries_in}
use Rattle.chorus_board.proofs.Fronts.{prefix_both}
use Rattle.chorus_board.proofs.Stages.{begins-with, confirms-moves}
use Rattle.chorus_board.proofs.history.covers.Goals as goal

pub compare_exchange-requires : goal.compare_exchange-requires
compare_exchange-requires c =
    let h = c.requires.head in
    let offer = c.plain-offer.ensures in
    let both = c.learn.ensures.0 ∙ ap (λ s. s.book) c.again-both.ensures in (
      ap (λ w. w.tracked) h,
      both ∙ sym (ap (λ w. w.book) h),
      c.requires.author.0 ∙ sym (ap (λ w. w.book) h),
      offer.0,
      rw (ap (λ w. w.key) h, c.requires.author.1, offer.3) (confirms-moves c.args.front.now.log _ c.plain-offer.result.ask),
    )

pub returns-clause-covered : goal.returns-clause-covered
returns-clause-covered c =
    let mine : IsPrefix c.args.front.now.log c.learn.new.self.log = subst (λ (l : List Stage). IsPrefix l c.learn.new.self.log) (ap (λ s. s.log) c.again-both.ensures) c.learn.ensures.2 in
    let all = c.compare_exchange.ensures.7.1 c.args.front.now.log mine c.requires.author.1 in
    let back : IsPrefix c.learn.new.self.log c.args.front.now.log = subst (IsPrefix c.learn.new.self.log) all c.compare_exchange.ensures.6 in
    subst (λ (l : List Stage). IsPrefix (entries_in c.args.heard.now.log) (entries_in l)) (prefix_both c.learn.new.self.log c.args.front.now.log back mine)
    (begins-with _ _ _ c.learn.ensures.3 c.learn.ensures.4.1.followed)

pub returns-clause-author : goal.returns-clause-author
returns-clause-author c = λ i. record c.args.author.now { book = c.compare_exchange.ensures.5 i; nib = c.compare_exchange.ensures.7.0 i }
