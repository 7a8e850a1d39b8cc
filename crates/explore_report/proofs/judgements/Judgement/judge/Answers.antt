use Rattle.std.proofs.Common.{reverse, sym, ◌∙◌, ap}
use Rattle.explore_report.proofs.Judging.{comes-to-fail, comes-unmet, keeps-failed, keeps-met, stays-failed, stays-met}
use Rattle.explore_report.proofs.judgements.Judgement.judge.Goals as goal

pub returns-then-has_failed-clause-judges : goal.returns-then-has_failed-clause-judges
returns-then-has_failed-clause-judges c = stays-failed c.args.claim.now c.args.text.now (reverse c.args.moves.now) c.args.self.now (sym c.has_failed.ensures ∙ c.if-has_failed.true)

pub returns-then-meets-clause-judges : goal.returns-then-meets-clause-judges
returns-then-meets-clause-judges c = stays-met c.args.claim.now c.args.text.now (reverse c.args.moves.now) c.args.self.now (sym c.meets.ensures ∙ c.if-meets.true)

pub returns-clause-judges : goal.returns-clause-judges
returns-clause-judges c =
    comes-to-fail c.args.claim.now c.args.text.now (reverse c.args.moves.now) c.args.self.now (sym c.has_failed.ensures ∙ c.if-has_failed.false) (sym c.meets.ensures ∙ c.if-meets.false)
    (reverse c.in_ok-moves.moves.items) c.in_ok-text.text.items (ap reverse c.in_ok-moves.ensures.items) c.in_ok-text.ensures.items

pub returns-then-has_failed-clause-keeps : goal.returns-then-has_failed-clause-keeps
returns-then-has_failed-clause-keeps c = keeps-failed c.args.claim.now c.args.text.now (reverse c.args.moves.now) c.args.self.now (sym c.has_failed.ensures ∙ c.if-has_failed.true)

pub returns-then-meets-clause-keeps : goal.returns-then-meets-clause-keeps
returns-then-meets-clause-keeps c = keeps-met c.args.claim.now c.args.text.now (reverse c.args.moves.now) c.args.self.now (sym c.meets.ensures ∙ c.if-meets.true)

pub returns-clause-keeps : goal.returns-clause-keeps
returns-clause-keeps c =
    comes-unmet c.args.claim.now c.args.text.now (reverse c.args.moves.now) c.args.self.now (sym c.has_failed.ensures ∙ c.if-has_failed.false) (sym c.meets.ensures ∙ c.if-meets.false)
    (reverse c.in_ok-moves.moves.items) c.in_ok-text.text.items (ap reverse c.in_ok-moves.ensures.items) c.in_ok-text.ensures.items
