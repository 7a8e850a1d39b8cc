use Rattle.std.proofs.Common.{None, replicate, ◌∙◌, ap, sym}
use Rattle.std.specs.Option.{option_copied}
use Rattle.chorus_claims.specs.Words.{words, words_behind, words_in}
use Rattle.chorus_claims.specs.Shapes.{facts_in}
use Rattle.chorus_claims.specs.Ways.{one_right, all_left}
use Rattle.chorus_claims.specs.declared.form.Form.TheVariants.{Always, Implies, Before}
use Rattle.chorus_claims.proofs.Depth.{always-met, before-met, implies-met, never-or-possible, as-claimed}
use Rattle.chorus_claims.proofs.matching.meets.Goals as goal

pub returns-in-Never : goal.returns-in-Never
returns-in-Never c =
    c.all_left.ensures
    ∙ never-or-possible c.split_form-form.result.0 (words_behind (option_copied c.split_form-form.result.1)) c.args.lines.now c.in-Never.is
    ∙ as-claimed c.split_form-form.result.0 (words c.text.result.now) (words_behind (option_copied c.split_form-form.result.1)) c.args.claim.now c.args.lines.now
    c.split_form-form.ensures.form c.split_form-form.ensures.facts c.text.ensures

pub returns-in-Always : goal.returns-in-Always
returns-in-Always c =
    c.one_right.ensures
    ∙ ap (λ e. one_right (words_in c.args.lines.now) e (facts_in (words_behind (option_copied c.split_form-form.result.1)))) c.new.ensures
    ∙ always-met (words_behind (option_copied c.split_form-form.result.1)) c.args.lines.now
    ∙ as-claimed Always (words c.text.result.now) (words_behind (option_copied c.split_form-form.result.1)) c.args.claim.now c.args.lines.now
    (sym c.in-Always.is ∙ c.split_form-form.ensures.form) c.split_form-form.ensures.facts c.text.ensures

pub returns-in-Implies : goal.returns-in-Implies
returns-in-Implies c =
    c.all_left-in-Implies.ensures
    ∙ ap (λ ws. all_left (words_in c.args.lines.now) (facts_in ws) (facts_in (words_behind (option_copied c.split_form-form.result.1))) (replicate 26 None)) c.behind_middle.ensures
    ∙ implies-met (words_behind (option_copied c.split_form-form.result.1)) c.args.lines.now
    ∙ as-claimed Implies (words c.text.result.now) (words_behind (option_copied c.split_form-form.result.1)) c.args.claim.now c.args.lines.now
    (sym c.in-Implies.is ∙ c.split_form-form.ensures.form) c.split_form-form.ensures.facts c.text.ensures

pub returns-in-Before : goal.returns-in-Before
returns-in-Before c =
    c.all_left-in-Before.ensures
    ∙ ap (λ ws. all_left (words_in c.args.lines.now) (facts_in (words_behind (option_copied c.split_form-form.result.1))) (facts_in ws) (replicate 26 None)) c.behind_middle-in-Before.ensures
    ∙ before-met (words_behind (option_copied c.split_form-form.result.1)) c.args.lines.now
    ∙ as-claimed Before (words c.text.result.now) (words_behind (option_copied c.split_form-form.result.1)) c.args.claim.now c.args.lines.now
    (sym c.in-Before.is ∙ c.split_form-form.ensures.form) c.split_form-form.ensures.facts c.text.ensures
