use Rattle.std.proofs.Common.{rules, refl}
use Rattle.chorus_words.proofs.Spelling.{no_audit, no_drawing, no_judging, no_promising, no_run, no_explore, no_check}
use Rattle.chorus_words.proofs.reading.asked_by.Goals as goal

pub returns-in_err-layout-in-audit-Some-Some-clause-none :
    goal.returns-in_err-layout-in-audit-Some-Some-clause-none
returns-in_err-layout-in-audit-Some-Some-clause-none c = λ _ asked by.
    no_audit _ _ _ _ _ (search rules) (search rules) (search rules) (c.in_err-layout-in-audit-Some-Some.ensures.none refl) asked by

pub returns-in_err-layout-in-judge-Some-Some-clause-none :
    goal.returns-in_err-layout-in-judge-Some-Some-clause-none
returns-in_err-layout-in-judge-Some-Some-clause-none c = λ _ asked by.
    no_judging _ _ _ _ _ (search rules) (search rules) (search rules) (c.in_err-layout-in-judge-Some-Some.ensures.none refl) asked by

pub returns-in_err-layout-in-promises-Some-Some-clause-none :
    goal.returns-in_err-layout-in-promises-Some-Some-clause-none
returns-in_err-layout-in-promises-Some-Some-clause-none c = λ _ asked by.
    no_promising _ _ _ _ _ (search rules) (search rules) (search rules) (c.in_err-layout-in-promises-Some-Some.ensures.none refl) asked by

pub returns-in_err-layout-in-picture-Some-Some-clause-none :
    goal.returns-in_err-layout-in-picture-Some-Some-clause-none
returns-in_err-layout-in-picture-Some-Some-clause-none c = λ _ asked by.
    no_drawing _ _ _ _ _ (search rules) (search rules) (search rules) (c.in_err-layout-in-picture-Some-Some.ensures.none refl) asked by

pub returns-in_err-turns_of-in-run-Some-None-clause-none : goal.returns-in_err-turns_of-in-run-Some-None-clause-none
returns-in_err-turns_of-in-run-Some-None-clause-none c = λ _ asked by.
    no_run _ _ _ _ (search rules) (search rules) (search rules) (c.in_err-turns_of-in-run-Some-None.ensures.none refl) asked by

pub returns-in_err-most_of-in-explore-Some-None-clause-none : goal.returns-in_err-most_of-in-explore-Some-None-clause-none
returns-in_err-most_of-in-explore-Some-None-clause-none c = λ _ asked by.
    no_explore _ _ _ _ (search rules) (search rules) (search rules) (c.in_err-most_of-in-explore-Some-None.ensures.none refl) asked by

pub returns-in_err-most_of-in-check-Some-None-clause-none : goal.returns-in_err-most_of-in-check-Some-None-clause-none
returns-in_err-most_of-in-check-Some-None-clause-none c = λ _ asked by.
    no_check _ _ _ _ (search rules) (search rules) (search rules) (c.in_err-most_of-in-check-Some-None.ensures.none refl) asked by
