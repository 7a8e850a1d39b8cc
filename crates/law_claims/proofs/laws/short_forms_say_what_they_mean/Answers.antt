use Rattle.law_claims.proofs.Shortened.{short-forms, nothing-refused, nothing-lost, nothing-is-left, requests-replied, nothing-late, calls-settled}
use Rattle.law_claims.proofs.laws.short_forms_say_what_they_mean.Goals as goal

pub returns-clause-claims : goal.returns-clause-claims
returns-clause-claims c = short-forms

pub returns-clause-refused : goal.returns-clause-refused
returns-clause-refused c = nothing-refused

pub returns-clause-lost : goal.returns-clause-lost
returns-clause-lost c = nothing-lost

pub returns-clause-left : goal.returns-clause-left
returns-clause-left c = nothing-is-left

pub returns-clause-replied : goal.returns-clause-replied
returns-clause-replied c = requests-replied

pub returns-clause-late : goal.returns-clause-late
returns-clause-late c = nothing-late

pub returns-clause-settled : goal.returns-clause-settled
returns-clause-settled c = calls-settled
