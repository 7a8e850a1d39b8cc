use Rattle.law_explore.specs.Alike.{ReadAlike, ActAlike, Anyone}
use Rattle.law_explore.proofs.Alike.{keep_reads, keep_acts, commands-alike, works-alike}
use Rattle.law_explore.proofs.laws.turns_stay_alike.Goals as goal

pub returns-clause-commands : goal.returns-clause-commands
returns-clause-commands c = λ command t u a. commands-alike ReadAlike keep_reads command t u a

pub returns-clause-packets : goal.returns-clause-packets
returns-clause-packets c = λ k clock t u a. works-alike ReadAlike keep_reads Anyone (λ c d x y h. tt) k clock t u a

pub returns-clause-commands_too : goal.returns-clause-commands_too
returns-clause-commands_too c = λ command t u a. commands-alike ActAlike keep_acts command t u a

pub returns-clause-packets_too : goal.returns-clause-packets_too
returns-clause-packets_too c = λ k clock t u a. works-alike ActAlike keep_acts Anyone (λ c d x y h. tt) k clock t u a
