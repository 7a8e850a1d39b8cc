use Rattle.picture_texts.proofs.PlainNames.{names_are_read}
use Rattle.picture_texts.proofs.ReadBack.{texts_are_read}
use Rattle.picture_texts.proofs.laws.texts_are_read_as_they_are.Goals as goal

pub returns-clause-texts : goal.returns-clause-texts
returns-clause-texts c = texts_are_read

pub returns-clause-names : goal.returns-clause-names
returns-clause-names c = names_are_read
