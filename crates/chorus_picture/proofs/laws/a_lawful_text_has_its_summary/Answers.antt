use Rattle.chorus_picture.proofs.Lines.{lawful_texts_have_summaries}
use Rattle.chorus_picture.proofs.laws.a_lawful_text_has_its_summary.Goals as goal

pub returns : goal.returns
returns c = lawful_texts_have_summaries
