use Rattle.std.proofs.Common.{sym, ◌∙◌, ap}
use Rattle.std.specs.List.{join_with_byte}
use Rattle.std.specs.Option.{option_copied}
use Rattle.std.proofs.lemmas.List.Splits.{join_with_byte-slice_split}
use Rattle.chorus_audit.specs.Calls.{parts_behind}
use Rattle.chorus_audit.proofs.words.Words.text.Goals as goal

pub returns-in-Some : goal.returns-in-Some
returns-in-Some c =
    sym (join_with_byte-slice_split 32 c.in-Some.text.now)
    ∙ ap (λ ws. join_with_byte 32 ws) (ap (λ r. parts_behind 32 (option_copied r)) (sym c.in-Some.is) ∙ c.self.view_is)
