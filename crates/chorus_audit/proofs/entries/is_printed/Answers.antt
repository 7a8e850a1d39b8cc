use Rattle.std.proofs.Common.{◌≡◌, Some, [], ◌∷◌, ◌++◌, sym, ap, ◌∙◌}
use Rattle.std.proofs.lemmas.Bool.Decides.{Decides-eqb}
use Rattle.std.proofs.lemmas.Slice.Eq.{strip_suffix_is}
use Rattle.chorus_show.specs.Lines.{entry_text}
use Rattle.chorus_audit.proofs.Back.{same_line}
use Rattle.chorus_audit.proofs.entries.is_printed.Goals as goal

pub returns-in-Some : goal.returns-in-Some
returns-in-Some c =
    let text = entry_text c.args.entry.now in
    let printed : c.as_slice.result.now ≡ text =
    c.as_slice.ensures.value ∙ c.in_ok-push_entry.ensures.text ∙ ap (λ o. o ++ text) c.clear.ensures.items in
    let whole = strip_suffix_is Decides-eqb c.as_slice.result.now (10 ∷ []) (Some c.in-Some.front) c.in-Some.ensures.cases in
    c.eq.ensures ∙ same_line c.in-Some.front.now c.args.line.now text (sym printed ∙ whole)
