use Rattle.std.proofs.Common.{◌++◌, ◌∙◌, ap, sym, append_assoc, reverse}
use Rattle.law_judge.specs.Open.{all_open}
use Rattle.chorus_judge.specs.Texts.{judged_text, open_text, wrong_text}
use Rattle.chorus_judge.proofs.texts.push_judged.Goals as goal

pub returns-in_ok-push_refused-in-Wrong : goal.returns-in_ok-push_refused-in-Wrong
returns-in_ok-push_refused-in-Wrong c =
    let l = c.args.layout in
    let past = reverse c.args.entries.now in
    let old = c.args.out.now.items in
    let b = c.args.blame.now in
    c.in_ok-push_refused-in-Wrong.ensures
    ∙ append_assoc old (wrong_text c.args.audit b) (open_text c.args.opens.now)
    ∙ ap (λ o. old ++ (wrong_text c.args.audit b ++ open_text o)) c.requires
    ∙ ap (λ a. old ++ (wrong_text a b ++ open_text (all_open l past))) c.in-Wrong.is
    ∙ sym (ap (λ a. old ++ judged_text l a b past) c.in-Wrong.is)
