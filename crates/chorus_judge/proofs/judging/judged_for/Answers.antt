use Rattle.std.proofs.Common.{◌≡◌, ◌++◌, reverse, sym, ap, subst, ◌∙◌}
use Rattle.std.proofs.lemmas.List.{reverse-reverse}
use Rattle.chorus_world.specs.Steps.{State}
use Rattle.law_judge.specs.Open.{all_open}
use Rattle.chorus_judge.specs.Blaming.{BlamesBy}
use Rattle.chorus_judge.specs.Judgements.{judgement_of}
use Rattle.chorus_judge.specs.Texts.{judged_text}
use Rattle.chorus_judge.proofs.judging.judged_for.Goals as goal

pub push_judged-requires : goal.push_judged-requires
push_judged-requires c =
    let all = all_open c.args.layout in
    c.deref.ensures.value ∙ c.in_ok-opens.ensures ∙ ap (λ (w : State). all w.past) c.ledger.ensures ∙ ap all (sym (reverse-reverse c.in_ok-reading.reading.world.past) ∙ ap reverse (sym c.entries.ensures.value))

pub returns : goal.returns
returns c =
    let world = c.in_ok-reading.reading.world in
    let audit = c.in_ok-reading.reading.audit in
    let blame = c.in_ok-blame.blame in
    let text = c.args.text.now in
    let all = all_open c.args.layout in
    let opens : c.in_ok-opens.opens.items ≡ all (reverse (reverse world.past)) =
    c.in_ok-opens.ensures ∙ ap (λ (w : State). all w.past) c.ledger.ensures ∙ ap all (sym (reverse-reverse world.past)) in
    record {
      entries = reverse world.past;
      audit = audit;
      read = c.in_ok-reading.ensures.read;
      judged = c.judgement_of.ensures ∙ ap (judgement_of audit) (c.deref-2.ensures.value ∙ opens);
      blame = blame;
      blamed =
          subst (λ l. BlamesBy l text audit (reverse world.past) blame) c.in_ok-reading.ensures.layout_is
          (subst (λ (w : State). BlamesBy w.layout text audit (reverse w.past) blame) c.ledger-2.ensures c.in_ok-blame.ensures);
      is = c.in_ok-push_judged.ensures ∙ (λ i. c.new-told.ensures.items i ++ judged_text c.args.layout audit blame (reverse (c.entries.ensures.value i)));
    }
