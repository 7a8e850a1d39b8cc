use Rattle.std.proofs.Common.{◌≡◌, ◌++◌, ◌∙◌, ap, arith, length, vec_len}
use Rattle.judge_promises.specs.Open.{all_open}
use Rattle.chorus_judge.specs.Promising.{found_in, found_judgement, found_text}
use Rattle.chorus_judge.specs.Texts.{open_text}
use Rattle.chorus_judge.proofs.promising.promised_for.Goals as goal

pub returns : goal.returns
returns c =
    let lines = c.in_ok-lines.lines in
    let kept = c.in_ok-kept.kept in
    let past = kept.log.past in
    let count : vec_len lines.entries ≡ length lines.entries.items = omega (arith, lines.entries.ok.0) in
    let found : c.found_in-found.result ≡ found_in (length lines.entries.items) lines.stop kept.blame =
    c.found_in-found.ensures ∙ ap (λ n. found_in n lines.stop kept.blame) (c.len-count.ensures ∙ count) in
    let opens : c.deref.result.now ≡ all_open past = c.deref.ensures.value ∙ c.in_ok-opens.ensures in
    let same : c.deref-2.result.now ≡ all_open past = c.deref-2.ensures.value ∙ c.in_ok-opens.ensures in
    record {
      entries = lines.entries.items;
      stop = lines.stop;
      lines = c.in_ok-lines.ensures;
      past = past;
      blame = kept.blame;
      kept = c.in_ok-kept.ensures.kept;
      judged = c.judgement_of.ensures ∙ (λ i. found_judgement (found i) (same i));
      is = c.in_ok-push_promised.ensures ∙ (λ i. c.new-told.ensures.items i ++ found_text (found i) ++ open_text (opens i));
    }
