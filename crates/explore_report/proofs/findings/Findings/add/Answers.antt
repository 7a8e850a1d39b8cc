use Rattle.std.proofs.Common.{◌≡◌, ◌≢◌, ◌++◌, ◌∷◌, [], List, reverse, refl, ◌∙◌, ap, subst, sym}
use Rattle.std.specs.List.{All}
use Rattle.explore_report.specs.declared.findings.Finding.{Finding}
use Rattle.explore_report.specs.Findings.{AreFindings}
use Rattle.explore_report.proofs.Counting.{counts-more, counts-a-new-one}
use Rattle.explore_report.proofs.findings.Findings.add.Goals as goal

pub returns-in_ok-count-in-Some-clause-counts : goal.returns-in_ok-count-in-Some-clause-counts
returns-in_ok-count-in-Some-clause-counts c comes hs ks is f =
    let old : Finding = c.index_mut.result.now in
    let ensures = c.in_ok-count-in-Some.ensures in
    counts-more comes hs ks c.args.self.now.items.items (reverse c.args.moves.now) c.args.text.items c.args.number is f
    c.in-Some.index old c.count.new.self c.in-Some.ensures.some.0 c.index_mut.ensures.value
    (ap (λ (f : Finding). f.text.items) c.index_mut.ensures.value ∙ c.in-Some.ensures.some.1 old ∙ c.deref-2.ensures.value)
    (ap (λ v. v.items) ensures.text.0) ensures.histories ensures.moves

pub returns-in_ok-reserve-in-None-clause-counts : goal.returns-in_ok-reserve-in-None-clause-counts
returns-in_ok-reserve-in-None-clause-counts c comes hs ks is f =
    let new : Finding = record { text = c.args.text; sum = c.sum_of-sum.result; histories = c.args.number; moves = c.in_ok-moves-in-None.moves } in
    let none : All (λ (f : Finding). f.text.items ≢ c.args.text.items) c.args.self.now.items.items =
    subst (λ t. All (λ (f : Finding). f.text.items ≢ t) c.args.self.now.items.items) c.deref-2.ensures.value (c.in-None.ensures.none refl) in
    let items : c.push_reserved.new.self.items ≡ c.args.self.now.items.items ++ new ∷ [] = c.push_reserved.ensures.items ∙ ap (λ (fs : List Finding). fs ++ new ∷ []) c.in_ok-reserve-in-None.ensures.items in
    subst (λ (fs : List Finding). AreFindings comes (hs ++ ks) fs) (sym items)
    (counts-a-new-one comes hs ks c.args.self.now.items.items (reverse c.args.moves.now) c.args.text.items c.args.number is f new none refl (ap reverse c.in_ok-moves-in-None.ensures.items) refl)
