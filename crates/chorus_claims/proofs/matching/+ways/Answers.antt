use Rattle.std.proofs.Common.{◌≡◌, sym, ◌∙◌, ap, []}
use Rattle.std.specs.Option.{option_copied}
use Rattle.chorus_claims.specs.Words.{words_behind, words_in}
use Rattle.chorus_claims.specs.Shapes.{facts_in}
use Rattle.chorus_claims.specs.Ways.{meanings_of, goes_on, right_of, way_from, each_tail}
use Rattle.chorus_claims.proofs.Steps.{is-empty, no-lines, all-left, first-so, later-so, at-rest, rests-behind}
use Rattle.chorus_claims.proofs.matching.+ways.Goals as goal

pub each_line-returns : goal.each_line-returns
each_line-returns t c =
    let empty : c.loop-left.left.now ≡ [] = is-empty c.loop-left.left.now (sym c.is_empty.ensures ∙ c.loop-left-test.false) in
    no-lines c.args.asked.now c.args.ending (words_behind (option_copied c.args.fact)) (meanings_of c.args.letters.now) c.loop-left.left.now _ empty c.loop-left.invariant

pub goes_on-returns-in-Goes : goal.goes_on-returns-in-Goes
goes_on-returns-in-Goes t c =
    c.each_line.ensures ∙ all-left c.args.asked.now (words_behind (option_copied c.args.later)) (meanings_of c.args.letters.now)
    ∙ ap (λ ending. goes_on ending (words_in c.args.asked.now.lines.now) (right_of c.args.asked.now.right) (facts_in (words_behind (option_copied c.args.later))) (meanings_of c.args.letters.now))
    (sym c.in-Goes.is)

pub one_fact-returns-then-not-each_line : goal.one_fact-returns-then-not-each_line
one_fact-returns-then-not-each_line t c =
    first-so c.args.asked.now (words_behind (option_copied c.args.fact)) (meanings_of c.args.letters.now) (sym c.each_line.ensures ∙ c.if-not-each_line.true)

pub one_fact-returns-in-Some : goal.one_fact-returns-in-Some
one_fact-returns-in-Some t c =
    c.one_fact.ensures
    ∙ later-so c.args.asked.now (words_behind (option_copied c.args.fact)) (meanings_of c.args.letters.now)
    (facts_in (words_behind (option_copied c.in-Some.next))) (sym c.each_line.ensures ∙ c.if-not-each_line.false) c.in-Some.ensures.facts

pub one_fact-returns-in-None : goal.one_fact-returns-in-None
one_fact-returns-in-None t c =
    later-so c.args.asked.now (words_behind (option_copied c.args.fact)) (meanings_of c.args.letters.now) [] (sym c.each_line.ensures ∙ c.if-not-each_line.false)
    c.in-None.ensures.facts

pub way_from-returns-then-is_rest : goal.way_from-returns-then-is_rest
way_from-returns-then-is_rest t c =
    let ws = words_behind (option_copied c.loop-piece.line) in
    let e = meanings_of c.args.letters.now in
    c.each_tail.ensures
    ∙ ap (λ ps. each_tail c.args.asked.now c.args.ending ps ws e) c.behind_rests.ensures.words
    ∙ sym (rests-behind c.args.asked.now c.args.ending (words_behind (option_copied c.in-Some.behind)) ws e)
    ∙ sym (at-rest c.args.asked.now c.args.ending c.in-Some.piece.now (words_behind (option_copied c.in-Some.behind)) ws e (sym c.is_rest.ensures ∙ c.if-is_rest.true))
    ∙ ap (λ ps. way_from c.args.asked.now c.args.ending ps ws e) (sym c.in-Some.ensures.words)
    ∙ c.loop-piece.invariant.0
