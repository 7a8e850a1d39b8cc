use Rattle.std.proofs.Common.{rules, ◌≡◌, ◌∙◌, List, ℕ, map, true, true≢false, sym, ap}
use Rattle.std.specs.List.{list_all}
use Rattle.chorus_words.specs.Cutting.{is_value}
use Rattle.chorus_words.proofs.Cut.{values_of_map}
use Rattle.chorus_words.proofs.Spelling.{asks_if, by_three, listed_by, spelled_values}
use Rattle.chorus_words.proofs.reading.read_words.Goals as goal

-- src/reading.rt:21:9
pub returns-then-not-are_values-clause-listed : goal.returns-then-not-are_values-clause-listed
returns-then-not-are_values-clause-listed c = λ asked ask.
    let values : list_all (λ w. is_value w.now) c.args.words.now ≡ true = values_of_map c.args.words.now ∙ ap (list_all is_value) ask.0 ∙ spelled_values asked ask.1 in
    absurd (true≢false (sym values ∙ sym c.are_values.ensures ∙ search rules))

-- src/reading.rt:15:1
pub returns-clause-some : goal.returns-clause-some
returns-clause-some c =
    let cut = rw c.in-Some.is at c.in_ok-matches.ensures.some in
    asks_if c.asked_by.result (map (λ w. w.now) c.args.words.now) _ _ _ cut.few
    (c.get_str.ensures ∙ cut.what) (c.get_str-2.ensures ∙ cut.first) (c.get_str-3.ensures ∙ cut.second) c.asked_by.ensures.some

pub returns-clause-listed : goal.returns-clause-listed
returns-clause-listed c = λ asked ask.
    let cut = rw c.in-Some.is at c.in_ok-matches.ensures.some in
    let ws : List (List ℕ) = map (λ w. w.now) c.args.words.now in
    let what = c.get_str.ensures ∙ cut.what in
    let first = c.get_str-2.ensures ∙ cut.first in
    let second = c.get_str-3.ensures ∙ cut.second in
    listed_by c.asked_by.result ws asked (asks_if c.asked_by.result ws _ _ _ cut.few what first second c.asked_by.ensures.some)
    (λ none asks. c.asked_by.ensures.none none asked (by_three ws _ _ _ asked what first second asks)) ask
