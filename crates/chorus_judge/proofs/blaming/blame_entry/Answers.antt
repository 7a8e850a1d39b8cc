use Rattle.std.proofs.Common.{is_some, sym, ◌∙◌, ap}
use Rattle.std.proofs.lemmas.List.{reverse-reverse}
use Rattle.std.specs.Prelude.{reverse}
use Rattle.std.specs.Option.{option_copied}
use Rattle.chorus_checker.specs.Rules.{rule_of}
use Rattle.chorus_lines.specs.Text.{cut}
use Rattle.judge_rules.specs.Blames.{blame}
use Rattle.chorus_judge.specs.Blaming.{behind_lines}
use Rattle.chorus_judge.proofs.Blamed.{at_entry, blamed, by_rule, parsed, row_is, unparsed}
use Rattle.chorus_judge.proofs.blaming.blame_entry.Goals as goal

pub blame_for-requires : goal.blame_for-requires
blame_for-requires c =
    let l = c.args.ledger.now.layout in
    let text = c.args.text.now in
    let past = c.args.ledger.now.past in
    let found = at_entry l text c.args.line c.args.rule (reverse past) c.requires.read c.requires.rule in
    let cuts = c.cut.ensures ∙ ap (cut 10) (c.behind_lines.ensures ∙ ap (λ n. behind_lines n text) c.saturating_sub.ensures) in
    let row = row_is l text c.args.line c.args.rule (reverse past) found c.cut.result.0.now (option_copied c.cut.result.1) cuts in
    let read = rw c.in-Some.is at c.in_ok-entry.ensures.some in
    let same = parsed l text c.args.line c.args.rule (reverse past) found c.cut.result.0.now row c.in-Some.entry read.0 read.1 in
    by_rule l text c.args.line c.args.rule (reverse past) found c.in-Some.entry same
    ∙ ap (λ p. rule_of l p c.in-Some.entry) (reverse-reverse past)

pub returns-in-Some : goal.returns-in-Some
returns-in-Some c =
    let l = c.args.ledger.now.layout in
    let text = c.args.text.now in
    let past = c.args.ledger.now.past in
    let found = at_entry l text c.args.line c.args.rule (reverse past) c.requires.read c.requires.rule in
    let cuts = c.cut.ensures ∙ ap (cut 10) (c.behind_lines.ensures ∙ ap (λ n. behind_lines n text) c.saturating_sub.ensures) in
    let row = row_is l text c.args.line c.args.rule (reverse past) found c.cut.result.0.now (option_copied c.cut.result.1) cuts in
    let read = rw c.in-Some.is at c.in_ok-entry.ensures.some in
    let same = parsed l text c.args.line c.args.rule (reverse past) found c.cut.result.0.now row c.in-Some.entry read.0 read.1 in
    blamed l text c.args.line c.args.rule (reverse past) found c.requires.rule c.in-Some.entry read.0 same c.blame_for.result
    (c.blame_for.ensures ∙ ap (λ p. blame l p c.in-Some.entry) (sym (reverse-reverse past)))

pub returns-in-None : goal.returns-in-None
returns-in-None c =
    let l = c.args.ledger.now.layout in
    let text = c.args.text.now in
    let past = c.args.ledger.now.past in
    let found = at_entry l text c.args.line c.args.rule (reverse past) c.requires.read c.requires.rule in
    let cuts = c.cut.ensures ∙ ap (cut 10) (c.behind_lines.ensures ∙ ap (λ n. behind_lines n text) c.saturating_sub.ensures) in
    let row = row_is l text c.args.line c.args.rule (reverse past) found c.cut.result.0.now (option_copied c.cut.result.1) cuts in
    absurd (unparsed l text c.args.line c.args.rule (reverse past) found c.cut.result.0.now row (c.in_ok-entry.ensures.none (ap is_some c.in-None.is)))
