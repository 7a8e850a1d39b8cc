use Rattle.std.proofs.Common.{◌≡◌, nat_le, ◌++◌, ◌∷◌, ℕ, [], length, map, sym, ◌∙◌, ap, ap₂, codes, append_assoc, arith}
use Rattle.chorus_show.specs.Journal.{count_line}
use Rattle.explore_report.specs.Lines.{always_lines, line_of, lines_of_all, texts_lines}
use Rattle.explore_report.specs.Reports.{always_text, are_few, facts_of, facts_text, few_outcomes, limit_line, schedules_from, told_of}
use Rattle.explore_report.specs.declared.text.TheConstants.{OUTCOMES_TOLD}
use Rattle.explore_report.proofs.text.report.Goals as goal

pub returns : goal.returns
returns c =
    let e = c.args.explored.now in
    let fs = c.args.explored.now.findings.items.items in
    let lines = texts_lines fs in
    let all : lines_of_all c.in_ok-all.all.items ≡ texts_lines c.args.explored.now.findings.items.items = c.in_ok-all.ensures ∙ ap texts_lines c.deref.ensures.value in
    let facts : map told_of c.in_ok-facts.facts.items ≡ facts_of lines = c.in_ok-facts.ensures ∙ ap facts_of (ap lines_of_all c.deref-2.ensures.value ∙ all) in
    let always : map line_of c.in_ok-always.always.items ≡ always_lines lines = c.in_ok-always.ensures ∙ ap always_lines (ap lines_of_all c.deref-3.ensures.value ∙ all) in
    let long = c.args.explored.now.findings.items.ok.0 in
    let own : c.len.result ≡ c.args.explored.now.findings.items.len = c.len.ensures in
    let as-many : c.len.result ≡ length c.args.explored.now.findings.items.items = omega (arith, own, long) in
    let own-too : c.len-is_few.result ≡ c.args.explored.now.findings.items.len = c.len-is_few.ensures in
    let as-many-too : c.len-is_few.result ≡ length c.args.explored.now.findings.items.items = omega (arith, own-too, long) in
    let one = count_line (codes "histories") e.histories in
    let two = count_line (codes "events") e.events in
    let three = limit_line e.is_cut e.bound in
    let four = facts_text lines (facts_of lines) in
    let five = always_text (length fs) (always_lines lines) in
    let six = few_outcomes (are_few fs) (always_lines lines) fs in
    let seven = schedules_from 1 (are_few fs) (facts_of lines) fs in
    let to-limit : c.push_limit.new.text.items ≡ (one ++ two) ++ three =
    c.in_ok-push_limit.ensures ∙ ap (λ t. t ++ three) (c.in_ok-push_count-2.ensures ∙ ap (λ t. t ++ two) (c.in_ok-push_count.ensures ∙ ap (λ t. t ++ one) c.new-text.ensures.items)) in
    let to-facts : c.push_facts.new.text.items ≡ ((one ++ two) ++ three) ++ four =
    c.in_ok-push_facts.ensures ∙ ap₂ (λ t f. t ++ f) to-limit
    (ap₂ facts_text (ap lines_of_all c.deref-5.ensures.value ∙ all) (ap (map told_of) c.deref-4.ensures.value ∙ facts)) in
    let to-always : c.push_always.new.text.items ≡ (((one ++ two) ++ three) ++ four) ++ five =
    c.in_ok-push_always.ensures ∙ ap (λ (n : ℕ). c.push_facts.new.text.items ++ always_text n (map line_of c.deref-6.result.now)) as-many
    ∙ ap₂ (λ t ls. t ++ always_text (length fs) ls) to-facts (ap (map line_of) c.deref-6.ensures.value ∙ always) in
    let few = ap (λ (n : ℕ). nat_le n OUTCOMES_TOLD) as-many-too in
    let to-outcomes : c.push_outcomes.new.text.items ≡ ((((one ++ two) ++ three) ++ four) ++ five) ++ six =
    c.in_ok-push_outcomes.ensures ∙ ap₂ (λ b ls. c.push_always.new.text.items ++ few_outcomes b ls c.deref-7.result.now) few (ap (map line_of) c.deref-9.ensures.value ∙ always)
    ∙ ap₂ (λ t xs. t ++ few_outcomes (are_few fs) (always_lines lines) xs) to-always c.deref-7.ensures.value in
    let to-schedules : c.push_schedules.new.text.items ≡ (((((one ++ two) ++ three) ++ four) ++ five) ++ six) ++ seven =
    c.in_ok-push_schedules.ensures ∙ ap₂ (λ b told. c.push_outcomes.new.text.items ++ schedules_from 1 b told c.deref-10.result.now) few (ap (map told_of) c.deref-11.ensures.value ∙ facts)
    ∙ ap₂ (λ t xs. t ++ schedules_from 1 (are_few fs) (facts_of lines) xs) to-outcomes c.deref-10.ensures.value in
    c.in_ok-extend_from_slice.ensures.items ∙ ap (λ t. t ++ (codes "end" ++ 10 ∷ [])) to-schedules
    ∙ sym (append_assoc ((((((one ++ two) ++ three) ++ four) ++ five) ++ six) ++ seven) (codes "end") (10 ∷ []))
    ∙ ap (λ t. ((t ++ seven) ++ codes "end") ++ 10 ∷ []) (append_assoc (((one ++ two) ++ three) ++ four) five six)
