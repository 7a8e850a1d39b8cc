use Rattle.std.proofs.Common.{◌≡◌, false, cond, map, sym, ◌∙◌, ap}
use Rattle.std.specs.List.{insert}
use Rattle.explore_report.specs.Reports.{is_told, place_in, told_of}
use Rattle.explore_report.proofs.Reporting.{map-insert}
use Rattle.explore_report.proofs.text.tell_line.Goals as goal

pub returns : goal.returns
returns c =
    let facts = c.args.facts.now.items in
    let told = map told_of c.args.facts.now.items in
    let line = c.args.line.now in
    let new = told_of (record { outcome = c.args.outcome; line = c.args.line }) in
    let place : c.place_in-place.result ≡ place_in c.args.line.now (map told_of c.args.facts.now.items) =
    c.place_in-place.ensures.value ∙ ap (λ xs. place_in c.args.line.now (map told_of xs)) c.deref-2.ensures.value in
    let none : is_told c.args.line.now (map told_of c.args.facts.now.items) ≡ false =
    ap (λ xs. is_told c.args.line.now (map told_of xs)) (sym c.deref.ensures.value) ∙ sym c.is_told.ensures ∙ c.if-is_told.false in
    ap (map told_of) c.in_ok-insert.ensures.items ∙ map-insert told_of facts c.place_in-place.result _
    ∙ ap (λ k. insert told k new) place ∙ sym (ap (λ b. cond b told (insert told (place_in line told) new)) none)
