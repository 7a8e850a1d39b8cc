use Rattle.std.proofs.Common.{◌≡◌, ◌∙◌, sym, ap, refl, length, ◌<◌, slice_set, arith, Some, None}
use Rattle.chorus_groups.specs.Groups.{Table, row_of, group_of, with_change, joined}
use Rattle.chorus_groups.specs.Faults.{unless, after, refuses_join, join_refused, join_fault_of, after_join}
use Rattle.chorus_groups.specs.contracts.groups.Groups.{the_view}
use Rattle.chorus_groups.proofs.TableLemmas.{found_at, after_at, not_found}
use Rattle.chorus_groups.proofs.groups.Groups.join.Goals as goal
use Rattle.chorus_groups.proofs.groups.Groups.join.Goals.{in-Some, in-None}

pub returns-clause-answer : goal.returns-clause-answer
returns-clause-answer c =
    let g = c.args.group in
    let q = c.args.port in
    let i = c.row_of-row.result in
    let items = c.self.inside.groups.items in
    let row : i ≡ row_of g items = c.row_of-row.ensures ∙ ap (row_of g) c.as_slice.ensures.value in
    elim c.match-get_mut.branch [
      | in-Some w ↦ (
          let x = w.in-Some.made.now in
          let lt : i < length items = omega (arith, w.in-Some.ensures.variant.0 refl, c.self.inside.groups.ok.0) in
          let here : group_of g items ≡ Some x = found_at g items i x x row lt w.in-Some.ensures.value in
          w.result-is ∙ w.join.ensures.answer
          ∙ ap (λ o. unless (join_refused q o)) (sym here)
          ∙ ap (λ t. unless (join_fault_of t g q)) c.self.view_is)
      | in-None w ↦ (
          let here : group_of g items ≡ None = not_found g items i c.self.inside.groups.len row c.self.inside.groups.ok.0 w.in-None.ensures.variant.1 in
          w.result-is
          ∙ ap (λ o. unless (join_refused q o)) (sym here)
          ∙ ap (λ t. unless (join_fault_of t g q)) c.self.view_is)
    ]

pub returns-clause-after : goal.returns-clause-after
returns-clause-after c =
    let g = c.args.group in
    let q = c.args.port in
    let i = c.row_of-row.result in
    let items = c.self.inside.groups.items in
    let t : Table = the_view c.self.inside in
    let row : i ≡ row_of g items = c.row_of-row.ensures ∙ ap (row_of g) c.as_slice.ensures.value in
    elim c.match-get_mut.branch [
      | in-Some w ↦ (
          let x = w.in-Some.made.now in
          let lt : i < length items = omega (arith, w.in-Some.ensures.variant.0 refl, c.self.inside.groups.ok.0) in
          let here : group_of g items ≡ Some x = found_at g items i x x row lt w.in-Some.ensures.value in
          ap the_view w.self-inside-is
          ∙ ap (λ y. record t { groups = slice_set items i y }) w.join.ensures.after
          ∙ after_at (refuses_join q x) g (joined q) t i x x row lt w.in-Some.ensures.value
          ∙ ap (λ o. after (join_refused q o) (with_change g (joined q)) t) (sym here)
          ∙ ap (λ t. after_join t g q) c.self.view_is)
      | in-None w ↦ (
          let here : group_of g items ≡ None = not_found g items i c.self.inside.groups.len row c.self.inside.groups.ok.0 w.in-None.ensures.variant.1 in
          ap the_view w.self-inside-is
          ∙ ap (λ o. after (join_refused q o) (with_change g (joined q)) t) (sym here)
          ∙ ap (λ t. after_join t g q) c.self.view_is)
    ]
