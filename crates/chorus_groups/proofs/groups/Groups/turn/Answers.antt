use Rattle.std.proofs.Common.{◌≡◌, ◌∙◌, sym, ap, refl, length, ◌<◌, slice_set, arith, None, [], ◌∷◌}
use Rattle.chorus_groups.specs.Groups.{Table, row_of, group_of, with_change}
use Rattle.chorus_groups.specs.Choosing.{turned_by}
use Rattle.chorus_groups.specs.contracts.groups.Groups.{the_view}
use Rattle.chorus_groups.proofs.TableLemmas.{changed_at, changed_none, not_found}
use Rattle.chorus_groups.proofs.Turning.{changed_stays, only_one, only_none}
use Rattle.chorus_groups.proofs.groups.Groups.turn.Goals as goal
use Rattle.chorus_groups.proofs.groups.Groups.turn.Goals.{in-Some-get_mut, in_default-get_mut}

pub returns-in_default : goal.returns-in_default
returns-in_default c =
    let t = c.args.self.now in
    sym (ap (λ xs. record t { groups = xs }) (changed_stays c.args.group (turned_by c.args.chosen.now) t.groups (only_none c.args.chosen.now (sym c.only.ensures ∙ c.in_default.is))))

pub returns : goal.returns
returns c =
    let g = c.args.group in
    let q = c.in-Some.port in
    let i = c.row_of-row.result in
    let items = c.self.inside.groups.items in
    let t : Table = the_view c.self.inside in
    let one : c.args.chosen.now ≡ q ∷ [] = only_one c.args.chosen.now q (sym c.only.ensures ∙ c.in-Some.is) in
    let row : i ≡ row_of g items = c.row_of-row.ensures ∙ ap (row_of g) c.as_slice.ensures.value in
    elim c.match-get_mut.branch [
      | in-Some-get_mut w ↦ (
          let x = w.in-Some-get_mut.made.now in
          let lt : i < length items = omega (arith, w.in-Some-get_mut.ensures.variant.0 refl, c.self.inside.groups.ok.0) in
          ap the_view w.self-inside-is
          ∙ ap (λ y. record t { groups = slice_set items i y }) w.turn_behind.ensures
          ∙ ap (λ xs. record t { groups = xs }) (changed_at g (turned_by (q ∷ [])) items i x x row lt w.in-Some-get_mut.ensures.value)
          ∙ ap (λ o. with_change g (turned_by o) t) (sym one)
          ∙ ap (λ t. with_change g (turned_by c.args.chosen.now) t) c.self.view_is)
      | in_default-get_mut w ↦ (
          let none : group_of g items ≡ None = not_found g items i c.self.inside.groups.len row c.self.inside.groups.ok.0 w.in_default-get_mut.ensures.variant.1 in
          ap the_view w.self-inside-is
          ∙ ap (λ xs. record t { groups = xs }) (sym (changed_none g (turned_by c.args.chosen.now) items none))
          ∙ ap (λ t. with_change g (turned_by c.args.chosen.now) t) c.self.view_is)
    ]
