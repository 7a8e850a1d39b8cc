use Rattle.std.proofs.Common.{sym, ap, ◌∙◌, ◌≡◌, slice_get}
use Rattle.chorus_groups.specs.Groups.{row_of, group_of}
use Rattle.chorus_groups.proofs.TableLemmas.{found, got}
use Rattle.chorus_groups.proofs.groups.Groups.get.Goals as goal

pub returns : goal.returns
returns c =
    let g = c.args.group in
    let items = c.self.inside.groups.items in
    let row : c.row_of-row.result ≡ row_of g items = c.row_of-row.ensures ∙ ap (row_of g) c.as_slice.ensures.value in
    got c.deref.result.now c.row_of-row.result c.get.result c.get.ensures.lookup
    ∙ ap (λ xs. slice_get xs c.row_of-row.result) c.deref.ensures.value
    ∙ ap (slice_get items) row ∙ sym (found g items) ∙ ap (λ t. group_of g t.groups) c.self.view_is
