use Rattle.std.proofs.Common.{◌++◌, reverse, sym, ◌∙◌, ap}
use Rattle.chorus_world.specs.GroupLaws.{copies_of}
use Rattle.chorus_explore.specs.AlikeSites.Journals.{ids_of}
use Rattle.chorus_explore.proofs.alike_sites.journals.are_same_copies.Goals as goal

pub returns : goal.returns
returns c = λ e.
    let a = c.as_slice.ensures.value ∙ c.in_ok-push_copies.ensures ∙ ap (λ xs. xs ++ ids_of (copies_of c.args.id (reverse c.args.one.now))) c.new-ids.ensures.items in
    let b = c.as_slice-2.ensures.value ∙ c.in_ok-push_copies-2.ensures ∙ ap (λ xs. xs ++ ids_of (copies_of c.args.id (reverse c.args.other.now))) c.new-others.ensures.items in
    sym a ∙ c.are_same_ids-same.ensures e ∙ b
