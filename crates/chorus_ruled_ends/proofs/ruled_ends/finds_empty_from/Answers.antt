use Rattle.std.proofs.Common.{◌≤◌, ◌<◌, None, sym, ◌∙◌, ap, subst, arith}
use Rattle.std.proofs.lemmas.List.{get_or_read}
use Rattle.chorus_ruled_ends.specs.Ruled.{received_by, empties_by, name_from}
use Rattle.chorus_ruled_ends.proofs.Lists.{within}
use Rattle.chorus_ruled_ends.proofs.Moving.{counts-received, receives-nothing, empty-rose}
use Rattle.chorus_ruled_ends.proofs.ruled_ends.finds_empty_from.Goals as goal

pub index_mut-requires : goal.index_mut-requires
index_mut-requires c = let h = within c.args.into.now.items c.args.place c.requires in omega (arith, h)

pub returns-clause-counts : goal.returns-clause-counts
returns-clause-counts c =
    let xs = c.args.into.now.items in
    let lt = within xs c.args.place c.requires in
    let u = get_or_read xs c.args.place c.index_mut.result.now lt c.index_mut.ensures.value None in
    λ out.
    counts-received (record { out = out; into = xs }) c.args.place c.is_found_empty.new.slot lt (c.is_found_empty.ensures.name ∙ ap name_from u) (c.is_found_empty.ensures.there ∙ sym c.requires)
    (subst (λ s. empties_by s ≤ empties_by c.is_found_empty.new.slot) u c.is_found_empty.ensures.empties)

pub returns-clause-unmoved : goal.returns-clause-unmoved
returns-clause-unmoved c =
    let xs = c.args.into.now.items in
    let lt = within xs c.args.place c.requires in
    let u = get_or_read xs c.args.place c.index_mut.result.now lt c.index_mut.ensures.value None in
    λ out. receives-nothing (record { out = out; into = xs }) c.args.place c.is_found_empty.new.slot lt (c.is_found_empty.ensures.unmoved ∙ ap received_by u)

pub returns-clause-empty : goal.returns-clause-empty
returns-clause-empty c =
    let xs = c.args.into.now.items in
    let lt = within xs c.args.place c.requires in
    let u = get_or_read xs c.args.place c.index_mut.result.now lt c.index_mut.ensures.value None in
    λ is out.
    empty-rose (record { out = out; into = xs }) c.args.place c.is_found_empty.new.slot lt (subst (λ s. empties_by s < empties_by c.is_found_empty.new.slot) u (c.is_found_empty.ensures.empty is))
