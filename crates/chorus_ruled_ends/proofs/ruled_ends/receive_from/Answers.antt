use Rattle.std.proofs.Common.{ℕ, ◌≡◌, ◌≤◌, ◌<◌, [], ◌∷◌, ◌++◌, None, sym, ◌∙◌, ap, subst, arith}
use Rattle.std.proofs.lemmas.List.{get_or_read}
use Rattle.chorus_ruled_ends.specs.Ruled.{received_by, empties_by, name_from}
use Rattle.chorus_ruled_ends.proofs.Lists.{within, if-some, if-none}
use Rattle.chorus_ruled_ends.proofs.Moving.{counts-received, receives, receives-nothing, empty-rose}
use Rattle.chorus_ruled_ends.proofs.ruled_ends.receive_from.Goals as goal

pub index_mut-requires : goal.index_mut-requires
index_mut-requires g c = let h = within c.args.into.now.items c.args.place c.requires in omega (arith, h)

pub returns-clause-counts : goal.returns-clause-counts
returns-clause-counts g c =
    let xs = c.args.into.now.items in
    let lt = within xs c.args.place c.requires in
    let u = get_or_read xs c.args.place c.index_mut.result.now lt c.index_mut.ensures.value None in
    λ out.
    counts-received (record { out = out; into = xs }) c.args.place c.receive.new.slot lt (c.receive.ensures.name ∙ ap name_from u) (c.receive.ensures.there ∙ sym c.requires)
    (subst (λ s. empties_by s ≤ empties_by c.receive.new.slot) u c.receive.ensures.empties)

pub returns-clause-received : goal.returns-clause-received
returns-clause-received g c =
    let xs = c.args.into.now.items in
    let lt = within xs c.args.place c.requires in
    let u = get_or_read xs c.args.place c.index_mut.result.now lt c.index_mut.ensures.value None in
    if-some c.receive.result
    (λ frame e out. receives (record { out = out; into = xs }) c.args.place c.receive.new.slot lt frame (subst (λ s. received_by c.receive.new.slot ≡ received_by s ++ frame ∷ []) u e))
    c.receive.ensures.got

pub returns-clause-unmoved : goal.returns-clause-unmoved
returns-clause-unmoved g c =
    let xs = c.args.into.now.items in
    let lt = within xs c.args.place c.requires in
    let u = get_or_read xs c.args.place c.index_mut.result.now lt c.index_mut.ensures.value None in
    if-none c.receive.result (λ e out. receives-nothing (record { out = out; into = xs }) c.args.place c.receive.new.slot lt (e ∙ ap received_by u)) c.receive.ensures.unmoved

pub returns-clause-empty : goal.returns-clause-empty
returns-clause-empty g c =
    let xs = c.args.into.now.items in
    let lt = within xs c.args.place c.requires in
    let u = get_or_read xs c.args.place c.index_mut.result.now lt c.index_mut.ensures.value None in
    if-none c.receive.result
    (λ e out. empty-rose (record { out = out; into = xs }) c.args.place c.receive.new.slot lt (subst (λ s. empties_by s < empties_by c.receive.new.slot) u e))
    c.receive.ensures.empty
