use Rattle.std.proofs.Common.{ℕ, ◌≡◌, ◌≤◌, ◌<◌, [], ◌∷◌, ◌++◌, None, sym, ◌∙◌, ap, subst, arith}
use Rattle.std.proofs.lemmas.List.{get_or_read}
use Rattle.chorus_ruled_ends.specs.Ruled.{sent_by, fulls_by, name_to}
use Rattle.chorus_ruled_ends.proofs.Lists.{within, on-ok, on-err}
use Rattle.chorus_ruled_ends.proofs.Moving.{counts-sent, sends, sends-nothing, full-rose}
use Rattle.chorus_ruled_ends.proofs.ruled_ends.send_to.Goals as goal

pub index_mut-requires : goal.index_mut-requires
index_mut-requires g c = let h = within c.args.out.now.items c.args.place c.requires in omega (arith, h)

pub returns-clause-counts : goal.returns-clause-counts
returns-clause-counts g c =
    let xs = c.args.out.now.items in
    let lt = within xs c.args.place c.requires in
    let u = get_or_read xs c.args.place c.index_mut.result.now lt c.index_mut.ensures.value None in
    λ into.
    counts-sent (record { out = xs; into = into }) c.args.place c.send.new.slot lt (c.send.ensures.name ∙ ap name_to u) (c.send.ensures.there ∙ sym c.requires)
    (subst (λ s. fulls_by s ≤ fulls_by c.send.new.slot) u c.send.ensures.fulls)

pub returns-clause-sent : goal.returns-clause-sent
returns-clause-sent g c =
    let xs = c.args.out.now.items in
    let lt = within xs c.args.place c.requires in
    let u = get_or_read xs c.args.place c.index_mut.result.now lt c.index_mut.ensures.value None in
    on-ok c.send.result
    (λ e into. sends (record { out = xs; into = into }) c.args.place c.send.new.slot lt c.args.frame (subst (λ s. sent_by c.send.new.slot ≡ sent_by s ++ c.args.frame ∷ []) u e))
    c.send.ensures.sent

pub returns-clause-unmoved : goal.returns-clause-unmoved
returns-clause-unmoved g c =
    let xs = c.args.out.now.items in
    let lt = within xs c.args.place c.requires in
    let u = get_or_read xs c.args.place c.index_mut.result.now lt c.index_mut.ensures.value None in
    on-err c.send.result (λ e into. sends-nothing (record { out = xs; into = into }) c.args.place c.send.new.slot lt (e ∙ ap sent_by u)) c.send.ensures.unmoved

pub returns-clause-full : goal.returns-clause-full
returns-clause-full g c =
    let xs = c.args.out.now.items in
    let lt = within xs c.args.place c.requires in
    let u = get_or_read xs c.args.place c.index_mut.result.now lt c.index_mut.ensures.value None in
    on-err c.send.result
    (λ e into. full-rose (record { out = xs; into = into }) c.args.place c.send.new.slot lt (subst (λ s. fulls_by s < fulls_by c.send.new.slot) u e))
    c.send.ensures.full
