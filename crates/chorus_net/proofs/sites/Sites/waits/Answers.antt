use Rattle.std.proofs.Common.{◌≡◌, ◌-◌, length, set, is_some, slice_get, Some, None, true, sym, ◌∙◌, ap, subst, arith}
use Rattle.chorus_ui.specs.Layout.{has_place}
use Rattle.place_outbox.specs.Waiting.{list_to}
use Rattle.law_network.specs.Packets.{first_on}
use Rattle.chorus_net.specs.Room.{KeepRoom}
use Rattle.chorus_net.specs.Sites.{SitesState, boxes, net, waiting_in}
use Rattle.chorus_net.proofs.Events.{kept-net, kept-sites, stands-at-index}
use Rattle.chorus_net.proofs.Rooms.{keep-set}
use Rattle.chorus_net.proofs.Waiting.{back-stays, first-waiting, none-stays}
use Rattle.chorus_net.proofs.sites.Sites.waits.Goals as goal

pub invariant_of-self-2 : goal.invariant_of-self-2
invariant_of-self-2 c =
    let s : SitesState = record { layout = c.self.inside.layout; mark = c.self.inside.mark; places = c.self.inside.places.items; callers = c.self.inside.callers.items } in
    let h = c.self.invariant in
    let i = c.from.result - 1 in
    let p = c.index_mut-place.result.now in
    let from : has_place c.self.inside.layout c.args.from ≡ true = ap (λ (v : SitesState). has_place v.layout c.args.from) c.self.view_is ∙ c.requires.from in
    let to : has_place c.self.inside.layout c.args.to ≡ true = ap (λ (v : SitesState). has_place v.layout c.args.to) c.self.view_is ∙ c.requires.to in
    let fi = stands-at-index c.self.inside.layout c.args.from c.from.result (length c.self.inside.places.items) from c.from.ensures h.all in
    let some : slice_get (list_to c.args.to c.index_mut-place.result.now.out.lists) 0 ≡ Some c.in-Some.packet = sym c.out.ensures.value ∙ c.in-Some.is in
    let stays = back-stays c.args.to p c.out.new.self c.out.ensures.state c.out.ensures.waits c.out.ensures.puts c.out.ensures.spare c.put_back.new.self c.in-Some.packet some
    c.put_back.ensures.state c.put_back.ensures.waits c.put_back.ensures.puts c.put_back.ensures.spare in
    kept-sites s i p c.put_back.new.self h fi.1 c.index_mut-place.ensures.value stays

pub returns-clause-value : goal.returns-clause-value
returns-clause-value c =
    let s : SitesState = record { layout = c.self.inside.layout; mark = c.self.inside.mark; places = c.self.inside.places.items; callers = c.self.inside.callers.items } in
    let h = c.self.invariant in
    let i = c.from.result - 1 in
    let p = c.index_mut-place.result.now in
    let from : has_place c.self.inside.layout c.args.from ≡ true = ap (λ (v : SitesState). has_place v.layout c.args.from) c.self.view_is ∙ c.requires.from in
    let to : has_place c.self.inside.layout c.args.to ≡ true = ap (λ (v : SitesState). has_place v.layout c.args.to) c.self.view_is ∙ c.requires.to in
    let fi = stands-at-index c.self.inside.layout c.args.from c.from.result (length c.self.inside.places.items) from c.from.ensures h.all in
    let some : slice_get (list_to c.args.to c.index_mut-place.result.now.out.lists) 0 ≡ Some c.in-Some.packet = sym c.out.ensures.value ∙ c.in-Some.is in
    sym (ap is_some (ap (λ (v : SitesState). first_on c.args.from c.args.to (waiting_in (boxes v.places))) (sym c.self.view_is)
    ∙ first-waiting s c.args.from c.args.to i p h fi.0 fi.1 c.index_mut-place.ensures.value to ∙ some))

pub returns-clause-same : goal.returns-clause-same
returns-clause-same c =
    let s : SitesState = record { layout = c.self.inside.layout; mark = c.self.inside.mark; places = c.self.inside.places.items; callers = c.self.inside.callers.items } in
    let h = c.self.invariant in
    let i = c.from.result - 1 in
    let p = c.index_mut-place.result.now in
    let from : has_place c.self.inside.layout c.args.from ≡ true = ap (λ (v : SitesState). has_place v.layout c.args.from) c.self.view_is ∙ c.requires.from in
    let to : has_place c.self.inside.layout c.args.to ≡ true = ap (λ (v : SitesState). has_place v.layout c.args.to) c.self.view_is ∙ c.requires.to in
    let fi = stands-at-index c.self.inside.layout c.args.from c.from.result (length c.self.inside.places.items) from c.from.ensures h.all in
    let some : slice_get (list_to c.args.to c.index_mut-place.result.now.out.lists) 0 ≡ Some c.in-Some.packet = sym c.out.ensures.value ∙ c.in-Some.is in
    let stays = back-stays c.args.to p c.out.new.self c.out.ensures.state c.out.ensures.waits c.out.ensures.puts c.out.ensures.spare c.put_back.new.self c.in-Some.packet some
    c.put_back.ensures.state c.put_back.ensures.waits c.put_back.ensures.puts c.put_back.ensures.spare in
    kept-net s i p c.put_back.new.self h fi.1 c.index_mut-place.ensures.value stays ∙ ap net c.self.view_is

pub invariant_of-self : goal.invariant_of-self
invariant_of-self c =
    let s : SitesState = record { layout = c.self.inside.layout; mark = c.self.inside.mark; places = c.self.inside.places.items; callers = c.self.inside.callers.items } in
    let h = c.self.invariant in
    let i = c.from.result - 1 in
    let p = c.index_mut-place.result.now in
    let from : has_place c.self.inside.layout c.args.from ≡ true = ap (λ (v : SitesState). has_place v.layout c.args.from) c.self.view_is ∙ c.requires.from in
    let to : has_place c.self.inside.layout c.args.to ≡ true = ap (λ (v : SitesState). has_place v.layout c.args.to) c.self.view_is ∙ c.requires.to in
    let fi = stands-at-index c.self.inside.layout c.args.from c.from.result (length c.self.inside.places.items) from c.from.ensures h.all in
    let none : slice_get (list_to c.args.to c.index_mut-place.result.now.out.lists) 0 ≡ None = sym c.out.ensures.value ∙ c.in_default.is in
    let stays = none-stays c.args.to p c.out.new.self c.out.ensures.state c.out.ensures.waits c.out.ensures.puts c.out.ensures.spare none in
    kept-sites s i p c.out.new.self h fi.1 c.index_mut-place.ensures.value stays

pub returns-in_default-clause-value : goal.returns-in_default-clause-value
returns-in_default-clause-value c =
    let s : SitesState = record { layout = c.self.inside.layout; mark = c.self.inside.mark; places = c.self.inside.places.items; callers = c.self.inside.callers.items } in
    let h = c.self.invariant in
    let i = c.from.result - 1 in
    let p = c.index_mut-place.result.now in
    let from : has_place c.self.inside.layout c.args.from ≡ true = ap (λ (v : SitesState). has_place v.layout c.args.from) c.self.view_is ∙ c.requires.from in
    let to : has_place c.self.inside.layout c.args.to ≡ true = ap (λ (v : SitesState). has_place v.layout c.args.to) c.self.view_is ∙ c.requires.to in
    let fi = stands-at-index c.self.inside.layout c.args.from c.from.result (length c.self.inside.places.items) from c.from.ensures h.all in
    let none : slice_get (list_to c.args.to c.index_mut-place.result.now.out.lists) 0 ≡ None = sym c.out.ensures.value ∙ c.in_default.is in
    sym (ap is_some (ap (λ (v : SitesState). first_on c.args.from c.args.to (waiting_in (boxes v.places))) (sym c.self.view_is)
    ∙ first-waiting s c.args.from c.args.to i p h fi.0 fi.1 c.index_mut-place.ensures.value to ∙ none))

pub returns-in_default-clause-same : goal.returns-in_default-clause-same
returns-in_default-clause-same c =
    let s : SitesState = record { layout = c.self.inside.layout; mark = c.self.inside.mark; places = c.self.inside.places.items; callers = c.self.inside.callers.items } in
    let h = c.self.invariant in
    let i = c.from.result - 1 in
    let p = c.index_mut-place.result.now in
    let from : has_place c.self.inside.layout c.args.from ≡ true = ap (λ (v : SitesState). has_place v.layout c.args.from) c.self.view_is ∙ c.requires.from in
    let to : has_place c.self.inside.layout c.args.to ≡ true = ap (λ (v : SitesState). has_place v.layout c.args.to) c.self.view_is ∙ c.requires.to in
    let fi = stands-at-index c.self.inside.layout c.args.from c.from.result (length c.self.inside.places.items) from c.from.ensures h.all in
    let none : slice_get (list_to c.args.to c.index_mut-place.result.now.out.lists) 0 ≡ None = sym c.out.ensures.value ∙ c.in_default.is in
    let stays = none-stays c.args.to p c.out.new.self c.out.ensures.state c.out.ensures.waits c.out.ensures.puts c.out.ensures.spare none in
    kept-net s i p c.out.new.self h fi.1 c.index_mut-place.ensures.value stays ∙ ap net c.self.view_is

pub returns-in_default-clause-kept : goal.returns-in_default-clause-kept
returns-in_default-clause-kept c =
    subst (λ (v : SitesState). KeepRoom v.places (set c.self.inside.places.items (c.from.result - 1) c.out.new.self)) c.self.view_is
    (keep-set c.self.inside.places.items (c.from.result - 1) c.index_mut-place.result.now c.out.new.self c.index_mut-place.ensures.value c.out.ensures.spare)

pub returns-clause-kept : goal.returns-clause-kept
returns-clause-kept c =
    subst (λ (v : SitesState). KeepRoom v.places (set c.self.inside.places.items (c.from.result - 1) c.put_back.new.self)) c.self.view_is
    (keep-set c.self.inside.places.items (c.from.result - 1) c.index_mut-place.result.now c.put_back.new.self c.index_mut-place.ensures.value (let one = c.out.ensures.spare in let two = c.put_back.ensures.spare in omega (arith, one, two)))
