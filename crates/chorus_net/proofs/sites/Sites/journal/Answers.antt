use Rattle.std.proofs.Common.{◌≡◌, ◌-◌, length, true, sym, ◌∙◌, ap}
use Rattle.chorus_ui.specs.Layout.{has_place}
use Rattle.law_machine.specs.PlaceState.{PlaceState}
use Rattle.law_network.specs.Network.{place}
use Rattle.chorus_net.specs.Sites.{SitesState, net}
use Rattle.chorus_net.proofs.Changes.{finds}
use Rattle.chorus_net.proofs.Events.{stands-at-index}
use Rattle.chorus_net.proofs.sites.Sites.journal.Goals as goal

pub returns : goal.returns
returns c =
    let l = c.self.inside.layout in
    let ps = c.self.inside.places.items in
    let h = c.self.invariant in
    let has : has_place c.self.inside.layout c.args.place ≡ true = ap (λ (v : SitesState). has_place v.layout c.args.place) c.self.view_is ∙ c.requires in
    let at = stands-at-index c.self.inside.layout c.args.place c.from.result (length c.self.inside.places.items) has c.from.ensures h.all in
    c.journal.ensures
    ∙ ap (λ (z : PlaceState). z.journal) (sym (finds l l 1 (c.from.result - 1) c.args.place ps c.index.result.now h.places at.1 at.0 c.index.ensures))
    ∙ ap (λ (v : SitesState). (place c.args.place (net v)).journal) c.self.view_is
