use Rattle.std.proofs.Common.{◌≡◌, ◌-◌, true, length, sym, ◌∙◌, ap, subst}
use Rattle.std.proofs.lemmas.Bool.{eqb-false, eqb-true}
use Rattle.chorus_ui.specs.Layout.{has_place}
use Rattle.place_outbox.specs.Waiting.{count}
use Rattle.law_network.specs.Packets.{first_on}
use Rattle.chorus_net.specs.Sites.{SitesState, boxes, net, waiting_in, IsSending}
use Rattle.chorus_net.proofs.Events.{stands-at-index}
use Rattle.chorus_net.proofs.Rounds.{idle-first}
use Rattle.chorus_net.proofs.Waiting.{sends}
use Rattle.chorus_net.proofs.sites.Sites.is_idle.Goals as goal

pub returns-clause-idle : goal.returns-clause-idle
returns-clause-idle c = λ e to has.
    let s : SitesState = record { layout = c.self.inside.layout; mark = c.self.inside.mark; places = c.self.inside.places.items; callers = c.self.inside.callers.items } in
    let h = c.self.invariant in
    let i = c.from.result - 1 in
    let p = c.index.result.now in
    let from : has_place c.self.inside.layout c.args.from ≡ true = ap (λ (v : SitesState). has_place v.layout c.args.from) c.self.view_is ∙ c.requires in
    let to-has : has_place c.self.inside.layout to ≡ true = ap (λ (v : SitesState). has_place v.layout to) c.self.view_is ∙ has in
    let fi = stands-at-index c.self.inside.layout c.args.from c.from.result (length c.self.inside.places.items) from c.from.ensures h.all in
    let none : count c.index.result.now.out.lists ≡ 0 = sym c.waiting.ensures ∙ eqb-true c.waiting.result 0 e in
    ap (λ (v : SitesState). first_on c.args.from to (waiting_in (boxes v.places))) (sym c.self.view_is)
    ∙ idle-first s c.args.from to i p h fi.0 fi.1 c.index.ensures to-has none

pub returns-clause-busy : goal.returns-clause-busy
returns-clause-busy c = λ e.
    let s : SitesState = record { layout = c.self.inside.layout; mark = c.self.inside.mark; places = c.self.inside.places.items; callers = c.self.inside.callers.items } in
    let h = c.self.invariant in
    let i = c.from.result - 1 in
    let p = c.index.result.now in
    let from : has_place c.self.inside.layout c.args.from ≡ true = ap (λ (v : SitesState). has_place v.layout c.args.from) c.self.view_is ∙ c.requires in
    let fi = stands-at-index c.self.inside.layout c.args.from c.from.result (length c.self.inside.places.items) from c.from.ensures h.all in
    subst (λ (v : SitesState). IsSending c.args.from (net v)) c.self.view_is
    (sends s c.args.from i p h fi.0 fi.1 c.index.ensures (λ none. eqb-false c.waiting.result 0 e (c.waiting.ensures ∙ none)))
