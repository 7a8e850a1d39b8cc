use Rattle.std.proofs.Common.{◌≡◌, ◌-◌, ◌&&◌, nat_le, List, length, get_or, sym, ◌∙◌, ap}
use Rattle.std.proofs.lemmas.Bool.{and_parts}
use Rattle.chorus_ui.specs.declared.ui.Ui.{Ui}
use Rattle.chorus_ui.specs.declared.layout.Layout.{Layout}
use Rattle.chorus_ui.specs.Layout.{has_place, has_site}
use Rattle.chorus_entry.specs.declared.command.Command.{Command}
use Rattle.chorus_entry.specs.Places.{place_for}
use Rattle.chorus_place.specs.Calls.{Place}
use Rattle.chorus_ports.specs.declared.ports.Ports.{Ports}
use Rattle.chorus_ports.specs.Table.{find}
use Rattle.chorus_ports.specs.Taking.{taken}
use Rattle.law_awaits.specs.Awaits.{is_taken}
use Rattle.law_machine.specs.Own.{take_act}
use Rattle.chorus_net.specs.Sites.{net}
use Rattle.chorus_net.proofs.Events.{caller-of, seat-given, stands-at-index}
use Rattle.chorus_replay.proofs.Answering.{at-place, caller-read}
use Rattle.chorus_replay.proofs.awaiting.would_take.Goals as goal

pub place_for-number-requires-clause-site : goal.place_for-number-requires-clause-site
place_for-number-requires-clause-site c =
    let s = c.args.sites.now in
    let k = c.args.seat in
    let x = c.index-callers-seat.result in
    let given = seat-given s.callers k (Command.Take c.args.port) c.requires in
    let found = caller-read s.callers c.callers.result.now k x c.callers.ensures given c.index-callers-seat.is in
    let has = (caller-of s.layout (net s) c.layout-layout.ensures.shape c.layout-layout.ensures.scheduled k x found).1 in
    ap (λ (l : Layout). has_site l c.actor-actor.result.site) c.layout-layout.ensures.value
    ∙ ap (λ (u : Ui). has_site s.layout u.site) c.actor-actor.ensures
    ∙ (and_parts (has_site s.layout x.actor.site) (nat_le 1 x.actor.number) (and_parts (has_site s.layout x.actor.site && nat_le 1 x.actor.number) (nat_le x.actor.number 8) has).0).0

pub returns : goal.returns
returns c =
    let s = c.args.sites.now in
    let k = c.args.seat in
    let q = c.args.port in
    let x = c.index-callers-seat.result in
    let p = c.index-places-from.result in
    let given = seat-given s.callers k (Command.Take q) c.requires in
    let found = caller-read s.callers c.callers.result.now k x c.callers.ensures given c.index-callers-seat.is in
    let here : place_for s.layout x.actor (Command.Take q) ≡ c.place_for-number.result =
    ap (λ (l : Layout). place_for l x.actor (Command.Take q)) (sym c.layout-layout.ensures.value)
    ∙ ap (λ (a : Ui). place_for c.layout-layout.result a (Command.Take q)) (sym c.actor-actor.ensures) ∙ sym c.place_for-number.ensures.value in
    let there = ap (λ (l : Layout). has_place l c.place_for-number.result) (sym c.layout-layout.ensures.value) ∙ c.place_for-number.ensures.in_layout in
    let stands = stands-at-index s.layout c.place_for-number.result c.from.result (length s.places) there c.from.ensures c.places.ensures.kept.all in
    let at = c.index-places-from.is ∙ ap (λ (ps : List Place). get_or ps (c.from.result - 1) p) c.places.ensures.value in
    c.gives.ensures
    ∙ ap (λ (a : Ui). is_taken (take_act q (taken a (find q c.ports.result.now.records)))) c.actor-actor.ensures
    ∙ ap (λ rs. is_taken (take_act q (taken x.actor (find q rs)))) (ap (λ (z : Ports). z.records) c.ports.ensures ∙ ap (λ (z : Place). z.ports) c.tables.ensures)
    ∙ sym (at-place s k (c.from.result - 1) q x p c.places.ensures.kept c.requires found (here ∙ stands.0) stands.1 at)
