use Rattle.std.proofs.Common.{refl, ◌+◌, length, map, sym, ◌∙◌, ap}
use Rattle.chorus_ui.specs.Layout.{places}
use Rattle.place_outbox.specs.Waiting.{Waiting}
use Rattle.place_unsettled.specs.Queues.{queue}
use Rattle.place_unsettled.specs.Unheard.{is_unheard}
use Rattle.chorus_ports.specs.Table.{Table}
use Rattle.chorus_place.specs.Calls.{Place}
use Rattle.chorus_explore.specs.AlikeSites.Packets.{are_plain}
use Rattle.chorus_explore.proofs.AlikeSites.Networks.{same-tables}
use Rattle.chorus_explore.proofs.alike_sites.places.is_same_place.Goals as goal

pub are_same_packets-requires-clause-one : goal.are_same_packets-requires-clause-one
are_same_packets-requires-clause-one c =
    ap (λ (o : Waiting). length o.lists) c.out.ensures
    ∙ ap (λ (p : Place). length p.out.lists) c.tables-mine.ensures
    ∙ c.requires.lists
    ∙ ap (λ n. n + 1) (ap places (sym c.layout.ensures) ∙ sym c.places.ensures.value)

pub are_same_packets-requires-clause-other : goal.are_same_packets-requires-clause-other
are_same_packets-requires-clause-other c =
    ap (λ (o : Waiting). length o.lists) c.out-2.ensures
    ∙ ap (λ (p : Place). length p.out.lists) c.tables-theirs.ensures
    ∙ c.requires.others
    ∙ ap (λ n. n + 1) (ap places (sym c.layout.ensures) ∙ sym c.places.ensures.value)

pub returns : goal.returns
returns c = λ e.
    same-tables c.args.asks c.tables-mine.result.now c.tables-theirs.result.now c.args.one.now c.args.other.now
    c.tables-mine.ensures c.tables-theirs.ensures c.requires.layout c.requires.number
    (sym (c.records.ensures ∙ ap (λ (t : Table). t.records) c.ports.ensures) ∙ (c.if-not-are_same_records.ensures refl) ∙ c.records-2.ensures ∙ ap (λ (t : Table). t.records) c.ports-2.ensures)
    (sym c.hints.ensures ∙ (c.if-not-are_same_hints.ensures refl) ∙ c.hints-2.ensures)
    (sym (ap queue c.waits.ensures) ∙ (c.if-not-are_same_waits.ensures refl) ∙ ap queue c.waits-2.ensures)
    (sym (ap is_unheard c.unheard.ensures) ∙ (c.if-not-are_same_unheard.ensures refl) ∙ ap is_unheard c.unheard-2.ensures)
    (sym (ap (λ (o : Waiting). map are_plain o.lists) c.out.ensures) ∙ (c.if-not-are_same_packets.ensures refl) ∙ ap (λ (o : Waiting). map are_plain o.lists) c.out-2.ensures)
    (c.in_ok-told.ensures e)
