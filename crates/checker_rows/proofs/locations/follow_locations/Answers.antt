use Rattle.std.proofs.Common.{ap, sym, refl, ◌∙◌, Some}
use Rattle.std.specs.HashMap.{get}
use Rattle.std.proofs.lemmas.Bool.{eq-eqb}
use Rattle.chorus_ui.proofs.Names.{same_ui-self}
use Rattle.chorus_world.specs.Places.{farther}
use Rattle.checker_rows.specs.Keys.{same_name_at}
use Rattle.checker_rows.specs.Locations.{location_after, location_in}
use Rattle.checker_rows.specs.declared.keys.NameAt.{NameAt}
use Rattle.checker_rows.proofs.LocationLemmas.{location_apart, location_own, put_location}
use Rattle.checker_rows.proofs.locations.follow_locations.Goals as goal

pub returns-in-Some : goal.returns-in-Some
returns-in-Some c =
    let e = c.args.entry.now in
    let t = c.in-Some.lesson in
    let key : NameAt = record { place = e.place; name = t.port } in
    put_location (get same_name_at c.args.locations.now) (get same_name_at c.put.new.rows) c.args.layout key c.farther.result (λ k at. location_after k e c.args.sent at) c.put.ensures.rows
    (c.farther.ensures ∙ (ap (λ at. farther at (Some t.location)) c.location_in-known.ensures
    ∙ sym (location_own key e c.args.sent t (sym c.in-Some.ensures) (eq-eqb e.place e.place refl) (same_ui-self t.port) (location_in c.args.layout c.args.locations.now key))))
    (λ q h at. location_apart q e c.args.sent t (sym c.in-Some.ensures) h at)
