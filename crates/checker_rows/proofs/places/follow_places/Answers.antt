use Rattle.std.proofs.Common.{ap, sym, ◌∙◌, nat_eq}
use Rattle.std.proofs.lemmas.Bool.{eqb-true}
use Rattle.std.specs.HashMap.{get}
use Rattle.checker_rows.specs.Places.{no_place, place_after, place_here, place_in}
use Rattle.checker_rows.proofs.Keeping.{put_row}
use Rattle.checker_rows.proofs.PlaceLemmas.{place_apart, place_own}
use Rattle.checker_rows.proofs.places.follow_places.Goals as goal

pub returns : goal.returns
returns c =
    let e = c.args.entry.now in
    put_row nat_eq eqb-true no_place (λ p r. place_after p e r) (get nat_eq c.args.places.now) (get nat_eq c.put.new.rows) e.place c.place_here.result c.put.ensures.rows
    (c.place_here.ensures ∙ (ap (place_here e) c.place_in-row.ensures ∙ sym (place_own e (place_in c.args.places.now e.place))))
    (λ q h r. place_apart q e h r)
