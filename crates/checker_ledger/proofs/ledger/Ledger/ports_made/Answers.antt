use Rattle.std.proofs.Common.{ap, ◌∙◌, ◌≡◌, ◌<◌, ◌^◌, length, reverse, arith}
use Rattle.std.proofs.lemmas.List.{length-reverse}
use Rattle.chorus_world.specs.Places.{ports_made}
use Rattle.chorus_world.specs.Views.{at}
use Rattle.checker_rows.proofs.PlaceLemmas.{few_ports}
use Rattle.checker_ledger.proofs.ledger.Ledger.ports_made.Goals as goal

pub returns-clause-few : goal.returns-clause-few
returns-clause-few c =
    let past = reverse c.self.inside.entries.items in
    let p : c.place_in.result.ports ≡ ports_made (at c.args.place past) = ap (λ r. r.ports) (c.place_in.ensures ∙ c.self.invariant.1.places c.args.place) in
    let small : length c.self.inside.entries.items < 2 ^ 63 = omega arith in
    omega (arith, p, small, few_ports past c.args.place, length-reverse c.self.inside.entries.items)
