use Rattle.std.proofs.Common.{◌≡◌, ℕ, subst, arith}
use Rattle.chorus_io.specs.Count.{Rose}
use Rattle.chorus_ends.specs.Links.{Receives}
use Rattle.chorus_ruled_ends.specs.Ruled.{Ruled, links, end_from, empties_by}
use Rattle.chorus_ruled_ends.proofs.Lists.{if-some, if-none}
use Rattle.chorus_ruled_ends.proofs.ruled_ends.RuledEndsMoves.pop.Goals as goal

pub returns-clause-received : goal.returns-clause-received
returns-clause-received g c =
    let now : Ruled = record { out = c.self.inside.out.items; into = c.receive_from.new.into.items } in
    let e : c.from.result ≡ c.args.from = omega arith in
    if-some c.receive_from.result
    (λ parcel h.
    subst (λ (n : ℕ). Receives n parcel (links c.args.self.now) (links now)) e
    (subst (λ (r : Ruled). Receives c.from.result parcel (links r) (links now)) c.self.view_is (h c.self.inside.out.items)))
    c.receive_from.ensures.received

pub returns-clause-empty : goal.returns-clause-empty
returns-clause-empty g c =
    let now : Ruled = record { out = c.self.inside.out.items; into = c.receive_from.new.into.items } in
    let e : c.from.result ≡ c.args.from = omega arith in
    if-none c.receive_from.result
    (λ h.
    subst (λ (n : ℕ). Rose (empties_by (end_from n c.args.self.now)) (empties_by (end_from n now))) e
    (subst (λ (r : Ruled). Rose (empties_by (end_from c.from.result r)) (empties_by (end_from c.from.result now))) c.self.view_is (h c.self.inside.out.items)))
    c.receive_from.ensures.empty
