use Rattle.std.proofs.Common.{◌≡◌, ℕ, subst, arith}
use Rattle.chorus_io.specs.Count.{Rose}
use Rattle.chorus_ruled_ends.specs.Ruled.{Ruled, end_to, fulls_by}
use Rattle.chorus_ruled_ends.proofs.ruled_ends.RuledEndsMoves.push.Goals.{in-Ok-send_to, in-Err-send_to}
use Rattle.chorus_ruled_ends.proofs.ruled_ends.RuledEndsMoves.push.Goals as goal

pub returns-clause-full : goal.returns-clause-full
returns-clause-full g c =
    let now : Ruled = record { out = c.send_to.new.out.items; into = c.self.inside.into.items } in
    let e : c.from.result ≡ c.args.to = omega arith in
    elim c.match-send_to.branch [
      | in-Ok-send_to w ↦ rw w.result-is tt
      | in-Err-send_to w ↦ rw w.result-is
          (λ _.
          subst (λ (n : ℕ). Rose (fulls_by (end_to n c.args.self.now)) (fulls_by (end_to n now))) e
          (subst (λ (r : Ruled). Rose (fulls_by (end_to c.from.result r)) (fulls_by (end_to c.from.result now))) c.self.view_is (w.in-Err-send_to.ensures.full c.self.inside.into.items)))
    ]
