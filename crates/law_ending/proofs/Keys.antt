-- Where nothing is left no packet is.
use Rattle.std.proofs.Common.{◌≡◌, ◌≤◌, List, [], ◌∷◌, Option, Some, None, refl, arith}
use Rattle.chorus_ui.specs.declared.ui.Ui.{Ui}
use Rattle.chorus_entry.specs.declared.answer.Answer.{Answer}
use Rattle.chorus_entry.specs.declared.answer.Answer.TheVariants as answers
use Rattle.chorus_entry.specs.declared.packet.Cargo.{Cargo}
use Rattle.chorus_entry.specs.declared.packet.Cargo.TheVariants as cargos
use Rattle.law_machine.specs.declared.outgoing.Outgoing.{Outgoing}
use Rattle.law_network.specs.Network.{NetState}
use Rattle.law_network.specs.Left.{merged_past}
use Rattle.law_network.specs.Rank.{Bounds, told_rank, verdict_rank, cargo_rank, packets_rank, bounds, rank}

told-some : (r : Option Ui) → 1 ≤ told_rank r
told-some None = omega arith
told-some (Some g) = omega arith

one-at-least : (b : Bounds) (c : Cargo) → 1 ≤ cargo_rank b c
one-at-least b (cargos.Try m q route only hop) = omega arith
one-at-least b (cargos.Verdict x q route answer) = of answer
  where
    of : (a : Answer) → 1 ≤ verdict_rank (b.moved q) route a
    of (answers.Stale to hop) = omega arith
    of a = told-some route
one-at-least b (cargos.Transfer port) = omega arith
one-at-least b (cargos.Ask m d) = omega arith
one-at-least b (cargos.Report x answer) = omega arith

none-left : (b : Bounds) (os : List Outgoing) → packets_rank b os ≡ 0 → os ≡ []
none-left b [] z = refl
none-left b (o ∷ os) z = (let some = one-at-least b o.packet.cargo in absurd (omega (arith, some, z)))

pub no-packet-left : (n : NetState) → rank n ≡ 0 → n.packets ≡ []
no-packet-left n z = none-left (bounds (merged_past n)) n.packets (omega (arith, z))
