-- A turn with a packet that brings an entry is a chain of entries: a first one, and then others that answer no command.
use Rattle.std.proofs.Common.{ℕ, ◌≡◌, true}
use Rattle.std.proofs.lemmas.Bool.{false≢true}
use Rattle.chorus_entry.specs.declared.act.Act.{Act}
use Rattle.chorus_entry.specs.declared.dest.Dest.TheVariants as dests
use Rattle.chorus_entry.specs.declared.packet.Packet.{Packet}
use Rattle.chorus_entry.specs.declared.packet.Cargo.{Cargo}
use Rattle.chorus_entry.specs.declared.packet.Cargo.TheVariants as cargos
use Rattle.law_machine.specs.PlaceState.{Turn, Change, say}
use Rattle.law_machine.specs.PlaceMachine.{work}
use Rattle.law_machine.proofs.Machine.Steps.{opening}
use Rattle.law_machine.proofs.Machine.Follows.{IsSame}
use Rattle.law_machine.proofs.Machine.Chains.{Brings}
use Rattle.law_machine.proofs.Machine.Chains as chains
use Rattle.law_history.specs.PlaceTurns.{brings_entry}

brings : (from : ℕ) (c : Cargo) (t : Turn) → brings_entry c ≡ true → Brings (opening from c t)
brings from (cargos.Ask m (dests.Port q)) t b = absurd (false≢true b)
brings from _ t b = tt

-- what every entry of the same caller keeps and the first one gives, the turn gives
pub work-gives : (P : Turn → Type 0) → ((a : Act) (c : Change) (t : Turn) → IsSame c.caller t.caller → P t → P (say a c t)) → (t : Turn)
    → ((a : Act) (c : Change) → IsSame c.caller t.caller → P (say a c t)) → (k : Packet) → brings_entry k.cargo ≡ true → P (work k t)
work-gives P keeps t first k b = chains.work-gives P keeps k t (brings k.from k.cargo t b) first
