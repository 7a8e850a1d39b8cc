-- What an event is: a turn of its place, its caller and its packet, and what it puts is from the place.
use Rattle.std.proofs.Common.{ℕ, ◌≡◌, List, [], ◌∷◌, ◌++◌, map}
use Rattle.std.specs.List.{All}
use Rattle.std.proofs.lemmas.List.Elements.{All-nil, All-cons, All-append}
use Rattle.chorus_entry.specs.declared.command.Command.{Command}
use Rattle.chorus_entry.specs.declared.packet.Packet.{Packet}
use Rattle.chorus_entry.specs.declared.packet.Cargo.{Cargo}
use Rattle.chorus_calls.specs.Callers.{Seated}
use Rattle.law_machine.specs.PlaceState.{PlaceState, Turn, Change, packed}
use Rattle.law_machine.specs.PlaceMachine.{begun, begun_by, act, work}
use Rattle.law_machine.proofs.Machine.Chains.{act-keeps, work-keeps}
use Rattle.law_explore.proofs.Packets.{IsFrom}

pub record Puts (p : ℕ) (t : Turn) : Type 0 where
  pub number : t.place.number ≡ p
  pub puts : All (IsFrom p) t.puts

all-packed : (p : ℕ) (t : Turn) (loads : List (ℕ × Cargo)) → t.place.number ≡ p → All (IsFrom p) (map (packed t) loads)
all-packed p t [] n = All-nil (IsFrom p)
all-packed p t (load ∷ loads) n = All-cons (IsFrom p) (packed t load) (map (packed t) loads) n (all-packed p t loads n)

one-more : (p : ℕ) (c : Change) (t : Turn) → Puts p t → All (IsFrom p) (t.puts ++ map (packed t) c.loads)
one-more p c t h = All-append (IsFrom p) t.puts (map (packed t) c.loads) h.puts (all-packed p t c.loads h.number)

pub act-puts : (c : Command) (s : PlaceState) (w : Seated) (p : ℕ) → s.number ≡ p → Puts p (act c (begun s w))
act-puts c s w p e =
    act-keeps (Puts p) (λ a x u n h. record { number = h.number; puts = one-more p x u h }) c (begun s w) (record { number = e; puts = All-nil (IsFrom p) })

pub work-puts : (k : Packet) (s : PlaceState) (w : Seated) (p : ℕ) → s.number ≡ p → Puts p (work k (begun_by s w k))
work-puts k s w p e =
    work-keeps (Puts p) (λ a x u n h. record { number = h.number; puts = one-more p x u h }) k (begun_by s w k) (record { number = e; puts = All-nil (IsFrom p) })
