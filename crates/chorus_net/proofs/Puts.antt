-- What a turn puts comes from its place; and a turn with a lawful packet ticks its caller.
use Rattle.std.proofs.Common.{ℕ, ◌≡◌, ◌<◌, ◌≤◌, true, List, [], ◌∷◌, map, refl, sym, subst, arith}
use Rattle.std.specs.List.{All}
use Rattle.std.proofs.lemmas.Bool.{false≢true}
use Rattle.std.proofs.lemmas.List.Elements.{All-nil, All-cons, All-append}
use Rattle.chorus_entry.specs.declared.act.Act.{Act}
use Rattle.chorus_entry.specs.declared.command.Command.{Command}
use Rattle.chorus_entry.specs.declared.dest.Dest.TheVariants as dests
use Rattle.chorus_entry.specs.declared.packet.Packet.{Packet}
use Rattle.chorus_entry.specs.declared.packet.Cargo.{Cargo}
use Rattle.chorus_entry.specs.declared.packet.Cargo.TheVariants as cargos
use Rattle.law_machine.specs.declared.outgoing.Outgoing.{Outgoing}
use Rattle.law_machine.specs.PlaceState.{Turn, Change, packed, say}
use Rattle.law_machine.specs.PlaceMachine.{act, work}
use Rattle.law_machine.specs.Lawful.{is_lawful_cargo}
use Rattle.law_machine.proofs.Machine.Chains.{Brings, act-keeps, work-gives, work-keeps}
use Rattle.law_machine.proofs.Machine.Steps.{opening}
use Rattle.law_machine.proofs.Machine.Follows.{IsSame}

-- all that was put comes from the place, whose number is p
record PutsFrom (p : ℕ) (t : Turn) : Type 0 where
  number : t.place.number ≡ p
  puts : All (λ (o : Outgoing). o.packet.from ≡ p) t.puts

packed-from : (p : ℕ) (t : Turn) (loads : List (ℕ × Cargo)) → t.place.number ≡ p → All (λ (o : Outgoing). o.packet.from ≡ p) (map (packed t) loads)
packed-from p t [] e = All-nil (λ (o : Outgoing). o.packet.from ≡ p)
packed-from p t (k ∷ ks) e = All-cons (λ (o : Outgoing). o.packet.from ≡ p) (packed t k) (map (packed t) ks) e (packed-from p t ks e)

says-from : (p : ℕ) (a : Act) (c : Change) (t : Turn) → IsSame c.caller t.caller → PutsFrom p t → PutsFrom p (say a c t)
says-from p a c t s h = record {
  number = h.number;
  puts = All-append (λ (o : Outgoing). o.packet.from ≡ p) t.puts (map (packed t) c.loads) h.puts (packed-from p t c.loads h.number);
}

begins-from : (t : Turn) → t.puts ≡ [] → PutsFrom t.place.number t
begins-from t e = record {
  number = refl;
  puts = subst (All (λ (o : Outgoing). o.packet.from ≡ t.place.number)) (sym e) (All-nil (λ (o : Outgoing). o.packet.from ≡ t.place.number));
}

pub act-from : (c : Command) (t : Turn) → t.puts ≡ [] → All (λ (o : Outgoing). o.packet.from ≡ t.place.number) (act c t).puts
act-from c t e = (act-keeps (PutsFrom t.place.number) (says-from t.place.number) c t (begins-from t e)).puts

pub work-from : (k : Packet) (t : Turn) → t.puts ≡ [] → All (λ (o : Outgoing). o.packet.from ≡ t.place.number) (work k t).puts
work-from k t e = (work-keeps (PutsFrom t.place.number) (says-from t.place.number) k t (begins-from t e)).puts

-- A turn with a lawful packet says something, so its caller's clock rises.

rises : (n : ℕ) (a : Act) (c : Change) (t : Turn) → n ≤ t.caller.last → n < (say a c t).caller.last
rises n a c t le = omega (arith, le)

pub work-ticks : (k : Packet) (t : Turn) → is_lawful_cargo k.clock k.from k.cargo t.place ≡ true → t.caller.last < (work k t).caller.last
work-ticks k t h =
    work-gives (λ (u : Turn). t.caller.last < u.caller.last) (λ a c u s lt. rises t.caller.last a c u (omega (arith, lt))) k t (by k.cargo h) (λ a c s. omega arith)
  where
    by : (c : Cargo) → is_lawful_cargo k.clock k.from c t.place ≡ true → Brings (opening k.from c t)
    by (cargos.Ask m (dests.Port q)) h = absurd (false≢true h)
    by _ h = tt
