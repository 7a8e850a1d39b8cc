-- Decisions, and what is told of them, of which what the laws say fails, each in a past that is not legal.
use Rattle.std.proofs.Common.{◌≡◌, true, false, List, [], ◌∷◌, Some, None, refl, ap, arith}
use Rattle.std.proofs.lemmas.Bool.{false≢true}
use Rattle.chorus_entry.specs.declared.answer.Answer.{Answer}
use Rattle.chorus_entry.specs.declared.entry.Entry.{Entry}
use Rattle.chorus_entry.specs.declared.act.Act.{Act}
use Rattle.chorus_world.specs.declared.spot.Spot.{Spot}
use Rattle.chorus_world.specs.Ports.{PortState}
use Rattle.chorus_world.specs.Always.{EachEntry}
use Rattle.chorus_world.specs.DecisionLaws.{FullWithoutRoom, MeetsWhereHeld, TellsTheVerdict}
use Rattle.chorus_world.proofs.Examples.Names.{actor, away, first, now, port}

abbrev made : List Entry
made = now 1 (Act.Make port actor 2) ∷ []

abbrev left_behind : List Entry
left_behind = now 2 (Act.Depart port 2 away 1) ∷ made

-- the place that the port has left accepts for it
not-held : EachEntry MeetsWhereHeld (now 3 (Act.Accept first port 0) ∷ left_behind) → ⊥
not-held h = let e : false ≡ true = h [] left_behind (now 3 (Act.Accept first port 0)) refl port refl in false≢true e

-- Full where nothing waits
not-full : EachEntry FullWithoutRoom (now 2 (Act.Full first port 0) ∷ made) → ⊥
not-full h =
    let found = h [] made (now 2 (Act.Full first port 0)) refl first port 0 refl in
    let state : PortState = record { capacity = 2; accepted = []; taken = 0; path = 1 ∷ []; spot = Spot.Held actor } in
    let known : Some state ≡ Some found.0 = found.1 in
    let same : state ≡ found.0 = cc in
    let capacity : 2 ≡ found.0.capacity = ap (λ (f : PortState). f.capacity) same in
    let zero_is : 0 ≡ found.0.capacity = found.3 in
    omega (arith, capacity, zero_is)

-- Told of what nobody decided
not-told : EachEntry TellsTheVerdict (now 2 (Act.Told first Answer.Gone) ∷ made) → ⊥
not-told h = let e : None ≡ Some Answer.Gone = h [] made (now 2 (Act.Told first Answer.Gone)) refl first Answer.Gone refl refl in absurd (cc)
