-- Examples, each computed: looks in vain, and lists, none of them legal, of which the law of looks is not so.
use Rattle.std.proofs.Common.{ℕ, ◌≡◌, ◌<◌, ◌⊎◌, inl, inr, Bool, true, ◌&&◌, nat_lt, List, [], ◌∷◌, ◌++◌, refl, subst, arith}
use Rattle.std.specs.List.{All}
use Rattle.std.proofs.lemmas.Bool.{and_parts, ltb-true, true≢false}
use Rattle.std.proofs.lemmas.List.Elements.{All-nil, All-cons}
use Rattle.chorus_entry.specs.declared.entry.Entry.{Entry}
use Rattle.chorus_entry.specs.declared.act.Act.{Act}
use Rattle.chorus_world.proofs.Examples.Names.{actor, first, now, other, port, second, third}
use Rattle.law_crews.proofs.Examples.{waiting}
use Rattle.law_crews.proofs.Lists.{all-at}
use Rattle.law_choose.specs.Found.{FoundNothing, NothingWaited, WasNotHeld}

-- what stands before the newest entry
before : (e : Entry) (past newer older : List Entry) → All (λ (f : Entry). f.clock < e.clock) past → e ∷ past ≡ newer ++ e ∷ older → older ≡ past
before e past [] older a is = cc
before e past (f ∷ newer) older a is =
    let more : past ≡ newer ++ e ∷ older = cc in
    absurd (let late = all-at (λ (g : Entry). g.clock < e.clock) newer older e (subst (All (λ (g : Entry). g.clock < e.clock)) more a) in omega (arith, late))

abbrev are_below : ℕ → List Entry → Bool
are_below n [] = true
are_below n (e ∷ es) = nat_lt e.clock n && are_below n es

below : (n : ℕ) (es : List Entry) → are_below n es ≡ true → All (λ (f : Entry). f.clock < n) es
below n [] h = All-nil (λ (f : Entry). f.clock < n)
below n (e ∷ es) h =
    let two = and_parts (nat_lt e.clock n) (are_below n es) h in
    All-cons (λ (f : Entry). f.clock < n) e es (ltb-true e.clock n two.0) (below n es two.1)

abbrev empty : Entry
empty = now 8 (Act.Empty port)

all-below : All (λ (g : Entry). g.clock < 8) waiting
all-below = below 8 waiting refl

-- three messages wait, so none is empty
not-empty : FoundNothing (empty ∷ waiting) 0 actor port empty → ⊥
not-empty h = by h.tells
  where
    same : h.look.stands.older ≡ waiting
    same = before empty waiting h.look.stands.newer h.look.stands.older all-below h.look.stands.is

    by : ((empty.act ≡ Act.Empty port) × NothingWaited actor port h.look.stands.older) ⊎ ((empty.act ≡ Act.NotHere port) × WasNotHeld actor port h.look.stands.older) → ⊥
    by (inl (act, waited)) = let none : 0 ≡ 3 = (subst (NothingWaited actor port) same waited).1 in omega (arith, none)
    by (inr (act, held)) = true≢false (subst (WasNotHeld actor port) same held)

-- they were taken, so nothing waits; and another port was never made
abbrev taken : List Entry
taken = now 10 (Act.Take port 2 third) ∷ now 9 (Act.Take port 1 second) ∷ now 8 (Act.Take port 0 first) ∷ waiting

is-empty : FoundNothing (now 12 (Act.NotHere other) ∷ now 11 (Act.Empty port) ∷ taken) 0 actor port (now 11 (Act.Empty port))
is-empty = record {
  look = record { stands = record { newer = now 12 (Act.NotHere other) ∷ []; older = taken; is = refl }; seat = refl };
  tells = inl (refl, (refl, refl));
}

is-elsewhere : FoundNothing (now 12 (Act.NotHere other) ∷ now 11 (Act.Empty port) ∷ taken) 0 actor other (now 12 (Act.NotHere other))
is-elsewhere = record {
  look = record { stands = record { newer = []; older = now 11 (Act.Empty port) ∷ taken; is = refl }; seat = refl };
  tells = inr (refl, refl);
}
