-- Examples, each computed: the takes of two seats from one port, and lists, none of them legal, of which the laws of order are not so.
use Rattle.std.proofs.Common.{ℕ, ◌≡◌, ◌<◌, true, List, [], ◌∷◌, refl, subst, arith}
use Rattle.std.specs.List.{All}
use Rattle.std.proofs.lemmas.List.Elements.{All-nil, All-cons, All-head}
use Rattle.chorus_entry.specs.declared.dest.Dest.{Dest}
use Rattle.chorus_entry.specs.declared.entry.Entry.{Entry}
use Rattle.chorus_entry.specs.declared.id.MsgId.{MsgId}
use Rattle.chorus_entry.specs.declared.tag.Tag.{Tag}
use Rattle.chorus_entry.specs.declared.act.Act.{Act}
use Rattle.chorus_world.specs.Steps.{is_legal}
use Rattle.chorus_world.specs.Views.{by, on}
use Rattle.chorus_world.proofs.Examples.Names.{actor, first, now, port, second, third, two_sites}
use Rattle.law_crews.proofs.Lists.{all-at}
use Rattle.law_crews.specs.Positions.{TakesInOrder, positions}

-- an entry of seat 1 at the first place
abbrev other : ℕ → Act → Entry
other t a = record { clock = t; place = 1; seat = 1; act = a }

abbrev posted : MsgId → Act
posted x = Act.Post (record { id = x; tag = Tag.Plain; body = 7 ∷ [] }) (Dest.Port port)

-- three messages wait in the port
abbrev pub waiting : List Entry
waiting =
    now 7 (Act.Accept third port 2) ∷ now 6 (posted third) ∷ now 5 (Act.Accept second port 1) ∷ now 4 (posted second) ∷ now 3 (Act.Accept first port 0) ∷ now 2 (posted first)
    ∷ now 1 (Act.Make port actor 3) ∷ []

-- seat 0 takes the first and the third, seat 1 the second
abbrev taken : List Entry
taken = now 10 (Act.Take port 2 third) ∷ other 9 (Act.Take port 1 second) ∷ now 8 (Act.Take port 0 first) ∷ waiting

is-so : (is_legal two_sites taken ≡ true) × (positions (on port (by 0 taken)) ≡ 0 ∷ 2 ∷ []) × (positions (on port (by 1 taken)) ≡ 1 ∷ [])
is-so = (refl, refl, refl)

-- they do not fall
not-turned : (past : List Entry) → TakesInOrder past 0 port (2 ∷ 0 ∷ []) → ⊥
not-turned past h = let falls : 2 < 0 = All-head (λ (k : ℕ). 2 < k) 0 [] h.rising.0 in omega (arith, falls)

-- and none is left out that nobody else took
abbrev skipped : List Entry
skipped = now 10 (Act.Take port 2 third) ∷ now 8 (Act.Take port 0 first) ∷ []

not-skipped : TakesInOrder skipped 0 port (0 ∷ 2 ∷ []) → ⊥
not-skipped h =
    let Own = λ (e : Entry). e.seat ≡ 0 in
    let own : All Own skipped = All-cons Own (now 10 (Act.Take port 2 third)) (now 8 (Act.Take port 0 first) ∷ []) refl (All-cons Own (now 8 (Act.Take port 0 first)) [] refl (All-nil Own)) in
    let low : 0 < 1 = omega arith in
    let high : 1 < 2 = omega arith in
    let took = h.between.0 1 low high in
    took.other (all-at Own took.stands.newer took.stands.older took.entry (subst (All Own) took.stands.is own))
