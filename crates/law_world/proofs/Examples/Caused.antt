-- Decisions: legal lists with each of them, and lists of which the laws of decisions are not so.
use Rattle.std.proofs.Common.{ℕ, zero, suc, ◌+◌, ◌*◌, ◌≡◌, ◌==◌, ◌||◌, true, false, List, [], ◌∷◌, length, Some, None, refl, ap, arith, inl, inr}
use Rattle.std.specs.List.{list_any}
use Rattle.std.proofs.lemmas.Bool.{eq-eqb, false≢true, true≢false}
use Rattle.std.specs.Prelude.{slice_get}
use Rattle.chorus_entry.specs.declared.dest.Dest.{Dest}
use Rattle.chorus_entry.specs.declared.entry.Entry.{Entry}
use Rattle.chorus_entry.specs.declared.tag.Tag.{Tag}
use Rattle.chorus_entry.specs.declared.tag.Tag.TheVariants as tags
use Rattle.chorus_entry.specs.declared.act.Act.{Act}
use Rattle.chorus_world.specs.declared.progress.Progress.{Progress}
use Rattle.chorus_world.specs.Always.{EachEntry}
use Rattle.chorus_world.specs.Steps.{may}
use Rattle.chorus_world.proofs.Examples.Names.{actor, away, first, now, other, port, second, two_sites}
use Rattle.law_world.specs.Decisions.{IsNextHere, DecidesWhatIsDue, DecidesByThePort, NoPortWasMade, HasAccepted, IsRepeated, AlreadyWhereAccepted, AreClients, IsOfOneTooMany, ClientsFullWhereManyAre}
use Rattle.law_world.proofs.Examples.Played.{id, posted, there}

-- a message is posted to a port of its place; before, the port was made, deleted, or neither
abbrev asks : List Entry → List Entry
asks past = now 3 (posted first Tag.Plain (Dest.Port port)) ∷ past

abbrev made : List Entry
made = now 1 (Act.Make port actor 1) ∷ []

abbrev deleted : List Entry
deleted = now 2 (Act.Delete port []) ∷ made

-- each time one decision is possible, and no other
made-accepts : (may two_sites (asks made) (now 4 (Act.Accept first port 0)) ≡ true) × (may two_sites (asks made) (now 4 (Act.Full first port 1)) ≡ false) × (may two_sites (asks made) (now 4 (Act.Gone first port)) ≡ false) × (may two_sites (asks made) (now 4 (Act.NoPort first port)) ≡ false) × (may two_sites (asks made) (now 4 (Act.Early first port 1)) ≡ false)
made-accepts = (refl, refl, refl, refl, refl)

deleted-is-gone : (may two_sites (asks deleted) (now 4 (Act.Gone first port)) ≡ true) × (may two_sites (asks deleted) (now 4 (Act.Accept first port 0)) ≡ false) × (may two_sites (asks deleted) (now 4 (Act.NoPort first port)) ≡ false)
deleted-is-gone = (refl, refl, refl)

unmade-is-no-port : (may two_sites (asks []) (now 4 (Act.NoPort first port)) ≡ true) × (may two_sites (asks []) (now 4 (Act.Accept first port 0)) ≡ false) × (may two_sites (asks []) (now 4 (Act.Gone first port)) ≡ false)
unmade-is-no-port = (refl, refl, refl)

-- the port was sent off to the second place, and a message comes there first
abbrev departed : List Entry
departed = now 4 (Act.Try first port 2 1) ∷ asks (now 2 (Act.Depart port 2 away 1) ∷ made)

departed-is-early : (may two_sites departed (there 5 (Act.Early first port 1)) ≡ true) × (may two_sites departed (there 5 (Act.NoPort first port)) ≡ false) × (may two_sites departed (there 5 (Act.Accept first port 0)) ≡ false)
departed-is-early = (refl, refl, refl)

-- where the port has arrived, it accepts, and no message is early
abbrev arrived : List Entry
arrived = there 5 (Act.Arrive port 1) ∷ departed

arrived-accepts : (may two_sites arrived (there 6 (Act.Accept first port 0)) ≡ true) × (may two_sites arrived (there 6 (Act.Early first port 1)) ≡ false)
arrived-accepts = (refl, refl)

-- a request is accepted, and posted again
abbrev retried : List Entry
retried =
    now 6 (posted second (Tag.Request 1 other) (Dest.Port port))
    ∷ now 5 (Act.Accept first port 0)
    ∷ now 4 (posted first (Tag.Request 1 other) (Dest.Port port))
    ∷ made

retried-is-already : (may two_sites retried (now 7 (Act.Already second port)) ≡ true) × (may two_sites retried (now 7 (Act.Full second port 1)) ≡ false) × (may two_sites retried (now 7 (Act.Accept second port 1)) ≡ false)
retried-is-already = (refl, refl, refl)

-- a later request of the client was not accepted
abbrev called_again : List Entry
called_again =
    now 7 (posted second (Tag.Request 2 other) (Dest.Port port))
    ∷ now 6 (Act.Cancel 1)
    ∷ now 5 (Act.Accept first port 0)
    ∷ now 4 (posted first (Tag.Request 1 other) (Dest.Port port))
    ∷ made

later-is-full : (may two_sites called_again (now 8 (Act.Full second port 1)) ≡ true) × (may two_sites called_again (now 8 (Act.Already second port)) ≡ false)
later-is-full = (refl, refl)

-- requests of n clients, seats 1 to n, are accepted
abbrev accepts : ℕ → List Entry
accepts zero = now 1 (Act.Make port actor 64) ∷ []
accepts (suc n) =
    now (2 * n + 3) (Act.Accept (id (suc n) 1) port n)
    ∷ record { clock = 2 * n + 2; place = 1; seat = suc n; act = posted (id (suc n) 1) (Tag.Request 1 other) (Dest.Port port) }
    ∷ accepts n

abbrev asks_too : ℕ → List Entry
asks_too n = now 200 (posted first (Tag.Request 1 other) (Dest.Port port)) ∷ accepts n

-- a 65th client finds no room among those that are remembered, though a 64th did
one-too-many : (may two_sites (asks_too 64) (now 201 (Act.ClientsFull first port)) ≡ true) × (may two_sites (asks_too 63) (now 201 (Act.ClientsFull first port)) ≡ false) × (may two_sites (asks_too 63) (now 201 (Act.Accept first port 63)) ≡ true)
one-too-many = (refl, refl, refl)

-- What the laws refuse.

-- the message that is next at its place
next : IsNextHere two_sites (asks made) 1 first port 0
next = record { first = refl; within = refl; known = refl; suits = refl }

-- Gone where the port is held, NoPort where it was made, Early where it was never sent off
not-gone : EachEntry (DecidesByThePort two_sites) (now 4 (Act.Gone first port) ∷ asks made) → ⊥
not-gone h = (let c = h [] (asks made) (now 4 (Act.Gone first port)) refl first port 0 refl refl (inr next) in false≢true (c.gone.0 refl))

not-unmade : EachEntry (DecidesByThePort two_sites) (now 4 (Act.NoPort first port) ∷ asks made) → ⊥
not-unmade h = (let c = h [] (asks made) (now 4 (Act.NoPort first port)) refl first port 0 refl refl (inr next) in true≢false (c.no_port.0 refl))

not-early : EachEntry (DecidesByThePort two_sites) (now 4 (Act.Early first port 1) ∷ asks made) → ⊥
not-early h =
    let c = h [] (asks made) (now 4 (Act.Early first port 1)) refl first port 0 refl refl (inr next) in
    let w = ((c.early 1).0 refl).0 in
    let e : Some (Act.Make port actor 1) ≡ Some (Act.Depart port 1 w.0 1) = w.1 in
    absurd (cc)

-- Accept where the port was deleted
not-met : EachEntry (DecidesByThePort two_sites) (now 4 (Act.Accept first port 0) ∷ asks deleted) → ⊥
not-met h =
    let due : IsNextHere two_sites (asks deleted) 1 first port 0 = record { first = refl; within = refl; known = refl; suits = refl } in
    let c = h [] (asks deleted) (now 4 (Act.Accept first port 0)) refl first port 0 refl refl (inr due) in
    let e : Act.Accept first port 0 ≡ Act.Gone first port = c.gone.1 refl in
    absurd (cc)

not-never-made : EachEntry NoPortWasMade (now 4 (Act.NoPort first port) ∷ asks made) → ⊥
not-never-made h = true≢false (h [] (asks made) (now 4 (Act.NoPort first port)) refl first port refl)

-- a decision on a message that was not sent
not-due : EachEntry (DecidesWhatIsDue two_sites) (now 4 (Act.Accept first port 0) ∷ made) → ⊥
not-due h =
    elim (h [] made (now 4 (Act.Accept first port 0)) refl first port refl refl refl) [
      | inl d ↦ elim d.1 [
        | inl t ↦ (let e : Progress.Idle ≡ Progress.Tried t.from port 1 d.0 = t.is in absurd (cc))
        | inr n ↦ false≢true n.first
      ]
      | inr r ↦ elim r [
        | inl off ↦ (let e : Act.Accept first port 0 ≡ Act.Elsewhere first port off.to off.hop = off.says in absurd (cc))
        | inr beyond ↦ (let e : Act.Accept first port 0 ≡ Act.NoPort first port = beyond.says in absurd (cc))
      ]
    ]

-- Already to what is no request, and an Accept of a request that was accepted
not-already : EachEntry AlreadyWhereAccepted (now 4 (Act.Already first port) ∷ asks made) → ⊥
not-already h =
    let r = (h [] (asks made) (now 4 (Act.Already first port)) refl first port refl refl).0 refl in
    let e : Tag.Plain ≡ tags.Request r.number r.request.0 = r.request.1 in
    absurd (cc)

accepted-before : IsRepeated retried second port
accepted-before =
    record {
      number = 1;
      request = (other, refl);
      accepted = record { position = 0; id = first; greater = 1; back = other; stands = refl; seat = refl; tag = refl; reaches = omega arith };
    }

not-again : EachEntry AlreadyWhereAccepted (now 7 (Act.Accept second port 1) ∷ retried) → ⊥
not-again h =
    let e : Act.Accept second port 1 ≡ Act.Already second port = (h [] retried (now 7 (Act.Accept second port 1)) refl second port refl refl).1 accepted-before in
    absurd (cc)

-- ClientsFull where the port accepted nothing
none-accepted : (c n : ℕ) → HasAccepted (asks made) port c n → ⊥
none-accepted c n a = by a.position a.stands
  where
    by : (i : ℕ) → slice_get [] i ≡ Some a.id → ⊥
    by i h = (let none : None ≡ Some a.id = h in cc)

not-full-of-clients : EachEntry ClientsFullWhereManyAre (now 4 (Act.ClientsFull first port) ∷ asks made) → ⊥
not-full-of-clients h = many r.clients r.all r.many
  where
    r : IsOfOneTooMany (asks made) first port
    r = (h [] (asks made) (now 4 (Act.ClientsFull first port)) refl first port refl refl).0 refl

    many : (cs : List ℕ) → AreClients (asks made) port cs → length cs ≡ 64 → ⊥
    many [] a e = (let bad : 0 ≡ 64 = e in omega (arith, bad))
    many (c ∷ cs) a e = none-accepted c 0 ((a.all c).0 (here c cs))
      where
        here : (c : ℕ) (cs : List ℕ) → (c == c) || list_any (λ m. m == c) cs ≡ true
        here c cs = ap (λ b. b || list_any (λ m. m == c) cs) (eq-eqb c c refl)
