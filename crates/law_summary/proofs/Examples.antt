-- Examples, each computed: legal lists whose numbers are the world's, and lists, none of them legal, of which a number is not.
use Rattle.std.proofs.Common.{ℕ, ◌≡◌, true, List, [], ◌∷◌, reverse, refl, arith}
use Rattle.chorus_entry.specs.declared.dest.Dest.{Dest}
use Rattle.chorus_entry.specs.declared.entry.Entry.{Entry}
use Rattle.chorus_entry.specs.declared.id.MsgId.{MsgId}
use Rattle.chorus_entry.specs.declared.tag.Tag.{Tag}
use Rattle.chorus_entry.specs.declared.act.Act.{Act}
use Rattle.chorus_world.specs.Steps.{is_legal}
use Rattle.chorus_world.proofs.Examples.Names.{actor, away, first, group, now, port, second, two_sites}
use Rattle.chorus_show.specs.Summary.{is_post, is_accept, is_take, is_stale, is_depart, is_refusal, count, discarded}
use Rattle.law_summary.specs.Numbers.{SumsOfPorts, SumsOfFates, CountsTheRefused, CountsTheLate}

abbrev posted : MsgId → Act
posted x = Act.Post (record { id = x; tag = Tag.Plain; body = 7 ∷ [] }) (Dest.Port port)

abbrev made : List Entry
made = now 1 (Act.Make port actor 1) ∷ []

-- one message is accepted, and one refused; the port is deleted with the first in it
abbrev played : List Entry
played =
    now 6 (Act.Delete port (first ∷ []))
    ∷ now 5 (Act.Full second port 1)
    ∷ now 4 (posted second)
    ∷ now 3 (Act.Accept first port 0)
    ∷ now 2 (posted first)
    ∷ made

is-counted : (is_legal two_sites played ≡ true) × (count is_post (reverse played) ≡ 2) × (count is_accept (reverse played) ≡ 1) × (count is_refusal (reverse played) ≡ 1) × (discarded (reverse played) ≡ 1)
is-counted = (refl, refl, refl, refl, refl)

-- a copy finds its port off the site, and a message comes too late: the one is refused, and the other is not
abbrev there : ℕ → Act → Entry
there t a = record { clock = t; place = 2; seat = 2; act = a }

abbrev off_site : List Entry
off_site =
    now 7 (Act.Elsewhere (record first { copy = 1 }) port 2 1)
    ∷ now 6 (Act.Depart port 2 away 1)
    ∷ now 5 (Act.Choose first group (port ∷ []))
    ∷ now 4 (Act.Post (record { id = first; tag = Tag.Plain; body = 7 ∷ [] }) (Dest.OneAt group 1))
    ∷ now 3 (Act.Join group port)
    ∷ now 2 (Act.GroupMake group)
    ∷ made

is-off-site : (is_legal two_sites off_site ≡ true) × (count is_refusal (reverse off_site) ≡ 1) × (count is_stale (reverse off_site) ≡ 0) × (count is_depart (reverse off_site) ≡ 1)
is-off-site = (refl, refl, refl, refl)

abbrev afar : MsgId
afar = record { seat = 2; number = 1; copy = 0 }

abbrev late : List Entry
late =
    now 3 (Act.Stale afar port 0 2 1)
    ∷ there 2 (Act.Try afar port 1 0)
    ∷ now 2 (Act.Depart port 2 away 1)
    ∷ there 1 (posted afar)
    ∷ made

is-late : (is_legal two_sites late ≡ true) × (count is_refusal (reverse late) ≡ 0) × (count is_stale (reverse late) ≡ 1)
is-late = (refl, refl, refl)

-- two messages are discarded at once; nothing is taken from an empty port, and one that stays on its site does not depart
abbrev two_wait : List Entry
two_wait =
    now 8 (Act.Delete port (first ∷ second ∷ []))
    ∷ now 7 (Act.Accept second port 1)
    ∷ now 6 (Act.Accept first port 0)
    ∷ now 5 (posted second)
    ∷ now 4 (posted first)
    ∷ now 3 (Act.Rehome port actor)
    ∷ now 2 (Act.Empty port)
    ∷ now 1 (Act.Make port actor 2)
    ∷ []

are-discarded : (is_legal two_sites two_wait ≡ true) × (discarded (reverse two_wait) ≡ 2) × (count is_take (reverse two_wait) ≡ 0) × (count is_depart (reverse two_wait) ≡ 0)
are-discarded = (refl, refl, refl, refl)

-- a port that was not made accepts
not-accepted : SumsOfPorts (now 1 (Act.Accept first port 0) ∷ []) → ⊥
not-accepted h = (let e : 1 ≡ 0 = h.accepted in omega (arith, e))

-- a message is taken that was not accepted by any port
not-taken : SumsOfPorts (now 1 (Act.Take port 0 first) ∷ []) → ⊥
not-taken h = (let e : 1 ≡ 0 = h.taken in omega (arith, e))

-- and so it has no fate
not-received : SumsOfFates (now 1 (Act.Take port 0 first) ∷ []) → ⊥
not-received h = (let e : 1 ≡ 0 = h.taken in omega (arith, e))

-- a port ends with two messages, of which its Delete names one
not-whole : SumsOfFates (now 4 (Act.Delete port (first ∷ [])) ∷ now 3 (Act.Accept second port 1) ∷ now 2 (Act.Accept first port 0) ∷ made) → ⊥
not-whole h = (let e : 2 ≡ 1 = h.whole in omega (arith, e))

-- two wait, and one is discarded
not-discarded : SumsOfPorts (now 4 (Act.Delete port (first ∷ [])) ∷ now 3 (Act.Accept second port 1) ∷ now 2 (Act.Accept first port 0) ∷ made) → ⊥
not-discarded h = (let e : 1 ≡ 2 = h.discarded in omega (arith, e))

-- a port departs that was not made
not-departed : SumsOfPorts (now 1 (Act.Depart port 2 away 1) ∷ []) → ⊥
not-departed h = (let e : 1 ≡ 0 = h.departs in omega (arith, e))

-- and it is counted, though it is none
not-once : SumsOfPorts (now 1 (Act.Depart port 2 away 1) ∷ []) → ⊥
not-once h = (let e : 1 ≡ 0 = h.once port in omega (arith, e))

-- one message is refused twice
not-refused : CountsTheRefused (now 5 (Act.Full first port 1) ∷ now 4 (Act.NoPort first port) ∷ []) → ⊥
not-refused h = (let e : 2 ≡ 1 = h in omega (arith, e))

-- Stale to what was not tried
not-late : CountsTheLate two_sites (now 4 (Act.Stale first port 0 2 1) ∷ []) → ⊥
not-late h = (let e : 1 ≡ 0 = h in omega (arith, e))
