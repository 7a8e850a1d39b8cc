-- The limits, each at its number and one below or above it: a site makes 4 groups and a place its share of 32 ports, a group
-- has 32 members, a port room for 1 to 64 messages, and a site 8 actors.
use Rattle.std.proofs.Common.{ℕ, zero, suc, ◌≡◌, ◌+◌, Bool, true, false, List, [], ◌∷◌, refl}
use Rattle.chorus_ui.specs.declared.limits.TheConstants.{BODY_LIMIT, CLIENTS_LIMIT, CLOCK_LIMIT, LINK_LIMIT, SEATS_LIMIT, SITES_LIMIT}
use Rattle.chorus_entry.specs.declared.entry.Entry.{Entry}
use Rattle.chorus_entry.specs.declared.act.Act.{Act}
use Rattle.chorus_world.specs.Steps.{is_legal, may}
use Rattle.chorus_world.proofs.Examples.Names.{actor, group, now, port, two_sites}

-- those of sites, clients, bodies, seats, links and clocks
numbers : (SITES_LIMIT ≡ 16) × (CLIENTS_LIMIT ≡ 64) × (BODY_LIMIT ≡ 4096) × (SEATS_LIMIT ≡ 1048576) × (LINK_LIMIT ≡ 32) × (CLOCK_LIMIT ≡ 4611686018427387904)
numbers = (refl, refl, refl, refl, refl, refl)

-- the act may come next at the first place, at a late clock
abbrev may_come : List Entry → Act → Bool
may_come past act = may two_sites past (now 99 act)

abbrev groups : ℕ → List Entry
groups zero = []
groups (suc n) = now (n + 1) (Act.GroupMake (record group { number = n + 1 })) ∷ groups n

four-groups : (is_legal two_sites (groups 4) ≡ true) × (may_come (groups 4) (Act.GroupsFull 1) ≡ true) × (may_come (groups 4) (Act.GroupMake (record group { number = 5 })) ≡ false)
four-groups = (refl, refl, refl)

three-groups : (may_come (groups 3) (Act.GroupsFull 1) ≡ false) × (may_come (groups 3) (Act.GroupMake (record group { number = 4 })) ≡ true) × (may_come (groups 3) (Act.GroupMake (record group { number = 5 })) ≡ false)
three-groups = (refl, refl, refl)

abbrev joined : ℕ → List Entry
joined zero = now 1 (Act.GroupMake group) ∷ []
joined (suc n) = now (n + 2) (Act.Join group (record port { number = n + 1 })) ∷ joined n

all-members : (is_legal two_sites (joined 32) ≡ true) × (may_come (joined 32) (Act.MembersFull group) ≡ true) × (may_come (joined 32) (Act.Join group (record port { number = 33 })) ≡ false)
all-members = (refl, refl, refl)

one-less : (may_come (joined 31) (Act.MembersFull group) ≡ false) × (may_come (joined 4) (Act.MembersFull group) ≡ false) × (may_come (joined 31) (Act.Join group (record port { number = 33 })) ≡ true)
one-less = (refl, refl, refl)

-- a member joins no second time, and one that is none does not leave
members-once : (may_come (joined 4) (Act.Join group (record port { number = 4 })) ≡ false) × (may_come (joined 4) (Act.There group (record port { number = 4 })) ≡ true) × (may_come (joined 4) (Act.Leave group (record port { number = 5 })) ≡ false)
members-once = (refl, refl, refl)

abbrev ports : ℕ → List Entry
ports zero = []
ports (suc n) = now (n + 1) (Act.Make (record port { number = n + 1 }) actor 1) ∷ ports n

all-ports : (is_legal two_sites (ports 32) ≡ true) × (may_come (ports 32) (Act.MakeFull actor) ≡ true) × (may_come (ports 32) (Act.Make (record port { number = 33 }) actor 1) ≡ false)
all-ports = (refl, refl, refl)

one-port-less : (may_come (ports 31) (Act.MakeFull actor) ≡ false) × (may_come (ports 31) (Act.Make (record port { number = 32 }) actor 1) ≡ true) × (may_come (ports 31) (Act.Make (record port { number = 33 }) actor 1) ≡ false)
one-port-less = (refl, refl, refl)

capacities : (may_come [] (Act.Make port actor 0) ≡ false) × (may_come [] (Act.Make port actor 1) ≡ true) × (may_come [] (Act.Make port actor 64) ≡ true) × (may_come [] (Act.Make port actor 65) ≡ false)
capacities = (refl, refl, refl, refl)

actors : (may_come [] (Act.Make port (record actor { number = 8 }) 1) ≡ true) × (may_come [] (Act.Make port (record actor { number = 9 }) 1) ≡ false) × (may_come [] (Act.NoActor (record actor { number = 9 })) ≡ true) × (may_come [] (Act.NoActor (record actor { number = 8 })) ≡ false) × (may_come [] (Act.NoActor (record actor { site = 3 })) ≡ true)
actors = (refl, refl, refl, refl, refl)

-- where an actor is there, or there is none, no other refusal stands
refusals : (may_come [] (Act.MakeFull actor) ≡ false) × (may_come (ports 32) (Act.MakeFull (record actor { number = 9 })) ≡ false) × (may_come [] (Act.NoSite 2) ≡ false) × (may_come [] (Act.NoSite 3) ≡ true) × (may_come [] (Act.GroupsFull 1) ≡ false)
refusals = (refl, refl, refl, refl, refl)
