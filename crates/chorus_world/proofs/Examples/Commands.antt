-- Which acts answer each command, at which place, and which entries perform which commands.
use Rattle.std.proofs.Common.{ℕ, ◌≡◌, Bool, true, false, List, [], ◌∷◌, refl}
use Rattle.chorus_ui.specs.declared.ui.Ui.{Ui}
use Rattle.chorus_ui.specs.declared.layout.Layout.{Layout}
use Rattle.chorus_entry.specs.declared.entry.Entry.{Entry}
use Rattle.chorus_entry.specs.declared.id.MsgId.{MsgId}
use Rattle.chorus_entry.specs.declared.message.Message.{Message}
use Rattle.chorus_entry.specs.declared.tag.Tag.{Tag}
use Rattle.chorus_entry.specs.declared.dest.Dest.{Dest}
use Rattle.chorus_entry.specs.declared.act.Act.{Act}
use Rattle.chorus_entry.specs.declared.command.Command.{Command}
use Rattle.chorus_entry.specs.Places.{place_for}
use Rattle.chorus_world.specs.Commands.{answers, performs}
use Rattle.chorus_world.proofs.Examples.Names.{actor, away, first, group, now, other, port, second, two_sites}
use Rattle.chorus_world.proofs.Examples.Words.{deleted}

abbrev message : MsgId → Tag → ℕ → Message
message x tag n = record { id = x; tag = tag; body = n ∷ [] }

-- the act answers the command of seat 0 at the command's place
abbrev answered : List Entry → Command → Act → Bool
answered past c act = answers two_sites past actor c (record { clock = 9; place = place_for two_sites actor c; seat = 0; act = act })

make-right : (answered [] (Command.Make actor 2) (Act.Make port actor 2) ≡ true) × (answered [] (Command.Make actor 2) (Act.MakeFull actor) ≡ true) × (answered [] (Command.Make actor 2) (Act.NoActor actor) ≡ true)
make-right = (refl, refl, refl)

make-wrong : (answered [] (Command.Make actor 2) (Act.Make port actor 3) ≡ false) × (answered [] (Command.Make actor 2) (Act.Make port away 2) ≡ false) × (answered [] (Command.Make actor 2) (Act.MakeFull away) ≡ false) × (answered [] (Command.Make actor 2) (Act.NoActor away) ≡ false)
make-wrong = (refl, refl, refl, refl)

send-right : answered [] (Command.Send (Dest.Port port) (7 ∷ [])) (Act.Post (message first Tag.Plain 7) (Dest.Port port)) ≡ true
send-right = refl

send-wrong : (answered [] (Command.Send (Dest.Port port) (7 ∷ [])) (Act.Post (message first Tag.Plain 8) (Dest.Port port)) ≡ false) × (answered [] (Command.Send (Dest.Port port) (7 ∷ [])) (Act.Post (message first Tag.Plain 7) (Dest.Port other)) ≡ false) × (answered [] (Command.Send (Dest.Port port) (7 ∷ [])) (Act.Post (message first (Tag.Request 1 other) 7) (Dest.Port port)) ≡ false)
send-wrong = (refl, refl, refl)

-- where seat 0 has posted its first request
abbrev called : List Entry
called = now 1 (Act.Post (message first (Tag.Request 1 other) 7) (Dest.Port port)) ∷ []

call-right : (answered [] (Command.Call port other (7 ∷ [])) (Act.Post (message first (Tag.Request 1 other) 7) (Dest.Port port)) ≡ true) × (answered called (Command.Call port other (7 ∷ [])) (Act.Outstanding 1) ≡ true)
call-right = (refl, refl)

call-wrong : (answered called (Command.Call port other (7 ∷ [])) (Act.Post (message second (Tag.Request 1 other) 7) (Dest.Port port)) ≡ false) × (answered [] (Command.Call port other (7 ∷ [])) (Act.Post (message first (Tag.Request 1 port) 7) (Dest.Port port)) ≡ false) × (answered [] (Command.Call port other (7 ∷ [])) Act.NoCall ≡ false)
call-wrong = (refl, refl, refl)

retry-right : (answered called Command.Retry (Act.Post (message second (Tag.Request 1 other) 7) (Dest.Port port)) ≡ true) × (answered called Command.Retry Act.NoCall ≡ true)
retry-right = (refl, refl)

retry-wrong : (answered called Command.Retry (Act.Post (message second (Tag.Request 2 other) 7) (Dest.Port port)) ≡ false) × (answered [] Command.Retry (Act.Post (message first (Tag.Request 1 other) 7) (Dest.Port port)) ≡ false) × (answered called Command.Retry (Act.Outstanding 1) ≡ false)
retry-wrong = (refl, refl, refl)

cancel-right : (answered called Command.Cancel (Act.Cancel 1) ≡ true) × (answered [] Command.Cancel Act.NoCall ≡ true)
cancel-right = (refl, refl)

cancel-wrong : (answered called Command.Cancel (Act.Outstanding 1) ≡ false) × (answered called Command.Cancel (Act.Done 1) ≡ false)
cancel-wrong = (refl, refl)

reply-right : (answered [] (Command.Reply (7 ∷ [])) (Act.Post (message first (Tag.Reply 0 1) 7) (Dest.Port port)) ≡ true) × (answered [] (Command.Reply (7 ∷ [])) Act.NoRequest ≡ true)
reply-right = (refl, refl)

reply-wrong : (answered [] (Command.Reply (7 ∷ [])) (Act.Post (message first Tag.Plain 7) (Dest.Port port)) ≡ false) × (answered [] (Command.Reply (7 ∷ [])) (Act.Post (message first (Tag.Reply 0 1) 8) (Dest.Port port)) ≡ false) × (answered [] (Command.Reply (7 ∷ [])) Act.NoCall ≡ false)
reply-wrong = (refl, refl, refl)

take-right : (answered [] (Command.Take port) (Act.Take port 0 first) ≡ true) × (answered [] (Command.Take port) (Act.Empty port) ≡ true) × (answered [] (Command.Take port) (Act.NotHere port) ≡ true)
take-right = (refl, refl, refl)

take-wrong : (answered [] (Command.Take port) (Act.Take other 0 first) ≡ false) × (answered [] (Command.Take port) (Act.Empty other) ≡ false) × (answered [] (Command.Take port) (Act.NotHere other) ≡ false) × (answered [] (Command.Take port) (Act.Delete port []) ≡ false)
take-wrong = (refl, refl, refl, refl)

-- where the caller's actor holds the port
abbrev made : List Entry
made = now 1 (Act.Make port actor 2) ∷ []

move-right : (answered [] (Command.Move port away) (Act.Rehome port away) ≡ true) × (answered [] (Command.Move port away) (Act.Depart port 2 away 1) ≡ true) × (answered [] (Command.Move port away) (Act.NotHere port) ≡ true) × (answered made (Command.Move port away) (Act.NoActor away) ≡ true)
move-right = (refl, refl, refl, refl)

move-wrong : (answered [] (Command.Move port away) (Act.NoActor away) ≡ false) × (answered made (Command.Move port away) (Act.NoActor actor) ≡ false) × (answered made (Command.Move port away) (Act.Rehome port actor) ≡ false) × (answered made (Command.Move port away) (Act.Depart other 2 away 1) ≡ false)
move-wrong = (refl, refl, refl, refl)

delete-right : (answered [] (Command.Delete port) (Act.Delete port (first ∷ [])) ≡ true) × (answered [] (Command.Delete port) (Act.NotHere port) ≡ true)
delete-right = (refl, refl)

delete-wrong : (answered [] (Command.Delete port) (Act.Delete other []) ≡ false) × (answered [] (Command.Delete port) (Act.NotHere other) ≡ false) × (answered [] (Command.Delete port) (Act.Empty port) ≡ false)
delete-wrong = (refl, refl, refl)

group-right : (answered [] (Command.GroupMake 1) (Act.GroupMake group) ≡ true) × (answered [] (Command.GroupMake 1) (Act.GroupsFull 1) ≡ true) × (answered [] (Command.GroupMake 3) (Act.NoSite 3) ≡ true)
group-right = (refl, refl, refl)

group-wrong : (answered [] (Command.GroupMake 2) (Act.GroupMake group) ≡ false) × (answered [] (Command.GroupMake 1) (Act.GroupsFull 2) ≡ false) × (answered [] (Command.GroupMake 1) (Act.NoSite 2) ≡ false)
group-wrong = (refl, refl, refl)

-- where the port is a member of the group
abbrev joined : List Entry
joined = now 2 (Act.Join group port) ∷ now 1 (Act.GroupMake group) ∷ []

join-right : (answered [] (Command.Join group port) (Act.Join group port) ≡ true) × (answered joined (Command.Join group port) (Act.There group port) ≡ true) × (answered [] (Command.Join group port) (Act.NoGroup group) ≡ true) × (answered joined (Command.Join group other) (Act.MembersFull group) ≡ true)
join-right = (refl, refl, refl, refl)

-- a member is never told that the group is full
join-wrong : (answered joined (Command.Join group port) (Act.MembersFull group) ≡ false) × (answered [] (Command.Join group port) (Act.Join group other) ≡ false) × (answered [] (Command.Join group port) (Act.NotThere group port) ≡ false) × (answered [] (Command.Join group port) (Act.Leave group port) ≡ false)
join-wrong = (refl, refl, refl, refl)

leave-right : (answered joined (Command.Leave group port) (Act.Leave group port) ≡ true) × (answered [] (Command.Leave group port) (Act.NotThere group port) ≡ true) × (answered [] (Command.Leave group port) (Act.NoGroup group) ≡ true)
leave-right = (refl, refl, refl)

leave-wrong : (answered [] (Command.Leave group port) (Act.Leave group other) ≡ false) × (answered [] (Command.Leave group port) (Act.There group port) ≡ false) × (answered [] (Command.Leave group port) (Act.Join group port) ≡ false)
leave-wrong = (refl, refl, refl)

-- the right act at another place does not answer
elsewhere-wrong : answers two_sites made actor (Command.Delete port) (record { clock = 9; place = 2; seat = 0; act = Act.Delete port [] }) ≡ false
elsewhere-wrong = refl

-- The places of commands: two sites of two places each, for a caller whose home place is the second.
abbrev four_places : Layout
four_places = record { sites = 2; turns = 2 }

abbrev caller : Ui
caller = record actor { number = 2 }

makes-at : (place_for four_places caller (Command.Make actor 1) ≡ 1) × (place_for four_places caller (Command.Make (record away { number = 2 }) 1) ≡ 4) × (place_for four_places caller (Command.Make (record away { site = 3 }) 1) ≡ 2)
makes-at = (refl, refl, refl)

at-home : (place_for four_places caller (Command.Send (Dest.Port port) []) ≡ 2) × (place_for four_places caller (Command.Call port other []) ≡ 2) × (place_for four_places caller Command.Retry ≡ 2) × (place_for four_places caller Command.Cancel ≡ 2) × (place_for four_places caller (Command.Reply []) ≡ 2)
at-home = (refl, refl, refl, refl, refl)

-- the place of the port on the caller's site, whichever site made it
of-ports : (place_for four_places caller (Command.Take port) ≡ 1) × (place_for four_places caller (Command.Take other) ≡ 2) × (place_for four_places caller (Command.Move port away) ≡ 1) × (place_for four_places caller (Command.Delete port) ≡ 1) × (place_for four_places caller (Command.Delete (record port { site = 2 })) ≡ 1)
of-ports = (refl, refl, refl, refl, refl)

of-groups : (place_for four_places caller (Command.GroupMake 2) ≡ 3) × (place_for four_places caller (Command.GroupMake 3) ≡ 2) × (place_for four_places caller (Command.Join (record group { site = 2 }) port) ≡ 3) × (place_for four_places caller (Command.Leave (record group { site = 2 }) port) ≡ 3) × (place_for four_places caller (Command.Join (record group { site = 3 }) port) ≡ 2)
of-groups = (refl, refl, refl, refl, refl)

-- The commands that the example of a deleted port performs, the last one first.
abbrev first_five : List Command
first_five =
    Command.Send (Dest.All group) (8 ∷ [])
    ∷ Command.Send (Dest.Port port) (7 ∷ [])
    ∷ Command.Join group port
    ∷ Command.GroupMake 1
    ∷ Command.Make actor 2
    ∷ []

all-performed : performs two_sites 0 actor deleted (Command.Delete port ∷ Command.Send (Dest.Port port) (9 ∷ []) ∷ Command.Take port ∷ first_five) ≡ true
all-performed = refl

-- without the last command, without one in the middle, without any, with one more, and with two exchanged
not-all : (performs two_sites 0 actor deleted (Command.Send (Dest.Port port) (9 ∷ []) ∷ Command.Take port ∷ first_five) ≡ false) × (performs two_sites 0 actor deleted (Command.Delete port ∷ Command.Send (Dest.Port port) (9 ∷ []) ∷ first_five) ≡ false) × (performs two_sites 0 actor deleted [] ≡ false)
not-all = (refl, refl, refl)

too-many : (performs two_sites 0 actor deleted (Command.Delete port ∷ Command.Delete port ∷ Command.Send (Dest.Port port) (9 ∷ []) ∷ Command.Take port ∷ first_five) ≡ false) × (performs two_sites 0 actor [] (Command.Take port ∷ []) ≡ false)
too-many = (refl, refl)

exchanged : performs two_sites 0 actor deleted (Command.Delete port ∷ Command.Take port ∷ Command.Send (Dest.Port port) (9 ∷ []) ∷ first_five) ≡ false
exchanged = refl

-- another seat performs nothing there
of-another-seat : (performs two_sites 1 actor deleted [] ≡ true) × (performs two_sites 1 actor deleted (Command.Delete port ∷ []) ≡ false)
of-another-seat = (refl, refl)
