-- Names: legal lists on sites of 1, 2 and 4 places, and lists of which the laws of names are not so.
use Rattle.std.proofs.Common.{ℕ, zero, suc, ◌≡◌, ◌≤◌, ◌+◌, ◌-◌, ◌*◌, true, false, List, [], ◌∷◌, Option, Some, refl, arith}
use Rattle.std.proofs.lemmas.Bool.{false≢true}
use Rattle.chorus_ui.specs.declared.kind.Kind.TheVariants as kinds
use Rattle.chorus_ui.specs.declared.layout.Layout.{Layout}
use Rattle.chorus_ui.specs.declared.ui.Ui.{Ui}
use Rattle.chorus_ui.specs.Layout.{place_at}
use Rattle.chorus_entry.specs.declared.command.Command.{Command}
use Rattle.chorus_entry.specs.declared.dest.Dest.{Dest}
use Rattle.chorus_entry.specs.declared.entry.Entry.{Entry}
use Rattle.chorus_entry.specs.declared.tag.Tag.{Tag}
use Rattle.chorus_entry.specs.declared.act.Act.{Act}
use Rattle.chorus_world.specs.declared.spot.Spot.{Spot}
use Rattle.chorus_world.specs.Always.{EachEntry}
use Rattle.chorus_world.specs.Views.{on}
use Rattle.chorus_world.specs.Ports.{PortState, fate}
use Rattle.chorus_world.specs.Steps.{is_legal, may}
use Rattle.chorus_world.specs.Runs.{is_run}
use Rattle.chorus_world.specs.Commands.{answers}
use Rattle.chorus_world.proofs.Examples.Names.{actor, away, first, group, now, other, port, second, two_sites}
use Rattle.law_world.specs.Holding.{holds}
use Rattle.law_world.specs.Names.{MakesOnce, MakesGroupsOnce, PostsOnce, MakesTheLeast, MadeAllPorts, GroupMakesTheLeast, MadeAllGroups, PostsTheLeast}
use Rattle.law_world.proofs.Examples.Played.{posted}

-- Sites of several places.

abbrev of_places : ℕ → Layout
of_places t = record { sites = 2; turns = t }

abbrev pub actor_of : ℕ → Ui
actor_of n = record { site = 1; kind = kinds.Actor; number = n }

abbrev pub port_of : ℕ → Ui
port_of n = record { site = 1; kind = kinds.Port; number = n }

-- seat 0, which is in an actor of the first site, at the place p of this site
abbrev at_place : ℕ → ℕ → Act → Entry
at_place p t a = record { clock = t; place = p; seat = 0; act = a }

-- each place gives the numbers that are its own, the least first
of-two : (is_legal (of_places 2) (at_place 1 3 (Act.Make (port_of 3) (actor_of 3) 1) ∷ at_place 2 2 (Act.Make (port_of 2) (actor_of 2) 1) ∷ at_place 1 1 (Act.Make (port_of 1) (actor_of 1) 1) ∷ []) ≡ true) × (may (of_places 2) (at_place 1 1 (Act.Make (port_of 1) (actor_of 1) 1) ∷ []) (at_place 1 2 (Act.Make (port_of 2) (actor_of 1) 1)) ≡ false)
of-two = (refl, refl)

of-four : (is_legal (of_places 4) (at_place 4 3 (Act.Make (port_of 8) (actor_of 8) 1) ∷ at_place 4 2 (Act.Make (port_of 4) (actor_of 4) 1) ∷ at_place 1 1 (Act.Make (port_of 1) (actor_of 5) 1) ∷ []) ≡ true) × (may (of_places 4) (at_place 1 1 (Act.Make (port_of 1) (actor_of 1) 1) ∷ []) (at_place 1 2 (Act.Make (port_of 5) (actor_of 1) 1)) ≡ true)
of-four = (refl, refl)

-- a place of two makes sixteen of a site's ports, and no more
abbrev makes : ℕ → List Entry
makes zero = []
makes (suc n) = at_place 1 (n + 1) (Act.Make (port_of (n * 2 + 1)) (actor_of 1) 1) ∷ makes n

makes-its-share : (is_legal (of_places 2) (makes 16) ≡ true) × (may (of_places 2) (makes 16) (at_place 1 17 (Act.MakeFull (actor_of 1))) ≡ true) × (may (of_places 2) (makes 16) (at_place 1 17 (Act.Make (port_of 33) (actor_of 1) 1)) ≡ false) × (may (of_places 2) (makes 15) (at_place 1 17 (Act.MakeFull (actor_of 1))) ≡ false)
makes-its-share = (refl, refl, refl, refl)

-- The port 2 of a site of two places is at the second one, and the first actor, whose home is the first, comes to hold it. A NotHere of
-- this port at the actor's home may stand in a run, but it answers no command of the actor: these go to the second place.
abbrev pub handed : List Entry
handed = at_place 2 2 (Act.Rehome (port_of 2) (actor_of 1)) ∷ at_place 2 1 (Act.Make (port_of 2) (actor_of 2) 1) ∷ []

abbrev pub at_home : Entry
at_home = record { clock = 3; place = 1; seat = 1; act = Act.NotHere (port_of 2) }

abbrev first_two : ℕ → Option Ui
first_two n = Some (actor_of (2 - n))

is-held : holds (actor_of 1) (fate (on (port_of 2) handed)) ≡ true
is-held = refl

is-a-run : is_run (of_places 2) first_two (at_home ∷ handed) ≡ true
is-a-run = refl

answers-nothing : (answers (of_places 2) handed (actor_of 1) (Command.Take (port_of 2)) at_home ≡ false) × (answers (of_places 2) handed (actor_of 1) (Command.Delete (port_of 2)) at_home ≡ false) × (answers (of_places 2) handed (actor_of 1) (Command.Move (port_of 2) (actor_of 2)) at_home ≡ false)
answers-nothing = (refl, refl, refl)

-- What the laws refuse.

not-made-once : MakesOnce (now 2 (Act.Make port actor 1) ∷ now 1 (Act.Make port actor 1) ∷ []) → ⊥
not-made-once h = (let le : 2 ≤ 1 = h port in omega (arith, le))

not-grouped-once : MakesGroupsOnce (now 2 (Act.GroupMake group) ∷ now 1 (Act.GroupMake group) ∷ []) → ⊥
not-grouped-once h = (let le : 2 ≤ 1 = h group in omega (arith, le))

not-posted-once : PostsOnce (now 2 (posted first Tag.Plain (Dest.Port port)) ∷ now 1 (posted first Tag.Plain (Dest.Port port)) ∷ []) → ⊥
not-posted-once h = (let le : 2 ≤ 1 = h first in omega (arith, le))

-- a number is left out
not-least : EachEntry (MakesTheLeast two_sites) (now 1 (Act.Make other actor 1) ∷ []) → ⊥
not-least h = false≢true ((h [] [] (now 1 (Act.Make other actor 1)) refl other actor 1 refl).0.least 1 (omega arith) (omega arith) refl)

-- and a port that another place gives
not-placed : EachEntry (MakesTheLeast (of_places 2)) (at_place 1 1 (Act.Make (port_of 2) (actor_of 1) 1) ∷ []) → ⊥
not-placed h =
    let e : 2 ≡ 1 = (h [] [] (at_place 1 1 (Act.Make (port_of 2) (actor_of 1) 1)) refl (port_of 2) (actor_of 1) 1 refl).0.place in
    omega (arith, e)

not-all-made : EachEntry (MadeAllPorts two_sites) (now 1 (Act.MakeFull actor) ∷ []) → ⊥
not-all-made h = false≢true (h [] [] (now 1 (Act.MakeFull actor)) refl actor 1 refl (omega arith) (omega arith) refl)

not-least-group : EachEntry (GroupMakesTheLeast two_sites) (now 1 (Act.GroupMake (record group { number = 2 })) ∷ []) → ⊥
not-least-group h = false≢true ((h [] [] (now 1 (Act.GroupMake (record group { number = 2 }))) refl (record group { number = 2 }) refl).least 1 (omega arith) (omega arith))

not-all-groups : EachEntry MadeAllGroups (now 1 (Act.GroupsFull 1) ∷ []) → ⊥
not-all-groups h = false≢true (h [] [] (now 1 (Act.GroupsFull 1)) refl 1 1 refl (omega arith) (omega arith))

not-least-id : EachEntry PostsTheLeast (now 1 (posted second Tag.Plain (Dest.Port port)) ∷ []) → ⊥
not-least-id h =
    false≢true ((h [] [] (now 1 (posted second Tag.Plain (Dest.Port port))) refl (record { id = second; tag = Tag.Plain; body = 7 ∷ [] }) (Dest.Port port) refl).least 1 (omega arith) (omega arith))

-- a port that goes to an actor of another site and stays where it is
abbrev stayed : PortState
stayed = record { capacity = 1; accepted = []; taken = 0; path = 1 ∷ []; spot = Spot.Held away }

not-at-its-site : (fate (on port (now 2 (Act.Rehome port away) ∷ now 1 (Act.Make port actor 1) ∷ [])) ≡ Some stayed) × (place_at two_sites away.site port ≡ 2) × (is_legal two_sites (now 2 (Act.Rehome port away) ∷ now 1 (Act.Make port actor 1) ∷ []) ≡ false)
not-at-its-site = (refl, refl, refl)
