-- Ports that one seat makes and fills, one on each of the first sites, and that others empty.
-- l is a layout, n how many messages there is room for in each port, s and k are sites, a an actor, q a port. A past has
-- its newest entry first, and so have lists of commands and of what was sent.
use Rattle.std.specs.Prelude.{ℕ, zero, suc, ◌≡◌, ◌==◌, ◌≤◌, ◌⊎◌, true, if◌then◌else◌, List, [], ◌∷◌, ◌++◌, map, take, Option, Some}
use Rattle.chorus_ui.specs.declared.kind.Kind.TheVariants as kinds
use Rattle.chorus_ui.specs.declared.ui.Ui.{Ui}
use Rattle.chorus_ui.specs.declared.layout.Layout.{Layout}
use Rattle.chorus_ui.specs.Layout.{IsLayout, place_at}
use Rattle.chorus_entry.specs.declared.entry.Entry.{Entry}
use Rattle.chorus_entry.specs.declared.message.Message.{Message}
use Rattle.chorus_entry.specs.declared.dest.Dest.{Dest}
use Rattle.chorus_entry.specs.declared.act.Act.{Act}
use Rattle.chorus_entry.specs.declared.command.Command.{Command}
use Rattle.chorus_world.specs.Views.{by}
use Rattle.chorus_world.specs.AcceptedLaws.{received}
use Rattle.chorus_world.specs.Commands.{performs}
use Rattle.chorus_world.specs.Runs.{is_run}
use Rattle.law_filled.specs.Filled.{messages_to, ids, AllAreSettled}

-- the first port of a site, and the first actor, for whom it is made
abbrev pub port_on : ℕ → Ui
port_on s = record { site = s; kind = kinds.Port; number = 1 }

abbrev pub actor_on : ℕ → Ui
actor_on s = record { site = s; kind = kinds.Actor; number = 1 }

-- the place of both
abbrev pub place_on : Layout → ℕ → ℕ
place_on l s = place_at l s (port_on s)

-- the commands that make the ports of the sites 1 to k
abbrev pub makes_down : ℕ → ℕ → List Command
makes_down n zero = []
makes_down n (suc k) = Command.Make (actor_on (suc k)) n ∷ makes_down n k

-- a message to the port on a site
pub record Sending : Type 0 where
  pub site : ℕ
  pub body : List ℕ

abbrev pub send_of : Sending → Command
send_of x = Command.Send (Dest.Port (port_on x.site)) x.body

-- all of these go to ports on the sites 1 to k
abbrev pub AreWithin : ℕ → List Sending → Type 0
AreWithin k [] = Unit {0}
AreWithin k (x ∷ later) = (1 ≤ x.site) × (x.site ≤ k) × AreWithin k later

-- the bodies that are sent to the port of the site, in order
abbrev pub bodies_to : ℕ → List Sending → List (List ℕ)
bodies_to s [] = []
bodies_to s (x ∷ later) = bodies_to s later ++ (if x.site == s then x.body ∷ [] else [])

-- the commands of a seat that makes the ports and then sends
abbrev pub script : ℕ → ℕ → List Sending → List Command
script n k later = map send_of later ++ makes_down n k

-- each entry is of seat 0
abbrev pub AllFirst : List Entry → Type 0
AllFirst [] = Unit {0}
AllFirst (e ∷ past) = (e.seat ≡ 0) × AllFirst past

-- the act is of a take of the port
abbrev pub IsOfTake : Ui → Act → Type 0
IsOfTake q (Act.Take r n x) = r ≡ q
IsOfTake q (Act.Empty r) = r ≡ q
IsOfTake q (Act.NotHere r) = r ≡ q
IsOfTake q (Act.Done n) = Unit {0}
IsOfTake q (Act.Late n) = Unit {0}
IsOfTake q _ = ⊥

-- each entry is of another seat, which takes from the port of the site of its number
abbrev pub AllTake : List Entry → Type 0
AllTake [] = Unit {0}
AllTake (e ∷ past) = (1 ≤ e.seat) × IsOfTake (port_on e.seat) e.act × AllTake past

-- Seat 0 makes the ports and sends, and then the others take; each message is settled.
pub record IsCrewed (l : Layout) (callers : ℕ → Option Ui) (n k : ℕ) (later : List Sending)
    (newer older : List Entry) : Type 0 where
  pub shape : IsLayout l
  pub sites : k ≤ l.sites
  pub within : AreWithin k later
  pub run : is_run l callers (newer ++ older) ≡ true
  pub first : AllFirst older
  pub first_actor : Ui
  pub performed : performs l 0 first_actor (newer ++ older) (script n k later) ≡ true
  pub others : AllTake newer
  pub settled : AllAreSettled (newer ++ older)

-- the last entry of the seat finds the port empty, or not there
pub record EndsInVain (l : Layout) (callers : ℕ → Option Ui) (s : ℕ) (mine : List Entry) : Type 0 where
  pub last : Entry
  pub rest : List Entry
  pub is : mine ≡ last ∷ rest
  pub vain : (last.act ≡ Act.Empty (port_on s)) ⊎ (last.act ≡ Act.NotHere (port_on s))
  pub place : last.place ≡ place_on l s
  pub who : callers s ≡ Some (actor_on s)

-- what it took are the first messages that were sent to the port, as many as there is room for, in their order
pub record TookWhatWasSentFirst (n s : ℕ) (later : List Sending) (past mine : List Entry) : Type 0 where
  pub ids_are : received mine ≡ take n (ids (messages_to (port_on s) past))
  pub bodies_are : map (λ (m : Message). m.body) (messages_to (port_on s) past) ≡ bodies_to s later

abbrev pub TakersGetWhatWasSentFirst : Type 0
TakersGetWhatWasSentFirst =
    (l : Layout) (callers : ℕ → Option Ui) (n k : ℕ) (later : List Sending) (newer older : List Entry) (s : ℕ) →
    IsCrewed l callers n k later newer older → 1 ≤ s → s ≤ k → EndsInVain l callers s (by s newer) →
    TookWhatWasSentFirst n s later older (by s newer)
