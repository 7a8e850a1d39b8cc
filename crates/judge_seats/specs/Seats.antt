-- Who sat where: the actor in which each caller of a list of entries may have been, by the entries alone. A past has its
-- newest entry first; l is a layout, s a seat, a and b are actors.
use Rattle.std.specs.Prelude.{ℕ, ◌≡◌, ◌+◌, ◌-◌, ◌*◌, ◌/◌, ◌%◌, ◌==◌, nat_lt, nat_eq, zero, suc, Bool, true, false, not, ◌&&◌, ◌||◌, List, [], ◌∷◌, ◌++◌, length, Option, Some, None, is_some, is_none, if◌then◌else◌}
use Rattle.std.specs.List.{flat_map}
use Rattle.std.specs.Option.{option_or}
use Rattle.std.specs.HashMap.{HashMap, get}
use Rattle.chorus_ui.specs.declared.ui.Ui.{Ui}
use Rattle.chorus_ui.specs.declared.layout.Layout.{Layout}
use Rattle.chorus_ui.specs.declared.kind.Kind.TheVariants.{Actor}
use Rattle.chorus_ui.specs.declared.limits.TheConstants.{ACTORS_PER_SITE_LIMIT}
use Rattle.chorus_ui.specs.Layout.{has_actor, site_of}
use Rattle.chorus_ui.specs.Name.{same_ui}
use Rattle.chorus_ui.specs.NameKind.{is_actor}
use Rattle.chorus_entry.specs.declared.entry.Entry.{Entry}
use Rattle.checker_rows.specs.Keys.{same_client}
use Rattle.checker_rows.specs.declared.keys.ClientOf.{ClientOf}
use Rattle.judge_seats.specs.declared.seats.Sitting.{Sitting}
use Rattle.judge_seats.specs.declared.seating.SeatIn.{SeatIn}
use Rattle.judge_seats.specs.Berths.{needed, missed}

-- What the entries of a caller say of it: the place of its first one, the clock of its last one, and the actor in which
-- the last one put it that did.

abbrev pub sitting_here : Option Ui → Entry → Option Sitting → Sitting
sitting_here a e None = record { place = e.place; clock = e.clock; actor = a }
sitting_here a e (Some r) = record { place = r.place; clock = e.clock; actor = option_or a r.actor }

abbrev pub sitting : List Entry → ℕ → Option Sitting
sitting [] s = None
sitting (e ∷ past) s =
    if e.seat == s then Some (sitting_here (needed past e) e (sitting past e.seat)) else sitting past s

-- a port of this actor was where the caller looked, and was not found: so the caller was not in it
abbrev pub is_it : Ui → Option Ui → Bool
is_it a None = false
is_it a (Some b) = same_ui b a

abbrev pub is_out : List Entry → ℕ → Ui → Bool
is_out [] s a = false
is_out (e ∷ past) s a = ((e.seat == s) && is_it a (missed past e)) || is_out past s a

-- The actor that it is told to have been in: the one in which its entries put it, else the first in which it may have
-- been: of its first place, or else of the layout, by site and number.

-- one of the layout in which it may have been, by the test
abbrev pub may_be_in : Layout → (Ui → Bool) → Ui → Bool
may_be_in l out a = is_actor a && has_actor l a && not (out a)

abbrev pub if_may : Layout → (Ui → Bool) → Ui → Option Ui
if_may l out a = if may_be_in l out a then Some a else None

-- the first actor whose home is the place p
abbrev pub home_actor : Layout → ℕ → Ui
home_actor l p = record { site = site_of l p; kind = Actor; number = (p - 1) % l.turns + 1 }

-- the actor behind so many others
abbrev pub actor_at : ℕ → Ui
actor_at k = record { site = k / ACTORS_PER_SITE_LIMIT + 1; kind = Actor; number = k % ACTORS_PER_SITE_LIMIT + 1 }

-- the first of so many
abbrev pub first_in : Layout → (Ui → Bool) → ℕ → Option Ui
first_in l out zero = None
first_in l out (suc n) = option_or (first_in l out n) (if_may l out (actor_at n))

abbrev pub free_actor : Layout → (Ui → Bool) → ℕ → Option Ui
free_actor l out p = option_or (if_may l out (home_actor l p)) (first_in l out (l.sites * ACTORS_PER_SITE_LIMIT))

abbrev pub actor_by : Layout → (Ui → Bool) → ℕ → Option Ui → Option Ui
actor_by l out p None = free_actor l out p
actor_by l out p (Some a) = if_may l out a

abbrev pub sits_by : Layout → (Ui → Bool) → Option Sitting → Option Ui
sits_by l out None = None
sits_by l out (Some r) = actor_by l out r.place r.actor

abbrev pub sits : Layout → List Entry → ℕ → Option Ui
sits l past s = sits_by l (is_out past s) (sitting past s)

-- Whether the entry may stand behind others that may, for some actors of the callers: its clock is above the last one of
-- its caller, and there is an actor in which the caller may have been all along.

abbrev pub clock_of : Option Sitting → ℕ
clock_of None = 0
clock_of (Some r) = r.clock

abbrev pub actor_of : Option Sitting → Option Ui
actor_of None = None
actor_of (Some r) = r.actor

abbrev pub agree : Option Ui → Option Ui → Bool
agree None b = true
agree (Some a) None = true
agree (Some a) (Some b) = same_ui a b

-- its clock, and the actor in which it puts its caller, go with what stands before it
abbrev pub goes_with : Option Ui → Entry → Option Sitting → Bool
goes_with a e r = nat_lt (clock_of r) e.clock && agree a (actor_of r)

abbrev pub may_stand : Layout → List Entry → Entry → Bool
may_stand l past e = goes_with (needed past e) e (sitting past e.seat) && is_some (sits l (e ∷ past) e.seat)

abbrev pub all_stand : Layout → List Entry → Bool
all_stand l [] = true
all_stand l (e ∷ past) = all_stand l past && may_stand l past e

-- the line, in a printed journal, of the first entry that may not stand there
abbrev pub line_if : Bool → ℕ → Option ℕ
line_if true n = None
line_if false n = Some n

abbrev pub first_out : Layout → List Entry → Option ℕ
first_out l [] = None
first_out l (e ∷ past) = option_or (first_out l past) (line_if (may_stand l past e) (length past + 2))

-- the callers, in the order of their first entries
abbrev pub seats_of : List Entry → List ℕ
seats_of [] = []
seats_of (e ∷ past) = if is_none (sitting past e.seat) then seats_of past ++ e.seat ∷ [] else seats_of past

-- and each with its actor
abbrev pub seat_with : ℕ → Option Ui → List SeatIn
seat_with s None = []
seat_with s (Some a) = record { seat = s; actor = a } ∷ []

abbrev pub seats_in : Layout → List Entry → List SeatIn
seats_in l past = flat_map (λ s. seat_with s (sits l past s)) (seats_of past)

-- the tables
abbrev pub sitting_in : {S : Type 0} → HashMap ℕ Sitting S → ℕ → Option Sitting
sitting_in t s = get nat_eq t s

abbrev pub is_out_in : {S : Type 0} → HashMap ClientOf Bool S → ℕ → Ui → Bool
is_out_in t s a = is_some (get same_client t (record { port = a; client = s }))

-- what an entry of the seat that does not find a port which this actor holds makes of the table
abbrev pub OutAfter : ℕ → Option Ui → (ℕ → Ui → Bool) → (ℕ → Ui → Bool) → Type 0
OutAfter seat a old new = (s : ℕ) (b : Ui) → new s b ≡ ((seat == s) && is_it b a || old s b)
