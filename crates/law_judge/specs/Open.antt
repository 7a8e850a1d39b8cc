-- Open: what is not done at the end of a list of entries, and with which entry it began. A past has its newest entry
-- first; `all` is the whole one. l is a layout, e an entry at the place p with the clock c, x the id of a message, q a
-- port.
use Rattle.std.specs.Prelude.{ℕ, ◌+◌, ◌==◌, Bool, ◌&&◌, false, if◌then◌else◌, is_some, List, [], ◌∷◌, ◌++◌, length, map, Option, Some, None}
use Rattle.std.specs.List.{flat_map}
use Rattle.chorus_ui.specs.declared.layout.Layout.{Layout}
use Rattle.chorus_entry.specs.declared.entry.Entry.{Entry}
use Rattle.chorus_entry.specs.declared.id.MsgId.{MsgId}
use Rattle.chorus_entry.specs.declared.act.Act.{Act}
use Rattle.chorus_entry.specs.declared.act.Act.TheVariants.{Post, Choose, Take, Depart}
use Rattle.chorus_entry.specs.Dest.{group_in}
use Rattle.chorus_world.specs.declared.progress.Progress.{Progress}
use Rattle.chorus_world.specs.declared.progress.Progress.TheVariants.{Idle, Asked, Tried, Decided, Settled, Reported}
use Rattle.chorus_world.specs.Views.{at, about, on}
use Rattle.chorus_world.specs.Messages.{progress}
use Rattle.chorus_world.specs.Ports.{fate, is_coming}
use Rattle.chorus_world.specs.Places.{copies, just_taken, last_clock}
use Rattle.chorus_world.specs.Posts.{Posted, post_of}
use Rattle.chorus_world.specs.Steps.{is_asking_place}
use Rattle.law_judge.specs.declared.open.Awaited.{Awaited}
use Rattle.law_judge.specs.declared.open.Awaited.TheVariants.{Verdict, Choice, Told, Heard}
use Rattle.law_judge.specs.declared.open.Open.{Open}
use Rattle.law_judge.specs.declared.open.Open.TheVariants.{Message, Port, Reply}
use Rattle.law_judge.specs.declared.open.OpenAt.{OpenAt}

-- it was posted to a group of another place, and the place of the post hears what became of it
abbrev pub is_asked_away : Layout → Option Posted → Bool
is_asked_away l None = false
is_asked_away l (Some m) = is_asking_place l m.place (group_in m.dest)

-- what is still to come of a message, by how far it is
abbrev pub awaited : Bool → Progress → Option Awaited
awaited away Idle = Some Verdict
awaited away (Asked from d) = Some Choice
awaited away (Tried from q to hop) = Some Verdict
awaited away (Decided from by q answer) = Some Told
awaited away (Settled answer) = if away then Some Heard else None
awaited away Reported = None

abbrev pub message_with : MsgId → Option Awaited → List Open
message_with x None = []
message_with x (Some what) = Message x what ∷ []

abbrev pub open_message : Layout → List Entry → MsgId → List Open
open_message l all x = message_with x (awaited (is_asked_away l (post_of x all)) (progress (about x all)))

-- What each act began that is still open: a post, the copies of a choice, a port that left by a hop by which it may
-- still arrive, and a reply behind which its place has no entry.
abbrev pub open_by : Layout → List Entry → ℕ → ℕ → Act → List Open
open_by l all c p (Post m d) = open_message l all m.id
open_by l all c p (Choose x g qs) = flat_map (λ m. open_message l all m.id) (copies x g 1 qs)
open_by l all c p (Depart q to a hop) = if is_coming to hop (fate (on q all)) then Port q ∷ [] else []
open_by l all c p (Take q n x) =
    if (c == last_clock (at p all)) && is_some (just_taken all (at p all)) then Reply x ∷ [] else []
open_by l all c p _ = []

-- all that is open, with the lines of a printed journal that it began with, from the first on
abbrev pub at_line : ℕ → Open → OpenAt
at_line n found = record { line = n; what = found }

abbrev pub open_in : Layout → List Entry → List Entry → List OpenAt
open_in l all [] = []
open_in l all (e ∷ past) =
    open_in l all past ++ map (at_line (length past + 2)) (open_by l all e.clock e.place e.act)

abbrev pub all_open : Layout → List Entry → List OpenAt
all_open l past = open_in l past past
