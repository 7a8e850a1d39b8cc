-- What is open at the end of a list of entries, by those that are read, and with which entry it began. `all` is the whole
-- list, its newest entry first, of entries that are read.
use Rattle.std.specs.Prelude.{ℕ, ◌+◌, false, if◌then◌else◌, List, [], ◌∷◌, ◌++◌, length, map}
use Rattle.std.specs.List.{flat_map}
use Rattle.chorus_entry.specs.declared.entry.Entry.{Entry}
use Rattle.chorus_entry.specs.declared.id.MsgId.{MsgId}
use Rattle.chorus_entry.specs.declared.act.Act.{Act}
use Rattle.chorus_entry.specs.declared.act.Act.TheVariants.{Post, Choose, Depart}
use Rattle.chorus_world.specs.Views.{about}
use Rattle.chorus_world.specs.Messages.{progress}
use Rattle.chorus_world.specs.Places.{copies}
use Rattle.chorus_world.specs.Ports.{is_coming}
use Rattle.law_judge.specs.declared.open.Open.{Open}
use Rattle.law_judge.specs.declared.open.Open.TheVariants.{Port}
use Rattle.law_judge.specs.declared.open.OpenAt.{OpenAt}
use Rattle.law_judge.specs.Open.{at_line, awaited, message_with}
use Rattle.judge_promises.specs.Terms.{port_of, read}

-- a verdict of the message, or a choice for the post to a group, is still to come
abbrev pub open_message : List Entry → MsgId → List Open
open_message all x = message_with x (awaited false (progress (about x all)))

-- what each act began that is still open: a post, the copies of a choice, and a port that left
abbrev pub open_by : List Entry → Act → List Open
open_by all (Post m d) = open_message all m.id
open_by all (Choose x g qs) = flat_map (λ m. open_message all m.id) (copies x g 1 qs)
open_by all (Depart q to a hop) = if is_coming to hop (port_of all q) then Port q ∷ [] else []
open_by all _ = []

-- all that is open, with the lines of a printed journal that it began with, from the first on
abbrev pub open_in : List Entry → List Entry → List OpenAt
open_in all [] = []
open_in all (e ∷ past) = open_in all past ++ map (at_line (length past + 2)) (open_by all e.act)

abbrev pub all_open : List Entry → List OpenAt
all_open past = open_in (read past) past
