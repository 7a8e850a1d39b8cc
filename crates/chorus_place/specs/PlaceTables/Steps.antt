-- The steps of a turn, each with one entry.
-- k is a port and route, q a port, m a message, x its id, t the turn.
use Rattle.std.specs.Prelude.{ℕ, ◌≡◌, true, Option, Some, None}
use Rattle.chorus_ui.specs.declared.ui.Ui.{Ui}
use Rattle.chorus_ui.specs.declared.layout.Layout.{Layout}
use Rattle.chorus_ui.specs.Layout.{has_place, can_make_port}
use Rattle.chorus_entry.specs.declared.id.MsgId.{MsgId}
use Rattle.chorus_entry.specs.declared.dest.Dest.{Dest}
use Rattle.chorus_entry.specs.declared.message.Message.{Message}
use Rattle.chorus_entry.specs.declared.act.Act.{Act}
use Rattle.chorus_entry.specs.declared.answer.Answer.{Answer}
use Rattle.chorus_world.specs.declared.place.Location.{Location}
use Rattle.chorus_world.specs.Places.{taught}
use Rattle.chorus_calls.specs.Callers.{after_post}
use Rattle.place_unsettled.specs.declared.wait.Key.{Key}
use Rattle.place_unsettled.specs.Queues.{changed, with_last}
use Rattle.law_machine.specs.PlaceState.{Turn, unchanged, say}
use Rattle.law_machine.specs.Deciding.{decide}
use Rattle.law_machine.specs.Doing.{direct, post}
use Rattle.law_machine.specs.Working.{answers_try, taught_of, told, report_of}

-- what is taught of a port is a place of the layout, and the port one that the layout can make
abbrev pub MayTeach : Layout → Ui → Option Location → Type 0
MayTeach l q None = Unit {0}
MayTeach l q (Some located) = (can_make_port l q ≡ true) × (has_place l located.to ≡ true)

-- a message is posted to a port, and waits behind the other direct ones
abbrev pub posted : Message → Ui → Turn → Turn
posted m q t =
    say (Act.Post m (Dest.Port q)) (record (unchanged t) {
      caller = after_post t.caller;
      waiting = changed (direct q) (with_last (post m t.place.number)) t.place.waiting;
    }) t

-- the first message of k is told what was decided
abbrev pub told_by : MsgId → Key → Answer → Turn → Turn
told_by x k answer t =
    say (Act.Told x answer) (record (unchanged t) {
      known = taught_of k.port (taught answer) t.place.known;
      waiting = changed k (told answer) t.place.waiting;
      loads = report_of t.place.number x answer (t.place.waiting k).waits;
    }) t

-- a message that another place tried here is decided
abbrev pub answered : ℕ → Message → Key → Option ℕ → ℕ → Turn → Turn
answered from m k only tried t = answers_try from m k.port k.route tried (decide m k.port only tried t.place) t
