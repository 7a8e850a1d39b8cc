-- Trying the messages that wait at a place: of each port and route one at a time.
-- k is a port and route, w its first message that waits, p a place's number, x an id, t a turn; `located` is where the
-- port is.
use Rattle.std.specs.Prelude.{ℕ, ◌==◌, ◌&&◌, not, if◌then◌else◌, List, [], ◌∷◌, Option, Some, None}
use Rattle.chorus_entry.specs.declared.id.MsgId.{MsgId}
use Rattle.chorus_entry.specs.declared.act.Act.{Act}
use Rattle.chorus_entry.specs.declared.answer.Answer.{Answer}
use Rattle.chorus_entry.specs.declared.answer.Answer.TheVariants as A
use Rattle.chorus_entry.specs.declared.packet.Cargo.{Cargo}
use Rattle.chorus_entry.specs.Answer.{is_final}
use Rattle.chorus_world.specs.declared.place.Location.{Location}
use Rattle.chorus_world.specs.Posts.{is_on_site}
use Rattle.chorus_world.specs.Steps.{is_beyond}
use Rattle.place_unsettled.specs.declared.wait.Key.{Key}
use Rattle.place_unsettled.specs.declared.wait.Wait.{Wait}
use Rattle.place_unsettled.specs.Queues.{changed, passed, at}
use Rattle.law_machine.specs.PlaceState.{PlaceState, Turn, newest, unchanged, say}
use Rattle.law_machine.specs.Deciding.{decide, decision, records_after}

-- a verdict or a choice is reported to the place of the post, where that is another place
abbrev pub report : ℕ → ℕ → MsgId → Answer → List (ℕ × Cargo)
report p home x answer = if is_final answer && not (home == p) then (home, Cargo.Report x answer) ∷ [] else []

-- the first message of k has its verdict here, where it was tried with this hop, and waits no more
abbrev pub settles_here : Key → Wait → ℕ → Answer → Turn → Turn
settles_here k w tried answer t =
    say (decision w.message.id k.port tried answer) (record (unchanged t) {
      ports = records_after answer w.message k.port t.place.ports;
      waiting = changed k passed t.place.waiting;
      loads = report t.place.number w.home w.message.id answer;
    }) t

-- it is tried at another place, and is under way to it
abbrev pub tries_at : Key → Wait → Location → Turn → Turn
tries_at k w located t =
    say (Act.Try w.message.id k.port located.to located.hop) (record (unchanged t) {
      waiting = changed k (at (Some located.to)) t.place.waiting;
      loads = (located.to, Cargo.Try w.message k.port k.route w.only located.hop) ∷ [];
    }) t

-- the verdict that it has here: NoPort where the layout has no such site, Elsewhere where it demands another site than
-- the one where the port is, and what this place decides where the port is here; none where it is to be tried at
-- another place
abbrev pub verdict_here : Key → Wait → Location → PlaceState → Option Answer
verdict_here k w located s =
    if is_beyond s.layout k.port then Some A.NoPort
    else if not (is_on_site s.layout w.only located.to) then Some (A.Elsewhere located.to located.hop)
    else if located.to == s.number then Some (decide w.message k.port w.only located.hop s)
    else None

-- where it has one, the messages behind it go on; else it is tried
abbrev pub tries : Key → Wait → Location → (Turn → Turn) → Option Answer → Turn → Turn
tries k w located on (Some answer) t = on (settles_here k w located.hop answer t)
tries k w located on None t = tries_at k w located t

-- the messages of k go, one after the other, as far as they have verdicts here
abbrev pub goes_on : Key → List Wait → Turn → Turn
goes_on k [] t = t
goes_on k (w ∷ ws) t =
    tries k w (newest t.place k.port) (goes_on k ws) (verdict_here k w (newest t.place k.port) t.place) t

-- unless the first one is under way
abbrev pub goes_unless : Key → Option ℕ → List Wait → Turn → Turn
goes_unless k None ws t = goes_on k ws t
goes_unless k (Some to) ws t = t

abbrev pub go : Key → Turn → Turn
go k t = goes_unless k (t.place.waiting k).tried (t.place.waiting k).waits t
