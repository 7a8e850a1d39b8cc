-- A call of a place, by what its tables did.
use Rattle.std.proofs.Common.{◌≡◌, ◌+◌, ◌≤◌, min, List, [], length, ◌∙◌, ap, arith}
use Rattle.chorus_entry.specs.declared.command.Command.{Command}
use Rattle.chorus_calls.specs.Callers.{Seated}
use Rattle.place_outbox.specs.Waiting.{Waiting}
use Rattle.law_machine.specs.declared.reply.Reply.{Reply}
use Rattle.law_machine.specs.declared.outgoing.Outgoing.{Outgoing}
use Rattle.law_machine.specs.PlaceState.{Turn}
use Rattle.law_machine.specs.PlaceMachine.{begun, act}
use Rattle.law_machine.specs.Replies.{reply}
use Rattle.chorus_place.specs.PlaceTables.Tables.{Tables, state, turn}
use Rattle.chorus_place.specs.PlaceTables.Commands.{Performed, StaysOut}
use Rattle.chorus_place.specs.PlaceTables.Room.{KeepsRoom}
use Rattle.chorus_place.specs.PlaceTables.Sending.{with_all}
use Rattle.chorus_place.specs.Calls as calls

-- between turns nothing is put
pub begins : (p : Tables) (c : Seated) → p.puts ≡ [] → turn p c ≡ begun (state p) c
begins p c none = ap (λ (os : List Outgoing). record { place = state p; caller = c; puts = os }) none

-- and nothing where the turn was refused
pub still-none : (old new : Tables) (before after : Seated) → old.puts ≡ [] → turn new after ≡ turn old before → new.puts ≡ []
still-none old new before after none same = ap (λ t. t.puts) same ∙ none

-- what went out stays, in two parts of a turn
pub stays-then : {a b c : Waiting} → StaysOut a b → c ≡ b → StaysOut a c
stays-then h same = record { lists = ap (λ (w : Waiting). w.lists) same ∙ h.lists; puts = ap (λ (w : Waiting). w.puts) same ∙ h.puts }

-- what the end of a turn does
pub record Sent (mid new : Tables) : Type 0 where
  pub state : state new ≡ state mid
  pub lists : new.out.lists ≡ with_all mid.puts mid.out.lists
  pub count : new.out.puts ≡ mid.out.puts + length mid.puts
  pub spare : new.journal.spare ≡ mid.journal.spare
  pub room : mid.room ≤ new.room

pub ended : (t : Turn) (old mid new : Tables) (after : Seated) → old.puts ≡ [] → turn mid after ≡ t → StaysOut old.out mid.out → KeepsRoom old mid → Sent mid new
    → calls.Ended t (calls.place_of old) (calls.place_of new) after
ended t old mid new after none done out keeps sent =
    record {
      state = sent.state ∙ ap (λ u. u.place) done;
      caller_is = ap (λ u. u.caller) done;
      waits = sent.lists ∙ ap (λ u. with_all u.puts mid.out.lists) done ∙ ap (with_all t.puts) out.lists;
      puts = count;
      spare = room;
    }
  where
    count : new.out.puts ≡ old.out.puts + length t.puts
    count =
        let more = sent.count in
        let same = out.puts in
        let puts = ap (λ u. length u.puts) done in
        omega (arith, more, same, puts)

    room : min old.journal.spare old.room + length old.journal.past ≤ min new.journal.spare new.room + length new.journal.past + length t.puts
    room =
        let entries = keeps.entries in
        let packets = keeps.packets in
        let grows = keeps.grows in
        let nothing = ap (λ (os : List Outgoing). length os) none in
        let past = ap (λ s. length s.journal) sent.state in
        let spare = sent.spare in
        let more = sent.room in
        let puts = ap (λ u. length u.puts) done in
        omega (arith, entries, packets, grows, nothing, past, spare, more, puts)

pub called : (old mid new : Tables) (before after : Seated) (c : Command) (r : Reply) → old.puts ≡ [] → Performed c (turn old before) (turn mid after) r → StaysOut old.out mid.out
    → KeepsRoom old mid → Sent mid new → calls.Called (calls.place_of old) (calls.place_of new) before after c r
called old mid new before after c r none performed out keeps sent =
    record {
      ended = ended (act c (begun (state old) before)) old mid new after none (performed.done ∙ ap (act c) (begins old before none)) out keeps sent;
      answer = performed.answer ∙ ap (reply c) (begins old before none);
    }

-- a call that was refused
pub stays : (old new : Tables) (before after : Seated) → old.puts ≡ [] → turn new after ≡ turn old before → StaysOut old.out new.out → KeepsRoom old new
    → calls.Stays (calls.place_of old) (calls.place_of new)
stays old new before after none same out keeps =
    record { state = ap (λ t. t.place) same; waits = out.lists; puts = out.puts; spare = room }
  where
    room : min old.journal.spare old.room ≤ min new.journal.spare new.room
    room =
        let entries = keeps.entries in
        let packets = keeps.packets in
        let past = ap (λ t. length t.place.journal) same in
        let nothing = ap (λ (os : List Outgoing). length os) none in
        let still = ap (λ (os : List Outgoing). length os) (still-none old new before after none same) in
        omega (arith, entries, packets, past, nothing, still)
