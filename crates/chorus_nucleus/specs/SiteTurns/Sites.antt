-- What turns see of a place: d is its desk, l its layout, p its number, a and b are numbers of other places, log are
-- entries with their remarks, the oldest first.
use Rattle.std.specs.Prelude.{ℕ, ◌≡◌, ◌-◌, ◌^◌, min, cond, List, [], Option, option_to_list, reverse}
use Rattle.std.specs.List.{All}
use Rattle.chorus_ui.specs.declared.layout.Layout.{Layout}
use Rattle.chorus_entry.specs.declared.entry.Entry.{Entry}
use Rattle.chorus_entry.specs.declared.packet.Packet.{Packet}
use Rattle.place_outbox.specs.Waiting.{list_to}
use Rattle.law_machine.specs.PlaceState.{PlaceState, started}
use Rattle.chorus_place.specs.Calls.{state}
use Rattle.chorus_ends.specs.Links.{Links}
use Rattle.chorus_serve.specs.Desks.{DeskState}
use Rattle.chorus_turn.specs.declared.knowledge.Remarked.{Remarked}
use Rattle.chorus_turn.specs.Journals.{entries_of}
use Rattle.law_history.specs.Turns.{put_to, from_place}
use Rattle.law_history.specs.Counts.{put_count, got_count}
use Rattle.chorus_entry.specs.declared.command.Command.{Command}
use Rattle.chorus_calls.specs.Callers.{Seated}
use Rattle.law_closing.specs.declared.noted.Noted.{Noted}
use Rattle.law_history.specs.PlaceTurns.{machine, is_other}
use Rattle.law_closing.specs.Remarks.{turns_at}
use Rattle.law_closing.specs.Places.{PlaceNote}
use Rattle.law_closing.specs.Closing.{Keeps}
use Rattle.chorus_board.specs.declared.board.Board.{Board}
use Rattle.chorus_board.specs.declared.name.BoardName.{BoardName}
use Rattle.place_publish.specs.Publishing.{IsBoardAt}
use Rattle.chorus_nucleus.specs.declared.site_turns.site.SiteMark.{SiteMark}

-- Of another place: what was sent to it, what waits to be sent, what was received from it, and what is in hand. Of any
-- other number nothing was sent or received, and what waits is what the turns put, if anything.

abbrev pub sent_in : Layout → ℕ → Links → ℕ → List Packet
sent_in l p k b = cond (is_other l p b) (k.sent b) []

abbrev pub waits_in : Layout → ℕ → List (List Packet) → List (Remarked PlaceNote) → ℕ → List Packet
waits_in l p lists log b = cond (is_other l p b) (list_to b lists) (put_to b (turns_at p log))

abbrev pub received_in : Layout → ℕ → Links → ℕ → List Packet
received_in l p k a = cond (is_other l p a) (k.received a) []

abbrev pub held_in : Layout → ℕ → Option (ℕ × Packet) → ℕ → List Packet
held_in l p hand a = cond (is_other l p a) (from_place a (option_to_list hand)) []

-- the remarks lead from the started place to the state, and they tell what was sent, waits, was received and is in hand
abbrev pub FitsAt : Layout → ℕ → PlaceState → Links → List (List Packet) → Option (ℕ × Packet)
    → List (Remarked PlaceNote) → Type 0
FitsAt l p s k lists hand log =
    Keeps (machine l) (started l p) p log s (sent_in l p k) (waits_in l p lists log) (received_in l p k)
    (held_in l p hand)

-- and the desk counts what the turns put and, up to 2^64 - 1, what they worked off; and each entry is of the place
pub record Fits (d : DeskState) (log : List (Remarked (Noted Seated Command Packet))) : Type 0 where
  pub keeps : FitsAt d.place.layout d.place.number (state d.place) d.links d.place.out.lists d.hand log
  pub puts : d.place.out.puts ≡ put_count (turns_at d.place.number log)
  pub worked : d.worked ≡ min (got_count (turns_at d.place.number log)) (2 ^ 64 - 1)
  pub own : All (λ (e : Entry). e.place ≡ d.place.number) (reverse d.place.journal)

-- the entries of the place, the oldest first
abbrev pub entries : DeskState → List Entry
entries d = reverse d.place.journal

abbrev pub mark : DeskState → BoardName → SiteMark
mark d board = record { layout = d.place.layout; number = d.place.number; ends = d.links.name; board = board }

-- what its board shows is a beginning of its journal
abbrev pub IsPublished : DeskState → Board → Type 0
IsPublished d board = IsBoardAt d.place.layout d.place.number (entries d) board

-- these are the place's entries with remarks that fit
abbrev pub IsJournalOf : DeskState → List (Remarked PlaceNote) → Type 0
IsJournalOf d log = (entries_of log ≡ entries d) × Fits d log
