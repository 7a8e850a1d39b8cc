-- Lines: what was sent from a place in order, and what was posted there to groups.
use Rattle.std.specs.Prelude.{ℕ, ◌≡◌, ◌==◌, ◌-◌, Bool, false, ◌&&◌, not, cond, List, [], ◌∷◌, ◌++◌, length, take, filter, Option, Some, None}
use Rattle.std.specs.HashMap.{HashMap, get}
use Rattle.std.specs.declared.collections.VecDeque.{VecDeque}
use Rattle.chorus_ui.specs.Name.{same_ui}
use Rattle.chorus_entry.specs.declared.entry.Entry.{Entry}
use Rattle.chorus_entry.specs.declared.id.MsgId.{MsgId}
use Rattle.chorus_entry.specs.Same.{same_route}
use Rattle.chorus_world.specs.declared.place.Sent.{Sent}
use Rattle.chorus_world.specs.Views.{at}
use Rattle.chorus_world.specs.Places.{sent}
use Rattle.checker_rows.specs.Keys.{same_line}
use Rattle.checker_rows.specs.Messages.{message_in, is_over}
use Rattle.checker_rows.specs.declared.keys.LineKey.{LineKey}
use Rattle.checker_rows.specs.declared.messages.MessageRow.{MessageRow}
use Rattle.checker_rows.specs.declared.message_lines.End.{End}
use Rattle.checker_rows.specs.declared.message_lines.End.TheVariants.{Settled, Chosen}

-- its row says that the message is still open
abbrev pub leaves_open : End → MessageRow → Bool
leaves_open Settled r = not r.settled
leaves_open Chosen r = not r.chosen

abbrev pub is_open : {S : Type 0} → HashMap MsgId MessageRow S → End → MsgId → Bool
is_open messages end x = leaves_open end (message_in messages x)

-- the ids in a line
abbrev pub items_of : {A : Type 0} → Option (VecDeque MsgId A) → List MsgId
items_of None = []
items_of (Some q) = q.items

abbrev pub line_in : {S A : Type 0} → HashMap LineKey (VecDeque MsgId A) S → LineKey → List MsgId
line_in t k = items_of (get same_line t k)

-- the place that sent the message has not settled it
abbrev pub is_pending : List Entry → MsgId → Bool
is_pending past x = not (is_over x past)

-- what goes by the line: to its port, by its route
abbrev pub goes_by : LineKey → Sent → Bool
goes_by k m = same_ui m.port k.name && same_route m.route k.route

abbrev pub ids_by : LineKey → List Sent → List MsgId
ids_by k [] = []
ids_by k (m ∷ ms) = cond (goes_by k m) (m.id ∷ ids_by k ms) (ids_by k ms)

abbrev pub line_row : List Entry → LineKey → List MsgId
line_row past k = ids_by k (sent (at k.place past))

-- of these messages, sent at the place p, the ids that go by the line
abbrev pub sent_by_line : ℕ → LineKey → List Sent → List MsgId
sent_by_line p k ms = cond (p == k.place) (ids_by k ms) []

abbrev pub but_last : List MsgId → List MsgId
but_last xs = take (length xs - 1) xs

-- What becomes of lines: they stay, one has an id more, one has its last no more, and these messages are put behind.

abbrev pub AreSame : (LineKey → List MsgId) → (LineKey → List MsgId) → Type 0
AreSame old new = (k : LineKey) → new k ≡ old k

abbrev pub IsLonger : LineKey → MsgId → (LineKey → List MsgId) → (LineKey → List MsgId) → Type 0
IsLonger key x old new = (k : LineKey) → new k ≡ cond (same_line key k) (old k ++ x ∷ []) (old k)

abbrev pub IsShorter : LineKey → (LineKey → List MsgId) → (LineKey → List MsgId) → Type 0
IsShorter key old new = (k : LineKey) → new k ≡ cond (same_line key k) (but_last (old k)) (old k)

abbrev pub ArePut : ℕ → List Sent → (LineKey → List MsgId) → (LineKey → List MsgId) → Type 0
ArePut p ms old new = (k : LineKey) → new k ≡ old k ++ sent_by_line p k ms

abbrev pub AreTakenBack : ℕ → List Sent → (LineKey → List MsgId) → (LineKey → List MsgId) → Type 0
AreTakenBack p ms old new = (before : LineKey → List MsgId) → ArePut p ms before old → AreSame before new

-- the same are open in the lists
abbrev pub OpensSame : (MsgId → Bool) → List MsgId → List MsgId → Type 0
OpensSame test old new = filter test new ≡ filter test old

-- and lines other than that of the key stay
abbrev pub OthersStay : LineKey → (LineKey → List MsgId) → (LineKey → List MsgId) → Type 0
OthersStay key old new = (k : LineKey) → same_line key k ≡ false → new k ≡ old k
