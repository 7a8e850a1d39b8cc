-- Ports that one seat made and filled.
-- l is a layout, n how many messages there is room for in each port, s the seat, q a port. A past has its newest entry
-- first.
use Rattle.std.specs.Prelude.{ℕ, ◌≡◌, true, if◌then◌else◌, List, [], ◌∷◌, ◌++◌, map, take}
use Rattle.chorus_ui.specs.declared.ui.Ui.{Ui}
use Rattle.chorus_ui.specs.declared.layout.Layout.{Layout}
use Rattle.chorus_ui.specs.Layout.{IsLayout, has_site}
use Rattle.chorus_ui.specs.Name.{same_ui}
use Rattle.chorus_entry.specs.declared.entry.Entry.{Entry}
use Rattle.chorus_entry.specs.declared.id.MsgId.{MsgId}
use Rattle.chorus_entry.specs.declared.message.Message.{Message}
use Rattle.chorus_entry.specs.declared.tag.Tag.{Tag}
use Rattle.chorus_entry.specs.declared.dest.Dest.{Dest}
use Rattle.chorus_entry.specs.declared.act.Act.{Act}
use Rattle.chorus_entry.specs.Act.{is_command_entry}
use Rattle.chorus_world.specs.Views.{at, on}
use Rattle.chorus_world.specs.Ports.{fate, is_made}
use Rattle.chorus_world.specs.Places.{sent, unsettled}
use Rattle.chorus_world.specs.Steps.{is_legal}
use Rattle.chorus_world.specs.AcceptedLaws.{accepted_by}

-- the messages that were posted to the port, in order
abbrev pub posted_to : Ui → Act → List Message
posted_to q (Act.Post m (Dest.Port r)) = if same_ui r q then m ∷ [] else []
posted_to q _ = []

abbrev pub messages_to : Ui → List Entry → List Message
messages_to q [] = []
messages_to q (e ∷ past) = messages_to q past ++ posted_to q e.act

abbrev pub ids : List Message → List MsgId
ids ms = map (λ (m : Message). m.id) ms

-- the act makes a port with room for n messages, or finds that none can be made; or it is a post by the seat s of a
-- plain message to a port that is made
abbrev pub Fills : Layout → ℕ → ℕ → List Entry → ℕ → Act → Type 0
Fills l n s past seat (Act.Make q a c) = c ≡ n
Fills l n s past seat (Act.MakeFull a) = Unit {0}
Fills l n s past seat (Act.NoActor a) = Unit {0}
Fills l n s past seat (Act.Post m (Dest.Port q)) =
    (m.tag ≡ Tag.Plain) × (seat ≡ s) × (is_made (fate (on q past)) ≡ true) × (has_site l q.site ≡ true)
Fills l n s past seat _ = ⊥

-- each entry that a command appended first does so
abbrev pub AllFill : Layout → ℕ → ℕ → List Entry → Type 0
AllFill l n s [] = Unit {0}
AllFill l n s (e ∷ past) = (is_command_entry e.act ≡ true → Fills l n s past e.seat e.act) × AllFill l n s past

-- each message that was sent from a place is settled there
abbrev pub AllAreSettled : List Entry → Type 0
AllAreSettled past = (p : ℕ) → unsettled (at p past) (sent (at p past)) ≡ []

abbrev pub PortsHoldWhatWasSentFirst : Type 0
PortsHoldWhatWasSentFirst =
    (l : Layout) (n s : ℕ) (past : List Entry) (q : Ui) → IsLayout l → is_legal l past ≡ true → AllFill l n s past →
    AllAreSettled past → accepted_by q past ≡ take n (ids (messages_to q past))
