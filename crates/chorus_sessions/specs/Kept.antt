-- What became, when all was closed, of each message that a port accepted.
-- l is the layout, c what was closed, hands are those of the sessions, q a port, i a position in it, x a message's id.
use Rattle.std.specs.Prelude.{ℕ, ◌≡◌, ◌↔◌, List, Some, slice_get}
use Rattle.chorus_ui.specs.declared.ui.Ui.{Ui}
use Rattle.chorus_ui.specs.declared.layout.Layout.{Layout}
use Rattle.chorus_entry.specs.declared.id.MsgId.{MsgId}
use Rattle.chorus_world.specs.AcceptedLaws.{accepted_by}
use Rattle.chorus_world.specs.Fates.{MessageFate}
use Rattle.chorus_world.specs.Fates.MessageFate.{Received}
use Rattle.law_network.specs.Fates.{HasFate}
use Rattle.chorus_net.specs.declared.closed.Closed.{Closed}
use Rattle.chorus_net.specs.Closing.{holdings_of, past_of}
use Rattle.chorus_sessions.specs.declared.hand.Hand.{Hand}
use Rattle.chorus_sessions.specs.Hands.{IsInSomeHand}

-- It has one fate: received, just then it is in a hand, at its position, and it waits nowhere; or it waits, once, in one
-- record of its port, at a place or on its way; or it was discarded with its port, which was deleted.
pub record IsAccountedFor (l : Layout) (c : Closed) (hands : List Hand) (q : Ui) (i : ℕ) (x : MsgId) : Type 0 where
  pub what : MessageFate
  pub fate : HasFate (past_of c) (holdings_of l c) q i x what
  pub in_hand : IsInSomeHand q i x hands ↔ (what ≡ Received)

-- so it is with each message that a port accepted: none is lost
abbrev pub NoneIsLost : Layout → Closed → List Hand → Type 0
NoneIsLost l c hands =
    (q : Ui) (i : ℕ) (x : MsgId) → slice_get (accepted_by q (past_of c)) i ≡ Some x → IsAccountedFor l c hands q i x
