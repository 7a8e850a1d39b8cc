-- What was taken was posted.
-- l is the layout of a nucleus, v what the closing pass knew, comers are those who came, c
-- is what was closed, q a port.
use Rattle.std.specs.Prelude.{ℕ, List, Option}
use Rattle.chorus_ui.specs.declared.ui.Ui.{Ui}
use Rattle.chorus_ui.specs.declared.layout.Layout.{Layout}
use Rattle.chorus_ui.specs.Layout.{IsLayout}
use Rattle.chorus_entry.specs.declared.message.Message.{Message}
use Rattle.chorus_calls.specs.declared.client.Settle.{Settle}
use Rattle.law_machine.specs.declared.reply.Reply.{Reply}
use Rattle.law_history.specs.Journals.{Comer}
use Rattle.law_closing.specs.Places.{PlaceNote}
use Rattle.law_replies.specs.AsPosted.{IsAsPosted}
use Rattle.chorus_turn.specs.declared.knowledge.Knowledge.{Knowledge}
use Rattle.chorus_net.specs.declared.closed.Closed.{Closed}
use Rattle.chorus_nucleus.specs.Closing.{ClosesAs}
use Rattle.chorus_net.specs.Closing.{past_of}
use Rattle.chorus_nucleus.specs.Taking.{HasOrigin}

abbrev pub MessagesTakenWerePosted : Type 0
MessagesTakenWerePosted =
    (l : Layout) (v : Knowledge PlaceNote) (comers : List Comer) (c : Closed) (q : Ui) (position : ℕ) (m : Message)
    (settled : Option Settle) →
    IsLayout l → ClosesAs l v comers c → HasOrigin l q (Reply.Taken position m settled) v → IsAsPosted m (past_of c)
