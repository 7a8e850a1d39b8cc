-- What sessions keep, and how they come and go.
-- n is a nucleus, a and b are a pass before and after, l a layout, i is the index of a session.
use Rattle.std.specs.Prelude.{ℕ, ◌≡◌, ◌<◌, ◌≤◌, ◌+◌, ◌⊎◌, Bool, true, false, Option, List, [], ◌∷◌, ◌++◌, length, slice_index_or, Result, Ok, Err}
use Rattle.std.specs.declared.alloc.AllocError.{AllocError}
use Rattle.chorus_ui.specs.declared.ui.Ui.{Ui}
use Rattle.chorus_ui.specs.declared.layout.Layout.{Layout}
use Rattle.chorus_entry.specs.declared.command.Command.{Command}
use Rattle.chorus_calls.specs.declared.client.Settle.{Settle}
use Rattle.law_machine.specs.declared.reply.Reply.{Reply}
use Rattle.law_history.specs.Journals.{Comer}
use Rattle.law_closing.specs.Places.{PlaceNote}
use Rattle.chorus_turn.specs.declared.knowledge.Placed.{Placed}
use Rattle.chorus_turn.specs.declared.knowledge.Knowledge.{Knowledge}
use Rattle.chorus_turn.specs.Knowing.{IsSamePass, after_draw}
use Rattle.chorus_net.specs.declared.closed.Closed.{Closed}
use Rattle.chorus_nucleus.specs.declared.fault.CallFault.{CallFault}
use Rattle.chorus_nucleus.specs.declared.nucleus.Nucleus.{Nucleus}
use Rattle.chorus_nucleus.specs.declared.pass.Pass.{Pass}
use Rattle.chorus_nucleus.specs.Passes.{layout_of, known, caller_of, IsPassOf}
use Rattle.chorus_nucleus.specs.Calls.{IsCall}
use Rattle.chorus_nucleus.specs.Taking.{SeesMore}
use Rattle.chorus_nucleus.specs.Runs.{IsARun}
use Rattle.chorus_sessions.specs.declared.calls.Asked.{Asked}
use Rattle.chorus_sessions.specs.declared.fault.SessionsFault.{SessionsFault}
use Rattle.chorus_sessions.specs.declared.hand.Hand.{Hand}
use Rattle.chorus_sessions.specs.declared.hand.PortMessage.{PortMessage}
use Rattle.chorus_sessions.specs.declared.session.Session.{Session}
use Rattle.chorus_sessions.specs.Hands.{AreDelivered, Holds, HandNothingOut}

abbrev pub pass_of : Session → Pass
pass_of s = s.pass

abbrev pub hand_of : Session → Hand
hand_of s = s.hand

-- what it was handed out, in order
abbrev pub taken_by : Session → List PortMessage
taken_by s = s.hand.taken.items

-- what it delivered, in order
abbrev pub delivered_by : Session → List PortMessage
delivered_by s = s.hand.delivered.items

-- The session's pass is one of the nucleus; it draws no numbers, and no pass ended in it. What it has in hand is what
-- entries of its pass handed out, all of it; and what it delivered its pass posted, and heard that it was accepted.
pub record IsSession (n : Nucleus) (s : Session) : Type 0 where
  pub pass : IsPassOf n s.pass
  pub notes : (known s.pass).notes ≡ []
  pub keeper : (known s.pass).keeper ≡ false
  pub seat : (known s.pass).seat ≡ s.hand.seat
  pub holds : Holds (layout_of n) (known s.pass) (known s.pass).mine (caller_of s.pass).last s.hand.taken.items
  pub delivered : AreDelivered (layout_of n) (known s.pass) (known s.pass).mine s.hand.delivered.items

pub record AreSessions (n : Nucleus) (ss : List Session) : Type 0 where
  pub each : (i : ℕ) (d : Session) → i < length ss → IsSession n (slice_index_or ss i d)

-- these sessions went on, and are sessions still
pub record HaveRun (n : Nucleus) (before after : List Session) : Type 0 where
  pub each : (i : ℕ) (d : Session) → i < length before → IsSession n (slice_index_or after i d)

-- The pass took turns in which nothing was handed out: it is the same one still, has seen what it had seen, and its
-- caller's clock did not fall.
pub record Goes (n : Nucleus) (a b : Pass) : Type 0 where
  pub pass : IsPassOf n b
  pub same : IsSamePass (known a) (known b)
  pub more : List (Placed PlaceNote)
  pub mine : (known b).mine ≡ (known a).mine ++ more
  pub quiet : HandNothingOut more
  pub sees : SeesMore (known a) (known b)
  pub last : (caller_of a).last ≤ (caller_of b).last

-- the command takes a message
abbrev pub takes : Command → Bool
takes (Command.Take q) = true
takes _ = false

-- A take of the port handed a message out, just the one that is last in hand now: its tag and body too.
pub record Takes (n : Nucleus) (q : Ui) (a b : Session) : Type 0 where
  pub got : PortMessage
  pub settled : Option Settle
  pub port : got.port ≡ q
  pub call : IsCall n (Command.Take q) (pass_of a) (pass_of b) (Ok (Reply.Taken got.position got.message settled))
  pub taken : taken_by b ≡ taken_by a ++ got ∷ []
  pub delivered : delivered_by b ≡ delivered_by a

-- what it has in hand is so still
abbrev pub KeepsHand : Session → Session → Type 0
KeepsHand a b = (taken_by b ≡ taken_by a) × (delivered_by b ≡ delivered_by a)

-- a take of the port was answered by this, and handed nothing out
abbrev pub TakesNone : Nucleus → Ui → Result Reply CallFault → Session → Session → Type 0
TakesNone n q r a b = IsCall n (Command.Take q) (pass_of a) (pass_of b) r × KeepsHand a b

-- there was no room for one message more: nothing was asked
pub record HasNoRoom (f : CallFault) (a b : Session) : Type 0 where
  pub none : AllocError
  pub is : f ≡ CallFault.Memory none
  pub pass : pass_of b ≡ pass_of a
  pub keeps : KeepsHand a b

-- The session asked the port for a message, by one take, and tells what that was answered.
abbrev pub Asks : Nucleus → Ui → Result Asked CallFault → Session → Session → Type 0
Asks n q (Ok Asked.Took) a b = Takes n q a b
Asks n q (Ok Asked.Empty) a b = TakesNone n q (Ok Reply.Empty) a b
Asks n q (Ok Asked.NotHere) a b = TakesNone n q (Ok Reply.NotHere) a b
Asks n q (Err f) a b = TakesNone n q (Err f) a b ⊎ HasNoRoom f a b

-- so it did, and tells whether it took a message
abbrev pub TakesOne : Nucleus → Ui → Result Bool CallFault → Session → Session → Type 0
TakesOne n q (Ok true) a b = Asks n q (Ok Asked.Took) a b
TakesOne n q (Ok false) a b = Asks n q (Ok Asked.Empty) a b ⊎ Asks n q (Ok Asked.NotHere) a b
TakesOne n q (Err f) a b = Asks n q (Err f) a b

-- The pass is the one that draws numbers: so many besides its own, of which so many ended in it. It was handed out
-- nothing.
pub record IsKeeper (drawn ended : ℕ) (pass : Pass) : Type 0 where
  pub keeper : (known pass).keeper ≡ true
  pub drawn_is : (known pass).made ≡ drawn + 1
  pub ended_is : length (known pass).notes ≡ ended
  pub quiet : HandNothingOut (known pass).mine

-- where a session came, the keeper drew one number more; where none came, nothing changed of what it knows
abbrev pub Draws : Result Session SessionsFault → Pass → Pass → Type 0
Draws (Err e) a b = known b ≡ known a
Draws (Ok s) a b = known b ≡ after_draw (known a)

-- all that came have ended
pub record HasAllBack (pass : Pass) : Type 0 where
  pub keeper : (known pass).keeper ≡ true
  pub ended : (known pass).made ≡ length (known pass).notes + 1
  pub quiet : HandNothingOut (known pass).mine

-- what was closed is a run of the world, for those who came
pub record IsRunOf (l : Layout) (closed : Closed) : Type 0 where
  pub knowledge : Knowledge PlaceNote
  pub comers : List Comer
  pub is : IsARun l knowledge comers closed
