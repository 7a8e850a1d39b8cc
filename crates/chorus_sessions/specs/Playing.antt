-- What sessions did, one for each behaviour, in their order.
-- B is the type of the behaviours, n a nucleus, l its layout, bs are behaviours, ss and ts sessions before and after, a and
-- b are a pass before and after, closed is what was closed.
use Rattle.std.specs.Prelude.{Bool, false, ℕ, ◌≡◌, ◌<◌, ◌+◌, Some, None, List, [], ◌∷◌, length, map, reverse, slice_get, slice_index_or, Ok}
use Rattle.chorus_ui.specs.declared.ui.Ui.{Ui}
use Rattle.chorus_ui.specs.declared.layout.Layout.{Layout}
use Rattle.chorus_entry.specs.declared.command.Command.{Command}
use Rattle.law_machine.specs.declared.reply.Reply.{Reply}
use Rattle.law_closing.specs.Places.{PlaceNote}
use Rattle.chorus_turn.specs.declared.knowledge.Note.{Note}
use Rattle.chorus_turn.specs.Knowing.{note_of}
use Rattle.chorus_net.specs.declared.closed.Closed.{Closed}
use Rattle.chorus_net.specs.Closing.{worn_of}
use Rattle.chorus_nucleus.specs.declared.nucleus.Nucleus.{Nucleus}
use Rattle.chorus_nucleus.specs.declared.pass.Pass.{Pass}
use Rattle.chorus_nucleus.specs.Passes.{known, caller_of}
use Rattle.chorus_nucleus.specs.Calls.{gave, IsCall}
use Rattle.chorus_nucleus.specs.Coming.{IsStarted}
use Rattle.chorus_nucleus.specs.Closing.{IsClosed}
use Rattle.chorus_sessions.specs.declared.hand.Hand.{Hand}
use Rattle.chorus_sessions.specs.declared.running.Ending.{Ending}
use Rattle.chorus_sessions.specs.declared.session.Session.{Session}
use Rattle.chorus_sessions.specs.declared.setup.NewPort.{NewPort}
use Rattle.chorus_sessions.specs.Sessions.{delivered_by, hand_of, pass_of, taken_by, IsSession}

-- The ports.

abbrev pub making : NewPort → Command
making port = Command.Make port.actor port.capacity

-- the port was made
abbrev pub IsMade : Nucleus → NewPort → Pass → Pass → Type 0
IsMade n port a b = (name : Ui) × IsCall n (making port) a b (Ok (Reply.Made name))

-- all of these were made, in this order, and nothing else was done
abbrev pub AreMade : Nucleus → List NewPort → Pass → Pass → Type 0
AreMade n [] a b = b ≡ a
AreMade n (port ∷ ports) a b = (c : Pass) × IsMade n port a c × AreMade n ports c b

-- The sessions.

-- the note that its pass leaves
abbrev pub left_by : Session → Note PlaceNote
left_by s = note_of (known (pass_of s))

-- it just came, in the actor, with this number: it has made nothing, and has nothing in hand
pub record IsNewSession (n : Nucleus) (actor : Ui) (seat : ℕ) (s : Session) : Type 0 where
  pub session : IsSession n s
  pub seat_is : (hand_of s).seat ≡ seat
  pub actor_is : (caller_of (pass_of s)).actor ≡ actor
  pub nothing : (known (pass_of s)).mine ≡ []
  pub none : taken_by s ≡ []
  pub unsent : delivered_by s ≡ []

-- for each behaviour one came, in its actor, with the next number
abbrev pub HaveCome : {B : Type 0} → (B → Ui) → Nucleus → ℕ → List B → List Session → Type 0
HaveCome in_actor n seat [] [] = Unit {0}
HaveCome in_actor n seat (b ∷ bs) (s ∷ ss) =
    IsNewSession n (in_actor b) seat s × HaveCome in_actor n (seat + 1) bs ss
HaveCome in_actor n seat _ _ = ⊥

-- the session of each behaviour went on as that did
pub record HaveDone {B : Type 0} (did : B → Nucleus → Session → Session → Type 0) (n : Nucleus) (bs : List B)
    (ss ts : List Session) : Type 0 where
  pub each : (i : ℕ) (d : Session) (b : B) → i < length ss → slice_get bs i ≡ Some b →
      did b n (slice_index_or ss i d) (slice_index_or ts i d)

-- they went on as the behaviours did when they ran, and then as those did when they finished
pub record HaveDoneBoth {B : Type 0} (ran finished : B → Nucleus → Session → Session → Type 0) (n : Nucleus)
    (bs : List B) (ss ts : List Session) : Type 0 where
  pub between : List Session
  pub count : length between ≡ length ss
  pub running : HaveDone ran n bs ss between
  pub finishing : HaveDone finished n bs between ts

-- they ran, and then they finished, or did not
abbrev pub HaveEnded : {B : Type 0} → Ending → (B → Nucleus → Session → Session → Type 0) →
    (B → Nucleus → Session → Session → Type 0) → Nucleus → List B → List Session → List Session → Type 0
HaveEnded Ending.Unfinished ran finished n bs ss ts = HaveDone ran n bs ss ts
HaveEnded _ ran finished n bs ss ts = HaveDoneBoth ran finished n bs ss ts

-- how far they came, where packets were moved last or not
abbrev pub ended_by : Ending → Bool → Ending
ended_by Ending.Whole false = Ending.Unmoved
ended_by ending _ = ending

-- The ports were made, and that pass gave no other command. One session came for each behaviour, in its actor; they ran,
-- and then they finished, if they came so far. The pass has just their notes, and the hands are theirs, that of the last
-- behaviour first.
pub record HasPlayed {B : Type 0} (in_actor : B → Ui) (ran finished : B → Nucleus → Session → Session → Type 0)
    (n : Nucleus) (ports : List NewPort) (bs : List B) (hands : List Hand) (ending : Ending) (a b : Pass) : Type 0 where
  pub made : Pass
  pub ports_made : AreMade n ports a made
  pub gave_is : gave (known b) ≡ map making ports
  pub came : List Session
  pub ended : List Session
  pub new : HaveCome in_actor n 1 bs came
  pub did : HaveEnded ending ran finished n bs came ended
  pub count : length ended ≡ length bs
  pub notes : (known b).notes ≡ map left_by (reverse ended)
  pub hands_are : hands ≡ map hand_of (reverse ended)

-- so on one nucleus of this layout, from its start on, and then that pass closed it
pub record HavePlayed {B : Type 0} (in_actor : B → Ui) (ran finished : B → Nucleus → Session → Session → Type 0)
    (l : Layout) (ports : List NewPort) (bs : List B) (hands : List Hand) (ending : Ending) (closed : Closed)
    : Type 0 where
  pub nucleus : Nucleus
  pub opening : Pass
  pub closing : Pass
  pub started : IsStarted l nucleus opening
  pub played : HasPlayed in_actor ran finished nucleus ports bs hands ending opening closing
  pub closes : IsClosed nucleus closing closed

-- no packet is left, but where a clock was worn
abbrev pub IsEmptied : Closed → Type 0
IsEmptied closed = worn_of closed ≡ None → closed.rest.items ≡ []
