-- What a closed nucleus is.
-- l is its layout, v what the closing pass knew, comers are those who came, c is what was closed. A past has its newest
-- entry first.
use Rattle.std.specs.Prelude.{◌≡◌, ℕ, true, List, [], reverse, Some}
use Rattle.std.specs.List.{All}
use Rattle.chorus_ui.specs.declared.ui.Ui.{Ui}
use Rattle.chorus_ui.specs.declared.layout.Layout.{Layout}
use Rattle.chorus_ui.specs.Layout.{IsLayout, places}
use Rattle.chorus_entry.specs.declared.entry.Entry.{Entry}
use Rattle.chorus_entry.specs.declared.command.Command.{Command}
use Rattle.chorus_world.specs.Runs.{is_run}
use Rattle.chorus_world.specs.Commands.{performs}
use Rattle.chorus_world.specs.Always.{Always, EachEntry}
use Rattle.chorus_world.specs.AcceptedLaws.{ReceivesInOrder}
use Rattle.chorus_world.specs.SenderLaws.{KeepsSenderOrder}
use Rattle.chorus_world.specs.RequestLaws.{AcceptsRequestsOnce}
use Rattle.chorus_world.specs.GroupLaws.{ReachesOneMember, AcceptsOnSite, KeepsChoiceOrder}
use Rattle.chorus_turn.specs.declared.knowledge.Note.{Note}
use Rattle.chorus_turn.specs.declared.knowledge.Knowledge.{Knowledge}
use Rattle.law_network.specs.Holdings.{StandsFor}
use Rattle.law_network.specs.EachMessage.{HoldEachMessage}
use Rattle.law_network.specs.Fates.{HoldsByFate, WorldHolds}
use Rattle.law_network.specs.Quiet.{IsQuiet}
use Rattle.law_history.specs.Journals.{Comer}
use Rattle.law_history.specs.Runs.{actor_among, commands_given}
use Rattle.law_closing.specs.Places.{PlaceNote}
use Rattle.law_closing.specs.Behind.{AllFollow}
use Rattle.law_closing.specs.Remarks.{turns_in}
use Rattle.chorus_net.specs.declared.closed.Closed.{Closed}
use Rattle.chorus_net.specs.Closing.{holdings_of, merge_of, past_of}
use Rattle.chorus_nucleus.specs.Calls.{gave}
use Rattle.chorus_nucleus.specs.Closing.{ClosesAs}

-- it performs these commands for the seat, in their order, in the actor in which the seat came
abbrev pub PerformsFor : Layout → List Comer → List Entry → ℕ → List Command → Type 0
PerformsFor l comers past seat commands = (actor : Ui) → actor_among comers seat ≡ Some actor
    → performs l seat actor past (reverse commands) ≡ true

-- The merge is a run of the world for those who came, in which the commands of the pass and of each pass in its notes
-- stand each once, in their order, and each entry of a pass behind all that the pass had seen before it. What was handed
-- out stands for the world of the merge; and where no packet is left, nothing is left to be done. Always each port's
-- received messages are a beginning of its accepted ones, and each accepted message was received, or discarded with its
-- port, or waits in one record or Transfer of the world, once; at the end it does so in what was handed out.
pub record IsARun (l : Layout) (v : Knowledge PlaceNote) (comers : List Comer) (c : Closed) : Type 0 where
  pub run : is_run l (actor_among comers) (past_of c) ≡ true
  pub performed : PerformsFor l comers (past_of c) v.seat (gave v)
  pub noted : All (λ (n : Note PlaceNote). PerformsFor l comers (past_of c) n.seat
      (commands_given (turns_in n.mine))) v.notes
  pub follows : AllFollow (places l) (merge_of c) v
  pub stands : StandsFor (past_of c) (holdings_of l c)
  pub quiet : c.rest.items ≡ [] → IsQuiet l (past_of c) []
  pub receives : Always ReceivesInOrder (past_of c)
  pub holds : Always WorldHolds (past_of c)
  pub left : HoldsByFate (past_of c) (holdings_of l c)
  pub sender_order : Always KeepsSenderOrder (past_of c)
  pub once : Always AcceptsRequestsOnce (past_of c)
  pub one_member : Always ReachesOneMember (past_of c)
  pub on_site : EachEntry (AcceptsOnSite l) (past_of c)
  pub choice_order : Always KeepsChoiceOrder (past_of c)

abbrev pub AClosedNucleusIsARun : Type 0
AClosedNucleusIsARun = (l : Layout) (v : Knowledge PlaceNote) (comers : List Comer) (c : Closed) → IsLayout l
    → ClosesAs l v comers c → IsARun l v comers c

-- each message that a port accepted in the merge stands in what was handed out by its fate: once where it is queued or
-- under way, and not at all where it was received or discarded
abbrev pub EachMessageStandsOnce : Type 0
EachMessageStandsOnce =
    (l : Layout) (v : Knowledge PlaceNote) (comers : List Comer) (c : Closed) → IsLayout l → ClosesAs l v comers c
    → HoldEachMessage (past_of c) (holdings_of l c)
