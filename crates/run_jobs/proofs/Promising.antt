-- A queue keeps its promise.
-- q is the queue, past the merge of the journals, its newest entry first.
use Rattle.std.proofs.Common.{List, ◌++◌, drop, sym, ◌∙◌, ap}
use Rattle.chorus_ui.specs.declared.ui.Ui.{Ui}
use Rattle.chorus_ui.specs.declared.layout.Layout.{Layout}
use Rattle.chorus_entry.specs.declared.entry.Entry.{Entry}
use Rattle.chorus_world.specs.AcceptedLaws.{accepted_by, taken_by, ReceivesInOrder}
use Rattle.law_network.specs.Fates.{WorldHolds}
use Rattle.chorus_net.specs.declared.closed.Closed.{Closed}
use Rattle.chorus_net.specs.Closing.{past_of}
use Rattle.chorus_sessions.specs.Sessions.{IsRunOf}
use Rattle.chorus_sessions.proofs.Once.{accepted-once, received-once, take-drop}
use Rattle.run_jobs.specs.Promise.{KeepsPromise, AlwaysKeepsPromise}

keeps-promise : (q : Ui) (past : List Entry) → ReceivesInOrder past → WorldHolds past → KeepsPromise q past
keeps-promise q past order holds =
    let k = taken_by q past in
    let xs = accepted_by q past in
    record {
      in_order = (drop k xs, take-drop k xs ∙ ap (λ ys. ys ++ drop k xs) (sym (order q)));
      accepted_once = accepted-once q past holds;
      handed_out_once = received-once q past order holds;
    }

pub promised : (l : Layout) (closed : Closed) (q : Ui) → IsRunOf l closed → AlwaysKeepsPromise q (past_of closed)
promised l closed q h newer older is = keeps-promise q older (h.is.receives newer older is) (h.is.holds newer older is)
