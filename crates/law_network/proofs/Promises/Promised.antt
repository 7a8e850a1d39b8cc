-- What holds of each schedule of the network machine, clause by clause: from the past that its network stands for.
use Rattle.std.proofs.Common.{◌≡◌, true, List, sym, ◌∙◌, ap, subst}
use Rattle.chorus_ui.specs.declared.layout.Layout.{Layout}
use Rattle.chorus_ui.specs.Layout.{IsLayout}
use Rattle.chorus_entry.specs.declared.entry.Entry.{Entry}
use Rattle.chorus_world.specs.Runs.{is_run}
use Rattle.chorus_world.specs.Commands.{performs}
use Rattle.chorus_world.specs.Steps.{is_legal}
use Rattle.chorus_world.specs.SortingLaws.{AllLookAtHome}
use Rattle.chorus_world.proofs.Sorted.Holders.{run_is_legal}
use Rattle.law_network.specs.Network.{NetState, Event, schedule}
use Rattle.law_network.specs.Stands.{Stands, actor_of}
use Rattle.law_network.specs.Ready.{IsReady}
use Rattle.law_network.specs.Schedules.{may_be, commands_of}
use Rattle.law_network.proofs.Places.Layouts.{schedule-keeps}
use Rattle.law_network.specs.Left.{placed, packets_left, merged_past}
use Rattle.law_network.specs.Holdings.{StandsFor, holdings_left}
use Rattle.law_network.specs.Quiet.{IsQuiet}
use Rattle.law_network.specs.History.{history}
use Rattle.chorus_world.specs.Always.{Always}
use Rattle.chorus_world.specs.AcceptedLaws.{ReceivesInOrder, KeepsEachMessage}
use Rattle.law_network.specs.Promises.{Runs, KeepsJournals, Performs, TablesStand, ClosesSo, Rests}
use Rattle.law_network.proofs.Merge.Journals.{merge-is, merge-run, merge-journal}
use Rattle.law_network.proofs.Merge.Performs.{performs-sort}
use Rattle.law_network.proofs.Events.InOrder.{in-order}
use Rattle.law_network.proofs.Commands.Performing.{performs-history}
use Rattle.law_network.proofs.Holdings.Shows.{shows-merge}
use Rattle.law_network.proofs.Holdings.Closed.{left-stands}
use Rattle.law_network.proofs.Promises.Rests.{rests-merge}
use Rattle.chorus_world.proofs.Moments.{run-receives, run-keeps}

module _ (l : Layout) (es : List Event) (shape : IsLayout l) (may : may_be l es ≡ true) where
  -- the network, and the past that it stands for
  abbrev n : NetState
  n = schedule l es

  abbrev past : List Entry
  past = history l es

  pub stands-at : Stands (schedule l es) (history l es)
  stands-at = (in-order l es shape may).0

  pub ready-at : IsReady (schedule l es) (history l es)
  ready-at = (in-order l es shape may).1

  layout-at : n.layout ≡ l
  layout-at = (schedule-keeps l es).layout

  pub shape-at : IsLayout (schedule l es).layout
  shape-at = subst IsLayout (sym layout-at) shape

  pub runs-at : Runs l es (schedule l es)
  runs-at = subst (λ (m : Layout). is_run m (actor_of n) (merged_past n) ≡ true) layout-at (merge-run n past stands-at shape-at)

  pub legal-history : is_legal l (history l es) ≡ true
  legal-history = run_is_legal l (actor_of n) past (subst (λ (m : Layout). is_run m (actor_of n) past ≡ true) layout-at stands-at.run)

  pub legal-merge : is_legal l (merged_past (schedule l es)) ≡ true
  legal-merge = run_is_legal l (actor_of n) (merged_past n) runs-at

  pub journals-at : KeepsJournals l es (schedule l es)
  journals-at = merge-journal n past stands-at

  pub performs-at : Performs l es (schedule l es)
  performs-at k a h =
      ap (λ all. performs l k a all (commands_of k es)) (merge-is n past stands-at)
      ∙ performs-sort l k a shape past (commands_of k es) stands-at.causal (subst (λ (m : Layout). AllLookAtHome m past) layout-at stands-at.looks) legal-history (performs-history l shape es may k a h)

  pub tables-at : TablesStand l es (schedule l es)
  tables-at = shows-merge n past stands-at

  pub closes-at : ClosesSo l es (schedule l es)
  closes-at = subst (λ (m : Layout). StandsFor (merged_past n) (holdings_left m (placed n) (packets_left n))) layout-at (left-stands n past shape-at stands-at)

  pub quiet-at : Rests l es (schedule l es)
  quiet-at none = subst (λ (m : Layout). IsQuiet m (merged_past n) (packets_left n)) layout-at (rests-merge n past shape-at stands-at ready-at none)

  pub receives-at : Always ReceivesInOrder (merged_past (schedule l es))
  receives-at = run-receives l (actor_of n) (merged_past n) shape runs-at

  pub fates-at : Always KeepsEachMessage (merged_past (schedule l es))
  fates-at = run-keeps l (actor_of n) (merged_past n) shape runs-at
