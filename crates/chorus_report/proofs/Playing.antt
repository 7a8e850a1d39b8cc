-- What was closed, where it is what a schedule leaves, plays what its callers gave.
use Rattle.std.proofs.Common.{ℕ, zero, suc, ◌≡◌, ◌+◌, Bool, true, false, not, ◌&&◌, cond, List, [], ◌∷◌, length, map, reverse, Option, Some, slice_get, refl, sym, ◌∙◌, ap, subst, arith}
use Rattle.std.proofs.lemmas.List.{length-map}
use Rattle.chorus_ui.specs.declared.ui.Ui.{Ui}
use Rattle.chorus_ui.specs.declared.layout.Layout.{Layout}
use Rattle.chorus_ui.specs.Layout.{IsLayout, places}
use Rattle.chorus_entry.specs.declared.entry.Entry.{Entry}
use Rattle.chorus_entry.specs.declared.command.Command.{Command}
use Rattle.chorus_entry.specs.declared.packet.Packet.{Packet}
use Rattle.chorus_entry.specs.Act.{is_command_entry}
use Rattle.chorus_merge.specs.Merge.{merged}
use Rattle.chorus_world.specs.Views.{by, at, is_by}
use Rattle.chorus_world.specs.Runs.{is_run}
use Rattle.chorus_world.specs.Commands.{performs, is_own_of}
use Rattle.chorus_world.specs.Always.{Always}
use Rattle.chorus_world.specs.AcceptedLaws.{ReceivesInOrder}
use Rattle.chorus_world.proofs.Moments.{always-run}
use Rattle.chorus_world.proofs.Sorted.Holders.{run_is_legal}
use Rattle.chorus_net.specs.declared.closed.Closed.{Closed}
use Rattle.chorus_net.specs.Closing.{IsLeft, closed_journals, past_of}
use Rattle.law_network.specs.declared.placed.Placed.{Placed}
use Rattle.law_network.specs.Holdings.{StandsFor, holdings_left}
use Rattle.law_network.specs.History.{history}
use Rattle.law_network.specs.Left.{packets_left, merged_past}
use Rattle.law_network.specs.Network.{NetState, Event, schedule, numbers}
use Rattle.law_network.specs.Quiet.{IsQuiet}
use Rattle.law_network.specs.Schedules.{may_be}
use Rattle.law_network.specs.Stands.{actor_of}
use Rattle.law_network.proofs.Merge.Journals.{journals-are}
use Rattle.law_network.proofs.Merge.Parts.{part}
use Rattle.law_network.proofs.Places.Layouts.{schedule-keeps}
use Rattle.law_network.proofs.Promises.Promised.{stands-at, runs-at, journals-at, closes-at, receives-at}
use Rattle.chorus_show.specs.declared.status.Status.{Status}
use Rattle.law_network.specs.Fates.{WorldHolds}
use Rattle.chorus_report.specs.Headline.{PerformsUnless, IsQuietUnless, Plays}
use Rattle.chorus_report.proofs.Seating.{run-more}
use Rattle.law_network.proofs.Holdings.ByFate.{holds-by-fate, world-holds}

-- A seat that made nothing performs no command.

pub performs-none : (l : Layout) (s : ℕ) (a : Ui) (past : List Entry) → by s past ≡ [] → performs l s a past [] ≡ true
performs-none l s a [] h = refl
performs-none l s a (e ∷ past) h = go (is_by s e) refl h (performs-none l s a past)
  where
    go : (b : Bool) → is_by s e ≡ b → cond b (e ∷ by s past) (by s past) ≡ [] → (by s past ≡ [] → performs l s a past [] ≡ true) → not (is_own_of s e) && performs l s a past [] ≡ true
    go true f k ih = absurd (cc)
    go false f k ih = ap (λ b. not (b && is_command_entry e.act) && performs l s a past []) f ∙ ih k

-- Numbers.

get-number : {X : Type 0} (f : ℕ → X) (m p i : ℕ) (x : X) → slice_get (map f (numbers m p)) i ≡ Some x → x ≡ f (p + i)
get-number f zero p i x h = absurd (cc)
get-number f (suc m) p zero x h =
    let is : f p ≡ x = cc in sym is ∙ ap f (same p)
  where
    same : (p : ℕ) → p ≡ p + 0
    same p = omega arith
get-number f (suc m) p (suc i) x h = get-number f m (p + 1) i x h ∙ ap f (next p i)
  where
    next : (p i : ℕ) → p + 1 + i ≡ p + suc i
    next p i = omega arith

count-numbers : (m p : ℕ) → length (numbers m p) ≡ m
count-numbers zero p = refl
count-numbers (suc m) p = ap suc (count-numbers m (p + 1))

-- All but what the callers gave is so of every schedule.
module _ (l : Layout) (shape : IsLayout l) (closed : Closed) (es : List Event) (may : may_be l es ≡ true) (left : IsLeft (schedule l es) closed) where
  abbrev n : NetState
  n = schedule l es

  pub past-is : past_of closed ≡ merged_past n
  past-is = ap (λ js. reverse (merged js)) left.journals

  pub run-of : (callers : ℕ → Option Ui) → ((k : ℕ) (a : Ui) → actor_of n k ≡ Some a → callers k ≡ Some a) → is_run l callers (past_of closed) ≡ true
  run-of callers all =
      ap (is_run l callers) past-is ∙ run-more l (actor_of n) callers all (merged_past n) (runs-at l es shape may)

  stands-of : StandsFor (past_of closed) (holdings_left l closed.ports.items closed.rest.items)
  stands-of =
      subst (λ past. StandsFor past (holdings_left l closed.ports.items closed.rest.items)) (sym past-is)
      (subst (λ (rest : List Packet). StandsFor (merged_past n) (holdings_left l closed.ports.items rest)) (sym left.rest)
      (subst (λ (ports : List Placed). StandsFor (merged_past n) (holdings_left l ports (packets_left n))) (sym left.ports) (closes-at l es shape may)))

  parts-are : closed_journals closed ≡ map (part (history l es)) (numbers (places n.layout) 1)
  parts-are = left.journals ∙ journals-are n (history l es) (stands-at l es shape may)

  places-of : length (closed_journals closed) ≡ places l
  places-of =
      ap length parts-are ∙ length-map (numbers (places n.layout) 1) (part (history l es)) ∙ count-numbers (places n.layout) 1
      ∙ ap places (schedule-keeps l es).layout

  journals-of : (p : ℕ) (journal : List Entry) → slice_get (closed_journals closed) p ≡ Some journal → journal ≡ reverse (at (p + 1) (past_of closed))
  journals-of p journal h =
      get-number (part (history l es)) (places n.layout) 1 p journal (ap (λ js. slice_get js p) (sym parts-are) ∙ h)
      ∙ ap (λ q. reverse (at q (history l es))) (turned p)
      ∙ ap reverse (sym ((stands-at l es shape may).journal (p + 1)) ∙ sym (journals-at l es shape may (p + 1)) ∙ ap (at (p + 1)) (sym past-is))
    where
      turned : (p : ℕ) → 1 + p ≡ p + 1
      turned p = omega arith

  pub quiet-of : IsQuiet l (merged_past n) (packets_left n) → IsQuiet l (past_of closed) closed.rest.items
  quiet-of quiet =
      subst (λ past. IsQuiet l past closed.rest.items) (sym past-is)
      (subst (λ (rest : List Packet). IsQuiet l (merged_past n) rest) (sym left.rest) quiet)

  pub plays-so : (callers : ℕ → Option Ui) (commands : ℕ → Option (List Command)) (status : Status) → is_run l callers (past_of closed) ≡ true → ((k : ℕ) (actor : Ui) (given : List Command) → callers k ≡ Some actor → commands k ≡ Some given → PerformsUnless status l k actor closed given) → IsQuietUnless status l closed → Plays l callers commands status closed
  plays-so callers commands status runs performed quiet = record {
    run = runs;
    performed = performed;
    receives = subst (Always ReceivesInOrder) (sym past-is) (receives-at l es shape may);
    holds = always-run WorldHolds world-holds l callers (past_of closed) shape runs;
    left = holds-by-fate l (past_of closed) shape (run_is_legal l callers (past_of closed) runs) (holdings_left l closed.ports.items closed.rest.items) stands-of;
    stands = stands-of;
    places_are = places-of;
    journals = journals-of;
    quiet = quiet;
  }
