-- What a reader finds in what was closed is what is so where the moves lead.
-- c is a scenario, ms are moves, es events, both with the latest first.
use Rattle.std.proofs.Common.{ℕ, suc, ◌≡◌, ◌+◌, true, List, length, reverse, slice_get, refl, sym, ◌∙◌, ap, ap₂, subst, arith}
use Rattle.std.specs.Option.{option_map}
use Rattle.std.proofs.lemmas.List.{length-map}
use Rattle.std.proofs.lemmas.List.Sorted.{length_permutation}
use Rattle.chorus_ui.specs.Layout.{IsLayout}
use Rattle.chorus_entry.specs.declared.entry.Entry.{Entry}
use Rattle.chorus_merge.specs.Merge.{merged}
use Rattle.law_arrows.specs.Arrows.{arrows, worked_off}
use Rattle.law_arrows.proofs.Merges.{arrows_of_merges}
use Rattle.law_network.specs.Left.{journals, merged_past}
use Rattle.law_network.specs.Network.{NetState, Event, schedule}
use Rattle.law_network.specs.Schedules.{may_be}
use Rattle.law_explore.specs.declared.moves.Move.{Move}
use Rattle.law_explore.specs.Moment.{moment_with}
use Rattle.law_explore.specs.Outcome.{outcome_with}
use Rattle.law_explore.specs.Races.{Order, replaying}
use Rattle.law_explore.specs.Search.{IsHistory}
use Rattle.law_moments.specs.Answers.{answered_by, told_in, told_of}
use Rattle.law_moments.specs.Read.{left_behind, moment_read, outcome_read}
use Rattle.law_moments.proofs.Answering.{answers-are-read}
use Rattle.law_moments.proofs.Reading.{moments-are-read, outcomes-are-read}
use Rattle.law_replay.specs.Shown.{orders_of, race_of}
use Rattle.explore_report.specs.Facts.{outcome_lines}
use Rattle.chorus_scene.specs.Scene.{Scene}
use Rattle.chorus_net.specs.declared.closed.Closed.{Closed}
use Rattle.chorus_net.specs.Closing.{IsLeft, past_of}
use Rattle.chorus_explore.specs.Stages.{position}
use Rattle.chorus_explore.proofs.Happening.{events, history-may, net-is}
use Rattle.law_outcomes.specs.Closed.{ClosedTellsOutcome, IsReadOf, acts_in}
use Rattle.law_outcomes.proofs.Counting.{all_in, counted}
use Rattle.law_outcomes.proofs.Leaving.{left-is}
use Rattle.law_outcomes.proofs.Silent.{told-is-at}
use Rattle.law_outcomes.proofs.Told.{by-number}

pub script-count : (c : Scene) → length (race_of c).scripts ≡ length c.scripts
script-count c = length-map c.scripts orders_of

-- What a schedule leaves, where its commands were answered as those of a history, as many packets were worked off, and its network tells the
-- same.
module _ (c : Scene) (es : List Event) (shape : IsLayout c.layout) (may : may_be c.layout es ≡ true) where
  abbrev n : NetState
  n = schedule c.layout es

  abbrev past : List Entry
  past = merged_past n

  answers-are : (ms : List Move) → ((i : ℕ) → answered_by c.layout (suc i) (events c ms) ≡ answered_by c.layout (suc i) es) → told_in (length (race_of c).scripts) (merged_past (schedule c.layout es)) ≡ (position c ms).told
  answers-are ms same =
      sym
      (by-number (λ k. told_of k past) (race_of c).scripts (position c ms).told 1
      (λ i. told-is-at c ms i
      ∙ ap (λ told. option_map (λ (os : List Order). told) (slice_get (race_of c).scripts i)) (same i ∙ sym (answers-are-read c.layout es (suc i) shape may))
      ∙ ap (λ (k : ℕ). option_map (λ (os : List Order). told_of k past) (slice_get (race_of c).scripts i)) (next i)))
    where
      next : (i : ℕ) → suc i ≡ 1 + i
      next i = omega arith

  arrows-read : length (arrows (merged_past (schedule c.layout es))) ≡ length (worked_off c.layout es)
  arrows-read = sym (length_permutation (arrows past) (worked_off c.layout es) (arrows_of_merges c.layout es shape may))

  pub reads : (ms : List Move) (closed : Closed) → IsHistory (replaying (race_of c)) ms → IsLeft (schedule c.layout es) closed
      → ((i : ℕ) → answered_by c.layout (suc i) (events c ms) ≡ answered_by c.layout (suc i) es) → length (worked_off c.layout (events c ms)) ≡ length (worked_off c.layout es)
      → outcome_with (race_of c).scripts (position c ms).left (position c ms).told (schedule c.layout es).places
      ≡ outcome_with (race_of c).scripts (position c ms).left (position c ms).told (position c ms).net.places
      → moment_with (race_of c).scripts (position c ms).left (position c ms).told (schedule c.layout es) ≡ moment_with (race_of c).scripts (position c ms).left (position c ms).told (position c ms).net
      → acts_in (journals (schedule c.layout es)) ≡ acts_in (journals (position c ms).net) → IsReadOf c ms closed
  reads ms closed h left answered served places moments acts =
      let scripts = (race_of c).scripts in
      let left_past : past_of closed ≡ merged_past (schedule c.layout es) = ap (λ js. reverse (merged js)) left.journals in
      let answers = answers-are ms answered in
      let counted_so : told_in (length c.scripts) (merged_past (schedule c.layout es)) ≡ (position c ms).told = ap (λ (count : ℕ). told_in count past) (sym (script-count c)) ∙ answers in
      record {
        lines = ap (λ past. outcome_lines (outcome_read c.layout scripts past)) left_past
            ∙ ap outcome_lines
            (outcomes-are-read c.layout es scripts shape may ∙ ap (λ told. outcome_with scripts (left_behind scripts told) told n.places) answers
            ∙ ap (λ left. outcome_with scripts left (position c ms).told n.places) (sym (left-is (race_of c) ms h)) ∙ places);
        facts = ap₂ (λ past rest. outcome_lines (moment_read c.layout scripts past rest)) left_past left.rest
            ∙ ap outcome_lines
            (moments-are-read c.layout es scripts shape may ∙ ap (λ told. moment_with scripts (left_behind scripts told) told n) answers
            ∙ ap (λ left. moment_with scripts left (position c ms).told n) (sym (left-is (race_of c) ms h)) ∙ moments);
        acts = ap acts_in left.journals ∙ acts;
        moves = ap (λ past. length (all_in (told_in (length c.scripts) past)) + length (arrows past)) left_past ∙ ap₂ (λ told (k : ℕ). length (all_in told) + k) counted_so (arrows-read ∙ sym served) ∙ counted c ms h;
      }

pub closed-tells-outcome : ClosedTellsOutcome
closed-tells-outcome c ms closed shape keeps h left =
    reads c (events c ms) shape (history-may c shape keeps ms h) ms closed h (subst (λ (n : NetState). IsLeft n closed) (sym (net-is c ms)) left) (λ i. refl) refl
    (ap (λ (n : NetState). outcome_with (race_of c).scripts (position c ms).left (position c ms).told n.places) (net-is c ms))
    (ap (λ (n : NetState). moment_with (race_of c).scripts (position c ms).left (position c ms).told n) (net-is c ms))
    (ap (λ (n : NetState). acts_in (journals n)) (net-is c ms))
