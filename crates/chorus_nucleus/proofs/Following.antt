-- The merge of what was closed stands in order and has the journals of the places, so what a pass made follows in it all that the
-- pass had seen.
use Rattle.std.proofs.Common.{ℕ, zero, suc, ◌≡◌, ◌<◌, ◌+◌, ◌-◌, true, List, map, reverse, Some, slice_get, sym, ◌∙◌, ap, subst, arith}
use Rattle.std.specs.List.{filter}
use Rattle.std.proofs.lemmas.List.{reverse-reverse}
use Rattle.chorus_ui.specs.declared.layout.Layout.{Layout}
use Rattle.chorus_ui.specs.Layout.{IsLayout, places}
use Rattle.chorus_entry.specs.declared.entry.Entry.{Entry}
use Rattle.chorus_entry.specs.Order.{IsInOrder, is_at}
use Rattle.chorus_world.specs.Order.{sort}
use Rattle.chorus_world.proofs.Sorted.Exchange.{keeps_views, sorts_in_order}
use Rattle.chorus_merge.specs.Merge.{merged}
use Rattle.chorus_turn.specs.Journals.{entries_of}
use Rattle.chorus_turn.specs.declared.knowledge.Knowledge.{Knowledge}
use Rattle.law_network.specs.Network.{NetState, Event, schedule, numbers}
use Rattle.law_network.specs.Schedules.{may_be}
use Rattle.law_network.specs.History.{history}
use Rattle.law_network.specs.Stands.{Stands}
use Rattle.law_network.proofs.Merge.Journals.{journals-are, merge-is}
use Rattle.law_network.proofs.Merge.Parts.{part, filter-reverse, in-order-reverse}
use Rattle.law_network.proofs.Places.Layouts.{schedule-keeps}
use Rattle.law_network.proofs.Promises.Promised.{stands-at}
use Rattle.law_history.specs.Journals.{Comer}
use Rattle.law_closing.specs.Closing.{IsPlace}
use Rattle.law_closing.specs.Places.{PlaceNote}
use Rattle.law_closing.specs.Behind.{AllFollow, IsMergeOf}
use Rattle.law_closing.proofs.Behind.{merge-follows}
use Rattle.chorus_net.specs.declared.closed.Closed.{Closed}
use Rattle.chorus_net.specs.Closing.{IsLeft, closed_journals, merge_of}
use Rattle.chorus_nucleus.specs.Closing.{ClosesAs}

pub numbers-get : {X : Type 0} (f : ℕ → X) (m a i : ℕ) → i < m → slice_get (map f (numbers m a)) i ≡ Some (f (a + i))
numbers-get f zero a i lt = absurd (omega (arith, lt))
numbers-get f (suc m) a zero lt = ap (λ z. Some (f z)) (let e : a ≡ a + 0 = omega arith in e)
numbers-get f (suc m) a (suc i) lt = numbers-get f m (a + 1) i (omega (arith, lt)) ∙ ap (λ z. Some (f z)) (let e : a + 1 + i ≡ a + suc i = omega arith in e)

module _ (l : Layout) (v : Knowledge PlaceNote) (comers : List Comer) (c : Closed) (k : ClosesAs l v comers c) (shape : IsLayout l) (es : List Event) (may : may_be l es ≡ true) (left : IsLeft (schedule l es) c) where
  abbrev net : NetState
  net = schedule l es

  abbrev past : List Entry
  past = history l es

  stands : Stands net past
  stands = stands-at l es shape may

  pub journal-at : (p : ℕ) → IsPlace (places l) p → slice_get (closed_journals c) (p - 1) ≡ Some (part past p)
  journal-at p is =
      ap (λ js. slice_get js (p - 1)) (left.journals ∙ journals-are net past stands)
      ∙ ap (λ (z : Layout). slice_get (map (part past) (numbers (places z) 1)) (p - 1)) (schedule-keeps l es).layout
      ∙ numbers-get (part past) (places l) 1 (p - 1) (omega (arith, is.0, is.1))
      ∙ ap (λ z. Some (part past z)) (let e : 1 + (p - 1) ≡ p = omega (arith, is.0) in e)

  part-is : (p : ℕ) → IsPlace (places l) p → part past p ≡ entries_of (k.log p)
  part-is p is =
      k.entries (p - 1) (part past p) (journal-at p is) ∙ ap (λ z. entries_of (k.log z)) (let e : p - 1 + 1 ≡ p = omega (arith, is.0) in e)

  sorted : merge_of c ≡ reverse (sort past)
  sorted = sym (reverse-reverse (merge_of c)) ∙ ap reverse (ap (λ js. reverse (merged js)) left.journals ∙ merge-is net past stands)

  merge-of : IsMergeOf (places l) k.log (merge_of c)
  merge-of = record {
    order = subst IsInOrder (sym sorted) (in-order-reverse (sort past) (sorts_in_order past stands.causal));
    parts = λ p is.
        ap (filter (is_at p)) sorted ∙ filter-reverse (is_at p) (sort past) ∙ ap reverse ((keeps_views past stands.causal).places p) ∙ part-is p is;
  }

  pub all-follow : AllFollow (places l) (merge_of c) v
  all-follow = merge-follows (places l) k.log v (merge_of c) merge-of k.tells k.within k.noted_within k.behind
