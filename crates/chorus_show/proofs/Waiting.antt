-- The queues with one more entry.
use Rattle.std.proofs.Common.{◌≡◌, ◌≢◌, ⊎_elim, ℕ, ◌+◌, ◌-◌, ◌^◌, ◌<◌, ◌≤◌, Bool, true, false, cond, Option, Some, None, List, ◌∷◌, if◌then◌else◌, refl, sym, ap, ◌∙◌, arith, unwrap_or, length, rules}
use Rattle.std.specs.Ordering.{eq_by_cmp}
use Rattle.std.specs.Cmp.Rules.{comparing}
use Rattle.std.specs.BTreeMap.{BTreeMap, get, is_at}
use Rattle.chorus_ui.proofs.Names.{same_ui_tells}
use Rattle.chorus_ui.specs.declared.ui.Ui.{Ui}
use Rattle.chorus_ui.specs.Name.{same_ui, name_cmp}
use Rattle.chorus_entry.specs.declared.entry.Entry.{Entry}
use Rattle.chorus_show.specs.declared.queues.Spot.{Spot}
use Rattle.chorus_show.specs.declared.queues.Spot.TheVariants.{Held, Moving}
use Rattle.chorus_show.specs.declared.queues.Queue.{Queue}
use Rattle.chorus_show.specs.declared.queues.Queues.{Queues}
use Rattle.chorus_show.specs.Summary.{waiting_at}
use Rattle.chorus_show.specs.Tally.{share, no_queue, news_of, with_later, queue_of, AreQueues}
use Rattle.chorus_show.proofs.PortSums.{IsNews, news, queue_more, queue_same, waiting_more, waiting_same, waiting_within, share_within}

ties : (u v : Ui) → same_ui u v ≡ eq_by_cmp name_cmp u v
ties = search (comparing, rules)

either : (b : Bool) (x : Queue) (o : Option Queue) → unwrap_or (cond b (Some x) o) no_queue ≡ (if b then x else unwrap_or o no_queue)
either true x o = refl
either false x o = refl

module _ (old : Queues) (e : Entry) (later : List Entry) (are : AreQueues old later) where
  pub no_news : None ≡ news_of e.act → AreQueues old (e ∷ later)
  no_news none =
      let n = rw (← none) at (news e.act) in
      record {
        ports = λ p. are.ports p ∙ sym (queue_same e later n p);
        queued = are.queued ∙ sym (waiting_same e later n Held);
        moving = are.moving ∙ sym (waiting_same e later n Moving);
      }

  -- an entry that says `n.1` of the queue of `n.0`, which was `before`
  module _ (n : Ui × Queue) (told : Some n ≡ news_of e.act) (before : Queue) (was : before ≡ unwrap_or (get name_cmp old.ports n.0) no_queue) (queue : Queue) (now : queue ≡ with_later n.1 before) where
    own : IsNews e.act n.0 n.1
    own = rw (← told) at (news e.act)

    is_queue : before ≡ queue_of n.0 later
    is_queue = was ∙ are.ports n.0

    -- a total with the share of the queue for what was its share
    module _ (spot : Spot) (total : ℕ) (is : total ≡ waiting_at spot later) (share_now : ℕ) (shares : share_now ≡ share spot queue) where
      pub moved : total + share_now ≡ waiting_at spot (e ∷ later) + share spot before
      moved = (λ i. is i + (shares ∙ ap (share spot) (now ∙ ap (with_later n.1) is_queue)) i) ∙ sym (waiting_more e later n.0 n.1 own spot) ∙ ap (λ q. waiting_at spot (e ∷ later) + share spot q) (sym is_queue)

      pub fits : length later < 2 ^ 63 → total + share_now < 2 ^ 64
      fits small = omega (arith, moved, waiting_within spot (e ∷ later), share_within spot n.0 later, ap (share spot) is_queue)

      pub covers : (share_before : ℕ) → share_before ≡ share spot before → share_before ≤ total + share_now
      covers share_before e = omega (arith, moved)

      pub total_now : (share_before : ℕ) → share_before ≡ share spot before → total + share_now - share_before ≡ waiting_at spot (e ∷ later)
      total_now share_before e = omega (arith, moved)

    module _ (ports : BTreeMap Ui Queue) (updates : (p : Ui) → get name_cmp ports p ≡ cond (is_at (name_cmp n.0) p) (Some queue) (get name_cmp old.ports p)) where
      found : (p : Ui) → unwrap_or (get name_cmp ports p) no_queue ≡ (if same_ui n.0 p then queue else queue_of p later)
      found p =
          ap (λ o. unwrap_or o no_queue) (updates p)
          ∙ either (is_at (name_cmp n.0) p) queue (get name_cmp old.ports p)
          ∙ (λ i. if sym (ties n.0 p) i then queue else are.ports p i)

      pub ports_now : (p : Ui) → unwrap_or (get name_cmp ports p) no_queue ≡ queue_of p (e ∷ later)
      ports_now p = found p ∙ ⊎_elim own_port other_port (same_ui_tells n.0 p) ∙ sym (queue_more e later n.0 n.1 own p)
        where
          own_port : (same_ui n.0 p ≡ true) × (n.0 ≡ p) → (if same_ui n.0 p then queue else queue_of p later) ≡ (if same_ui n.0 p then with_later n.1 (queue_of p later) else queue_of p later)
          own_port same = rw (same.0) (now ∙ ap (with_later n.1) (is_queue ∙ ap (λ q. queue_of q later) same.1))

          other_port : (same_ui n.0 p ≡ false) × (n.0 ≢ p) → (if same_ui n.0 p then queue else queue_of p later) ≡ (if same_ui n.0 p then with_later n.1 (queue_of p later) else queue_of p later)
          other_port differs = rw (differs.0) refl
