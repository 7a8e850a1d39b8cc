-- The queues that the past tells of, after one entry more.
use Rattle.std.proofs.Common.{ℕ, ◌≡◌, ◌==◌, Bool, true, false, ◌&&◌, ◌||◌, not, cond, List, [], ◌∷◌, ◌++◌, map, drop, Some, None, refl, sym, ◌∙◌, ap, subst, append-nil}
use Rattle.std.specs.List.{filter}
use Rattle.std.proofs.lemmas.List.Elements.{filter-append}
use Rattle.std.proofs.lemmas.List.{map-append}
use Rattle.chorus_ui.specs.declared.layout.Layout.{Layout}
use Rattle.chorus_entry.specs.declared.entry.Entry.{Entry}
use Rattle.chorus_entry.specs.declared.act.Act.{Act}
use Rattle.chorus_entry.specs.Act.{message_of}
use Rattle.chorus_entry.specs.MsgId.{same_id}
use Rattle.chorus_entry.proofs.Same.{same_id-self}
use Rattle.chorus_world.specs.declared.place.Sent.{Sent}
use Rattle.chorus_world.specs.declared.progress.Progress.{Progress}
use Rattle.chorus_world.specs.declared.progress.Progress.TheVariants.{Idle}
use Rattle.chorus_world.specs.Views.{at, about, is_about}
use Rattle.chorus_entry.specs.Order.{is_at}
use Rattle.chorus_entry.specs.Same.{are_same}
use Rattle.chorus_world.specs.Places.{sent, sent_by, is_settling, settles, is_settled, unsettled}
use Rattle.chorus_world.specs.Messages.{progress, progress_after}
use Rattle.chorus_world.specs.Steps.{is_legal}
use Rattle.chorus_world.proofs.Steps.LegalLemmas.{skips, keeps, legal_parts}
use Rattle.chorus_world.proofs.Messages.Posted.{IsPosted, AllPosted, filtered}
use Rattle.chorus_world.proofs.Messages.MessageInvariant.{legal_messages}
use Rattle.chorus_world.proofs.Messages.SendingLemmas.{sent_as, at_same, settles_other, same_id_sym}
use Rattle.place_unsettled.specs.declared.wait.Key.{Key}
use Rattle.place_unsettled.specs.declared.wait.Wait.{Wait}
use Rattle.place_unsettled.specs.Queues.{Queue, passed}
use Rattle.place_unsettled.specs.Queues as queued
use Rattle.law_network.specs.Records.{as_wait, is_for, sent_for, tried_at, first_tried, queue_of, queue_at}
use Rattle.chorus_world.proofs.Messages.SentFacts.{EachSent, each-map, each-filter, sent-posted, sent-fresh, SentApart}
use Rattle.chorus_world.proofs.Messages.Firsts.{going_to, IsOpenFor, each-open, ids-apart, next-still, going-elsewhere, new-still}
use Rattle.law_network.proofs.Standing.Grows.{wait-grows}

-- the place that tries it, in the words of the world
pub tried-is : (s : Progress) → tried_at s ≡ going_to s
tried-is Idle = refl
tried-is _ = refl

-- with these messages behind the others
abbrev pub with_all : List Wait → Queue → Queue
with_all ws q = record q { waits = q.waits ++ ws }

pub waits-grow : (e : Entry) (past : List Entry) (ms : List Sent) → EachSent (λ m. IsPosted past m.id) ms → map (as_wait (e ∷ past)) ms ≡ map (as_wait past) ms
waits-grow e past [] h = refl
waits-grow e past (m ∷ ms) h =
    ap (λ w. w ∷ map (as_wait (e ∷ past)) ms) (wait-grows e past m h.0) ∙ ap (λ ws. as_wait past m ∷ ws) (waits-grow e past ms h.1)

-- what waits was posted
pub each-posted : (past : List Entry) (p : ℕ) (k : Key) → AllPosted past past → EachSent (λ m. IsPosted past m.id) (sent_for past p k)
each-posted past p k all =
    each-filter (λ m. IsPosted past m.id) (is_for k) (unsettled (at p past) (sent (at p past)))
    (each-filter (λ m. IsPosted past m.id) (λ (m : Sent). not (is_settled m.id (at p past))) (sent (at p past))
    (sent-posted past (at p past) (filtered past (is_at p) past all)))

-- An entry at another place leaves each queue.
pub queue-elsewhere : (l : Layout) (past : List Entry) (e : Entry) (p : ℕ) (k : Key) → AllPosted past past → is_legal l (e ∷ past) ≡ true → (e.place == p) ≡ false
    → queue_at (e ∷ past) p k ≡ queue_at past p k
queue-elsewhere l past e p k all legal away =
    ap (λ here. queue_of (e ∷ past) (filter (is_for k) (unsettled here (sent here)))) (skips (is_at p) e past away)
    ∙ (λ i. record { tried = first (sent_for past p k) (each-open l k.port k.route p past (legal_parts l e past legal).1) i; waits = waits-grow e past (sent_for past p k) (each-posted past p k all) i })
  where
    first : (ms : List Sent) → EachSent (IsOpenFor l k.port k.route p past) ms → first_tried (e ∷ past) ms ≡ first_tried past ms
    first [] h = refl
    first (m ∷ ms) h =
        tried-is (progress (about m.id (e ∷ past))) ∙ (going-elsewhere l past e m.id p m legal h.0.found away ∙ sym (tried-is (progress (about m.id past))))

-- What is left for k behind an entry at the place: what it does not settle, and what it sends.

filter-swap : (f g : Sent → Bool) (ms : List Sent) → filter f (filter g ms) ≡ filter g (filter f ms)
filter-swap f g [] = refl
filter-swap f g (m ∷ ms) = by (f m) (g m) refl refl (filter-swap f g ms)
  where
    by : (a b : Bool) → f m ≡ a → g m ≡ b → filter f (filter g ms) ≡ filter g (filter f ms)
        → filter f (cond b (m ∷ filter g ms) (filter g ms)) ≡ filter g (cond a (m ∷ filter f ms) (filter f ms))
    by true true x y h = ap (λ c. cond c (m ∷ filter f (filter g ms)) (filter f (filter g ms))) x ∙ (ap (λ ns. m ∷ ns) h ∙ sym (ap (λ c. cond c (m ∷ filter g (filter f ms)) (filter g (filter f ms))) y))
    by true false x y h = h ∙ sym (ap (λ c. cond c (m ∷ filter g (filter f ms)) (filter g (filter f ms))) y)
    by false true x y h = ap (λ c. cond c (m ∷ filter f (filter g ms)) (filter f (filter g ms))) x ∙ h
    by false false x y h = h

abbrev is_left : Act → Sent → Bool
is_left a m = not (settles m.id a)

left-both : (a b : Bool) (m : Sent) (f : Sent → Bool) (xs ys : List Sent) → a ≡ f m → filter (λ z. not (f z)) xs ≡ ys
    → filter (λ z. not (f z)) (cond (not b) (m ∷ xs) xs) ≡ cond (not (a || b)) (m ∷ ys) ys
left-both true true m f xs ys e h = h
left-both true false m f xs ys e h = ap (λ c. cond (not c) (m ∷ filter (λ z. not (f z)) xs) (filter (λ z. not (f z)) xs)) (sym e) ∙ h
left-both false true m f xs ys e h = h
left-both false false m f xs ys e h = ap (λ c. cond (not c) (m ∷ filter (λ z. not (f z)) xs) (filter (λ z. not (f z)) xs)) (sym e) ∙ ap (λ zs. m ∷ zs) h

left-too : (e : Entry) (here : List Entry) (ms : List Sent) → filter (is_left e.act) (unsettled here ms) ≡ unsettled (e ∷ here) ms
left-too e here [] = refl
left-too e here (m ∷ ms) =
    left-both (settles m.id e.act) (is_settled m.id here) m (λ (z : Sent). settles z.id e.act) (unsettled here ms) (unsettled (e ∷ here) ms) refl (left-too e here ms)

keeps-all : (t : Sent → Bool) (ms : List Sent) → EachSent (λ m. t m ≡ true) ms → filter t ms ≡ ms
keeps-all t [] h = refl
keeps-all t (m ∷ ms) h = ap (λ b. cond b (m ∷ filter t ms) (filter t ms)) h.0 ∙ ap (λ ns. m ∷ ns) (keeps-all t ms h.1)

module _ (l : Layout) (past : List Entry) (e : Entry) (k : Key) (all : AllPosted past past) (legal : is_legal l (e ∷ past) ≡ true) where
  abbrev p : ℕ
  p = e.place

  abbrev here : List Entry
  here = at e.place past

  before : is_legal l past ≡ true
  before = (legal_parts l e past legal).1

  free : EachSent (IsOpenFor l k.port k.route e.place past) (sent_for past e.place k)
  free = each-open l k.port k.route p past before

  -- what is sent now is not settled, by this entry either
  new-left : filter (is_left e.act) (unsettled (at e.place past) (sent_by e.act)) ≡ sent_by e.act
  new-left =
      ap (filter (is_left e.act))
      (keeps-all (λ (m : Sent). not (is_settled m.id here)) (sent_by e.act)
      (each-map (λ (m : Sent). is_settled m.id here ≡ false) (λ (m : Sent). not (is_settled m.id here) ≡ true) (λ m h. ap not h) (sent_by e.act)
      (sent-fresh l past e.clock p e.seat (λ x. legal_messages l past before x) e.act (legal_parts l e past legal).0)))
      ∙ none e.act
    where
      same : (a : Act) (ms : List Sent) → is_settling a ≡ false → filter (is_left a) ms ≡ ms
      same a [] h = refl
      same a (m ∷ ms) h =
          ap (λ b. cond (not (b && are_same same_id (Some m.id) (message_of a))) (m ∷ filter (is_left a) ms) (filter (is_left a) ms)) h ∙ ap (λ ns. m ∷ ns) (same a ms h)

      none : (a : Act) → filter (is_left a) (sent_by a) ≡ sent_by a
      none (Act.Post m d) = same (Act.Post m d) (sent_by (Act.Post m d)) refl
      none (Act.Choose x g qs) = same (Act.Choose x g qs) (sent_by (Act.Choose x g qs)) refl
      none a = refl

  sent-after : sent_for (e ∷ past) e.place k ≡ filter (is_left e.act) (sent_for past e.place k) ++ filter (is_for k) (sent_by e.act)
  sent-after =
      ap (λ v. filter (is_for k) (unsettled v (sent v))) (at_same p e past refl)
      ∙ (ap (filter (is_for k)) (sym (left-too e here (sent here ++ sent_by e.act)))
      ∙ (ap (λ ms. filter (is_for k) (filter (is_left e.act) ms)) (filter-append (λ (m : Sent). not (is_settled m.id here)) (sent here) (sent_by e.act))
      ∙ (ap (filter (is_for k)) (filter-append (is_left e.act) (unsettled here (sent here)) (unsettled here (sent_by e.act)))
      ∙ (ap (λ ms. filter (is_for k) (filter (is_left e.act) (unsettled here (sent here)) ++ ms)) new-left
      ∙ (filter-append (is_for k) (filter (is_left e.act) (unsettled here (sent here))) (sent_by e.act)
      ∙ ap (λ ms. ms ++ filter (is_for k) (sent_by e.act)) (filter-swap (is_for k) (is_left e.act) (unsettled here (sent here))))))))

  -- where the entry is about none of the messages that wait for k, it leaves them, and puts what it sends behind them
  pub queue-sends : ((m : Sent) → sent_as m.id e.place past ≡ Some m → is_for k m ≡ true → is_about (Some m.id) e ≡ false)
      → queue_at (e ∷ past) e.place k ≡ with_all (map (as_wait (e ∷ past)) (filter (is_for k) (sent_by e.act))) (queue_at past e.place k)
  queue-sends apart =
      ap (queue_of (e ∷ past)) (sent-after ∙ ap (λ ms. ms ++ new) (keeps-all (is_left e.act) old left))
      ∙ (λ i. record {
        tried = first old off i;
        waits = (map-append (as_wait (e ∷ past)) old new ∙ ap (λ ws. ws ++ map (as_wait (e ∷ past)) new) (waits-grow e past old (each-posted past p k all))) i;
      })
    where
      old : List Sent
      old = sent_for past e.place k

      new : List Sent
      new = filter (is_for k) (sent_by e.act)

      off : EachSent (λ (m : Sent). is_about (Some m.id) e ≡ false) old
      off = each-map (IsOpenFor l k.port k.route e.place past) (λ (m : Sent). is_about (Some m.id) e ≡ false) (λ m o. apart m o.found o.goes) old free

      left : EachSent (λ (m : Sent). is_left e.act m ≡ true) old
      left = each-map (λ (m : Sent). is_about (Some m.id) e ≡ false) (λ (m : Sent). is_left e.act m ≡ true) (λ m n. ap not (settles_other m.id e.act n)) old off

      news : EachSent (λ (n : Sent). going_to (progress (about n.id (e ∷ past))) ≡ None) new
      news = each-filter (λ (n : Sent). going_to (progress (about n.id (e ∷ past))) ≡ None) (is_for k) (sent_by e.act) (new-still l past e legal)

      none : (ns : List Sent) → EachSent (λ (n : Sent). going_to (progress (about n.id (e ∷ past))) ≡ None) ns → first_tried (e ∷ past) ns ≡ None
      none [] h = refl
      none (n ∷ ns) h = tried-is (progress (about n.id (e ∷ past))) ∙ h.0

      first : (ms : List Sent) → EachSent (λ (m : Sent). is_about (Some m.id) e ≡ false) ms → first_tried (e ∷ past) (ms ++ new) ≡ first_tried past ms
      first [] h = none new news
      first (m ∷ ms) h = ap (λ v. tried_at (progress v)) (skips (is_about (Some m.id)) e past h.0)

  -- and leaves the queue, where it sends nothing there
  pub queue-stays : filter (is_for k) (sent_by e.act) ≡ [] → ((m : Sent) → sent_as m.id e.place past ≡ Some m → is_for k m ≡ true → is_about (Some m.id) e ≡ false)
      → queue_at (e ∷ past) e.place k ≡ queue_at past e.place k
  queue-stays unsent apart =
      queue-sends apart
      ∙ (ap (λ ms. with_all (map (as_wait (e ∷ past)) ms) (queue_at past e.place k)) unsent
      ∙ ap (λ ws. record (queue_at past e.place k) { waits = ws }) (append-nil (queue_at past e.place k).waits))

  -- An entry about the first of the messages for k, which sends nothing.

  module _ (m : Sent) (ns : List Sent) (first : sent_for past e.place k ≡ m ∷ ns) (this : message_of e.act ≡ Some m.id) (unsent : sent_by e.act ≡ []) where
    on : is_about (Some m.id) e ≡ true
    on = ap (are_same same_id (Some m.id)) this ∙ same_id-self m.id

    after : sent_for (e ∷ past) e.place k ≡ filter (is_left e.act) (m ∷ ns)
    after = sent-after ∙ (ap (λ ms. filter (is_left e.act) (sent_for past e.place k) ++ filter (is_for k) ms) unsent ∙ (append-nil (filter (is_left e.act) (sent_for past e.place k)) ∙ ap (filter (is_left e.act)) first))

    apart : EachSent (λ (n : Sent). is_about (Some n.id) e ≡ false) ns
    apart =
        each-map (λ (n : Sent). same_id m.id n.id ≡ false) (λ (n : Sent). is_about (Some n.id) e ≡ false)
        (λ n h. ap (are_same same_id (Some n.id)) this ∙ (same_id_sym n.id m.id ∙ h)) ns
        (subst SentApart first (ids-apart l k.port k.route p past before)).0

    posted : EachSent (λ (n : Sent). IsPosted past n.id) (m ∷ ns)
    posted = subst (EachSent (λ (n : Sent). IsPosted past n.id)) first (each-posted past p k all)

    -- it stays the first, and is tried as it then says
    pub queue-tells : is_settling e.act ≡ false → queue_at (e ∷ past) e.place k ≡ queued.at (tried_at (progress_after e.place e.act (progress (about m.id past)))) (queue_at past e.place k)
    queue-tells open_still =
        ap (queue_of (e ∷ past)) (after ∙ same (m ∷ ns))
        ∙ ((λ i. record { tried = tried_at (progress (keeps (is_about (Some m.id)) e past on i)); waits = waits-grow e past (m ∷ ns) posted i })
        ∙ ap (λ ms. record { tried = tried_at (progress_after e.place e.act (progress (about m.id past))); waits = map (as_wait past) ms }) (sym first))
      where
        same : (ms : List Sent) → filter (is_left e.act) ms ≡ ms
        same [] = refl
        same (j ∷ ms) =
            ap (λ b. cond (not (b && are_same same_id (Some j.id) (message_of e.act))) (j ∷ filter (is_left e.act) ms) (filter (is_left e.act) ms)) open_still ∙ ap (λ js. j ∷ js) (same ms)

    -- it is settled, and passes; the next one is not under way
    pub queue-passes : is_settling e.act ≡ true → queue_at (e ∷ past) e.place k ≡ passed (queue_at past e.place k)
    queue-passes settling =
        ap (queue_of (e ∷ past)) (after ∙ rest)
        ∙ ((λ i. record { tried = still ns (next-still l k.port k.route p past m ns before first) apart i; waits = waits-grow e past ns posted.1 i })
        ∙ ap (λ ms. record { tried = None; waits = drop 1 (map (as_wait past) ms) }) (sym first))
      where
        rest : filter (is_left e.act) (m ∷ ns) ≡ ns
        rest =
            ap (λ b. cond (not (b && are_same same_id (Some m.id) (message_of e.act))) (m ∷ filter (is_left e.act) ns) (filter (is_left e.act) ns)) settling
            ∙ (ap (λ b. cond (not b) (m ∷ filter (is_left e.act) ns) (filter (is_left e.act) ns)) on
            ∙ keeps-all (is_left e.act) ns (each-map (λ (n : Sent). is_about (Some n.id) e ≡ false) (λ (n : Sent). is_left e.act n ≡ true) (λ n h. ap not (settles_other n.id e.act h)) ns apart))

        still : (js : List Sent) → EachSent (λ (n : Sent). going_to (progress (about n.id past)) ≡ None) js → EachSent (λ (n : Sent). is_about (Some n.id) e ≡ false) js → first_tried (e ∷ past) js ≡ None
        still [] a b = refl
        still (n ∷ js) a b = ap (λ v. tried_at (progress v)) (skips (is_about (Some n.id)) e past b.0) ∙ (tried-is (progress (about n.id past)) ∙ a.0)
