-- What became of each job, from what the library says of each message.
-- q is the queue, i a position in it, x the id of a job, m a job, past the merge of the journals, its newest entry first.
use Rattle.std.proofs.Common.{ℕ, zero, suc, ◌≡◌, ◌-◌, inl, inr, true, List, [], ◌∷◌, map, drop, Option, Some, None, slice_get, refl, sym, ◌∙◌, ap, subst, ◌↔◌}
use Rattle.chorus_ui.specs.declared.ui.Ui.{Ui}
use Rattle.chorus_ui.specs.declared.layout.Layout.{Layout}
use Rattle.chorus_ui.specs.Name.{same_ui}
use Rattle.chorus_ui.proofs.Names.{same_ui-self}
use Rattle.chorus_entry.specs.declared.entry.Entry.{Entry}
use Rattle.chorus_entry.specs.declared.id.MsgId.{MsgId}
use Rattle.chorus_entry.specs.declared.dest.Dest.{Dest}
use Rattle.chorus_entry.specs.declared.message.Message.{Message}
use Rattle.chorus_world.specs.declared.spot.Spot.{Spot}
use Rattle.chorus_world.specs.declared.spot.Spot.TheVariants as spots
use Rattle.chorus_world.specs.Views.{on}
use Rattle.chorus_world.specs.Ports.{PortState, fate}
use Rattle.chorus_world.specs.Posts.{Posted, as_posted, post_of}
use Rattle.chorus_world.specs.Fates.{MessageFate}
use Rattle.chorus_world.specs.Fates.MessageFate.{Received, Queued, UnderWay, Discarded}
use Rattle.chorus_world.specs.Steps.{is_legal}
use Rattle.chorus_world.specs.AcceptedLaws.{accepted_by}
use Rattle.chorus_world.proofs.Messages.AcceptedLemmas.{accepted_posted}
use Rattle.chorus_world.proofs.Messages.SendingLemmas.{some_is}
use Rattle.chorus_world.proofs.Sorted.Holders.{run_is_legal}
use Rattle.law_network.specs.Holdings.{Holding, holding_told, holds, record_in, told_in, told_of, StandsFor}
use Rattle.law_network.specs.Records.{message}
use Rattle.law_network.specs.EachMessage.{is_waiting_in, WaitsOnce}
use Rattle.law_network.specs.Fates.{HasFate}
use Rattle.law_network.proofs.Standing.Grows.{message-id}
use Rattle.law_replies.specs.AsPosted.{IsAsPosted}
use Rattle.law_replies.proofs.AsPosted.{as-posted, post-of}
use Rattle.law_replies.proofs.Posts.{stood-post}
use Rattle.law_history.specs.Runs.{actor_among}
use Rattle.chorus_net.specs.declared.closed.Closed.{Closed}
use Rattle.chorus_net.specs.Closing.{holdings_of, past_of}
use Rattle.chorus_sessions.specs.declared.hand.Hand.{Hand}
use Rattle.chorus_sessions.specs.declared.hand.PortMessage.{PortMessage}
use Rattle.chorus_sessions.specs.Sessions.{IsRunOf}
use Rattle.chorus_sessions.specs.Hands.{AreHandedOut, IsInSomeHand, WasDelivered, WereDelivered}
use Rattle.chorus_sessions.specs.Kept.{IsAccountedFor, NoneIsLost}
use Rattle.chorus_sessions.proofs.Lists.{In, in-filter, in-filter-back}
use Rattle.run_jobs.specs.Ending.{EndsAs, HasOneEnd, IsInNoHand, IsInOneHand, KeepsEachJob, WaitsAsSent}

-- What was posted under an id.

from-post : (m : Message) (d : Posted) → m.tag ≡ d.message.tag → m.body ≡ d.message.body → m ≡ as_posted m.id (Some d)
from-post m d tag body = λ i. record { id = m.id; tag = tag i; body = body i }

module _ (l : Layout) (past : List Entry) (legal : is_legal l past ≡ true) where
  -- of an id one message was posted
  is-message : (m : Message) → IsAsPosted m past → m ≡ message past m.id
  is-message m h = let p = post-of l past m legal h in from-post m p.post p.tag p.body ∙ ap (as_posted m.id) (sym p.is)

  -- this is the one that a session delivered
  delivered-is : (seat : ℕ) (sent : PortMessage) → WasDelivered past seat sent → sent.message ≡ message past sent.message.id
  delivered-is seat sent was =
      let m = sent.message in
      let d : Posted = record { place = was.entry.place; message = m; dest = Dest.Port sent.port } in
      from-post m d refl refl ∙ ap (as_posted m.id) (sym (stood-post l past was.entry m (Dest.Port sent.port) legal was.stands was.posts).0)

  -- what was accepted was posted
  was-posted : (q : Ui) (i : ℕ) (x : MsgId) → slice_get (accepted_by q past) i ≡ Some x → IsAsPosted (message past x) past
  was-posted q i x at =
      let d = accepted_posted l past q i x legal at in
      let is : message past x ≡ as_posted x (Some d.0) = ap (as_posted x) d.1 in
      as-posted past (message past x) d.0 (ap (λ y. post_of y past) (message-id past x) ∙ d.1) (ap (λ (z : Message). z.tag) is) (ap (λ (z : Message). z.body) is)

-- What waits.

-- a record of the queue has messages of the past
pending-told : (past : List Entry) (q : Ui) (h : Holding) → In h (holding_told past q) → (xs : List MsgId) × ((record_in h).pending ≡ map (message past) xs)
pending-told past q h = by (fate (on q past))
  where
    spot : (f : PortState) (s : Spot) → In h (told_in past q f s) → (xs : List MsgId) × ((record_in h).pending ≡ map (message past) xs)
    spot f (spots.Held actor) (inl is) = (drop f.taken f.accepted, ap (λ (z : Holding). (record_in z).pending) (sym is))
    spot f (spots.Held actor) (inr a) = absurd a
    spot f (spots.Moving actor) (inl is) = (drop f.taken f.accepted, ap (λ (z : Holding). (record_in z).pending) (sym is))
    spot f (spots.Moving actor) (inr a) = absurd a
    spot f spots.Ended a = absurd a

    by : (o : Option PortState) → In h (told_of past q o) → (xs : List MsgId) × ((record_in h).pending ≡ map (message past) xs)
    by None a = absurd a
    by (Some f) a = spot f f.spot a

posted-at : (past : List Entry) (xs : List MsgId) (k : ℕ) (x : MsgId) → slice_get (map (λ (m : Message). m.id) (map (message past) xs)) k ≡ Some x → slice_get (map (message past) xs) k ≡ Some (message past x)
posted-at past [] k x h = absurd (cc)
posted-at past (y ∷ xs) zero x h = ap (λ z. Some (message past z)) (sym (message-id past y) ∙ some_is (message past y).id x h)
posted-at past (y ∷ xs) (suc k) x h = posted-at past xs k x h

waits-as : (past : List Entry) (holdings : List Holding) (q : Ui) (i : ℕ) (x : MsgId) (what : MessageFate) → StandsFor past holdings → (w : WaitsOnce holdings q i x what)
    → slice_get (record_in w.holding).pending (i - (record_in w.holding).first) ≡ Some (message past x)
waits-as past holdings q i x what stands w =
    let h = w.holding in
    let k = i - (record_in h).first in
    let there : In h holdings = in-filter-back (is_waiting_in x) h holdings (subst (λ zs. In h zs) (sym w.alone) (inl refl)) in
    let own : holds q h ≡ true = ap (λ r. same_ui r q) w.port ∙ same_ui-self q in
    let told : In h (holding_told past q) = subst (λ zs. In h zs) (stands.shown q) (in-filter (holds q) h holdings own there) in
    let p = pending-told past q h told in
    ap (λ (ms : List Message). slice_get ms k) p.1 ∙ posted-at past p.0 k x (sym (ap (λ (ms : List Message). slice_get (map (λ (m : Message). m.id) ms) k) p.1) ∙ w.position.1)

-- The ends.

module _ (l : Layout) (c : Closed) (hands : List Hand) (run : IsRunOf l c) (all : AreHandedOut (past_of c) hands) where
  abbrev past : List Entry
  past = past_of c

  legal : is_legal l past ≡ true
  legal = run_is_legal l (actor_among run.comers) past run.is.run

  in-one : (q : Ui) (i : ℕ) (m : Message) → m ≡ message past m.id → IsInSomeHand q i m.id hands → IsInOneHand hands q i m
  in-one q i m is h =
      let k = h.3 in
      let was = all.each h.0 k.index h.1 k.got h.2 k.stands in
      let same : k.got.message ≡ m = is-message l past legal k.got.message was.posted ∙ ap (message past) k.id ∙ sym is in
      let got : k.got ≡ record { port = q; position = i; message = m } = λ j. record { port = k.port j; position = k.position j; message = same j } in
      record {
        hand = h.0;
        index = k.index;
        stands = (h.1, h.2, k.stands ∙ ap Some got);
        alone = λ a j other s id.
            (let one : a ≡ h.0 = all.alone a h.0 j k.index s.0 h.1 other k.got s.1 h.2 s.2 k.stands (id ∙ sym k.id) in
            let hand : s.0 ≡ h.1 = some_is s.0 h.1 (sym s.1 ∙ ap (λ b. slice_get hands b) one ∙ h.2) in
            (one, all.once h.0 j k.index h.1 other k.got h.2 (subst (λ (z : Hand). slice_get z.taken.items j ≡ Some other) hand s.2) k.stands (id ∙ sym k.id)));
      }

  in-none : (q : Ui) (i : ℕ) (m : Message) → slice_get (accepted_by q past) i ≡ Some m.id → (IsInSomeHand q i m.id hands → ⊥) → IsInNoHand hands m
  in-none q i m at not a j got s same =
      let was = all.each a j s.0 got s.1 s.2 in
      let alone = run.is.left.alone got.port q got.position i m.id (was.position ∙ ap Some same) at in
      not (a, s.0, s.1, record { index = j; got = got; stands = s.2; port = alone.0; position = alone.1; id = same })

  module _ (kept : NoneIsLost l c hands) where
    ends : (q : Ui) (i : ℕ) (m : Message) → m ≡ message past m.id → slice_get (accepted_by q past) i ≡ Some m.id → HasOneEnd l c hands q i m
    ends q i m is at = (k.what, by k.what k.fate k.in_hand)
      where
        k : IsAccountedFor l c hands q i m.id
        k = kept q i m.id at

        waits : (what : MessageFate) → WaitsOnce (holdings_of l c) q i m.id what → WaitsAsSent (holdings_of l c) q i m what
        waits what w = record { once = w; as_sent = waits-as past (holdings_of l c) q i m.id what run.is.stands w ∙ ap Some (sym is) }

        by : (what : MessageFate) → HasFate past (holdings_of l c) q i m.id what → IsInSomeHand q i m.id hands ↔ (what ≡ Received) → EndsAs past (holdings_of l c) hands q i m what
        by Received f h = (in-one q i m is (h.1 refl), f.waits)
        by Queued f h = (waits Queued f.waits, in-none q i m at (λ there. (let no = h.0 there in absurd (cc))))
        by UnderWay f h = (waits UnderWay f.waits, in-none q i m at (λ there. (let no = h.0 there in absurd (cc))))
        by Discarded f h = (f.discarded.1 refl, f.waits, in-none q i m at (λ there. (let no = h.0 there in absurd (cc))))

    pub keeps-each-job : (q : Ui) → WereDelivered past hands → KeepsEachJob l c hands q
    keeps-each-job q delivered = record {
      each = λ i x at.
          (let id = message-id past x in
          (message past x, id, was-posted l past legal q i x at, ends q i (message past x) (ap (message past) (sym id)) (at ∙ ap Some (sym id))));
      told = λ a j hand sent here found port.
          (let was = delivered a j hand sent here found in
          (was, ends q sent.position sent.message (delivered-is l past legal hand.seat sent was) (subst (λ r. slice_get (accepted_by r past) sent.position ≡ Some sent.message.id) port was.position)));
    }
