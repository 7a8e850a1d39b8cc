-- A counter keeps its count.
-- q is the counter, x and y are the ids of messages, past is the merge of the journals, its newest entry first.
use Rattle.std.proofs.Common.{ℕ, ◌≡◌, ◌<◌, inr, true, List, [], ◌∷◌, ◌++◌, drop, Option, Some, None, slice_get, refl, sym, ◌∙◌, ap, subst, append_assoc}
use Rattle.chorus_ui.specs.declared.ui.Ui.{Ui}
use Rattle.chorus_ui.specs.declared.layout.Layout.{Layout}
use Rattle.chorus_entry.specs.declared.entry.Entry.{Entry}
use Rattle.chorus_entry.specs.declared.id.MsgId.{MsgId}
use Rattle.chorus_entry.specs.declared.act.Act.TheVariants.{Done}
use Rattle.chorus_entry.specs.declared.tag.Tag.TheVariants.{Request}
use Rattle.chorus_world.specs.Views.{is_by, by}
use Rattle.chorus_world.specs.Posts.{Posted, post_of, tag_from, tag_of}
use Rattle.chorus_world.specs.Seats.{Call, first_call}
use Rattle.chorus_world.specs.Steps.{is_legal}
use Rattle.chorus_world.specs.SentLaws.{StandsIn}
use Rattle.chorus_world.specs.AcceptedLaws.{taken_by, ReceivesInOrder}
use Rattle.chorus_world.proofs.Messages.SendingLemmas.{some_is}
use Rattle.chorus_world.proofs.Messages.PostLemmas.{tag_kept}
use Rattle.chorus_world.proofs.Messages.AcceptedLemmas.{accepted_belongs, accepted_posted}
use Rattle.chorus_world.proofs.Seats.CallLemmas.{request_goes, direct_port}
use Rattle.chorus_world.proofs.Seats.RequestLaws.{requests_once, requests_rise}
use Rattle.chorus_world.proofs.Sorted.Holders.{run_is_legal}
use Rattle.chorus_world.proofs.Moments.{legal-older}
use Rattle.law_network.specs.Fates.{WorldHolds}
use Rattle.law_world.proofs.Settling.{done-by-reply}
use Rattle.chorus_turn.specs.Lists.{StartsWith}
use Rattle.law_history.specs.Runs.{actor_among}
use Rattle.chorus_net.specs.declared.closed.Closed.{Closed}
use Rattle.chorus_net.specs.Closing.{past_of}
use Rattle.chorus_sessions.specs.Sessions.{IsRunOf}
use Rattle.chorus_sessions.proofs.Lists.{In, in-seam, in-back, in-filter-back, get-longer}
use Rattle.chorus_sessions.proofs.Once.{take-drop}
use Rattle.chorus_sessions.proofs.Received.{stands-so}
use Rattle.run_counter.specs.Counting.{accepted, counted, HasCalled, IsOfCall, IsCountedOnce, KeepsCount, AlwaysKeepsCount}
use Rattle.run_counter.proofs.Counts.{stays, counted-by}

module _ (l : Layout) (past : List Entry) (legal : is_legal l past ≡ true) (order : ReceivesInOrder past) (holds : WorldHolds past) where
  in-order : (q : Ui) → StartsWith (accepted q past) (counted q past)
  in-order q =
      let k = taken_by q past in
      let xs = accepted q past in
      (drop k xs, take-drop k xs ∙ ap (λ ys. ys ++ drop k xs) (sym (order q)))

  was-accepted : (q : Ui) (i : ℕ) (x : MsgId) → slice_get (counted q past) i ≡ Some x → slice_get (accepted q past) i ≡ Some x
  was-accepted q i x h =
      let starts = in-order q in
      ap (λ xs. slice_get xs i) starts.1 ∙ get-longer (counted q past) starts.0 i x h

  once : (q : Ui) (client n i j : ℕ) (x y : MsgId) → slice_get (counted q past) i ≡ Some x → slice_get (counted q past) j ≡ Some y → IsOfCall client n past x → IsOfCall client n past y → i ≡ j
  once q client n i j x y here there a b =
      (requests_once l past q q i j x y n a.1 b.1 legal (was-accepted q i x here) (was-accepted q j y there) (a.0 ∙ sym b.0) a.2 b.2).1

  rise : (q : Ui) (client n m i j : ℕ) (x y : MsgId) → slice_get (counted q past) i ≡ Some x → slice_get (counted q past) j ≡ Some y → IsOfCall client n past x → IsOfCall client m past y → i < j → n < m
  rise q client n m i j x y here there a b lt =
      requests_rise l past q i j x y n m a.1 b.1 legal lt (was-accepted q i x here) (was-accepted q j y there) (a.0 ∙ sym b.0) a.2 b.2

  each : (q : Ui) (i j : ℕ) (x : MsgId) → slice_get (counted q past) i ≡ Some x → slice_get (counted q past) j ≡ Some x → i ≡ j
  each q i j x here there = (holds.alone q q i j x (was-accepted q i x here) (was-accepted q j x there)).1

  made : (q : Ui) (client n i : ℕ) (x : MsgId) → slice_get (counted q past) i ≡ Some x → IsOfCall client n past x → HasCalled q client n past
  made q client n i x h a =
      let at-i = was-accepted q i x h in
      let d = accepted_posted l past q i x legal at-i in
      let f = request_goes l past x d.0 n a.1 legal d.1 (ap tag_from (sym d.1) ∙ a.2) in
      let k = accepted_belongs l past q i x legal at-i in
      (f.0, ap (λ s. first_call n (by s past)) (sym a.0) ∙ f.1, sym (direct_port l past k.place x k.message d.0 f.0.port legal k.is d.1 f.2) ∙ k.port)

  -- one call goes to one port
  same-port : (q r : Ui) (client n : ℕ) → HasCalled q client n past → HasCalled r client n past → r ≡ q
  same-port q r client n a b =
      let same : a.0 ≡ b.0 = some_is a.0 b.0 (sym a.1 ∙ b.1) in
      sym b.2 ∙ (ap (λ (c : Call). c.port) (sym same) ∙ a.2)

  counted-once : (q : Ui) (client n i : ℕ) (x : MsgId) → slice_get (counted q past) i ≡ Some x → IsOfCall client n past x → IsCountedOnce q client n past
  counted-once q client n i x h a = record {
    index = i;
    message = x;
    stands = h;
    of_call = a;
    alone = λ j y there b. once q client n j i y x there h b a;
  }

-- a tag that is a request's was posted
request-posted : (o : Option Posted) (n : ℕ) (back : Ui) → tag_from o ≡ Request n back → (d : Posted) × (o ≡ Some d)
request-posted None n back h = absurd (cc)
request-posted (Some d) n back h = (d, refl)

-- What stands, and what a message was posted as, before an entry of the past.

stood-in : (f e : Entry) (past : List Entry) (s : StandsIn e past) → In f s.older → In f past
stood-in f e past s a = subst (λ zs. In f zs) (sym s.is) (in-back f s.newer (e ∷ s.older) (inr a))

stood-tag : (x : MsgId) (n : ℕ) (back : Ui) (e : Entry) (past : List Entry) (s : StandsIn e past) → tag_of x s.older ≡ Request n back → tag_of x past ≡ Request n back
stood-tag x n back e past s t =
    let d = request-posted (post_of x s.older) n back t in
    let is : past ≡ (s.newer ++ e ∷ []) ++ s.older = s.is ∙ sym (append_assoc s.newer (e ∷ []) s.older) in
    ap (tag_of x) is ∙ (tag_kept x (s.newer ++ e ∷ []) s.older d.0 d.1 ∙ t)

-- the request that a Done is about was counted
done-once : (l : Layout) (past : List Entry) (q : Ui) (e : Entry) (n : ℕ) → is_legal l past ≡ true → ReceivesInOrder past → WorldHolds past → StandsIn e past → e.act ≡ Done n → HasCalled q e.seat n past → IsCountedOnce q e.seat n past
done-once l past q e n legal order holds s act c =
    let older : is_legal l (e ∷ s.older) ≡ true = legal-older l s.newer (e ∷ s.older) (ap (is_legal l) (sym s.is) ∙ legal) in
    let r = (done-by-reply l s.older e older n act).answers in
    let t = r.taken in
    let mine : In t.entry (by r.entry.seat r.stands.older) = subst (λ es. In t.entry es) (sym t.stands) (in-seam t.entry t.newer t.older) in
    let before = stood-in t.entry r.entry s.older r.stands (in-filter-back (is_by r.entry.seat) t.entry r.stands.older mine) in
    let found = counted-by t.port t.request t.position t.entry past (stands-so t.entry past (stood-in t.entry e past s before)) t.takes in
    let tag = stood-tag t.request n _ e past s (stood-tag t.request n _ r.entry s.older r.stands t.tag) in
    let call : IsOfCall e.seat n past t.request = (t.from_client, _, tag) in
    let port = same-port l past legal order holds q t.port e.seat n c (made l past legal order holds t.port e.seat n found.0 t.request found.1 call) in
    counted-once l past legal order holds q e.seat n found.0 t.request (subst (λ z. slice_get (counted z past) found.0 ≡ Some t.request) port found.1) call

keeps-count : (l : Layout) (q : Ui) (past : List Entry) → is_legal l past ≡ true → ReceivesInOrder past → WorldHolds past → KeepsCount q past
keeps-count l q past legal order holds = record {
  in_order = in-order l past legal order holds q;
  each = each l past legal order holds q;
  kept = holds.each q;
  once = once l past legal order holds q;
  rise = rise l past legal order holds q;
  made = made l past legal order holds q;
  done = λ e n s act c. done-once l past q e n legal order holds s act c;
}

pub promised : (l : Layout) (closed : Closed) (q : Ui) → IsRunOf l closed → AlwaysKeepsCount q (past_of closed)
promised l closed q h =
    let legal = run_is_legal l (actor_among h.comers) (past_of closed) h.is.run in
    record {
      keeps = λ newer older is. keeps-count l q older (legal-older l newer older (ap (is_legal l) (sym is) ∙ legal)) (h.is.receives newer older is) (h.is.holds newer older is);
      stays = λ newer older is. subst (λ zs. StartsWith (counted q zs) (counted q older)) (sym is) (stays q newer older);
    }
