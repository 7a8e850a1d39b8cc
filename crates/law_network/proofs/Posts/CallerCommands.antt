-- The commands of callers that post to a port: Send, Call, Retry, Reply; and Cancel; with their refusals.
use Rattle.std.proofs.Common.{ℕ, ◌≡◌, ◌==◌, ◌+◌, true, cond, List, ◌∷◌, Option, Some, None, refl, sym, ◌∙◌, ap, arith, eq-eqb}
use Rattle.std.specs.Option.{option_or}
use Rattle.chorus_ui.specs.declared.ui.Ui.{Ui}
use Rattle.chorus_ui.specs.Layout.{place_at}
use Rattle.chorus_entry.specs.declared.entry.Entry.{Entry}
use Rattle.chorus_entry.specs.declared.tag.Tag.TheVariants as tags
use Rattle.chorus_entry.specs.declared.dest.Dest.TheVariants as dests
use Rattle.chorus_entry.specs.declared.command.Command.{Command}
use Rattle.chorus_entry.specs.declared.command.Command.TheVariants as commands
use Rattle.chorus_entry.specs.declared.act.Act.{Act}
use Rattle.chorus_entry.specs.declared.act.Act.TheVariants as acts
use Rattle.chorus_world.specs.Views.{by}
use Rattle.chorus_world.specs.Seats as seats
use Rattle.chorus_world.specs.Seats.{requests, call, call_in, first_call, ended, hand}
use Rattle.chorus_calls.specs.Clients.{Call, Calling, after_begin, with_call, after_cancel}
use Rattle.chorus_calls.specs.Callers.{with_client}
use Rattle.law_machine.specs.declared.outgoing.Outgoing.{Outgoing}
use Rattle.law_machine.specs.PlaceState.{Turn, next_entry}
use Rattle.law_machine.specs.Own.{next_message}
use Rattle.law_machine.specs.Doing.{does}
use Rattle.law_machine.specs.PlaceMachine.{act}
use Rattle.chorus_world.proofs.Seats.OnlyAnswer.{Fitting}
use Rattle.law_machine.proofs.Machine.Owns.{IsOwn, Calls, CallsNone, Retries, RetriesNone, Cancels, CancelsNone, Replies, RepliesNone, is-own}
use Rattle.law_network.proofs.Commands.OwnIsAnswer.{given-fits}
use Rattle.law_network.specs.Network.{NetState}
use Rattle.law_network.specs.Records.{outstanding_as, as_called}
use Rattle.chorus_world.proofs.Seats.CallLemmas.{first_bounds}
use Rattle.chorus_world.proofs.Seats.CallFacts.{next-uncalled}
use Rattle.law_network.proofs.Standing.StillCallers.{outstanding-more}
use Rattle.law_network.proofs.Standing.Steps.{Stood}
use Rattle.law_network.proofs.Standing.Leading.{LeadsOn, notes-on, calls-on}
use Rattle.law_network.proofs.Standing.Given.{IsGiven}
use Rattle.law_network.proofs.Posts.Posting.{post-stands}

-- What the outstanding call is, as the past says.

-- its number is the one that the seat called last, and its first post is as it is kept
pub record IsCalled (past : List Entry) (t : Turn) (m : Call) : Type 0 where
  pub number : call (by t.caller.seat past) ≡ Some m.number
  pub first : first_call m.number (by t.caller.seat past) ≡ Some (record { port = m.port; back = m.back; body = m.body })

called : (past : List Entry) (t : Turn) (o : Option ℕ) (m : Call) → call (by t.caller.seat past) ≡ o → outstanding_as (by t.caller.seat past) o ≡ Some m → IsCalled past t m
called past t None m e h = absurd (cc)
called past t (Some k) m e h = go (first_call k (by t.caller.seat past)) refl h
  where
    go : (f : Option seats.Call) → first_call k (by t.caller.seat past) ≡ f → as_called k f ≡ Some m → IsCalled past t m
    go None g j = absurd (let bad : None ≡ Some m = j in cc)
    go (Some f) g j =
        let same : record { number = k; port = f.port; back = f.back; body = f.body } ≡ m = cc in
        let num : k ≡ m.number = ap (λ (z : Call). z.number) same in
        record {
          number = e ∙ ap (λ z. Some z) num;
          first = ap (λ z. first_call z (by t.caller.seat past)) (sym num)
              ∙ (g ∙ (λ i. Some (record { port = (same i).port; back = (same i).back; body = (same i).body })));
        }

module _ (n : NetState) (us : List Outgoing) (past : List Entry) (t : Turn) (w : Stood n us past t) where
  pub is-called : (m : Call) → t.caller.client.outstanding ≡ Some m → IsCalled past t m
  is-called m e = called past t (call (by t.caller.seat past)) m refl (sym w.caller.call ∙ e)

module _ (n : NetState) (us : List Outgoing) (past : List Entry) (t : Turn) where
  abbrev mine : List Entry
  mine = by t.caller.seat past

  abbrev Goal : Act → Type 0
  Goal a = LeadsOn n us past (does a t)

  abbrev Fit : Command → Act → Type 0
  Fit c a = Fitting t.place.layout past t.place.number t.caller.seat t.caller.actor c a

  -- Send to a port.
  pub send-stands : (q : Ui) (body : List ℕ) → IsGiven n us past t (commands.Send (dests.Port q) body) → LeadsOn n us past (act (commands.Send (dests.Port q) body) t)
  send-stands q body i =
      let m = next_message tags.Plain body t.caller in
      let a = acts.Post m (dests.Port q) in
      let e = next_entry a t in
      let f = given-fits n us past t (commands.Send (dests.Port q) body) i in
      post-stands n us past t (record { stood = i.stood; rests = i.rests }) m (record { seat = refl; number = refl; copy = refl }) q f.kinds f.may
      (record {
        seat = refl;
        actor = refl;
        posts = refl;
        given = omega arith;
        call = i.stood.caller.call ∙ sym (outstanding-more e mine (call mine) (λ z. refl));
        hand = refl;
        stays = eq-eqb t.place.number (place_at t.place.layout t.caller.actor.site t.caller.actor) i.place;
      })

  -- Call.
  calls : (q back : Ui) (body : List ℕ) → IsGiven n us past t (commands.Call q back body) → {a : Act} → IsOwn t (commands.Call q back body) a → Fit (commands.Call q back body) a → Goal a
  calls q back body i (Calls _ _ _ none) f =
      let num = t.caller.client.given + 1 in
      let m = next_message (tags.Request num back) body t.caller in
      let given : num ≡ requests mine + 1 = ap (λ z. z + 1) i.stood.caller.given in
      let begun : after_begin t.caller.client q back body ≡ record { outstanding = Some (record { number = num; port = q; back = back; body = body }); given = num } =
      ap (λ o. with_call o t.caller.client q back body) none in
      let self : (num == num) ≡ true = eq-eqb num num refl in
      post-stands n us past t (record { stood = i.stood; rests = i.rests }) m (record { seat = refl; number = refl; copy = refl }) q f.kinds f.may
      (record {
        seat = refl;
        actor = refl;
        posts = refl;
        given = ap (λ (z : Calling). z.given) begun ∙ (omega arith);
        call = ap (λ (z : Calling). z.outstanding) begun
            ∙ sym (ap (λ o. as_called num (option_or o (call_in num m.tag (dests.Port q) body))) (ap (λ z. first_call z mine) given ∙ next-uncalled mine)
            ∙ ap (λ b. as_called num (cond b (Some (record { port = q; back = back; body = body })) None)) self);
        hand = refl;
        stays = eq-eqb t.place.number (place_at t.place.layout t.caller.actor.site t.caller.actor) i.place;
      })
  calls q back body i (CallsNone _ _ _ m e) f =
      notes-on n us past t i.stood i.rests (acts.Outstanding m.number) refl refl refl refl refl refl refl (λ now. refl) f.kinds f.may f.fits tt

  pub call-stands : (q back : Ui) (body : List ℕ) → IsGiven n us past t (commands.Call q back body) → LeadsOn n us past (act (commands.Call q back body) t)
  call-stands q back body i = let c = commands.Call q back body in calls q back body i (is-own c t) (given-fits n us past t c i)

  -- Retry: the outstanding call is posted again.
  retries : IsGiven n us past t commands.Retry → {a : Act} → IsOwn t commands.Retry a → Fit commands.Retry a → Goal a
  retries i (RetriesNone e) f = notes-on n us past t i.stood i.rests acts.NoCall refl refl refl refl refl refl refl (λ now. refl) f.kinds f.may f.fits tt
  retries i (Retries c e) f =
      let w = i.stood in
      let m = next_message (tags.Request c.number c.back) c.body t.caller in
      let known = is-called n us past t w c e in
      let same : seats.Call = record { port = c.port; back = c.back; body = c.body } in
      let bound = first_bounds c.number mine same known.first in
      let given = w.caller.given in
      let kept : after_begin t.caller.client c.port c.back c.body ≡ t.caller.client = ap (λ o. with_call o t.caller.client c.port c.back c.body) e in
      post-stands n us past t (record { stood = w; rests = i.rests }) m (record { seat = refl; number = refl; copy = refl }) c.port f.kinds f.may
      (record {
        seat = refl;
        actor = refl;
        posts = refl;
        given = ap (λ (z : Calling). z.given) kept ∙ (omega (arith, bound, given));
        call = ap (λ (z : Calling). z.outstanding) kept
            ∙ (e ∙ sym (ap (λ o. as_called c.number (option_or o (call_in c.number m.tag (dests.Port c.port) c.body))) known.first));
        hand = refl;
        stays = eq-eqb t.place.number (place_at t.place.layout t.caller.actor.site t.caller.actor) i.place;
      })

  pub retry-stands : IsGiven n us past t commands.Retry → LeadsOn n us past (act commands.Retry t)
  retry-stands i = retries i (is-own commands.Retry t) (given-fits n us past t commands.Retry i)

  -- Reply, to the request in hand.
  replies : (body : List ℕ) → IsGiven n us past t (commands.Reply body) → {a : Act} → IsOwn t (commands.Reply body) a → Fit (commands.Reply body) a → Goal a
  replies body i (RepliesNone _ e) f = notes-on n us past t i.stood i.rests acts.NoRequest refl refl refl refl refl refl refl (λ now. refl) f.kinds f.may f.fits tt
  replies body i (Replies _ h e) f =
      let m = next_message (tags.Reply h.client h.number) body t.caller in
      let a = acts.Post m (dests.Port h.back) in
      post-stands n us past t (record { stood = i.stood; rests = i.rests }) m (record { seat = refl; number = refl; copy = refl }) h.back f.kinds f.may
      (record {
        seat = refl;
        actor = refl;
        posts = refl;
        given = omega arith;
        call = i.stood.caller.call ∙ sym (outstanding-more (next_entry a t) mine (call mine) (λ z. refl));
        hand = refl;
        stays = eq-eqb t.place.number (place_at t.place.layout t.caller.actor.site t.caller.actor) i.place;
      })

  pub reply-stands : (body : List ℕ) → IsGiven n us past t (commands.Reply body) → LeadsOn n us past (act (commands.Reply body) t)
  reply-stands body i = replies body i (is-own (commands.Reply body) t) (given-fits n us past t (commands.Reply body) i)

  -- The end of a call.
  cancels : IsGiven n us past t commands.Cancel → {a : Act} → IsOwn t commands.Cancel a → Fit commands.Cancel a → Goal a
  cancels i (CancelsNone e) f = notes-on n us past t i.stood i.rests acts.NoCall refl refl refl refl refl refl refl (λ now. refl) f.kinds f.may f.fits tt
  cancels i (Cancels m e) f =
      let a = acts.Cancel m.number in
      let c = is-called n us past t i.stood m e in
      calls-on n us past t i.stood i.rests a (with_client t.caller (after_cancel t.caller.client)) refl refl refl refl refl refl (λ now. refl) f.kinds f.may f.fits tt
      (record {
        seat = refl;
        actor = refl;
        posts = refl;
        given = refl;
        call = sym (ap (λ o. outstanding_as (next_entry a t ∷ mine) (ended m.number o)) c.number ∙ ap (λ b. outstanding_as (next_entry a t ∷ mine) (cond b None (Some m.number))) (eq-eqb m.number m.number refl));
        hand = refl;
        stays = refl;
      })

  pub cancel-stands : IsGiven n us past t commands.Cancel → LeadsOn n us past (act commands.Cancel t)
  cancel-stands i = cancels i (is-own commands.Cancel t) (given-fits n us past t commands.Cancel i)
