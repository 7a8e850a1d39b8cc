-- The own act of the place machine is the act that the views tell, where the network stands for a past; so it answers its command.
use Rattle.std.proofs.Common.{ℕ, zero, suc, ◌≡◌, ◌≢◌, ◌+◌, ◌-◌, ◌==◌, Bool, true, false, ◌&&◌, cond, List, [], ◌∷◌, length, map, drop, Option, Some, None, slice_get, refl, sym, ◌∙◌, ap, subst, inl, inr, arith}
use Rattle.std.proofs.lemmas.Bool.{eq-eqb, and_from}
use Rattle.chorus_ui.specs.declared.ui.Ui.{Ui}
use Rattle.chorus_ui.specs.Name.{same_ui}
use Rattle.chorus_ui.specs.declared.layout.Layout.{Layout}
use Rattle.chorus_ui.specs.Layout.{IsLayout}
use Rattle.chorus_ui.proofs.Names.{from_same_ui, same_ui-self, same_ui_tells}
use Rattle.chorus_entry.specs.declared.entry.Entry.{Entry}
use Rattle.chorus_entry.specs.declared.hand.Hand.{Hand}
use Rattle.chorus_entry.specs.declared.id.MsgId.{MsgId}
use Rattle.chorus_entry.specs.declared.tag.Tag.{Tag}
use Rattle.chorus_entry.specs.declared.tag.Tag.TheVariants as tags
use Rattle.chorus_entry.specs.declared.dest.Dest.{Dest}
use Rattle.chorus_entry.specs.declared.dest.Dest.TheVariants as dests
use Rattle.chorus_entry.specs.declared.message.Message.{Message}
use Rattle.chorus_entry.specs.declared.act.Act.{Act}
use Rattle.chorus_entry.specs.declared.act.Act.TheVariants as acts
use Rattle.chorus_entry.specs.declared.command.Command.{Command}
use Rattle.chorus_entry.specs.declared.record.PortRecord.{PortRecord}
use Rattle.chorus_entry.specs.Command.{meets_conditions}
use Rattle.chorus_entry.specs.Places.{place_for}
use Rattle.chorus_world.specs.declared.spot.Spot.{Spot}
use Rattle.chorus_world.specs.declared.spot.Spot.TheVariants as spots
use Rattle.chorus_world.specs.Views.{at, by, on}
use Rattle.chorus_world.specs.Ports.{PortState, fate, last_of}
use Rattle.chorus_world.specs.Seats as seats
use Rattle.chorus_world.specs.Order.{IsCausal}
use Rattle.chorus_world.specs.Steps.{is_legal}
use Rattle.chorus_world.specs.Runs.{is_held_by, is_held_at_by}
use Rattle.chorus_world.specs.Answer.{make_for, group_for, join_for, leave_for, take_first, take_from, delete_from, hops, move_from, where_held, next_post, call_for, retry_as, retry_for, cancel_for, reply_for, answer_at, answer_for}
use Rattle.chorus_world.proofs.Ports.MadePorts.{IsWellMade, MadeWell, made-well}
use Rattle.chorus_world.specs.Commands.{act_answers, answers}
use Rattle.chorus_world.proofs.Seats.CallBounds.{outstanding-posted}
use Rattle.chorus_world.proofs.Seats.OnlyAnswer.{Fitting}
use Rattle.chorus_world.proofs.Seats.SomeAnswer.{some-answer}
use Rattle.chorus_world.proofs.Sorted.Holders.{run_is_legal}
use Rattle.chorus_ports.specs.declared.taking.Taken.TheVariants as takes
use Rattle.chorus_ports.specs.Table.{find}
use Rattle.chorus_ports.specs.Taking.{first_at, taken}
use Rattle.chorus_calls.specs.Callers.{Seated}
use Rattle.law_machine.specs.PlaceState.{Turn, next_entry}
use Rattle.law_machine.specs.Own.{take_act, held_by, move_act, delete_act, next_message, call_act, retry_act, cancel_act, reply_act, own}
use Rattle.law_network.specs.Network.{NetState, place, turn_for}
use Rattle.law_network.specs.Records.{message, record_for, record_held, record_here, record_at, as_called, outstanding_as}
use Rattle.law_network.specs.Stands.{Stands, IsCaller, actor_of}
use Rattle.law_machine.specs.declared.outgoing.Outgoing.{Outgoing}
use Rattle.law_network.specs.Packets.{put_all}
use Rattle.law_network.proofs.Standing.Given.{IsGiven}
use Rattle.law_network.proofs.Standing.Grows.{message-id}
use Rattle.law_network.proofs.Standing.Saying.{legal-now}
use Rattle.law_network.proofs.Standing.Turning.{number-is, layout-is}

-- Ports that are held here.

swapped : (u v : Ui) → same_ui u v ≡ same_ui v u
swapped u v =
    elim (same_ui_tells u v) [
      | inl same ↦ (same.0 ∙ sym (ap (same_ui v) same.1 ∙ same_ui-self v))
      | inr differ ↦ (differ.0 ∙ sym (apart differ.1 (same_ui v u) refl))
    ]
  where
    apart : u ≢ v → (b : Bool) → same_ui v u ≡ b → same_ui v u ≡ false
    apart n true e = absurd (n (sym (from_same_ui v u e)))
    apart n false e = e

both-hold : (b c : Bool) → b && c ≡ cond c b false
both-hold true true = refl
both-hold true false = refl
both-hold false true = refl
both-hold false false = refl

module _ (past : List Entry) (q a : Ui) (p : ℕ) (act : Option PortRecord → Act) (held : PortState → Act) (none : act None ≡ acts.NotHere q) where
  abbrev Agrees : PortState → Type 0
  Agrees f = (b : Ui) → act (Some (record_for past (on q past) q b f)) ≡ held f

  abbrev chosen : Option PortState → Act
  chosen None = acts.NotHere q
  chosen (Some f) = held f

  -- the record that the actor holds here, where there is one
  at-spot : (f : PortState) → Agrees f → (spot : Spot) → act (held_by a (record_held past (on q past) q p f spot)) ≡ where_held q (is_held_by a spot && (last_of 0 f.path == p)) (held f)
  at-spot f agrees (spots.Held b) = by (last_of 0 f.path == p)
    where
      with : (c : Bool) → act (cond c (Some (record_for past (on q past) q b f)) None) ≡ where_held q (c && true) (held f)
      with true = agrees b
      with false = none

      by : (c : Bool) → act (held_by a (cond c (Some (record_for past (on q past) q b f)) None)) ≡ where_held q (same_ui a b && c) (held f)
      by true = with (same_ui b a) ∙ ap (λ c. where_held q (c && true) (held f)) (swapped b a)
      by false = none ∙ ap (λ c. where_held q c (held f)) (sym (both-hold (same_ui a b) false))
  at-spot f agrees (spots.Moving b) = none
  at-spot f agrees spots.Ended = none

  pub where-held : ((f : PortState) → fate (on q past) ≡ Some f → Agrees f) → act (held_by a (record_at past q p)) ≡ where_held q (is_held_at_by p a (fate (on q past))) (chosen (fate (on q past)))
  where-held agrees = by (fate (on q past)) refl
    where
      by : (o : Option PortState) → fate (on q past) ≡ o → act (held_by a (record_here past (on q past) q p o)) ≡ where_held q (is_held_at_by p a o) (chosen o)
      by None e = none
      by (Some f) e = at-spot f (agrees f e) f.spot

-- a port gives out the first message that it accepted and did not give out yet
first-is : (past : List Entry) (q : Ui) (n k : ℕ) (xs : List MsgId) → take_act q (first_at n (map (message past) (drop k xs))) ≡ take_first q n (slice_get xs k)
first-is past q n zero [] = refl
first-is past q n (suc k) [] = refl
first-is past q n zero (x ∷ xs) = ap (acts.Take q n) (message-id past x)
first-is past q n (suc k) (x ∷ xs) = first-is past q n k xs

-- what an actor takes is what it takes of a record that it holds
abbrev taken_of : Ui → Option PortRecord → Act
taken_of q None = acts.NotHere q
taken_of q (Some r) = take_act q (first_at r.first r.pending)

taken-held : (q a : Ui) (o : Option PortRecord) → take_act q (taken a o) ≡ taken_of q (held_by a o)
taken-held q a None = refl
taken-held q a (Some r) = by (same_ui r.actor a)
  where
    by : (b : Bool) → take_act q (cond b (first_at r.first r.pending) takes.NotHere) ≡ taken_of q (cond b (Some r) None)
    by true = refl
    by false = refl

ids-back : (past : List Entry) (xs : List MsgId) → map (λ (m : Message). m.id) (map (message past) xs) ≡ xs
ids-back past [] = refl
ids-back past (x ∷ xs) = λ i. message-id past x i ∷ ids-back past xs i

-- The own act of a turn whose place and caller are as the past says.
module _ (l : Layout) (past : List Entry) (k : ℕ) (t : Turn) (shape : IsLayout l) (legal : is_legal l past ≡ true) (causal : IsCausal past) (is : IsCaller l past (by k past) k t.caller)
    (lay : t.place.layout ≡ l) (journal : t.place.journal ≡ at t.place.number past) (ports : (q : Ui) → find q t.place.ports ≡ record_at past q t.place.number) where
  -- Commands of the caller alone.

  post-is : (tag : Tag) (body : List ℕ) (d : Dest) → acts.Post (next_message tag body t.caller) d ≡ next_post k (by k past) tag body d
  post-is tag body d = λ i. acts.Post (record { id = record { seat = is.seat i; number = is.posts i + 1; copy = 0 }; tag = tag; body = body }) d

  call-is : (q back : Ui) (body : List ℕ) → call_act q back body t.caller t.caller.client.outstanding ≡ call_for k (by k past) q back body (seats.call (by k past))
  call-is q back body = ap (call_act q back body t.caller) is.call ∙ go (seats.call (by k past)) refl
    where
      go : (o : Option ℕ) → seats.call (by k past) ≡ o → call_act q back body t.caller (outstanding_as (by k past) o) ≡ call_for k (by k past) q back body o
      go None h = ap (λ g. acts.Post (next_message (tags.Request (g + 1) back) body t.caller) (dests.Port q)) is.given ∙ post-is (tags.Request (seats.requests (by k past) + 1) back) body (dests.Port q)
      go (Some m) h = (let was = outstanding-posted l past k m legal h in ap (λ o. call_act q back body t.caller (as_called m o)) was.1)

  retry-is : retry_act t.caller t.caller.client.outstanding ≡ retry_for k (by k past) (seats.call (by k past))
  retry-is = ap (retry_act t.caller) is.call ∙ go (seats.call (by k past)) refl
    where
      go : (o : Option ℕ) → seats.call (by k past) ≡ o → retry_act t.caller (outstanding_as (by k past) o) ≡ retry_for k (by k past) o
      go None h = refl
      go (Some m) h =
          let was = outstanding-posted l past k m legal h in
          let c : seats.Call = was.0 in
          ap (λ o. retry_act t.caller (as_called m o)) was.1 ∙ post-is (tags.Request m c.back) c.body (dests.Port c.port) ∙ ap (retry_as k (by k past) m) (sym was.1)

  cancel-is : cancel_act t.caller.client.outstanding ≡ cancel_for (seats.call (by k past))
  cancel-is = ap cancel_act is.call ∙ go (seats.call (by k past)) refl
    where
      go : (o : Option ℕ) → seats.call (by k past) ≡ o → cancel_act (outstanding_as (by k past) o) ≡ cancel_for o
      go None h = refl
      go (Some m) h = (let was = outstanding-posted l past k m legal h in ap (λ o. cancel_act (as_called m o)) was.1)

  reply-is : (body : List ℕ) → reply_act body t.caller t.caller.hand ≡ reply_for k (by k past) body (seats.hand past (by k past))
  reply-is body = ap (reply_act body t.caller) is.hand ∙ go (seats.hand past (by k past))
    where
      go : (o : Option Hand) → reply_act body t.caller o ≡ reply_for k (by k past) body o
      go None = refl
      go (Some h) = post-is (tags.Reply h.client h.number) body (dests.Port h.back)

  -- Commands at a port.

  abbrev p : ℕ
  p = t.place.number

  abbrev here : Ui → Act → Act
  here q a = where_held q (is_held_at_by t.place.number t.caller.actor (fate (on q past))) a

  take-is : (q : Ui) → take_act q (taken t.caller.actor (find q t.place.ports)) ≡ here q (take_from q (fate (on q past)))
  take-is q =
      ap (λ o. take_act q (taken t.caller.actor o)) (ports q) ∙ taken-held q t.caller.actor (record_at past q p)
      ∙ where-held past q t.caller.actor p (taken_of q) (λ f. take_first q f.taken (slice_get f.accepted f.taken)) refl (λ f h b. first-is past q f.taken f.taken f.accepted)
      ∙ ap (here q) (go (fate (on q past)))
    where
      go : (o : Option PortState) → chosen past q t.caller.actor p (taken_of q) (λ (f : PortState). take_first q f.taken (slice_get f.accepted f.taken)) refl o ≡ take_from q o
      go None = refl
      go (Some f) = refl

  delete-is : (q : Ui) → delete_act q (held_by t.caller.actor (find q t.place.ports)) ≡ here q (delete_from q (fate (on q past)))
  delete-is q =
      ap (λ o. delete_act q (held_by t.caller.actor o)) (ports q)
      ∙ where-held past q t.caller.actor p (delete_act q) (λ f. acts.Delete q (drop f.taken f.accepted)) refl (λ f h b. ap (acts.Delete q) (ids-back past (drop f.taken f.accepted)))
      ∙ ap (here q) (go (fate (on q past)))
    where
      go : (o : Option PortState) → chosen past q t.caller.actor p (delete_act q) (λ (f : PortState). acts.Delete q (drop f.taken f.accepted)) refl o ≡ delete_from q o
      go None = refl
      go (Some f) = refl

  -- a port that is made has a place, so its next hop has the number of its places
  next-hop : (q : Ui) (f : PortState) → fate (on q past) ≡ Some f → length f.path - 1 + 1 ≡ length f.path
  next-hop q f h = (let some = (well f h).some in omega (arith, some))
    where
      well : (f : PortState) → fate (on q past) ≡ Some f → IsWellMade l q f (on q past)
      well f h = subst (λ o. MadeWell l q o (on q past)) h (made-well l past q shape legal causal)

  move-is : (q actor : Ui) → move_act q actor t.place (held_by t.caller.actor (find q t.place.ports)) ≡ here q (move_from l p q actor (hops (fate (on q past))))
  move-is q actor =
      ap (λ o. move_act q actor t.place (held_by t.caller.actor o)) (ports q)
      ∙ where-held past q t.caller.actor p (move_act q actor t.place) (λ f. move_from l p q actor (length f.path)) refl
      (λ f h b. (λ i. move_from (lay i) p q actor (next-hop q f h i)))
      ∙ go (fate (on q past))
    where
      go : (o : Option PortState) → where_held q (is_held_at_by p t.caller.actor o) (chosen past q t.caller.actor p (move_act q actor t.place) (λ (f : PortState). move_from l p q actor (length f.path)) refl o)
          ≡ where_held q (is_held_at_by p t.caller.actor o) (move_from l p q actor (hops o))
      go None = refl
      go (Some f) = refl

  pub own-at : (c : Command) → own c t ≡ answer_at l past t.place.number k t.caller.actor c
  own-at (Command.Make actor capacity) = λ i. make_for (lay i) t.place.number (journal i) actor capacity
  own-at (Command.Send d body) = post-is tags.Plain body d
  own-at (Command.Call q back body) = call-is q back body
  own-at Command.Retry = retry-is
  own-at Command.Cancel = cancel-is
  own-at (Command.Reply body) = reply-is body
  own-at (Command.Take q) = take-is q
  own-at (Command.Move q actor) = move-is q actor
  own-at (Command.GroupMake site) = λ i. group_for (lay i) (journal i) site
  own-at (Command.Join g q) = λ i. join_for (journal i) g q
  own-at (Command.Leave g q) = λ i. leave_for (journal i) g q
  own-at (Command.Delete q) = delete-is q

  -- so at the command's place it may come next, and answers
  pub own-fits : (c : Command) → t.place.number ≡ place_for l t.caller.actor c → meets_conditions c ≡ true → Fitting l past t.place.number k t.caller.actor c (own c t)
  own-fits c place m =
      subst (Fitting l past t.place.number k t.caller.actor c) (sym (own-at c))
      (subst (λ p. Fitting l past p k t.caller.actor c (answer_at l past p k t.caller.actor c)) (sym place) (some-answer l past k t.caller.actor shape legal is.actor is.stays c m))

-- Where the network stands for the past.
module _ (n : NetState) (past : List Entry) (k : ℕ) (caller : Seated) (shape : IsLayout n.layout) (w : Stands n past) (e : slice_get n.callers k ≡ Some caller) (c : Command) where
  is : IsCaller n.layout past (by k past) k caller
  is = w.callers k caller e

  legal : is_legal n.layout past ≡ true
  legal = run_is_legal n.layout (actor_of n) past w.run

  number : (turn_for c caller n).place.number ≡ place_for n.layout caller.actor c
  number = number-is n.layout (place_for n.layout caller.actor c) n.places

  journal : (turn_for c caller n).place.journal ≡ at (turn_for c caller n).place.number past
  journal = w.journal (place_for n.layout caller.actor c) ∙ ap (λ (i : ℕ). at i past) (sym number)

  ports : (q : Ui) → find q (turn_for c caller n).place.ports ≡ record_at past q (turn_for c caller n).place.number
  ports q = w.ports (place_for n.layout caller.actor c) q ∙ ap (record_at past q) (sym number)

  pub own-is : own c (turn_for c caller n) ≡ answer_for n.layout past k caller.actor c
  own-is =
      own-at n.layout past k (turn_for c caller n) shape legal w.causal is (layout-is n (place_for n.layout caller.actor c) w.places) journal ports c
      ∙ ap (λ p. answer_at n.layout past p k caller.actor c) number

  pub own-answers : meets_conditions c ≡ true → answers n.layout past caller.actor c (next_entry (own c (turn_for c caller n)) (turn_for c caller n)) ≡ true
  own-answers m =
      let t = turn_for c caller n in
      let p = place_for n.layout caller.actor c in
      let fit = own-fits n.layout past k t shape legal w.causal is (layout-is n p w.places) journal ports c number m in
      and_from (t.place.number == p) (act_answers past t.place.number caller.seat caller.actor c (own c t)) (eq-eqb t.place.number p number)
      (ap (λ j. act_answers past t.place.number j caller.actor c (own c t)) is.seat ∙ fit.answers)

-- Where the command is given.
pub given-fits : (n : NetState) (us : List Outgoing) (past : List Entry) (t : Turn) (c : Command) → IsGiven n us past t c → Fitting t.place.layout past t.place.number t.caller.seat t.caller.actor c (own c t)
given-fits n us past t c i =
    let w = i.stood in
    own-fits t.place.layout past t.caller.seat t w.shape (legal-now n (put_all t.puts us) past t w) w.causal w.caller refl w.here.journal w.here.ports c i.place i.conditions
