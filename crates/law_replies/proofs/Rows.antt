-- Each row of the replies: a reply is given exactly where the entries of the turn tell it.
-- c is the command, t the turn as it began; es are the entries of the turn, in any order, and q is a port.
use Rattle.std.proofs.Common.{ℕ, ◌≡◌, ◌↔◌, true, false, List, [], ◌∷◌, ◌++◌, Option, Some, None, refl, sym, ◌∙◌, ap, subst, inl, inr}
use Rattle.std.proofs.lemmas.Bool.{false≢true}
use Rattle.std.proofs.lemmas.List.{append_cancel_right}
use Rattle.chorus_ui.specs.declared.ui.Ui.{Ui}
use Rattle.chorus_entry.specs.declared.entry.Entry.{Entry}
use Rattle.chorus_entry.specs.declared.id.MsgId.{MsgId}
use Rattle.chorus_entry.specs.declared.dest.Dest.{Dest}
use Rattle.chorus_entry.specs.declared.message.Message.{Message}
use Rattle.chorus_entry.specs.declared.command.Command.{Command}
use Rattle.chorus_entry.specs.declared.act.Act.{Act}
use Rattle.chorus_entry.specs.declared.act.Act.TheVariants as acts
use Rattle.chorus_entry.specs.Act.{is_command_entry, message_of, answer_of}
use Rattle.chorus_ports.specs.Table.{find, replace}
use Rattle.chorus_ports.specs.Taking.{after_take}
use Rattle.chorus_calls.specs.declared.client.Settle.{Settle}
use Rattle.chorus_calls.specs.declared.client.Settle.TheVariants as settles
use Rattle.place_unsettled.specs.declared.wait.Key.{Key}
use Rattle.law_machine.specs.declared.reply.Reply.{Reply}
use Rattle.law_machine.specs.PlaceState.{Turn, next_entry}
use Rattle.law_machine.specs.Own.{own}
use Rattle.law_machine.specs.Doing.{first_message, takes, does, posts}
use Rattle.law_machine.specs.PlaceMachine.{act}
use Rattle.law_machine.specs.Replies.{settling, taken_reply, posted_reply, reply_to, reply}
use Rattle.law_machine.proofs.Machine.Ready.{ReadyAt}
use Rattle.law_network.proofs.Events.Said.{act-goes, own-is}
use Rattle.law_replies.specs.Replies.{Says, IsPost, IsUnanswered, IsSettledAs, Tells}
use Rattle.law_replies.specs.Taking.{settled_acts, acts_of}
use Rattle.law_replies.proofs.Saying.{says-now, says-front, says-behind, says-either, says-only, says-nothing, all-says}
use Rattle.law_replies.proofs.Posting.{IsStep, IsOther, answered, Goes, Becomes, Posted, posts-become}
use Rattle.law_replies.proofs.Taking.{Ended, number_in, take-ends, told, settled-only}

-- the port q gives out this first message, and of its id no other one
pub record GivesFirst (gives : Ui → Message → Type 0) (q : Ui) (x : MsgId) (first : Option Message) : Type 0 where
  pub message : Message
  pub is : first ≡ Some message
  pub id : message.id ≡ x
  pub given : gives q message
  pub only : (m : Message) → gives q m → m.id ≡ x → m ≡ message

-- what a turn with a command needs: a ready place, a post that is no copy, and a take of what is given
pub record IsAnswering (gives : Ui → Message → Type 0) (c : Command) (t : Turn) : Type 0 where
  pub ready : (k : Key) → ReadyAt k t
  pub copy : (m : Message) (d : Dest) → own c t ≡ acts.Post m d → m.id.copy ≡ 0
  pub takes : (q : Ui) (position : ℕ) (x : MsgId) → own c t ≡ acts.Take q position x → GivesFirst gives q x (first_message (find q t.place.ports))

step-about : (x : MsgId) (b : Act) → IsStep x b → message_of b ≡ Some x
step-about x (acts.Accept y q n) s = ap (λ z. Some z) s
step-about x (acts.Full y q n) s = ap (λ z. Some z) s
step-about x (acts.Early y q hop) s = ap (λ z. Some z) s
step-about x (acts.NoPort y q) s = ap (λ z. Some z) s
step-about x (acts.Already y q) s = ap (λ z. Some z) s
step-about x (acts.ClientsFull y q) s = ap (λ z. Some z) s
step-about x (acts.Gone y q) s = ap (λ z. Some z) s
step-about x (acts.Try y q to hop) s = ap (λ z. Some z) s
step-about x (acts.Choose y g qs) s = ap (λ z. Some z) s
step-about x (acts.NoMember y g) s = ap (λ z. Some z) s
step-about x _ s = absurd s

-- a step that gives no answer is a try
step-open : (x : MsgId) (b : Act) → IsStep x b → answer_of b ≡ None → answered x b ≡ Reply.Posted x
step-open x (acts.Accept y q n) s e = absurd (cc)
step-open x (acts.Full y q n) s e = absurd (cc)
step-open x (acts.Early y q hop) s e = absurd (cc)
step-open x (acts.NoPort y q) s e = absurd (cc)
step-open x (acts.Already y q) s e = absurd (cc)
step-open x (acts.ClientsFull y q) s e = absurd (cc)
step-open x (acts.Gone y q) s e = absurd (cc)
step-open x (acts.Try y q to hop) s e = refl
step-open x (acts.Choose y g qs) s e = absurd (cc)
step-open x (acts.NoMember y g) s e = absurd (cc)
step-open x _ s e = absurd s

step-tells : (gives : Ui → Message → Type 0) (es : List Entry) (x : MsgId) (b : Act) → IsStep x b → Says es b → IsPost x es → (answer_of b ≡ None → IsUnanswered x es) → Tells gives es (answered x b)
step-tells gives es x (acts.Accept y q n) s said p o = (p, (q, subst (λ z. Says es (acts.Accept z q n)) s said))
step-tells gives es x (acts.Full y q n) s said p o = (p, (q, subst (λ z. Says es (acts.Full z q n)) s said))
step-tells gives es x (acts.Early y q hop) s said p o = (p, (q, subst (λ z. Says es (acts.Early z q hop)) s said))
step-tells gives es x (acts.NoPort y q) s said p o = (p, (q, subst (λ z. Says es (acts.NoPort z q)) s said))
step-tells gives es x (acts.Already y q) s said p o = (p, (q, subst (λ z. Says es (acts.Already z q)) s said))
step-tells gives es x (acts.ClientsFull y q) s said p o = (p, (q, subst (λ z. Says es (acts.ClientsFull z q)) s said))
step-tells gives es x (acts.Gone y q) s said p o = (p, (q, subst (λ z. Says es (acts.Gone z q)) s said))
step-tells gives es x (acts.Try y q to hop) s said p o = (p, o refl)
step-tells gives es x (acts.Choose y g qs) s said p o = (p, (g, (qs, (subst (λ z. Says es (acts.Choose z g qs)) s said, refl))))
step-tells gives es x (acts.NoMember y g) s said p o = (p, (g, subst (λ z. Says es (acts.NoMember z g)) s said))
step-tells gives es x _ s said p o = absurd s

-- the entries of the turn, the newest first
abbrev pub entries : Command → Turn → List Entry
entries c t = (act-goes c t).newer ++ next_entry (own c t) t ∷ []

-- A take: what follows on it, and its reply.
module _ (gives : Ui → Message → Type 0) (c : Command) (t : Turn) (q : Ui) (position : ℕ) (x : MsgId) (e : own c t ≡ acts.Take q position x) (f : GivesFirst gives q x (first_message (find q t.place.ports))) where
  pub take-becomes : acts_of (act-goes c t).newer ≡ settled_acts f.message.tag (settling f.message.tag t.caller)
  take-becomes =
      let tag = f.message.tag in
      let g = act-goes c t in
      let take = next_entry (acts.Take q position x) t in
      let same : act c t ≡ takes q position x (Some f.message) t = ap (λ z. does z t) e ∙ ap (λ o. takes q position x o t) f.is in
      let p : Ended (acts.Take q position x) tag t (act c t) =
      subst (Ended (acts.Take q position x) tag t) (sym same) (take-ends q position x f.message.id tag (replace q (after_take t.caller.actor) t.place.ports) t) in
      let lists : p.0 ++ take ∷ t.place.journal ≡ g.newer ++ take ∷ t.place.journal = sym p.1.0 ∙ (g.journal ∙ ap (λ z. g.newer ++ next_entry z t ∷ t.place.journal) e) in
      let rest : p.0 ≡ g.newer = append_cancel_right p.0 g.newer (take ∷ t.place.journal) lists in
      ap acts_of (sym rest) ∙ p.1.1

  pub take-reply : reply c t ≡ Reply.Taken position f.message (settling f.message.tag t.caller)
  take-reply = ap (λ z. reply_to z t (act c t)) e ∙ ap (λ o. taken_reply position o t.caller) f.is

module _ (gives : Ui → Message → Type 0) (c : Command) (t : Turn) (h : IsAnswering gives c t) (es : List Entry) (to : (a : Act) → Says es a → Says (entries c t) a) (back : (a : Act) → Says (entries c t) a → Says es a) where
  abbrev a : Act
  a = own c t

  abbrev u : Turn
  u = act c t

  abbrev behind : List Entry
  behind = (act-goes c t).newer

  abbrev first : Entry
  first = next_entry (own c t) t

  own-said : Says es (own c t)
  own-said = back (own c t) (says-behind behind (first ∷ []) (own c t) (says-now first [] (own c t) refl))

  -- an act that answers a command is the own act; any other one stands behind it
  own-only : (b : Act) → is_command_entry b ≡ true → Says es b → own c t ≡ b
  own-only b is said =
      elim (says-either behind (first ∷ []) b (to b said)) [
        | inl later ↦ absurd (false≢true (sym (all-says (λ z. is_command_entry z ≡ false) behind b (act-goes c t).follow later) ∙ is))
        | inr now ↦ says-only first b now
      ]

  said-behind : (b : Act) → is_command_entry b ≡ false → Says es b → Says behind b
  said-behind b n said =
      elim (says-either behind (first ∷ []) b (to b said)) [
        | inl later ↦ later
        | inr now ↦ absurd (false≢true (sym n ∙ (ap is_command_entry (sym (says-only first b now)) ∙ own-is c t)))
      ]

  -- Posting.

  post-becomes : (m : Message) (d : Dest) → own c t ≡ acts.Post m d → Becomes m.id behind (reply c t)
  post-becomes m d e =
      let same : act c t ≡ posts m d t = ap (λ z. does z t) e in
      let is : reply c t ≡ posted_reply m.id d t u = ap (λ z. reply_to z t u) e in
      let p : Posted m d t u (posted_reply m.id d t u) =
      subst (λ z. Posted m d t z (posted_reply m.id d t z)) (sym same) (posts-become m d t h.ready (h.copy m d e)) in
      let lists : p.0 ++ next_entry (acts.Post m d) t ∷ t.place.journal ≡ behind ++ next_entry (acts.Post m d) t ∷ t.place.journal =
      sym p.1.0 ∙ ((act-goes c t).journal ∙ ap (λ z. behind ++ next_entry z t ∷ t.place.journal) e) in
      let rest : p.0 ≡ behind = append_cancel_right p.0 behind (next_entry (acts.Post m d) t ∷ t.place.journal) lists in
      subst (λ zs. Becomes m.id zs (reply c t)) rest (subst (Becomes m.id p.0) (sym is) p.1.1)

  unanswered-nothing : (m : Message) (d : Dest) → own c t ≡ acts.Post m d → behind ≡ [] → IsUnanswered m.id es
  unanswered-nothing m d e none b said about =
      elim (says-either behind (first ∷ []) b (to b said)) [
        | inl later ↦ absurd (says-nothing b (subst (λ zs. Says zs b) none later))
        | inr now ↦ ap answer_of (sym (says-only first b now) ∙ e)
      ]

  unanswered-step : (m : Message) (d : Dest) (g : Goes m.id behind (reply c t)) → own c t ≡ acts.Post m d → answer_of g.entry.act ≡ None → IsUnanswered m.id es
  unanswered-step m d g e none b said about =
      elim (says-either behind (first ∷ []) b (to b said)) [
        | inl later ↦ elim (says-either g.newer (g.entry ∷ []) b (subst (λ zs. Says zs b) g.is later)) [
          | inl other ↦ absurd (all-says (IsOther m.id) g.newer b g.others other about)
          | inr it ↦ ap answer_of (sym (says-only g.entry b it)) ∙ none
        ]
        | inr now ↦ ap answer_of (sym (says-only first b now) ∙ e)
      ]

  post-tells : (m : Message) (d : Dest) → own c t ≡ acts.Post m d → Tells gives es (reply c t)
  post-tells m d e =
      let post : IsPost m.id es = record { message = m; dest = d; says = subst (Says es) e own-said; id = refl } in
      elim (post-becomes m d e) [
        | inl nothing ↦ subst (Tells gives es) (sym nothing.1) (post, unanswered-nothing m d e nothing.0)
        | inr goes ↦ (
            let said : Says behind goes.entry.act = subst (λ zs. Says zs goes.entry.act) (sym goes.is) (says-behind goes.newer (goes.entry ∷ []) goes.entry.act (says-now goes.entry [] goes.entry.act refl)) in
            subst (Tells gives es) (sym goes.reply)
            (step-tells gives es m.id goes.entry.act goes.step (back goes.entry.act (says-front behind (first ∷ []) goes.entry.act said)) post (unanswered-step m d goes e)))
      ]

  -- the post of the turn
  posted-as : (x : MsgId) (p : IsPost x es) → own c t ≡ acts.Post p.message p.dest
  posted-as x p = own-only (acts.Post p.message p.dest) refl p.says

  from-post : (x : MsgId) (b : Act) → IsPost x es → Says es b → is_command_entry b ≡ false → message_of b ≡ Some x → reply c t ≡ answered x b
  from-post x b p said n about =
      let later = said-behind b n said in
      elim (post-becomes p.message p.dest (posted-as x p)) [
        | inl nothing ↦ absurd (says-nothing b (subst (λ zs. Says zs b) nothing.0 later))
        | inr goes ↦ elim (says-either goes.newer (goes.entry ∷ []) b (subst (λ zs. Says zs b) goes.is later)) [
          | inl other ↦ absurd (all-says (IsOther p.message.id) goes.newer b goes.others other (about ∙ ap (λ z. Some z) (sym p.id)))
          | inr it ↦ goes.reply ∙ (ap (answered p.message.id) (says-only goes.entry b it) ∙ ap (λ z. answered z b) p.id)
        ]
      ]

  from-open : (x : MsgId) → IsPost x es → IsUnanswered x es → reply c t ≡ Reply.Posted x
  from-open x p unanswered =
      elim (post-becomes p.message p.dest (posted-as x p)) [
        | inl nothing ↦ nothing.1 ∙ ap Reply.Posted p.id
        | inr goes ↦ (
            let b = goes.entry.act in
            let said : Says behind b = subst (λ zs. Says zs b) (sym goes.is) (says-behind goes.newer (goes.entry ∷ []) b (says-now goes.entry [] b refl)) in
            let none = unanswered b (back b (says-front behind (first ∷ []) b said)) (step-about p.message.id b goes.step ∙ ap (λ z. Some z) p.id) in
            goes.reply ∙ (step-open p.message.id b goes.step none ∙ ap Reply.Posted p.id))
      ]

  -- Receiving.

  no-end : (q : Ui) (position : ℕ) (x : MsgId) → own c t ≡ acts.Take q position x → number_in (own c t) ≡ None
  no-end q position x e = ap number_in e

  settled-same : (settled : Option Settle) (ts fs : List Entry) → ((b : Act) → Says ts b → Says fs b) → ((b : Act) → Says fs b → Says ts b) → IsSettledAs settled ts → IsSettledAs settled fs
  settled-same None ts fs there here k = λ n. (λ s. (k n).0 (here (acts.Done n) s), λ s. (k n).1 (here (acts.Late n) s))
  settled-same (Some settles.Done) ts fs there here k = (k.0, there (acts.Done k.0) k.1)
  settled-same (Some settles.Late) ts fs there here k = (k.0, there (acts.Late k.0) k.1)

  take-tells : (q : Ui) (position : ℕ) (x : MsgId) → own c t ≡ acts.Take q position x → Tells gives es (reply c t)
  take-tells q position x e =
      let f = h.takes q position x e in
      let tag = f.message.tag in
      let settled = settling tag t.caller in
      let take : Says es (acts.Take q position f.message.id) = subst (λ z. Says es (acts.Take q position z)) (sym f.id) (subst (Says es) e own-said) in
      let is : IsSettledAs settled (entries c t) = (told tag t.caller behind first (no-end q position x e) (take-becomes gives c t q position x e f)).0 in
      subst (Tells gives es) (sym (take-reply gives c t q position x e f)) ((q, (take, f.given)), settled-same settled (entries c t) es back to is)

  from-take : (q : Ui) (position : ℕ) (m : Message) (settled : Option Settle) → Says es (acts.Take q position m.id) → gives q m → IsSettledAs settled es → reply c t ≡ Reply.Taken position m settled
  from-take q position m settled said given is =
      let e = own-only (acts.Take q position m.id) refl said in
      let f = h.takes q position m.id e in
      let same : m ≡ f.message = f.only m given refl in
      let ended : settling f.message.tag t.caller ≡ settled =
      settled-only f.message.tag t.caller behind first (no-end q position m.id e) (take-becomes gives c t q position m.id e f) settled (settled-same settled es (entries c t) to back is) in
      take-reply gives c t q position m.id e f ∙ (λ i. Reply.Taken position (sym same i) (ended i))

  -- All rows.

  tells-own : (b : Act) → own c t ≡ b → Tells gives es (reply_to b t u)
  tells-own (acts.Make q actor capacity) e = inl (actor, (capacity, subst (Says es) e own-said))
  tells-own (acts.MakeFull actor) e = (actor, subst (Says es) e own-said)
  tells-own (acts.NoActor actor) e = (actor, subst (Says es) e own-said)
  tells-own (acts.NoSite site) e = (site, subst (Says es) e own-said)
  tells-own (acts.GroupsFull site) e = (site, subst (Says es) e own-said)
  tells-own (acts.GroupMake g) e = inr (subst (Says es) e own-said)
  tells-own (acts.Post m d) e = subst (Tells gives es) (ap (λ z. reply_to z t u) e) (post-tells m d e)
  tells-own (acts.Take q position x) e = subst (Tells gives es) (ap (λ z. reply_to z t u) e) (take-tells q position x e)
  tells-own (acts.Empty q) e = (q, subst (Says es) e own-said)
  tells-own (acts.NotHere q) e = (q, subst (Says es) e own-said)
  tells-own (acts.Rehome q actor) e = (q, (actor, subst (Says es) e own-said))
  tells-own (acts.Depart q place actor hop) e = (q, (place, (actor, subst (Says es) e own-said)))
  tells-own (acts.Delete q xs) e = (q, (xs, (subst (Says es) e own-said, refl)))
  tells-own (acts.Join g q) e = (g, (q, subst (Says es) e own-said))
  tells-own (acts.Leave g q) e = (g, (q, subst (Says es) e own-said))
  tells-own (acts.NoGroup g) e = (g, subst (Says es) e own-said)
  tells-own (acts.There g q) e = (g, (q, subst (Says es) e own-said))
  tells-own (acts.NotThere g q) e = (g, (q, subst (Says es) e own-said))
  tells-own (acts.MembersFull g) e = (g, subst (Says es) e own-said)
  tells-own (acts.Outstanding n) e = subst (Says es) e own-said
  tells-own acts.NoCall e = subst (Says es) e own-said
  tells-own acts.NoRequest e = subst (Says es) e own-said
  tells-own (acts.Cancel n) e = subst (Says es) e own-said
  tells-own _ e = absurd (false≢true (ap is_command_entry (sym e) ∙ own-is c t))

  by-own : (b : Act) → is_command_entry b ≡ true → Says es b → reply c t ≡ reply_to b t u
  by-own b is said = ap (λ z. reply_to z t u) (own-only b is said)

  told-so : (r : Reply) → Tells gives es r → reply c t ≡ r
  told-so (Reply.Made name) (inl k) = by-own (acts.Make name k.0 k.1.0) refl k.1.1
  told-so (Reply.Made name) (inr k) = by-own (acts.GroupMake name) refl k
  told-so Reply.MakeFull k = by-own (acts.MakeFull k.0) refl k.1
  told-so Reply.NoActor k = by-own (acts.NoActor k.0) refl k.1
  told-so Reply.NoSite k = by-own (acts.NoSite k.0) refl k.1
  told-so Reply.GroupsFull k = by-own (acts.GroupsFull k.0) refl k.1
  told-so (Reply.Accepted x n) k = from-post x (acts.Accept x k.1.0 n) k.0 k.1.1 refl refl
  told-so (Reply.Full x n) k = from-post x (acts.Full x k.1.0 n) k.0 k.1.1 refl refl
  told-so (Reply.Early x hop) k = from-post x (acts.Early x k.1.0 hop) k.0 k.1.1 refl refl
  told-so (Reply.NoPort x) k = from-post x (acts.NoPort x k.1.0) k.0 k.1.1 refl refl
  told-so (Reply.Already x) k = from-post x (acts.Already x k.1.0) k.0 k.1.1 refl refl
  told-so (Reply.ClientsFull x) k = from-post x (acts.ClientsFull x k.1.0) k.0 k.1.1 refl refl
  told-so (Reply.Gone x) k = from-post x (acts.Gone x k.1.0) k.0 k.1.1 refl refl
  told-so (Reply.Chosen x count) k =
      from-post x (acts.Choose x k.1.0 k.1.1.0) k.0 k.1.1.1.0 refl refl ∙ ap (λ n. Reply.Chosen x n) k.1.1.1.1
  told-so (Reply.NoMember x) k = from-post x (acts.NoMember x k.1.0) k.0 k.1.1 refl refl
  told-so (Reply.Posted x) k = from-open x k.0 k.1
  told-so (Reply.Taken position m settled) k = from-take k.0.0 position m settled k.0.1.0 k.0.1.1 k.1
  told-so Reply.Empty k = by-own (acts.Empty k.0) refl k.1
  told-so Reply.NotHere k = by-own (acts.NotHere k.0) refl k.1
  told-so Reply.Rehomed k = by-own (acts.Rehome k.0 k.1.0) refl k.1.1
  told-so (Reply.Departed hop) k = by-own (acts.Depart k.0 k.1.0 k.1.1.0 hop) refl k.1.1.1
  told-so (Reply.Deleted count) k = by-own (acts.Delete k.0 k.1.0) refl k.1.1.0 ∙ ap Reply.Deleted k.1.1.1
  told-so Reply.Joined k = by-own (acts.Join k.0 k.1.0) refl k.1.1
  told-so Reply.Left k = by-own (acts.Leave k.0 k.1.0) refl k.1.1
  told-so Reply.NoGroup k = by-own (acts.NoGroup k.0) refl k.1
  told-so Reply.There k = by-own (acts.There k.0 k.1.0) refl k.1.1
  told-so Reply.NotThere k = by-own (acts.NotThere k.0 k.1.0) refl k.1.1
  told-so Reply.MembersFull k = by-own (acts.MembersFull k.0) refl k.1
  told-so (Reply.Outstanding n) k = by-own (acts.Outstanding n) refl k
  told-so Reply.NoCall k = by-own acts.NoCall refl k
  told-so Reply.NoRequest k = by-own acts.NoRequest refl k
  told-so (Reply.Cancelled n) k = by-own (acts.Cancel n) refl k

  pub reply-tells : (r : Reply) → (reply c t ≡ r) ↔ Tells gives es r
  reply-tells r = (λ e. subst (Tells gives es) e (tells-own (own c t) refl), told-so r)
