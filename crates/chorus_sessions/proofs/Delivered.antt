-- What was delivered was posted, and it was heard that it was accepted.
-- n is a nucleus, l a layout, q a port, body the bytes that are sent, x a message's id, a and b are a pass before and after, v and u
-- are what a pass knows.
use Rattle.std.proofs.Common.{ℕ, ◌≡◌, ◌+◌, ◌==◌, ◌&&◌, nat_le, inl, inr, Bool, true, false, cond, List, [], ◌∷◌, ◌++◌, Option, Some, None, Ok, refl, sym, ◌∙◌, ap, subst}
use Rattle.std.specs.List.{All}
use Rattle.std.proofs.lemmas.Bool.{and_parts}
use Rattle.std.proofs.lemmas.List.{map-append}
use Rattle.std.proofs.lemmas.List.Elements.{All-nil, All-cons, All-append}
use Rattle.chorus_ui.specs.declared.ui.Ui.{Ui}
use Rattle.chorus_ui.specs.declared.layout.Layout.{Layout}
use Rattle.chorus_ui.specs.declared.limits.TheConstants.{ACTORS_PER_SITE_LIMIT}
use Rattle.chorus_ui.specs.Layout.{has_place, has_site}
use Rattle.chorus_entry.specs.declared.act.Act.{Act}
use Rattle.chorus_entry.specs.declared.answer.Answer.{Answer}
use Rattle.chorus_entry.specs.declared.dest.Dest.{Dest}
use Rattle.chorus_entry.specs.declared.entry.Entry.{Entry}
use Rattle.chorus_entry.specs.declared.id.MsgId.{MsgId}
use Rattle.chorus_entry.specs.declared.message.Message.{Message}
use Rattle.chorus_entry.specs.declared.tag.Tag.TheVariants.{Plain}
use Rattle.chorus_calls.specs.Callers.{Seated}
use Rattle.chorus_world.specs.SentLaws.{StandsIn}
use Rattle.chorus_world.proofs.Ports.Sites.{place-inside}
use Rattle.law_machine.specs.declared.outcome.Outcome.{Outcome}
use Rattle.law_machine.specs.declared.reply.Reply.{Reply}
use Rattle.law_machine.specs.Outcomes.{outcome}
use Rattle.law_machine.specs.Own.{next_message}
use Rattle.law_machine.specs.PlaceMachine.{begun}
use Rattle.law_machine.specs.Replies.{decided_reply}
use Rattle.law_history.specs.declared.turns.Input.{Input}
use Rattle.law_history.specs.PlaceTurns.{may_come}
use Rattle.law_history.proofs.Lists.{reverse-first}
use Rattle.law_replies.specs.Outcomes.{TellsEnd}
use Rattle.law_replies.specs.Replies.{Says}
use Rattle.law_replies.proofs.Saying.{says-behind, says-front, says-reversed}
use Rattle.law_replies.proofs.Turns.{turns-tell}
use Rattle.law_closing.specs.Places.{PlaceNote}
use Rattle.law_closing.specs.Remarks.{numbered, remarked, turns_at}
use Rattle.chorus_turn.specs.declared.knowledge.Remarked.{Remarked}
use Rattle.chorus_turn.specs.declared.knowledge.Knowledge.{Knowledge}
use Rattle.chorus_turn.specs.Journals.{entries_of}
use Rattle.chorus_turn.specs.Knowing.{seen_at}
use Rattle.chorus_turn.proofs.Fronts.{put_here}
use Rattle.chorus_nucleus.specs.declared.nucleus.Nucleus.{Nucleus}
use Rattle.chorus_nucleus.specs.declared.pass.Pass.{Pass}
use Rattle.chorus_nucleus.specs.Passes.{layout_of, known, caller_of, home_of}
use Rattle.chorus_nucleus.specs.Calls.{IsCall, IsOutcome, place_of}
use Rattle.chorus_sessions.specs.declared.hand.PortMessage.{PortMessage}
use Rattle.chorus_sessions.specs.declared.sending.Accepted.{Accepted}
use Rattle.chorus_sessions.specs.Hands.{entries_made, AreDelivered, HasHeard, IsDelivered}
use Rattle.chorus_sessions.specs.Delivering.{as_delivered, sending, DeliversAs, Posts}
use Rattle.chorus_sessions.specs.declared.session.Session.{Session}
use Rattle.chorus_sessions.specs.Sessions.{Goes, IsSession}
use Rattle.chorus_sessions.proofs.Delivering.{is-decided, waits-go}
use Rattle.chorus_sessions.proofs.Holding.{are-delivered-later, entries-append, stands-later, stands-new}
use Rattle.chorus_sessions.proofs.Steps.{goes-outcome, goes-then, session-with}
use Rattle.chorus_sessions.proofs.Told.{answer-told}

-- What is heard.

entries-numbered : (k : ℕ) (r : PlaceNote) (es : List Entry) → entries_of (numbered k r es) ≡ es
entries-numbered k r [] = refl
entries-numbered k r (e ∷ es) = ap (λ zs. e ∷ zs) (entries-numbered (k + 1) r es)

-- an entry that stands in the journal which a turn found, or which it added
in-seen : (p : ℕ) (found news : List (Remarked PlaceNote)) (v u : Knowledge PlaceNote) (act : Act) → seen_at p u ≡ found ++ news → Says (entries_of found ++ entries_of news) act → Says (entries_of (seen_at p u)) act
in-seen p found news v u act is said = subst (λ zs. Says zs act) (sym (ap entries_of is ∙ map-append (λ (r : Remarked PlaceNote). r.entry) found news)) said

heard : (l : Layout) (p : ℕ) (u : Knowledge PlaceNote) (x : MsgId) (answer : Answer) (act : Act) → has_place l p ≡ true → Says (entries_of (seen_at p u)) act → TellsEnd x answer act → HasHeard l u x answer
heard l p u x answer act there said tells = record {
  place = p;
  there = there;
  entry = said.0;
  seen = said.1.0;
  tells = subst (TellsEnd x answer) (sym said.1.1) tells;
}

-- an outcome told it
module _ (n : Nucleus) (x : MsgId) (answer : Answer) (a b : Pass) (h : IsOutcome n x a b (Ok (Outcome.Answer answer))) where
  abbrev l : Layout
  l = layout_of n

  abbrev home : ℕ
  home = home_of l (caller_of a)

  there : has_place l home ≡ true
  there =
      let same = ap (λ (w : Seated). w.actor) h.caller in
      let u = (caller_of b).actor in
      let site = (and_parts (has_site l u.site) (nat_le 1 u.number) (and_parts (has_site l u.site && nat_le 1 u.number) (nat_le u.number ACTORS_PER_SITE_LIMIT) h.pass.caller.actor).0).0 in
      place-inside l (caller_of a).actor.site (caller_of a).actor h.pass.sites.shape (subst (λ (u : Ui). has_site l u.site ≡ true) same site)

  told : (b : Bool) (o : Outcome) → Outcome.Answer answer ≡ cond b o Outcome.Unknown → o ≡ Outcome.Answer answer
  told true o is = sym is
  told false o is = absurd (cc)

  pub heard-outcome : HasHeard l (known b) x answer
  heard-outcome =
      let s = h.told.0 in
      let looks = h.told.1 in
      let t = answer-told x answer s.journal (told (x.seat == (caller_of a).seat) (outcome x s.journal) h.told.2) in
      let here = subst (λ zs. Says zs t.0) (sym looks.entries) (says-reversed s.journal t.0 t.1.0) in
      let at : seen_at home (known b) ≡ looks.found ++ [] = ap (seen_at home) looks.knows ∙ put_here home (looks.found ++ []) (known a).seen in
      heard l home (known b) x answer t.0 there (in-seen home looks.found [] (known a) (known b) t.0 at (says-front (entries_of looks.found) [] t.0 here)) t.1.1

-- A post, and what its reply tells.
module _ (n : Nucleus) (q : Ui) (body : List ℕ) (a b : Pass) (r : Reply) (h : IsCall n (sending q body) a b (Ok r)) where
  abbrev message : Message
  message = next_message Plain body (begun h.turn.state (caller_of a)).caller

  pub made : (e : Entry) × StandsIn e (entries_made (known b).mine) × (e.act ≡ Act.Post message (Dest.Port q))
  made =
      let t = h.turn.turn in
      (t.entry, stands-new (place_of n (sending q body) a) 0 _ _ t.entry t.later (known a).mine (known b).mine (ap (λ (z : Knowledge PlaceNote). z.mine) t.knows), h.turn.act)

  pub replied : (o : Option Answer) × (r ≡ decided_reply message.id o)
  replied = let d = is-decided n q body (begun h.turn.state (caller_of a)) in (d.0, h.turn.answer ∙ d.1)

accepted-id : (y x : MsgId) (position : ℕ) (o : Option Answer) → Reply.Accepted x position ≡ decided_reply y o → y ≡ x
accepted-id y x position (Some (Answer.Accepted k)) e = cc
accepted-id y x position (Some (Answer.Full k)) e = absurd (cc)
accepted-id y x position (Some (Answer.Early k)) e = absurd (cc)
accepted-id y x position (Some Answer.NoPort) e = absurd (cc)
accepted-id y x position (Some Answer.Already) e = absurd (cc)
accepted-id y x position (Some Answer.ClientsFull) e = absurd (cc)
accepted-id y x position (Some Answer.Gone) e = absurd (cc)
accepted-id y x position (Some (Answer.Stale to hop)) e = absurd (cc)
accepted-id y x position (Some (Answer.Elsewhere to hop)) e = absurd (cc)
accepted-id y x position (Some Answer.NoMember) e = absurd (cc)
accepted-id y x position (Some (Answer.Chosen k)) e = absurd (cc)
accepted-id y x position None e = absurd (cc)

posted-id : (y x : MsgId) (o : Option Answer) → Reply.Posted x ≡ decided_reply y o → y ≡ x
posted-id y x (Some (Answer.Accepted k)) e = absurd (cc)
posted-id y x (Some (Answer.Full k)) e = absurd (cc)
posted-id y x (Some (Answer.Early k)) e = absurd (cc)
posted-id y x (Some Answer.NoPort) e = absurd (cc)
posted-id y x (Some Answer.Already) e = absurd (cc)
posted-id y x (Some Answer.ClientsFull) e = absurd (cc)
posted-id y x (Some Answer.Gone) e = absurd (cc)
posted-id y x (Some (Answer.Stale to hop)) e = cc
posted-id y x (Some (Answer.Elsewhere to hop)) e = cc
posted-id y x (Some Answer.NoMember) e = cc
posted-id y x (Some (Answer.Chosen k)) e = cc
posted-id y x None e = cc

module _ (n : Nucleus) (q : Ui) (body : List ℕ) (x : MsgId) (position : ℕ) where
  abbrev sent : PortMessage
  sent = as_delivered q body record { id = x; position = position }

  -- the entry that posted it
  abbrev Made : Pass → Type 0
  Made b = (e : Entry) × StandsIn e (entries_made (known b).mine) × (e.act ≡ Act.Post sent.message (Dest.Port q))

  named : (a b : Pass) (r : Reply) (h : IsCall n (sending q body) a b (Ok r)) → (message n q body a b r h).id ≡ x → Made b
  named a b r h same =
      let m = made n q body a b r h in (m.0, m.1, m.2 ∙ ap (λ i. Act.Post record { id = i; tag = Plain; body = body } (Dest.Port q)) same)

  made-later : (b c : Pass) → Goes n b c → Made b → Made c
  made-later b c g m =
      (m.0, subst (λ zs. StandsIn m.0 zs) (sym (ap entries_made g.mine ∙ entries-append (known b).mine g.more)) (stands-later m.0 (entries_made (known b).mine) (entries_made g.more) m.1), m.2)

  heard-reply : (a b : Pass) → IsCall n (sending q body) a b (Ok (Reply.Accepted x position)) → HasHeard (layout_of n) (known b) x (Answer.Accepted position)
  heard-reply a b h =
      let l = layout_of n in
      let p = place_of n (sending q body) a in
      let t = h.turn.turn in
      let s = h.turn.state in
      let es = t.entry ∷ t.later in
      let tells = (turns-tell l p (turns_at p t.found) s (caller_of a) (sending q body) es (Reply.Accepted x position) t.leads (t.journal ∙ sym (reverse-first t.entry t.later s.journal))).0 (sym h.turn.answer) in
      let port = tells.1.0 in
      let act = Act.Accept x port position in
      let there = (and_parts (has_place l p) (may_come l p (Input.Command (sending q body)) (caller_of a)) t.may).0 in
      let news : List (Remarked PlaceNote) = remarked _ es in
      let at : seen_at p (known b) ≡ t.found ++ news = ap (seen_at p) t.knows ∙ put_here p (t.found ++ news) (known a).seen in
      let said : Says (entries_of news) act = subst (λ zs. Says zs act) (sym (entries-numbered 0 _ es)) tells.1.1 in
      heard l p (known b) x (Answer.Accepted position) act there (in-seen p t.found news (known a) (known b) act at (says-behind (entries_of t.found) (entries_of news) act said)) (refl, refl)

  delivered-now : (a b : Pass) → Posts n q body x (Some (Answer.Accepted position)) a b → IsDelivered (layout_of n) (known b) (known b).mine sent
  delivered-now a b (inl call) =
      let r = replied n q body a b (Reply.Accepted x position) call in
      let m = named a b (Reply.Accepted x position) call (accepted-id _ x position r.0 r.1) in
      record { entry = m.0; stands = m.1; posts = m.2; heard = heard-reply a b call }
  delivered-now a b (inr later) =
      let call = later.call in
      let r = replied n q body a later.posted (Reply.Posted x) call in
      let m = named a later.posted (Reply.Posted x) call (posted-id _ x r.0 r.1) in
      let on = goes-then n later.posted later.between b (waits-go n x later.posted later.between call.pass later.waits) (goes-outcome n x later.between b (Ok (Outcome.Answer (Answer.Accepted position))) later.told) in
      let k = made-later later.posted b on m in
      record { entry = k.0; stands = k.1; posts = k.2; heard = heard-outcome n x (Answer.Accepted position) later.between b later.told }

-- one more was delivered
pub are-delivered-more : (n : Nucleus) (q : Ui) (body : List ℕ) (t : Accepted) (a b : Pass) (sent more : List PortMessage) → Goes n a b → DeliversAs n q body (Some t) a b → AreDelivered (layout_of n) (known a) (known a).mine sent → more ≡ sent ++ as_delivered q body t ∷ []
    → AreDelivered (layout_of n) (known b) (known b).mine more
are-delivered-more n q body t a b sent more g d old is =
    let l = layout_of n in
    let P = IsDelivered l (known b) (known b).mine in
    subst (All P) (sym is)
    (All-append P sent (as_delivered q body t ∷ []) (are-delivered-later l (known a) (known b) (known a).mine (known b).mine g.more sent g.sees g.mine old)
    (All-cons P (as_delivered q body t) [] (delivered-now n q body t.id t.position d.before b d.told) (All-nil P)))

-- a session that delivered one more
pub session-delivered : (n : Nucleus) (q : Ui) (body : List ℕ) (t : Accepted) (p p' : Session) → IsSession n p → Goes n p.pass p'.pass → DeliversAs n q body (Some t) p.pass p'.pass → p'.hand.seat ≡ p.hand.seat → p'.hand.taken.items ≡ p.hand.taken.items
    → p'.hand.delivered.items ≡ p.hand.delivered.items ++ as_delivered q body t ∷ [] → IsSession n p'
session-delivered n q body t p p' is g d seat taken more =
    session-with n p p' is g seat taken (are-delivered-more n q body t p.pass p'.pass p.hand.delivered.items p'.hand.delivered.items g d is.delivered more)
