-- What was told of a post is so: it has that verdict and no other, and where it is Accepted, it stands at that position of the port
-- to which it was posted.
-- x is a message's id, q a port, n a position, e and f are entries, past is a legal list, its newest entry first.
use Rattle.std.proofs.Common.{ℕ, ◌≡◌, true, false, Bool, cond, inl, inr, List, [], ◌∷◌, ◌++◌, length, Option, Some, None, slice_get, refl, sym, ◌∙◌, ap, subst}
use Rattle.chorus_ui.specs.declared.ui.Ui.{Ui}
use Rattle.chorus_ui.specs.declared.layout.Layout.{Layout}
use Rattle.chorus_ui.specs.Name.{same_ui}
use Rattle.chorus_ui.specs.Layout.{IsLayout}
use Rattle.chorus_ui.proofs.Names.{same_ui-self}
use Rattle.chorus_entry.specs.declared.entry.Entry.{Entry}
use Rattle.chorus_entry.specs.declared.id.MsgId.{MsgId}
use Rattle.chorus_entry.specs.declared.answer.Answer.{Answer}
use Rattle.chorus_entry.specs.declared.answer.Answer.TheVariants as A
use Rattle.chorus_entry.specs.declared.message.Message.{Message}
use Rattle.chorus_entry.specs.declared.dest.Dest.{Dest}
use Rattle.chorus_entry.specs.declared.act.Act.{Act}
use Rattle.chorus_entry.specs.declared.act.Act.TheVariants as acts
use Rattle.chorus_entry.specs.Act.{held_port_of, is_verdict, answer_of, message_of}
use Rattle.chorus_entry.specs.Answer.{is_final}
use Rattle.chorus_entry.specs.MsgId.{same_id}
use Rattle.chorus_entry.specs.Same.{are_same}
use Rattle.chorus_world.specs.Views.{is_on, on}
use Rattle.chorus_world.specs.Ports.{fate, fate_after}
use Rattle.chorus_world.specs.Posts.{Posted, post_of}
use Rattle.chorus_world.specs.SentLaws.{StandsIn}
use Rattle.chorus_world.specs.AcceptedLaws.{accepted_by, accepted_from}
use Rattle.chorus_world.specs.Steps.{is_legal}
use Rattle.chorus_world.proofs.Messages.AcceptedLemmas.{accepted_belongs}
use Rattle.chorus_world.proofs.Messages.Decided.{accepts_with_room}
use Rattle.chorus_world.proofs.Messages.SendingLemmas.{from_or}
use Rattle.chorus_world.proofs.Ports.LineLemmas.{id_is, none_some}
use Rattle.chorus_world.proofs.Ports.PortLaws.{accepted_grows}
use Rattle.chorus_world.proofs.Seats.CallLemmas.{direct_port}
use Rattle.chorus_world.proofs.Steps.LegalLemmas.{keeps}
use Rattle.law_machine.specs.declared.outcome.Outcome.{Outcome}
use Rattle.law_machine.specs.Outcomes as machine
use Rattle.law_machine.specs.Outcomes.{said_of, answer_by, answer_for, outcome, outcome_of}
use Rattle.law_replies.specs.Outcomes.{Became, Decides, IsTold, TellsEnd}
use Rattle.law_replies.proofs.Decided.{to-decides, by-parts}
use Rattle.law_replies.proofs.Posts.{legal-at, stood-post}
use Rattle.law_replies.proofs.Saying.{says-behind, says-now}
use Rattle.law_replies.proofs.Told.{is-became}
use Rattle.chorus_sessions.proofs.Lists.{get-longer, get-seam}

-- An outcome is read from an entry.

said : (x : MsgId) (a : Answer) (act : Act) → message_of act ≡ Some x → said_of act ≡ Some a → TellsEnd x a act
said x a (acts.Told y b) m o =
    let same : y ≡ x = cc in
    let p = by-parts (is_final b) (Some b) a o in
    let is : b ≡ a = (let both = p.1 in cc) in
    (same, (is, ap is_final (sym is) ∙ p.0))
said x a (acts.Heard y b) m o = let same : y ≡ x = cc in let is : b ≡ a = cc in (same, is)
said x a (acts.Choose y g qs) m o = let same : y ≡ x = cc in let is : a ≡ A.Chosen (length qs) = cc in (same, is)
said x a act m o = let p = by-parts (is_verdict act) (answer_of act) a o in to-decides x a act p.0 m p.1

told-for : (x : MsgId) (a : Answer) (here : List Entry) → answer_for x here ≡ Some a → IsTold x a here
told-for x a [] h = none_some a h
told-for x a (e ∷ here) h =
    elim (from_or (answer_for x here) (answer_by x e.act) a h) [
      | inl old ↦ (let t = told-for x a here old in (t.0, (says-behind (e ∷ []) here t.0 t.1.0, t.1.1)))
      | inr new ↦
          (let p = by-parts (are_same same_id (Some x) (message_of e.act)) (said_of e.act) a new.1 in
          (e.act, (says-now e here e.act refl, said x a e.act (id_is x (message_of e.act) p.0) p.1)))
    ]

pub answer-told : (x : MsgId) (a : Answer) (here : List Entry) → outcome x here ≡ Outcome.Answer a → IsTold x a here
answer-told x a here h = posted (post_of x here) h
  where
    answered : (o : Option Answer) → answer_for x here ≡ o → machine.became o ≡ Outcome.Answer a → IsTold x a here
    answered None e h = absurd (let both : Outcome.Pending ≡ Outcome.Answer a = h in cc)
    answered (Some b) e h = let is : b ≡ a = cc in told-for x a here (e ∙ ap (λ z. Some z) is)

    known : (b : Bool) → cond b (machine.became (answer_for x here)) Outcome.Unknown ≡ Outcome.Answer a → IsTold x a here
    known true h = answered (answer_for x here) refl h
    known false h = absurd (let both : Outcome.Unknown ≡ Outcome.Answer a = h in cc)

    posted : (o : Option Posted) → outcome_of x here o ≡ Outcome.Answer a → IsTold x a here
    posted None h = absurd (let both : Outcome.Unknown ≡ Outcome.Answer a = h in cc)
    posted (Some d) h = known _ h

-- What became of it.

module _ (l : Layout) (past : List Entry) (shape : IsLayout l) (legal : is_legal l past ≡ true) where
  pub told-became : (x : MsgId) (a : Answer) (e : Entry) → StandsIn e past → TellsEnd x a e.act → Became x a past
  told-became x a e s tells = is-became l past past legal (λ f t. t) x a (e.act, ((e, (s, refl)), tells))

  accept-position : (x : MsgId) (q : Ui) (n : ℕ) (e : Entry) → StandsIn e past → e.act ≡ acts.Accept x q n → slice_get (accepted_by q past) n ≡ Some x
  accept-position x q n e s act =
      let before = accepts_with_room l s.older e (legal-at l past e s legal) x q n act in
      let f = before.0 in
      let line : is_on (Some q) e ≡ true = ap (λ a. are_same same_ui (Some q) (held_port_of a)) act ∙ same_ui-self q in
      let here : accepted_by q (e ∷ s.older) ≡ f.accepted ++ x ∷ [] =
      ap (λ z. accepted_from (fate z)) (keeps (is_on (Some q)) e s.older line) ∙ ap (λ a. accepted_from (fate_after e.place a (fate (on q s.older)))) act ∙ ap (λ o. accepted_from (fate_after e.place (acts.Accept x q n) o)) before.1 in
      let now : slice_get (accepted_by q (e ∷ s.older)) n ≡ Some x = ap (λ xs. slice_get xs n) here ∙ ap (λ k. slice_get (f.accepted ++ x ∷ []) k) before.3 ∙ get-seam f.accepted x in
      let grown = accepted_grows l s.newer (e ∷ s.older) q shape (ap (is_legal l) (sym s.is) ∙ legal) in
      ap (λ es. slice_get (accepted_by q es) n) s.is ∙ ap (λ xs. slice_get xs n) grown.1 ∙ get-longer (accepted_by q (e ∷ s.older)) grown.0 n x now

  -- what a port accepted is the port to which it was posted
  posted-port : (x : MsgId) (q r : Ui) (n : ℕ) (m : Message) (e : Entry) → StandsIn e past → e.act ≡ acts.Post m (Dest.Port q) → m.id ≡ x → slice_get (accepted_by r past) n ≡ Some x → r ≡ q
  posted-port x q r n m e s act id at =
      let k = accepted_belongs l past r n x legal at in
      let d = (stood-post l past e m (Dest.Port q) legal s act).0 in
      sym k.port ∙ direct_port l past k.place x k.message (record { place = e.place; message = m; dest = Dest.Port q }) q legal k.is (ap (λ z. post_of z past) (sym id) ∙ d) refl

  pub accepted-there : (x : MsgId) (q : Ui) (n : ℕ) (m : Message) (e : Entry) → StandsIn e past → e.act ≡ acts.Post m (Dest.Port q) → m.id ≡ x → Became x (A.Accepted n) past → slice_get (accepted_by q past) n ≡ Some x
  accepted-there x q n m e s act id b = by b.0 b.1.0.0 b.1.0.1.0 b.1.0.1.1 b.1.1
    where
      Goal : Type 0
      Goal = slice_get (accepted_by q past) n ≡ Some x

      by : (a : Act) (f : Entry) → StandsIn f past → f.act ≡ a → Decides x (A.Accepted n) a → Goal
      by (acts.Accept y r k) f t is h =
          let position : k ≡ n = (let both = h.1 in cc) in
          let there = accept-position x r n f t (is ∙ (λ i. acts.Accept (h.0 i) r (position i))) in
          subst (λ z. slice_get (accepted_by z past) n ≡ Some x) (posted-port x q r n m e s act id there) there
      by (acts.Full y r k) f t is h = absurd (let bad = h.1 in cc)
      by (acts.Early y r k) f t is h = absurd (let bad = h.1 in cc)
      by (acts.NoPort y r) f t is h = absurd (let bad = h.1 in cc)
      by (acts.Already y r) f t is h = absurd (let bad = h.1 in cc)
      by (acts.ClientsFull y r) f t is h = absurd (let bad = h.1 in cc)
      by (acts.Elsewhere y r to hop) f t is h = absurd (let bad = h.1 in cc)
      by (acts.Gone y r) f t is h = absurd (let bad = h.1 in cc)
      by (acts.NoMember y g) f t is h = absurd (let bad = h.1 in cc)
      by (acts.Choose y g qs) f t is h = absurd (let bad = h.1 in cc)
      by _ f t is h = absurd h
