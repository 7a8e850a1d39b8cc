-- What a place knows of a message is told by its entries, and its outcome says so.
-- x is an id, a an answer, `here` are entries of one place.
use Rattle.std.proofs.Common.{ℕ, ◌≡◌, ◌≤◌, nat_le, Bool, true, false, cond, List, [], ◌∷◌, ◌++◌, length, Option, Some, None, refl, sym, ◌∙◌, ap, subst, inl, inr, ◌⊎◌, append_assoc, arith}
use Rattle.std.specs.Option.{option_or}
use Rattle.std.proofs.lemmas.Bool.{false≢true, true≢false, eq-eqb, leb-true, le-leb}
use Rattle.chorus_ui.specs.declared.ui.Ui.{Ui}
use Rattle.chorus_ui.specs.declared.layout.Layout.{Layout}
use Rattle.chorus_entry.specs.declared.entry.Entry.{Entry}
use Rattle.chorus_entry.specs.declared.id.MsgId.{MsgId}
use Rattle.chorus_entry.specs.declared.message.Message.{Message}
use Rattle.chorus_entry.specs.declared.dest.Dest.{Dest}
use Rattle.chorus_entry.specs.declared.dest.Dest.TheVariants as dests
use Rattle.chorus_entry.specs.declared.answer.Answer.{Answer}
use Rattle.chorus_entry.specs.declared.answer.Answer.TheVariants as A
use Rattle.chorus_entry.specs.declared.act.Act.{Act}
use Rattle.chorus_entry.specs.declared.act.Act.TheVariants as acts
use Rattle.chorus_entry.specs.Act.{is_verdict, answer_of, message_of}
use Rattle.chorus_entry.specs.Answer.{is_final}
use Rattle.chorus_entry.specs.Dest.{group_in}
use Rattle.chorus_entry.specs.MsgId.{same_id}
use Rattle.chorus_entry.specs.Same.{are_same}
use Rattle.chorus_entry.proofs.Same.{same_id-self}
use Rattle.chorus_world.specs.Views.{at, by, is_by}
use Rattle.chorus_entry.specs.Order.{is_at}
use Rattle.chorus_world.specs.Posts.{Posted, post_of, posted_in, posted_by, source}
use Rattle.chorus_world.specs.SentLaws.{StandsIn}
use Rattle.chorus_world.specs.Steps.{is_legal}
use Rattle.chorus_world.proofs.Messages.MessageInvariant.{legal_messages}
use Rattle.chorus_world.proofs.Messages.PostLemmas.{choose_needs, asked_facts, post_kept}
use Rattle.chorus_world.proofs.Messages.SendingLemmas.{or_some, from_or}
use Rattle.chorus_world.proofs.Messages.Told.{tells_the_verdict, hears_the_end}
use Rattle.chorus_world.proofs.Ports.LineLemmas.{none_some, id_is}
use Rattle.chorus_world.proofs.Steps.LegalLemmas.{legal_parts, keeps}
use Rattle.law_replies.proofs.Posts.{within, legal-at, post-stands, stood-post, stood-may}
use Rattle.law_machine.specs.declared.outcome.Outcome.{Outcome}
use Rattle.law_machine.specs.Outcomes as machine
use Rattle.law_machine.specs.Outcomes.{said_of, answer_by, answer_for, count_in, outcome_of, outcome}
use Rattle.law_network.specs.Network.{schedule}
use Rattle.law_network.specs.Left.{merged_past}
use Rattle.law_network.proofs.Promises.Promised.{journals-at, legal-merge}
use Rattle.law_replies.specs.Replies.{Says}
use Rattle.law_replies.specs.Outcomes.{Decides, Became, TellsEnd, IsTold, IsPostedHere, IsKnown, OutcomeIsTrue, LegalOutcomes, SchedulesOutcomes}
use Rattle.law_replies.proofs.Saying.{says-now, says-behind, says-one-of, says-nothing}
use Rattle.law_replies.proofs.AsPosted.{found-id}
use Rattle.law_replies.proofs.Decided.{Kind, decides-about, decides-answer, decides-kind, to-decides, by-parts, became-later, became-once, verdict-became, copies-became}

-- An act tells what the outcome reads of it.

said-told : (x : MsgId) (a : Answer) (act : Act) → message_of act ≡ Some x → said_of act ≡ Some a → TellsEnd x a act
said-told x a (acts.Told y b) m o =
    let same : y ≡ x = cc in
    let p = by-parts (is_final b) (Some b) a o in
    let is : b ≡ a = (let both = p.1 in cc) in
    (same, (is, ap is_final (sym is) ∙ p.0))
said-told x a (acts.Heard y b) m o = let same : y ≡ x = cc in let is : b ≡ a = cc in (same, is)
said-told x a (acts.Choose y g qs) m o = let same : y ≡ x = cc in let is : a ≡ A.Chosen (length qs) = cc in (same, is)
said-told x a act m o = let p = by-parts (is_verdict act) (answer_of act) a o in to-decides x a act p.0 m p.1

told-by : (x : MsgId) (a : Answer) (act : Act) → answer_by x act ≡ Some a → TellsEnd x a act
told-by x a act h =
    let p = by-parts (are_same same_id (Some x) (message_of act)) (said_of act) a h in
    said-told x a act (id_is x (message_of act) p.0) p.1

-- a verdict, and a choice, say their answer
verdict-said : (x : MsgId) (a : Answer) (act : Act) → Kind x a act → answer_of act ≡ Some a → said_of act ≡ Some a
verdict-said x a (acts.Told y b) (inl v) o = absurd (false≢true v)
verdict-said x a (acts.Heard y b) (inl v) o = absurd (false≢true v)
verdict-said x a (acts.Choose y g qs) k o = o
verdict-said x a act (inl v) o = ap (λ b. cond b (answer_of act) None) v ∙ o
verdict-said x a act (inr c) o = ap said_of c.1.1.0 ∙ ap (λ z. Some z) (sym c.1.1.1)

end-said : (x : MsgId) (a : Answer) (act : Act) → TellsEnd x a act → said_of act ≡ Some a
end-said x a (acts.Told y b) h = ap (λ c. cond c (Some b) None) (ap is_final h.1.0 ∙ h.1.1) ∙ ap (λ z. Some z) h.1.0
end-said x a (acts.Heard y b) h = ap (λ z. Some z) h.1
end-said x a act h = verdict-said x a act (decides-kind x a act h) (decides-answer x a act h)

end-about : (x : MsgId) (a : Answer) (act : Act) → TellsEnd x a act → message_of act ≡ Some x
end-about x a (acts.Told y b) h = ap (λ z. Some z) h.0
end-about x a (acts.Heard y b) h = ap (λ z. Some z) h.0
end-about x a act h = decides-about x a act h

by-told : (x : MsgId) (a : Answer) (act : Act) → TellsEnd x a act → answer_by x act ≡ Some a
by-told x a act h =
    ap (λ b. cond b (said_of act) None) (ap (are_same same_id (Some x)) (end-about x a act h) ∙ same_id-self x) ∙ end-said x a act h

-- The place was told what the outcome reads, and reads something where it was told.

told-later : (x : MsgId) (a : Answer) (e : Entry) (here : List Entry) → IsTold x a here → IsTold x a (e ∷ here)
told-later x a e here t = (t.0, (says-behind (e ∷ []) here t.0 t.1.0, t.1.1))

for-told : (x : MsgId) (a : Answer) (here : List Entry) → answer_for x here ≡ Some a → IsTold x a here
for-told x a [] h = none_some a h
for-told x a (e ∷ here) h =
    elim (from_or (answer_for x here) (answer_by x e.act) a h) [
      | inl old ↦ told-later x a e here (for-told x a here old)
      | inr new ↦ (e.act, (says-now e here e.act refl, told-by x a e.act new.1))
    ]

told-for : (x : MsgId) (a : Answer) (here : List Entry) (act : Act) → Says here act → answer_by x act ≡ Some a → (b : Answer) × (answer_for x here ≡ Some b)
told-for x a [] act s h = absurd (says-nothing act s)
told-for x a (e ∷ here) act s h =
    elim (says-one-of e here act s) [
      | inl now ↦ by (answer_for x here) refl (ap (answer_by x) now ∙ h)
      | inr later ↦ (let old = told-for x a here act later h in (old.0, or_some (answer_for x here) (answer_by x e.act) old.0 old.1))
    ]
  where
    by : (o : Option Answer) → answer_for x here ≡ o → answer_by x e.act ≡ Some a → (b : Answer) × (answer_for x (e ∷ here) ≡ Some b)
    by (Some b) old now = (b, or_some (answer_for x here) (answer_by x e.act) b old)
    by None old now = (a, ap (λ o. option_or o (answer_by x e.act)) old ∙ now)

-- Posts.

posted-here : (x : MsgId) (m : Message) (d : Dest) (here : List Entry) (e : Entry) → StandsIn e here → e.act ≡ acts.Post m d → m.id ≡ source x → e.seat ≡ x.seat → (post : Posted) × (post_of x here ≡ Some post)
posted-here x m d here e s is id seat = go here s.newer s.is
  where
    now : (older : List Entry) (o : Option Posted) → post_of x older ≡ o → (post : Posted) × (post_of x (e ∷ older) ≡ Some post)
    now older (Some post) old =
        (post, ap (posted_in (source x)) (keeps (is_by x.seat) e older (eq-eqb e.seat x.seat seat)) ∙ ap (λ o. option_or o (posted_by (source x) e.place e.act)) old)
    now older None old =
        let post : Posted = record { place = e.place; message = m; dest = d } in
        let own : posted_by (source x) e.place e.act ≡ Some post =
        ap (posted_by (source x) e.place) is ∙ ap (λ b. cond b (Some post) None) (ap (λ z. same_id z (source x)) id ∙ same_id-self (source x)) in
        (post, ap (posted_in (source x)) (keeps (is_by x.seat) e older (eq-eqb e.seat x.seat seat)) ∙ (ap (λ o. option_or o (posted_by (source x) e.place e.act)) old ∙ own))

    go : (es newer : List Entry) → es ≡ newer ++ e ∷ s.older → (post : Posted) × (post_of x es ≡ Some post)
    go es [] h = subst (λ zs. (post : Posted) × (post_of x zs ≡ Some post)) (sym h) (now s.older (post_of x s.older) refl)
    go es (f ∷ newer) h =
        let rest = go (newer ++ e ∷ s.older) newer refl in
        (rest.0, ap (post_of x) h ∙ post_kept x (f ∷ []) (newer ++ e ∷ s.older) rest.0 rest.1)

module _ (l : Layout) (past here : List Entry) (legal : is_legal l past ≡ true) (part : (e : Entry) → StandsIn e here → StandsIn e past) where
  -- What was told is so.

  older-became : (x : MsgId) (a : Answer) (e : Entry) (s : StandsIn e past) → Became x a s.older → Became x a past
  older-became x a e s b = subst (Became x a) (sym s.is) (subst (Became x a) (append_assoc s.newer (e ∷ []) s.older) (became-later x a (s.newer ++ e ∷ []) s.older b))

  told-became : (x : MsgId) (a : Answer) (e : Entry) (s : StandsIn e past) (act : Act) → e.act ≡ act → TellsEnd x a act → Became x a past
  told-became x a e s (acts.Told y b) is h =
      let at : e.act ≡ acts.Told x a = is ∙ (λ i. acts.Told (h.0 i) (h.1.0 i)) in
      older-became x a e s (verdict-became x a s.older (tells_the_verdict l s.older e (legal-at l past e s legal) x a at h.1.1))
  told-became x a e s (acts.Heard y b) is h =
      let at : e.act ≡ acts.Heard x a = is ∙ (λ i. acts.Heard (h.0 i) (h.1 i)) in
      let before = (legal_parts l e s.older (legal-at l past e s legal)).1 in
      older-became x a e s (elim (hears_the_end l s.older e (legal-at l past e s legal) x a at) [
        | inl v ↦ verdict-became x a s.older v
        | inr c ↦ subst (λ z. Became x z s.older) (sym c.0) (copies-became l s.older x before c.1)
      ])
  told-became x a e s act is h = (act, ((e, (s, is)), h))

  pub is-became : (x : MsgId) (a : Answer) → IsTold x a here → Became x a past
  is-became x a t = told-became x a t.1.0.0 (part t.1.0.0 t.1.0.1.0) t.0 t.1.0.1.1 t.1.1

  told-once : (x : MsgId) (a b : Answer) → IsTold x a here → IsTold x b here → a ≡ b
  told-once x a b t u = became-once l past x a b legal (is-became x a t) (is-became x b u)

  -- so the outcome reads it
  told-is : (x : MsgId) (a : Answer) → IsTold x a here → answer_for x here ≡ Some a
  told-is x a t =
      let found = told-for x a here t.0 t.1.0 (by-told x a t.0 t.1.1) in
      found.1 ∙ ap (λ z. Some z) (told-once x found.0 a (for-told x found.0 here found.1) t)

  -- Where members are chosen for a post, it goes to a group.

  chosen-dest : (x : MsgId) (count : ℕ) → Became x (A.Chosen count) past → (d : Posted) × (post_of x past ≡ Some d) × ((q : Ui) → d.dest ≡ dests.Port q → ⊥)
  chosen-dest x count b = by b.0 b.1.0 b.1.1
    where
      choice : (g : Ui) (qs : List Ui) → Says past (acts.Choose x g qs) → (d : Posted) × (post_of x past ≡ Some d) × ((q : Ui) → d.dest ≡ dests.Port q → ⊥)
      choice g qs said =
          let e = said.0 in
          let s = said.1.0 in
          let may = stood-may l past e (acts.Choose x g qs) s legal said.1.1 in
          let needs = choose_needs l s.older e.place e.seat x g qs may in
          let asked = (asked_facts x s.older needs.from needs.dest (legal_messages l s.older (legal_parts l e s.older (legal-at l past e s legal)).1 x) needs.asked).1 in
          let kept : post_of x past ≡ Some asked.post =
          ap (post_of x) s.is ∙ (ap (post_of x) (sym (append_assoc s.newer (e ∷ []) s.older)) ∙ post_kept x (s.newer ++ e ∷ []) s.older asked.post asked.posted) in
          (asked.post, kept, λ q is. (let none : None ≡ Some g = sym (ap group_in (sym asked.dest ∙ is)) ∙ needs.group in cc))

      by : (act : Act) → Says past act → Decides x (A.Chosen count) act → (d : Posted) × (post_of x past ≡ Some d) × ((q : Ui) → d.dest ≡ dests.Port q → ⊥)
      by (acts.Choose y g qs) said h = choice g qs (subst (λ z. Says past (acts.Choose z g qs)) h.0 said)
      by (acts.Accept y q n) said h = absurd (let bad = h.1 in cc)
      by (acts.Full y q n) said h = absurd (let bad = h.1 in cc)
      by (acts.Early y q n) said h = absurd (let bad = h.1 in cc)
      by (acts.NoPort y q) said h = absurd (let bad = h.1 in cc)
      by (acts.Already y q) said h = absurd (let bad = h.1 in cc)
      by (acts.ClientsFull y q) said h = absurd (let bad = h.1 in cc)
      by (acts.Elsewhere y q to hop) said h = absurd (let bad = h.1 in cc)
      by (acts.Gone y q) said h = absurd (let bad = h.1 in cc)
      by (acts.NoMember y g) said h = absurd (let bad = h.1 in cc)
      by _ said h = absurd h

  module _ (x : MsgId) where
    -- the post of x, by the entries of the place and by all
    posted-both : (h : IsPostedHere x here) → (d : Posted) × (post_of x here ≡ Some d)
    posted-both h =
        let e = h.says.0 in
        let s = h.says.1.0 in
        let is = h.says.1.1 in
        let stood = stood-post l past e h.message h.dest legal (part e s) is in
        posted-here x h.message h.dest here e s is h.id (sym stood.1 ∙ ap (λ (z : MsgId). z.seat) h.id)

    post-here : (d : Posted) → post_of x here ≡ Some d → IsPostedHere x here
    post-here d h =
        let p = post-stands here x d h in
        record { message = d.message; dest = d.dest; says = (p.entry, (p.stands, p.posts)); id = found-id (source x) (by x.seat here) d h }

    -- a post of the place has one destination
    same-dest : (d : Posted) → post_of x here ≡ Some d → (f : Posted) → post_of (source x) past ≡ Some f → d.dest ≡ f.dest
    same-dest d h f k =
        let p = post-stands here x d h in
        let all = (stood-post l past p.entry d.message d.dest legal (part p.entry p.stands) p.posts).0 in
        let id : d.message.id ≡ source x = found-id (source x) (by x.seat here) d h in
        let both : Some (record { place = p.entry.place; message = d.message; dest = d.dest }) ≡ Some f = sym all ∙ (ap (λ z. post_of z past) id ∙ k) in
        let one : (record { place = p.entry.place; message = d.message; dest = d.dest }) ≡ f = cc in
        ap (λ (z : Posted). z.dest) one

    abbrev count : Dest → ℕ
    count d = machine.copies_of x d here

    -- how many copies the outcome counts, the place was told
    copies-told : (d : Dest) → x.copy ≤ count d → (x.copy ≡ 0) ⊎ ((n : ℕ) × (IsTold (source x) (A.Chosen n) here × (x.copy ≤ n)))
    copies-told d le = by d le
      where
        counted : (o : Option Answer) → answer_for (source x) here ≡ o → x.copy ≤ count_in o → (x.copy ≡ 0) ⊎ ((n : ℕ) × (IsTold (source x) (A.Chosen n) here × (x.copy ≤ n)))
        counted (Some (A.Chosen n)) e k = inr (n, (for-told (source x) (A.Chosen n) here e, k))
        counted None e k = inl (omega (arith, k))
        counted (Some _) e k = inl (omega (arith, k))

        by : (c : Dest) → x.copy ≤ count c → (x.copy ≡ 0) ⊎ ((n : ℕ) × (IsTold (source x) (A.Chosen n) here × (x.copy ≤ n)))
        by (dests.Port q) k = inl (omega (arith, k))
        by (dests.All g) k = counted (answer_for (source x) here) refl k
        by (dests.One g) k = counted (answer_for (source x) here) refl k
        by (dests.OneAt g site) k = counted (answer_for (source x) here) refl k

    -- and what it was told of them, the outcome counts
    told-copies : (d : Posted) → post_of x here ≡ Some d → (n : ℕ) → IsTold (source x) (A.Chosen n) here → count d.dest ≡ n
    told-copies d h n t = by d.dest refl
      where
        group : (f : Posted) × (post_of (source x) past ≡ Some f) × ((q : Ui) → f.dest ≡ dests.Port q → ⊥)
        group = chosen-dest (source x) n (is-became (source x) (A.Chosen n) t)

        counted : count_in (answer_for (source x) here) ≡ n
        counted = ap count_in (told-is (source x) (A.Chosen n) t)

        by : (c : Dest) → d.dest ≡ c → count c ≡ n
        by (dests.Port q) e = absurd (group.2 q (sym (same-dest d h group.0 group.1) ∙ e))
        by (dests.All g) e = counted
        by (dests.One g) e = counted
        by (dests.OneAt g site) e = counted

    -- The outcome, and what it is by.

    abbrev IsPending : Type 0
    IsPending = (outcome x here ≡ Outcome.Pending) × ((a : Answer) → IsTold x a here → ⊥)

    abbrev IsAnswered : Type 0
    IsAnswered = (a : Answer) × ((outcome x here ≡ Outcome.Answer a) × IsTold x a here)

    abbrev Result : Type 0
    Result = ((outcome x here ≡ Outcome.Unknown) × (IsKnown x here → ⊥)) ⊎ (IsKnown x here × (IsPending ⊎ IsAnswered))

    known-result : (d : Posted) → post_of x here ≡ Some d → (b : Bool) → nat_le x.copy (count d.dest) ≡ b → Result
    known-result d h false e =
        inl (
          ap (outcome_of x here) h ∙ ap (λ b. cond b (machine.became (answer_for x here)) Outcome.Unknown) e,
          λ known. elim known.1 [
            | inl none ↦ (let same : nat_le 0 (count d.dest) ≡ false = ap (λ n. nat_le n (count d.dest)) (sym none) ∙ e in true≢false (sym (le-leb 0 (count d.dest) (omega arith)) ∙ same))
            | inr some ↦ (
                let same : nat_le x.copy some.0 ≡ false = ap (nat_le x.copy) (sym (told-copies d h some.0 some.1.0)) ∙ e in
                true≢false (sym (le-leb x.copy some.0 some.1.1) ∙ same))
          ],
        )
    known-result d h true e =
        inr ((post-here d h, copies-told d.dest (leb-true x.copy (count d.dest) e)), by (answer_for x here) refl)
      where
        is : outcome x here ≡ machine.became (answer_for x here)
        is = ap (outcome_of x here) h ∙ ap (λ b. cond b (machine.became (answer_for x here)) Outcome.Unknown) e

        by : (o : Option Answer) → answer_for x here ≡ o → IsPending ⊎ IsAnswered
        by None f = inl (is ∙ ap machine.became f, λ a t. (let both : None ≡ Some a = sym f ∙ told-is x a t in absurd (cc)))
        by (Some a) f = inr (a, (is ∙ ap machine.became f, for-told x a here f))

    result : Result
    result = by (post_of x here) refl
      where
        by : (o : Option Posted) → post_of x here ≡ o → Result
        by None h = inl (ap (outcome_of x here) h, λ known. (let found = posted-both known.0 in let both : None ≡ Some found.0 = sym h ∙ found.1 in absurd (cc)))
        by (Some d) h = known-result d h (nat_le x.copy (count d.dest)) refl

    answers : (a : Answer) → (outcome x here ≡ Outcome.Answer a) → IsKnown x here × IsTold x a here
    answers a e =
        elim result [
          | inl u ↦ absurd (let both : Outcome.Unknown ≡ Outcome.Answer a = sym u.0 ∙ e in cc)
          | inr k ↦ elim k.1 [
            | inl p ↦ absurd (let both : Outcome.Pending ≡ Outcome.Answer a = sym p.0 ∙ e in cc)
            | inr t ↦ (
                let both : Outcome.Answer t.0 ≡ Outcome.Answer a = sym t.1.0 ∙ e in
                let same : t.0 ≡ a = cc in
                (k.0, subst (λ z. IsTold x z here) same t.1.1))
          ]
        ]

    answered : (a : Answer) → IsKnown x here → IsTold x a here → outcome x here ≡ Outcome.Answer a
    answered a known told =
        elim result [
          | inl u ↦ absurd (u.1 known)
          | inr k ↦ elim k.1 [
            | inl p ↦ absurd (p.1 a told)
            | inr t ↦ t.1.0 ∙ ap Outcome.Answer (told-once x t.0 a t.1.1 told)
          ]
        ]

    waits : (outcome x here ≡ Outcome.Pending) → IsKnown x here × ((a : Answer) → IsTold x a here → ⊥)
    waits e =
        elim result [
          | inl u ↦ absurd (let both : Outcome.Unknown ≡ Outcome.Pending = sym u.0 ∙ e in cc)
          | inr k ↦ elim k.1 [
            | inl p ↦ (k.0, p.1)
            | inr t ↦ absurd (let both : Outcome.Answer t.0 ≡ Outcome.Pending = sym t.1.0 ∙ e in cc)
          ]
        ]

    waiting : IsKnown x here → ((a : Answer) → IsTold x a here → ⊥) → outcome x here ≡ Outcome.Pending
    waiting known none =
        elim result [
          | inl u ↦ absurd (u.1 known)
          | inr k ↦ elim k.1 [
            | inl p ↦ p.0
            | inr t ↦ absurd (none t.0 t.1.1)
          ]
        ]

    strange : (outcome x here ≡ Outcome.Unknown) → IsKnown x here → ⊥
    strange e =
        elim result [
          | inl u ↦ u.1
          | inr k ↦ elim k.1 [
            | inl p ↦ absurd (let both : Outcome.Pending ≡ Outcome.Unknown = sym p.0 ∙ e in cc)
            | inr t ↦ absurd (let both : Outcome.Answer t.0 ≡ Outcome.Unknown = sym t.1.0 ∙ e in cc)
          ]
        ]

    stranger : (IsKnown x here → ⊥) → outcome x here ≡ Outcome.Unknown
    stranger none =
        elim result [
          | inl u ↦ u.0
          | inr k ↦ absurd (none k.0)
        ]

    pub outcome-is-true : OutcomeIsTrue x here past
    outcome-is-true =
        record {
          answer = λ a. (answers a, λ h. answered a h.0 h.1);
          pending = (waits, λ h. waiting h.0 h.1);
          unknown = (strange, stranger);
          became = is-became x;
          once = λ a b. became-once l past x a b legal;
        }

-- The entries of a place stand among all.
pub legal-outcomes : LegalOutcomes
legal-outcomes l past p x legal = outcome-is-true l past (at p past) legal (within (is_at p) past) x

pub schedules-outcomes : SchedulesOutcomes
schedules-outcomes l es shape may p x =
    let n = schedule l es in
    subst (λ zs. OutcomeIsTrue x zs (merged_past n)) (journals-at l es shape may p) (legal-outcomes l (merged_past n) p x (legal-merge l es shape may))
