-- What is told and heard of a message is its verdict, or how many copies a choice made of it.
use Rattle.std.proofs.Common.{ℕ, ◌≡◌, ◌<◌, nat_lt, Bool, true, false, ◌==◌, ◌&&◌, ◌⊎◌, cond, List, [], ◌∷◌, ◌++◌, length, Some, None, refl, sym, ◌∙◌, ap, subst, inl, inr, append-nil}
use Rattle.std.specs.Option.{option_or}
use Rattle.std.proofs.lemmas.Bool.{ltb-true, and_from, and_parts, false≢true, cases_Bool}
use Rattle.chorus_ui.specs.declared.ui.Ui.{Ui}
use Rattle.chorus_ui.specs.declared.layout.Layout.{Layout}
use Rattle.chorus_entry.specs.declared.entry.Entry.{Entry}
use Rattle.chorus_entry.specs.declared.id.MsgId.{MsgId}
use Rattle.chorus_entry.specs.declared.answer.Answer.{Answer}
use Rattle.chorus_entry.specs.declared.answer.Answer.TheVariants as A
use Rattle.chorus_entry.specs.declared.dest.Dest.{Dest}
use Rattle.chorus_entry.specs.declared.dest.Dest.TheVariants as dests
use Rattle.chorus_ui.specs.Name.{same_ui}
use Rattle.chorus_entry.specs.declared.act.Act.{Act}
use Rattle.chorus_entry.specs.declared.act.Act.TheVariants.{Post, Accept, Full, Already, ClientsFull, Stale, Early, NoPort, Elsewhere, Gone, NoMember, Choose, Try, Told, Heard}
use Rattle.chorus_entry.specs.Act.{answer_of, is_verdict, message_of}
use Rattle.chorus_entry.specs.Answer.{is_final}
use Rattle.chorus_entry.specs.Same.{are_same}
use Rattle.chorus_entry.specs.MsgId.{same_id}
use Rattle.chorus_entry.proofs.Same.{from_same_answer, from_same_id, same_id-self}
use Rattle.chorus_world.specs.declared.progress.Progress.{Progress}
use Rattle.chorus_world.specs.declared.progress.Progress.TheVariants.{Idle, Asked, Tried, Decided, Settled, Reported}
use Rattle.chorus_world.specs.Views.{about, is_about, views}
use Rattle.chorus_world.specs.Posts.{post_of}
use Rattle.chorus_world.specs.Messages.{is_to_be_heard, is_to_be_told, progress, progress_after, settled, decided, told, posted, verdict, verdict_by}
use Rattle.chorus_world.specs.Places.{copies}
use Rattle.chorus_world.specs.GroupLaws.{copies_by, copies_of}
use Rattle.chorus_entry.specs.Members.{same_uis}
use Rattle.chorus_world.specs.Steps.{may_choose_from, choice_from, is_asked_from, is_legal}
use Rattle.chorus_world.specs.DecisionLaws.{HearsTheEnd, TellsTheVerdict}
use Rattle.chorus_world.proofs.Steps.LegalLemmas.{entry, legal_parts, skips, keeps}
use Rattle.chorus_world.proofs.Ports.PortMoves.{to_be_told}
use Rattle.chorus_world.proofs.Messages.SendingLemmas.{or_some}
use Rattle.chorus_world.proofs.Messages.VerdictLemmas.{has_one_verdict}
use Rattle.chorus_world.proofs.Messages.MessageInvariant.{legal_messages}
use Rattle.chorus_world.proofs.Messages.PostLemmas.{asked_facts, choose_needs}
use Rattle.chorus_world.proofs.Groups.FunctionalLaws.{copies_case, copies_length, no_copies}
use Rattle.chorus_world.proofs.Messages.Decided.{may_as}

-- the answer is its verdict, or says how many copies were made of it
abbrev pub IsItsEnd : MsgId → List Entry → Answer → Type 0
IsItsEnd x past a = (verdict x past ≡ Some a) ⊎ ((a ≡ A.Chosen (length (copies_of x past))) × (0 < length (copies_of x past)))

-- what the progress of a message says of its verdict
abbrev pub Ends : MsgId → List Entry → Progress → Type 0
Ends x past (Decided from by q a) = is_final a ≡ true → verdict x past ≡ Some a
Ends x past (Settled a) = IsItsEnd x past a
Ends x past _ = Unit {0}

ends-grow : (x : MsgId) (past : List Entry) (e : Entry) (s : Progress) → copies_by x e.act ≡ [] → Ends x past s → Ends x (e ∷ past) s
ends-grow x past e (Decided from by q a) none h = λ f. or_some (verdict x past) (verdict_by x e.act) a (h f)
ends-grow x past e (Settled a) none (inl h) = inl (or_some (verdict x past) (verdict_by x e.act) a h)
ends-grow x past e (Settled a) none (inr h) =
    let same : copies_of x past ≡ copies_of x (e ∷ past) = sym (ap (λ zs. copies_of x past ++ zs) none ∙ append-nil (copies_of x past)) in
    inr (h.0 ∙ ap (λ zs. A.Chosen (length zs)) same, subst (λ zs. 0 < length zs) same h.1)
ends-grow x past e Idle none h = tt
ends-grow x past e (Asked from d) none h = tt
ends-grow x past e (Tried from q to hop) none h = tt
ends-grow x past e Reported none h = tt

-- an answer that settles, where it is final
settled-ends : (x : MsgId) (past : List Entry) (a : Answer) → (is_final a ≡ true → IsItsEnd x past a) → Ends x past (settled a)
settled-ends x past a h = go (is_final a) h
  where
    go : (b : Bool) → (b ≡ true → IsItsEnd x past a) → Ends x past (cond b (Settled a) Idle)
    go true k = k refl
    go false k = tt

decided-ends : (x : MsgId) (past : List Entry) (e : Entry) (q : Ui) (a : Answer) (s : Progress) → copies_by x e.act ≡ [] → (is_final a ≡ true → verdict x (e ∷ past) ≡ Some a) → Ends x past s → Ends x (e ∷ past) (decided e.place q a s)
decided-ends x past e q a (Tried from r to hop) none v h = go ((to == e.place) && same_ui r q)
  where
    go : (b : Bool) → Ends x (e ∷ past) (cond b (Decided from e.place r a) Idle)
    go true = v
    go false = tt
decided-ends x past e q a Idle none v h = settled-ends x (e ∷ past) a (λ f. inl (v f))
decided-ends x past e q a (Decided from by r b) none v h = ends-grow x past e (Decided from by r b) none h
decided-ends x past e q a (Settled b) none v h = ends-grow x past e (Settled b) none h
decided-ends x past e q a (Asked from d) none v h = tt
decided-ends x past e q a Reported none v h = tt

verdict-now : (l : Layout) (past : List Entry) (e : Entry) (x : MsgId) (a : Answer) → is_legal l (e ∷ past) ≡ true → is_about (Some x) e ≡ true → is_verdict e.act ≡ true → answer_of e.act ≡ Some a → verdict x (e ∷ past) ≡ Some a
verdict-now l past e x a h t v is =
    let now : verdict_by x e.act ≡ Some a = ap (λ b. cond b (answer_of e.act) None) (and_from (is_verdict e.act) (are_same same_id (Some x) (message_of e.act)) v t) ∙ is in
    let older : verdict x past ≡ None = has_one_verdict l past e x a h now in
    λ i. option_or (older i) (now i)

module _ (l : Layout) (past : List Entry) (x : MsgId) (c p s : ℕ) where
  abbrev AboutIt : Act → Type 0
  AboutIt a =
      is_legal l (entry c p s a ∷ past) ≡ true → is_about (Some x) (entry c p s a) ≡ true → Ends x past (progress (about x past)) →
      Ends x (entry c p s a ∷ past) (progress_after p a (progress (about x past)))

  decision-ends : (a : Act) (q : Ui) (answer : Answer) → is_verdict a ≡ true → answer_of a ≡ Some answer → copies_by x a ≡ [] → is_legal l (entry c p s a ∷ past) ≡ true → is_about (Some x) (entry c p s a) ≡ true
      → Ends x past (progress (about x past)) → Ends x (entry c p s a ∷ past) (decided p q answer (progress (about x past)))
  decision-ends a q answer v is none h t old =
      decided-ends x past (entry c p s a) q answer (progress (about x past)) none (λ f. verdict-now l past (entry c p s a) x answer h t v is) old

  told-ends : (y : MsgId) (b : Answer) (g : Progress) → is_to_be_told p b g ≡ true → Ends x past g → Ends x (entry c p s (Told y b) ∷ past) (told b g)
  told-ends y b g t old =
      let was = to_be_told p b g t in
      let k : is_final b ≡ true → verdict x past ≡ Some b = subst (Ends x past) was.2 old in
      subst (λ z. Ends x (entry c p s (Told y b) ∷ past) (told b z)) (sym was.2)
      (settled-ends x (entry c p s (Told y b) ∷ past) b (λ f. inl (or_some (verdict x past) (verdict_by x (Told y b)) b (k f))))

  choose-ends : (y : MsgId) (g : Ui) (qs : List Ui) → AboutIt (Choose y g qs)
  choose-ends y g qs h t old =
      let e = entry c p s (Choose y g qs) in
      let same : x ≡ y = from_same_id x y t in
      let may = (legal_parts l e past h).0 in
      let needs = choose_needs l past p s y g qs may in
      let asked = asked_facts y past needs.from needs.dest (legal_messages l past (legal_parts l e past h).1 y) needs.asked in
      let none = no_copies y past asked.0.chosen in
      let now : copies_of y (e ∷ past) ≡ copies y g 1 qs = (λ i. none i ++ copies_by y (Choose y g qs)) ∙ ap (λ b. cond b (copies y g 1 qs) []) (same_id-self y) in
      let count : length qs ≡ length (copies_of y (e ∷ past)) = sym (ap length now ∙ copies_length y g 1 qs) in
      let all : length qs ≡ length (copies_of x (e ∷ past)) = count ∙ ap (λ z. length (copies_of z (e ∷ past))) (sym same) in
      let v = views past p s (Choose y g qs) in
      let from = may_choose_from l v p y g (progress v.message) in
      let some = and_parts from (nat_lt 0 (length qs)) (and_parts (from && nat_lt 0 (length qs)) (same_uis qs (choice_from l v.here (progress v.message))) may).0 in
      inr (ap (λ n. A.Chosen n) all, subst (λ n. 0 < n) all (ltb-true 0 (length qs) some.1))

  about-it : (a : Act) → AboutIt a
  about-it (Post m d) h t old = by d
    where
      by : (d : Dest) → Ends x (entry c p s (Post m d) ∷ past) (posted p d)
      by (dests.Port q) = tt
      by (dests.All g) = tt
      by (dests.One g) = tt
      by (dests.OneAt g n) = tt
  about-it (Choose y g qs) h t old = choose-ends y g qs h t old
  about-it (NoMember y g) h t old = inl (verdict-now l past (entry c p s (NoMember y g)) x A.NoMember h t refl refl)
  about-it (Try y q to hop) h t old = tt
  about-it (Told y b) h t old =
      told-ends y b (progress (about x past)) (subst (λ z. is_to_be_told p b (progress (about z past)) ≡ true) (sym (from_same_id x y t)) (legal_parts l (entry c p s (Told y b)) past h).0) old
  about-it (Heard y b) h t old = tt
  about-it (Accept y q n) h t old = decision-ends (Accept y q n) q (A.Accepted n) refl refl refl h t old
  about-it (Full y q n) h t old = decision-ends (Full y q n) q (A.Full n) refl refl refl h t old
  about-it (Already y q) h t old = decision-ends (Already y q) q A.Already refl refl refl h t old
  about-it (ClientsFull y q) h t old = decision-ends (ClientsFull y q) q A.ClientsFull refl refl refl h t old
  about-it (Stale y q tried to hop) h t old =
      decided-ends x past (entry c p s (Stale y q tried to hop)) q (A.Stale to hop) (progress (about x past)) refl (λ f. absurd (false≢true f)) old
  about-it (Early y q hop) h t old = decision-ends (Early y q hop) q (A.Early hop) refl refl refl h t old
  about-it (NoPort y q) h t old = decision-ends (NoPort y q) q A.NoPort refl refl refl h t old
  about-it (Elsewhere y q to hop) h t old = decision-ends (Elsewhere y q to hop) q (A.Elsewhere to hop) refl refl refl h t old
  about-it (Gone y q) h t old = decision-ends (Gone y q) q A.Gone refl refl refl h t old
  about-it _ h t old = absurd (false≢true t)

ends : (l : Layout) (past : List Entry) (x : MsgId) → is_legal l past ≡ true → Ends x past (progress (about x past))
ends l [] x h = tt
ends l (e ∷ past) x h =
    let old = ends l past x (legal_parts l e past h).1 in
    elim (cases_Bool (is_about (Some x) e)) [
      | inl t ↦ subst (λ z. Ends x (e ∷ past) (progress z)) (sym (keeps (is_about (Some x)) e past t)) (about-it l past x e.clock e.place e.seat e.act h t old)
      | inr n ↦ subst (λ z. Ends x (e ∷ past) (progress z)) (sym (skips (is_about (Some x)) e past n)) (ends-grow x past e (progress (about x past)) (uncopied n) old)
    ]
  where
    uncopied : is_about (Some x) e ≡ false → copies_by x e.act ≡ []
    uncopied n =
        elim (copies_case x e.act) [
          | inl none ↦ none
          | inr c ↦ absurd (false≢true (sym n ∙ (ap (λ a. are_same same_id (Some x) (message_of a)) c.2 ∙ same_id-self x)))
        ]

pub tells_the_verdict : (l : Layout) (past : List Entry) (e : Entry) → is_legal l (e ∷ past) ≡ true → TellsTheVerdict past e
tells_the_verdict l past e h x a is final =
    let was = to_be_told e.place a (progress (about x past)) (may_as l past e (Told x a) h is) in
    let k : is_final a ≡ true → verdict x past ≡ Some a = subst (Ends x past) was.2 (ends l past x (legal_parts l e past h).1) in
    k final

heard-end : (x : MsgId) (past : List Entry) (a : Answer) (s : Progress) → is_to_be_heard a s ≡ true → Ends x past s → IsItsEnd x past a
heard-end x past a (Settled b) t h = subst (IsItsEnd x past) (sym (from_same_answer a b t)) h
heard-end x past a Idle t h = absurd (false≢true t)
heard-end x past a (Asked from d) t h = absurd (false≢true t)
heard-end x past a (Tried from q to hop) t h = absurd (false≢true t)
heard-end x past a (Decided from by q b) t h = absurd (false≢true t)
heard-end x past a Reported t h = absurd (false≢true t)

pub hears_the_end : (l : Layout) (past : List Entry) (e : Entry) → is_legal l (e ∷ past) ≡ true → HearsTheEnd past e
hears_the_end l past e h x a is =
    heard-end x past a (progress (about x past))
    (and_parts (is_asked_from l e.place (post_of x past)) (is_to_be_heard a (progress (about x past))) (may_as l past e (Heard x a) h is)).1
    (ends l past x (legal_parts l e past h).1)
