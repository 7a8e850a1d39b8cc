-- How far a message is that its place has settled, and a post to a group.
use Rattle.std.proofs.Common.{ℕ, ◌≡◌, ◌+◌, Bool, true, false, ◌&&◌, if◌then◌else◌, List, [], ◌∷◌, Option, Some, None, refl, sym, ◌∙◌, ap, subst, arith, inl, inr}
use Rattle.std.specs.Option.{option_or}
use Rattle.std.proofs.lemmas.Bool.{and_parts, or_cases, false≢true, cases_Bool}
use Rattle.chorus_ui.specs.declared.ui.Ui.{Ui}
use Rattle.chorus_ui.specs.declared.layout.Layout.{Layout}
use Rattle.chorus_entry.specs.declared.entry.Entry.{Entry}
use Rattle.chorus_entry.specs.declared.id.MsgId.{MsgId}
use Rattle.chorus_entry.specs.declared.answer.Answer.{Answer}
use Rattle.chorus_entry.specs.declared.answer.Answer.TheVariants as A
use Rattle.chorus_entry.specs.declared.act.Act.{Act}
use Rattle.chorus_entry.specs.declared.act.Act.TheVariants.{Post, Accept, Full, Already, ClientsFull, Stale, Early, NoPort, Elsewhere, NoMember, Choose, Try, Told, Heard, Gone}
use Rattle.chorus_entry.specs.Act.{message_of, answer_of, is_verdict}
use Rattle.chorus_entry.specs.Answer.{is_final}
use Rattle.chorus_entry.specs.MsgId.{same_id}
use Rattle.chorus_entry.specs.Order.{is_at}
use Rattle.chorus_entry.specs.Same.{are_same}
use Rattle.chorus_entry.proofs.Same.{from_same_id}
use Rattle.chorus_world.specs.declared.progress.Progress.{Progress}
use Rattle.chorus_world.specs.declared.progress.Progress.TheVariants.{Idle, Asked, Tried, Decided, Settled, Reported}
use Rattle.chorus_world.specs.Views.{views, at, by, about, is_about}
use Rattle.chorus_world.specs.Messages.{progress, progress_after, decided, told, verdict, verdict_by}
use Rattle.chorus_world.specs.Places.{settles, is_settled, is_first}
use Rattle.chorus_world.specs.Seats.{posts}
use Rattle.chorus_world.specs.Steps.{act_may, is_legal}
use Rattle.chorus_world.proofs.Steps.LegalLemmas.{entry, legal_parts, keeps, skips}
use Rattle.chorus_world.proofs.Ports.LineLemmas.{none_some, id_is}
use Rattle.chorus_world.proofs.Messages.SendingLemmas.{some_is, first_here}
use Rattle.chorus_world.proofs.Messages.StageLemmas.{MessageFacts, first_is_idle}
use Rattle.chorus_world.proofs.Messages.DueLemmas.{first_try}
use Rattle.chorus_world.proofs.Messages.PostLemmas.{post_needs}
use Rattle.chorus_world.proofs.Messages.MessageInvariant.{legal_messages}
use Rattle.chorus_world.proofs.Messages.Told.{tells_the_verdict}

-- What a place has settled has a verdict.

none-or : {A : Type 0} (a b : Option A) → option_or a b ≡ None → (a ≡ None) × (b ≡ None)
none-or None b h = (refl, h)
none-or (Some x) b h = none_some x (sym h)

none-by : (x : MsgId) (a : Act) (answer : Answer) → is_verdict a ≡ true → answer_of a ≡ Some answer → are_same same_id (Some x) (message_of a) ≡ true → verdict_by x a ≡ None → ⊥
none-by x a answer v is same none =
    none_some answer (sym none ∙ (λ i. if v i && same i then is i else None))

settled-by : (l : Layout) (past : List Entry) (c p s : ℕ) (x : MsgId) (a : Act) → is_legal l (entry c p s a ∷ past) ≡ true → settles x a ≡ true → verdict x past ≡ None → verdict_by x a ≡ None → ⊥
settled-by l past c p s x (Told y b) h t none by =
    let two = and_parts (is_final b) (same_id x y) t in
    none_some b (sym none ∙ ap (λ z. verdict z past) (from_same_id x y two.1) ∙ tells_the_verdict l past (entry c p s (Told y b)) h y b refl two.0)
settled-by l past c p s x (Accept y q n) h t none by = none-by x (Accept y q n) (A.Accepted n) refl refl t by
settled-by l past c p s x (Full y q n) h t none by = none-by x (Full y q n) (A.Full n) refl refl t by
settled-by l past c p s x (Already y q) h t none by = none-by x (Already y q) A.Already refl refl t by
settled-by l past c p s x (ClientsFull y q) h t none by = none-by x (ClientsFull y q) A.ClientsFull refl refl t by
settled-by l past c p s x (Early y q hop) h t none by = none-by x (Early y q hop) (A.Early hop) refl refl t by
settled-by l past c p s x (NoPort y q) h t none by = none-by x (NoPort y q) A.NoPort refl refl t by
settled-by l past c p s x (Elsewhere y q to hop) h t none by = none-by x (Elsewhere y q to hop) (A.Elsewhere to hop) refl refl t by
settled-by l past c p s x (NoMember y g) h t none by = none-by x (NoMember y g) A.NoMember refl refl t by
settled-by l past c p s x (Gone y q) h t none by = none-by x (Gone y q) A.Gone refl refl t by
settled-by l past c p s x _ h t none by = absurd (false≢true t)

pub settled-decided : (l : Layout) (past : List Entry) (x : MsgId) (p : ℕ) → is_legal l past ≡ true → is_settled x (at p past) ≡ true → verdict x past ≡ None → ⊥
settled-decided l [] x p h t none = false≢true t
settled-decided l (e ∷ past) x p h t none =
    go (λ k. settled-decided l past x p (legal_parts l e past h).1 k (none-or (verdict x past) (verdict_by x e.act) none).0) (is_at p e) refl
  where
    parts : (verdict x past ≡ None) × (verdict_by x e.act ≡ None)
    parts = none-or (verdict x past) (verdict_by x e.act) none

    go : (is_settled x (at p past) ≡ true → ⊥) → (b : Bool) → is_at p e ≡ b → ⊥
    go older false off = older (sym (ap (is_settled x) (skips (is_at p) e past off)) ∙ t)
    go older true on =
        elim (or_cases (settles x e.act) (is_settled x (at p past)) (sym (ap (is_settled x) (keeps (is_at p) e past on)) ∙ t)) [
          | inl now ↦ settled-by l past e.clock e.place e.seat x e.act h now parts.0 parts.1
          | inr before ↦ older before
        ]

-- A post to a group waits for its choice, or has it.

abbrev pub Busy : Progress → Type 0
Busy (Asked from d) = Unit {0}
Busy (Settled a) = Unit {0}
Busy Reported = Unit {0}
Busy _ = ⊥

module _ (l : Layout) (past : List Entry) (c p s : ℕ) (x : MsgId) (f : MessageFacts x past) (old : Busy (progress (about x past))) where
  not-first : (q : Ui) → is_first x q (at p past) ≡ true → ⊥
  not-first q h = subst Busy (first_is_idle x q p past f (first_here x q p past h)).0 old

  decides : (q : Ui) (a : Answer) (z : Progress) → Busy z → Busy (decided p q a z)
  decides q a (Asked from d) h = tt
  decides q a (Settled b) h = tt
  decides q a Reported h = tt
  decides q a Idle h = absurd h
  decides q a (Tried from r to hop) h = absurd h
  decides q a (Decided from b r o) h = absurd h

  tells : (a : Answer) (z : Progress) → Busy z → Busy (told a z)
  tells a (Asked from d) h = tt
  tells a (Settled b) h = tt
  tells a Reported h = tt
  tells a Idle h = absurd h
  tells a (Tried from r to hop) h = absurd h
  tells a (Decided from b r o) h = absurd h

  stays : (a : Act) → message_of a ≡ Some x → act_may l (views past p s a) p s a ≡ true → Busy (progress_after p a (progress (about x past)))
  stays (Post m d) e h =
      let same : m.id ≡ x = some_is m.id x e in
      let needs = post_needs l past p s m d h in
      let number : x.number ≡ posts (by x.seat past) + 1 = ap (λ (y : MsgId). y.number) (sym same) ∙ needs.number ∙ ap (λ k. posts (by k past) + 1) (sym needs.seat ∙ ap (λ (y : MsgId). y.seat) same) in
      absurd (subst Busy (ap progress (f.fresh (omega (arith, number))).about) old)
  stays (Choose y g qs) e h = tt
  stays (NoMember y g) e h = tt
  stays (Heard y a) e h = tt
  stays (Try y q to hop) e h =
      absurd (not-first q (subst (λ z. is_first z q (at p past) ≡ true) (some_is y x e) (first_try l past p s y q to hop h)))
  stays (Told y a) e h = tells a (progress (about x past)) old
  stays (Accept y q n) e h = decides q (A.Accepted n) (progress (about x past)) old
  stays (Full y q n) e h = decides q (A.Full n) (progress (about x past)) old
  stays (Already y q) e h = decides q A.Already (progress (about x past)) old
  stays (ClientsFull y q) e h = decides q A.ClientsFull (progress (about x past)) old
  stays (Stale y q k to hop) e h = decides q (A.Stale to hop) (progress (about x past)) old
  stays (Early y q hop) e h = decides q (A.Early hop) (progress (about x past)) old
  stays (NoPort y q) e h = decides q A.NoPort (progress (about x past)) old
  stays (Elsewhere y q to hop) e h = decides q (A.Elsewhere to hop) (progress (about x past)) old
  stays (Gone y q) e h = decides q A.Gone (progress (about x past)) old
  stays _ e h = none_some x e

pub stays-busy : (l : Layout) (past : List Entry) (e : Entry) (x : MsgId) → is_legal l (e ∷ past) ≡ true → Busy (progress (about x past)) → Busy (progress (about x (e ∷ past)))
stays-busy l past e x h old =
    elim (cases_Bool (is_about (Some x) e)) [
      | inl t ↦ subst (λ z. Busy (progress z)) (sym (keeps (is_about (Some x)) e past t))
          (stays l past e.clock e.place e.seat x (legal_messages l past two.1 x) old e.act (id_is x (message_of e.act) t) two.0)
      | inr n ↦ subst (λ z. Busy (progress z)) (sym (skips (is_about (Some x)) e past n)) old
    ]
  where
    two : (act_may l (views past e.place e.seat e.act) e.place e.seat e.act ≡ true) × (is_legal l past ≡ true)
    two = legal_parts l e past h
