-- In a legal past, what is under way from a place is tried or decided, or settled: an idle message is not under way.
use Rattle.std.proofs.Common.{ℕ, ◌≡◌, ◌+◌, Bool, true, false, ◌==◌, ◌&&◌, not, cond, List, [], ◌∷◌, Some, refl, sym, ◌∙◌, ap, subst, inl, inr, arith}
use Rattle.std.proofs.lemmas.Bool.{eqb-true, eq-eqb, false≢true, and_parts, and_from}
use Rattle.chorus_ui.specs.declared.ui.Ui.{Ui}
use Rattle.chorus_ui.specs.declared.layout.Layout.{Layout}
use Rattle.chorus_ui.specs.Name.{same_ui}
use Rattle.chorus_ui.proofs.Names.{same_ui-self}
use Rattle.chorus_entry.specs.declared.entry.Entry.{Entry}
use Rattle.chorus_entry.specs.declared.id.MsgId.{MsgId}
use Rattle.chorus_entry.specs.declared.answer.Answer.{Answer}
use Rattle.chorus_entry.specs.declared.answer.Answer.TheVariants as A
use Rattle.chorus_entry.specs.declared.act.Act.{Act}
use Rattle.chorus_entry.specs.declared.act.Act.TheVariants.{Post, Accept, Full, Already, ClientsFull, Stale, Early, NoPort, Elsewhere, NoMember, Choose, Try, Told, Heard, Gone}
use Rattle.chorus_entry.specs.Act.{message_of}
use Rattle.chorus_entry.specs.MsgId.{same_id}
use Rattle.chorus_entry.proofs.Same.{same_id-self}
use Rattle.chorus_world.specs.declared.progress.Progress.{Progress}
use Rattle.chorus_world.specs.declared.progress.Progress.TheVariants.{Idle, Asked, Tried, Decided, Settled, Reported}
use Rattle.chorus_world.specs.Views.{views, at, by, about, is_about}
use Rattle.chorus_entry.specs.Order.{is_at}
use Rattle.chorus_world.specs.Messages.{progress, progress_after, decided, told}
use Rattle.chorus_world.specs.Places.{is_first, is_tried, tried_after, located}
use Rattle.chorus_world.specs.Posts.{site_asked, is_on_site}
use Rattle.chorus_world.specs.Seats.{posts}
use Rattle.chorus_world.specs.Steps.{act_may, is_legal, is_to_go, is_beyond}
use Rattle.chorus_world.proofs.Steps.LegalLemmas.{entry, legal_parts, keeps, skips}
use Rattle.chorus_world.proofs.Ports.LineLemmas.{none_some, id_is}
use Rattle.chorus_world.proofs.Messages.SendingLemmas.{some_is, first_here, tried_same, tried_other}
use Rattle.chorus_world.proofs.Messages.StageLemmas.{MessageFacts, first_is_idle}
use Rattle.chorus_world.proofs.Messages.PostLemmas.{post_needs}
use Rattle.chorus_world.proofs.Messages.DueLemmas.{IsDue}
use Rattle.chorus_world.proofs.Messages.VerdictLemmas.{decision_due}
use Rattle.chorus_world.proofs.Messages.MessageInvariant.{told_needs, legal_messages}

-- the message went from the place p, as far as it is open
abbrev pub GoesFrom : ℕ → Progress → Type 0
GoesFrom p Idle = ⊥
GoesFrom p (Asked from d) = ⊥
GoesFrom p (Tried from q to hop) = from ≡ p
GoesFrom p (Decided from b q a) = from ≡ p
GoesFrom p (Settled a) = Unit {0}
GoesFrom p Reported = Unit {0}

module _ (l : Layout) (past : List Entry) (c r s : ℕ) (x : MsgId) (p : ℕ) (f : MessageFacts x past) (old : is_tried x (at p past) ≡ true → GoesFrom p (progress (about x past))) where
  -- an act that neither tries nor tells it
  before : (a : Act) → ((b : Bool) → tried_after x a b ≡ b) → is_tried x (at p (entry c r s a ∷ past)) ≡ true → GoesFrom p (progress (about x past))
  before a same t = old (sym (tried_same x p past (entry c r s a) same) ∙ t)

  not-first : (q : Ui) (k : ℕ) → is_first x q (at k past) ≡ true → GoesFrom p (progress (about x past)) → ⊥
  not-first q k first g = subst (GoesFrom p) (first_is_idle x q k past f (first_here x q k past first)).0 g

  decides : (a : Act) (q : Ui) (answer : Answer) → ((z : Progress) → progress_after r a z ≡ decided r q answer z) → ((b : Bool) → tried_after x a b ≡ b) → IsDue x q r past → is_tried x (at p (entry c r s a ∷ past)) ≡ true → GoesFrom p (progress_after r a (progress (about x past)))
  decides a q answer gives same (inl t) h =
      let now : progress_after r a (progress (about x past)) ≡ Decided t.from r q answer =
      gives (progress (about x past)) ∙ ap (decided r q answer) t.is
      ∙ ap (λ b. cond b (Decided t.from r q answer) Idle) (and_from (r == r) (same_ui q q) (eq-eqb r r refl) (same_ui-self q)) in
      let from : t.from ≡ p = subst (GoesFrom p) t.is (before a same h) in
      subst (GoesFrom p) (sym now) from
  decides a q answer gives same (inr first) h = absurd (not-first q r first (before a same h))

  step : (a : Act) → message_of a ≡ Some x → act_may l (views past r s a) r s a ≡ true → is_tried x (at p (entry c r s a ∷ past)) ≡ true → GoesFrom p (progress_after r a (progress (about x past)))
  step (Post m d) e h t =
      let same : m.id ≡ x = some_is m.id x e in
      let needs = post_needs l past r s m d h in
      let number : x.number ≡ posts (by x.seat past) + 1 = ap (λ (y : MsgId). y.number) (sym same) ∙ needs.number ∙ ap (λ k. posts (by k past) + 1) (sym needs.seat ∙ ap (λ (y : MsgId). y.seat) same) in
      let new = f.fresh (omega (arith, number)) in
      absurd (subst (GoesFrom p) (ap progress new.about) (before (Post m d) (λ b. refl) t))
  step (Choose y g qs) e h t = tt
  step (NoMember y g) e h t = tt
  step (Heard y a) e h t = tt
  step (Try y q to hop) e h t = go (r == p) refl
    where
      first : is_first x q (at r past) ≡ true
      first =
          let three = and_parts (is_to_go l (views past r s (Try y q to hop)) y q to && ((located l q (at r past)).hop == hop) && not (to == r)) (is_on_site l (site_asked y past) to) h in
          let two = and_parts (is_to_go l (views past r s (Try y q to hop)) y q to && ((located l q (at r past)).hop == hop)) (not (to == r)) three.0 in
          let one = and_parts (is_to_go l (views past r s (Try y q to hop)) y q to) ((located l q (at r past)).hop == hop) two.0 in
          let near = and_parts (is_first y q (at r past) && not (is_beyond l q)) ((located l q (at r past)).to == to) one.0 in
          subst (λ z. is_first z q (at r past) ≡ true) (some_is y x e) (and_parts (is_first y q (at r past)) (not (is_beyond l q)) near.0).0

      go : (b : Bool) → (r == p) ≡ b → r ≡ p
      go true here = eqb-true r p here
      go false other =
          absurd (not-first q r first (old (sym (ap (is_tried x) (skips (is_at p) (entry c r s (Try y q to hop)) past other)) ∙ t)))
  step (Told y a) e h t = go (r == p) refl
    where
      same : y ≡ x
      same = some_is y x e

      go : (b : Bool) → (r == p) ≡ b → GoesFrom p (told a (progress (about x past)))
      go true here =
          let on = ap (is_tried x) (keeps (is_at p) (entry c r s (Told y a)) past here) in
          let off : not (same_id y x) && is_tried x (at p past) ≡ false = ap (λ b. not b && is_tried x (at p past)) (ap (same_id y) (sym same) ∙ same_id-self y) in
          absurd (false≢true (sym off ∙ sym on ∙ t))
      go false other =
          let needs = told_needs l past r s x a (subst (λ z. act_may l (views past r s (Told z a)) r s (Told z a) ≡ true) same h) in
          let was : is_tried x (at p past) ≡ true = sym (ap (is_tried x) (skips (is_at p) (entry c r s (Told y a)) past other)) ∙ t in
          let here : r ≡ p = subst (GoesFrom p) needs.is (old was) in
          absurd (false≢true (sym other ∙ eq-eqb r p here))
  step (Accept y q n) e h t = decides (Accept y q n) q (A.Accepted n) (λ z. refl) (λ b. refl) (decision_due l past r s (Accept y q n) x q refl e refl h) t
  step (Full y q n) e h t = decides (Full y q n) q (A.Full n) (λ z. refl) (λ b. refl) (decision_due l past r s (Full y q n) x q refl e refl h) t
  step (Already y q) e h t = decides (Already y q) q A.Already (λ z. refl) (λ b. refl) (decision_due l past r s (Already y q) x q refl e refl h) t
  step (ClientsFull y q) e h t = decides (ClientsFull y q) q A.ClientsFull (λ z. refl) (λ b. refl) (decision_due l past r s (ClientsFull y q) x q refl e refl h) t
  step (Stale y q k to hop) e h t = decides (Stale y q k to hop) q (A.Stale to hop) (λ z. refl) (λ b. refl) (decision_due l past r s (Stale y q k to hop) x q refl e refl h) t
  step (Early y q hop) e h t = decides (Early y q hop) q (A.Early hop) (λ z. refl) (λ b. refl) (decision_due l past r s (Early y q hop) x q refl e refl h) t
  step (NoPort y q) e h t = decides (NoPort y q) q A.NoPort (λ z. refl) (λ b. refl) (decision_due l past r s (NoPort y q) x q refl e refl h) t
  step (Elsewhere y q to hop) e h t = decides (Elsewhere y q to hop) q (A.Elsewhere to hop) (λ z. refl) (λ b. refl) (decision_due l past r s (Elsewhere y q to hop) x q refl e refl h) t
  step (Gone y q) e h t = decides (Gone y q) q A.Gone (λ z. refl) (λ b. refl) (decision_due l past r s (Gone y q) x q refl e refl h) t
  step _ e h t = none_some x e

pub goes-from : (l : Layout) (past : List Entry) (x : MsgId) (p : ℕ) → is_legal l past ≡ true → is_tried x (at p past) ≡ true → GoesFrom p (progress (about x past))
goes-from l [] x p h t = absurd (false≢true t)
goes-from l (e ∷ past) x p h t = go (is_about (Some x) e) refl (goes-from l past x p)
  where
    two : (act_may l (views past e.place e.seat e.act) e.place e.seat e.act ≡ true) × (is_legal l past ≡ true)
    two = legal_parts l e past h

    go : (b : Bool) → is_about (Some x) e ≡ b → (is_legal l past ≡ true → is_tried x (at p past) ≡ true → GoesFrom p (progress (about x past))) → GoesFrom p (progress (about x (e ∷ past)))
    go true on old =
        subst (GoesFrom p) (sym (ap progress (keeps (is_about (Some x)) e past on)))
        (step l past e.clock e.place e.seat x p (legal_messages l past two.1 x) (old two.1) e.act (id_is x (message_of e.act) on) two.0 t)
    go false off old =
        subst (GoesFrom p) (sym (ap progress (skips (is_about (Some x)) e past off)))
        (old two.1 (sym (tried_same x p past e (tried_other x e.act off)) ∙ t))
