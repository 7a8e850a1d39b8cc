-- A fact of legal lists: a message that was heard of is reported, and nothing more becomes of it.
use Rattle.std.proofs.Common.{◌≡◌, ◌<◌, Bool, true, false, cond, List, [], ◌∷◌, Some, refl, sym, ◌∙◌, ap, subst, inl, inr, arith}
use Rattle.std.proofs.lemmas.Bool.{and_parts, false≢true}
use Rattle.chorus_ui.specs.declared.ui.Ui.{Ui}
use Rattle.chorus_ui.specs.declared.layout.Layout.{Layout}
use Rattle.chorus_entry.specs.declared.entry.Entry.{Entry}
use Rattle.chorus_entry.specs.declared.id.MsgId.{MsgId}
use Rattle.chorus_entry.specs.declared.act.Act.{Act}
use Rattle.chorus_entry.specs.declared.act.Act.TheVariants.{Post, Accept, Full, Already, ClientsFull, Stale, Early, NoPort, Elsewhere, NoMember, Choose, Try, Told, Heard, Gone}
use Rattle.chorus_entry.specs.Act.{message_of, port_of, is_decision}
use Rattle.chorus_world.specs.declared.progress.Progress.TheVariants.{Idle, Asked, Tried, Decided, Reported}
use Rattle.chorus_world.specs.Views.{views, at, by, about, is_about}
use Rattle.chorus_world.specs.Messages.{progress, is_to_be_heard}
use Rattle.chorus_world.specs.Places.{is_first}
use Rattle.chorus_world.specs.Seats.{posts}
use Rattle.chorus_world.specs.Steps.{act_may, is_legal, is_asked_from}
use Rattle.chorus_world.specs.Posts.{post_of}
use Rattle.chorus_world.proofs.Steps.LegalLemmas.{legal_parts}
use Rattle.chorus_world.proofs.Ports.LineLemmas.{none_some, id_is}
use Rattle.chorus_world.proofs.Messages.SendingLemmas.{some_is, first_here}
use Rattle.chorus_world.proofs.Messages.StageLemmas.{MessageFacts, first_is_idle}
use Rattle.chorus_world.proofs.Messages.PostLemmas.{post_needs, choose_needs, no_member_needs}
use Rattle.chorus_world.proofs.Messages.DueLemmas.{IsDue, first_try}
use Rattle.chorus_world.proofs.Messages.VerdictLemmas.{decision_due}
use Rattle.chorus_world.proofs.Messages.MessageInvariant.{told_needs, legal_messages}

-- nothing more is said of a message that is reported
module _ (l : Layout) (past : List Entry) (e : Entry) (x : MsgId) (legal : is_legal l past ≡ true) (is : progress (about x past) ≡ Reported) where
  facts : MessageFacts x past
  facts = legal_messages l past legal x

  first-not : (q : Ui) → is_first x q (at e.place past) ≡ true → ⊥
  first-not q first = (let bad : Idle ≡ Reported = sym (first_is_idle x q e.place past facts (first_here x q e.place past first)).0 ∙ is in cc)

  not-due : (a : Act) (q : Ui) → is_decision a ≡ true → message_of a ≡ Some x → port_of a ≡ Some q → act_may l (views past e.place e.seat a) e.place e.seat a ≡ true → ⊥
  not-due a q d m o h = go (decision_due l past e.place e.seat a x q d m o h)
    where
      go : IsDue x q e.place past → ⊥
      go (inl t) = (let bad : Tried t.from q e.place t.hop ≡ Reported = sym t.is ∙ is in cc)
      go (inr first) = first-not q first

  pub no-more : (a : Act) → message_of a ≡ Some x → act_may l (views past e.place e.seat a) e.place e.seat a ≡ true → ⊥
  no-more (Post m d) this h =
      let n = post_needs l past e.place e.seat m d h in
      let number = n.number in
      let same : m.id ≡ x = some_is m.id x this in
      let fresh : posts (by m.id.seat past) < m.id.number = subst (λ s. posts (by s past) < m.id.number) (sym n.seat) (omega (arith, number)) in
      let none : about x past ≡ [] = (facts.fresh (subst (λ (z : MsgId). posts (by z.seat past) < z.number) same fresh)).about in
      let bad : Idle ≡ Reported = sym (ap progress none) ∙ is in
      cc
  no-more (Choose y g qs) this h =
      let n = choose_needs l past e.place e.seat y g qs h in
      let bad : Asked n.from n.dest ≡ Reported = sym n.asked ∙ ap (λ z. progress (about z past)) (some_is y x this) ∙ is in
      cc
  no-more (NoMember y g) this h =
      let n = no_member_needs l past e.place e.seat y g h in
      let bad : Asked n.from n.dest ≡ Reported = sym n.asked ∙ ap (λ z. progress (about z past)) (some_is y x this) ∙ is in
      cc
  no-more (Heard y a) this h =
      let two = and_parts (is_asked_from l e.place (post_of y past)) (is_to_be_heard a (progress (about y past))) h in
      let bad : is_to_be_heard a Reported ≡ true = ap (is_to_be_heard a) (sym (ap (λ z. progress (about z past)) (some_is y x this) ∙ is)) ∙ two.1 in
      false≢true bad
  no-more (Try y q to hop) this h =
      first-not q (subst (λ z. is_first z q (at e.place past) ≡ true) (some_is y x this) (first_try l past e.place e.seat y q to hop h))
  no-more (Told y a) this h =
      let n = told_needs l past e.place e.seat y a h in
      let bad : Decided e.place n.by n.port a ≡ Reported = sym n.is ∙ ap (λ z. progress (about z past)) (some_is y x this) ∙ is in
      cc
  no-more (Accept y q n) this h = not-due (Accept y q n) q refl this refl h
  no-more (Full y q n) this h = not-due (Full y q n) q refl this refl h
  no-more (Already y q) this h = not-due (Already y q) q refl this refl h
  no-more (ClientsFull y q) this h = not-due (ClientsFull y q) q refl this refl h
  no-more (Stale y q t to hop) this h = not-due (Stale y q t to hop) q refl this refl h
  no-more (Early y q hop) this h = not-due (Early y q hop) q refl this refl h
  no-more (NoPort y q) this h = not-due (NoPort y q) q refl this refl h
  no-more (Elsewhere y q to hop) this h = not-due (Elsewhere y q to hop) q refl this refl h
  no-more (Gone y q) this h = not-due (Gone y q) q refl this refl h
  no-more a this h = none_some x this

-- so it stays reported
pub stays-reported : (l : Layout) (past : List Entry) (e : Entry) (x : MsgId) → is_legal l (e ∷ past) ≡ true → progress (about x past) ≡ Reported → progress (about x (e ∷ past)) ≡ Reported
stays-reported l past e x legal is = go (is_about (Some x) e) refl
  where
    two : (act_may l (views past e.place e.seat e.act) e.place e.seat e.act ≡ true) × (is_legal l past ≡ true)
    two = legal_parts l e past legal

    go : (b : Bool) → is_about (Some x) e ≡ b → progress (cond b (e ∷ about x past) (about x past)) ≡ Reported
    go true t = absurd (no-more l past e x two.1 is e.act (id_is x (message_of e.act) t) two.0)
    go false t = is
