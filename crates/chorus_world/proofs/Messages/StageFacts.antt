-- Facts of legal lists: what is so of a message that is under way.
use Rattle.std.proofs.Common.{ℕ, ◌≡◌, ◌==◌, inl, inr, Bool, true, false, ◌&&◌, not, cond, List, [], ◌∷◌, Some, None, refl, sym, ◌∙◌, ap, subst}
use Rattle.std.proofs.lemmas.Bool.{and_parts, eqb-true, false≢true}
use Rattle.chorus_ui.specs.declared.ui.Ui.{Ui}
use Rattle.chorus_ui.specs.Name.{same_ui}
use Rattle.chorus_ui.specs.declared.layout.Layout.{Layout}
use Rattle.chorus_ui.specs.Layout.{IsLayout}
use Rattle.chorus_entry.specs.declared.entry.Entry.{Entry}
use Rattle.chorus_entry.specs.declared.id.MsgId.{MsgId}
use Rattle.chorus_entry.specs.declared.dest.Dest.{Dest}
use Rattle.chorus_entry.specs.declared.dest.Dest.TheVariants.{Port, All, One, OneAt}
use Rattle.chorus_entry.specs.declared.answer.Answer.{Answer}
use Rattle.chorus_entry.specs.declared.answer.Answer.TheVariants as A
use Rattle.chorus_entry.specs.declared.act.Act.{Act}
use Rattle.chorus_entry.specs.declared.act.Act.TheVariants.{Post, Accept, Full, Already, ClientsFull, Stale, Early, NoPort, Elsewhere, NoMember, Choose, Try, Told, Heard, Gone}
use Rattle.chorus_entry.specs.Act.{message_of, port_of, is_decision}
use Rattle.chorus_entry.specs.Answer.{is_final}
use Rattle.chorus_ui.specs.NameKind.{is_port}
use Rattle.chorus_entry.specs.Kinds.{has_kinds}
use Rattle.chorus_world.specs.declared.progress.Progress.{Progress}
use Rattle.chorus_world.specs.declared.progress.Progress.TheVariants.{Idle, Asked, Tried, Decided, Settled, Reported}
use Rattle.chorus_world.specs.Views.{views, at, about, is_about}
use Rattle.chorus_entry.specs.Order.{is_at}
use Rattle.chorus_world.specs.Places.{is_settled, located}
use Rattle.chorus_world.specs.Posts.{site_asked, is_on_site}
use Rattle.chorus_world.specs.Messages.{progress, progress_after, decided, told, posted}
use Rattle.chorus_world.specs.Steps.{act_may, is_legal, is_to_go}
use Rattle.chorus_world.proofs.Steps.LegalLemmas.{legal_parts, skips}
use Rattle.chorus_world.proofs.Ports.LineLemmas.{id_is}
use Rattle.chorus_world.proofs.Messages.Posted.{IsPosted, busy_posted, first_posted, is_idle}
use Rattle.chorus_world.proofs.Sorted.Agreement.{site_agrees}
use Rattle.chorus_world.proofs.Messages.MessageInvariant.{legal_messages}
use Rattle.chorus_world.proofs.Messages.MessageSteps.{to_go_parts}
use Rattle.chorus_world.proofs.Sorted.Observers.{legal_laws}
use Rattle.chorus_world.proofs.Messages.SendingLemmas.{settled_same, settles_other, first_here}
use Rattle.chorus_world.proofs.Messages.StageLemmas.{Stage, first_is_idle}
use Rattle.chorus_world.proofs.Messages.VerdictLemmas.{decision_due}
use Rattle.chorus_world.proofs.Messages.Growing.{goes-on}
use Rattle.chorus_world.proofs.Messages.SentFacts.{legal-kinds}

-- A fact of legal lists: what is so of a message that is under way.
abbrev pub StageFacts : Layout → List Entry → MsgId → Progress → Type 0
StageFacts l past x (Tried from q to h) = (is_port q ≡ true) × ((is_on_site l (site_asked x past) to ≡ true) × ((to == from) ≡ false))
StageFacts l past x (Decided from by q a) = (is_port q ≡ true) × (is_settled x (at from past) ≡ false)
StageFacts l past x _ = Unit {0}

abbrev pub KeepsStages : Type 0
KeepsStages = (l : Layout) (past : List Entry) (x : MsgId) → IsLayout l → is_legal l past ≡ true → StageFacts l past x (progress (about x past))

idle-facts : (l : Layout) (past : List Entry) (x : MsgId) (a : Answer) (b : Bool) → StageFacts l past x (cond b (Settled a) Idle)
idle-facts l past x a true = tt
idle-facts l past x a false = tt

-- with an entry about another message
other-facts : (l : Layout) (past : List Entry) (e : Entry) (x : MsgId) (s : Progress) → is_about (Some x) e ≡ false → (is_idle s ≡ false → IsPosted past x) → StageFacts l past x s → StageFacts l (e ∷ past) x s
other-facts l past e x (Tried from q to h) n p f = (f.0, (ap (λ o. is_on_site l o to) (site_agrees (e ∷ past) past x (goes-on e past) (p refl)) ∙ f.1.0, f.1.1))
other-facts l past e x (Decided from by q a) n p f = (f.0, settled_same x from past e (settles_other x e.act n) ∙ f.1)
other-facts l past e x Idle n p f = tt
other-facts l past e x (Asked from d) n p f = tt
other-facts l past e x (Settled a) n p f = tt
other-facts l past e x Reported n p f = tt

-- Told
told-facts : (l : Layout) (past : List Entry) (e : Entry) (x : MsgId) (a : Answer) (s : Progress) → (is_idle s ≡ false → IsPosted past x) → StageFacts l past x s → StageFacts l (e ∷ past) x (told a s)
told-facts l past e x a (Tried from q to h) p f = (f.0, (ap (λ o. is_on_site l o to) (site_agrees (e ∷ past) past x (goes-on e past) (p refl)) ∙ f.1.0, f.1.1))
told-facts l past e x a (Decided from by q b) p f = idle-facts l (e ∷ past) x a (is_final a)
told-facts l past e x a Idle p f = tt
told-facts l past e x a (Asked from d) p f = tt
told-facts l past e x a (Settled b) p f = tt
told-facts l past e x a Reported p f = tt

posted-facts : (l : Layout) (past : List Entry) (x : MsgId) (p : ℕ) (d : Dest) → StageFacts l past x (posted p d)
posted-facts l past x p (Port q) = tt
posted-facts l past x p (All g) = tt
posted-facts l past x p (One g) = tt
posted-facts l past x p (OneAt g s) = tt

-- a decision
decided-facts : (l : Layout) (past : List Entry) (e : Entry) (x : MsgId) (q : Ui) (a : Answer) (s : Progress) → Stage x past s → ((from by : ℕ) (r : Ui) (b : Answer) → s ≡ Decided from by r b → ⊥) → StageFacts l past x s
    → StageFacts l (e ∷ past) x (decided e.place q a s)
decided-facts l past e x q a (Tried from r to h) st un f = go ((to == e.place) && same_ui r q) refl
  where
    go : (b : Bool) → ((to == e.place) && same_ui r q) ≡ b → StageFacts l (e ∷ past) x (cond b (Decided from e.place r a) Idle)
    go true t =
        let here : to ≡ e.place = eqb-true to e.place (and_parts (to == e.place) (same_ui r q) t).0 in
        let away : is_at from e ≡ false = ap (λ z. z == from) (sym here) ∙ f.1.1 in
        (f.0, ap (is_settled x) (skips (is_at from) e past away) ∙ st.2)
    go false t = tt
decided-facts l past e x q a (Decided from by r b) st un f = absurd (un from by r b refl)
decided-facts l past e x q a Idle st un f = idle-facts l (e ∷ past) x a (is_final a)
decided-facts l past e x q a (Asked from d) st un f = tt
decided-facts l past e x q a (Settled b) st un f = tt
decided-facts l past e x q a Reported st un f = tt

-- what is due is not decided yet
undecided : (l : Layout) (past : List Entry) (p s : ℕ) (a : Act) (x : MsgId) (q : Ui) → is_legal l past ≡ true → is_decision a ≡ true → message_of a ≡ Some x → port_of a ≡ Some q → act_may l (views past p s a) p s a ≡ true
    → (from by : ℕ) (r : Ui) (b : Answer) → progress (about x past) ≡ Decided from by r b → ⊥
undecided l past p s a x q h d m o may from by r b e =
    elim (decision_due l past p s a x q d m o may) [
      | inl t ↦ (let bad : Tried t.from q p t.hop ≡ Decided from by r b = sym t.is ∙ e in cc)
      | inr k ↦ (let bad : Idle ≡ Decided from by r b = sym (first_is_idle x q p past (legal_messages l past h x) (first_here x q p past k)).0 ∙ e in cc)
    ]

this-facts : (l : Layout) (past : List Entry) (e : Entry) (x : MsgId) → IsLayout l → is_legal l (e ∷ past) ≡ true → is_about (Some x) e ≡ true → StageFacts l past x (progress (about x past))
    → StageFacts l (e ∷ past) x (progress_after e.place e.act (progress (about x past)))
this-facts l past e x shape h about-x f = go e.act refl
  where
    s : Progress
    s = progress (about x past)

    legal : is_legal l past ≡ true
    legal = (legal_parts l e past h).1

    posted-before : is_idle s ≡ false → IsPosted past x
    posted-before = busy_posted past x (legal_laws l past shape legal).posted

    m : message_of e.act ≡ Some x
    m = id_is x (message_of e.act) about-x

    decision : (a : Act) (q : Ui) (ans : Answer) → e.act ≡ a → is_decision a ≡ true → port_of a ≡ Some q → StageFacts l (e ∷ past) x (decided e.place q ans s)
    decision a q ans is d o =
        decided-facts l past e x q ans s (legal_messages l past legal x).stage
        (undecided l past e.place e.seat a x q legal d (ap message_of (sym is) ∙ m) o (subst (λ z. act_may l (views past e.place e.seat z) e.place e.seat z ≡ true) is (legal_parts l e past h).0)) f

    go : (a : Act) → e.act ≡ a → StageFacts l (e ∷ past) x (progress_after e.place a s)
    go (Post n d) is = posted-facts l (e ∷ past) x e.place d
    go (Choose y g qs) is = tt
    go (NoMember y g) is = tt
    go (Heard y a) is = tt
    go (Told y a) is = told-facts l past e x a s posted-before f
    go (Try y q to hop) is =
        let may = subst (λ z. act_may l (views past e.place e.seat z) e.place e.seat z ≡ true) is (legal_parts l e past h).0 in
        let three = and_parts _ (is_on_site l (site_asked y past) to) may in
        let two = and_parts _ (not (to == e.place)) three.0 in
        let one = and_parts (is_to_go l (views past e.place e.seat (Try y q to hop)) y q to) ((located l q (at e.place past)).hop == hop) two.0 in
        let first = (to_go_parts l past e.place e.seat (Try y q to hop) y q to one.0).0 in
        let known = first_posted past e.place y q (legal_laws l past shape legal).posted first in
        let same : y ≡ x = (let both : Some y ≡ Some x = ap message_of (sym is) ∙ m in cc) in
        let kinds : has_kinds (Try y q to hop) ≡ true = ap has_kinds (sym is) ∙ (legal-kinds l e past h).0 in
        let away : (to == e.place) ≡ false = not-true (to == e.place) two.1 in
        subst (λ z. StageFacts l (e ∷ past) z (Tried e.place q to hop)) same
        (kinds, (ap (λ o. is_on_site l o to) (site_agrees (e ∷ past) past y (goes-on e past) known) ∙ three.1, away))
      where
        not-true : (b : Bool) → not b ≡ true → b ≡ false
        not-true true k = absurd (false≢true k)
        not-true false k = refl
    go (Accept y q n) is = decision (Accept y q n) q (A.Accepted n) is refl refl
    go (Full y q n) is = decision (Full y q n) q (A.Full n) is refl refl
    go (Already y q) is = decision (Already y q) q A.Already is refl refl
    go (ClientsFull y q) is = decision (ClientsFull y q) q A.ClientsFull is refl refl
    go (Stale y q tr to hop) is = decision (Stale y q tr to hop) q (A.Stale to hop) is refl refl
    go (Early y q hop) is = decision (Early y q hop) q (A.Early hop) is refl refl
    go (NoPort y q) is = decision (NoPort y q) q A.NoPort is refl refl
    go (Elsewhere y q to hop) is = decision (Elsewhere y q to hop) q (A.Elsewhere to hop) is refl refl
    go (Gone y q) is = decision (Gone y q) q A.Gone is refl refl
    go a is = absurd (let none : None ≡ Some x = ap message_of (sym is) ∙ m in cc)

pub keeps-stages : KeepsStages
keeps-stages l [] x shape h = tt
keeps-stages l (e ∷ past) x shape h = go (is_about (Some x) e) refl (keeps-stages l past x shape (legal_parts l e past h).1)
  where
    go : (b : Bool) → is_about (Some x) e ≡ b → StageFacts l past x (progress (about x past)) → StageFacts l (e ∷ past) x (progress (cond b (e ∷ about x past) (about x past)))
    go true t ih = this-facts l past e x shape h t ih
    go false t ih = other-facts l past e x (progress (about x past)) t (busy_posted past x (legal_laws l past shape (legal_parts l e past h).1).posted) ih
