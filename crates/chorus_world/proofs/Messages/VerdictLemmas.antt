-- A message has at most one verdict.
use Rattle.std.proofs.Common.{ℕ, ◌≡◌, Bool, true, false, ◌&&◌, ◌⊎◌, cond, List, [], ◌∷◌, Option, Some, None, refl, sym, ◌∙◌, ap, subst, inl, inr}
use Rattle.std.specs.Option.{option_or}
use Rattle.std.proofs.lemmas.Bool.{and_parts, false≢true, cases_Bool}
use Rattle.chorus_ui.specs.declared.ui.Ui.{Ui}
use Rattle.chorus_ui.specs.declared.layout.Layout.{Layout}
use Rattle.chorus_entry.specs.declared.entry.Entry.{Entry}
use Rattle.chorus_entry.specs.declared.id.MsgId.{MsgId}
use Rattle.chorus_entry.specs.declared.answer.Answer.{Answer}
use Rattle.chorus_entry.specs.declared.act.Act.{Act}
use Rattle.chorus_entry.specs.declared.act.Act.TheVariants.{Accept, Full, Already, ClientsFull, Stale, Early, NoPort, Elsewhere, NoMember, Gone}
use Rattle.chorus_entry.specs.Act.{message_of, port_of, answer_of, is_verdict, is_decision}
use Rattle.chorus_entry.specs.MsgId.{same_id}
use Rattle.chorus_world.specs.Views.{views, is_about, about}
use Rattle.chorus_entry.specs.Same.{are_same}
use Rattle.chorus_world.specs.Messages.{verdict, verdict_by}
use Rattle.chorus_world.specs.Steps.{act_may}
use Rattle.chorus_world.specs.AcceptedLaws.{HasOneVerdict}
use Rattle.chorus_world.proofs.Steps.LegalLemmas.{legal_parts, skips, keeps}
use Rattle.chorus_world.proofs.Ports.LineLemmas.{none_some, id_is}
use Rattle.chorus_world.proofs.Messages.SendingLemmas.{and_false, or_none, some_is}
use Rattle.chorus_world.proofs.Messages.StageLemmas.{IsOpen, MessageFacts}
use Rattle.chorus_world.proofs.Messages.DueLemmas.{IsDue, due_accept, due_full, due_already, due_clients_full, due_stale, due_early, due_no_port, due_elsewhere, due_gone}
use Rattle.chorus_world.proofs.Messages.PostLemmas.{no_member_needs, asked_facts}
use Rattle.chorus_world.proofs.Messages.MessageInvariant.{legal_messages}
use Rattle.chorus_world.proofs.Messages.AcceptedLemmas.{due_waits}

due_named : (y x : MsgId) (r q : Ui) (p : ℕ) (past : List Entry) → Some y ≡ Some x → Some r ≡ Some q → IsDue y r p past → IsDue x q p past
due_named y x r q p past m n d =
    let port : r ≡ q = cc in subst (λ z. IsDue x z p past) port (subst (λ z. IsDue z r p past) (some_is y x m) d)

-- a place decides on a message only where it is due
pub decision_due : (l : Layout) (past : List Entry) (p s : ℕ) (a : Act) (x : MsgId) (q : Ui) → is_decision a ≡ true → message_of a ≡ Some x → port_of a ≡ Some q → act_may l (views past p s a) p s a ≡ true → IsDue x q p past
decision_due l past p s (Accept y r n) x q d m o h = due_named y x r q p past m o (due_accept l past p s y r n h)
decision_due l past p s (Full y r n) x q d m o h = due_named y x r q p past m o (due_full l past p s y r n h)
decision_due l past p s (Already y r) x q d m o h = due_named y x r q p past m o (due_already l past p s y r h)
decision_due l past p s (ClientsFull y r) x q d m o h = due_named y x r q p past m o (due_clients_full l past p s y r h)
decision_due l past p s (Stale y r t to hop) x q d m o h = due_named y x r q p past m o (due_stale l past p s y r t to hop h)
decision_due l past p s (Early y r hop) x q d m o h = due_named y x r q p past m o (due_early l past p s y r hop h)
decision_due l past p s (NoPort y r) x q d m o h = due_named y x r q p past m o (due_no_port l past p s y r h)
decision_due l past p s (Elsewhere y r to hop) x q d m o h = due_named y x r q p past m o (due_elsewhere l past p s y r to hop h)
decision_due l past p s (Gone y r) x q d m o h = due_named y x r q p past m o (due_gone l past p s y r h)
decision_due l past p s _ x q d m o h = absurd (false≢true d)

-- a verdict is a decision on a port, or that a group has no member
verdict_port : (a : Act) → is_verdict a ≡ true → ((q : Ui) × (port_of a ≡ Some q) × (is_decision a ≡ true)) ⊎ ((y : MsgId) × (g : Ui) × (a ≡ NoMember y g))
verdict_port (NoMember y g) v = inr (y, g, refl)
verdict_port (Accept y q n) v = inl (q, refl, refl)
verdict_port (Full y q n) v = inl (q, refl, refl)
verdict_port (Already y q) v = inl (q, refl, refl)
verdict_port (ClientsFull y q) v = inl (q, refl, refl)
verdict_port (Early y q hop) v = inl (q, refl, refl)
verdict_port (NoPort y q) v = inl (q, refl, refl)
verdict_port (Elsewhere y q to hop) v = inl (q, refl, refl)
verdict_port (Gone y q) v = inl (q, refl, refl)
verdict_port _ v = absurd (false≢true v)

-- a message that gets a verdict had none
pub verdict_open : (l : Layout) (past : List Entry) (p s : ℕ) (a : Act) (x : MsgId) → MessageFacts x past → act_may l (views past p s a) p s a ≡ true → message_of a ≡ Some x → is_verdict a ≡ true → IsOpen x past
verdict_open l past p s a x f h m v =
    elim (verdict_port a v) [
      | inl o ↦ (due_waits x o.0 p past f (decision_due l past p s a x o.0 o.2 m o.1 h)).undecided
      | inr n ↦ (
          let y = n.0 in
          let g = n.1 in
          let same : y ≡ x = some_is y x (ap message_of (sym n.2) ∙ m) in
          let may : act_may l (views past p s (NoMember x g)) p s (NoMember x g) ≡ true = subst (λ z. act_may l (views past p s z) p s z ≡ true) (n.2 ∙ ap (λ z. NoMember z g) same) h in
          let needs = no_member_needs l past p s x g may in
          (asked_facts x past needs.from needs.dest f needs.asked).0)
    ]

pub verdict_other : (x : MsgId) (a : Act) → are_same same_id (Some x) (message_of a) ≡ false → verdict_by x a ≡ None
verdict_other x a h =
    ap (λ b. cond b (answer_of a) None) (ap (λ b. is_verdict a && b) h ∙ and_false (is_verdict a))

-- only the entries about a message have its verdict
pub verdict_about : (x : MsgId) (past : List Entry) → verdict x past ≡ verdict x (about x past)
verdict_about x [] = refl
verdict_about x (e ∷ past) =
    elim (cases_Bool (is_about (Some x) e)) [
      | inl t ↦ ap (λ o. option_or o (verdict_by x e.act)) (verdict_about x past) ∙ ap (verdict x) (sym (keeps (is_about (Some x)) e past t))
      | inr n ↦ or_none (verdict x past) (verdict_by x e.act) (verdict_other x e.act n) ∙ (verdict_about x past ∙ ap (verdict x) (sym (skips (is_about (Some x)) e past n)))
    ]

by_parts : (b : Bool) (o : Option Answer) (a : Answer) → cond b o None ≡ Some a → b ≡ true
by_parts true o a h = refl
by_parts false o a h = none_some a h

pub has_one_verdict : HasOneVerdict
has_one_verdict l past e x a h v =
    let two = legal_parts l e past h in
    let same = are_same same_id (Some x) (message_of e.act) in
    let parts = and_parts (is_verdict e.act) same (by_parts (is_verdict e.act && same) (answer_of e.act) a v) in
    verdict_about x past ∙ (verdict_open l past e.place e.seat e.act x (legal_messages l past two.1 x) two.0 (id_is x (message_of e.act) parts.1) parts.0).verdict
