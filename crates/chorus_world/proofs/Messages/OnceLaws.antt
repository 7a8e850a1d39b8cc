-- Each accepted message stands at one position of one port, and has one fate.
use Rattle.std.proofs.Common.{ℕ, ◌≡◌, ◌<◌, true, List, [], ◌∷◌, length, Option, Some, None, refl, sym, ◌∙◌, ap, arith, inl, inr}
use Rattle.std.specs.List.{slice_get}
use Rattle.std.proofs.lemmas.Option.{slice_get_within}
use Rattle.chorus_ui.specs.declared.ui.Ui.{Ui}
use Rattle.chorus_ui.specs.declared.layout.Layout.{Layout}
use Rattle.chorus_entry.specs.declared.entry.Entry.{Entry}
use Rattle.chorus_entry.specs.declared.id.MsgId.{MsgId}
use Rattle.chorus_entry.specs.declared.act.Act.TheVariants.{Accept}
use Rattle.chorus_world.specs.Views.{on}
use Rattle.chorus_world.specs.Ports.{PortState, fate}
use Rattle.chorus_world.specs.Fates.{MessageFate, fate_at}
use Rattle.chorus_world.specs.Steps.{is_legal}
use Rattle.chorus_world.specs.AcceptedLaws.{accepted_by, accepted_from, HasOneFate, KeepsEachMessage}
use Rattle.chorus_world.proofs.Steps.LegalLemmas.{legal_parts}
use Rattle.chorus_world.proofs.Ports.LineLemmas.{none_some}
use Rattle.chorus_world.proofs.Messages.AcceptedLemmas.{accepted_before, accepted_belongs, accept_waits}

accept_port : (x : MsgId) (q r : Ui) (n m : ℕ) → Accept x q n ≡ Accept x r m → q ≡ r
accept_port x q r n m h = cc

pub stands_once : (l : Layout) (past : List Entry) (q r : Ui) (i j : ℕ) (x : MsgId) → is_legal l past ≡ true → slice_get (accepted_by q past) i ≡ Some x → slice_get (accepted_by r past) j ≡ Some x → (q ≡ r) × (i ≡ j)
stands_once l [] q r i j x h a b = absurd (let lt : i < 0 = slice_get_within [] i x a in omega arith)
stands_once l (e ∷ past) q r i j x h a b =
    let two = legal_parts l e past h in
    elim (accepted_before q past e i x a) [
      | inl old ↦ elim (accepted_before r past e j x b) [
        | inl before ↦ stands_once l past q r i j x two.1 old before
        | inr new ↦ (
            let w = accept_waits l past e x r new.0 h new.1 in
            let k = accepted_belongs l past q i x two.1 old in
            none_some k.answer (sym w.undecided.verdict ∙ k.verdict))
      ]
      | inr now ↦ elim (accepted_before r past e j x b) [
        | inl before ↦ (
            let w = accept_waits l past e x q now.0 h now.1 in
            let k = accepted_belongs l past r j x two.1 before in
            none_some k.answer (sym w.undecided.verdict ∙ k.verdict))
        | inr new ↦ (
            let port : q ≡ r = accept_port x q r now.0 new.0 (sym now.1 ∙ new.1) in
            (port, now.2 ∙ (ap (λ z. length (accepted_by z past)) port ∙ sym new.2)))
      ]
    ]

some_fate : (l : Layout) (past : List Entry) (q : Ui) (i : ℕ) (x : MsgId) (o : Option PortState) → is_legal l past ≡ true → fate (on q past) ≡ o → slice_get (accepted_from o) i ≡ Some x → (what : MessageFate) × HasOneFate past q i x what
some_fate l past q i x None h e k = absurd (let lt : i < 0 = slice_get_within [] i x k in omega arith)
some_fate l past q i x (Some f) h e k =
    let stands : slice_get (accepted_by q past) i ≡ Some x = ap (λ o. slice_get (accepted_from o) i) e ∙ k in
    (fate_at i f, record { state = f; made = e; is = refl; alone = λ r j other. stands_once l past r q j i x h other stands })

pub keeps_each_message : (l : Layout) (past : List Entry) → is_legal l past ≡ true → KeepsEachMessage past
keeps_each_message l past h q i x k = some_fate l past q i x (fate (on q past)) h refl k
