-- What is decided of a message is decided once, and what its verdict and its copies tell of it.
-- x is an id, a an answer, `here` are entries that stand in past, a legal list.
use Rattle.std.proofs.Common.{◌≡◌, ◌<◌, Bool, true, false, ◌&&◌, ◌||◌, cond, List, [], ◌∷◌, ◌++◌, length, Option, Some, None, refl, sym, ◌∙◌, ap, subst, inl, inr, ◌⊎◌, append-nil, arith}
use Rattle.std.specs.Option.{option_or}
use Rattle.std.proofs.lemmas.Bool.{false≢true, and_parts, and_from}
use Rattle.chorus_ui.specs.declared.ui.Ui.{Ui}
use Rattle.chorus_ui.specs.declared.layout.Layout.{Layout}
use Rattle.chorus_entry.specs.declared.entry.Entry.{Entry}
use Rattle.chorus_entry.specs.declared.id.MsgId.{MsgId}
use Rattle.chorus_entry.specs.declared.answer.Answer.{Answer}
use Rattle.chorus_entry.specs.declared.answer.Answer.TheVariants as A
use Rattle.chorus_entry.specs.declared.act.Act.{Act}
use Rattle.chorus_entry.specs.declared.act.Act.TheVariants as acts
use Rattle.chorus_entry.specs.Act.{is_verdict, answer_of, message_of}
use Rattle.chorus_entry.specs.MsgId.{same_id}
use Rattle.chorus_entry.specs.Same.{are_same}
use Rattle.chorus_entry.proofs.Same.{same_id-self}
use Rattle.chorus_world.specs.Views.{views, is_about, about, by}
use Rattle.chorus_world.specs.Groups.{chooses, is_chosen}
use Rattle.chorus_world.specs.GroupLaws.{copies_of, copies_by}
use Rattle.chorus_world.specs.Places.{copies}
use Rattle.chorus_world.specs.Messages.{verdict, verdict_by}
use Rattle.chorus_world.specs.Steps.{act_may, is_legal}
use Rattle.chorus_world.proofs.Groups.FunctionalLaws.{copies_case, copies_length, no_copies}
use Rattle.chorus_world.proofs.Messages.MessageInvariant.{legal_messages}
use Rattle.chorus_world.proofs.Messages.PostLemmas.{choose_needs, asked_facts}
use Rattle.chorus_world.proofs.Messages.SendingLemmas.{from_or, or_some}
use Rattle.chorus_world.proofs.Messages.StageLemmas.{IsOpen}
use Rattle.chorus_world.proofs.Messages.VerdictLemmas.{verdict_open, verdict_about}
use Rattle.chorus_world.proofs.Ports.LineLemmas.{none_some, id_is}
use Rattle.chorus_world.proofs.Steps.LegalLemmas.{legal_parts, keeps, skips}
use Rattle.law_replies.specs.Replies.{Says}
use Rattle.law_replies.specs.Outcomes.{Decides, Became}
use Rattle.law_replies.proofs.Saying.{says-now, says-behind, says-one-of, says-nothing}

-- What decides.

pub decides-about : (x : MsgId) (a : Answer) (act : Act) → Decides x a act → message_of act ≡ Some x
decides-about x a (acts.Accept y q n) h = ap (λ z. Some z) h.0
decides-about x a (acts.Full y q n) h = ap (λ z. Some z) h.0
decides-about x a (acts.Early y q n) h = ap (λ z. Some z) h.0
decides-about x a (acts.NoPort y q) h = ap (λ z. Some z) h.0
decides-about x a (acts.Already y q) h = ap (λ z. Some z) h.0
decides-about x a (acts.ClientsFull y q) h = ap (λ z. Some z) h.0
decides-about x a (acts.Elsewhere y q to hop) h = ap (λ z. Some z) h.0
decides-about x a (acts.Gone y q) h = ap (λ z. Some z) h.0
decides-about x a (acts.NoMember y g) h = ap (λ z. Some z) h.0
decides-about x a (acts.Choose y g qs) h = ap (λ z. Some z) h.0
decides-about x a _ h = absurd h

pub decides-answer : (x : MsgId) (a : Answer) (act : Act) → Decides x a act → answer_of act ≡ Some a
decides-answer x a (acts.Accept y q n) h = ap (λ z. Some z) (sym h.1)
decides-answer x a (acts.Full y q n) h = ap (λ z. Some z) (sym h.1)
decides-answer x a (acts.Early y q n) h = ap (λ z. Some z) (sym h.1)
decides-answer x a (acts.NoPort y q) h = ap (λ z. Some z) (sym h.1)
decides-answer x a (acts.Already y q) h = ap (λ z. Some z) (sym h.1)
decides-answer x a (acts.ClientsFull y q) h = ap (λ z. Some z) (sym h.1)
decides-answer x a (acts.Elsewhere y q to hop) h = ap (λ z. Some z) (sym h.1)
decides-answer x a (acts.Gone y q) h = ap (λ z. Some z) (sym h.1)
decides-answer x a (acts.NoMember y g) h = ap (λ z. Some z) (sym h.1)
decides-answer x a (acts.Choose y g qs) h = ap (λ z. Some z) (sym h.1)
decides-answer x a _ h = absurd h

-- the act is a verdict, or the choice of members for x
abbrev pub Kind : MsgId → Answer → Act → Type 0
Kind x a act = (is_verdict act ≡ true) ⊎ ((g : Ui) × ((qs : List Ui) × ((act ≡ acts.Choose x g qs) × (a ≡ A.Chosen (length qs)))))

pub decides-kind : (x : MsgId) (a : Answer) (act : Act) → Decides x a act → Kind x a act
decides-kind x a (acts.Accept y q n) h = inl refl
decides-kind x a (acts.Full y q n) h = inl refl
decides-kind x a (acts.Early y q n) h = inl refl
decides-kind x a (acts.NoPort y q) h = inl refl
decides-kind x a (acts.Already y q) h = inl refl
decides-kind x a (acts.ClientsFull y q) h = inl refl
decides-kind x a (acts.Elsewhere y q to hop) h = inl refl
decides-kind x a (acts.Gone y q) h = inl refl
decides-kind x a (acts.NoMember y g) h = inl refl
decides-kind x a (acts.Choose y g qs) h = inr (g, (qs, (ap (λ z. acts.Choose z g qs) h.0, h.1)))
decides-kind x a _ h = absurd h

-- a verdict decides
pub to-decides : (x : MsgId) (a : Answer) (act : Act) → is_verdict act ≡ true → message_of act ≡ Some x → answer_of act ≡ Some a → Decides x a act
to-decides x a (acts.Accept y q n) v m o = let same : y ≡ x = cc in let is : a ≡ A.Accepted n = cc in (same, is)
to-decides x a (acts.Full y q n) v m o = let same : y ≡ x = cc in let is : a ≡ A.Full n = cc in (same, is)
to-decides x a (acts.Early y q n) v m o = let same : y ≡ x = cc in let is : a ≡ A.Early n = cc in (same, is)
to-decides x a (acts.NoPort y q) v m o = let same : y ≡ x = cc in let is : a ≡ A.NoPort = cc in (same, is)
to-decides x a (acts.Already y q) v m o = let same : y ≡ x = cc in let is : a ≡ A.Already = cc in (same, is)
to-decides x a (acts.ClientsFull y q) v m o = let same : y ≡ x = cc in let is : a ≡ A.ClientsFull = cc in (same, is)
to-decides x a (acts.Elsewhere y q to hop) v m o = let same : y ≡ x = cc in let is : a ≡ A.Elsewhere to hop = cc in (same, is)
to-decides x a (acts.Gone y q) v m o = let same : y ≡ x = cc in let is : a ≡ A.Gone = cc in (same, is)
to-decides x a (acts.NoMember y g) v m o = let same : y ≡ x = cc in let is : a ≡ A.NoMember = cc in (same, is)
to-decides x a _ v m o = absurd (false≢true v)

-- What is decided of a message is decided once.

said-verdict : (x : MsgId) (a : Answer) (past : List Entry) (act : Act) → Says past act → verdict_by x act ≡ Some a → (b : Answer) × (verdict x past ≡ Some b)
said-verdict x a [] act s v = absurd (says-nothing act s)
said-verdict x a (e ∷ past) act s v =
    elim (says-one-of e past act s) [
      | inl now ↦ by (verdict x past) refl (ap (verdict_by x) now ∙ v)
      | inr later ↦ (let old = said-verdict x a past act later v in (old.0, or_some (verdict x past) (verdict_by x e.act) old.0 old.1))
    ]
  where
    by : (o : Option Answer) → verdict x past ≡ o → verdict_by x e.act ≡ Some a → (b : Answer) × (verdict x (e ∷ past) ≡ Some b)
    by (Some b) old now = (b, or_some (verdict x past) (verdict_by x e.act) b old)
    by None old now = (a, ap (λ o. option_or o (verdict_by x e.act)) old ∙ now)

is-about : (x : MsgId) (act : Act) → message_of act ≡ Some x → are_same same_id (Some x) (message_of act) ≡ true
is-about x act m = ap (are_same same_id (Some x)) m ∙ same_id-self x

-- members that were chosen are chosen
said-chosen : (x : MsgId) (g : Ui) (qs : List Ui) (past : List Entry) → Says past (acts.Choose x g qs) → is_chosen x (about x past) ≡ true
said-chosen x g qs [] s = absurd (says-nothing (acts.Choose x g qs) s)
said-chosen x g qs (e ∷ past) s =
    elim (says-one-of e past (acts.Choose x g qs) s) [
      | inl now ↦
          ap (is_chosen x) (keeps (is_about (Some x)) e past (is-about x e.act (ap message_of now)))
          ∙ (ap (λ z. chooses x z || is_chosen x (about x past)) now ∙ ap (λ b. b || is_chosen x (about x past)) (same_id-self x))
      | inr later ↦ still (is_about (Some x) e) refl (said-chosen x g qs past later)
    ]
  where
    or-true : (b c : Bool) → c ≡ true → (b || c) ≡ true
    or-true true c h = refl
    or-true false c h = h

    still : (b : Bool) → is_about (Some x) e ≡ b → is_chosen x (about x past) ≡ true → is_chosen x (about x (e ∷ past)) ≡ true
    still true t old = ap (is_chosen x) (keeps (is_about (Some x)) e past t) ∙ or-true (chooses x e.act) (is_chosen x (about x past)) old
    still false t old = ap (is_chosen x) (skips (is_about (Some x)) e past t) ∙ old

-- nothing is decided of a message that is open
open-none : (x : MsgId) (a : Answer) (past : List Entry) → IsOpen x past → Became x a past → ⊥
open-none x a past still b =
    elim (decides-kind x a b.0 b.1.1) [
      | inl v ↦ (
          let is : verdict_by x b.0 ≡ Some a =
          ap (λ c. cond c (answer_of b.0) None) (and_from (is_verdict b.0) (are_same same_id (Some x) (message_of b.0)) v (is-about x b.0 (decides-about x a b.0 b.1.1))) ∙ decides-answer x a b.0 b.1.1 in
          let found = said-verdict x a past b.0 b.1.0 is in
          let bad : None ≡ Some found.0 = sym still.verdict ∙ (sym (verdict_about x past) ∙ found.1) in
          absurd (cc))
      | inr c ↦ false≢true (sym still.chosen ∙ said-chosen x c.0 c.1.0 past (subst (Says past) c.1.1.0 b.1.0))
    ]

-- where something is decided of it, it was open
opens : (l : Layout) (past : List Entry) (e : Entry) (x : MsgId) (a : Answer) → is_legal l (e ∷ past) ≡ true → Decides x a e.act → IsOpen x past
opens l past e x a legal d =
    let two = legal_parts l e past legal in
    elim (decides-kind x a e.act d) [
      | inl v ↦ verdict_open l past e.place e.seat e.act x (legal_messages l past two.1 x) two.0 (decides-about x a e.act d) v
      | inr c ↦ (
          let may : act_may l (views past e.place e.seat (acts.Choose x c.0 c.1.0)) e.place e.seat (acts.Choose x c.0 c.1.0) ≡ true =
          subst (λ z. act_may l (views past e.place e.seat z) e.place e.seat z ≡ true) c.1.1.0 two.0 in
          let needs = choose_needs l past e.place e.seat x c.0 c.1.0 may in
          (asked_facts x past needs.from needs.dest (legal_messages l past two.1 x) needs.asked).0)
    ]

pub became-once : (l : Layout) (past : List Entry) (x : MsgId) (a b : Answer) → is_legal l past ≡ true → Became x a past → Became x b past → a ≡ b
became-once l [] x a b legal m n = absurd (says-nothing m.0 m.1.0)
became-once l (e ∷ past) x a b legal m n =
    elim (says-one-of e past m.0 m.1.0) [
      | inl now ↦ elim (says-one-of e past n.0 n.1.0) [
        | inl this ↦ (let both : Some a ≡ Some b = sym (decides-answer x a m.0 m.1.1) ∙ (ap answer_of (sym now ∙ this) ∙ decides-answer x b n.0 n.1.1) in cc)
        | inr later ↦ absurd (open-none x b past (opens l past e x a legal (subst (Decides x a) (sym now) m.1.1)) (n.0, (later, n.1.1)))
      ]
      | inr later ↦ elim (says-one-of e past n.0 n.1.0) [
        | inl now ↦ absurd (open-none x a past (opens l past e x b legal (subst (Decides x b) (sym now) n.1.1)) (m.0, (later, m.1.1)))
        | inr other ↦ became-once l past x a b (legal_parts l e past legal).1 (m.0, (later, m.1.1)) (n.0, (other, n.1.1))
      ]
    ]

-- What verdicts and copies tell.

pub became-later : (x : MsgId) (a : Answer) (newer past : List Entry) → Became x a past → Became x a (newer ++ past)
became-later x a newer past b = (b.0, (says-behind newer past b.0 b.1.0, b.1.1))

pub by-parts : {A : Type 0} (b : Bool) (o : Option A) (a : A) → cond b o None ≡ Some a → (b ≡ true) × (o ≡ Some a)
by-parts true o a h = (refl, h)
by-parts false o a h = absurd (cc)

pub verdict-became : (x : MsgId) (a : Answer) (past : List Entry) → verdict x past ≡ Some a → Became x a past
verdict-became x a [] h = none_some a h
verdict-became x a (e ∷ past) h =
    elim (from_or (verdict x past) (verdict_by x e.act) a h) [
      | inl old ↦ became-later x a (e ∷ []) past (verdict-became x a past old)
      | inr new ↦ (
          let one = by-parts (is_verdict e.act && are_same same_id (Some x) (message_of e.act)) (answer_of e.act) a new.1 in
          let two = and_parts (is_verdict e.act) (are_same same_id (Some x) (message_of e.act)) one.0 in
          (e.act, (says-now e past e.act refl, to-decides x a e.act two.0 (id_is x (message_of e.act) two.1) one.1)))
    ]

-- the copies of a post are those of its one choice
abbrev Chosen : MsgId → List Entry → Type 0
Chosen x past = (copies_of x past ≡ []) ⊎ ((g : Ui) × ((qs : List Ui) × (Says past (acts.Choose x g qs) × (copies_of x past ≡ copies x g 1 qs))))

copies-chosen : (l : Layout) (past : List Entry) (x : MsgId) → is_legal l past ≡ true → Chosen x past
copies-chosen l [] x legal = inl refl
copies-chosen l (e ∷ past) x legal =
    elim (copies_case x e.act) [
      | inl none ↦ (
          let same : copies_of x (e ∷ past) ≡ copies_of x past = ap (λ z. copies_of x past ++ z) none ∙ append-nil (copies_of x past) in
          elim (copies-chosen l past x (legal_parts l e past legal).1) [
            | inl no_ ↦ inl (same ∙ no_)
            | inr c ↦ inr (c.0, (c.1.0, (says-behind (e ∷ []) past (acts.Choose x c.0 c.1.0) c.1.1.0, same ∙ c.1.1.1)))
          ])
      | inr c ↦ (
          let decides : Decides x (A.Chosen (length c.1)) e.act = subst (Decides x (A.Chosen (length c.1))) (sym c.2) (refl, refl) in
          let old = no_copies x past (opens l past e x (A.Chosen (length c.1)) legal decides).chosen in
          let now : copies_of x (e ∷ past) ≡ copies x c.0 1 c.1 = (λ i. old i ++ copies_by x (c.2 i)) ∙ ap (λ b. cond b (copies x c.0 1 c.1) []) (same_id-self x) in
          inr (c.0, (c.1, (says-now e past (acts.Choose x c.0 c.1) c.2, now))))
    ]

pub copies-became : (l : Layout) (past : List Entry) (x : MsgId) → is_legal l past ≡ true → 0 < length (copies_of x past) → Became x (A.Chosen (length (copies_of x past))) past
copies-became l past x legal some =
    elim (copies-chosen l past x legal) [
      | inl none ↦ (let no : 0 < length (copies_of x past) = some in absurd (let zero : length (copies_of x past) ≡ 0 = ap length none in omega (arith, no, zero)))
      | inr c ↦ (acts.Choose x c.0 c.1.0, (c.1.1.0, (refl, ap A.Chosen (ap length c.1.1.1 ∙ copies_length x c.0 1 c.1.0))))
    ]
