-- Which of two messages of a list stands before the other.
use Rattle.std.proofs.Common.{◌≡◌, Bool, true, false, ◌&&◌, ◌||◌, ◌⊎◌, not, cond, List, [], ◌∷◌, ◌++◌, Option, Some, None, refl, sym, ◌∙◌, ap, subst, inl, inr}
use Rattle.std.proofs.lemmas.Bool.{false≢true, cases_Bool, or_left, or_right, or_cases}
use Rattle.chorus_ui.specs.declared.ui.Ui.{Ui}
use Rattle.chorus_ui.specs.Name.{same_ui}
use Rattle.chorus_entry.specs.declared.entry.Entry.{Entry}
use Rattle.chorus_entry.specs.declared.id.MsgId.{MsgId}
use Rattle.chorus_entry.specs.MsgId.{same_id}
use Rattle.chorus_entry.proofs.Same.{from_same_id, same_id-self}
use Rattle.chorus_world.specs.declared.place.Sent.{Sent}
use Rattle.chorus_world.specs.Places.{find_sent, is_settled, unsettled, first_for}
use Rattle.chorus_entry.specs.Same.{same_route}
use Rattle.chorus_world.specs.Groups.{is_chosen, first_unchosen}
use Rattle.chorus_world.proofs.Ports.LineLemmas.{none_some}
use Rattle.chorus_world.proofs.Messages.SendingLemmas.{prior, cond_none, cond_some, some_is}

-- Lists of messages.

here_false : (x : MsgId) (m : Sent) (ps : List Sent) → same_id m.id x ≡ false → cond (same_id m.id x) [] (m ∷ ps) ≡ m ∷ ps
here_false x m ps e = ap (λ b. cond b [] (m ∷ ps)) e

h_now : (x : MsgId) (m a : Sent) (ps : List Sent) → same_id m.id x ≡ true → m ≡ a → find_sent x (m ∷ ps) ≡ Some a
h_now x m a ps e f = ap (λ b. cond b (Some m) (find_sent x ps)) e ∙ ap (λ y. Some y) f

-- of two messages in the list one stands before the other
pub one_is_prior : (x y : MsgId) (ms : List Sent) (a b : Sent) → (x ≡ y → ⊥) → find_sent x ms ≡ Some a → find_sent y ms ≡ Some b → (find_sent y (prior x ms) ≡ Some b) ⊎ (find_sent x (prior y ms) ≡ Some a)
one_is_prior x y [] a b ne h k = none_some a h
one_is_prior x y (m ∷ ms) a b ne h k =
    elim (cond_some (same_id m.id x) m a (find_sent x ms) h) [
      | inl isx ↦ elim (cond_some (same_id m.id y) m b (find_sent y ms) k) [
        | inl isy ↦ absurd (ne (sym (from_same_id m.id x isx.0) ∙ from_same_id m.id y isy.0))
        | inr noty ↦ inr (ap (find_sent x) (here_false y m (prior y ms) noty.0) ∙ h_now x m a (prior y ms) isx.0 isx.1)
      ]
      | inr notx ↦ elim (cond_some (same_id m.id y) m b (find_sent y ms) k) [
        | inl isy ↦ inl (ap (find_sent y) (here_false x m (prior x ms) notx.0) ∙ h_now y m b (prior x ms) isy.0 isy.1)
        | inr noty ↦ elim (one_is_prior x y ms a b ne notx.1 noty.1) [
          | inl first ↦ inl (ap (find_sent y) (here_false x m (prior x ms) notx.0) ∙ (ap (λ c. cond c (Some m) (find_sent y (prior x ms))) noty.0 ∙ first))
          | inr second ↦ inr (ap (find_sent x) (here_false y m (prior y ms) noty.0) ∙ (ap (λ c. cond c (Some m) (find_sent x (prior y ms))) notx.0 ∙ second))
        ]
      ]
    ]

none_rest : (q : Ui) (r : Option Ui) (here : List Entry) (m : Sent) (ms : List Sent) (b : Bool) → first_for q r (cond (not b) (m ∷ unsettled here ms) (unsettled here ms)) ≡ None → first_for q r (unsettled here ms) ≡ None
none_rest q r here m ms true h = h
none_rest q r here m ms false h = (cond_none (same_ui m.port q && same_route m.route r) m.id (first_for q r (unsettled here ms)) h).1

-- where no unsettled message of the port and route is in the list, one of these that is there is settled
pub none_unsettled : (q : Ui) (r : Option Ui) (here : List Entry) (y : MsgId) (ms : List Sent) (k : Sent) → first_for q r (unsettled here ms) ≡ None → find_sent y ms ≡ Some k → same_ui k.port q && same_route k.route r ≡ true → is_settled y here ≡ true
none_unsettled q r here y [] k h f g = none_some k f
none_unsettled q r here y (m ∷ ms) k h f g =
    elim (cond_some (same_id m.id y) m k (find_sent y ms) f) [
      | inl this ↦ elim (cases_Bool (is_settled m.id here)) [
        | inl yes_ ↦ subst (λ z. is_settled z here ≡ true) (from_same_id m.id y this.0) yes_
        | inr live ↦ (
            let now = ap (λ b. first_for q r (cond (not b) (m ∷ unsettled here ms) (unsettled here ms))) (sym live) ∙ h in
            let off = (cond_none (same_ui m.port q && same_route m.route r) m.id (first_for q r (unsettled here ms)) now).0 in
            absurd (false≢true (sym off ∙ (ap (λ (z : Sent). same_ui z.port q && same_route z.route r) this.1 ∙ g))))
      ]
      | inr later ↦ none_unsettled q r here y ms k (none_rest q r here m ms (is_settled m.id here) h) later.1 g
    ]

-- behind a list without x stands what stands before x in the other
pub prior_new : (x : MsgId) (ms ns : List Sent) → find_sent x ms ≡ None → prior x (ms ++ ns) ≡ ms ++ prior x ns
prior_new x [] ns h = refl
prior_new x (m ∷ ms) ns h =
    let two = cond_none (same_id m.id x) m (find_sent x ms) h in
    here_false x m (prior x (ms ++ ns)) two.0 ∙ ap (λ z. m ∷ z) (prior_new x ms ns two.1)

-- Lists of ids.

abbrev pub has_id : MsgId → List MsgId → Bool
has_id x [] = false
has_id x (y ∷ ys) = same_id y x || has_id x ys

-- the ids that stand before x, or all where it is not there
abbrev pub before : MsgId → List MsgId → List MsgId
before x [] = []
before x (y ∷ ys) = cond (same_id y x) [] (y ∷ before x ys)

or_assoc : (a b c : Bool) → a || (b || c) ≡ a || b || c
or_assoc true b c = refl
or_assoc false b c = refl

pub or_none_true : (a b : Bool) → a || b ≡ false → (a ≡ false) × (b ≡ false)
or_none_true true b h = absurd (false≢true (sym h))
or_none_true false b h = (refl, h)

append_case : (x y : MsgId) (b : Bool) (ps qs : List MsgId) (c : Bool) → b || c ≡ true → (c ≡ true → ps ≡ qs) → cond b [] (y ∷ ps) ≡ cond b [] (y ∷ qs)
append_case x y true ps qs c h i = refl
append_case x y false ps qs c h i = ap (λ z. y ∷ z) (i h)

next_case : (here : List Entry) (x y : MsgId) (b : Bool) (ps : List MsgId) → first_unchosen here (y ∷ ps) ≡ None → first_unchosen here (cond b [] (y ∷ ps)) ≡ None
next_case here x y true ps h = refl
next_case here x y false ps h = h

unchosen_none : (b : Bool) (y : MsgId) (o : Option MsgId) → cond b o (Some y) ≡ None → (b ≡ true) × (o ≡ None)
unchosen_none true y o h = (refl, h)
unchosen_none false y o h = cc

pub has_append : (x : MsgId) (xs ys : List MsgId) → has_id x (xs ++ ys) ≡ has_id x xs || has_id x ys
has_append x [] ys = refl
has_append x (y ∷ xs) ys =
    ap (λ b. same_id y x || b) (has_append x xs ys) ∙ or_assoc (same_id y x) (has_id x xs) (has_id x ys)

pub before_append : (x : MsgId) (xs ys : List MsgId) → has_id x xs ≡ true → before x (xs ++ ys) ≡ before x xs
before_append x [] ys h = absurd (false≢true h)
before_append x (y ∷ xs) ys h = append_case x y (same_id y x) (before x (xs ++ ys)) (before x xs) (has_id x xs) h (before_append x xs ys)

pub before_new : (x : MsgId) (xs ys : List MsgId) → has_id x xs ≡ false → before x (xs ++ ys) ≡ xs ++ before x ys
before_new x [] ys h = refl
before_new x (y ∷ xs) ys h =
    let two = or_none_true (same_id y x) (has_id x xs) h in
    ap (λ b. cond b [] (y ∷ before x (xs ++ ys))) two.0 ∙ ap (λ z. y ∷ z) (before_new x xs ys two.1)

pub one_is_before : (x y : MsgId) (xs : List MsgId) → (x ≡ y → ⊥) → has_id x xs ≡ true → has_id y xs ≡ true → (has_id y (before x xs) ≡ true) ⊎ (has_id x (before y xs) ≡ true)
one_is_before x y [] ne h k = absurd (false≢true h)
one_is_before x y (z ∷ xs) ne h k =
    elim (cases_Bool (same_id z x)) [
      | inl isx ↦ elim (cases_Bool (same_id z y)) [
        | inl isy ↦ absurd (ne (sym (from_same_id z x isx) ∙ from_same_id z y isy))
        | inr noty ↦ inr (ap (λ b. has_id x (cond b [] (z ∷ before y xs))) noty ∙ or_left (same_id z x) (has_id x (before y xs)) isx)
      ]
      | inr notx ↦ elim (cases_Bool (same_id z y)) [
        | inl isy ↦ inl (ap (λ b. has_id y (cond b [] (z ∷ before x xs))) notx ∙ or_left (same_id z y) (has_id y (before x xs)) isy)
        | inr noty ↦ elim (one_is_before x y xs ne (ap (λ b. b || has_id x xs) (sym notx) ∙ h) (ap (λ b. b || has_id y xs) (sym noty) ∙ k)) [
          | inl first ↦ inl (ap (λ b. has_id y (cond b [] (z ∷ before x xs))) notx ∙ or_right (same_id z y) (has_id y (before x xs)) first)
          | inr second ↦ inr (ap (λ b. has_id x (cond b [] (z ∷ before y xs))) noty ∙ or_right (same_id z x) (has_id x (before y xs)) second)
        ]
      ]
    ]

-- what stands before the first unchosen post is chosen
pub unchosen_is_next : (here : List Entry) (x : MsgId) (xs : List MsgId) → first_unchosen here xs ≡ Some x → (is_chosen x here ≡ false) × (has_id x xs ≡ true) × (first_unchosen here (before x xs) ≡ None)
unchosen_is_next here x [] h = none_some x h
unchosen_is_next here x (y ∷ xs) h =
    elim (cases_Bool (is_chosen y here)) [
      | inl done ↦ (
          let rest = unchosen_is_next here x xs (ap (λ b. cond b (first_unchosen here xs) (Some y)) (sym done) ∙ h) in (
            rest.0,
            or_right (same_id y x) (has_id x xs) rest.1,
            next_case here x y (same_id y x) (before x xs) (ap (λ b. cond b (first_unchosen here (before x xs)) (Some y)) done ∙ rest.2),
          ))
      | inr live ↦ (
          let same : y ≡ x = some_is y x (ap (λ b. cond b (first_unchosen here xs) (Some y)) (sym live) ∙ h) in
          let here_is : same_id y x ≡ true = ap (same_id y) (sym same) ∙ same_id-self y in (
            subst (λ z. is_chosen z here ≡ false) same live,
            or_left (same_id y x) (has_id x xs) here_is,
            ap (λ b. first_unchosen here (cond b [] (y ∷ before x xs))) here_is,
          ))
    ]

pub all_chosen : (here : List Entry) (u : MsgId) (xs : List MsgId) → first_unchosen here xs ≡ None → has_id u xs ≡ true → is_chosen u here ≡ true
all_chosen here u [] h k = absurd (false≢true k)
all_chosen here u (y ∷ xs) h k =
    let two = unchosen_none (is_chosen y here) y (first_unchosen here xs) h in
    elim (or_cases (same_id y u) (has_id u xs) k) [
      | inl this ↦ subst (λ z. is_chosen z here ≡ true) (from_same_id y u this) two.0
      | inr later ↦ all_chosen here u xs two.1 later
    ]

pub chosen_stays_none : (old new : List Entry) (xs : List MsgId) → ((x : MsgId) → is_chosen x old ≡ true → is_chosen x new ≡ true) → first_unchosen old xs ≡ None → first_unchosen new xs ≡ None
chosen_stays_none old new [] k h = refl
chosen_stays_none old new (y ∷ xs) k h =
    let two = unchosen_none (is_chosen y old) y (first_unchosen old xs) h in
    ap (λ b. cond b (first_unchosen new xs) (Some y)) (k y two.0) ∙ chosen_stays_none old new xs k two.1
