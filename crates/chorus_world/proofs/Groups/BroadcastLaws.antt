-- The copies of a group's posts stand in each port in the order in which members were chosen for the posts.
use Rattle.std.proofs.Common.{ℕ, ◌≡◌, ◌<◌, zero, suc, true, false, ◌||◌, ◌⊎◌, cond, List, [], ◌∷◌, ◌++◌, length, take, drop, Option, Some, None, refl, sym, ◌∙◌, ap, subst, arith, inl, inr}
use Rattle.std.specs.List.{slice_get, find, remove}
use Rattle.std.proofs.lemmas.Bool.{eqb-true, false≢true, cases_Bool, or_left}
use Rattle.std.proofs.lemmas.List.{append-nil}
use Rattle.std.proofs.lemmas.Option.{slice_get_within}
use Rattle.chorus_ui.specs.declared.ui.Ui.{Ui}
use Rattle.chorus_ui.specs.declared.layout.Layout.{Layout}
use Rattle.chorus_ui.specs.Layout.{group_place}
use Rattle.chorus_ui.specs.Name.{same_ui}
use Rattle.chorus_ui.proofs.Names.{from_same_ui, same_ui-self}
use Rattle.chorus_entry.specs.declared.entry.Entry.{Entry}
use Rattle.chorus_entry.specs.declared.id.MsgId.{MsgId}
use Rattle.chorus_entry.specs.declared.dest.Dest.{Dest}
use Rattle.chorus_entry.specs.declared.dest.Dest.TheVariants.{Port, All, One, OneAt}
use Rattle.chorus_entry.specs.declared.act.Act.{Act}
use Rattle.chorus_entry.specs.declared.act.Act.TheVariants.{Accept, Choose, Join, Leave}
use Rattle.chorus_entry.specs.Dest.{group_in}
use Rattle.chorus_entry.specs.MsgId.{same_id}
use Rattle.chorus_entry.proofs.Same.{same_id-self}
use Rattle.chorus_world.specs.declared.place.Sent.{Sent}
use Rattle.chorus_world.specs.Views.{views, at, about, is_about}
use Rattle.chorus_entry.specs.Order.{is_at}
use Rattle.chorus_entry.specs.Same.{is_number}
use Rattle.chorus_world.specs.Places.{find_sent, sent_by}
use Rattle.chorus_world.specs.Posts.{source}
use Rattle.chorus_world.specs.Groups.{members, members_after, choice, in_turn, is_at_site, rotation, is_chosen, chooses, is_group_place}
use Rattle.chorus_entry.specs.Members.{without, index_of, listed, first_of}
use Rattle.chorus_world.specs.Steps.{act_may, is_legal}
use Rattle.chorus_world.specs.AcceptedLaws.{accepted_by}
use Rattle.chorus_world.specs.SenderLaws.{route_of}
use Rattle.chorus_world.specs.GroupLaws.{choice_by, choices_of, StandsBefore}
use Rattle.chorus_world.proofs.Steps.LegalLemmas.{legal_parts, skips, keeps}
use Rattle.chorus_world.proofs.Ports.LineLemmas.{none_some}
use Rattle.chorus_world.proofs.Messages.SendingLemmas.{sent_as, some_is, sent_before}
use Rattle.chorus_world.proofs.Messages.PostLemmas.{choose_needs, asked_facts}
use Rattle.chorus_world.proofs.Messages.MessageInvariant.{legal_messages}
use Rattle.chorus_world.proofs.Messages.AcceptedLemmas.{get_push, accepted_before, accepted_belongs, accepted_posted, accept_waits, waiting_posted}
use Rattle.chorus_world.proofs.Groups.MemberLemmas.{join_needs, choose_members}
use Rattle.chorus_world.proofs.Groups.ChoiceLemmas.{chosen_choice, new_copy}
use Rattle.chorus_world.proofs.Seats.SenderLaws.{sent_in_order, accepted_first, route_is, route_stays}

-- A group has members at its place alone.

remove_none : (i : ℕ) → remove {X = Ui} [] i ≡ []
remove_none zero = refl
remove_none (suc i) = refl

drop_none : (i : ℕ) → drop {A = Ui} i [] ≡ []
drop_none zero = refl
drop_none (suc i) = refl

take_none : (i : ℕ) → take {A = Ui} i [] ≡ []
take_none zero = refl
take_none (suc i) = refl

after_home : (l : Layout) (past : List Entry) (p s : ℕ) (a : Act) (g : Ui) → act_may l (views past p s a) p s a ≡ true → (is_group_place l g p ≡ true) ⊎ (members g (at p past) ≡ []) → (is_group_place l g p ≡ true) ⊎ (members_after g a (members g (at p past)) ≡ [])
after_home l past p s a g may (inl here) = inl here
after_home l past p s (Join h q) g may (inr none) =
    elim (cases_Bool (same_ui h g)) [
      | inl t ↦ inl (subst (λ z. is_group_place l z p ≡ true) (from_same_ui h g t) (join_needs l past p s h q may).0)
      | inr f ↦ inr (ap (λ b. cond b (members g (at p past) ++ q ∷ []) (members g (at p past))) f ∙ none)
    ]
after_home l past p s (Leave h q) g may (inr none) =
    elim (cases_Bool (same_ui h g)) [
      | inl t ↦ inr (ap (λ b. cond b (without q (members g (at p past))) (members g (at p past))) t ∙ (ap (λ z. without q z) none ∙ remove_none (index_of q [])))
      | inr f ↦ inr (ap (λ b. cond b (without q (members g (at p past))) (members g (at p past))) f ∙ none)
    ]
after_home l past p s _ g may (inr none) = inr none

members_home : (l : Layout) (past : List Entry) (g : Ui) (p : ℕ) → is_legal l past ≡ true → (is_group_place l g p ≡ true) ⊎ (members g (at p past) ≡ [])
members_home l [] g p h = inr refl
members_home l (e ∷ past) g p h =
    let two = legal_parts l e past h in
    let old = members_home l past g p two.1 in
    elim (cases_Bool (is_at p e)) [
      | inl t ↦ (
          let same : e.place ≡ p = eqb-true e.place p t in
          let view : at p (e ∷ past) ≡ e ∷ at p past = keeps (is_at p) e past t in
          let now = after_home l past e.place e.seat e.act g two.0 (subst (λ z. (is_group_place l g z ≡ true) ⊎ (members g (at z past) ≡ [])) (sym same) old) in
          let here = subst (λ z. (is_group_place l g z ≡ true) ⊎ (members_after g e.act (members g (at z past)) ≡ [])) same now in
          subst (λ z. (is_group_place l g p ≡ true) ⊎ (members g z ≡ [])) (sym view) here)
      | inr n ↦ subst (λ z. (is_group_place l g p ≡ true) ⊎ (members g z ≡ [])) (sym (skips (is_at p) e past n)) old
    ]

no_turn : (g : Ui) (here : List Entry) → members g here ≡ [] → in_turn g here ≡ []
no_turn g here h =
    let i = rotation g here in
    ap (λ z. drop i z ++ take i z) h ∙ ((λ k. drop_none i k ++ take i []) ∙ take_none i)

no_choice : (l : Layout) (d : Dest) (g : Ui) (here : List Entry) → group_in d ≡ Some g → members g here ≡ [] → choice l d here ≡ []
no_choice l (Port q) g here e h = refl
no_choice l (All h) g here e k = let same : h ≡ g = some_is h g e in ap (λ z. members z here) same ∙ k
no_choice l (One h) g here e k =
    let same : h ≡ g = some_is h g e in
    ap (λ z. listed (first_of (in_turn z here))) same ∙ ap (λ z. listed (first_of z)) (no_turn g here k)
no_choice l (OneAt h s) g here e k =
    let same : h ≡ g = some_is h g e in
    ap (λ z. listed (find (is_at_site l s here) (in_turn z here))) same ∙ ap (λ z. listed (find (is_at_site l s here) z)) (no_turn g here k)

-- copies are sent by the group's place
copy_place : (l : Layout) (past : List Entry) (p : ℕ) (x : MsgId) (m : Sent) (g : Ui) → is_legal l past ≡ true → sent_as x p past ≡ Some m → m.route ≡ Some g → is_group_place l g p ≡ true
copy_place l [] p x m g h k r = none_some m k
copy_place l (e ∷ past) p x m g h k r =
    let two = legal_parts l e past h in
    elim (sent_before x p past e m k) [
      | inl old ↦ copy_place l past p x m g two.1 old r
      | inr new ↦ (
          let c = new_copy l past e x g m h new.1 r in
          let chosen = choose_members l past e.place e.seat c.post g c.members c.needs c.may in
          elim (members_home l past g e.place two.1) [
            | inl here ↦ subst (λ z. is_group_place l g z ≡ true) new.0 here
            | inr none ↦ (
                let empty : c.members ≡ [] = chosen.0 ∙ no_choice l c.needs.dest g (at e.place past) c.needs.group none in
                absurd (let n : 0 < 0 = subst (λ z. 0 < length z) empty chosen.1 in omega arith))
          ])
    ]

number_same : (p r : ℕ) (o : Option ℕ) → is_number p o ≡ true → is_number r o ≡ true → p ≡ r
number_same p r None h k = absurd (false≢true h)
number_same p r (Some n) h k = sym (eqb-true n p h) ∙ eqb-true n r k

-- The list of choices.

get_append : {X : Type 0} (xs ys : List X) (i : ℕ) (x : X) → slice_get xs i ≡ Some x → slice_get (xs ++ ys) i ≡ Some x
get_append {X} [] ys i x h = absurd (let lt : i < 0 = slice_get_within {A = X} [] i x h in omega arith)
get_append (y ∷ xs) ys zero x h = h
get_append (y ∷ xs) ys (suc i) x h = get_append xs ys i x h

get_last : {X : Type 0} (xs : List X) (x : X) → slice_get (xs ++ x ∷ []) (length xs) ≡ Some x
get_last [] x = refl
get_last (y ∷ xs) x = get_last xs x

choice_case : (g : Ui) (a : Act) → (choice_by g a ≡ []) ⊎ ((x : MsgId) × (qs : List Ui) × (a ≡ Choose x g qs))
choice_case g (Choose x h qs) =
    elim (cases_Bool (same_ui h g)) [
      | inl t ↦ inr (x, qs, ap (λ z. Choose x z qs) (from_same_ui h g t))
      | inr f ↦ inl (ap (λ b. cond b (x ∷ []) []) f)
    ]
choice_case g _ = inl refl

choice_now : (g : Ui) (x : MsgId) (qs : List Ui) (a : Act) → a ≡ Choose x g qs → choice_by g a ≡ x ∷ []
choice_now g x qs a e = ap (choice_by g) e ∙ ap (λ b. cond b (x ∷ []) []) (same_ui-self g)

-- what stands in the list stood there before, or is the post of the Choose that the entry is
choices_before : (g : Ui) (past : List Entry) (e : Entry) (i : ℕ) (x : MsgId) → slice_get (choices_of g (e ∷ past)) i ≡ Some x → (slice_get (choices_of g past) i ≡ Some x) ⊎ ((qs : List Ui) × (e.act ≡ Choose x g qs) × (i ≡ length (choices_of g past)))
choices_before g past e i x h =
    elim (choice_case g e.act) [
      | inl none ↦ inl (ap (λ z. slice_get z i) (sym (ap (λ z. choices_of g past ++ z) none ∙ append-nil (choices_of g past))) ∙ h)
      | inr c ↦ (
          let view : choices_of g past ++ choice_by g e.act ≡ choices_of g past ++ c.0 ∷ [] = ap (λ z. choices_of g past ++ z) (choice_now g c.0 c.1 e.act c.2) in
          elim (get_push (choices_of g past) c.0 i x (ap (λ z. slice_get z i) (sym view) ∙ h)) [
            | inl old ↦ inl old
            | inr new ↦ inr (c.1, c.2 ∙ ap (λ z. Choose z g c.1) new.1, new.0)
          ])
    ]

choices_chosen : (g : Ui) (past : List Entry) (i : ℕ) (x : MsgId) → slice_get (choices_of g past) i ≡ Some x → is_chosen x (about x past) ≡ true
choices_chosen g [] i x h = absurd (let lt : i < 0 = slice_get_within [] i x h in omega arith)
choices_chosen g (e ∷ past) i x h =
    elim (choices_before g past e i x h) [
      | inl old ↦ chosen_choice (is_about (Some x) e) x e (about x past) (choices_chosen g past i x old)
      | inr new ↦ (
          let on : is_about (Some x) e ≡ true = ap (λ a. is_about (Some x) (record { clock = e.clock; place = e.place; seat = e.seat; act = a })) new.1 ∙ same_id-self x in
          ap (is_chosen x) (keeps (is_about (Some x)) e past on)
          ∙ (ap (λ a. chooses x a || is_chosen x (about x past)) new.1 ∙ or_left (same_id x x) (is_chosen x (about x past)) (same_id-self x)))
    ]

choose_open : (l : Layout) (past : List Entry) (e : Entry) (x : MsgId) (g : Ui) (qs : List Ui) → is_legal l (e ∷ past) ≡ true → e.act ≡ Choose x g qs → is_chosen x (about x past) ≡ false
choose_open l past e x g qs h a =
    let two = legal_parts l e past h in
    let may = subst (λ z. act_may l (views past e.place e.seat z) e.place e.seat z ≡ true) a two.0 in
    let needs = choose_needs l past e.place e.seat x g qs may in
    (asked_facts x past needs.from needs.dest (legal_messages l past two.1 x) needs.asked).0.chosen

same_choice : (x : MsgId) (g h : Ui) (qs rs : List Ui) → Choose x g qs ≡ Choose x h rs → g ≡ h
same_choice x g h qs rs e = cc

pub is_chosen_once : (l : Layout) (past : List Entry) (g h : Ui) (i j : ℕ) (x : MsgId) → is_legal l past ≡ true → slice_get (choices_of g past) i ≡ Some x → slice_get (choices_of h past) j ≡ Some x → (g ≡ h) × (i ≡ j)
is_chosen_once l [] g k i j x h a b = absurd (let lt : i < 0 = slice_get_within [] i x a in omega arith)
is_chosen_once l (e ∷ past) g k i j x h a b =
    elim (choices_before g past e i x a) [
      | inl old ↦ elim (choices_before k past e j x b) [
        | inl before ↦ is_chosen_once l past g k i j x (legal_parts l e past h).1 old before
        | inr new ↦ absurd (false≢true (sym (choose_open l past e x k new.0 h new.1) ∙ choices_chosen g past i x old))
      ]
      | inr now ↦ elim (choices_before k past e j x b) [
        | inl before ↦ absurd (false≢true (sym (choose_open l past e x g now.0 h now.1) ∙ choices_chosen k past j x before))
        | inr new ↦ (
            let group : g ≡ k = same_choice x g k now.0 new.0 (sym now.1 ∙ new.1) in
            (group, now.2 ∙ (ap (λ z. length (choices_of z past)) group ∙ sym new.2)))
      ]
    ]

-- The order of copies.

stands_grows : (g : Ui) (past : List Entry) (e : Entry) (x y : MsgId) → StandsBefore x y (choices_of g past) → StandsBefore x y (choices_of g (e ∷ past))
stands_grows g past e x y b =
    record {
      first = b.first;
      second = b.second;
      less = b.less;
      is_first = get_append (choices_of g past) (choice_by g e.act) b.first x b.is_first;
      is_second = get_append (choices_of g past) (choice_by g e.act) b.second y b.is_second;
    }

-- the post of a copy stands in the list
sent_choice : (l : Layout) (past : List Entry) (p : ℕ) (x : MsgId) (m : Sent) (g : Ui) → is_legal l past ≡ true → sent_as x p past ≡ Some m → m.route ≡ Some g → (i : ℕ) × (slice_get (choices_of g past) i ≡ Some (source x))
sent_choice l [] p x m g h k r = none_some m k
sent_choice l (e ∷ past) p x m g h k r =
    elim (sent_before x p past e m k) [
      | inl old ↦ (
          let i = sent_choice l past p x m g (legal_parts l e past h).1 old r in
          (i.0, get_append (choices_of g past) (choice_by g e.act) i.0 (source x) i.1))
      | inr new ↦ (
          let c = new_copy l past e x g m h new.1 r in (
            length (choices_of g past),
            ap (λ z. slice_get (choices_of g past ++ z) (length (choices_of g past))) (choice_now g c.post c.members e.act c.act)
                ∙ (get_last (choices_of g past) c.post ∙ ap (λ z. Some z) (sym c.source)),
          ))
    ]

abbrev Follows : List Entry → MsgId → MsgId → Option Ui → Type 0
Follows past z x r = (g : Ui) → r ≡ Some g → StandsBefore (source z) (source x) (choices_of g past)

begins : (l : Layout) (past : List Entry) (e : Entry) (z x : MsgId) (m k : Sent) → is_legal l (e ∷ past) ≡ true → find_sent x (sent_by e.act) ≡ Some m → sent_as z e.place past ≡ Some k → k.route ≡ m.route → Follows (e ∷ past) z x m.route
begins l past e z x m k h f s t =
    λ g r.
    let c = new_copy l past e x g m h f r in
    let i = sent_choice l past e.place z k g (legal_parts l e past h).1 s (t ∙ r) in
    record {
      first = i.0;
      second = length (choices_of g past);
      less = slice_get_within (choices_of g past) i.0 (source z) i.1;
      is_first = get_append (choices_of g past) (choice_by g e.act) i.0 (source z) i.1;
      is_second = ap (λ z. slice_get (choices_of g past ++ z) (length (choices_of g past))) (choice_now g c.post c.members e.act c.act)
          ∙ (get_last (choices_of g past) c.post ∙ ap (λ z. Some z) (sym c.source));
    }

-- y is accepted now, and x was before
choice_order_now : (l : Layout) (past : List Entry) (e : Entry) (q : Ui) (i : ℕ) (x y : MsgId) (n : ℕ) (g : Ui) → is_legal l (e ∷ past) ≡ true → e.act ≡ Accept y q n → slice_get (accepted_by q past) i ≡ Some x → route_of x past ≡ Some g → route_of y past ≡ Some g → StandsBefore (source x) (source y) (choices_of g past)
choice_order_now l past e q i x y n g h a old r s =
    let two = legal_parts l e past h in
    let b = accepted_belongs l past q i x two.1 old in
    let w = accept_waits l past e y q n h a in
    let rx : b.message.route ≡ Some g = sym (route_is l past x b.place b.message two.1 b.is) ∙ r in
    let ry : w.message.route ≡ Some g = sym (route_is l past y w.place w.message two.1 w.is) ∙ s in
    let place : b.place ≡ w.place = number_same b.place w.place (group_place l g) (copy_place l past b.place x b.message g two.1 b.is rx) (copy_place l past w.place y w.message g two.1 w.is ry) in
    let first = accepted_first past q x y b w place (rx ∙ sym ry) in
    sent_in_order l Follows (λ past e z x r f g u. stands_grows g past e (source z) (source x) (f g u)) (begins l) past w.place y x w.message b.message two.1 w.is first (b.port ∙ sym w.port) (rx ∙ sym ry) g ry

pub keeps_choice_order : (l : Layout) (past : List Entry) (port : Ui) (i j : ℕ) (x y : MsgId) (group : Ui) → is_legal l past ≡ true → i < j → slice_get (accepted_by port past) i ≡ Some x → slice_get (accepted_by port past) j ≡ Some y → route_of x past ≡ Some group → route_of y past ≡ Some group → StandsBefore (source x) (source y) (choices_of group past)
keeps_choice_order l [] q i j x y g h lt a k r s = absurd (let z : i < 0 = slice_get_within [] i x a in omega arith)
keeps_choice_order l (e ∷ past) q i j x y g h lt a k r s =
    let two = legal_parts l e past h in
    elim (accepted_before q past e i x a) [
      | inr new ↦ elim (accepted_before q past e j y k) [
        | inl late ↦ absurd (let z = slice_get_within (accepted_by q past) j y late in omega (arith, new.2, z, lt))
        | inr late ↦ absurd (omega (arith, new.2, late.2, lt))
      ]
      | inl old ↦ (
          let px = accepted_posted l past q i x two.1 old in
          let rx = sym (route_stays x past e px.0 px.1) ∙ r in
          elim (accepted_before q past e j y k) [
            | inl late ↦ (
                let py = accepted_posted l past q j y two.1 late in
                let ry = sym (route_stays y past e py.0 py.1) ∙ s in
                stands_grows g past e (source x) (source y) (keeps_choice_order l past q i j x y g two.1 lt old late rx ry))
            | inr new ↦ (
                let py = waiting_posted l past q y two.1 (accept_waits l past e y q new.0 h new.1) in
                let ry = sym (route_stays y past e py.0 py.1) ∙ s in
                stands_grows g past e (source x) (source y) (choice_order_now l past e q i x y new.0 g h new.1 old rx ry))
          ])
    ]
