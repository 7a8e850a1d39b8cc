-- A group's members are distinct, so the copies of one post go to distinct ports.
use Rattle.std.proofs.Common.{ℕ, ◌≡◌, ◌+◌, ◌<◌, ◌==◌, suc, zero, Bool, true, false, ◌&&◌, ◌||◌, not, cond, List, [], ◌∷◌, ◌++◌, length, nat_lt, Option, Some, None, refl, sym, ◌∙◌, ap, subst, inl, inr}
use Rattle.std.specs.List.{find, remove}
use Rattle.std.proofs.lemmas.Bool.{and_parts, eqb-true, false≢true, cases_Bool, or_left, or_right, or_cases, not-true, ltb-true}
use Rattle.std.proofs.lemmas.List.Folds.{list_any-append}
use Rattle.chorus_ui.specs.declared.ui.Ui.{Ui}
use Rattle.chorus_ui.specs.declared.layout.Layout.{Layout}
use Rattle.chorus_ui.specs.Name.{same_ui}
use Rattle.chorus_ui.proofs.Names.{from_same_ui, same_ui-self}
use Rattle.chorus_entry.specs.declared.entry.Entry.{Entry}
use Rattle.chorus_entry.specs.declared.id.MsgId.{MsgId}
use Rattle.chorus_entry.specs.declared.dest.Dest.{Dest}
use Rattle.chorus_entry.specs.declared.dest.Dest.TheVariants.{Port, All, One, OneAt}
use Rattle.chorus_entry.specs.declared.act.Act.{Act}
use Rattle.chorus_entry.specs.declared.act.Act.TheVariants.{Choose, Join, Leave}
use Rattle.chorus_entry.specs.MsgId.{same_id}
use Rattle.chorus_entry.specs.Members.{same_uis, is_member, without, index_of, first_of, listed}
use Rattle.chorus_entry.proofs.Same.{from_same_uis}
use Rattle.chorus_world.specs.declared.place.Sent.{Sent}
use Rattle.chorus_world.specs.Views.{views, at, about, is_group}
use Rattle.chorus_world.specs.Messages.{progress}
use Rattle.chorus_world.specs.Places.{copies, find_sent}
use Rattle.chorus_world.specs.Groups.{is_group_place, members, members_after, choice, in_turn, is_at_site}
use Rattle.chorus_world.specs.Steps.{act_may, is_legal, is_group_at, may_choose_from, choice_from}
use Rattle.chorus_world.proofs.Steps.LegalLemmas.{legal_parts}
use Rattle.chorus_world.proofs.Ports.LineLemmas.{none_some}
use Rattle.chorus_world.proofs.Messages.SendingLemmas.{prior, cond_some}
use Rattle.chorus_world.proofs.Messages.OrderLemmas.{or_none_true}
use Rattle.chorus_world.proofs.Messages.PostLemmas.{ChoiceNeeds}

-- no two of the ports are the same
abbrev pub AreDistinct : List Ui → Type 0
AreDistinct [] = Unit {0}
AreDistinct (q ∷ qs) = (is_member q qs ≡ false) × AreDistinct qs

not_same : (q r : Ui) → same_ui q r ≡ false → same_ui r q ≡ false
not_same q r h =
    elim (cases_Bool (same_ui r q)) [
      | inl t ↦ absurd (false≢true (sym h ∙ (ap (same_ui q) (from_same_ui r q t) ∙ same_ui-self q)))
      | inr f ↦ f
    ]

distinct_push : (qs : List Ui) (q : Ui) → AreDistinct qs → is_member q qs ≡ false → AreDistinct (qs ++ q ∷ [])
distinct_push [] q d n = (refl, tt)
distinct_push (r ∷ rs) q d n =
    let two = or_none_true (same_ui r q) (is_member q rs) n in (
      list_any-append (λ u. same_ui u r) rs (q ∷ [])
          ∙ (ap (λ b. b || (same_ui q r || false)) d.0 ∙ ap (λ b. b || false) (not_same r q two.0)),
      distinct_push rs q d.1 two.1,
    )

member_remove : (qs : List Ui) (i : ℕ) (q : Ui) → is_member q (remove qs i) ≡ true → is_member q qs ≡ true
member_remove [] zero q h = h
member_remove [] (suc i) q h = h
member_remove (r ∷ rs) zero q h = or_right (same_ui r q) (is_member q rs) h
member_remove (r ∷ rs) (suc i) q h =
    elim (or_cases (same_ui r q) (is_member q (remove rs i)) h) [
      | inl this ↦ or_left (same_ui r q) (is_member q rs) this
      | inr later ↦ or_right (same_ui r q) (is_member q rs) (member_remove rs i q later)
    ]

no_member_remove : (qs : List Ui) (i : ℕ) (q : Ui) → is_member q qs ≡ false → is_member q (remove qs i) ≡ false
no_member_remove qs i q h =
    elim (cases_Bool (is_member q (remove qs i))) [
      | inl t ↦ absurd (false≢true (sym h ∙ member_remove qs i q t))
      | inr f ↦ f
    ]

distinct_remove : (qs : List Ui) (i : ℕ) → AreDistinct qs → AreDistinct (remove qs i)
distinct_remove [] zero d = d
distinct_remove [] (suc i) d = d
distinct_remove (r ∷ rs) zero d = d.1
distinct_remove (r ∷ rs) (suc i) d = (no_member_remove rs i r d.0, distinct_remove rs i d.1)

-- what a Join needs
pub join_needs : (l : Layout) (past : List Entry) (p s : ℕ) (g q : Ui) → act_may l (views past p s (Join g q)) p s (Join g q) ≡ true → (is_group_place l g p ≡ true) × (is_member q (members g (at p past)) ≡ false)
join_needs l past p s g q h =
    let v = views past p s (Join g q) in
    let two = and_parts (is_group_at l v p g && not (is_member q (members g v.here))) (nat_lt (length (members g v.here)) 32) h in
    let one = and_parts (is_group_at l v p g) (not (is_member q (members g v.here))) two.0 in
    ((and_parts (is_group_place l g p) (is_group g v.here) one.0).0, not-true (is_member q (members g v.here)) one.1)

after_distinct : (l : Layout) (past : List Entry) (p s : ℕ) (a : Act) (g : Ui) → act_may l (views past p s a) p s a ≡ true → AreDistinct (members g (at p past)) → AreDistinct (members_after g a (members g (at p past)))
after_distinct l past p s (Join h q) g may d = join_case (same_ui h g) refl
  where
    join_case : (b : Bool) → same_ui h g ≡ b → AreDistinct (cond b (members g (at p past) ++ q ∷ []) (members g (at p past)))
    join_case false e = d
    join_case true e =
        distinct_push (members g (at p past)) q d (subst (λ z. is_member q (members z (at p past)) ≡ false) (from_same_ui h g e) (join_needs l past p s h q may).1)
after_distinct l past p s (Leave h q) g may d = leave_case (same_ui h g)
  where
    leave_case : (b : Bool) → AreDistinct (cond b (without q (members g (at p past))) (members g (at p past)))
    leave_case false = d
    leave_case true = distinct_remove (members g (at p past)) (index_of q (members g (at p past))) d
after_distinct l past p s _ g may d = d

members_choice : (l : Layout) (past : List Entry) (e : Entry) (g : Ui) (p : ℕ) (b : Bool) → e.place == p ≡ b → act_may l (views past e.place e.seat e.act) e.place e.seat e.act ≡ true → AreDistinct (members g (at p past)) → AreDistinct (members g (cond b (e ∷ at p past) (at p past)))
members_choice l past e g p false k h d = d
members_choice l past e g p true k h d =
    let same : e.place ≡ p = eqb-true e.place p k in
    subst (λ z. AreDistinct (members_after g e.act (members g (at z past)))) same
    (after_distinct l past e.place e.seat e.act g h (subst (λ z. AreDistinct (members g (at z past))) (sym same) d))

-- in a legal past the members of a group are distinct
pub members_distinct : (l : Layout) (past : List Entry) (g : Ui) (p : ℕ) → is_legal l past ≡ true → AreDistinct (members g (at p past))
members_distinct l [] g p h = tt
members_distinct l (e ∷ past) g p h =
    let two = legal_parts l e past h in
    members_choice l past e g p (e.place == p) refl two.0 (members_distinct l past g p two.1)

listed_distinct : (o : Option Ui) → AreDistinct (listed o)
listed_distinct None = tt
listed_distinct (Some q) = (refl, tt)

choice_distinct : (l : Layout) (past : List Entry) (d : Dest) (p : ℕ) → is_legal l past ≡ true → AreDistinct (choice l d (at p past))
choice_distinct l past (Port q) p h = tt
choice_distinct l past (All g) p h = members_distinct l past g p h
choice_distinct l past (One g) p h = listed_distinct (first_of (in_turn g (at p past)))
choice_distinct l past (OneAt g s) p h = listed_distinct (find (is_at_site l s (at p past)) (in_turn g (at p past)))

-- the members of a Choose
pub choose_members : (l : Layout) (past : List Entry) (p s : ℕ) (x : MsgId) (g : Ui) (qs : List Ui) (needs : ChoiceNeeds l past p x g) → act_may l (views past p s (Choose x g qs)) p s (Choose x g qs) ≡ true → (qs ≡ choice l needs.dest (at p past)) × (0 < length qs)
choose_members l past p s x g qs needs h =
    let v = views past p s (Choose x g qs) in
    let state = progress (about x past) in
    let two = and_parts (may_choose_from l v p x g state && nat_lt 0 (length qs)) (same_uis qs (choice_from l v.here state)) h in
    let one = and_parts (may_choose_from l v p x g state) (nat_lt 0 (length qs)) two.0 in
    (from_same_uis qs (choice_from l v.here state) two.1 ∙ ap (choice_from l (at p past)) needs.asked, ltb-true 0 (length qs) one.1)

pub chosen_distinct : (l : Layout) (past : List Entry) (p s : ℕ) (x : MsgId) (g : Ui) (qs : List Ui) (needs : ChoiceNeeds l past p x g) → is_legal l past ≡ true → act_may l (views past p s (Choose x g qs)) p s (Choose x g qs) ≡ true → AreDistinct qs
chosen_distinct l past p s x g qs needs h may =
    subst AreDistinct (sym (choose_members l past p s x g qs needs may).0) (choice_distinct l past needs.dest p h)

-- a copy goes to a member
pub copy_port : (x y : MsgId) (g : Ui) (n : ℕ) (qs : List Ui) (m : Sent) → find_sent x (copies y g n qs) ≡ Some m → is_member m.port qs ≡ true
copy_port x y g n [] m h = none_some m h
copy_port x y g n (q ∷ qs) m h =
    let k : Sent = record { id = record y { copy = n }; port = q; route = Some g } in
    elim (cond_some (same_id k.id x) k m (find_sent x (copies y g (n + 1) qs)) h) [
      | inl this ↦ or_left (same_ui q m.port) (is_member m.port qs) (subst (λ (z : Sent). same_ui q z.port ≡ true) this.1 (same_ui-self q))
      | inr later ↦ or_right (same_ui q m.port) (is_member m.port qs) (copy_port x y g (n + 1) qs m later.1)
    ]

apart_case : (x z : MsgId) (h m k : Sent) (b : Bool) (ps : List Sent) (qs : List Ui) → find_sent z (cond b [] (h ∷ ps)) ≡ Some k → k.port ≡ m.port → is_member h.port qs ≡ false → is_member m.port qs ≡ true → (find_sent z ps ≡ Some k → ⊥) → ⊥
apart_case x z h m k true ps qs f e off on i = none_some k f
apart_case x z h m k false ps qs f e off on i =
    elim (cond_some (same_id h.id z) h k (find_sent z ps) f) [
      | inl this ↦ false≢true (sym off ∙ (ap (λ u. is_member u qs) (ap (λ (w : Sent). w.port) this.1 ∙ e) ∙ on))
      | inr later ↦ i later.1
    ]

-- no copy before x goes to the port of x
pub copies_apart : (x z y : MsgId) (g : Ui) (n : ℕ) (qs : List Ui) (m k : Sent) → AreDistinct qs → find_sent x (copies y g n qs) ≡ Some m → find_sent z (prior x (copies y g n qs)) ≡ Some k → k.port ≡ m.port → ⊥
copies_apart x z y g n [] m k d h f e = none_some m h
copies_apart x z y g n (q ∷ qs) m k d h f e =
    let c : Sent = record { id = record y { copy = n }; port = q; route = Some g } in
    elim (cond_some (same_id c.id x) c m (find_sent x (copies y g (n + 1) qs)) h) [
      | inl this ↦ none_some k (ap (λ b. find_sent z (cond b [] (c ∷ prior x (copies y g (n + 1) qs)))) (sym this.0) ∙ f)
      | inr later ↦ apart_case x z c m k (same_id c.id x) (prior x (copies y g (n + 1) qs)) qs f e d.0 (copy_port x y g (n + 1) qs m later.1) (λ i. copies_apart x z y g (n + 1) qs m k d.1 later.1 i e)
    ]
