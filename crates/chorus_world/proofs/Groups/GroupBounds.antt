-- Facts of legal lists: a group's place, how many members it has, and how many groups a site made.
use Rattle.std.proofs.Common.{ℕ, zero, suc, ◌≡◌, ◌+◌, ◌≤◌, inl, inr, ◌==◌, nat_lt, nat_le, Bool, true, false, ◌&&◌, cond, List, [], ◌∷◌, ◌++◌, length, remove, refl, sym, ap, subst, arith, ltb-true, leb-true, length-append}
use Rattle.std.proofs.lemmas.Bool.{and_parts, false≢true, eqb-true, or_cases}
use Rattle.chorus_ui.specs.declared.ui.Ui.{Ui}
use Rattle.chorus_ui.specs.declared.layout.Layout.{Layout}
use Rattle.chorus_ui.specs.declared.limits.TheConstants.{GROUPS_PER_SITE_LIMIT, MEMBERS_LIMIT}
use Rattle.chorus_ui.specs.Name.{same_ui}
use Rattle.chorus_ui.proofs.Names.{from_same_ui}
use Rattle.chorus_entry.specs.declared.entry.Entry.{Entry}
use Rattle.chorus_entry.specs.declared.act.Act.{Act}
use Rattle.chorus_entry.specs.declared.act.Act.TheVariants.{GroupMake, Join, Leave}
use Rattle.chorus_world.specs.Views.{at, is_group, makes_group, views}
use Rattle.chorus_entry.specs.Order.{is_at}
use Rattle.chorus_world.specs.Groups.{groups_made, groups_after, members, members_after, is_group_place}
use Rattle.chorus_entry.specs.Members.{index_of, without}
use Rattle.chorus_world.specs.Steps.{act_may, is_legal}
use Rattle.chorus_world.proofs.Steps.LegalLemmas.{legal_parts}

-- where no site is, no group is made; and a group that is made at a place has its place there
made-at : (l : Layout) (past : List Entry) (p s : ℕ) (a : Act) (g : Ui) → act_may l (views past p s a) p s a ≡ true → makes_group g a ≡ true → is_group_place l g p ≡ true
made-at l past p s (GroupMake h) g may m =
    let two = and_parts (is_group_place l h p && (h.number == groups_made (at p past) + 1)) (nat_le h.number GROUPS_PER_SITE_LIMIT) may in
    subst (λ z. is_group_place l z p ≡ true) (from_same_ui h g m) (and_parts (is_group_place l h p) (h.number == groups_made (at p past) + 1) two.0).0
made-at l past p s _ g may m = absurd (false≢true m)

pub group-place : (l : Layout) (past : List Entry) (g : Ui) (p : ℕ) → is_legal l past ≡ true → is_group g (at p past) ≡ true → is_group_place l g p ≡ true
group-place l [] g p h k = absurd (false≢true k)
group-place l (e ∷ past) g p h k = by (is_at p e) refl k (group-place l past g p (legal_parts l e past h).1)
  where
    by : (b : Bool) → is_at p e ≡ b → is_group g (cond b (e ∷ at p past) (at p past)) ≡ true → (is_group g (at p past) ≡ true → is_group_place l g p ≡ true) → is_group_place l g p ≡ true
    by false e' k' ih = ih k'
    by true e' k' ih =
        elim (or_cases (makes_group g e.act) (is_group g (at p past)) k') [
          | inl m ↦ subst (λ z. is_group_place l g z ≡ true) (eqb-true e.place p e') (made-at l past e.place e.seat e.act g (legal_parts l e past h).0 m)
          | inr m ↦ ih m
        ]

-- members
remove-less : (qs : List Ui) (i : ℕ) → length (remove qs i) ≤ length qs
remove-less [] zero = omega arith
remove-less [] (suc i) = omega arith
remove-less (q ∷ qs) zero = omega arith
remove-less (q ∷ qs) (suc i) = let ih = remove-less qs i in omega (arith, ih)

members-step : (l : Layout) (past : List Entry) (p s : ℕ) (a : Act) (g : Ui) → act_may l (views past p s a) p s a ≡ true → length (members g (at p past)) ≤ MEMBERS_LIMIT → length (members_after g a (members g (at p past))) ≤ MEMBERS_LIMIT
members-step l past p s (Join f q) g may le = by (same_ui f g) refl
  where
    by : (b : Bool) → same_ui f g ≡ b → length (cond b (members g (at p past) ++ q ∷ []) (members g (at p past))) ≤ MEMBERS_LIMIT
    by false e = le
    by true e =
        let room = ltb-true (length (members f (at p past))) MEMBERS_LIMIT (and_parts _ (nat_lt (length (members f (at p past))) MEMBERS_LIMIT) may).1 in
        let same : length (members f (at p past)) ≡ length (members g (at p past)) = ap (λ z. length (members z (at p past))) (from_same_ui f g e) in
        let more = length-append (members g (at p past)) (q ∷ []) in
        omega (arith, room, same, more)
members-step l past p s (Leave f q) g may le = by (same_ui f g)
  where
    by : (b : Bool) → length (cond b (without q (members g (at p past))) (members g (at p past))) ≤ MEMBERS_LIMIT
    by false = le
    by true = let less = remove-less (members g (at p past)) (index_of q (members g (at p past))) in omega (arith, less, le)
members-step l past p s _ g may le = le

pub members-few : (l : Layout) (past : List Entry) (g : Ui) (p : ℕ) → is_legal l past ≡ true → length (members g (at p past)) ≤ MEMBERS_LIMIT
members-few l [] g p h = omega arith
members-few l (e ∷ past) g p h = by (is_at p e) refl (members-few l past g p (legal_parts l e past h).1)
  where
    two : (act_may l (views past e.place e.seat e.act) e.place e.seat e.act ≡ true) × (is_legal l past ≡ true)
    two = legal_parts l e past h

    by : (b : Bool) → is_at p e ≡ b → length (members g (at p past)) ≤ MEMBERS_LIMIT → length (members g (cond b (e ∷ at p past) (at p past))) ≤ MEMBERS_LIMIT
    by false e' ih = ih
    by true e' ih =
        let same : e.place ≡ p = eqb-true e.place p e' in
        subst (λ z. length (members_after g e.act (members g (at z past))) ≤ MEMBERS_LIMIT) same
        (members-step l past e.place e.seat e.act g two.0 (subst (λ z. length (members g (at z past)) ≤ MEMBERS_LIMIT) (sym same) ih))

-- groups
groups-step : (l : Layout) (past : List Entry) (p s : ℕ) (a : Act) → act_may l (views past p s a) p s a ≡ true → groups_made (at p past) ≤ GROUPS_PER_SITE_LIMIT → groups_after a (groups_made (at p past)) ≤ GROUPS_PER_SITE_LIMIT
groups-step l past p s (GroupMake g) may le =
    let two = and_parts (is_group_place l g p && (g.number == groups_made (at p past) + 1)) (nat_le g.number GROUPS_PER_SITE_LIMIT) may in
    let number = eqb-true g.number (groups_made (at p past) + 1) (and_parts (is_group_place l g p) (g.number == groups_made (at p past) + 1) two.0).1 in
    let few = leb-true g.number GROUPS_PER_SITE_LIMIT two.1 in
    omega (arith, number, few)
groups-step l past p s _ may le = le

pub groups-few : (l : Layout) (past : List Entry) (p : ℕ) → is_legal l past ≡ true → groups_made (at p past) ≤ GROUPS_PER_SITE_LIMIT
groups-few l [] p h = omega arith
groups-few l (e ∷ past) p h = by (is_at p e) refl (groups-few l past p (legal_parts l e past h).1)
  where
    two : (act_may l (views past e.place e.seat e.act) e.place e.seat e.act ≡ true) × (is_legal l past ≡ true)
    two = legal_parts l e past h

    by : (b : Bool) → is_at p e ≡ b → groups_made (at p past) ≤ GROUPS_PER_SITE_LIMIT → groups_made (cond b (e ∷ at p past) (at p past)) ≤ GROUPS_PER_SITE_LIMIT
    by false e' ih = ih
    by true e' ih =
        let same : e.place ≡ p = eqb-true e.place p e' in
        subst (λ z. groups_after e.act (groups_made (at z past)) ≤ GROUPS_PER_SITE_LIMIT) same
        (groups-step l past e.place e.seat e.act two.0 (subst (λ z. groups_made (at z past) ≤ GROUPS_PER_SITE_LIMIT) (sym same) ih))
