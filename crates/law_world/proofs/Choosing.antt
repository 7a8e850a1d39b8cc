-- Whom a post to a group chooses, and how its members take turns.
use Rattle.std.proofs.Common.{ℕ, suc, ◌≡◌, ◌+◌, ◌-◌, ◌<◌, ◌≤◌, ◌==◌, nat_lt, Bool, true, false, not, ◌&&◌, ◌||◌, cond, if◌then◌else◌, List, [], ◌∷◌, ◌++◌, length, take, drop, Some, refl, sym, ◌∙◌, ap, subst, arith, inl, inr}
use Rattle.std.specs.Prelude.{find}
use Rattle.std.specs.Option.{unwrap_or}
use Rattle.std.specs.List.{list_all}
use Rattle.std.proofs.lemmas.Bool.{and_parts, and_from, or_cases, eqb-true, ltb-true, false≢true, true≢false}
use Rattle.std.proofs.lemmas.List.{length_push}
use Rattle.std.proofs.lemmas.List.Folds.{list_any-append}
use Rattle.chorus_ui.specs.declared.ui.Ui.{Ui}
use Rattle.chorus_ui.specs.declared.layout.Layout.{Layout}
use Rattle.chorus_ui.specs.Layout.{group_place}
use Rattle.chorus_ui.specs.Name.{same_ui}
use Rattle.chorus_ui.proofs.Names.{from_same_ui, same_ui-self}
use Rattle.chorus_entry.specs.declared.entry.Entry.{Entry}
use Rattle.chorus_entry.specs.declared.id.MsgId.{MsgId}
use Rattle.chorus_entry.specs.declared.dest.Dest.{Dest}
use Rattle.chorus_entry.specs.declared.dest.Dest.TheVariants as dests
use Rattle.chorus_entry.specs.declared.act.Act.{Act}
use Rattle.chorus_entry.specs.declared.act.Act.TheVariants.{NoMember, Choose, Join, Leave}
use Rattle.chorus_entry.specs.Dest.{group_in}
use Rattle.chorus_entry.specs.Members.{is_member, are_distinct, without, index_of, IsPosition, wrapped, round_from, turned, turned_back, first_of, listed}
use Rattle.chorus_entry.specs.Order.{is_at}
use Rattle.chorus_world.specs.Views.{views, at, about}
use Rattle.chorus_world.specs.Posts.{Posted}
use Rattle.chorus_world.specs.Messages.{progress}
use Rattle.chorus_world.specs.Groups.{members, members_after, rotation, rotation_after, in_turn, is_at_site, choice}
use Rattle.chorus_world.specs.Steps.{act_may, is_legal, is_group_at, choice_from, may_choose_from}
use Rattle.chorus_world.proofs.Steps.LegalLemmas.{legal_parts}
use Rattle.chorus_world.proofs.Ports.LineLemmas.{none_some}
use Rattle.chorus_world.proofs.Messages.SendingLemmas.{some_is}
use Rattle.chorus_world.proofs.Messages.Decided.{may_as}
use Rattle.chorus_world.proofs.Messages.PostLemmas.{ChoiceNeeds, choose_needs, no_member_needs, asked_facts}
use Rattle.chorus_world.proofs.Messages.MessageInvariant.{legal_messages}
use Rattle.chorus_world.proofs.Groups.MemberLemmas.{AreDistinct, join_needs, members_distinct, choose_members}
use Rattle.law_world.specs.Choices.{joins, leaves, belongs, joined_at, AreInJoinOrder, AreMembers, IsPostTo, IsFirstInTurn, NamesMembers, ChoosesMembers, HasNoMember, FindsNoMember, turns, TurnsGoOn}
use Rattle.law_world.proofs.Turning.{parts, length-take, StandsAt, member-stands, without-at, distinct-behind, turn-chosen, turn-left, turn-joined}

-- Lists of members.

second : (a b : Bool) → b ≡ true → a || b ≡ true
second true b e = refl
second false b e = e

first : (a b : Bool) → a ≡ true → a || b ≡ true
first true b e = refl
first false b e = absurd (false≢true e)

member-more : (q : Ui) (xs ys : List Ui) → is_member q (xs ++ ys) ≡ (is_member q xs || is_member q ys)
member-more q xs ys = list_any-append (λ r. same_ui r q) xs ys

member-push : (q r : Ui) (qs : List Ui) → is_member q (qs ++ r ∷ []) ≡ (same_ui r q || is_member q qs)
member-push q r qs = member-more q qs (r ∷ []) ∙ by (is_member q qs) (same_ui r q)
  where
    by : (a b : Bool) → (a || (b || false)) ≡ (b || a)
    by true true = refl
    by true false = refl
    by false true = refl
    by false false = refl

-- of distinct ports without one of them
member-without : (q r : Ui) (qs : List Ui) → AreDistinct qs → is_member r qs ≡ true → is_member q (without r qs) ≡ (not (same_ui r q) && is_member q qs)
member-without q r qs d h =
    let s = member-stands r qs h in
    let xs = s.before in
    let ys = s.after in
    let behind = distinct-behind r xs ys (subst AreDistinct s.is d) in
    ap (is_member q) (ap (without r) s.is ∙ without-at r xs ys s.new)
    ∙ (member-more q xs ys
    ∙ (by (same_ui r q) refl xs ys s.new behind ∙ ap (λ b. not (same_ui r q) && b) (sym (ap (is_member q) s.is ∙ member-more q xs (r ∷ ys)))))
  where
    by : (b : Bool) → same_ui r q ≡ b → (xs ys : List Ui) → is_member r xs ≡ false → is_member r ys ≡ false → (is_member q xs || is_member q ys) ≡ (not (same_ui r q) && (is_member q xs || (same_ui r q || is_member q ys)))
    by true t xs ys new behind =
        let same : r ≡ q = from_same_ui r q t in
        (λ i. subst (λ z. is_member z xs ≡ false) same new i || subst (λ z. is_member z ys ≡ false) same behind i)
        ∙ sym (ap (λ b. not b && (is_member q xs || (same_ui r q || is_member q ys))) t)
    by false t xs ys new behind = sym (ap (λ b. not b && (is_member q xs || (b || is_member q ys))) t)

-- What the entries of a place say of the members.

record MembersStand (g : Ui) (here : List Entry) (qs : List Ui) : Type 0 where
  all : (q : Ui) → is_member q qs ≡ belongs g q here
  order : AreInJoinOrder g here qs
  early : (q : Ui) → is_member q qs ≡ true → joined_at g q here < length here

-- an order that is told by other entries, of as many or fewer ports
order-same : (g : Ui) (here now : List Entry) (qs : List Ui) → ((q : Ui) → is_member q qs ≡ true → joined_at g q now ≡ joined_at g q here) → AreInJoinOrder g here qs → AreInJoinOrder g now qs
order-same g here now [] same h = tt
order-same g here now (q ∷ qs) same h = (
  λ r k.
      let a = same q (first (same_ui q q) (is_member q qs) (same_ui-self q)) in
      let b = same r (second (same_ui q r) (is_member r qs) k) in
      let lt = h.0 r k in
      omega (arith, a, b, lt),
  order-same g here now qs (λ r k. same r (second (same_ui q r) (is_member r qs) k)) h.1,
)

order-without : (g : Ui) (here : List Entry) (xs ys : List Ui) (r : Ui) → AreInJoinOrder g here (xs ++ r ∷ ys) → AreInJoinOrder g here (xs ++ ys)
order-without g here [] ys r h = h.1
order-without g here (q ∷ xs) ys r h = (λ z k. h.0 z (inside z k), order-without g here xs ys r h.1)
  where
    inside : (z : Ui) → is_member z (xs ++ ys) ≡ true → is_member z (xs ++ r ∷ ys) ≡ true
    inside z k =
        member-more z xs (r ∷ ys)
        ∙ (elim (or_cases (is_member z xs) (is_member z ys) (sym (member-more z xs ys) ∙ k)) [
          | inl a ↦ first (is_member z xs) (same_ui r z || is_member z ys) a
          | inr b ↦ second (is_member z xs) (same_ui r z || is_member z ys) (second (same_ui r z) (is_member z ys) b)
        ])

order-push : (g : Ui) (here : List Entry) (qs : List Ui) (r : Ui) → AreInJoinOrder g here qs → ((q : Ui) → is_member q qs ≡ true → joined_at g q here < joined_at g r here) → AreInJoinOrder g here (qs ++ r ∷ [])
order-push g here [] r h last = (λ z k. absurd (false≢true k), tt)
order-push g here (q ∷ qs) r h last = (
  λ z k. elim (or_cases (same_ui r z) (is_member z qs) (sym (member-push z r qs) ∙ k)) [
    | inl this ↦ subst (λ u. joined_at g q here < joined_at g u here) (from_same_ui r z this) (last q (first (same_ui q q) (is_member q qs) (same_ui-self q)))
    | inr old ↦ h.0 z old
  ],
  order-push g here qs r h.1 (λ z k. last z (second (same_ui q z) (is_member z qs) k)),
)

-- An entry that does not concern the group's members.
stands-other : (g : Ui) (here : List Entry) (e : Entry) (qs : List Ui) → ((q : Ui) → joins g q e.act ≡ false) → ((q : Ui) → leaves g q e.act ≡ false) → MembersStand g here qs → MembersStand g (e ∷ here) qs
stands-other g here e qs j v m =
    let same : (q : Ui) → joined_at g q (e ∷ here) ≡ joined_at g q here = λ q. ap (λ b. cond b (length here) (joined_at g q here)) (j q) in
    record {
      all = λ q. m.all q ∙ sym (λ i. j q i || (not (v q i) && belongs g q here));
      order = order-same g here (e ∷ here) qs (λ q k. same q) m.order;
      early = λ q k. (let a = same q in let lt = m.early q k in omega (arith, a, lt));
    }

-- one joins
stands-joined : (g r : Ui) (here : List Entry) (e : Entry) (qs : List Ui) → e.act ≡ Join g r → is_member r qs ≡ false → MembersStand g here qs → MembersStand g (e ∷ here) (qs ++ r ∷ [])
stands-joined g r here e qs is new m =
    record { all = all; order = order-push g (e ∷ here) qs r (order-same g here (e ∷ here) qs stays m.order) (λ q k. (let a = stays q k in let b = now in let lt = m.early q k in omega (arith, a, b, lt))); early = early }
  where
    joins-is : (q : Ui) → joins g q e.act ≡ same_ui r q
    joins-is q = ap (joins g q) is ∙ ap (λ b. b && same_ui r q) (same_ui-self g)

    leaves-is : (q : Ui) → leaves g q e.act ≡ false
    leaves-is q = ap (leaves g q) is

    now : joined_at g r (e ∷ here) ≡ length here
    now = ap (λ b. cond b (length here) (joined_at g r here)) (joins-is r ∙ same_ui-self r)

    stays : (q : Ui) → is_member q qs ≡ true → joined_at g q (e ∷ here) ≡ joined_at g q here
    stays q k = ap (λ b. cond b (length here) (joined_at g q here)) (joins-is q ∙ apart (same_ui r q) refl)
      where
        apart : (b : Bool) → same_ui r q ≡ b → b ≡ false
        apart false t = refl
        apart true t = absurd (true≢false (sym k ∙ (ap (λ z. is_member z qs) (sym (from_same_ui r q t)) ∙ new)))

    all : (q : Ui) → is_member q (qs ++ r ∷ []) ≡ belongs g q (e ∷ here)
    all q = member-push q r qs ∙ ((λ i. same_ui r q || m.all q i) ∙ sym (λ i. joins-is q i || (not (leaves-is q i) && belongs g q here)))

    early : (q : Ui) → is_member q (qs ++ r ∷ []) ≡ true → joined_at g q (e ∷ here) < length (e ∷ here)
    early q k =
        elim (or_cases (same_ui r q) (is_member q qs) (sym (member-push q r qs) ∙ k)) [
          | inl this ↦ subst (λ z. joined_at g z (e ∷ here) < length (e ∷ here)) (from_same_ui r q this) (let b = now in omega (arith, b))
          | inr old ↦ (let a = stays q old in let lt = m.early q old in omega (arith, a, lt))
        ]

-- one leaves
stands-left : (g r : Ui) (here : List Entry) (e : Entry) (qs : List Ui) → e.act ≡ Leave g r → AreDistinct qs → is_member r qs ≡ true → MembersStand g here qs → MembersStand g (e ∷ here) (without r qs)
stands-left g r here e qs is d h m =
    record {
      all = all;
      order = subst (AreInJoinOrder g (e ∷ here)) (sym out) (order-without g (e ∷ here) s.before s.after r (order-same g here (e ∷ here) (s.before ++ r ∷ s.after) (λ q k. stays q) (subst (AreInJoinOrder g here) s.is m.order)));
      early = λ q k. (
          let a = stays q in
          let lt = m.early q (last-part (not (same_ui r q)) (is_member q qs) (sym (member-without q r qs d h) ∙ k)) in
          omega (arith, a, lt));
    }
  where
    s : StandsAt r qs
    s = member-stands r qs h

    out : without r qs ≡ (member-stands r qs h).before ++ (member-stands r qs h).after
    out = ap (without r) (member-stands r qs h).is ∙ without-at r (member-stands r qs h).before (member-stands r qs h).after (member-stands r qs h).new

    stays : (q : Ui) → joined_at g q (e ∷ here) ≡ joined_at g q here
    stays q = ap (λ b. cond b (length here) (joined_at g q here)) (ap (joins g q) is)

    last-part : (a b : Bool) → a && b ≡ true → b ≡ true
    last-part true b k = k
    last-part false b k = absurd (false≢true k)

    all : (q : Ui) → is_member q (without r qs) ≡ belongs g q (e ∷ here)
    all q =
        member-without q r qs d h
        ∙ ((λ i. not (same_ui r q) && m.all q i)
        ∙ sym (λ i. joins g q (is i) || (not (leaves-is q i) && belongs g q here)))
      where
        leaves-is : (q : Ui) → leaves g q e.act ≡ same_ui r q
        leaves-is q = ap (leaves g q) is ∙ ap (λ b. b && same_ui r q) (same_ui-self g)

-- What a Leave needs.
leave-needs : (l : Layout) (past : List Entry) (p s : ℕ) (g q : Ui) → act_may l (views past p s (Leave g q)) p s (Leave g q) ≡ true → is_member q (members g (at p past)) ≡ true
leave-needs l past p s g q h = (and_parts (is_group_at l (views past p s (Leave g q)) p g) (is_member q (members g (at p past))) h).1

members-step : (l : Layout) (past : List Entry) (e : Entry) (g : Ui) (a : Act) → is_legal l past ≡ true → e.act ≡ a → act_may l (views past e.place e.seat a) e.place e.seat a ≡ true → MembersStand g (at e.place past) (members g (at e.place past)) → MembersStand g (e ∷ at e.place past) (members_after g a (members g (at e.place past)))
members-step l past e g (Join h r) legal is may m = by (same_ui h g) refl
  where
    here : List Entry
    here = at e.place past

    by : (b : Bool) → same_ui h g ≡ b → MembersStand g (e ∷ at e.place past) (cond b (members g (at e.place past) ++ r ∷ []) (members g (at e.place past)))
    by true t =
        let same : h ≡ g = from_same_ui h g t in
        stands-joined g r (at e.place past) e (members g (at e.place past)) (is ∙ ap (λ z. Join z r) same) (subst (λ z. is_member r (members z (at e.place past)) ≡ false) same (join_needs l past e.place e.seat h r may).1) m
    by false t =
        stands-other g (at e.place past) e (members g (at e.place past))
        (λ q. ap (joins g q) is ∙ ap (λ b. b && same_ui r q) t) (λ q. ap (leaves g q) is) m
members-step l past e g (Leave h r) legal is may m = by (same_ui h g) refl
  where
    by : (b : Bool) → same_ui h g ≡ b → MembersStand g (e ∷ at e.place past) (cond b (without r (members g (at e.place past))) (members g (at e.place past)))
    by true t =
        let same : h ≡ g = from_same_ui h g t in
        stands-left g r (at e.place past) e (members g (at e.place past)) (is ∙ ap (λ z. Leave z r) same) (members_distinct l past g e.place legal)
        (subst (λ z. is_member r (members z (at e.place past)) ≡ true) same (leave-needs l past e.place e.seat h r may)) m
    by false t =
        stands-other g (at e.place past) e (members g (at e.place past))
        (λ q. ap (joins g q) is) (λ q. ap (leaves g q) is ∙ ap (λ b. b && same_ui r q) t) m
members-step l past e g a legal is may m =
    stands-other g (at e.place past) e (members g (at e.place past)) (λ q. ap (joins g q) is) (λ q. ap (leaves g q) is) m

members-stand : (l : Layout) (past : List Entry) (g : Ui) (p : ℕ) → is_legal l past ≡ true → MembersStand g (at p past) (members g (at p past))
members-stand l [] g p h = record { all = λ q. refl; order = tt; early = λ q k. absurd (false≢true k) }
members-stand l (e ∷ past) g p h = go (is_at p e) refl (members-stand l past g p two.1)
  where
    two : (act_may l (views past e.place e.seat e.act) e.place e.seat e.act ≡ true) × (is_legal l past ≡ true)
    two = legal_parts l e past h

    go : (b : Bool) → is_at p e ≡ b → MembersStand g (at p past) (members g (at p past)) → MembersStand g (cond b (e ∷ at p past) (at p past)) (members g (cond b (e ∷ at p past) (at p past)))
    go false t m = m
    go true t m =
        let place : e.place ≡ p = eqb-true e.place p t in
        subst (λ z. MembersStand g (e ∷ at z past) (members_after g e.act (members g (at z past)))) place
        (members-step l past e g e.act two.1 refl two.0 (subst (λ z. MembersStand g (at z past) (members g (at z past))) (sym place) m))

distinct-test : (qs : List Ui) → AreDistinct qs → are_distinct qs ≡ true
distinct-test [] d = refl
distinct-test (q ∷ qs) d = and_from (not (is_member q qs)) (are_distinct qs) (ap not d.0) (distinct-test qs d.1)

are-members : (l : Layout) (past : List Entry) (g : Ui) (p : ℕ) → is_legal l past ≡ true → AreMembers g (at p past) (members g (at p past))
are-members l past g p h =
    let m = members-stand l past g p h in
    record { all = m.all; once = distinct-test (members g (at p past)) (members_distinct l past g p h); order = m.order }

-- Who is in turn is a member.
turn-members : (g : Ui) (here : List Entry) (q : Ui) → is_member q (in_turn g here) ≡ is_member q (members g here)
turn-members g here q =
    let qs = members g here in
    let i = rotation g here in
    member-more q (drop i qs) (take i qs)
    ∙ (or-swap (is_member q (drop i qs)) (is_member q (take i qs))
    ∙ (sym (member-more q (take i qs) (drop i qs)) ∙ ap (is_member q) (sym (parts i qs))))
  where
    or-swap : (a b : Bool) → (a || b) ≡ (b || a)
    or-swap true true = refl
    or-swap true false = refl
    or-swap false true = refl
    or-swap false false = refl

-- Whom a post chooses.

-- the first that passes a test, and that none does
record FoundAt (test : Ui → Bool) (qs rs : List Ui) : Type 0 where
  member : Ui
  is : rs ≡ member ∷ []
  passes : test member ≡ true
  before : List Ui
  after : List Ui
  stands : qs ≡ before ++ member ∷ after
  others : list_all (λ q. not (test q)) before ≡ true

found-at : (test : Ui → Bool) (qs : List Ui) → 0 < length (listed (find test qs)) → FoundAt test qs (listed (find test qs))
found-at test [] h = absurd (omega (arith, h))
found-at test (q ∷ qs) h = go (test q) refl h (found-at test qs)
  where
    go : (b : Bool) → test q ≡ b → 0 < length (listed (cond b (Some q) (find test qs))) → (0 < length (listed (find test qs)) → FoundAt test qs (listed (find test qs))) → FoundAt test (q ∷ qs) (listed (cond b (Some q) (find test qs)))
    go true t k ih = record { member = q; is = refl; passes = t; before = []; after = qs; stands = refl; others = refl }
    go false t k ih =
        let f = ih k in
        record {
          member = f.member;
          is = f.is;
          passes = f.passes;
          before = q ∷ f.before;
          after = f.after;
          stands = ap (λ zs. q ∷ zs) f.stands;
          others = and_from (not (test q)) (list_all (λ z. not (test z)) f.before) (ap not t) f.others;
        }

none-found : (test : Ui → Bool) (qs : List Ui) → length (listed (find test qs)) ≡ 0 → (q : Ui) → is_member q qs ≡ true → test q ≡ false
none-found test [] h q k = absurd (false≢true k)
none-found test (r ∷ rs) h q k = go (test r) refl h (none-found test rs)
  where
    go : (b : Bool) → test r ≡ b → length (listed (cond b (Some r) (find test rs))) ≡ 0 → (length (listed (find test rs)) ≡ 0 → (q : Ui) → is_member q rs ≡ true → test q ≡ false) → test q ≡ false
    go true t j ih = absurd (let bad : 1 ≡ 0 = j in omega (arith, bad))
    go false t j ih =
        elim (or_cases (same_ui r q) (is_member q rs) k) [
          | inl this ↦ ap test (sym (from_same_ui r q this)) ∙ t
          | inr later ↦ ih j q later
        ]

-- the first of a list
first-found : (qs : List Ui) → listed (first_of qs) ≡ listed (find (λ q. true) qs)
first-found [] = refl
first-found (q ∷ qs) = refl

post-to : (l : Layout) (past : List Entry) (p : ℕ) (x : MsgId) (g : Ui) (n : ChoiceNeeds l past p x g) → is_legal l past ≡ true → (post : Posted) × IsPostTo l past p x g post × (post.dest ≡ n.dest)
post-to l past p x g n h =
    let a = (asked_facts x past n.from n.dest (legal_messages l past h x) n.asked).1 in (
      a.post,
      record {
        posted = a.posted;
        own = a.copy;
        group = ap group_in a.dest ∙ n.group;
        place = ap (unwrap_or (group_place l g)) a.place ∙ eqb-true (unwrap_or (group_place l g) n.from) p n.place;
      },
      a.dest,
    )

module _ (l : Layout) (past : List Entry) (p : ℕ) (g : Ui) (h : is_legal l past ≡ true) where
  found-member : (test : Ui → Bool) (qs : List Ui) → 0 < length qs → qs ≡ listed (find test (in_turn g (at p past))) → IsFirstInTurn test g (at p past) qs
  found-member test qs some is =
      let here = at p past in
      let f = found-at test (in_turn g here) (subst (λ zs. 0 < length zs) is some) in
      record {
        member = f.member;
        is = is ∙ f.is;
        belongs = sym ((members-stand l past g p h).all f.member) ∙ (sym (turn-members g here f.member) ∙ (ap (is_member f.member) f.stands ∙ inside f.member f.before f.after));
        passes = f.passes;
        before = f.before;
        after = f.after;
        turn = f.stands;
        first = f.others;
      }
    where
      inside : (q : Ui) (xs ys : List Ui) → is_member q (xs ++ q ∷ ys) ≡ true
      inside q [] ys = first (same_ui q q) (is_member q ys) (same_ui-self q)
      inside q (x ∷ xs) ys = second (same_ui x q) (is_member q (xs ++ q ∷ ys)) (inside q xs ys)

  names : (d : Dest) (qs : List Ui) → group_in d ≡ Some g → 0 < length qs → qs ≡ choice l d (at p past) → NamesMembers l g (at p past) d qs
  names (dests.Port q) qs e some is = none_some g e
  names (dests.All f) qs e some is =
      (subst (AreMembers g (at p past)) (sym (is ∙ ap (λ z. members z (at p past)) (some_is f g e))) (are-members l past g p h), some)
  names (dests.One f) qs e some is =
      found-member (λ q. true) qs some (is ∙ (ap (λ z. listed (first_of (in_turn z (at p past)))) (some_is f g e) ∙ first-found (in_turn g (at p past))))
  names (dests.OneAt f s) qs e some is =
      found-member (is_at_site l s (at p past)) qs some (is ∙ ap (λ z. listed (find (is_at_site l s (at p past)) (in_turn z (at p past)))) (some_is f g e))

  -- nobody belongs to it
  nobody : (qs : List Ui) → length qs ≡ 0 → (q : Ui) → is_member q qs ≡ false
  nobody [] e q = refl
  nobody (r ∷ rs) e q = absurd (let bad : suc (length rs) ≡ 0 = e in omega (arith, bad))

  no-member : (d : Dest) → group_in d ≡ Some g → length (choice l d (at p past)) ≡ 0 → HasNoMember l g (at p past) d
  no-member (dests.Port q) e none = none_some g e
  no-member (dests.All f) e none =
      λ q. sym ((members-stand l past g p h).all q) ∙ nobody (members g (at p past)) (ap (λ z. length (members z (at p past))) (sym (some_is f g e)) ∙ none) q
  no-member (dests.One f) e none =
      λ q. absent q (is_member q (members g (at p past))) refl
    where
      some-in-turn : length (listed (find (λ q. true) (in_turn g (at p past)))) ≡ 0
      some-in-turn = ap length (sym (first-found (in_turn g (at p past))) ∙ ap (λ z. listed (first_of (in_turn z (at p past)))) (sym (some_is f g e))) ∙ none

      absent : (q : Ui) (b : Bool) → is_member q (members g (at p past)) ≡ b → belongs g q (at p past) ≡ false
      absent q false k = sym ((members-stand l past g p h).all q) ∙ k
      absent q true k = absurd (true≢false (none-found (λ z. true) (in_turn g (at p past)) some-in-turn q (turn-members g (at p past) q ∙ k)))
  no-member (dests.OneAt f s) e none =
      λ q k. none-found (is_at_site l s (at p past)) (in_turn g (at p past)) (ap (λ z. length (listed (find (is_at_site l s (at p past)) (in_turn z (at p past))))) (sym (some_is f g e)) ∙ none) q
      (turn-members g (at p past) q ∙ ((members-stand l past g p h).all q ∙ k))

pub chooses-members : (l : Layout) (past : List Entry) (e : Entry) → is_legal l (e ∷ past) ≡ true → ChoosesMembers l past e
chooses-members l past e h x g qs is =
    let before = (legal_parts l e past h).1 in
    let may = may_as l past e (Choose x g qs) h is in
    let n = choose_needs l past e.place e.seat x g qs may in
    let m = choose_members l past e.place e.seat x g qs n may in
    let post = post-to l past e.place x g n before in
    (post.0, post.1, subst (λ d. NamesMembers l g (at e.place past) d qs) (sym post.2) (names l past e.place g before n.dest qs n.group m.1 m.0))

pub finds-no-member : (l : Layout) (past : List Entry) (e : Entry) → is_legal l (e ∷ past) ≡ true → FindsNoMember l past e
finds-no-member l past e h x g is =
    let before = (legal_parts l e past h).1 in
    let may = may_as l past e (NoMember x g) h is in
    let n = no_member_needs l past e.place e.seat x g may in
    let post = post-to l past e.place x g n before in
    let v = views past e.place e.seat (NoMember x g) in
    let state = progress (about x past) in
    let empty = eqb-true (length (choice_from l (at e.place past) state)) 0 (and_parts (may_choose_from l v e.place x g state) (length (choice_from l (at e.place past) state) == 0) may).1 in
    let none : length (choice l n.dest (at e.place past)) ≡ 0 = ap (λ z. length (choice_from l (at e.place past) z)) (sym n.asked) ∙ empty in
    (post.0, post.1, subst (λ d. HasNoMember l g (at e.place past) d) (sym post.2) (no-member l past e.place g before n.dest n.group none))

-- Turns.

wrapped-position : (n k : ℕ) → IsPosition (wrapped n k) n
wrapped-position n k = by (nat_lt k n) refl
  where
    by : (b : Bool) → nat_lt k n ≡ b → (if b then k else 0) ≤ n - 1
    by true h = let lt = ltb-true k n h in omega (arith, lt)
    by false h = omega arith

turned-position : (qs ms : List Ui) (i : ℕ) → IsPosition i (length qs) → IsPosition (turned qs ms i) (length qs)
turned-position qs [] i h = h
turned-position qs (q ∷ []) i h = wrapped-position (length qs) (index_of q qs + 1)
turned-position qs (q ∷ r ∷ ms) i h = h

-- the rotation place is a position among the members
position-step : (g : Ui) (a : Act) (qs : List Ui) (i : ℕ) → IsPosition i (length qs) → IsPosition (rotation_after g qs a i) (length (members_after g a qs))
position-step g (Choose x h ms) qs i k = by (same_ui h g)
  where
    by : (b : Bool) → IsPosition (cond b (turned qs ms i) i) (length qs)
    by true = turned-position qs ms i k
    by false = k
position-step g (Join h q) qs i k = by (same_ui h g)
  where
    by : (b : Bool) → IsPosition i (length (cond b (qs ++ q ∷ []) qs))
    by true = (let n = length_push qs q in let le : i ≤ length qs - 1 = k in omega (arith, n, le))
    by false = k
position-step g (Leave h q) qs i k = by (same_ui h g)
  where
    by : (b : Bool) → IsPosition (cond b (turned_back qs q i) i) (length (cond b (without q qs) qs))
    by true = wrapped-position (length (without q qs)) (if nat_lt (index_of q qs) i then i - 1 else i)
    by false = k
position-step g a qs i k = k

rotation-position : (g : Ui) (here : List Entry) → IsPosition (rotation g here) (length (members g here))
rotation-position g [] = omega arith
rotation-position g (e ∷ here) = position-step g e.act (members g here) (rotation g here) (rotation-position g here)

-- what an act makes of the members and of the rotation place is told by its name
module _ (g : Ui) (here : List Entry) (e : Entry) where
  abbrev qs : List Ui
  qs = members g here

  abbrev i : ℕ
  i = rotation g here

  within : i ≤ length qs
  within = (let le : rotation g here ≤ length (members g here) - 1 = rotation-position g here in omega (arith, le))

  abbrev Turned : Act → List Ui
  Turned a = round_from (rotation_after g qs a i) (members_after g a qs)

  choice-turned : (x : MsgId) (q : Ui) (before after : List Ui) → AreDistinct qs → e.act ≡ Choose x g (q ∷ []) → in_turn g here ≡ before ++ q ∷ after → in_turn g (e ∷ here) ≡ after ++ before ++ q ∷ []
  choice-turned x q before after d is split =
      ap Turned is
      ∙ (ap (λ b. round_from (cond b (turned qs (q ∷ []) i) i) qs) (same_ui-self g)
      ∙ ((λ j. round_from (turned (parts i qs j) (q ∷ []) (sym (length-take i qs within) j)) (parts i qs j))
      ∙ turn-chosen q (take i qs) (drop i qs) before after (subst AreDistinct (parts i qs) d) split))

  leave-turned : (q : Ui) → AreDistinct qs → is_member q qs ≡ true → e.act ≡ Leave g q → in_turn g (e ∷ here) ≡ without q (in_turn g here)
  leave-turned q d m is =
      ap Turned is
      ∙ ((λ j. round_from (cond (same_ui-self g j) (turned_back qs q i) i) (cond (same_ui-self g j) (without q qs) qs))
      ∙ ((λ j. round_from (turned_back (parts i qs j) q (sym (length-take i qs within) j)) (without q (parts i qs j)))
      ∙ turn-left q (take i qs) (drop i qs) (subst AreDistinct (parts i qs) d) (ap (is_member q) (sym (parts i qs)) ∙ m)))

  join-turned : (q : Ui) → e.act ≡ Join g q → first_of (in_turn g (e ∷ here)) ≡ Some (unwrap_or (first_of (in_turn g here)) q)
  join-turned q is =
      ap (λ a. first_of (Turned a)) is
      ∙ (ap (λ b. first_of (round_from i (cond b (qs ++ q ∷ []) qs))) (same_ui-self g)
      ∙ ((λ j. first_of (round_from (sym (length-take i qs within) j) (parts i qs j ++ q ∷ [])))
      ∙ turn-joined q (take i qs) (drop i qs) (subst (λ zs. IsPosition (length (take i qs)) (length zs)) (parts i qs) (subst (λ n. IsPosition n (length qs)) (sym (length-take i qs within)) (rotation-position g here)))))

  other-turned : (a : Act) → turns g a ≡ false → Turned a ≡ in_turn g here
  other-turned (Choose x h []) t = ap (λ k. round_from k qs) (by (same_ui h g))
    where
      by : (b : Bool) → cond b (rotation g here) (rotation g here) ≡ rotation g here
      by true = refl
      by false = refl
  other-turned (Choose x h (q ∷ [])) t = ap (λ b. round_from (cond b (turned qs (q ∷ []) i) i) qs) t
  other-turned (Choose x h (q ∷ r ∷ ms)) t = ap (λ k. round_from k qs) (by (same_ui h g))
    where
      by : (b : Bool) → cond b (rotation g here) (rotation g here) ≡ rotation g here
      by true = refl
      by false = refl
  other-turned (Join h q) t = ap (λ b. round_from i (cond b (qs ++ q ∷ []) qs)) t
  other-turned (Leave h q) t = λ j. round_from (cond (t j) (turned_back qs q i) i) (cond (t j) (without q qs) qs)
  other-turned a t = refl

pub turns-go-on : (l : Layout) (past : List Entry) (e : Entry) → is_legal l (e ∷ past) ≡ true → TurnsGoOn past e
turns-go-on l past e h g =
    let here = at e.place past in
    let before = (legal_parts l e past h).1 in
    let d = members_distinct l past g e.place before in (
      record { before = take (rotation g here) (members g here); after = drop (rotation g here) (members g here); members = parts (rotation g here) (members g here); turn = refl },
      record {
        chosen = λ x q front rest is split. choice-turned g here e x q front rest d is split;
        left = λ q is. leave-turned g here e q d (leave-needs l past e.place e.seat g q (may_as l past e (Leave g q) h is)) is;
        joined = λ q is. join-turned g here e q is;
        same = λ t. other-turned g here e e.act t;
      },
    )
