-- Two entries that read nothing of one another may be exchanged, so what each entry of a list finds in its own place, seat,
-- message and held port is the same when the list is sorted.
use Rattle.std.proofs.Common.{ℕ, ◌≡◌, ◌<◌, ◌⊎◌, inl, inr, Bool, true, false, ◌==◌, nat_lt, ◌&&◌, cond, List, [], ◌∷◌, Option, Some, None, refl, sym, ◌∙◌, ap, subst, arith, All}
use Rattle.std.specs.List.{filter, AllByRecursion as Each}
use Rattle.std.proofs.lemmas.List.Elements.{All-from_recursion, recursion_from_All}
use Rattle.std.proofs.lemmas.Bool.{and_parts, and_from, cases_Bool, eqb-true, eq-eqb, ltb-true, lt-ltb, or_cases, or_left, or_right, false≢true, cases_order}
use Rattle.chorus_ui.specs.declared.ui.Ui.{Ui}
use Rattle.chorus_ui.specs.Name.{same_ui}
use Rattle.chorus_ui.proofs.Names.{from_same_ui, same_ui-self}
use Rattle.chorus_entry.specs.declared.entry.Entry.{Entry}
use Rattle.chorus_entry.specs.declared.id.MsgId.{MsgId}
use Rattle.chorus_entry.specs.Act.{message_of, held_port_of}
use Rattle.chorus_entry.specs.MsgId.{same_id}
use Rattle.chorus_entry.proofs.Same.{from_same_id, same_id-self}
use Rattle.chorus_world.specs.Views.{at, by, about, on, is_by, is_about, is_on}
use Rattle.chorus_entry.specs.Order.{is_at, comes_before, IsRising}
use Rattle.chorus_entry.specs.Same.{are_same}
use Rattle.chorus_world.specs.Order.{IsCausal, insert, sort}
use Rattle.chorus_world.specs.SortingLaws.{KeepsViews, SortsInOrder}
use Rattle.chorus_world.proofs.Steps.LegalLemmas.{skips, keeps}

-- nothing that e reads is in f, and nothing that f reads is in e: place, seat, message and held port differ
pub record IsApart (e f : Entry) : Type 0 where
  pub place : is_at e.place f ≡ false
  pub seat : is_by e.seat f ≡ false
  pub message : is_about (message_of e.act) f ≡ false
  pub port : is_on (held_port_of e.act) f ≡ false

-- the entry e stands rightly behind f: they are apart, or f comes before e
abbrev pub Follows : Entry → Entry → Type 0
Follows e f = IsApart e f ⊎ (comes_before f e ≡ true)

abbrev pub FollowsAll : Entry → List Entry → Type 0
FollowsAll e [] = Unit {0}
FollowsAll e (f ∷ past) = Follows e f × FollowsAll e past

abbrev pub IsChained : List Entry → Type 0
IsChained [] = Unit {0}
IsChained (e ∷ past) = FollowsAll e past × IsChained past

-- The order.

pub before_parts : (e f : Entry) → comes_before e f ≡ true → (e.clock < f.clock) ⊎ ((e.clock ≡ f.clock) × (e.place < f.place))
before_parts e f h =
    elim (or_cases (nat_lt e.clock f.clock) ((e.clock == f.clock) && nat_lt e.place f.place) h) [
      | inl a ↦ inl (ltb-true e.clock f.clock a)
      | inr b ↦ (let two = and_parts (e.clock == f.clock) (nat_lt e.place f.place) b in inr (eqb-true e.clock f.clock two.0, ltb-true e.place f.place two.1))
    ]

by_clock : (e f : Entry) → e.clock < f.clock → comes_before e f ≡ true
by_clock e f h = or_left (nat_lt e.clock f.clock) ((e.clock == f.clock) && nat_lt e.place f.place) (lt-ltb e.clock f.clock h)

by_place : (e f : Entry) → e.clock ≡ f.clock → e.place < f.place → comes_before e f ≡ true
by_place e f h k =
    or_right (nat_lt e.clock f.clock) ((e.clock == f.clock) && nat_lt e.place f.place)
    (and_from (e.clock == f.clock) (nat_lt e.place f.place) (eq-eqb e.clock f.clock h) (lt-ltb e.place f.place k))

before_not_both : (e f : Entry) → comes_before e f ≡ true → comes_before f e ≡ true → ⊥
before_not_both e f a b =
    elim (before_parts e f a) [
      | inl x ↦ elim (before_parts f e b) [ inl y ↦ omega arith | inr y ↦ omega arith ]
      | inr x ↦ elim (before_parts f e b) [ inl y ↦ omega arith | inr y ↦ omega arith ]
    ]

before_through : (e f g : Entry) → comes_before e f ≡ true → comes_before f g ≡ true → comes_before e g ≡ true
before_through e f g a b =
    elim (before_parts e f a) [
      | inl x ↦ elim (before_parts f g b) [ inl y ↦ by_clock e g (omega arith) | inr y ↦ by_clock e g (omega arith) ]
      | inr x ↦ elim (before_parts f g b) [ inl y ↦ by_clock e g (omega arith) | inr y ↦ by_place e g (omega arith) (omega arith) ]
    ]

-- of two entries at different places one comes before the other
before_or_behind : (e f : Entry) → is_at e.place f ≡ false → comes_before e f ≡ false → comes_before f e ≡ true
before_or_behind e f p n =
    elim (cases_order e.clock f.clock) [
      | inl a ↦ elim (cases_order e.place f.place) [
        | inl b ↦ absurd (false≢true (sym p ∙ eq-eqb f.place e.place (sym b)))
        | inr (inl b) ↦ absurd (false≢true (sym n ∙ by_place e f a b))
        | inr (inr b) ↦ by_place f e (sym a) b
      ]
      | inr (inl a) ↦ absurd (false≢true (sym n ∙ by_clock e f a))
      | inr (inr a) ↦ by_clock f e a
    ]

-- Which of two stands first does not count for being apart.

same_number_back : (a b : ℕ) → (a == b) ≡ true → (b == a) ≡ true
same_number_back a b h = eq-eqb b a (sym (eqb-true a b h))

same_id_back : (x y : MsgId) → same_id x y ≡ true → same_id y x ≡ true
same_id_back x y h = subst (λ z. same_id z x ≡ true) (from_same_id x y h) (same_id-self x)

same_ui_back : (q r : Ui) → same_ui q r ≡ true → same_ui r q ≡ true
same_ui_back q r h = subst (λ z. same_ui z q ≡ true) (from_same_ui q r h) (same_ui-self q)

are_same_back : {A : Type 0} (same : A → A → Bool) → ((a b : A) → same a b ≡ true → same b a ≡ true) → (x y : Option A) → are_same same x y ≡ true → are_same same y x ≡ true
are_same_back same h None y e = absurd (false≢true e)
are_same_back same h (Some a) None e = absurd (false≢true e)
are_same_back same h (Some a) (Some b) e = h a b e

are_same_true : {A : Type 0} (same : A → A → Bool) → ((a b : A) → same a b ≡ true → a ≡ b) → (x y : Option A) → are_same same x y ≡ true → x ≡ y
are_same_true same h None y e = absurd (false≢true e)
are_same_true same h (Some a) None e = absurd (false≢true e)
are_same_true same h (Some a) (Some b) e = ap (λ c. Some c) (h a b e)

false_back : (b c : Bool) → (c ≡ true → b ≡ true) → b ≡ false → c ≡ false
false_back b true h e = absurd (false≢true (sym e ∙ h refl))
false_back b false h e = refl

pub apart_back : (e f : Entry) → IsApart e f → IsApart f e
apart_back e f a =
    record {
      place = false_back (f.place == e.place) (e.place == f.place) (same_number_back e.place f.place) a.place;
      seat = false_back (f.seat == e.seat) (e.seat == f.seat) (same_number_back e.seat f.seat) a.seat;
      message = false_back _ _ (are_same_back same_id same_id_back (message_of f.act) (message_of e.act)) a.message;
      port = false_back _ _ (are_same_back same_ui same_ui_back (held_port_of f.act) (held_port_of e.act)) a.port;
    }

-- A causal list is chained.

filter_choice : (P : Entry → Type 0) (t : Entry → Bool) (f : Entry) (past : List Entry) (b : Bool) → t f ≡ b → (Each P (filter t past) → Each (λ (g : Entry). t g ≡ true → P g) past) → Each P (cond b (f ∷ filter t past) (filter t past)) → Each (λ (g : Entry). t g ≡ true → P g) (f ∷ past)
filter_choice P t f past true e ih h = (λ _. h.0, ih h.1)
filter_choice P t f past false e ih h = (λ x. absurd (false≢true (sym e ∙ x)), ih h)

each_filter : (P : Entry → Type 0) (t : Entry → Bool) (past : List Entry) → Each P (filter t past) → Each (λ (f : Entry). t f ≡ true → P f) past
each_filter P t [] h = tt
each_filter P t (f ∷ past) h = filter_choice P t f past (t f) refl (each_filter P t past) h

rises_over : (t : Entry → Bool) (e : Entry) (past : List Entry) → t e ≡ true → IsRising (filter t (e ∷ past)) → Each (λ (f : Entry). t f ≡ true → comes_before f e ≡ true) past
rises_over t e past h r =
    each_filter (λ f. comes_before f e ≡ true) t past
    (recursion_from_All (λ (f : Entry). comes_before f e ≡ true) (filter t past) (subst IsRising (keeps t e past h) r).0)

none_over : (t : Entry → Bool) (P : Entry → Type 0) (past : List Entry) → ((f : Entry) → t f ≡ false) → Each (λ (f : Entry). t f ≡ true → P f) past
none_over t P [] h = tt
none_over t P (f ∷ past) h = (λ x. absurd (false≢true (sym (h f) ∙ x)), none_over t P past h)

over_message : (e : Entry) (past : List Entry) (o : Option MsgId) → message_of e.act ≡ o → ((x : MsgId) → IsRising (about x (e ∷ past))) → Each (λ (f : Entry). is_about o f ≡ true → comes_before f e ≡ true) past
over_message e past None m h = none_over (is_about None) (λ f. comes_before f e ≡ true) past (λ f. refl)
over_message e past (Some x) m h = rises_over (is_about (Some x)) e past (ap (λ o. are_same same_id (Some x) o) m ∙ same_id-self x) (h x)

over_port : (e : Entry) (past : List Entry) (o : Option Ui) → held_port_of e.act ≡ o → ((q : Ui) → IsRising (on q (e ∷ past))) → Each (λ (f : Entry). is_on o f ≡ true → comes_before f e ≡ true) past
over_port e past None m h = none_over (is_on None) (λ f. comes_before f e ≡ true) past (λ f. refl)
over_port e past (Some q) m h = rises_over (is_on (Some q)) e past (ap (λ o. are_same same_ui (Some q) o) m ∙ same_ui-self q) (h q)

apart_or : (e f : Entry) → (is_at e.place f ≡ true → comes_before f e ≡ true) → (is_by e.seat f ≡ true → comes_before f e ≡ true) → (is_about (message_of e.act) f ≡ true → comes_before f e ≡ true) → (is_on (held_port_of e.act) f ≡ true → comes_before f e ≡ true) → Follows e f
apart_or e f a b c d =
    elim (cases_Bool (is_at e.place f)) [
      | inl t ↦ inr (a t)
      | inr p ↦ elim (cases_Bool (is_by e.seat f)) [
        | inl t ↦ inr (b t)
        | inr s ↦ elim (cases_Bool (is_about (message_of e.act) f)) [
          | inl t ↦ inr (c t)
          | inr m ↦ elim (cases_Bool (is_on (held_port_of e.act) f)) [
            | inl t ↦ inr (d t)
            | inr q ↦ inl (record { place = p; seat = s; message = m; port = q })
          ]
        ]
      ]
    ]

follow_all : (e : Entry) (past : List Entry) → Each (λ (f : Entry). is_at e.place f ≡ true → comes_before f e ≡ true) past → Each (λ (f : Entry). is_by e.seat f ≡ true → comes_before f e ≡ true) past → Each (λ (f : Entry). is_about (message_of e.act) f ≡ true → comes_before f e ≡ true) past → Each (λ (f : Entry). is_on (held_port_of e.act) f ≡ true → comes_before f e ≡ true) past → FollowsAll e past
follow_all e [] a b c d = tt
follow_all e (f ∷ past) a b c d = (apart_or e f a.0 b.0 c.0 d.0, follow_all e past a.1 b.1 c.1 d.1)

rising_rest : (b : Bool) (e : Entry) (past : List Entry) → IsRising (cond b (e ∷ past) past) → IsRising past
rising_rest true e past h = h.1
rising_rest false e past h = h

pub causal_rest : (e : Entry) (past : List Entry) → IsCausal (e ∷ past) → IsCausal past
causal_rest e past c =
    record {
      places = λ p. rising_rest (is_at p e) e (at p past) (c.places p);
      seats = λ s. rising_rest (is_by s e) e (by s past) (c.seats s);
      messages = λ x. rising_rest (is_about (Some x) e) e (about x past) (c.messages x);
      ports = λ q. rising_rest (is_on (Some q) e) e (on q past) (c.ports q);
    }

pub chained : (past : List Entry) → IsCausal past → IsChained past
chained [] c = tt
chained (e ∷ past) c = (
  follow_all e past
      (rises_over (is_at e.place) e past (eq-eqb e.place e.place refl) (c.places e.place))
      (rises_over (is_by e.seat) e past (eq-eqb e.seat e.seat refl) (c.seats e.seat))
      (over_message e past (message_of e.act) refl c.messages)
      (over_port e past (held_port_of e.act) refl c.ports),
  chained past (causal_rest e past c),
)

-- what stands behind in the list but before in the order is apart
pub before_apart : (e f : Entry) → Follows e f → comes_before e f ≡ true → IsApart e f
before_apart e f (inl a) h = a
before_apart e f (inr b) h = absurd (before_not_both e f h b)

-- Views of the sorted list.

-- a test that no two entries pass that are apart
pub IsChain : (Entry → Bool) → Type 0
IsChain t = (e f : Entry) → IsApart e f → t e ≡ true → t f ≡ false

pub at_chain : (p : ℕ) → IsChain (is_at p)
unfolding IsChain
at_chain p e f a h = subst (λ q. (f.place == q) ≡ false) (eqb-true e.place p h) a.place

pub by_chain : (s : ℕ) → IsChain (is_by s)
unfolding IsChain
by_chain s e f a h = subst (λ q. (f.seat == q) ≡ false) (eqb-true e.seat s h) a.seat

pub about_chain : (x : Option MsgId) → IsChain (is_about x)
unfolding IsChain
about_chain x e f a h =
    subst (λ y. are_same same_id y (message_of f.act) ≡ false) (sym (are_same_true same_id from_same_id x (message_of e.act) h)) a.message

pub on_chain : (q : Option Ui) → IsChain (is_on q)
unfolding IsChain
on_chain q e f a h =
    subst (λ y. are_same same_ui y (held_port_of f.act) ≡ false) (sym (are_same_true same_ui from_same_ui q (held_port_of e.act) h)) a.port

-- two entries of which the test passes one at most may be exchanged in its view
exchange : {X : Type 0} → (b c : Bool) (e f : X) (xs : List X) → (b ≡ true → c ≡ false) → cond c (f ∷ cond b (e ∷ xs) xs) (cond b (e ∷ xs) xs) ≡ cond b (e ∷ cond c (f ∷ xs) xs) (cond c (f ∷ xs) xs)
exchange true true e f xs h = let no_both = h refl in cc
exchange true false e f xs h = refl
exchange false true e f xs h = refl
exchange false false e f xs h = refl

-- a view of the list with e put in its place is the view of the list with e last
insert_choice : (t : Entry → Bool) (e f : Entry) (past : List Entry) (b : Bool) → (b ≡ true → t e ≡ true → t f ≡ false) → filter t (insert e past) ≡ filter t (e ∷ past) → filter t (cond b (f ∷ insert e past) (e ∷ f ∷ past)) ≡ filter t (e ∷ f ∷ past)
insert_choice t e f past false h ih = refl
insert_choice t e f past true h ih =
    ap (λ xs. cond (t f) (f ∷ xs) xs) ih ∙ exchange (t e) (t f) e f (filter t past) (h refl)

filter_insert : (t : Entry → Bool) → IsChain t → (e : Entry) (past : List Entry) → FollowsAll e past → filter t (insert e past) ≡ filter t (e ∷ past)
unfolding IsChain
filter_insert t c e [] h = refl
filter_insert t c e (f ∷ past) h =
    insert_choice t e f past (comes_before e f) (λ b. c e f (before_apart e f h.0 b)) (filter_insert t c e past h.1)

-- what follows each entry of a list follows each of it in any order
follows_choice : (e g f : Entry) (past : List Entry) (b : Bool) → Follows e g → Follows e f → FollowsAll e past → FollowsAll e (insert g past) → FollowsAll e (cond b (f ∷ insert g past) (g ∷ f ∷ past))
follows_choice e g f past true x y z w = (y, w)
follows_choice e g f past false x y z w = (x, (y, z))

follows_insert : (e g : Entry) (past : List Entry) → Follows e g → FollowsAll e past → FollowsAll e (insert g past)
follows_insert e g [] x h = (x, h)
follows_insert e g (f ∷ past) x h = follows_choice e g f past (comes_before g f) x h.0 h.1 (follows_insert e g past x h.1)

pub follows_sort : (e : Entry) (past : List Entry) → FollowsAll e past → FollowsAll e (sort past)
follows_sort e [] h = h
follows_sort e (g ∷ past) h = follows_insert e g (sort past) h.0 (follows_sort e past h.1)

-- each chain stands in the sorted list as it stood before
pub filter_sort : (t : Entry → Bool) → IsChain t → (past : List Entry) → IsChained past → filter t (sort past) ≡ filter t past
filter_sort t c [] h = refl
filter_sort t c (e ∷ past) h =
    filter_insert t c e (sort past) (follows_sort e past h.0) ∙ ap (λ xs. cond (t e) (e ∷ xs) xs) (filter_sort t c past h.1)

pub keeps_views : KeepsViews
keeps_views past c =
    let w = chained past c in
    record {
      places = λ p. filter_sort (is_at p) (at_chain p) past w;
      seats = λ s. filter_sort (is_by s) (by_chain s) past w;
      messages = λ x. filter_sort (is_about (Some x)) (about_chain (Some x)) past w;
      ports = λ q. filter_sort (is_on (Some q)) (on_chain (Some q)) past w;
    }

-- What holds of each entry holds in any order.

each_choice : (P : Entry → Type 0) (e f : Entry) (past : List Entry) (b : Bool) → P e → P f → Each P past → Each P (insert e past) → Each P (cond b (f ∷ insert e past) (e ∷ f ∷ past))
each_choice P e f past true x y z w = (y, w)
each_choice P e f past false x y z w = (x, (y, z))

each_insert : (P : Entry → Type 0) (e : Entry) (past : List Entry) → P e → Each P past → Each P (insert e past)
each_insert P e [] x h = (x, h)
each_insert P e (f ∷ past) x h = each_choice P e f past (comes_before e f) x h.0 h.1 (each_insert P e past x h.1)

each_sort : (P : Entry → Type 0) (past : List Entry) → Each P past → Each P (sort past)
each_sort P [] h = h
each_sort P (e ∷ past) h = each_insert P e (sort past) h.0 (each_sort P past h.1)

pub all_sort : (P : Entry → Type 0) (past : List Entry) → All P past → All P (sort past)
all_sort P past h = All-from_recursion P (sort past) (each_sort P past (recursion_from_All P past h))

-- The sorted list is in order.

each_before : (e f : Entry) (past : List Entry) → comes_before f e ≡ true → Each (λ (g : Entry). comes_before g f ≡ true) past → Each (λ (g : Entry). comes_before g e ≡ true) past
each_before e f [] h a = tt
each_before e f (g ∷ past) h a = (before_through g f e a.0 h, each_before e f past h a.1)

-- each entry comes after all older ones
Rises : List Entry → Type 0
Rises [] = Unit {0}
Rises (e ∷ past) = Each (λ (f : Entry). comes_before f e ≡ true) past × Rises past

rising_from : (past : List Entry) → Rises past → IsRising past
unfolding Rises
rising_from [] h = tt
rising_from (e ∷ past) h = (All-from_recursion (λ (f : Entry). comes_before f e ≡ true) past h.0, rising_from past h.1)

behind : (e f : Entry) → Follows e f → comes_before e f ≡ false → comes_before f e ≡ true
behind e f (inl a) n = before_or_behind e f a.place n
behind e f (inr b) n = b

rises_choice : (e f : Entry) (past : List Entry) (b : Bool) → comes_before e f ≡ b → Follows e f → Rises (f ∷ past) → Rises (insert e past) → Rises (cond b (f ∷ insert e past) (e ∷ f ∷ past))
unfolding Rises
rises_choice e f past true t w r i = (each_insert (λ g. comes_before g f ≡ true) e past t r.0, i)
rises_choice e f past false n w r i = let b = behind e f w n in ((b, each_before e f past b r.0), r)

rises_insert : (e : Entry) (past : List Entry) → FollowsAll e past → Rises past → Rises (insert e past)
unfolding Rises
rises_insert e [] w r = (tt, tt)
rises_insert e (f ∷ past) w r = rises_choice e f past (comes_before e f) refl w.0 r (rises_insert e past w.1 r.1)

rises_sort : (past : List Entry) → IsChained past → Rises (sort past)
unfolding Rises
rises_sort [] w = tt
rises_sort (e ∷ past) w = rises_insert e (sort past) (follows_sort e past w.0) (rises_sort past w.1)

pub sorts_in_order : SortsInOrder
sorts_in_order past c = rising_from (sort past) (rises_sort past (chained past c))

-- What each entry finds.

-- what an entry reads of its own place, seat, message and held port
pub record Chains : Type 0 where
  pub here : List Entry
  pub mine : List Entry
  pub message : List Entry
  pub port : List Entry

abbrev pub chains : List Entry → Entry → Chains
chains past e =
    record {
      here = at e.place past;
      mine = by e.seat past;
      message = filter (is_about (message_of e.act)) past;
      port = filter (is_on (held_port_of e.act)) past;
    }

-- each entry finds what it needs in its chains
abbrev pub all_find : (Chains → Entry → Bool) → List Entry → Bool
all_find test [] = true
all_find test (e ∷ past) = test (chains past e) e && all_find test past

chains_same : {h k m n x y q r : List Entry} → h ≡ k → m ≡ n → x ≡ y → q ≡ r → (let c : Chains = record { here = h; mine = m; message = x; port = q } in c) ≡ (let d : Chains = record { here = k; mine = n; message = y; port = r } in d)
chains_same a b c d = cc

-- what e reads does not change by an entry that is apart from it
chains_skip : (past : List Entry) (e f : Entry) → IsApart e f → chains (f ∷ past) e ≡ chains past e
chains_skip past e f a =
    chains_same
    (skips (is_at e.place) f past a.place)
    (skips (is_by e.seat) f past a.seat)
    (skips (is_about (message_of e.act)) f past a.message)
    (skips (is_on (held_port_of e.act)) f past a.port)

find_skip : (test : Chains → Entry → Bool) (past : List Entry) (e f : Entry) → IsApart e f → test (chains (f ∷ past) e) e ≡ test (chains past e) e
find_skip test past e f a = ap (λ c. test c e) (chains_skip past e f a)

-- the exchange: f stands before e, and then e before f
swap : (test : Chains → Entry → Bool) (past : List Entry) (e f : Entry) → IsApart e f → IsApart f e → all_find test (e ∷ f ∷ past) ≡ true → all_find test (f ∷ e ∷ past) ≡ true
swap test past e f a b h =
    let both = and_parts (test (chains (f ∷ past) e) e) (all_find test (f ∷ past)) h in
    let rest = and_parts (test (chains past f) f) (all_find test past) both.1 in
    and_from (test (chains (e ∷ past) f) f) (all_find test (e ∷ past))
    (find_skip test past f e b ∙ rest.0)
    (and_from (test (chains past e) e) (all_find test past) (sym (find_skip test past e f a) ∙ both.0) rest.1)

skip_choice : (t : Entry → Bool) (e f : Entry) (past : List Entry) (b : Bool) → t e ≡ false → filter t (insert e past) ≡ filter t past → filter t (cond b (f ∷ insert e past) (e ∷ f ∷ past)) ≡ filter t (f ∷ past)
skip_choice t e f past true n ih = ap (λ xs. cond (t f) (f ∷ xs) xs) ih
skip_choice t e f past false n ih = skips t e (f ∷ past) n

-- the views of f do not see an entry that is apart from it, wherever that is put
insert_skip : (t : Entry → Bool) (e : Entry) (past : List Entry) → t e ≡ false → filter t (insert e past) ≡ filter t past
insert_skip t e [] n = skips t e [] n
insert_skip t e (f ∷ past) n = skip_choice t e f past (comes_before e f) n (insert_skip t e past n)

find_insert : (test : Chains → Entry → Bool) (past : List Entry) (f e : Entry) → IsApart f e → test (chains (insert e past) f) f ≡ test (chains past f) f
find_insert test past f e a =
    ap (λ c. test c f) (chains_same
    (insert_skip (is_at f.place) e past a.place)
    (insert_skip (is_by f.seat) e past a.seat)
    (insert_skip (is_about (message_of f.act)) e past a.message)
    (insert_skip (is_on (held_port_of f.act)) e past a.port))

-- an entry that finds all at the end finds it in its place
find_choice : (test : Chains → Entry → Bool) (e f : Entry) (past : List Entry) (b : Bool) → (b ≡ true → IsApart e f) → (all_find test (e ∷ past) ≡ true → all_find test (insert e past) ≡ true) → all_find test (e ∷ f ∷ past) ≡ true → all_find test (cond b (f ∷ insert e past) (e ∷ f ∷ past)) ≡ true
find_choice test e f past false a ih h = h
find_choice test e f past true a ih h =
    let apart = a refl in
    let back = apart_back e f apart in
    let swapped = and_parts (test (chains (e ∷ past) f) f) (all_find test (e ∷ past)) (swap test past e f apart back h) in
    and_from (test (chains (insert e past) f) f) (all_find test (insert e past))
    (find_insert test past f e back ∙ (sym (find_skip test past f e back) ∙ swapped.0))
    (ih swapped.1)

all_find_insert : (test : Chains → Entry → Bool) (e : Entry) (past : List Entry) → FollowsAll e past → all_find test (e ∷ past) ≡ true → all_find test (insert e past) ≡ true
all_find_insert test e [] w h = h
all_find_insert test e (f ∷ past) w h =
    find_choice test e f past (comes_before e f) (before_apart e f w.0) (all_find_insert test e past w.1) h

chains_sort : (past : List Entry) (e : Entry) → IsChained past → chains (sort past) e ≡ chains past e
chains_sort past e w =
    chains_same
    (filter_sort (is_at e.place) (at_chain e.place) past w)
    (filter_sort (is_by e.seat) (by_chain e.seat) past w)
    (filter_sort (is_about (message_of e.act)) (about_chain (message_of e.act)) past w)
    (filter_sort (is_on (held_port_of e.act)) (on_chain (held_port_of e.act)) past w)

-- each entry finds in the sorted list what it found
pub all_find_sort : (test : Chains → Entry → Bool) (past : List Entry) → IsChained past → all_find test past ≡ true → all_find test (sort past) ≡ true
all_find_sort test [] w h = h
all_find_sort test (e ∷ past) w h =
    let p = and_parts (test (chains past e) e) (all_find test past) h in
    all_find_insert test e (sort past) (follows_sort e past w.0)
    (and_from (test (chains (sort past) e) e) (all_find test (sort past))
    (ap (λ c. test c e) (chains_sort past e w.1) ∙ p.0)
    (all_find_sort test past w.1 p.1))
