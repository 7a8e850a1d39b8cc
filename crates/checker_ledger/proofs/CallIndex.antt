-- Where the first post of a caller's greatest request number stands.
use Rattle.std.proofs.Common.{ℕ, ◌≡◌, ◌==◌, ◌<◌, ◌+◌, max, Bool, true, false, cond, List, [], ◌∷◌, ◌++◌, length, reverse, Option, Some, None, refl, sym, ◌∙◌, ap, subst, arith, suc, zero, inl, inr}
use Rattle.std.specs.Prelude.{nat_lt, slice_get, is_none, ◌&&◌, ◌||◌}
use Rattle.std.specs.Option.{option_or}
use Rattle.std.proofs.lemmas.Bool.{eqb-true, eq-eqb, ltb-true, ltb-false, and_parts, or_cases, false≢true}
use Rattle.std.proofs.lemmas.List.{length-reverse, reverse-append}
use Rattle.std.proofs.lemmas.Option.{slice_get_within}
use Rattle.chorus_ui.specs.declared.ui.Ui.{Ui}
use Rattle.chorus_ui.specs.declared.layout.Layout.{Layout}
use Rattle.chorus_entry.specs.declared.entry.Entry.{Entry}
use Rattle.chorus_entry.specs.declared.message.Message.{Message}
use Rattle.chorus_entry.specs.declared.dest.Dest.{Dest}
use Rattle.chorus_entry.specs.declared.dest.Dest.TheVariants.{Port, All, One, OneAt}
use Rattle.chorus_entry.specs.declared.tag.Tag.{Tag}
use Rattle.chorus_entry.specs.declared.tag.Tag.TheVariants.{Plain, Request, Reply}
use Rattle.chorus_entry.specs.declared.act.Act.{Act}
use Rattle.chorus_entry.specs.declared.act.Act.TheVariants.{Post, Done, Cancel}
use Rattle.chorus_entry.specs.Same.{are_same, is_number}
use Rattle.chorus_world.specs.Views.{by, is_by, views}
use Rattle.chorus_world.specs.Seats.{Call, call, call_after, call_with, call_by, call_in, ended, first_call, requests, requests_after, number_in, same_call}
use Rattle.chorus_world.specs.Steps.{act_may, is_legal, may_tag}
use Rattle.chorus_world.proofs.Messages.SendingLemmas.{or_none}
use Rattle.chorus_world.proofs.Seats.CallLemmas.{first_bounds}
use Rattle.chorus_world.proofs.Steps.LegalLemmas.{legal_parts}
use Rattle.checker_rows.specs.Seats.{stands, first_with, first_after, first_index}

get_more : {X : Type 0} (xs ys : List X) (i : ℕ) (x : X) → slice_get xs i ≡ Some x → slice_get (xs ++ ys) i ≡ Some x
get_more {X} [] ys i x h = absurd (let lt : i < 0 = slice_get_within {A = X} [] i x h in omega arith)
get_more (y ∷ xs) ys zero x h = h
get_more (y ∷ xs) ys (suc i) x h = get_more xs ys i x h

get_last : {X : Type 0} (xs : List X) (x : X) → slice_get (xs ++ x ∷ []) (length xs) ≡ Some x
get_last [] x = refl
get_last (y ∷ xs) x = get_last xs x

-- at the index stands the first post of the number n, which is o
abbrev pub IsIndexed : List Entry → Option ℕ → ℕ → Option Call → Type 0
IsIndexed es None n o = o ≡ None
IsIndexed es (Some i) n o = (e : Entry) × (c : Call) × (slice_get es i ≡ Some e) × (call_by n e.act ≡ Some c) × (o ≡ Some c)

indexed_more : (es : List Entry) (e : Entry) (i : Option ℕ) (n : ℕ) (o : Option Call) → IsIndexed es i n o → IsIndexed (es ++ e ∷ []) i n o
indexed_more es e None n o h = h
indexed_more es e (Some i) n o h = (h.0, h.1, get_more es (e ∷ []) i h.0 h.2, h.3, h.4)

-- a post behind the others, whose call is not the first one, or is
still_indexed : (es : List Entry) (e : Entry) (i : Option ℕ) (n : ℕ) (o a : Option Call) → IsIndexed es i n o → a ≡ None → IsIndexed (es ++ e ∷ []) i n (option_or o a)
still_indexed es e i n o a h k = subst (λ z. IsIndexed (es ++ e ∷ []) i n z) (sym (or_none o a k)) (indexed_more es e i n o h)

now_indexed : (es : List Entry) (e : Entry) (n : ℕ) (o a : Option Call) (c : Call) → o ≡ None → a ≡ Some c → call_by n e.act ≡ Some c → IsIndexed (es ++ e ∷ []) (Some (length es)) n (option_or o a)
now_indexed es e n o a c h k b = (e, c, get_last es e, b, ap (λ z. option_or z a) h ∙ k)

abbrev IsOf : Entry → ℕ → Tag → Dest → List ℕ → Type 0
IsOf e n g d body = call_by n e.act ≡ call_in n g d body

own_number : (n : ℕ) (back : Ui) (q : Ui) (body : List ℕ) → call_in n (Request n back) (Port q) body ≡ Some (record { port = q; back = back; body = body })
own_number n back q body = ap (λ b. cond b (Some (record { port = q; back = back; body = body })) None) (eq-eqb n n refl)

-- the number is posted for the first time
first_case : (es : List Entry) (e : Entry) (n : ℕ) (back : Ui) (d : Dest) (body : List ℕ) (o : Option Call) → o ≡ None → IsOf e n (Request n back) d body → IsIndexed (es ++ e ∷ []) (stands d (length es)) n (option_or o (call_in n (Request n back) d body))
first_case es e n back (Port q) body o h b = now_indexed es e n o (call_in n (Request n back) (Port q) body) _ h (own_number n back q body) (b ∙ own_number n back q body)
first_case es e n back (All g) body o h b = ap (λ z. option_or z None) h
first_case es e n back (One g) body o h b = ap (λ z. option_or z None) h
first_case es e n back (OneAt g s) body o h b = ap (λ z. option_or z None) h

-- it is posted again
again_case : (es : List Entry) (e : Entry) (i : Option ℕ) (n : ℕ) (back : Ui) (d : Dest) (body : List ℕ) (o : Option Call) → IsIndexed es i n o → IsOf e n (Request n back) d body
    → IsIndexed (es ++ e ∷ []) (option_or i (stands d (length es))) n (option_or o (call_in n (Request n back) d body))
again_case es e None n back d body o h b = first_case es e n back d body o h b
again_case es e (Some i) n back d body o h b = (h.0, h.1, get_more es (e ∷ []) i h.0 h.2, h.3, ap (λ z. option_or z (call_in n (Request n back) d body)) h.4)

-- another number is posted
other_case : (r n : ℕ) (back : Ui) (d : Dest) (body : List ℕ) → (n == r) ≡ false → call_in r (Request n back) d body ≡ None
other_case r n back (Port q) body h = ap (λ b. cond b (Some (record { port = q; back = back; body = body })) None) h
other_case r n back (All g) body h = refl
other_case r n back (One g) body h = refl
other_case r n back (OneAt g s) body h = refl

unposted : (n : ℕ) (mine : List Entry) (o : Option Call) → first_call n mine ≡ o → requests mine < n → o ≡ None
unposted n mine None h lt = refl
unposted n mine (Some c) h lt = absurd (let le = first_bounds n mine c h in omega (arith, le, lt))

with_tag : (es mine : List Entry) (e : Entry) (i : Option ℕ) (g : Tag) (d : Dest) (body : List ℕ) → ((n : ℕ) → IsOf e n g d body) → IsIndexed es i (requests mine) (first_call (requests mine) mine)
    → IsIndexed (es ++ e ∷ []) (first_with g d (length es) (requests mine) i) (max (number_in g) (requests mine)) (option_or (first_call (max (number_in g) (requests mine)) mine) (call_in (max (number_in g) (requests mine)) g d body))
with_tag es mine e i Plain d body is h =
    let same : requests mine ≡ max 0 (requests mine) = omega arith in
    subst (λ n. IsIndexed (es ++ e ∷ []) i n (option_or (first_call n mine) None)) same (still_indexed es e i (requests mine) _ None h refl)
with_tag es mine e i (Reply c k) d body is h =
    let same : requests mine ≡ max 0 (requests mine) = omega arith in
    subst (λ n. IsIndexed (es ++ e ∷ []) i n (option_or (first_call n mine) None)) same (still_indexed es e i (requests mine) _ None h refl)
with_tag es mine e i (Request n back) d body is h = go (nat_lt r n) (n == r) refl refl
  where
    r : ℕ
    r = requests mine

    below : nat_lt r n ≡ false → r ≡ max n r
    below x = let le = ltb-false r n x in omega (arith, le)

    go : (b c : Bool) → nat_lt r n ≡ b → (n == r) ≡ c → IsIndexed (es ++ e ∷ []) (cond b (stands d (length es)) (cond c (option_or i (stands d (length es))) i)) (max n r) (option_or (first_call (max n r) mine) (call_in (max n r) (Request n back) d body))
    go true c x y =
        let lt : r < n = ltb-true r n x in
        let same : n ≡ max n r = omega (arith, lt) in
        subst (λ m. IsIndexed (es ++ e ∷ []) (stands d (length es)) m (option_or (first_call m mine) (call_in m (Request n back) d body))) same
        (first_case es e n back d body (first_call n mine) (unposted n mine (first_call n mine) refl lt) (is n))
    go false true x y =
        let eq : n ≡ r = eqb-true n r y in
        let same : n ≡ max n r = omega (arith, eq) in
        subst (λ m. IsIndexed (es ++ e ∷ []) (option_or i (stands d (length es))) m (option_or (first_call m mine) (call_in m (Request n back) d body))) same
        (again_case es e i n back d body (first_call n mine) (subst (λ m. IsIndexed es i m (first_call m mine)) (sym eq) h) (is n))
    go false false x y =
        let same : r ≡ max n r = below x in
        subst (λ m. IsIndexed (es ++ e ∷ []) i m (option_or (first_call m mine) (call_in m (Request n back) d body))) same
        (still_indexed es e i r (first_call r mine) (call_in r (Request n back) d body) h (other_case r n back d body y))

with_act : (es mine : List Entry) (e : Entry) (i : Option ℕ) (a : Act) → e.act ≡ a → IsIndexed es i (requests mine) (first_call (requests mine) mine)
    → IsIndexed (es ++ e ∷ []) (first_after a (length es) (requests mine) i) (requests_after a (requests mine)) (option_or (first_call (requests_after a (requests mine)) mine) (call_by (requests_after a (requests mine)) a))
with_act es mine e i (Post m d) is h = with_tag es mine e i m.tag d m.body (λ n. ap (call_by n) is) h
with_act es mine e i _ is h = still_indexed es e i (requests mine) _ None h refl

pub indexed : (s : ℕ) (past : List Entry) → IsIndexed (reverse past) (first_index s past) (requests (by s past)) (first_call (requests (by s past)) (by s past))
indexed s [] = refl
indexed s (e ∷ past) = subst (λ es. IsIndexed es (first_index s (e ∷ past)) (requests (by s (e ∷ past))) (first_call (requests (by s (e ∷ past))) (by s (e ∷ past)))) more (go (e.seat == s) (indexed s past))
  where
    es : List Entry
    es = reverse past

    more : reverse past ++ e ∷ [] ≡ reverse (e ∷ past)
    more = sym (reverse-append (e ∷ []) past)

    go : (b : Bool) → IsIndexed es (first_index s past) (requests (by s past)) (first_call (requests (by s past)) (by s past)) → IsIndexed (es ++ e ∷ []) (cond b (first_after e.act (length past) (requests (by s past)) (first_index s past)) (first_index s past)) (requests (cond b (e ∷ by s past) (by s past))) (first_call (requests (cond b (e ∷ by s past) (by s past))) (cond b (e ∷ by s past) (by s past)))
    go true here = subst (λ n. IsIndexed (es ++ e ∷ []) (first_after e.act n (requests (by s past)) (first_index s past)) (requests (e ∷ by s past)) (first_call (requests (e ∷ by s past)) (e ∷ by s past))) (length-reverse past) (with_act es (by s past) e (first_index s past) e.act refl here)
    go false here = indexed_more es e (first_index s past) (requests (by s past)) _ here

-- In a legal past, the outstanding call of a caller is its greatest request number.

was_ended : (k n : ℕ) (o : Option ℕ) → ended k o ≡ Some n → o ≡ Some n
was_ended k n None h = absurd (cc)
was_ended k n (Some m) h = go (m == k) h
  where
    go : (b : Bool) → cond b None (Some m) ≡ Some n → Some m ≡ Some n
    go true e = absurd (cc)
    go false e = e

from_number : (n : ℕ) (o : Option ℕ) → is_number n o ≡ true → o ≡ Some n
from_number n None h = absurd (false≢true h)
from_number n (Some m) h = ap Some (eqb-true m n h)

abbrev AreGreatest : Option ℕ → ℕ → Type 0
AreGreatest o r = (n : ℕ) → o ≡ Some n → n ≡ r

greatest_tag : (past : List Entry) (p s n : ℕ) (m : Message) (d : Dest) (g : Tag) → AreGreatest (call (by s past)) (requests (by s past)) → may_tag (views past p s (Post m d)) m d g ≡ true → call_with g (call (by s past)) ≡ Some n → n ≡ max (number_in g) (requests (by s past))
greatest_tag past p s n m d Plain ih may h = let a = ih n h in omega (arith, a)
greatest_tag past p s n m d (Reply c k) ih may h = let a = ih n h in omega (arith, a)
greatest_tag past p s n m d (Request r back) ih may h =
    let mine = by s past in
    let new = is_none (call mine) && (r == requests mine + 1) in
    let again = is_number r (call mine) && are_same same_call (first_call r mine) (call_in r m.tag d m.body) in
    let same : r ≡ n = cc in
    elim (or_cases new again (and_parts _ (new || again) may).1) [
      | inl now ↦ (
          let next : r ≡ requests mine + 1 = eqb-true r (requests mine + 1) (and_parts (is_none (call mine)) (r == requests mine + 1) now).1 in
          omega (arith, same, next))
      | inr old ↦ (
          let a = ih r (from_number r (call mine) (and_parts (is_number r (call mine)) (are_same same_call (first_call r mine) (call_in r m.tag d m.body)) old).0) in
          omega (arith, same, a))
    ]

greatest_act : (l : Layout) (past : List Entry) (p s n : ℕ) (a : Act) → AreGreatest (call (by s past)) (requests (by s past)) → act_may l (views past p s a) p s a ≡ true → call_after a (call (by s past)) ≡ Some n → n ≡ requests_after a (requests (by s past))
greatest_act l past p s n (Post m d) ih may h = greatest_tag past p s n m d m.tag ih (and_parts _ (may_tag (views past p s (Post m d)) m d m.tag) may).1 h
greatest_act l past p s n (Done r) ih may h = ih n (was_ended r n (call (by s past)) h)
greatest_act l past p s n (Cancel r) ih may h = ih n (was_ended r n (call (by s past)) h)
greatest_act l past p s n _ ih may h = ih n h

pub greatest : (l : Layout) (past : List Entry) (s : ℕ) → is_legal l past ≡ true → AreGreatest (call (by s past)) (requests (by s past))
greatest l [] s h n k = absurd (cc)
greatest l (e ∷ past) s h n k = go (λ z. greatest l past z (legal_parts l e past h).1) (is_by s e) refl k
  where
    two : (act_may l (views past e.place e.seat e.act) e.place e.seat e.act ≡ true) × (is_legal l past ≡ true)
    two = legal_parts l e past h

    go : ((z : ℕ) → AreGreatest (call (by z past)) (requests (by z past))) → (b : Bool) → is_by s e ≡ b → call (cond b (e ∷ by s past) (by s past)) ≡ Some n → n ≡ requests (cond b (e ∷ by s past) (by s past))
    go ih false t j = ih s n j
    go ih true t j =
        let same : e.seat ≡ s = eqb-true e.seat s t in
        subst (λ z. n ≡ requests (e ∷ by z past)) same
        (greatest_act l past e.place e.seat n e.act (ih e.seat) two.0 (subst (λ z. call (e ∷ by z past) ≡ Some n) (sym same) j))

-- What the table says of a retry: at the index stands the first post of the outstanding call, and where there is no index
-- there is no such post.

some_is : {X : Type 0} (a b : X) → Some a ≡ Some b → a ≡ b
some_is a b h = cc

read_some : (es : List Entry) (i n : ℕ) (f : Entry) (o : Option Call) → IsIndexed es (Some i) n o → slice_get es i ≡ Some f → o ≡ call_by n f.act
read_some es i n f o h g =
    let same : h.0 ≡ f = some_is h.0 f (sym h.2 ∙ g) in
    h.4 ∙ (sym h.3 ∙ ap (λ e. call_by n e.act) same)

module _ (l : Layout) (past : List Entry) (s n : ℕ) (legal : is_legal l past ≡ true) (out : call (by s past) ≡ Some n) where
  outstanding : IsIndexed (reverse past) (first_index s past) n (first_call n (by s past))
  outstanding = subst (λ m. IsIndexed (reverse past) (first_index s past) m (first_call m (by s past))) (sym (greatest l past s legal n out)) (indexed s past)

  pub read_first : (i : ℕ) (f : Entry) → first_index s past ≡ Some i → slice_get (reverse past) i ≡ Some f → first_call n (by s past) ≡ call_by n f.act
  read_first i f h g = read_some (reverse past) i n f (first_call n (by s past)) (subst (λ o. IsIndexed (reverse past) o n (first_call n (by s past))) h outstanding) g

  pub read_there : (i : ℕ) → first_index s past ≡ Some i → slice_get (reverse past) i ≡ None → ⊥
  read_there i h g =
      let at : IsIndexed (reverse past) (Some i) n (first_call n (by s past)) = subst (λ o. IsIndexed (reverse past) o n (first_call n (by s past))) h outstanding in
      none_some (sym g ∙ at.2)
    where
      none_some : {X : Type 0} {x : X} → None ≡ Some x → ⊥
      none_some e = absurd (cc)

  pub read_none : first_index s past ≡ None → first_call n (by s past) ≡ None
  read_none h = subst (λ o. IsIndexed (reverse past) o n (first_call n (by s past))) h outstanding
