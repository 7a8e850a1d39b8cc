-- The positions of takes count up.
-- q is a port. A past has its newest entry first.
use Rattle.std.proofs.Common.{ℕ, zero, suc, ◌≡◌, ◌+◌, ◌==◌, Bool, true, false, cond, List, [], ◌∷◌, ◌++◌, length, length-append, Option, Some, None, slice_get, refl, sym, ◌∙◌, ap, ap₂, subst, arith}
use Rattle.std.proofs.lemmas.Bool.{and_parts, eqb-true, false≢true}
use Rattle.chorus_ui.specs.declared.ui.Ui.{Ui}
use Rattle.chorus_ui.specs.declared.layout.Layout.{Layout}
use Rattle.chorus_ui.specs.Layout.{IsLayout}
use Rattle.chorus_ui.specs.Name.{same_ui}
use Rattle.chorus_ui.proofs.Names.{same_ui-self}
use Rattle.chorus_entry.specs.declared.entry.Entry.{Entry}
use Rattle.chorus_entry.specs.declared.id.MsgId.{MsgId}
use Rattle.chorus_entry.specs.declared.act.Act.{Act}
use Rattle.chorus_entry.specs.Act.{held_port_of}
use Rattle.chorus_entry.specs.MsgId.{same_id}
use Rattle.chorus_entry.specs.Same.{are_same}
use Rattle.chorus_world.specs.Views.{views, on, is_on}
use Rattle.chorus_world.specs.Ports.{PortState, fate, fate_after, is_first_waiting, is_held_at}
use Rattle.chorus_world.specs.AcceptedLaws.{received, received_after, taken_from}
use Rattle.chorus_world.specs.Steps.{act_may, is_legal}
use Rattle.chorus_world.proofs.Moments.{legal-older}
use Rattle.chorus_world.proofs.Steps.LegalLemmas.{entry, keeps, legal_parts, on_is}
use Rattle.chorus_world.proofs.Ports.LineLemmas.{LineIs}
use Rattle.chorus_world.proofs.Ports.PortLaws.{legal_line, receives_in_order}
use Rattle.law_crews.specs.Positions.{LegalTakesCountUp, LegalTakesFollow, count_to, positions, positions_after}

push-some : {X : Type 0} (xs : List X) (x : X) → xs ++ x ∷ [] ≡ [] → ⊥
push-some [] x h = cc
push-some (y ∷ xs) x h = cc

none-taken : (port : List Entry) → received port ≡ [] → positions port ≡ []
none-taken [] h = refl
none-taken (e ∷ port) h = go e.act h (none-taken port)
  where
    go : (a : Act) → received_after a (received port) ≡ [] → (received port ≡ [] → positions port ≡ []) → positions_after a (positions port) ≡ []
    go (Act.Take q n x) k ih = absurd (push-some (received port) x k)
    go _ k ih = ih k

first-is : (n : ℕ) (x : MsgId) (o : Option PortState) → is_first_waiting n x o ≡ true → n ≡ taken_from o
first-is n x None h = absurd (false≢true h)
first-is n x (Some f) h = eqb-true n f.taken (and_parts (n == f.taken) (are_same same_id (Some x) (slice_get f.accepted n)) h).0

take-more : (p n : ℕ) (r : Ui) (x : MsgId) (o : Option PortState) → is_first_waiting n x o ≡ true → taken_from (fate_after p (Act.Take r n x) o) ≡ suc (taken_from o)
take-more p n r x None h = absurd (false≢true h)
take-more p n r x (Some f) h = (let e : f.taken + 1 ≡ suc f.taken = omega arith in e)

-- one entry more on the line of the port
count-more : (l : Layout) (past : List Entry) (c p s : ℕ) (a : Act) (q : Ui) → IsLayout l → is_legal l (entry c p s a ∷ past) ≡ true → are_same same_ui (Some q) (held_port_of a) ≡ true → positions (on q past) ≡ count_to (taken_from (fate (on q past)))
    → positions_after a (positions (on q past)) ≡ count_to (taken_from (fate_after p a (fate (on q past))))
count-more l past c p s (Act.Make r b m) q shape h t ih =
    let e = entry c p s (Act.Make r b m) in
    let line = (legal_line l (e ∷ past) q shape h).0 in
    let view : on q (e ∷ past) ≡ e ∷ on q past = keeps (is_on (Some q)) e past t in
    let facts = subst (λ z. LineIs (fate z) z) view line in
    none-taken (on q past) facts.received
count-more l past c p s (Act.Take r n x) q shape h t ih =
    let two = legal_parts l (entry c p s (Act.Take r n x)) past h in
    let named : Some r ≡ Some q = on_is q (Some r) t in
    let same : r ≡ q = cc in
    let first : is_first_waiting n x (fate (on q past)) ≡ true = subst (λ z. is_first_waiting n x (fate (on z past)) ≡ true) same (and_parts (is_held_at p (fate (on r past))) (is_first_waiting n x (fate (on r past))) two.0).1 in
    ap₂ (λ ns m. ns ++ m ∷ []) ih (first-is n x (fate (on q past)) first) ∙ ap count_to (sym (take-more p n r x (fate (on q past)) first))
count-more l past c p s a q shape h t ih = ih ∙ ap count_to (same-taken (fate (on q past)))
  where
    same-taken : (o : Option PortState) → taken_from o ≡ taken_from (fate_after p a o)
    same-taken None = refl
    same-taken (Some f) = refl

counts : (l : Layout) (past : List Entry) (q : Ui) → IsLayout l → is_legal l past ≡ true → positions (on q past) ≡ count_to (taken_from (fate (on q past)))
counts l [] q shape h = refl
counts l (e ∷ past) q shape h = go (is_on (Some q) e) refl (counts l past q shape (legal_parts l e past h).1)
  where
    go : (b : Bool) → is_on (Some q) e ≡ b → positions (on q past) ≡ count_to (taken_from (fate (on q past))) → positions (cond b (e ∷ on q past) (on q past)) ≡ count_to (taken_from (fate (cond b (e ∷ on q past) (on q past))))
    go true t ih = count-more l past e.clock e.place e.seat e.act q shape h t ih
    go false t ih = ih

pub takes-count-up : LegalTakesCountUp
takes-count-up l past q shape h = record { positions_are = counts l past q shape h; messages_are = (receives_in_order l past q shape h).0 }

-- From one take to a later one.

count-length : (n : ℕ) → length (count_to n) ≡ n
count-length zero = refl
count-length (suc n) = let l = length-append (count_to n) (n ∷ []) in let ih = count-length n in omega (arith, l, ih)

-- how many takes of the port an entry is, which stands on its line or does not
abbrev weight : Bool → Act → ℕ
weight true (Act.Take q n x) = 1
weight _ _ = 0

weight-after : (a : Act) (ns : List ℕ) → length (positions_after a ns) ≡ weight true a + length ns
weight-after (Act.Take q n x) ns = let l = length-append ns (n ∷ []) in omega (arith, l)
weight-after _ ns = let e : length ns ≡ 0 + length ns = omega arith in e

weight-more : (b : Bool) (e : Entry) (port : List Entry) → length (positions (cond b (e ∷ port) port)) ≡ weight b e.act + length (positions port)
weight-more true e port = weight-after e.act (positions port)
weight-more false e port = let n : length (positions port) ≡ 0 + length (positions port) = omega arith in n

sum-assoc : (a b c : ℕ) → a + (b + c) ≡ (a + b) + c
sum-assoc a b c = omega arith

count-both : (q : Ui) (xs ys : List Entry) → length (positions (on q (xs ++ ys))) ≡ length (positions (on q xs)) + length (positions (on q ys))
count-both q [] ys = let n : length (positions (on q ys)) ≡ 0 + length (positions (on q ys)) = omega arith in n
count-both q (e ∷ xs) ys =
    let w : ℕ = weight (is_on (Some q) e) e.act in
    weight-more (is_on (Some q) e) e (on q (xs ++ ys)) ∙ ap (λ k. w + k) (count-both q xs ys)
    ∙ sum-assoc w (length (positions (on q xs))) (length (positions (on q ys)))
    ∙ ap (λ k. k + length (positions (on q ys))) (sym (weight-more (is_on (Some q) e) e (on q xs)))

one-take : (e : Entry) (q : Ui) (n : ℕ) (x : MsgId) → e.act ≡ Act.Take q n x → weight (is_on (Some q) e) e.act ≡ 1
one-take e q n x is = ap (λ a. weight (are_same same_ui (Some q) (held_port_of a)) a) is ∙ ap (λ b. weight b (Act.Take q n x)) (same_ui-self q)

pub next-taken : (l : Layout) (past : List Entry) (e : Entry) (q : Ui) (n : ℕ) (x : MsgId) → IsLayout l → is_legal l (e ∷ past) ≡ true → e.act ≡ Act.Take q n x → n ≡ length (positions (on q past))
next-taken l past e q n x shape h is =
    let two = legal_parts l e past h in
    let takes = subst (λ a. act_may l (views past e.place e.seat a) e.place e.seat a ≡ true) is two.0 in
    let first = (and_parts (is_held_at e.place (fate (on q past))) (is_first_waiting n x (fate (on q past))) takes).1 in
    first-is n x (fate (on q past)) first ∙ sym (count-length (taken_from (fate (on q past)))) ∙ ap (λ (ns : List ℕ). length ns) (sym (counts l past q shape two.1))

one-more : (m n all between early older : ℕ) → m ≡ all → n ≡ older → all ≡ between + early → early ≡ 1 + older → m ≡ (n + 1) + between
one-more m n all between early older a b c d = omega (arith, a, b, c, d)

pub takes-follow : LegalTakesFollow
takes-follow l newer between older late early q m n y x shape h is was =
    let rest = between ++ early ∷ older in
    let then = legal-older l newer (late ∷ rest) h in
    let before = legal-older l between (early ∷ older) (legal_parts l late rest then).1 in
    one-more m n (length (positions (on q rest))) (length (positions (on q between))) (length (positions (on q (early ∷ older)))) (length (positions (on q older)))
    (next-taken l rest late q m y shape then is) (next-taken l older early q n x shape before was) (count-both q between (early ∷ older))
    (weight-more (is_on (Some q) early) early (on q older) ∙ ap (λ k. k + length (positions (on q older))) (one-take early q n x was))
