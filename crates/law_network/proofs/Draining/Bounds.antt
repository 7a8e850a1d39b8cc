-- No hop is higher than its port moved often, and the members of a group are some of those that joined it.
use Rattle.std.proofs.Common.{ℕ, zero, suc, ◌≡◌, ◌≤◌, ◌+◌, Bool, true, false, cond, List, [], ◌∷◌, ◌++◌, map, length, take, drop, Option, Some, None, refl, sym, ◌∙◌, ap, subst, arith}
use Rattle.std.specs.List.{All}
use Rattle.std.specs.Prelude.{find, max, option_to_list}
use Rattle.std.proofs.lemmas.Bool.{true≢false}
use Rattle.std.proofs.lemmas.List.Elements.{All-nil, All-head, All-tail, All-push, All-weaker}
use Rattle.chorus_world.proofs.Groups.Members.{all-without, all-chosen}
use Rattle.std.proofs.lemmas.Option.{slice_get_within}
use Rattle.std.proofs.lemmas.List.{length_push}
use Rattle.chorus_ui.specs.declared.ui.Ui.{Ui}
use Rattle.chorus_ui.specs.declared.layout.Layout.{Layout}
use Rattle.chorus_ui.specs.Layout.{IsLayout}
use Rattle.chorus_ui.specs.Name.{same_ui}
use Rattle.chorus_entry.specs.declared.entry.Entry.{Entry}
use Rattle.chorus_entry.specs.declared.dest.Dest.{Dest}
use Rattle.chorus_entry.specs.declared.dest.Dest.TheVariants as dests
use Rattle.chorus_entry.specs.declared.act.Act.{Act}
use Rattle.chorus_entry.specs.declared.act.Act.TheVariants as acts
use Rattle.chorus_entry.specs.Act.{is_command_entry, held_port_of}
use Rattle.chorus_entry.specs.Order.{is_at}
use Rattle.chorus_entry.specs.Same.{are_same}
use Rattle.chorus_entry.specs.Members.{without, index_of, first_of, listed}
use Rattle.chorus_world.specs.Views.{at, on, is_on}
use Rattle.chorus_world.specs.Ports.{PortState, fate, fate_after}
use Rattle.chorus_world.specs.Places.{located}
use Rattle.chorus_world.specs.Groups.{members, members_after, in_turn, is_at_site}
use Rattle.chorus_world.specs.Groups as world
use Rattle.chorus_world.specs.Steps.{is_legal}
use Rattle.chorus_world.specs.LocationLaws.{path_of}
use Rattle.chorus_world.specs.declared.place.Location.{Location}
use Rattle.chorus_world.proofs.Messages.MessageSteps.{locates}
use Rattle.place_unsettled.specs.Queues.{Queue}
use Rattle.chorus_entry.specs.Dest.{group_in}
use Rattle.law_machine.specs.Choosing.{by_group, choice}
use Rattle.law_network.specs.Network.{NetState, place, one_if}
use Rattle.law_network.specs.Records.{as_wait}
use Rattle.law_network.specs.Stands.{Stands}
use Rattle.law_network.proofs.Tables.Learning.{choice-same}
use Rattle.law_network.proofs.Standing.Turning.{layout-is}
use Rattle.law_network.proofs.Draining.Working.{HasMember}
use Rattle.law_network.proofs.Draining.Routes.{choices-keyed, none-waits-for}
use Rattle.law_network.specs.Rank.{keys, wait_rank, departs, moves, joining, joined, sum_rank, most_rank, copies_rank, bounds}
use Rattle.law_network.proofs.Draining.Working.{IsWithin}

-- Hops.

path-grows : (l : Layout) (q : Ui) (p n : ℕ) (a : Act) (o : Option PortState) → are_same same_ui (Some q) (held_port_of a) ≡ true → length (path_of l q o) ≤ n + 1 → length (path_of l q (fate_after p a o)) ≤ one_if (departs q a) + n + 1
path-grows l q p n (acts.Make r b c) o is h = omega arith
path-grows l q p n (acts.Depart r to b hop) None is h = omega arith
path-grows l q p n (acts.Depart r to b hop) (Some f) is h =
    let e = length_push f.path to in
    let one : one_if (same_ui q r) ≡ 1 = ap one_if is in
    omega (arith, e, h, one)
path-grows l q p n a None is h = omega arith
path-grows l q p n a (Some f) is h = omega (arith, h)

line-length : (l : Layout) (q : Ui) (past : List Entry) → length (path_of l q (fate (on q past))) ≤ moves q past + 1
line-length l q [] = omega arith
line-length l q (e ∷ past) = go (is_on (Some q) e) refl (line-length l q past)
  where
    go : (b : Bool) → is_on (Some q) e ≡ b → length (path_of l q (fate (on q past))) ≤ moves q past + 1 → length (path_of l q (fate (cond b (e ∷ on q past) (on q past)))) ≤ one_if (departs q e.act) + moves q past + 1
    go true here ih = path-grows l q e.place (moves q past) e.act (fate (on q past)) here ih
    go false away ih = omega (arith, ih)

hops-within : (l : Layout) (past : List Entry) (p : ℕ) (q : Ui) → IsLayout l → is_legal l past ≡ true → (located l q (at p past)).hop ≤ moves q past
hops-within l past p q shape legal =
    let less = slice_get_within (path_of l q (fate (on q past))) (located l q (at p past)).hop (located l q (at p past)).to (locates l past p q shape legal) in
    let long = line-length l q past in
    omega (arith, less, long)

-- Members.

pub sum-append : (f : Ui → ℕ) (g : Ui) (qs rs : List Ui) → sum_rank f g (qs ++ rs) ≡ sum_rank f g qs + sum_rank f g rs
sum-append f g [] rs = omega arith
sum-append f g (q ∷ qs) rs = (let rest = sum-append f g qs rs in omega (arith, rest))

pub most-append : (f : Ui → ℕ) (g : Ui) (qs rs : List Ui) → most_rank f g (qs ++ rs) ≡ max (most_rank f g qs) (most_rank f g rs)
most-append f g [] rs = omega arith
most-append f g (q ∷ qs) rs = (let rest = most-append f g qs rs in omega (arith, rest))

sum-cut : (f : Ui → ℕ) (g : Ui) (i : ℕ) (qs : List Ui) → sum_rank f g (take i qs) + sum_rank f g (drop (suc i) qs) ≤ sum_rank f g qs
sum-cut f g zero [] = omega arith
sum-cut f g (suc i) [] = omega arith
sum-cut f g zero (q ∷ qs) = omega arith
sum-cut f g (suc i) (q ∷ qs) = (let rest = sum-cut f g i qs in omega (arith, rest))

sum-without : (f : Ui → ℕ) (g : Ui) (q : Ui) (qs : List Ui) → sum_rank f g (without q qs) ≤ sum_rank f g qs
sum-without f g q qs =
    let i = index_of q qs in
    let e = sum-append f g (take i qs) (drop (suc i) qs) in
    let le = sum-cut f g i qs in
    omega (arith, e, le)

-- the members weigh no more than all that joined
sum-grows : (f : Ui → ℕ) (g : Ui) (a : Act) (qs js : List Ui) → sum_rank f g qs ≤ sum_rank f g js → sum_rank f g (members_after g a qs) ≤ sum_rank f g (option_to_list (joining g a) ++ js)
sum-grows f g (acts.Join h q) qs js le = go (same_ui h g)
  where
    go : (b : Bool) → sum_rank f g (cond b (qs ++ q ∷ []) qs) ≤ sum_rank f g (option_to_list (cond b (Some q) None) ++ js)
    go true = (let e = sum-append f g qs (q ∷ []) in omega (arith, e, le))
    go false = le
sum-grows f g (acts.Leave h q) qs js le = go (same_ui h g)
  where
    go : (b : Bool) → sum_rank f g (cond b (without q qs) qs) ≤ sum_rank f g js
    go true = (let e = sum-without f g q qs in omega (arith, e, le))
    go false = le
sum-grows f g a qs js le = le

members-sum : (f : Ui → ℕ) (g : Ui) (p : ℕ) (past : List Entry) → sum_rank f g (members g (at p past)) ≤ sum_rank f g (joined g past)
members-sum f g p [] = omega arith
members-sum f g p (e ∷ past) = go (is_at p e) (members-sum f g p past)
  where
    go : (b : Bool) → sum_rank f g (members g (at p past)) ≤ sum_rank f g (joined g past) → sum_rank f g (members g (cond b (e ∷ at p past) (at p past))) ≤ sum_rank f g (option_to_list (joining g e.act) ++ joined g past)
    go true ih = sum-grows f g e.act (members g (at p past)) (joined g past) ih
    go false ih = (let all = sum-append f g (option_to_list (joining g e.act)) (joined g past) in omega (arith, all, ih))

-- and none of them more than the most of these
abbrev IsAtMost : (Ui → ℕ) → Ui → ℕ → Ui → Type 0
IsAtMost f g m q = wait_rank f (by_group g q) ≤ m

more : (f : Ui → ℕ) (g : Ui) (m n : ℕ) (qs : List Ui) → m ≤ n → All (IsAtMost f g m) qs → All (IsAtMost f g n) qs
more f g m n qs le h = All-weaker (IsAtMost f g m) (IsAtMost f g n) (λ q k. omega (arith, k, le)) qs h

most-grows : (f : Ui → ℕ) (g : Ui) (a : Act) (qs js : List Ui) → All (IsAtMost f g (most_rank f g js)) qs → All (IsAtMost f g (most_rank f g (option_to_list (joining g a) ++ js))) (members_after g a qs)
most-grows f g (acts.Join h q) qs js all = go (same_ui h g)
  where
    go : (b : Bool) → All (IsAtMost f g (most_rank f g (option_to_list (cond b (Some q) None) ++ js))) (cond b (qs ++ q ∷ []) qs)
    go true =
        let top = most_rank f g (q ∷ js) in
        All-push (IsAtMost f g top) qs q (more f g (most_rank f g js) top qs (omega arith) all) (omega arith)
    go false = all
most-grows f g (acts.Leave h q) qs js all = go (same_ui h g)
  where
    go : (b : Bool) → All (IsAtMost f g (most_rank f g js)) (cond b (without q qs) qs)
    go true = all-without (IsAtMost f g (most_rank f g js)) q qs all
    go false = all
most-grows f g a qs js all = all

members-most : (f : Ui → ℕ) (g : Ui) (p : ℕ) (past : List Entry) → All (IsAtMost f g (most_rank f g (joined g past))) (members g (at p past))
members-most f g p [] = All-nil (IsAtMost f g 0)
members-most f g p (e ∷ past) = go (is_at p e) (members-most f g p past)
  where
    go : (b : Bool) → All (IsAtMost f g (most_rank f g (joined g past))) (members g (at p past)) → All (IsAtMost f g (most_rank f g (option_to_list (joining g e.act) ++ joined g past))) (members g (cond b (e ∷ at p past) (at p past)))
    go true ih = most-grows f g e.act (members g (at p past)) (joined g past) ih
    go false ih =
        let all = most-append f g (option_to_list (joining g e.act)) (joined g past) in
        more f g (most_rank f g (joined g past)) (most_rank f g (joined g (e ∷ past))) (members g (at p past)) (omega (arith, all)) ih

one-sum : (f : Ui → ℕ) (g : Ui) (m : ℕ) (o : Option Ui) → All (IsAtMost f g m) (listed o) → sum_rank f g (listed o) ≤ m
one-sum f g m None h = omega arith
one-sum f g m (Some q) h = (let le = All-head (IsAtMost f g m) q [] h in omega (arith, le))

choices-within : (f : Ui → ℕ) (l : Layout) (d : Dest) (g : Ui) (p : ℕ) (past : List Entry) → group_in d ≡ Some g → sum_rank f g (world.choice l d (at p past)) ≤ copies_rank f d past
choices-within f l (dests.Port q) g p past e = absurd (cc)
choices-within f l (dests.All h) g p past e = (let same : h ≡ g = cc in subst (λ z. sum_rank f z (members h (at p past)) ≤ sum_rank f h (joined h past)) same (members-sum f h p past))
choices-within f l (dests.One h) g p past e =
    let same : h ≡ g = cc in
    let top = most_rank f h (joined h past) in
    subst (λ z. sum_rank f z (listed (first_of (in_turn h (at p past)))) ≤ top) same
    (one-sum f h top (first_of (in_turn h (at p past))) (all-chosen (IsAtMost f h top) l (dests.One h) h (at p past) refl (members-most f h p past)))
choices-within f l (dests.OneAt h s) g p past e =
    let same : h ≡ g = cc in
    let top = most_rank f h (joined h past) in
    subst (λ z. sum_rank f z (listed (find (is_at_site l s (at p past)) (in_turn h (at p past)))) ≤ top) same
    (one-sum f h top (find (is_at_site l s (at p past)) (in_turn h (at p past))) (all-chosen (IsAtMost f h top) l (dests.OneAt h s) h (at p past) refl (members-most f h p past)))

-- Places.

pub place-within : (n : NetState) (past : List Entry) (p : ℕ) → IsLayout n.layout → is_legal n.layout past ≡ true → Stands n past → IsWithin (bounds past) (keys past) (place p n)
place-within n past p shape legal s =
    let layout : (place p n).layout ≡ n.layout = layout-is n p s.places in
    let chosen : (d : Dest) → choice d (place p n) ≡ world.choice n.layout d (at p past) =
    λ d. choice-same d (place p n) (λ q. s.known p q ∙ ap (λ (l : Layout). located l q (at p past)) (sym layout) ∙ ap (located (place p n).layout q) (sym (s.journal p)))
    ∙ ap (λ (l : Layout). world.choice l d (place p n).journal) layout ∙ ap (world.choice n.layout d) (s.journal p) in
    record {
      hops = λ q. subst (λ (m : Location). m.hop ≤ moves q past) (sym (s.known p q)) (hops-within n.layout past p q shape legal);
      choices = λ d g e. subst (λ qs. sum_rank (bounds past).moved g qs ≤ (bounds past).copies d) (sym (chosen d)) (choices-within (bounds past).moved n.layout d g p past e);
      waits = λ k off. ap (λ (q : Queue). q.waits) (s.waiting p k) ∙ ap (map (as_wait past)) (none-waits-for n.layout past p k legal off);
      members = λ d g e. subst (All (HasMember (keys past) g)) (sym (chosen d)) (choices-keyed n.layout d g p past e);
    }

-- What bounds the rank is one for pasts that tell the same of ports and groups.

pub bounds-same : (xs ys : List Entry) → ((q : Ui) → moves q xs ≡ moves q ys) → ((f : Ui → ℕ) (g : Ui) → sum_rank f g (joined g xs) ≡ sum_rank f g (joined g ys)) → ((f : Ui → ℕ) (g : Ui) → most_rank f g (joined g xs) ≡ most_rank f g (joined g ys)) → bounds xs ≡ bounds ys
bounds-same xs ys moved sums mosts = λ i. record { moved = λ q. moved q i; copies = λ d. copied d i }
  where
    all-moved : (bounds xs).moved ≡ (bounds ys).moved
    all-moved = λ i q. moved q i

    copied : (d : Dest) → (bounds xs).copies d ≡ (bounds ys).copies d
    copied (dests.Port q) = refl
    copied (dests.All g) = ap (λ (f : Ui → ℕ). sum_rank f g (joined g xs)) all-moved ∙ sums (bounds ys).moved g
    copied (dests.One g) = ap (λ (f : Ui → ℕ). most_rank f g (joined g xs)) all-moved ∙ mosts (bounds ys).moved g
    copied (dests.OneAt g s) = ap (λ (f : Ui → ℕ). most_rank f g (joined g xs)) all-moved ∙ mosts (bounds ys).moved g

-- as where one has newer entries that answer no command

departs-not : (q : Ui) (a : Act) → is_command_entry a ≡ false → departs q a ≡ false
departs-not q (acts.Depart r to b hop) h = absurd (true≢false h)
departs-not q a h = refl

joins-not : (g : Ui) (a : Act) → is_command_entry a ≡ false → joining g a ≡ None
joins-not g (acts.Join h q) e = absurd (true≢false e)
joins-not g a e = refl

moves-follow : (q : Ui) (es past : List Entry) → All (λ (e : Entry). is_command_entry e.act ≡ false) es → moves q (es ++ past) ≡ moves q past
moves-follow q [] past h = refl
moves-follow q (e ∷ es) past h =
    let P : Entry → Type 0 = λ (f : Entry). is_command_entry f.act ≡ false in
    let one : one_if (departs q e.act) ≡ 0 = ap one_if (departs-not q e.act (All-head P e es h)) in
    let rest = moves-follow q es past (All-tail P e es h) in
    omega (arith, one, rest)

joined-follow : (g : Ui) (es past : List Entry) → All (λ (e : Entry). is_command_entry e.act ≡ false) es → joined g (es ++ past) ≡ joined g past
joined-follow g [] past h = refl
joined-follow g (e ∷ es) past h =
    let P : Entry → Type 0 = λ (f : Entry). is_command_entry f.act ≡ false in
    ap (λ o. option_to_list o ++ joined g (es ++ past)) (joins-not g e.act (All-head P e es h)) ∙ joined-follow g es past (All-tail P e es h)

pub bounds-follow : (es past : List Entry) → All (λ (e : Entry). is_command_entry e.act ≡ false) es → bounds (es ++ past) ≡ bounds past
bounds-follow es past h =
    bounds-same (es ++ past) past (λ q. moves-follow q es past h) (λ f g. ap (sum_rank f g) (joined-follow g es past h)) (λ f g. ap (most_rank f g) (joined-follow g es past h))
