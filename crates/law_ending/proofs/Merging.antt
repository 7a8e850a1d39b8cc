-- The rank is the same by the history of a schedule as by its merged journals: it does not depend on the order of the entries.
use Rattle.std.proofs.Common.{ℕ, ◌≡◌, ◌≤◌, Bool, true, false, ◌||◌, cond, List, [], ◌∷◌, Option, Some, None, refl, sym, ◌∙◌, ap, subst, arith}
use Rattle.std.specs.Prelude.{option_to_list}
use Rattle.std.proofs.Math.Nat.{zero-mul}
use Rattle.chorus_ui.specs.declared.ui.Ui.{Ui}
use Rattle.chorus_ui.specs.declared.layout.Layout.{Layout}
use Rattle.chorus_ui.specs.Layout.{IsLayout}
use Rattle.chorus_entry.specs.declared.entry.Entry.{Entry}
use Rattle.chorus_entry.specs.Order.{comes_before}
use Rattle.chorus_world.specs.Order.{insert, sort}
use Rattle.place_unsettled.specs.declared.wait.Key.{Key}
use Rattle.place_unsettled.specs.Queues.{Queue, same_key, empty_queue, changed}
use Rattle.place_unsettled.proofs.Keys.{same_key-refl}
use Rattle.law_machine.proofs.Machine.Keys.{same_key-is}
use Rattle.law_machine.specs.PlaceState.{PlaceState}
use Rattle.law_network.specs.Network.{Event, schedule}
use Rattle.law_network.specs.Schedules.{may_be}
use Rattle.law_network.specs.History.{history}
use Rattle.law_network.specs.Left.{merged_past}
use Rattle.law_network.proofs.Events.InOrder.{in-order}
use Rattle.law_network.proofs.Merge.Journals.{merge-is}
use Rattle.law_network.proofs.Draining.Weights.{AreApart}
use Rattle.law_network.proofs.Draining.Routes.{keys-apart}
use Rattle.law_network.specs.Rank.{is_among, key_of, with_key, keys, Bounds, waits_rank, places_rank, moves, joining, joined, sum_rank, most_rank, bounds, rank_by, rank}
use Rattle.law_network.proofs.Draining.Weights.{whole, idle-off, idle-on}
use Rattle.law_network.proofs.Draining.Bounds.{sum-append, most-append, bounds-same}

-- What bounds it.

moves-insert : (q : Ui) (e : Entry) (past : List Entry) → moves q (insert e past) ≡ moves q (e ∷ past)
moves-insert q e [] = refl
moves-insert q e (f ∷ past) = go (comes_before e f) (moves-insert q e past)
  where
    go : (b : Bool) → moves q (insert e past) ≡ moves q (e ∷ past) → moves q (cond b (f ∷ insert e past) (e ∷ f ∷ past)) ≡ moves q (e ∷ f ∷ past)
    go true ih = omega (arith, ih)
    go false ih = refl

moves-sort : (q : Ui) (past : List Entry) → moves q (sort past) ≡ moves q past
moves-sort q [] = refl
moves-sort q (e ∷ past) = (let ih = moves-sort q past in let one = moves-insert q e (sort past) in omega (arith, ih, one))

sums-insert : (f : Ui → ℕ) (g : Ui) (e : Entry) (past : List Entry) → sum_rank f g (joined g (insert e past)) ≡ sum_rank f g (joined g (e ∷ past))
sums-insert f g e [] = refl
sums-insert f g e (x ∷ past) = go (comes_before e x) (sums-insert f g e past)
  where
    go : (b : Bool) → sum_rank f g (joined g (insert e past)) ≡ sum_rank f g (joined g (e ∷ past)) → sum_rank f g (joined g (cond b (x ∷ insert e past) (e ∷ x ∷ past))) ≡ sum_rank f g (joined g (e ∷ x ∷ past))
    go true ih =
        let one = sum-append f g (option_to_list (joining g x.act)) (joined g (insert e past)) in
        let two = sum-append f g (option_to_list (joining g e.act)) (joined g past) in
        let three = sum-append f g (option_to_list (joining g e.act)) (joined g (x ∷ past)) in
        let four = sum-append f g (option_to_list (joining g x.act)) (joined g past) in
        omega (arith, ih, one, two, three, four)
    go false ih = refl

sums-sort : (f : Ui → ℕ) (g : Ui) (past : List Entry) → sum_rank f g (joined g (sort past)) ≡ sum_rank f g (joined g past)
sums-sort f g [] = refl
sums-sort f g (e ∷ past) =
    let ih = sums-sort f g past in
    let one = sums-insert f g e (sort past) in
    let two = sum-append f g (option_to_list (joining g e.act)) (joined g (sort past)) in
    let three = sum-append f g (option_to_list (joining g e.act)) (joined g past) in
    omega (arith, ih, one, two, three)

mosts-insert : (f : Ui → ℕ) (g : Ui) (e : Entry) (past : List Entry) → most_rank f g (joined g (insert e past)) ≡ most_rank f g (joined g (e ∷ past))
mosts-insert f g e [] = refl
mosts-insert f g e (x ∷ past) = go (comes_before e x) (mosts-insert f g e past)
  where
    go : (b : Bool) → most_rank f g (joined g (insert e past)) ≡ most_rank f g (joined g (e ∷ past)) → most_rank f g (joined g (cond b (x ∷ insert e past) (e ∷ x ∷ past))) ≡ most_rank f g (joined g (e ∷ x ∷ past))
    go true ih =
        let one = most-append f g (option_to_list (joining g x.act)) (joined g (insert e past)) in
        let two = most-append f g (option_to_list (joining g e.act)) (joined g past) in
        let three = most-append f g (option_to_list (joining g e.act)) (joined g (x ∷ past)) in
        let four = most-append f g (option_to_list (joining g x.act)) (joined g past) in
        omega (arith, ih, one, two, three, four)
    go false ih = refl

mosts-sort : (f : Ui → ℕ) (g : Ui) (past : List Entry) → most_rank f g (joined g (sort past)) ≡ most_rank f g (joined g past)
mosts-sort f g [] = refl
mosts-sort f g (e ∷ past) =
    let ih = mosts-sort f g past in
    let one = mosts-insert f g e (sort past) in
    let two = most-append f g (option_to_list (joining g e.act)) (joined g (sort past)) in
    let three = most-append f g (option_to_list (joining g e.act)) (joined g past) in
    omega (arith, ih, one, two, three)

bounds-sort : (past : List Entry) → bounds (sort past) ≡ bounds past
bounds-sort past = bounds-same (sort past) past (λ q. moves-sort q past) (λ f g. sums-sort f g past) (λ f g. mosts-sort f g past)

-- The ports and routes.

abbrev is_key : Key → Option Key → Bool
is_key k None = false
is_key k (Some j) = same_key k j

abbrev any_key : Key → List Entry → Bool
any_key k [] = false
any_key k (e ∷ past) = is_key k (key_of e.act) || any_key k past

among-any : (k : Key) (past : List Entry) → is_among k (keys past) ≡ any_key k past
among-any k [] = refl
among-any k (e ∷ past) = go (key_of e.act) (among-any k past)
  where
    there : (j : Key) (ks : List Key) (c : Bool) → is_among j ks ≡ true → same_key k j ≡ c → is_among k ks ≡ (c || is_among k ks)
    there j ks true h same = subst (λ i. is_among i ks ≡ true) (sym (same_key-is k j same)) h
    there j ks false h same = refl

    with : (j : Key) (ks : List Key) (b : Bool) → is_among j ks ≡ b → is_among k (cond b ks (j ∷ ks)) ≡ (same_key k j || is_among k ks)
    with j ks true h = there j ks (same_key k j) h refl
    with j ks false h = refl

    go : (o : Option Key) → is_among k (keys past) ≡ any_key k past → is_among k (with_key o (keys past)) ≡ (is_key k o || any_key k past)
    go None ih = ih
    go (Some j) ih = with j (keys past) (is_among j (keys past)) refl ∙ ap (λ b. same_key k j || b) ih

any-insert : (k : Key) (e : Entry) (past : List Entry) → any_key k (insert e past) ≡ any_key k (e ∷ past)
any-insert k e [] = refl
any-insert k e (f ∷ past) = go (comes_before e f) (any-insert k e past)
  where
    swap : (a b c : Bool) → (a || (b || c)) ≡ (b || (a || c))
    swap true true c = refl
    swap true false c = refl
    swap false b c = refl

    go : (b : Bool) → any_key k (insert e past) ≡ any_key k (e ∷ past) → any_key k (cond b (f ∷ insert e past) (e ∷ f ∷ past)) ≡ any_key k (e ∷ f ∷ past)
    go true ih = ap (λ b. is_key k (key_of f.act) || b) ih ∙ swap (is_key k (key_of f.act)) (is_key k (key_of e.act)) (any_key k past)
    go false ih = refl

any-sort : (k : Key) (past : List Entry) → any_key k (sort past) ≡ any_key k past
any-sort k [] = refl
any-sort k (e ∷ past) = any-insert k e (sort past) ∙ ap (λ b. is_key k (key_of e.act) || b) (any-sort k past)

-- a sum over some ports and routes, each once, is at most that over all
waits-less : (b : Bounds) (ks js : List Key) → AreApart ks → AreApart js → ((i : Key) → is_among i ks ≡ true → is_among i js ≡ true) → (queues : Key → Queue) → waits_rank b ks queues ≤ waits_rank b js queues
waits-less b [] js apart other some queues = omega arith
waits-less b (k ∷ ks) js apart other some queues =
    let without : Key → Queue = changed k (λ q. empty_queue) queues in
    let mine = idle-off b k (λ q. empty_queue) queues ks apart.0 in
    let all = idle-on b k (λ q. empty_queue) queues js other (some k (ap (λ c. c || is_among k ks) (same_key-refl k))) in
    let none = zero-mul (whole b k) in
    let rest = waits-less b ks js apart.1 other (λ i h. some i (more (same_key i k) (is_among i ks) h)) without in
    omega (arith, mine, all, none, rest)
  where
    more : (b c : Bool) → c ≡ true → (b || c) ≡ true
    more true c h = refl
    more false c h = h

waits-sort : (b : Bounds) (past : List Entry) (queues : Key → Queue) → waits_rank b (keys (sort past)) queues ≡ waits_rank b (keys past) queues
waits-sort b past queues =
    let same : (i : Key) → is_among i (keys (sort past)) ≡ is_among i (keys past) = λ i. among-any i (sort past) ∙ any-sort i past ∙ sym (among-any i past) in
    let down = waits-less b (keys (sort past)) (keys past) (keys-apart (sort past)) (keys-apart past) (λ i h. sym (same i) ∙ h) queues in
    let up = waits-less b (keys past) (keys (sort past)) (keys-apart past) (keys-apart (sort past)) (λ i h. same i ∙ h) queues in
    omega (arith, down, up)

places-sort : (b : Bounds) (past : List Entry) (ss : List PlaceState) → places_rank b (keys (sort past)) ss ≡ places_rank b (keys past) ss
places-sort b past [] = refl
places-sort b past (s ∷ ss) = (let one = waits-sort b past s.waiting in let rest = places-sort b past ss in omega (arith, one, rest))

-- so the rank is one by the history and by the merge
pub rank-is : (l : Layout) (es : List Event) → IsLayout l → may_be l es ≡ true → rank (schedule l es) ≡ rank_by (bounds (history l es)) (keys (history l es)) (schedule l es)
rank-is l es shape may =
    let n = schedule l es in
    let past = history l es in
    let merged : merged_past n ≡ sort past = merge-is n past (in-order l es shape may).0 in
    let places = places-sort (bounds past) past n.places in
    ap (λ p. rank_by (bounds p) (keys p) n) merged ∙ ap (λ b. rank_by b (keys (sort past)) n) (bounds-sort past) ∙ omega (arith, places)
