-- The arrows of a list are those of the list in the order by clock and place: entries that are exchanged read nothing of one another.
use Rattle.std.proofs.Common.{◌≡◌, ◌==◌, Bool, true, false, cond, if◌then◌else◌, List, [], ◌∷◌, ◌++◌, Some, None, IsPermutation, refl, sym, ◌∙◌, ap, subst, append_assoc}
use Rattle.std.specs.List.{filter}
use Rattle.std.proofs.lemmas.List.Sorted.{IsPermutation-refl, IsPermutation-trans, IsPermutation-append, IsPermutation-append_comm}
use Rattle.chorus_entry.specs.declared.entry.Entry.{Entry}
use Rattle.chorus_entry.specs.declared.act.Act.{Act}
use Rattle.chorus_entry.specs.declared.act.Act.TheVariants.{Arrive}
use Rattle.chorus_entry.specs.Act.{message_of, held_port_of}
use Rattle.chorus_entry.specs.Order.{comes_before}
use Rattle.chorus_world.specs.Order.{insert, sort}
use Rattle.chorus_world.specs.Views.{is_about, is_on}
use Rattle.chorus_world.proofs.Steps.LegalLemmas.{keeps, skips}
use Rattle.chorus_world.proofs.Sorted.Exchange.{FollowsAll, IsApart, IsChain, IsChained, about_chain, apart_back, before_apart, chained, filter_sort, follows_sort, on_chain}
use Rattle.law_network.specs.Network.{schedule}
use Rattle.law_network.specs.History.{history}
use Rattle.law_network.proofs.Events.InOrder.{in-order}
use Rattle.law_network.proofs.Merge.Journals.{merge-is}
use Rattle.law_picture.specs.Causes.{caused_by, from_elsewhere, goes_on, latest, packet_of, row_of}
use Rattle.law_picture.proofs.Came.{latest_here, latest_skips}
use Rattle.law_arrows.specs.Arrows.{Arrow, ArrowsOfMergesArePackets, arrow_from, arrows, worked_off}
use Rattle.law_arrows.proofs.Schedules.{arrows_are_packets}

-- An arrow by the newest entry of a view.

arrow_by : Entry → List Entry → List Arrow
arrow_by e [] = []
arrow_by e (f ∷ fs) = if f.place == e.place then [] else record { kind = packet_of e.act; from = f.place; clock = f.clock; to = e.place } ∷ []

from-row : (e f : Entry) (past more : List Entry) → arrow_from e (from_elsewhere e (Some (row_of past f))) ≡ arrow_by e (f ∷ more)
unfolding arrow_by
from-row e f past more = go (f.place == e.place)
  where
    go : (b : Bool) → arrow_from e (cond b None (Some (row_of past f)))
        ≡ cond b [] (record { kind = packet_of e.act; from = f.place; clock = f.clock; to = e.place } ∷ [])
    go true = refl
    go false = refl

by-view : (e : Entry) (test : Entry → Bool) (past : List Entry) → arrow_from e (from_elsewhere e (latest test past)) ≡ arrow_by e (filter test past)
unfolding arrow_by
by-view e test [] = refl
by-view e test (f ∷ past) = go (test f) refl (by-view e test past)
  where
    go : (b : Bool) → test f ≡ b → arrow_from e (from_elsewhere e (latest test past)) ≡ arrow_by e (filter test past)
        → arrow_from e (from_elsewhere e (latest test (f ∷ past))) ≡ arrow_by e (filter test (f ∷ past))
    go true h further =
        ap (λ o. arrow_from e (from_elsewhere e o)) (latest_here test f past h) ∙ from-row e f past (filter test past)
        ∙ ap (arrow_by e) (sym (keeps test f past h))
    go false h further =
        ap (λ o. arrow_from e (from_elsewhere e o)) (latest_skips test f past h) ∙ further ∙ ap (arrow_by e) (sym (skips test f past h))

arrow : Entry → List Entry → List Arrow
arrow e past = arrow_by e (filter (goes_on e.act) past)

arrow-is : (e : Entry) (past : List Entry) → arrow_from e (caused_by past e) ≡ arrow e past
unfolding arrow
arrow-is e past = by-view e (goes_on e.act) past

-- What an entry goes on from is no entry that is apart.

goes-chain : (a : Act) → IsChain (goes_on a)
goes-chain (Arrive q hop) = on_chain (Some q)
goes-chain a = about_chain (message_of a)

apart-goes : (e f : Entry) → IsApart e f → goes_on e.act f ≡ false
apart-goes e f h = by e.act refl
  where
    by : (a : Act) → e.act ≡ a → goes_on a f ≡ false
    by (Arrive q hop) is = subst (λ a. is_on (held_port_of a) f ≡ false) is h.port
    by a is = subst (λ b. is_about (message_of b) f ≡ false) is h.message

not-seen : (t : Entry → Bool) (e : Entry) (past : List Entry) → t e ≡ false → filter t (insert e past) ≡ filter t past
not-seen t e [] n = skips t e [] n
not-seen t e (f ∷ past) n = go (comes_before e f) (not-seen t e past n)
  where
    go : (b : Bool) → filter t (insert e past) ≡ filter t past → filter t (cond b (f ∷ insert e past) (e ∷ f ∷ past)) ≡ filter t (f ∷ past)
    go true same = ap (λ xs. cond (t f) (f ∷ xs) xs) same
    go false same = skips t e (f ∷ past) n

arrow-over : (e f : Entry) (past : List Entry) → IsApart e f → arrow e (f ∷ past) ≡ arrow e past
unfolding arrow
arrow-over e f past h = ap (arrow_by e) (skips (goes_on e.act) f past (apart-goes e f h))

arrow-beside : (f e : Entry) (past : List Entry) → IsApart f e → arrow f (insert e past) ≡ arrow f past
unfolding arrow
arrow-beside f e past h = ap (arrow_by f) (not-seen (goes_on f.act) e past (apart-goes f e h))

-- One entry is put in its place, and then all.

exchanged : (xs ys zs : List Arrow) → IsPermutation (xs ++ (ys ++ zs)) (ys ++ (xs ++ zs))
exchanged xs ys zs =
    subst (λ us. IsPermutation us (ys ++ (xs ++ zs))) (append_assoc xs ys zs)
    (subst (IsPermutation ((xs ++ ys) ++ zs)) (append_assoc ys xs zs)
    (IsPermutation-append (xs ++ ys) (ys ++ xs) zs zs (IsPermutation-append_comm xs ys) (IsPermutation-refl zs)))

arrows-insert : (e : Entry) (past : List Entry) → FollowsAll e past → IsPermutation (arrows (insert e past)) (arrow e past ++ arrows past)
arrows-insert e [] h = subst (λ xs. IsPermutation (arrows (e ∷ [])) (xs ++ [])) (arrow-is e []) (IsPermutation-refl (arrows (e ∷ [])))
arrows-insert e (f ∷ past) h = go (comes_before e f) refl (arrows-insert e past h.1)
  where
    go : (b : Bool) → comes_before e f ≡ b → IsPermutation (arrows (insert e past)) (arrow e past ++ arrows past)
        → IsPermutation (arrows (cond b (f ∷ insert e past) (e ∷ f ∷ past))) (arrow e (f ∷ past) ++ arrows (f ∷ past))
    go false n below =
        subst (λ xs. IsPermutation (arrows (e ∷ f ∷ past)) (xs ++ arrows (f ∷ past))) (arrow-is e (f ∷ past)) (IsPermutation-refl (arrows (e ∷ f ∷ past)))
    go true t below =
        let apart = before_apart e f h.0 t in
        let here = arrow_from f (caused_by past f) in
        let same : arrow_from f (caused_by (insert e past) f) ≡ here =
        arrow-is f (insert e past) ∙ arrow-beside f e past (apart_back e f apart) ∙ sym (arrow-is f past) in
        subst (λ xs. IsPermutation (xs ++ arrows (insert e past)) (arrow e (f ∷ past) ++ (here ++ arrows past))) (sym same)
        (subst (λ xs. IsPermutation (here ++ arrows (insert e past)) (xs ++ (here ++ arrows past))) (sym (arrow-over e f past apart))
        (IsPermutation-trans (here ++ arrows (insert e past)) (here ++ (arrow e past ++ arrows past)) (arrow e past ++ (here ++ arrows past))
        (IsPermutation-append here here (arrows (insert e past)) (arrow e past ++ arrows past) (IsPermutation-refl here) below)
        (exchanged here (arrow e past) (arrows past))))

arrows-sort : (past : List Entry) → IsChained past → IsPermutation (arrows (sort past)) (arrows past)
unfolding arrow
arrows-sort [] h = IsPermutation-refl []
arrows-sort (e ∷ past) h =
    let here = arrow_from e (caused_by past e) in
    let same : arrow e (sort past) ≡ here = ap (arrow_by e) (filter_sort (goes_on e.act) (goes-chain e.act) past h.1) ∙ sym (arrow-is e past) in
    IsPermutation-trans (arrows (insert e (sort past))) (arrow e (sort past) ++ arrows (sort past)) (here ++ arrows past)
    (arrows-insert e (sort past) (follows_sort e past h.0))
    (subst (λ xs. IsPermutation (xs ++ arrows (sort past)) (here ++ arrows past)) (sym same)
    (IsPermutation-append here here (arrows (sort past)) (arrows past) (IsPermutation-refl here) (arrows-sort past h.1)))

pub arrows_of_merges : ArrowsOfMergesArePackets
arrows_of_merges l es shape may =
    let stands = (in-order l es shape may).0 in
    subst (λ past. IsPermutation (arrows past) (worked_off l es)) (sym (merge-is (schedule l es) (history l es) stands))
    (subst (IsPermutation (arrows (sort (history l es)))) (arrows_are_packets l es shape may)
    (arrows-sort (history l es) (chained (history l es) stands.causal)))
