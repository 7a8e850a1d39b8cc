-- A history in its order: each move may come behind those before it.
-- r is a race, ms are moves.
use Rattle.std.proofs.Common.{ℕ, zero, suc, ◌≡◌, ◌+◌, ◌<◌, true, List, [], ◌∷◌, ◌++◌, length, take, drop, reverse, get_or, refl, ◌∙◌, ap, subst, arith, append_assoc}
use Rattle.std.proofs.lemmas.List.{reverse-append}
use Rattle.law_explore.specs.declared.moves.Move.{Move}
use Rattle.law_explore.specs.Search.{IsHistory, state_after}
use Rattle.law_explore.specs.Races.{Race, may_come, replaying}

split-at : (xs : List Move) (i : ℕ) (d : Move) → i < length xs → xs ≡ take i xs ++ get_or xs i d ∷ drop (i + 1) xs
split-at [] i d lt = absurd (omega (arith, lt))
split-at (x ∷ xs) zero d lt = refl
split-at (x ∷ xs) (suc i) d lt =
    let n : suc (i + 1) ≡ suc i + 1 = omega arith in
    ap (λ ys. x ∷ ys) (split-at xs i d (omega (arith, lt))) ∙ ap (λ (k : ℕ). x ∷ take i xs ++ get_or xs i d ∷ drop k (x ∷ xs)) n

history-behind : (r : Race) (later ms : List Move) → IsHistory (replaying r) (later ++ ms) → IsHistory (replaying r) ms
history-behind r [] ms h = h
history-behind r (m ∷ later) ms h = history-behind r later ms h.1

pub may-next : (r : Race) (xs : List Move) (i : ℕ) (d : Move) → i < length xs → IsHistory (replaying r) (reverse xs)
    → may_come r.net.layout (get_or xs i d) (state_after (replaying r) (reverse (take i xs))) ≡ true
may-next r xs i d lt h =
    let x = get_or xs i d in
    let is : reverse xs ≡ reverse (drop (i + 1) xs) ++ get_or xs i d ∷ reverse (take i xs) =
    ap reverse (split-at xs i d lt) ∙ reverse-append (take i xs) (x ∷ drop (i + 1) xs) ∙ ap (λ zs. zs ++ reverse (take i xs)) (reverse-append (x ∷ []) (drop (i + 1) xs))
    ∙ append_assoc (reverse (drop (i + 1) xs)) (x ∷ []) (reverse (take i xs)) in
    (history-behind r (reverse (drop (i + 1) xs)) (x ∷ reverse (take i xs)) (subst (IsHistory (replaying r)) is h)).0
