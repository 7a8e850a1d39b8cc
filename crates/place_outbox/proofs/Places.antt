-- What waits for each place after a call, and the first place for which a packet waits.
use Rattle.std.proofs.Common.{◌≡◌, ℕ, suc, ◌==◌, ◌++◌, ◌+◌, ◌<◌, List, [], ◌∷◌, slice_get, refl, ◌∙◌, ap, arith}
use Rattle.chorus_entry.specs.declared.packet.Packet.{Packet}
use Rattle.place_outbox.specs.Waiting.{next, after_next, first_place, list_to, without_first}

add-one : (n : ℕ) → n + 1 ≡ suc n
add-one n = omega arith

pub next-first : (ls : List (List Packet)) → slice_get (list_to (first_place ls) ls) 0 ≡ next ls
next-first [] = refl
next-first ([] ∷ ls) = ap (λ i. slice_get (list_to i ([] ∷ ls)) 0) (add-one (first_place ls)) ∙ next-first ls
next-first ((packet ∷ l) ∷ ls) = refl

pub after-first : (ls : List (List Packet)) → without_first (first_place ls) ls ≡ after_next ls
after-first [] = refl
after-first ([] ∷ ls) = ap (λ i. without_first i ([] ∷ ls)) (add-one (first_place ls)) ∙ ap (λ x. [] ∷ x) (after-first ls)
after-first ((packet ∷ l) ∷ ls) = refl
