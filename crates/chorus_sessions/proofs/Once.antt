-- No message stands twice among those that a port accepted, nor among those that it handed out.
-- q is a port, k a number, past a run, its newest entry first.
use Rattle.std.proofs.Common.{ℕ, zero, suc, ◌≡◌, List, [], ◌∷◌, ◌++◌, take, drop, Some, slice_get, refl, sym, ap, subst}
use Rattle.chorus_ui.specs.declared.ui.Ui.{Ui}
use Rattle.chorus_entry.specs.declared.entry.Entry.{Entry}
use Rattle.chorus_entry.specs.declared.id.MsgId.{MsgId}
use Rattle.chorus_world.specs.Views.{on}
use Rattle.chorus_world.specs.AcceptedLaws.{accepted_by, received, taken_by, ReceivesInOrder}
use Rattle.law_network.specs.Fates.{WorldHolds}

abbrev pub Once : List MsgId → Type 0
Once xs = (i j : ℕ) (x : MsgId) → slice_get xs i ≡ Some x → slice_get xs j ≡ Some x → i ≡ j

pub take-drop : (k : ℕ) (xs : List MsgId) → xs ≡ take k xs ++ drop k xs
take-drop zero xs = refl
take-drop (suc k) [] = refl
take-drop (suc k) (x ∷ xs) = ap (λ ys. x ∷ ys) (take-drop k xs)

pub take-get : (k : ℕ) (xs : List MsgId) (i : ℕ) (x : MsgId) → slice_get (take k xs) i ≡ Some x → slice_get xs i ≡ Some x
take-get zero xs i x h = absurd (cc)
take-get (suc k) [] i x h = absurd (cc)
take-get (suc k) (y ∷ xs) zero x h = h
take-get (suc k) (y ∷ xs) (suc i) x h = take-get k xs i x h

taken-once : (k : ℕ) (xs : List MsgId) → Once xs → Once (take k xs)
taken-once k xs once i j x here there = once i j x (take-get k xs i x here) (take-get k xs j x there)

pub accepted-once : (q : Ui) (past : List Entry) → WorldHolds past → Once (accepted_by q past)
accepted-once q past holds i j x here there = (holds.alone q q i j x here there).1

pub received-once : (q : Ui) (past : List Entry) → ReceivesInOrder past → WorldHolds past → Once (received (on q past))
received-once q past order holds =
    subst Once (sym (order q)) (taken-once (taken_by q past) (accepted_by q past) (accepted-once q past holds))
