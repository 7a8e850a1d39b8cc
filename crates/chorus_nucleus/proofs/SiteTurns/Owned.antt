-- The first entry of a command's turn is the command's own act.
use Rattle.std.proofs.Common.{◌≡◌, List, [], ◌∷◌, ◌++◌, reverse, refl, sym, ◌∙◌, ap, append_assoc}
use Rattle.std.proofs.lemmas.List.{reverse-append}
use Rattle.chorus_entry.specs.declared.entry.Entry.{Entry}
use Rattle.chorus_entry.specs.declared.command.Command.{Command}
use Rattle.chorus_entry.specs.declared.packet.Packet.{Packet}
use Rattle.chorus_calls.specs.Callers.{Seated}
use Rattle.law_machine.specs.PlaceState.{PlaceState, Turn, next_entry}
use Rattle.law_machine.specs.PlaceMachine.{begun, act}
use Rattle.law_machine.specs.Own.{own}
use Rattle.law_machine.proofs.Machine.Follows as follows
use Rattle.law_history.specs.declared.turns.Input.{Input}
use Rattle.law_history.specs.PlaceTurns.{turn}
use Rattle.chorus_nucleus.specs.SiteTurns.Turning.{IsOwn}

pub turned-journal : (newer : List Entry) (e : Entry) (past : List Entry) → reverse (newer ++ e ∷ past) ≡ reverse past ++ e ∷ reverse newer
turned-journal newer e past =
    reverse-append newer (e ∷ past) ∙ ap (λ xs. xs ++ reverse newer) (reverse-append (e ∷ []) past) ∙ append_assoc (reverse past) (e ∷ []) (reverse newer)

cancel : (zs xs ys : List Entry) → zs ++ xs ≡ zs ++ ys → xs ≡ ys
cancel [] xs ys h = h
cancel (z ∷ zs) xs ys h = cancel zs xs ys (cc)

same-first : (e f : Entry) (xs ys : List Entry) → e ∷ xs ≡ f ∷ ys → e ≡ f
same-first e f xs ys h = cc

-- what stands first behind the same entries is the same
first-of : (xs ys : List Entry) (e f : Entry) (past : List Entry) → xs ++ e ∷ past ≡ ys ++ f ∷ past → e ≡ f
first-of xs ys e f past h =
    same-first e f (reverse xs) (reverse ys)
    (cancel (reverse past) (e ∷ reverse xs) (f ∷ reverse ys) (sym (turned-journal xs e past) ∙ ap reverse h ∙ turned-journal ys f past))

-- a turn with a command begins with its own act
own-first : (c : Command) (t : Turn) → (newer : List Entry) × ((act c t).place.journal ≡ newer ++ next_entry (own c t) t ∷ t.place.journal)
own-first c t =
    follows.act-gives (λ u. (newer : List Entry) × (u.place.journal ≡ newer ++ next_entry (own c t) t ∷ t.place.journal))
    (λ a x u n s h. (next_entry a u ∷ h.0, ap (λ es. next_entry a u ∷ es) h.1)) t c (λ x s. ([], refl))

pub owned : (i : Input Command Packet) (s : PlaceState) (w : Seated) (newer : List Entry) (e : Entry) → (turn i s w).place.journal ≡ newer ++ e ∷ s.journal → IsOwn i s w e
owned (Input.Command c) s w newer e h =
    (let o = own-first c (begun s w) in
    ap (λ (x : Entry). x.act) (first-of newer o.0 e (next_entry (own c (begun s w)) (begun s w)) s.journal (sym h ∙ o.1)))
owned (Input.Packet a k) s w newer e h = tt
