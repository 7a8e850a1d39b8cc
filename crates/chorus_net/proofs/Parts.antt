-- What places have, and what the network has of it.
use Rattle.std.proofs.Common.{ℕ, suc, ◌≡◌, ◌+◌, List, [], ◌∷◌, ◌++◌, length, map, reverse, Some, None, refl, ◌∙◌, ap, arith, append_assoc, length-append}
use Rattle.std.proofs.lemmas.List.{map-append, reverse-append}
use Rattle.chorus_entry.specs.declared.packet.Packet.{Packet}
use Rattle.chorus_entry.specs.declared.record.PortRecord.{PortRecord}
use Rattle.place_outbox.specs.Waiting.{count, next, after_next}
use Rattle.law_network.specs.Left.{placed_at, placed_in}
use Rattle.law_machine.specs.declared.outgoing.Outgoing.{Outgoing}
use Rattle.law_machine.specs.PlaceState.{PlaceState}
use Rattle.chorus_place.specs.Calls.{Place, state}
use Rattle.chorus_net.specs.Sites.{to_place, waiting_from, waiting_in, boxes}
use Rattle.chorus_net.specs.Closing.{flat, journals_in, packets_of, ports_of}

-- The next packet of an outbox.

pub flat-next : (ls : List (List Packet)) (x : Packet) → next ls ≡ Some x → flat ls ≡ x ∷ flat (after_next ls)
flat-next [] x h = absurd (cc)
flat-next ([] ∷ ls) x h = flat-next ls x h
flat-next ((y ∷ l) ∷ ls) x h = (let same : y ≡ x = cc in ap (λ z. z ∷ (l ++ flat ls)) same)

pub count-next : (ls : List (List Packet)) (x : Packet) → next ls ≡ Some x → count (after_next ls) + 1 ≡ count ls
count-next [] x h = absurd (cc)
count-next ([] ∷ ls) x h = (let rest = count-next ls x h in omega (arith, rest))
count-next ((y ∷ l) ∷ ls) x h = omega arith

pub flat-none : (ls : List (List Packet)) → next ls ≡ None → flat ls ≡ []
flat-none [] h = refl
flat-none ([] ∷ ls) h = flat-none ls h
flat-none ((y ∷ l) ∷ ls) h = absurd (cc)

-- The network's words.

pub journals-are : (ps : List Place) → map (λ (s : PlaceState). reverse s.journal) (map state ps) ≡ journals_in ps
journals-are [] = refl
journals-are (p ∷ ps) = ap (λ js. reverse p.journal ∷ js) (journals-are ps)

pub ports-are : (ps : List Place) → placed_in (map state ps) ≡ ports_of ps
ports-are [] = refl
ports-are (p ∷ ps) = ap (λ qs. placed_at p.number p.ports ++ qs) (ports-are ps)

to-packets : (b : ℕ) (l : List Packet) → map (λ (o : Outgoing). o.packet) (to_place b l) ≡ l
to-packets b [] = refl
to-packets b (x ∷ l) = ap (λ xs. x ∷ xs) (to-packets b l)

box-packets : (b : ℕ) (ls : List (List Packet)) → map (λ (o : Outgoing). o.packet) (waiting_from b ls) ≡ flat ls
box-packets b [] = refl
box-packets b (l ∷ ls) =
    map-append (λ (o : Outgoing). o.packet) (to_place b l) (waiting_from (b + 1) ls)
    ∙ ap (λ xs. xs ++ map (λ (o : Outgoing). o.packet) (waiting_from (b + 1) ls)) (to-packets b l) ∙ ap (λ xs. l ++ xs) (box-packets (b + 1) ls)

pub packets-are : (ps : List Place) → map (λ (o : Outgoing). o.packet) (waiting_in (boxes ps)) ≡ packets_of ps
packets-are [] = refl
packets-are (p ∷ ps) =
    map-append (λ (o : Outgoing). o.packet) (waiting_from 0 p.out.lists) (waiting_in (boxes ps))
    ∙ ap (λ xs. xs ++ map (λ (o : Outgoing). o.packet) (waiting_in (boxes ps))) (box-packets 0 p.out.lists) ∙ ap (λ xs. flat p.out.lists ++ xs) (packets-are ps)

-- One place after the other.

pub last-first : (ps qs : List Place) (p : Place) → ps ≡ qs ++ p ∷ [] → reverse ps ≡ p ∷ reverse qs
last-first ps qs p e = ap reverse e ∙ reverse-append qs (p ∷ [])

pub one-more : {A : Type 0} (done more rest all : List A) → done ++ (more ++ rest) ≡ all → (now : List A) → now ≡ done ++ more → now ++ rest ≡ all
one-more done more rest all h now e = ap (λ xs. xs ++ rest) e ∙ append_assoc done more rest ∙ h

pub length-flat : (ls : List (List Packet)) → length (flat ls) ≡ count ls
length-flat [] = refl
length-flat (l ∷ ls) = (let rest = length-flat ls in let here = length-append l (flat ls) in omega (arith, rest, here))

pub length-placed : (p : ℕ) (rs : List PortRecord) → length (placed_at p rs) ≡ length rs
length-placed p [] = refl
length-placed p (r ∷ rs) = ap suc (length-placed p rs)
