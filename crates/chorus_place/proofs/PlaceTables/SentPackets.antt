-- The packets of a turn wait for their places.
use Rattle.std.proofs.Common.{◌≡◌, ℕ, ◌<◌, ◌≤◌, true, nat_le, List, [], ◌∷◌, length, refl, sym, ◌∙◌, ap, All, arith}
use Rattle.std.proofs.lemmas.Bool.{and_parts}
use Rattle.std.proofs.lemmas.List.{length-set}
use Rattle.std.proofs.lemmas.List.Elements.{All-same, All-tail, All-weaker}
use Rattle.chorus_ui.specs.declared.layout.Layout.{Layout}
use Rattle.chorus_ui.specs.Layout.{places}
use Rattle.chorus_entry.specs.declared.packet.Packet.{Packet}
use Rattle.place_outbox.specs.Waiting.{Waiting, with_last}
use Rattle.law_machine.specs.declared.outgoing.Outgoing.{Outgoing}
use Rattle.chorus_place.specs.PlaceTables.Sending.{with_all, IsFor}
use Rattle.chorus_place.specs.PlaceTables.Tables.{GoesTo, AreSent, IsBoxed}

-- the first one goes
pub sent-first : (xs more : List Outgoing) (lists now : List (List Packet)) (x : Outgoing) → xs ≡ x ∷ more → now ≡ with_last x.to x.packet lists
    → with_all more now ≡ with_all xs lists
sent-first xs more lists now x e f = ap (with_all more) f ∙ sym (ap (λ ys. with_all ys lists) e)

pub same-places : (lists now : List (List Packet)) (x : Outgoing) → now ≡ with_last x.to x.packet lists → length now ≡ length lists
same-places lists now x e = ap (λ (ls : List (List Packet)). length ls) e ∙ length-set lists x.to _

pub rest-for : (out now : Waiting) (xs more : List Outgoing) (x : Outgoing) → All (IsFor out) xs → xs ≡ x ∷ more → length now.lists ≡ length out.lists → All (IsFor now) more
rest-for out now xs more x k e f =
    All-weaker (IsFor out) (IsFor now) (λ y (h : y.to < length out.lists). omega (arith, h, f)) more
    (All-tail (IsFor out) x more (All-same (IsFor out) (x ∷ more) xs (sym e) k))

-- each list stays for its place
pub all-places : (xs : List Outgoing) (lists : List (List Packet)) → length (with_all xs lists) ≡ length lists
all-places [] lists = refl
all-places (x ∷ xs) lists = all-places xs (with_last x.to x.packet lists) ∙ same-places lists _ x refl

-- there is a list for each place of the layout
pub places-for : (l : Layout) (puts : List Outgoing) (out : Waiting) → IsBoxed l puts out → AreSent l puts → All (IsFor out) puts
places-for l puts out boxed sent = All-weaker (GoesTo l) (IsFor out) by puts sent
  where
    within : (m n : ℕ) → nat_le m n ≡ true → m ≤ n
    within m n h = grind (arith, h)

    by : (x : Outgoing) → GoesTo l x → x.to < length out.lists
    by x h = let m = within x.to (places l) (and_parts (nat_le 1 x.to) (nat_le x.to (places l)) h).1 in let n = boxed.lists in omega (arith, m, n)
