-- A refusal leaves the table as it was.
use Rattle.std.proofs.Common.{◌≡◌, Bool, true, false, if◌then◌else◌, Option, Some, None, IsSome, IfSome, List, [], ◌∷◌, refl, sym, ◌∙◌, ap, subst}
use Rattle.chorus_ui.specs.declared.ui.Ui.{Ui}
use Rattle.chorus_ui.specs.Name.{same_ui}
use Rattle.chorus_entry.specs.declared.message.Message.{Message}
use Rattle.chorus_entry.specs.declared.record.PortRecord.{PortRecord}
use Rattle.chorus_ports.specs.declared.deciding.Accept.{Accept}
use Rattle.chorus_ports.specs.declared.deciding.Accept.TheVariants.{Accepted, Already, ClientsFull, Full}
use Rattle.chorus_ports.specs.declared.taking.Taken.{Taken}
use Rattle.chorus_ports.specs.declared.taking.Taken.TheVariants as T
use Rattle.chorus_ports.specs.Table.{Table, find, replace, changed}
use Rattle.chorus_ports.specs.Deciding.{answer_to, answered, after_offer, OnRefused}
use Rattle.chorus_ports.specs.Taking.{taken, taken_from, first_at, passed, after_take, OnNotTaken}
use Rattle.chorus_ports.proofs.Tables.{replace-absent}

-- a change that leaves the record as it is leaves all
replace-same : (q : Ui) (f : PortRecord → PortRecord) (rs : List PortRecord) (r : PortRecord) → find q rs ≡ Some r → f r ≡ r → replace q f rs ≡ rs
replace-same q f [] r found same = refl
replace-same q f (x ∷ xs) r found same = by (same_ui x.ui q) found (replace-same q f xs r)
  where
    by : (b : Bool) → (if b then Some x else find q xs) ≡ Some r → (find q xs ≡ Some r → f r ≡ r → replace q f xs ≡ xs)
        → (if b then f x ∷ xs else x ∷ replace q f xs) ≡ x ∷ xs
    by true h on = let e : x ≡ r = cc in ap (λ y. y ∷ xs) (ap f e ∙ same ∙ sym e)
    by false h on = ap (λ ys. x ∷ ys) (on h same)

same_table : (q : Ui) (f : PortRecord → PortRecord) (t new : Table) → new ≡ changed q f t → replace q f t.records ≡ t.records → new ≡ t
same_table q f t new e same = e ∙ ap (λ rs. record t { records = rs }) same

refused_record : (m : Message) (r : PortRecord) (a : Accept) → a ≡ answer_to m r → OnRefused a (after_offer m r ≡ r)
refused_record m r (Accepted pos) e = tt
refused_record m r (Already back) e = ap (λ a. answered a m r) (sym e)
refused_record m r (ClientsFull back) e = ap (λ a. answered a m r) (sym e)
refused_record m r (Full len back) e = ap (λ a. answered a m r) (sym e)

on_refused : (a : Accept) {P Q : Type 0} → (P → Q) → OnRefused a P → OnRefused a Q
on_refused (Accepted pos) f h = tt
on_refused (Already back) f h = f h
on_refused (ClientsFull back) f h = f h
on_refused (Full len back) f h = f h

pub refused : (q : Ui) (m : Message) (t new : Table) (a : Accept) → IsSome (find q t.records)
    → IfSome (find q t.records) (λ port. a ≡ answer_to m port) → new ≡ changed q (after_offer m) t → OnRefused a (new ≡ t)
refused q m t new a held answer after = by (find q t.records) refl held answer
  where
    by : (o : Option PortRecord) → find q t.records ≡ o → IsSome o → IfSome o (λ port. a ≡ answer_to m port) → OnRefused a (new ≡ t)
    by None found h k = cc
    by (Some r) found h k =
        on_refused a (λ same. same_table q (after_offer m) t new after (replace-same q (after_offer m) t.records r found same)) (refused_record m r a k)

on_not_taken : (a : Taken) {P Q : Type 0} → (P → Q) → OnNotTaken a P → OnNotTaken a Q
on_not_taken (T.Message pos m) f h = tt
on_not_taken T.Empty f h = f h
on_not_taken T.NotHere f h = f h

-- what an actor does not get from a port stays in it
not_taken_record : (actor : Ui) (r : PortRecord) (a : Taken) → a ≡ taken_from actor r → OnNotTaken a (after_take actor r ≡ r)
not_taken_record actor r a e = by (same_ui r.actor actor) r.pending refl e
  where
    first : (ms : List Message) → r.pending ≡ ms → a ≡ first_at r.first ms → OnNotTaken a (passed ms r ≡ r)
    first [] p h = subst (λ b. OnNotTaken b (passed [] r ≡ r)) (sym h) refl
    first (m ∷ ms) p h = subst (λ b. OnNotTaken b (passed (m ∷ ms) r ≡ r)) (sym h) tt

    by : (b : Bool) (ms : List Message) → r.pending ≡ ms → a ≡ (if b then first_at r.first ms else T.NotHere)
        → OnNotTaken a ((if b then passed ms r else r) ≡ r)
    by true ms p h = first ms p h
    by false ms p h = subst (λ b. OnNotTaken b (r ≡ r)) (sym h) refl

pub not_taken : (q actor : Ui) (t new : Table) (a : Taken) → a ≡ taken actor (find q t.records) → new ≡ changed q (after_take actor) t
    → OnNotTaken a (new ≡ t)
not_taken q actor t new a value after = by (find q t.records) refl value
  where
    by : (o : Option PortRecord) → find q t.records ≡ o → a ≡ taken actor o → OnNotTaken a (new ≡ t)
    by None found h =
        subst (λ b. OnNotTaken b (new ≡ t)) (sym h) (same_table q (after_take actor) t new after (replace-absent q (after_take actor) t.records found))
    by (Some r) found h =
        on_not_taken a (λ same. same_table q (after_take actor) t new after (replace-same q (after_take actor) t.records r found same))
        (not_taken_record actor r a h)
