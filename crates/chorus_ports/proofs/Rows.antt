-- The record that is reached by its place in the table.
use Rattle.std.proofs.Common.{◌≡◌, ℕ, ◌+◌, ◌-◌, ◌<◌, ◌≤◌, suc, Bool, true, false, cond, Option, Some, None, is_some, List, [], ◌∷◌, ◌++◌, length, slice_get, slice_index_or, slice_set, refl, sym, ◌∙◌, ap, subst, arith, add-one, length-append, Bor}
use Rattle.std.specs.List.{remove}
use Rattle.std.specs.Option.{option_copied}
use Rattle.std.specs.Slice.{IsItemAt}
use Rattle.std.proofs.lemmas.Option.{slice_get_past, slice_get_read}
use Rattle.chorus_ui.specs.declared.ui.Ui.{Ui}
use Rattle.chorus_ui.specs.Name.{same_ui}
use Rattle.chorus_entry.specs.declared.record.PortRecord.{PortRecord}
use Rattle.chorus_ports.specs.Table.{Table, find, replace, without}
use Rattle.chorus_ports.specs.Rows.{row_of}
use Rattle.chorus_ports.specs.Limits.{IsWithinLimits, IsTable}
use Rattle.chorus_ports.proofs.Tables.{KeepsName, length-replace, length-without, are_distinct-replace, are_distinct-without, are_distinct-last, limits-replace, limits-without, limits-last}

pub row-found : (q : Ui) (rs : List PortRecord) (d : PortRecord) → row_of q rs < length rs → find q rs ≡ Some (slice_index_or rs (row_of q rs) d)
row-found q [] d h = absurd (let f : 0 < 0 = h in omega arith)
row-found q (x ∷ xs) d h = by (same_ui x.ui q) h (row-found q xs d)
  where
    by : (b : Bool) → cond b 0 (row_of q xs + 1) < length (x ∷ xs) → (row_of q xs < length xs → find q xs ≡ Some (slice_index_or xs (row_of q xs) d)) → cond b (Some x) (find q xs) ≡ Some (slice_index_or (x ∷ xs) (cond b 0 (row_of q xs + 1)) d)
    by true h on = refl
    by false h on = rw add-one (on (omega (arith, h)))

pub row-get : (q : Ui) (rs : List PortRecord) → slice_get rs (row_of q rs) ≡ find q rs
row-get q [] = refl
row-get q (x ∷ xs) = by (same_ui x.ui q) (row-get q xs)
  where
    by : (b : Bool) → slice_get xs (row_of q xs) ≡ find q xs → slice_get (x ∷ xs) (cond b 0 (row_of q xs + 1)) ≡ cond b (Some x) (find q xs)
    by true on = refl
    by false on = rw add-one on

pub row-absent : (q : Ui) (rs : List PortRecord) → length rs ≤ row_of q rs → find q rs ≡ None
row-absent q [] h = refl
row-absent q (x ∷ xs) h = by (same_ui x.ui q) h (row-absent q xs)
  where
    by : (b : Bool) → length (x ∷ xs) ≤ cond b 0 (row_of q xs + 1) → (length xs ≤ row_of q xs → find q xs ≡ None) → cond b (Some x) (find q xs) ≡ None
    by true h on = absurd (let f : suc (length xs) ≤ 0 = h in omega arith)
    by false h on = on (omega (arith, h))

pub row-held : (q : Ui) (rs : List PortRecord) → is_some (find q rs) ≡ true → row_of q rs < length rs
row-held q [] held = cc
row-held q (x ∷ xs) held = by (same_ui x.ui q) held (row-held q xs)
  where
    by : (b : Bool) → is_some (cond b (Some x) (find q xs)) ≡ true → (is_some (find q xs) ≡ true → row_of q xs < length xs) → cond b 0 (row_of q xs + 1) < length (x ∷ xs)
    by true held on = omega arith
    by false held on = let l = on held in omega (arith, l)

pub row-replace : (q : Ui) (f : PortRecord → PortRecord) (rs : List PortRecord) (d : PortRecord) → row_of q rs < length rs → slice_set rs (row_of q rs) (f (slice_index_or rs (row_of q rs) d)) ≡ replace q f rs
row-replace q f [] d h = refl
row-replace q f (x ∷ xs) d h = by (same_ui x.ui q) h (row-replace q f xs d)
  where
    by : (b : Bool) → cond b 0 (row_of q xs + 1) < length (x ∷ xs) → (row_of q xs < length xs → slice_set xs (row_of q xs) (f (slice_index_or xs (row_of q xs) d)) ≡ replace q f xs) → slice_set (x ∷ xs) (cond b 0 (row_of q xs + 1)) (f (slice_index_or (x ∷ xs) (cond b 0 (row_of q xs + 1)) d)) ≡ cond b (f x ∷ xs) (x ∷ replace q f xs)
    by true h on = refl
    by false h on = rw add-one (ap (λ ys. x ∷ ys) (on (omega (arith, h))))

pub row-without : (q : Ui) (rs : List PortRecord) → row_of q rs < length rs → remove rs (row_of q rs) ≡ without q rs
row-without q [] h = absurd (let f : 0 < 0 = h in omega arith)
row-without q (x ∷ xs) h = by (same_ui x.ui q) h (row-without q xs)
  where
    by : (b : Bool) → cond b 0 (row_of q xs + 1) < length (x ∷ xs) → (row_of q xs < length xs → remove xs (row_of q xs) ≡ without q xs) → remove (x ∷ xs) (cond b 0 (row_of q xs + 1)) ≡ cond b xs (x ∷ without q xs)
    by true h on = refl
    by false h on = rw add-one (ap (λ ys. x ∷ ys) (on (omega (arith, h))))

-- a record that was reached by its place
pub record IsReached (q : Ui) (rs : List PortRecord) (i : ℕ) (r : PortRecord) : Type 0 where
  pub found : find q rs ≡ Some r
  pub replaced : (f : PortRecord → PortRecord) (s : PortRecord) → s ≡ f r → slice_set rs i s ≡ replace q f rs

pub reached : (q : Ui) (rs slice : List PortRecord) (i : ℕ) (r d : PortRecord) → slice ≡ rs → i ≡ row_of q slice → i < length rs → r ≡ slice_index_or rs i d → IsReached q rs i r
reached q rs slice i r d same row lt value =
    let at : i ≡ row_of q rs = row ∙ ap (row_of q) same in
    let within : row_of q rs < length rs = omega arith in
    let here : r ≡ slice_index_or rs (row_of q rs) d = value ∙ ap (λ j. slice_index_or rs j d) at in
    record {
      found = row-found q rs d within ∙ ap Some (sym here);
      replaced = λ f s e. ap (λ j. slice_set rs j s) at ∙ ap (slice_set rs (row_of q rs)) (e ∙ ap f here) ∙ row-replace q f rs d within;
    }

-- a port that is held is at a place of the table
pub row-within : (q : Ui) (rs slice : List PortRecord) (i : ℕ) → slice ≡ rs → i ≡ row_of q slice → is_some (find q rs) ≡ true → i < length rs
row-within q rs slice i same row held =
    let at : i ≡ row_of q rs = row ∙ ap (row_of q) same in
    omega (arith, at, row-held q rs held)

-- one that is at none is not held
pub row-missing : (q : Ui) (rs slice : List PortRecord) (i : ℕ) → slice ≡ rs → i ≡ row_of q slice → length rs ≤ i → find q rs ≡ None
row-missing q rs slice i same row ge =
    let at : i ≡ row_of q rs = row ∙ ap (row_of q) same in
    row-absent q rs (omega (arith, at))

-- a table as it is seen, after a record is replaced
pub seen-replace : (q : Ui) (f : PortRecord → PortRecord) (t : Table) (rs new : List PortRecord) (most : ℕ) → record { records = rs; spare = most - length rs } ≡ t → new ≡ replace q f rs → record { records = new; spare = most - length new } ≡ record t { records = replace q f t.records }
seen-replace q f t rs new most seen e =
    let same : length new ≡ length rs = ap length e ∙ length-replace q f rs in
    let step : Table → Table = λ u. record u { records = replace q f u.records } in
    let one : record { records = new; spare = most - length new } ≡ record { records = replace q f rs; spare = most - length rs } = λ i. record { records = e i; spare = most - same i } in
    one ∙ ap step seen

-- what a table keeps, after a record is replaced
pub kept-replace : (q : Ui) (f : PortRecord → PortRecord) (rs new : List PortRecord) (most capacity : ℕ) → IsTable rs most capacity → KeepsName f → ((r : PortRecord) → find q rs ≡ Some r → IsWithinLimits r → IsWithinLimits (f r)) → new ≡ replace q f rs → IsTable new most capacity
kept-replace q f rs new most capacity kept keeps limits e =
    let P : List PortRecord → Type 0 = λ rs. IsTable rs most capacity in
    subst P (sym e)
    (record {
      distinct = are_distinct-replace q f rs keeps ∙ kept.distinct;
      limits = limits-replace q f rs limits kept.limits;
      within = omega (arith, kept.within, length-replace q f rs);
      most_in_16_bits = kept.most_in_16_bits;
      room = kept.room;
    })

-- and after a record is left out
pub kept-without : (q : Ui) (rs new : List PortRecord) (most before capacity : ℕ) → IsTable rs most before → capacity ≡ before → is_some (find q rs) ≡ true → new ≡ without q rs → IsTable new most capacity
kept-without q rs new most before capacity kept room held e =
    let P : List PortRecord → Type 0 = λ rs. IsTable rs most capacity in
    subst P (sym e)
    (record {
      distinct = are_distinct-without q rs kept.distinct;
      limits = limits-without q rs kept.limits;
      within = omega (arith, kept.within, length-without q rs held);
      most_in_16_bits = kept.most_in_16_bits;
      room = let most_before = kept.room in omega arith;
    })

-- and after one comes last
pub kept-last : (rs new : List PortRecord) (r : PortRecord) (most before capacity : ℕ) → IsTable rs most before → capacity ≡ before → find r.ui rs ≡ None → length rs < most → IsWithinLimits r → new ≡ rs ++ r ∷ [] → IsTable new most capacity
kept-last rs new r most before capacity kept room absent spare limits e =
    let P : List PortRecord → Type 0 = λ rs. IsTable rs most capacity in
    subst P (sym e)
    (record {
      distinct = are_distinct-last rs r kept.distinct absent;
      limits = limits-last rs r kept.limits limits;
      within = rw length-append (omega (arith, spare));
      most_in_16_bits = kept.most_in_16_bits;
      room = let most_before = kept.room in omega arith;
    })

-- the list that a removal leaves
pub row-removed : (q : Ui) (rs slice new : List PortRecord) (i : ℕ) → slice ≡ rs → i ≡ row_of q slice → i < length rs → new ≡ remove rs i → new ≡ without q rs
row-removed q rs slice new i same row lt e =
    let at : i ≡ row_of q rs = row ∙ ap (row_of q) same in
    let within : row_of q rs < length rs = omega (arith, at) in
    e ∙ ap (remove rs) at ∙ row-without q rs within

-- what is lent at a place of a list
pub lent-at : (rs : List PortRecord) (i : ℕ) (o : Option (Bor PortRecord)) → IsItemAt rs i o → option_copied o ≡ slice_get rs i
lent-at rs i None h = sym (slice_get_past rs i h.3)
lent-at rs i (Some x) h = sym (slice_get_read rs (length rs) i x.now refl h.3.0 h.1)
