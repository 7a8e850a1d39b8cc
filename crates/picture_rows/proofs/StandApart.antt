-- Rows go down, and columns stand apart.
use Rattle.std.proofs.Common.{◌≡◌, ◌≢◌, ◌==◌, ◌<◌, ◌≤◌, ◌+◌, ℕ, zero, suc, Bool, true, false, cond, List, [], ◌∷◌, ◌++◌, reverse, Some, refl, ap, ◌∙◌, subst, arith}
use Rattle.std.specs.List.{All}
use Rattle.std.proofs.lemmas.Bool.{and_parts, eq-eqb, eqb-false, eqb-true, leb-true, or_left, or_right}
use Rattle.std.proofs.lemmas.List.{reverse-append}
use Rattle.std.proofs.lemmas.List.Elements.{All-cons, All-head, All-nil, All-tail}
use Rattle.chorus_ui.specs.declared.layout.Layout.{Layout}
use Rattle.chorus_ui.specs.Layout.{has_place, places}
use Rattle.chorus_entry.specs.declared.entry.Entry.{Entry}
use Rattle.chorus_entry.specs.Order.{is_at}
use Rattle.chorus_world.proofs.Messages.Ways.{all-places}
use Rattle.chorus_world.proofs.Ports.LineLemmas.{none_some}
use Rattle.picture_rows.specs.Columns.{ColumnShape, column_at, column_from, columns, columns_from, has_entry, right_of}
use Rattle.picture_rows.specs.Apart.{ColumnsStandApart, EntriesHaveColumns, HasColumn, RowsGoDown}

pub rows_go_down : RowsGoDown
rows_go_down i j less = omega (arith, less)

some_column : (c d : ColumnShape) → Some c ≡ Some d → c ≡ d
some_column c d h = cc

-- a column that is found stands behind the left edge, at its place
pub record Found (p left : ℕ) (r : ℕ) (c : ColumnShape) : Type 0 where
  pub from : p ≤ r
  pub behind : left + 64 ≤ c.x
  pub place : c.place ≡ r

found : (n p left r : ℕ) (es : List Entry) (c : ColumnShape) → column_at r (columns_from n p left es) ≡ Some c → Found p left r c
found zero p left r es c h = none_some c h
found (suc n) p left r es c h =
    by-entry (has_entry p es) h (λ k. found n (p + 1) left r es c k) (λ k. found n (p + 1) (right_of (column_from left p es)) r es c k)
  where
    by-place : (b : Bool) → (p == r) ≡ b → cond b (Some (column_from left p es)) (column_at r (columns_from n (p + 1) (right_of (column_from left p es)) es)) ≡ Some c
        → (column_at r (columns_from n (p + 1) (right_of (column_from left p es)) es) ≡ Some c → Found (p + 1) (right_of (column_from left p es)) r c) → Found p left r c
    by-place true same k further =
        let is : column_from left p es ≡ c = some_column (column_from left p es) c k in
        let place : p ≡ r = eqb-true p r same in
        subst (Found p left r) is (record { from = omega (arith, place); behind = omega arith; place = place })
    by-place false other k further =
        let old = further k in
        record { from = omega (arith, old.from); behind = omega (arith, old.behind); place = old.place }

    by-entry : (b : Bool) → column_at r (cond b (column_from left p es ∷ columns_from n (p + 1) (right_of (column_from left p es)) es) (columns_from n (p + 1) left es)) ≡ Some c
        → (column_at r (columns_from n (p + 1) left es) ≡ Some c → Found (p + 1) left r c)
        → (column_at r (columns_from n (p + 1) (right_of (column_from left p es)) es) ≡ Some c → Found (p + 1) (right_of (column_from left p es)) r c) → Found p left r c
    by-entry true k without with-it = by-place (p == r) refl k with-it
    by-entry false k without with-it =
        let old = without k in record { from = omega (arith, old.from); behind = old.behind; place = old.place }

above : (p r : ℕ) → p ≤ r → p ≢ r → p + 1 ≤ r
above p r low ne = grind (arith, low, ne)

-- each place with an entry has one
has-one : (n p left r : ℕ) (es : List Entry) → p ≤ r → r < p + n → has_entry r es ≡ true → (c : ColumnShape) × (column_at r (columns_from n p left es) ≡ Some c)
has-one zero p left r es low high some = absurd (omega (arith, low, high))
has-one (suc n) p left r es low high some =
    by-place (p == r) refl (λ left2 next. has-one n (p + 1) left2 r es next (omega (arith, high)) some)
  where
    by-entry : (p == r) ≡ false → ((left2 : ℕ) → (c : ColumnShape) × (column_at r (columns_from n (p + 1) left2 es) ≡ Some c)) → (b : Bool)
        → (c : ColumnShape) × (column_at r (cond b (column_from left p es ∷ columns_from n (p + 1) (right_of (column_from left p es)) es) (columns_from n (p + 1) left es)) ≡ Some c)
    by-entry other later true =
        let next = later (right_of (column_from left p es)) in
        (next.0, ap (λ b. cond b (Some (column_from left p es)) (column_at r (columns_from n (p + 1) (right_of (column_from left p es)) es))) other ∙ next.1)
    by-entry other later false = later left

    by-place : (b : Bool) → (p == r) ≡ b → ((left2 : ℕ) → p + 1 ≤ r → (c : ColumnShape) × (column_at r (columns_from n (p + 1) left2 es) ≡ Some c)) → (c : ColumnShape) × (column_at r (columns_from (suc n) p left es) ≡ Some c)
    by-place true same later =
        let here : has_entry p es ≡ true = ap (λ k. has_entry k es) (eqb-true p r same) ∙ some in (
          column_from left p es,
          ap (λ b. column_at r (cond b (column_from left p es ∷ columns_from n (p + 1) (right_of (column_from left p es)) es) (columns_from n (p + 1) left es))) here
              ∙ ap (λ b. cond b (Some (column_from left p es)) (column_at r (columns_from n (p + 1) (right_of (column_from left p es)) es))) same,
        )
    by-place false other later =
        by-entry other (λ left2. later left2 (above p r low (eqb-false p r other))) (has_entry p es)

-- of two of them the one of the later place stands to the right
apart : (n k left p r : ℕ) (es : List Entry) (c d : ColumnShape) → p < r → column_at p (columns_from n k left es) ≡ Some c → column_at r (columns_from n k left es) ≡ Some d → right_of c + 64 ≤ d.x
apart zero k left p r es c d less h g = none_some c h
apart (suc n) k left p r es c d less h g =
    by-entry (has_entry k es) h g (λ a b. apart n (k + 1) left p r es c d less a b) (λ a b. apart n (k + 1) (right_of (column_from left k es)) p r es c d less a b)
  where
    by-place : (a b : Bool) → (k == p) ≡ a → (k == r) ≡ b → cond a (Some (column_from left k es)) (column_at p (columns_from n (k + 1) (right_of (column_from left k es)) es)) ≡ Some c
        → cond b (Some (column_from left k es)) (column_at r (columns_from n (k + 1) (right_of (column_from left k es)) es)) ≡ Some d
        → (column_at p (columns_from n (k + 1) (right_of (column_from left k es)) es) ≡ Some c → column_at r (columns_from n (k + 1) (right_of (column_from left k es)) es) ≡ Some d → right_of c + 64 ≤ d.x)
        → right_of c + 64 ≤ d.x
    by-place true true a b i j further = absurd (omega (arith, eqb-true k p a, eqb-true k r b, less))
    by-place true false a b i j further =
        let is : column_from left k es ≡ c = some_column (column_from left k es) c i in
        let there = found n (k + 1) (right_of (column_from left k es)) r es d j in
        subst (λ (z : ColumnShape). right_of z + 64 ≤ d.x) is there.behind
    by-place false true a b i j further =
        let there = found n (k + 1) (right_of (column_from left k es)) p es c i in
        absurd (omega (arith, there.from, eqb-true k r b, less))
    by-place false false a b i j further = further i j

    by-entry : (b : Bool) → column_at p (cond b (column_from left k es ∷ columns_from n (k + 1) (right_of (column_from left k es)) es) (columns_from n (k + 1) left es)) ≡ Some c
        → column_at r (cond b (column_from left k es ∷ columns_from n (k + 1) (right_of (column_from left k es)) es) (columns_from n (k + 1) left es)) ≡ Some d
        → (column_at p (columns_from n (k + 1) left es) ≡ Some c → column_at r (columns_from n (k + 1) left es) ≡ Some d → right_of c + 64 ≤ d.x)
        → (column_at p (columns_from n (k + 1) (right_of (column_from left k es)) es) ≡ Some c → column_at r (columns_from n (k + 1) (right_of (column_from left k es)) es) ≡ Some d → right_of c + 64 ≤ d.x)
        → right_of c + 64 ≤ d.x
    by-entry true i j without with-it = by-place (k == p) (k == r) refl refl i j with-it
    by-entry false i j without with-it = without i j

pub columns_stand_apart : ColumnsStandApart
columns_stand_apart l es p r c d less h g = apart (places l) 1 64 p r es c d less h g

-- The entries of a legal list.

has-itself : (es all : List Entry) → ((p : ℕ) → has_entry p es ≡ true → has_entry p all ≡ true) → All (λ (e : Entry). has_entry e.place all ≡ true) es
has-itself [] all more = All-nil (λ (e : Entry). has_entry e.place all ≡ true)
has-itself (e ∷ es) all more =
    All-cons (λ (e : Entry). has_entry e.place all ≡ true) e es
    (more e.place (or_left (is_at e.place e) (has_entry e.place es) (eq-eqb e.place e.place refl)))
    (has-itself es all (λ p h. more p (or_right (is_at p e) (has_entry p es) h)))

column-of : (l : Layout) (all : List Entry) (e : Entry) → has_place l e.place ≡ true → has_entry e.place all ≡ true → HasColumn (columns l all) e
column-of l all e inside some =
    let two = and_parts _ _ inside in
    let one = has-one (places l) 1 64 e.place all (leb-true 1 e.place two.0) (let high = leb-true e.place (places l) two.1 in omega (arith, high)) some in
    (one.0, one.1, (found (places l) 1 64 e.place all one.0 one.1).place)

both : (l : Layout) (all es : List Entry) → All (λ (e : Entry). has_place l e.place ≡ true) es → All (λ (e : Entry). has_entry e.place all ≡ true) es → All (HasColumn (columns l all)) es
both l all [] h k = All-nil (HasColumn (columns l all))
both l all (e ∷ es) h k =
    All-cons (HasColumn (columns l all)) e es
    (column-of l all e (All-head (λ (e : Entry). has_place l e.place ≡ true) e es h) (All-head (λ (e : Entry). has_entry e.place all ≡ true) e es k))
    (both l all es (All-tail (λ (e : Entry). has_place l e.place ≡ true) e es h) (All-tail (λ (e : Entry). has_entry e.place all ≡ true) e es k))

split-last : (l : Layout) (es : List Entry) (e : Entry) → All (λ (f : Entry). has_place l f.place ≡ true) (es ++ e ∷ []) → All (λ (f : Entry). has_place l f.place ≡ true) es × (has_place l e.place ≡ true)
split-last l [] e h = (All-nil (λ (f : Entry). has_place l f.place ≡ true), All-head (λ (f : Entry). has_place l f.place ≡ true) e [] h)
split-last l (x ∷ es) e h =
    let P : Entry → Type 0 = λ (f : Entry). has_place l f.place ≡ true in
    let rest = split-last l es e (All-tail P x (es ++ e ∷ []) h) in
    (All-cons P x es (All-head P x (es ++ e ∷ []) h) rest.0, rest.1)

turned-back : (l : Layout) (es : List Entry) → All (λ (f : Entry). has_place l f.place ≡ true) (reverse es) → All (λ (f : Entry). has_place l f.place ≡ true) es
turned-back l [] h = h
turned-back l (e ∷ es) h =
    let P : Entry → Type 0 = λ (f : Entry). has_place l f.place ≡ true in
    let two = split-last l (reverse es) e (subst (All P) (reverse-append (e ∷ []) es) h) in
    All-cons P e es two.1 (turned-back l es two.0)

pub entries_have_columns : EntriesHaveColumns
entries_have_columns l es legal = both l es es (turned-back l es (all-places l (reverse es) legal)) (has-itself es es (λ p h. h))
