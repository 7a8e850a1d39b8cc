-- The single facts are the lines of the outcomes.
-- fs, gs are outcomes, n is the number of one, told are single facts, p is a place among them.
use Rattle.std.proofs.Common.{ℕ, zero, suc, ◌≡◌, ◌+◌, Bool, true, false, ◌||◌, cond, List, [], ◌∷◌, ◌++◌, length, Some, slice_get, refl, sym, ◌∙◌, ap, subst, arith, append_assoc}
use Rattle.std.specs.List.{Contains, insert}
use Rattle.std.proofs.lemmas.Bool.{false≢true}
use Rattle.explore_report.specs.declared.findings.Finding.{Finding}
use Rattle.explore_report.specs.Lines.{lines_in, same_bytes, texts_lines}
use Rattle.explore_report.specs.Reports.{Told, is_told, place_in, tell_line, tell_lines, tell_from}
use Rattle.explore_report.specs.Singles.{AreShown, FactsTellOutcomes, IsShownBy}
use Rattle.explore_report.proofs.Reporting.{same-self}

-- A fact more.

pub or-left : (a b : Bool) → a ≡ true → (a || b) ≡ true
or-left true b e = refl
or-left false b e = absurd (false≢true e)

pub or-right : (a b : Bool) → b ≡ true → (a || b) ≡ true
or-right true b e = refl
or-right false b e = e

or-more : (a b c : Bool) → (b ≡ true → c ≡ true) → (a || b) ≡ true → (a || c) ≡ true
or-more true b c h e = refl
or-more false b c h e = h e

still-told : (line : List ℕ) (told : List Told) (p : ℕ) (x : Told) → is_told line told ≡ true → is_told line (insert told p x) ≡ true
still-told line [] p x h = absurd (false≢true h)
still-told line (t ∷ told) zero x h = or-right (same_bytes x.line line) (is_told line (t ∷ told)) h
still-told line (t ∷ told) (suc p) x h = or-more (same_bytes t.line line) (is_told line told) (is_told line (insert told p x)) (still-told line told p x) h

now-told : (told : List Told) (p : ℕ) (x : Told) → is_told x.line (insert told p x) ≡ true
now-told [] zero x = or-left (same_bytes x.line x.line) false (same-self x.line)
now-told [] (suc p) x = or-left (same_bytes x.line x.line) false (same-self x.line)
now-told (t ∷ told) zero x = or-left (same_bytes x.line x.line) (is_told x.line (t ∷ told)) (same-self x.line)
now-told (t ∷ told) (suc p) x = or-right (same_bytes t.line x.line) (is_told x.line (insert told p x)) (now-told told p x)

shown-insert : (fs : List Finding) (told : List Told) (p : ℕ) (x : Told) → AreShown fs told → IsShownBy fs x → AreShown fs (insert told p x)
shown-insert fs [] zero x h k = (k, tt)
shown-insert fs [] (suc p) x h k = (k, tt)
shown-insert fs (t ∷ told) zero x h k = (k, h)
shown-insert fs (t ∷ told) (suc p) x h k = (h.0, shown-insert fs told p x h.1 k)

-- A line more.

abbrev as_told : ℕ → List ℕ → Told
as_told n line = record { outcome = n; line = line }

line-kept : (n : ℕ) (line other : List ℕ) (told : List Told) → is_told other told ≡ true → is_told other (tell_line n line told) ≡ true
line-kept n line other told h = by (is_told line told)
  where
    by : (b : Bool) → is_told other (cond b told (insert told (place_in line told) (as_told n line))) ≡ true
    by true = h
    by false = still-told other told (place_in line told) (as_told n line) h

line-told : (n : ℕ) (line : List ℕ) (told : List Told) → is_told line (tell_line n line told) ≡ true
line-told n line told = by (is_told line told) refl
  where
    by : (b : Bool) → is_told line told ≡ b → is_told line (cond b told (insert told (place_in line told) (as_told n line))) ≡ true
    by true e = e
    by false e = now-told told (place_in line told) (as_told n line)

line-shown : (fs : List Finding) (n : ℕ) (line : List ℕ) (told : List Told) → AreShown fs told → IsShownBy fs (as_told n line) → AreShown fs (tell_line n line told)
line-shown fs n line told h k = by (is_told line told)
  where
    by : (b : Bool) → AreShown fs (cond b told (insert told (place_in line told) (as_told n line)))
    by true = h
    by false = shown-insert fs told (place_in line told) (as_told n line) h k

-- The lines of an outcome.

lines-kept : (n : ℕ) (lines : List (List ℕ)) (other : List ℕ) (told : List Told) → is_told other told ≡ true → is_told other (tell_lines n lines told) ≡ true
lines-kept n [] other told h = h
lines-kept n (line ∷ lines) other told h = lines-kept n lines other (tell_line n line told) (line-kept n line other told h)

lines-told : (n : ℕ) (lines : List (List ℕ)) (line : List ℕ) (told : List Told) → Contains lines line → is_told line (tell_lines n lines told) ≡ true
lines-told n [] line told h = absurd (let lt = h.1 in omega (arith, lt))
lines-told n (first ∷ lines) line told (zero, lt, e) = subst (λ l. is_told l (tell_lines n lines (tell_line n first told)) ≡ true) e (lines-kept n lines first (tell_line n first told) (line-told n first told))
lines-told n (first ∷ lines) line told (suc k, lt, e) = lines-told n lines line (tell_line n first told) (k, omega (arith, lt), e)

lines-shown : (fs : List Finding) (n : ℕ) (lines : List (List ℕ)) (told : List Told) → AreShown fs told → ((line : List ℕ) → Contains lines line → IsShownBy fs (as_told n line)) → AreShown fs (tell_lines n lines told)
lines-shown fs n [] told h each = h
lines-shown fs n (line ∷ lines) told h each =
    lines-shown fs n lines (tell_line n line told) (line-shown fs n line told h (each line (zero, omega arith, refl)))
    (λ other has. each other (suc has.0, (let lt = has.1 in omega (arith, lt)), has.2))

-- All outcomes.

all-kept : (n : ℕ) (fs : List Finding) (line : List ℕ) (told : List Told) → is_told line told ≡ true → is_told line (tell_from n (texts_lines fs) told) ≡ true
all-kept n [] line told h = h
all-kept n (f ∷ fs) line told h = all-kept (n + 1) fs line (tell_lines n (lines_in f.text.items) told) (lines-kept n (lines_in f.text.items) line told h)

all-told : (n : ℕ) (fs : List Finding) (told : List Told) (place : ℕ) (f : Finding) (line : List ℕ) → slice_get fs place ≡ Some f → Contains (lines_in f.text.items) line → is_told line (tell_from n (texts_lines fs) told) ≡ true
all-told n [] told place f line e has = absurd (cc)
all-told n (g ∷ fs) told zero f line e has =
    let same : g ≡ f = cc in
    all-kept (n + 1) fs line (tell_lines n (lines_in g.text.items) told)
    (lines-told n (lines_in g.text.items) line told (subst (λ (h : Finding). Contains (lines_in h.text.items) line) (sym same) has))
all-told n (g ∷ fs) told (suc place) f line e has = all-told (n + 1) fs (tell_lines n (lines_in g.text.items) told) place f line e has

stands : (gs : List Finding) (f : Finding) (fs : List Finding) → slice_get (gs ++ f ∷ fs) (length gs) ≡ Some f
stands [] f fs = refl
stands (g ∷ gs) f fs = stands gs f fs

long : (gs : List Finding) (f : Finding) → length (gs ++ f ∷ []) ≡ length gs + 1
long [] f = omega arith
long (g ∷ gs) f = (let n = long gs f in omega (arith, n))

all-shown : (all gs fs : List Finding) (n : ℕ) (told : List Told) → all ≡ gs ++ fs → n ≡ length gs + 1 → AreShown all told → AreShown all (tell_from n (texts_lines fs) told)
all-shown all gs [] n told e m h = h
all-shown all gs (f ∷ fs) n told e m h =
    let at : slice_get all (length gs) ≡ Some f = ap (λ (xs : List Finding). slice_get xs (length gs)) e ∙ stands gs f fs in
    all-shown all (gs ++ f ∷ []) fs (n + 1) (tell_lines n (lines_in f.text.items) told) (e ∙ sym (append_assoc gs (f ∷ []) fs)) (ap (λ (k : ℕ). k + 1) (m ∙ sym (long gs f)))
    (lines-shown all n (lines_in f.text.items) told h (λ line has. record { place = length gs; finding = f; stands = at; number = m; has = has }))

pub facts-tell : FactsTellOutcomes
facts-tell fs = record { shown = all-shown fs [] fs 1 [] refl refl tt; all = λ place f line e has. all-told 1 fs [] place f line e has }
