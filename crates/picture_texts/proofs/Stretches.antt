-- A text is what stands before its first gap, or before the first byte that is not written as itself, and the rest.
use Rattle.std.proofs.Common.{◌≡◌, ◌==◌, ℕ, suc, ◌+◌, ◌-◌, ◌<◌, ◌≤◌, Bool, true, false, cond, not, ◌||◌, nat_lt, Some, None, unwrap_or, List, [], ◌∷◌, ◌++◌, length, take, drop, slice_index_or, decimal, refl, sym, ap, ◌∙◌, append_assoc, append-nil, arith}
use Rattle.std.specs.List.{position, position_or_len}
use Rattle.std.proofs.lemmas.Bool.{ltb-false, or_parts}
use Rattle.std.proofs.lemmas.List.{take_all}
use Rattle.std.proofs.lemmas.List.Sums.{prefix_len-le-length}
use Rattle.picture_texts.specs.Filling.{filled, markup, markup_byte}
use Rattle.picture_texts.specs.Stretches.{is_special}

none_left : (xs : List ℕ) → length xs < 1 → xs ≡ []
none_left [] h = refl
none_left (x ∷ xs) h = absurd (omega (arith, h))

uncons : (xs : List ℕ) → 1 ≤ length xs → xs ≡ slice_index_or xs 0 0 ∷ take (length xs - 1) (drop 1 xs)
uncons [] h = absurd (omega (arith, h))
uncons (x ∷ xs) h = ap (λ t. x ∷ t) (sym (take_all (length (x ∷ xs) - 1) xs (omega arith)))

module _ (p : ℕ → Bool) where
  -- the first byte that passes is the first, or stands one place later than behind it
  pub first_here : (c : ℕ) (cs : List ℕ) → p c ≡ true → position_or_len p (c ∷ cs) ≡ 0
  first_here c cs h = ap (λ b. cond (not b) (1 + position_or_len p cs) 0) h

  pub first_later : (c : ℕ) (cs : List ℕ) → p c ≡ false → position_or_len p (c ∷ cs) ≡ suc (position_or_len p cs)
  first_later c cs h =
      let one : 1 + position_or_len p cs ≡ suc (position_or_len p cs) = omega arith in
      ap (λ b. cond (not b) (1 + position_or_len p cs) 0) h ∙ one

  -- what stands from there on begins with it
  passes_first : (text : List ℕ) (c : ℕ) (cs : List ℕ) → drop (position_or_len p text) text ≡ c ∷ cs → p c ≡ true
  passes_first [] c cs h = cc
  passes_first (d ∷ ds) c cs h = go (p d) refl (λ e. passes_first ds c cs e)
    where
      here : (d ∷ ds) ≡ c ∷ cs → p d ≡ true → p c ≡ true
      here e is = let same : d ≡ c = cc in ap p (sym same) ∙ is

      go : (b : Bool) → p d ≡ b → (drop (position_or_len p ds) ds ≡ c ∷ cs → p c ≡ true) → p c ≡ true
      go true is more = here (sym (ap (λ n. drop n (d ∷ ds)) (first_here d ds is)) ∙ h) is
      go false is more = more (sym (ap (λ n. drop n (d ∷ ds)) (first_later d ds is)) ∙ h)

-- the place of the first byte that passes, or else the length
short_of : (p : ℕ → Bool) (text : List ℕ) (b : Bool) → nat_lt (position_or_len p text) (length text) ≡ b
    → unwrap_or (cond b (Some (position_or_len p text)) None) (length text) ≡ position_or_len p text
short_of p text true h = refl
short_of p text false h = omega (arith, ltb-false (position_or_len p text) (length text) h, prefix_len-le-length (λ x. not (p x)) text)

pub or_length : (p : ℕ → Bool) (text : List ℕ) → unwrap_or (position p text) (length text) ≡ position_or_len p text
or_length p text = short_of p text (nat_lt (position_or_len p text) (length text)) refl

-- a template

abbrev pub gap : List ℕ → ℕ
gap = position_or_len (λ c. c == 64)

kept : (c : ℕ) (cs ns : List ℕ) → (c == 64) ≡ false → filled (c ∷ cs) ns ≡ c ∷ filled cs ns
kept c cs [] h = refl
kept c cs (n ∷ ns) h = ap (λ b. cond b (decimal n ++ filled cs ns) (c ∷ filled cs (n ∷ ns))) h

abbrev filled_from : List ℕ → List ℕ → ℕ → List ℕ
filled_from cs ns n = take n cs ++ filled (drop n cs) ns

filled_at : (template ns : List ℕ) → filled template ns ≡ filled_from template ns (gap template)
filled_at [] ns = refl
filled_at (c ∷ cs) ns = go (c == 64) refl (filled_at cs ns)
  where
    go : (b : Bool) → (c == 64) ≡ b → filled cs ns ≡ filled_from cs ns (gap cs) → filled (c ∷ cs) ns ≡ filled_from (c ∷ cs) ns (gap (c ∷ cs))
    go true is more = sym (ap (filled_from (c ∷ cs) ns) (first_here (λ d. d == 64) c cs is))
    go false is more =
        kept c cs ns is ∙ ap (λ t. c ∷ t) more ∙ sym (ap (filled_from (c ∷ cs) ns) (first_later (λ d. d == 64) c cs is))

-- without numbers it stays
filled_nothing : (cs : List ℕ) → filled cs [] ≡ cs
filled_nothing [] = refl
filled_nothing (c ∷ cs) = ap (λ ds. c ∷ ds) (filled_nothing cs)

number_in : (c : ℕ) (cs : List ℕ) (n : ℕ) (ns : List ℕ) → (c == 64) ≡ true → filled (c ∷ cs) (n ∷ ns) ≡ decimal n ++ filled cs ns
number_in c cs n ns h = ap (λ b. cond b (decimal n ++ filled cs ns) (c ∷ filled cs (n ∷ ns))) h

module _ (template ns front rest : List ℕ) (k : ℕ) (at : k ≡ gap template) (before : front ≡ take k template) (behind : rest ≡ drop k template) where
  rest_is : drop (gap template) template ≡ rest
  rest_is = sym (behind ∙ ap (λ n. drop n template) at)

  filled_with : filled template ns ≡ front ++ filled rest ns
  filled_with =
      filled_at template ns ∙ ap (λ t. take (gap template) template ++ filled t ns) rest_is
      ∙ ap (λ t. t ++ filled rest ns) (sym (before ∙ ap (λ n. take n template) at))

  pub filled_end : length rest < 1 → filled template ns ≡ front
  filled_end none = filled_with ∙ ap (λ t. front ++ filled t ns) (none_left rest none) ∙ append-nil front

  pub filled_rest : length ns < 1 → filled template ns ≡ front ++ rest
  filled_rest none = filled_with ∙ ap (λ n. front ++ filled rest n) (none_left ns none) ∙ ap (λ t. front ++ t) (filled_nothing rest)

  abbrev tail_of : List ℕ → List ℕ
  tail_of xs = take (length xs - 1) (drop 1 xs)

  number_first : 1 ≤ length rest → 1 ≤ length ns → filled rest ns ≡ decimal (slice_index_or ns 0 0) ++ filled (tail_of rest) (tail_of ns)
  number_first some numbers =
      (λ i. filled (uncons rest some i) (uncons ns numbers i))
      ∙ number_in (slice_index_or rest 0 0) (tail_of rest) (slice_index_or ns 0 0) (tail_of ns)
      (passes_first (λ d. d == 64) template (slice_index_or rest 0 0) (tail_of rest) (rest_is ∙ uncons rest some))

  pub filled_more : 1 ≤ length rest → 1 ≤ length ns
      → filled template ns ≡ (front ++ decimal (slice_index_or ns 0 0)) ++ filled (take (length rest - 1) (drop 1 rest)) (take (length ns - 1) (drop 1 ns))
  filled_more some numbers =
      filled_with ∙ ap (λ t. front ++ t) (number_first some numbers)
      ∙ sym (append_assoc front (decimal (slice_index_or ns 0 0)) (filled (tail_of rest) (tail_of ns)))

-- a text between tags

pub plain_byte : (c : ℕ) → is_special c ≡ false → markup_byte c ≡ c ∷ []
plain_byte c h =
    let six = or_parts (c == 60 || c == 62 || c == 38 || c == 39 || c == 34) (c == 10) h in
    let five = or_parts (c == 60 || c == 62 || c == 38 || c == 39) (c == 34) six.0 in
    let four = or_parts (c == 60 || c == 62 || c == 38) (c == 39) five.0 in
    let three = or_parts (c == 60 || c == 62) (c == 38) four.0 in
    let two = or_parts (c == 60) (c == 62) three.0 in
    rw (two.0, two.1, three.1, four.1, five.1, six.1) refl

abbrev pub plain : List ℕ → ℕ
plain = position_or_len is_special

abbrev markup_from : List ℕ → ℕ → List ℕ
markup_from cs n = take n cs ++ markup (drop n cs)

markup_at : (text : List ℕ) → markup text ≡ markup_from text (plain text)
markup_at [] = refl
markup_at (c ∷ cs) = go (is_special c) refl (markup_at cs)
  where
    go : (b : Bool) → is_special c ≡ b → markup cs ≡ markup_from cs (plain cs) → markup (c ∷ cs) ≡ markup_from (c ∷ cs) (plain (c ∷ cs))
    go true is more = sym (ap (markup_from (c ∷ cs)) (first_here is_special c cs is))
    go false is more =
        ap (λ t. t ++ markup cs) (plain_byte c is) ∙ ap (λ t. c ∷ t) more ∙ sym (ap (markup_from (c ∷ cs)) (first_later is_special c cs is))

module _ (text front rest : List ℕ) (k : ℕ) (at : k ≡ plain text) (before : front ≡ take k text) (behind : rest ≡ drop k text) where
  markup_with : markup text ≡ front ++ markup rest
  markup_with =
      markup_at text ∙ ap (λ t. take (plain text) text ++ markup t) (sym (behind ∙ ap (λ n. drop n text) at))
      ∙ ap (λ t. t ++ markup rest) (sym (before ∙ ap (λ n. take n text) at))

  pub markup_end : length rest < 1 → markup text ≡ front
  markup_end none = markup_with ∙ ap (λ t. front ++ markup t) (none_left rest none) ∙ append-nil front

  pub markup_more : 1 ≤ length rest → markup text ≡ (front ++ markup_byte (slice_index_or rest 0 0)) ++ markup (take (length rest - 1) (drop 1 rest))
  markup_more some =
      markup_with ∙ ap (λ t. front ++ markup t) (uncons rest some)
      ∙ sym (append_assoc front (markup_byte (slice_index_or rest 0 0)) (markup (take (length rest - 1) (drop 1 rest))))
