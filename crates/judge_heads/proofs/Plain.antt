-- The head that is read is the one that the text begins with, and without its layout the text is plain.
use Rattle.std.proofs.Common.{◌≡◌, ℕ, ◌+◌, ◌-◌, ◌≤◌, ◌<◌, ◌^◌, nat_lt, Bool, true, false, cond, List, [], ◌∷◌, ◌++◌, length, take, drop, codes, decimal, Option, Some, None, is_some, refl, sym, ap, ◌∙◌, subst, arith, append_assoc, append-nil, length-append}
use Rattle.std.proofs.lemmas.Bool.{false≢true, lt-ltb}
use Rattle.std.proofs.lemmas.Bool.Decides.{nat_tests}
use Rattle.std.specs.List.{copy_within}
use Rattle.std.specs.Str.{bytes_eq}
use Rattle.std.proofs.lemmas.Slice.Eq.{bytes_eq-Decides}
use Rattle.std.proofs.lemmas.List.{length-take-le}
use Rattle.chorus_ui.specs.declared.layout.Layout.{Layout}
use Rattle.chorus_ui.specs.Decimals.{parse_decimal}
use Rattle.chorus_ui.specs.Layout.{IsLayout, is_layout}
use Rattle.chorus_ui.proofs.Decimals.{parse_decimal-decimal, parse_decimal_is}
use Rattle.chorus_show.specs.Phrases.{phrase}
use Rattle.chorus_show.specs.Reading.{below, u16_in, u32_in}
use Rattle.chorus_lines.specs.Text.{cut}
use Rattle.judge_heads.specs.declared.heads.Head.{Head}
use Rattle.judge_heads.specs.Heads.{layout_line, IsPlain, Names}
use Rattle.judge_heads.specs.Reading.{head_in, in_count, in_layout, in_line, in_text, layout_in, new_layout_of, with_gap, with_word}
use Rattle.judge_heads.proofs.Cuts.{cut_join, lacks, lacks_decimal, lacks_join, uncut_as}

none-some : {A : Type 0} → (a : A) → None ≡ Some a → ⊥
none-some a h = cc

-- A line of four words, as it is printed.

abbrev four : List ℕ → List ℕ → List ℕ → List ℕ
four n s t = codes "journal" ++ 32 ∷ (n ++ 32 ∷ (s ++ 32 ∷ t))

line-is : (n : ℕ) (l : Layout) → layout_line n l ≡ four (decimal n) (decimal l.sites) (decimal l.turns)
line-is n l = ap (λ t. four (decimal n) (decimal l.sites) t) (append-nil (decimal l.turns))

digits-lack : (n : ℕ) → n < 2 ^ 64 → (lacks 10 (decimal n) ≡ true) × (lacks 32 (decimal n) ≡ true)
digits-lack n h = (lacks_decimal 10 refl n h, lacks_decimal 32 refl n h)

-- The numbers that words say.

below-case : (n m : ℕ) (b : Bool) → cond b (Some n) None ≡ Some m → n ≡ m
below-case n m true h = cc
below-case n m false h = absurd (none-some m h)

below-is : (bound : ℕ) (o : Option ℕ) (m : ℕ) → below bound o ≡ Some m → o ≡ Some m
below-is bound None m h = absurd (none-some m h)
below-is bound (Some n) m h = ap Some (below-case n m (nat_lt n bound) h)

test-case : (n m : ℕ) (b : Bool) → cond b (Some n) None ≡ Some m → b ≡ true
test-case n m true h = refl
test-case n m false h = absurd (none-some m h)

below-less : (bound : ℕ) (o : Option ℕ) (m : ℕ) → below bound o ≡ Some m → m < bound
below-less bound None m h = absurd (none-some m h)
below-less bound (Some n) m h =
    let test = test-case n m (nat_lt n bound) h in
    let same = below-case n m (nat_lt n bound) h in
    grind (arith, nat_tests, test, same)

said : (bound : ℕ) (text : List ℕ) (m : ℕ) → below bound (parse_decimal text) ≡ Some m → text ≡ decimal m
said bound text m h = parse_decimal_is text m (below-is bound (parse_decimal text) m h)

read-back : (bound m : ℕ) → m < bound → m < 2 ^ 64 → below bound (parse_decimal (decimal m)) ≡ Some m
read-back bound m h k = ap (below bound) (parse_decimal-decimal m k) ∙ ap (λ b. cond b (Some m) None) (lt-ltb m bound h)

-- The layout of two words.

layout-case : (s t : ℕ) (l : Layout) (b : Bool) → is_layout (record { sites = s; turns = t }) ≡ b → cond b (Some (record { sites = s; turns = t })) None ≡ Some l → (s ≡ l.sites) × ((t ≡ l.turns) × (is_layout l ≡ true))
layout-case s t l true e h =
    let same : record { sites = s; turns = t } ≡ l = cc in
    (ap (λ (x : Layout). x.sites) same, (ap (λ (x : Layout). x.turns) same, ap is_layout (sym same) ∙ e))
layout-case s t l false e h = absurd (none-some l h)

of-is : (a b : Option ℕ) (l : Layout) → new_layout_of a b ≡ Some l → (a ≡ Some l.sites) × ((b ≡ Some l.turns) × (is_layout l ≡ true))
of-is None b l h = absurd (none-some l h)
of-is (Some s) None l h = absurd (none-some l h)
of-is (Some s) (Some t) l h =
    let is = layout-case s t l (is_layout (record { sites = s; turns = t })) refl h in
    (ap Some is.0, (ap Some is.1.0, is.1.1))

shape-is : (l : Layout) → is_layout l ≡ true → IsLayout l
shape-is l h = record {
  sites_from_one = grind (arith, nat_tests, h);
  sites_to_max = grind (arith, nat_tests, h);
  turns_from_one = grind (arith, nat_tests, h);
  turns_to_four = grind (arith, nat_tests, h);
  turns_not_three = λ e. grind (arith, nat_tests, h);
}

is-shape : (l : Layout) → IsLayout l → is_layout l ≡ true
is-shape l h = grind (arith, nat_tests, h.sites_from_one, h.sites_to_max, h.turns_from_one, h.turns_to_four, h.turns_not_three)

-- What is read of a line.

record IsLine (line : List ℕ) (l : Layout) (word : ℕ) : Type 0 where
  number : ℕ
  small : number < 2 ^ 32
  layout : IsLayout l
  is : line ≡ four (decimal number) (decimal l.sites) (decimal l.turns)
  word_is : word ≡ 8 + length (decimal number)

words-case : (n s t : List ℕ) (l : Layout) (word : ℕ) (c : Option ℕ) (o : Option Layout) → u32_in n ≡ c → layout_in s t ≡ o → cond (is_some c) (with_word (8 + length n) o) None ≡ Some (l, word) → IsLine (four n s t) l word
words-case n s t l word None o ce oe h = absurd (none-some (l, word) h)
words-case n s t l word (Some c) None ce oe h = absurd (none-some (l, word) h)
words-case n s t l word (Some c) (Some m) ce oe h =
    let both : (m, 8 + length n) ≡ (l, word) = cc in
    let same : m ≡ l = ap (λ (p : Layout × ℕ). p.0) both in
    let is = of-is (u16_in s) (u16_in t) l (oe ∙ ap Some same) in
    let number : n ≡ decimal c = said (2 ^ 32) n c ce in
    record {
      number = c;
      small = below-less (2 ^ 32) (parse_decimal n) c ce;
      layout = shape-is l is.1.1;
      is = λ i. four (number i) (said (2 ^ 16) s l.sites is.0 i) (said (2 ^ 16) t l.turns is.1.0 i);
      word_is = sym (ap (λ (p : Layout × ℕ). p.1) both) ∙ ap (λ x. 8 + length x) number;
    }

layout-line : (n : List ℕ) (l : Layout) (word : ℕ) (rest : List ℕ) (s : List ℕ) (o : Option (List ℕ)) → cut 32 rest ≡ (s, o) → in_layout n (s, o) ≡ Some (l, word) → IsLine (codes "journal" ++ 32 ∷ (n ++ 32 ∷ rest)) l word
layout-line n l word rest s None e h = absurd (none-some (l, word) h)
layout-line n l word rest s (Some t) e h =
    subst (λ x. IsLine (codes "journal" ++ 32 ∷ (n ++ 32 ∷ x)) l word) (sym (uncut_as 32 rest s (Some t) e))
    (words-case n s t l word (u32_in n) (layout_in s t) refl refl h)

count-line : (l : Layout) (word : ℕ) (text n : List ℕ) (o : Option (List ℕ)) → cut 32 text ≡ (n, o) → in_count (n, o) ≡ Some (l, word) → IsLine (codes "journal" ++ 32 ∷ text) l word
count-line l word text n None e h = absurd (none-some (l, word) h)
count-line l word text n (Some rest) e h =
    subst (λ x. IsLine (codes "journal" ++ 32 ∷ x) l word) (sym (uncut_as 32 text n (Some rest) e))
    (layout-line n l word rest (cut 32 rest).0 (cut 32 rest).1 refl h)

same-bytes : (xs ys : List ℕ) → bytes_eq xs ys ≡ true → xs ≡ ys
same-bytes xs ys h = (bytes_eq-Decides xs ys).0 h

word-case : (l : Layout) (n : ℕ) (w text : List ℕ) (b : Bool) → bytes_eq w (codes "journal") ≡ b → cond b (in_count (cut 32 text)) None ≡ Some (l, n) → IsLine (w ++ 32 ∷ text) l n
word-case l n w text true e h =
    subst (λ x. IsLine (x ++ 32 ∷ text) l n) (sym (same-bytes w (codes "journal") e)) (count-line l n text (cut 32 text).0 (cut 32 text).1 refl h)
word-case l n w text false e h = absurd (none-some (l, n) h)

line-line : (l : Layout) (n : ℕ) (line w : List ℕ) (o : Option (List ℕ)) → cut 32 line ≡ (w, o) → in_line (w, o) ≡ Some (l, n) → IsLine line l n
line-line l n line w None e h = absurd (none-some (l, n) h)
line-line l n line w (Some text) e h =
    subst (λ x. IsLine x l n) (sym (uncut_as 32 line w (Some text) e)) (word-case l n w text (bytes_eq w (codes "journal")) refl h)

-- A head that was read: the text begins with its line, and so many bytes each part has.

pub record IsHead (text : List ℕ) (head : Head) : Type 0 where
  pub number : ℕ
  pub rest : List ℕ
  pub names : Names text number head.layout rest
  pub word_is : head.word ≡ length (phrase (codes "journal") (decimal number ∷ []))
  pub gap_is : head.word + head.gap ≡ length (layout_line number head.layout)

front-is : (n : ℕ) → phrase (codes "journal") (decimal n ∷ []) ≡ codes "journal" ++ 32 ∷ decimal n
front-is n = ap (λ t. codes "journal" ++ 32 ∷ t) (append-nil (decimal n))

front-length : (n : ℕ) → 8 + length (decimal n) ≡ length (phrase (codes "journal") (decimal n ∷ []))
front-length n = let h = ap length (front-is n) ∙ length-append (codes "journal") (32 ∷ decimal n) in omega (arith, h)

whole-is : (n : ℕ) (l : Layout) → layout_line n l ≡ phrase (codes "journal") (decimal n ∷ []) ++ 32 ∷ (decimal l.sites ++ 32 ∷ decimal l.turns)
whole-is n l =
    line-is n l
    ∙ sym (append_assoc (codes "journal") (32 ∷ decimal n) (32 ∷ (decimal l.sites ++ 32 ∷ decimal l.turns)))
    ∙ ap (λ t. t ++ 32 ∷ (decimal l.sites ++ 32 ∷ decimal l.turns)) (sym (front-is n))

gap-case : (line rest : List ℕ) (head : Head) (o : Option (Layout × ℕ)) → in_line (cut 32 line) ≡ o → with_gap (length line) o ≡ Some head → IsHead (line ++ 10 ∷ rest) head
gap-case line rest head None e h = absurd (none-some head h)
gap-case line rest head (Some (l, word)) e h =
    let same : record { layout = l; word = word; gap = length line - word } ≡ head = cc in
    let is : IsLine line l word = line-line l word line (cut 32 line).0 (cut 32 line).1 refl e in
    let spelled : line ≡ layout_line is.number l = is.is ∙ sym (line-is is.number l) in
    let word_is = is.word_is ∙ front-length is.number in
    let whole = ap length (whole-is is.number l) ∙ length-append (phrase (codes "journal") (decimal is.number ∷ [])) (32 ∷ (decimal l.sites ++ 32 ∷ decimal l.turns)) in
    subst (IsHead (line ++ 10 ∷ rest)) same (record {
      number = is.number;
      rest = rest;
      names = record { number = is.small; layout = is.layout; is = ap (λ x. x ++ 10 ∷ rest) spelled };
      word_is = word_is;
      gap_is = let long = ap length spelled in omega (arith, word_is, whole, long);
    })

text-case : (text line : List ℕ) (head : Head) (o : Option (List ℕ)) → cut 10 text ≡ (line, o) → in_text (line, o) ≡ Some head → IsHead text head
text-case text line head None e h = absurd (none-some head h)
text-case text line head (Some rest) e h =
    subst (λ x. IsHead x head) (sym (uncut_as 10 text line (Some rest) e)) (gap-case line rest head (in_line (cut 32 line)) refl h)

pub head_is : (text : List ℕ) (head : Head) → Some head ≡ head_in text → IsHead text head
head_is text head h = text-case text (cut 10 text).0 head (cut 10 text).1 refl (sym h)

-- And where a text begins with such a line, a head is read.

module _ (n : ℕ) (l : Layout) (rest : List ℕ) (small : n < 2 ^ 32) (shape : IsLayout l) where
  sites-few : l.sites < 2 ^ 16
  sites-few = let h = shape.sites_to_max in omega (arith, h)

  turns-few : l.turns < 2 ^ 16
  turns-few = let h = shape.turns_to_four in omega (arith, h)

  number-lacks : (lacks 10 (decimal n) ≡ true) × (lacks 32 (decimal n) ≡ true)
  number-lacks = digits-lack n (omega (arith, small))

  sites-lacks : (lacks 10 (decimal l.sites) ≡ true) × (lacks 32 (decimal l.sites) ≡ true)
  sites-lacks = digits-lack l.sites (let h = sites-few in omega (arith, h))

  turns-lacks : (lacks 10 (decimal l.turns) ≡ true) × (lacks 32 (decimal l.turns) ≡ true)
  turns-lacks = digits-lack l.turns (let h = turns-few in omega (arith, h))

  behind : List ℕ
  behind = decimal l.sites ++ 32 ∷ decimal l.turns

  behind-lacks : lacks 10 (32 ∷ (decimal n ++ 32 ∷ behind)) ≡ true
  unfolding behind
  behind-lacks =
      lacks_join 10 (decimal n) (32 ∷ (decimal l.sites ++ 32 ∷ decimal l.turns)) number-lacks.0
      (lacks_join 10 (decimal l.sites) (32 ∷ decimal l.turns) sites-lacks.0 turns-lacks.0)

  four-lacks : lacks 10 (four (decimal n) (decimal l.sites) (decimal l.turns)) ≡ true
  unfolding behind
  four-lacks = lacks_join 10 (codes "journal") (32 ∷ (decimal n ++ 32 ∷ behind)) refl behind-lacks

  layout-read : layout_in (decimal l.sites) (decimal l.turns) ≡ Some l
  layout-read =
      (λ i. new_layout_of (read-back (2 ^ 16) l.sites sites-few (let h = sites-few in omega (arith, h)) i) (read-back (2 ^ 16) l.turns turns-few (let h = turns-few in omega (arith, h)) i))
      ∙ ap (λ b. cond b (Some l) None) (is-shape l shape)

  line-read : in_line (cut 32 (four (decimal n) (decimal l.sites) (decimal l.turns))) ≡ Some (l, 8 + length (decimal n))
  line-read =
      ap in_line (cut_join 32 (codes "journal") (decimal n ++ 32 ∷ (decimal l.sites ++ 32 ∷ decimal l.turns)) refl)
      ∙ ap in_count (cut_join 32 (decimal n) (decimal l.sites ++ 32 ∷ decimal l.turns) number-lacks.1)
      ∙ ap (in_layout (decimal n)) (cut_join 32 (decimal l.sites) (decimal l.turns) sites-lacks.1)
      ∙ (λ i. cond (is_some (read-back (2 ^ 32) n small (omega (arith, small)) i)) (with_word (8 + length (decimal n)) (layout-read i)) None)

  text-read : is_some (head_in (four (decimal n) (decimal l.sites) (decimal l.turns) ++ 10 ∷ rest)) ≡ true
  text-read =
      let f = four (decimal n) (decimal l.sites) (decimal l.turns) in
      ap (λ p. is_some (in_text p)) (cut_join 10 f rest four-lacks) ∙ ap (λ o. is_some (with_gap (length f) o)) line-read

pub no_head : (text : List ℕ) → None ≡ head_in text → (n : ℕ) (l : Layout) (rest : List ℕ) → Names text n l rest → ⊥
no_head text none n l rest names =
    false≢true (ap is_some none ∙ ap (λ t. is_some (head_in t)) (names.is ∙ ap (λ t. t ++ 10 ∷ rest) (line-is n l)) ∙ text-read n l rest names.number names.layout)

-- Without its layout the text is plain.

take-front : (xs ys : List ℕ) → take (length xs) (xs ++ ys) ≡ xs
take-front [] ys = refl
take-front (x ∷ xs) ys = ap (λ t. x ∷ t) (take-front xs ys)

drop-front : (xs ys : List ℕ) → drop (length xs) (xs ++ ys) ≡ ys
drop-front [] ys = refl
drop-front (x ∷ xs) ys = drop-front xs ys

module _ (word gap rest : List ℕ) where
  abbrev whole : List ℕ
  whole = word ++ gap ++ rest

  long : length (take (length gap) whole) ≡ length gap
  long = length-take-le (length gap) whole (let h = length-append (word ++ gap) rest in let k = length-append word gap in omega (arith, h, k))

  front : take (length word) whole ≡ word
  front = ap (take (length word)) (append_assoc word gap rest) ∙ take-front word (gap ++ rest)

  back : drop (length gap + length word) whole ≡ rest
  back =
      let same : length gap + length word ≡ length (word ++ gap) = (let k = length-append word gap in omega (arith, k)) in
      ap (λ n. drop n whole) same ∙ drop-front (word ++ gap) rest

  none-off : length word - 0 ≡ length word
  none-off = omega arith

  moved : drop (length gap) (copy_within whole 0 (length word) (length gap)) ≡ word ++ rest
  moved =
      let parts : copy_within whole 0 (length word) (length gap) ≡ take (length gap) whole ++ (word ++ rest) =
      ap (λ n. (take (length gap) whole ++ take n whole) ++ drop (length gap + n) whole) none-off
      ∙ (λ i. (take (length gap) whole ++ front i) ++ back i)
      ∙ append_assoc (take (length gap) whole) word rest in
      ap (drop (length gap)) parts ∙ ap (λ n. drop n (take (length gap) whole ++ (word ++ rest))) (sym long) ∙ drop-front (take (length gap) whole) (word ++ rest)

pub made_plain : (text : List ℕ) (head : Head) → Some head ≡ head_in text → IsPlain text (Some head.layout) (drop head.gap (copy_within text 0 head.word head.gap))
unfolding head_is
made_plain text head h =
    let is = head_is text head h in
    let l = head.layout in
    let word : List ℕ = phrase (codes "journal") (decimal is.number ∷ []) in
    let gap : List ℕ = 32 ∷ (decimal l.sites ++ 32 ∷ decimal l.turns) in
    let whole : text ≡ word ++ gap ++ 10 ∷ is.rest = is.names.is ∙ ap (λ t. t ++ 10 ∷ is.rest) (whole-is is.number l) in
    let gap_is : head.gap ≡ length gap = (let k = ap length (whole-is is.number l) ∙ length-append word gap in omega (arith, is.gap_is, is.word_is, k)) in (
      is.number,
      (
        is.rest,
        (
          is.names,
          (λ i. drop (gap_is i) (copy_within (whole i) 0 (is.word_is i) (gap_is i)))
              ∙ moved word gap (10 ∷ is.rest)
              ∙ sym (append_assoc word (10 ∷ []) is.rest),
        ),
      ),
    )

pub head_inside : (text : List ℕ) (head : Head) → Some head ≡ head_in text → head.gap + head.word ≤ length text
head_inside text head h =
    let is = head_is text head h in
    let long = ap length is.names.is ∙ length-append (layout_line is.number head.layout) (10 ∷ is.rest) in
    omega (arith, is.gap_is, long)
