-- The text of a name, both ways, and its bytes as they are written.
use Rattle.std.proofs.Common.{◌≡◌, ◌≢◌, ℕ, ◌+◌, ◌-◌, ◌^◌, ◌<◌, ◌≤◌, Bool, true, false, ◌==◌, cond, List, [], ◌∷◌, ◌++◌, length, get_or, set, take, drop, Option, Some, None, refl, sym, ap, ◌∙◌, arith, IfSome, decimal, length-set, if◌then◌else◌, IsNone, length-drop, nat_lt}
use Rattle.std.specs.List.{before_first, after_first, position_or_len, position}
use Rattle.std.proofs.lemmas.List.{set_comm, drop-set}
use Rattle.std.specs.Char.{is_ascii_digit}
use Rattle.std.proofs.lemmas.Bool.{and_parts}
use Rattle.std.proofs.lemmas.Bool.Decides.{nat_tests}
use Rattle.std.proofs.lemmas.List.Sums.{split_at_first, passes_at_first}
use Rattle.std.proofs.lemmas.Grind.{common_steps}
use Rattle.std.proofs.Math.Seq.{drop-append-add}
use Rattle.std.proofs.lemmas.Fmt.{length-decimal-le}
use Rattle.chorus_ui.specs.declared.kind.Kind.{Kind}
use Rattle.chorus_ui.specs.declared.kind.Kind.TheVariants.{Actor, Port, Group}
use Rattle.chorus_ui.specs.Decimals.{all_digits, parse_decimal}
use Rattle.chorus_ui.specs.Kind.{kind_letter, kind_with_letter, kind_with_text}
use Rattle.chorus_ui.specs.Name.{Name, IsName, is_name, name_of_parts}
use Rattle.chorus_ui.specs.Text.{is_dot, name_text, parse_name}
use Rattle.chorus_ui.proofs.Decimals.{all_digits-decimal, parse_decimal-decimal, parse_decimal_is, parse_decimal_not_empty, from_IsNone}
use Rattle.chorus_ui.proofs.Names.{new_name-IsName, name_of_parts_some}

-- the digits of a site and of a number
pub length-decimal_site : (n : ℕ) → n < 2 ^ 16 → length (decimal n) ≤ 5
length-decimal_site n h = length-decimal-le 5 n (omega arith) (omega arith) (omega arith)

pub length-decimal_number : (n : ℕ) → n < 2 ^ 40 → length (decimal n) ≤ 13
length-decimal_number n h = length-decimal-le 13 n (omega arith) (omega arith) (omega arith)

-- three bytes written one behind the other
pub drop-three : (xs : List ℕ) (i a b c : ℕ) → i + 3 ≤ length xs → drop i (set (set (set xs i a) (i + 1) b) (i + 2) c) ≡ a ∷ b ∷ c ∷ drop (i + 3) xs
drop-three xs i a b c h =
    let inner = set xs (i + 2) c in
    let more : i + 1 + 1 ≡ i + 2 = omega arith in
    let last : i + 2 + 1 ≡ i + 3 = omega arith in
    rw (set_comm xs i (i + 1) a b (λ x. omega arith), set_comm (set xs (i + 1) b) i (i + 2) a c (λ x. omega arith), set_comm xs (i + 1) (i + 2) b c (λ x. omega arith), drop-set (set inner (i + 1) b) i a (omega (arith, length-set inner (i + 1) b, length-set xs (i + 2) c)), drop-set inner (i + 1) b (omega (arith, length-set xs (i + 2) c)), more, drop-set xs (i + 2) c (omega arith), last) refl

found_by : (t : Bool) (p dot : ℕ) → Some dot ≡ cond t (Some p) None → (t ≡ true) × (dot ≡ p)
found_by true p dot h = (refl, grind arith)
found_by false p dot h = grind arith

missed_by : (t : Bool) (p : ℕ) → None ≡ cond t (Some p) None → t ≡ false
missed_by true p h = grind arith
missed_by false p h = refl

module _ (text : List ℕ) where
  pub before_found : (dot : ℕ) → Some dot ≡ position is_dot text → take dot text ≡ before_first is_dot text
  before_found dot h = rw ((found_by (nat_lt (position_or_len is_dot text) (length text)) (position_or_len is_dot text) dot h).1) refl

  pub behind_found : (dot : ℕ) → Some dot ≡ position is_dot text → take (length text - (dot + 1)) (drop (dot + 1) text) ≡ after_first is_dot text
  behind_found dot h =
      let all : take (length text - (dot + 1)) (drop (dot + 1) text) ≡ drop (dot + 1) text = grind (arith, common_steps) in
      rw (all, (found_by (nat_lt (position_or_len is_dot text) (length text)) (position_or_len is_dot text) dot h).1) refl

  past_end : None ≡ position is_dot text → length text ≤ position_or_len is_dot text
  past_end h = let t = missed_by (nat_lt (position_or_len is_dot text) (length text)) (position_or_len is_dot text) h in grind (arith, nat_tests)

  pub before_missed : None ≡ position is_dot text → text ≡ before_first is_dot text
  before_missed h = let end = past_end h in grind (arith, common_steps)

  pub behind_missed : None ≡ position is_dot text → [] ≡ after_first is_dot text
  behind_missed h = let end = past_end h in grind (arith, common_steps)

-- behind digits stands the first dot
dot_behind : (ds rest : List ℕ) → all_digits ds ≡ true → position_or_len is_dot (ds ++ 46 ∷ rest) ≡ length ds
dot_behind [] rest h = refl
dot_behind (c ∷ cs) rest h =
    let parts = and_parts (is_ascii_digit c) (all_digits cs) h in
    let no : is_dot c ≡ false = grind (arith, nat_tests) in
    rw (no, dot_behind cs rest parts.1) (omega arith)

before_first-digits : (ds rest : List ℕ) → all_digits ds ≡ true → before_first is_dot (ds ++ 46 ∷ rest) ≡ ds
before_first-digits ds rest h = rw (dot_behind ds rest h) (grind (arith, common_steps))

after_first-digits : (ds rest : List ℕ) → all_digits ds ≡ true → after_first is_dot (ds ++ 46 ∷ rest) ≡ rest
after_first-digits ds rest h = rw (dot_behind ds rest h, drop-append-add) refl

before_first-letter : (k : Kind) (rest : List ℕ) → before_first is_dot (kind_letter k ∷ 46 ∷ rest) ≡ kind_letter k ∷ []
before_first-letter Actor rest = refl
before_first-letter Port rest = refl
before_first-letter Group rest = refl

after_first-letter : (k : Kind) (rest : List ℕ) → after_first is_dot (kind_letter k ∷ 46 ∷ rest) ≡ rest
after_first-letter Actor rest = refl
after_first-letter Port rest = refl
after_first-letter Group rest = refl

kind_with_text-letter : (k : Kind) → kind_with_text (kind_letter k ∷ []) ≡ Some k
kind_with_text-letter Actor = refl
kind_with_text-letter Port = refl
kind_with_text-letter Group = refl

-- what is spelled is read
pub parse_name-name_text : (u : Name) → IsName u → parse_name (name_text u) ≡ Some u
unfolding parse_name
parse_name-name_text u h =
    let rest = kind_letter u.kind ∷ 46 ∷ decimal u.number in
    let digits = all_digits-decimal u.site (omega arith) in
    rw (before_first-digits (decimal u.site) rest digits, after_first-digits (decimal u.site) rest digits, before_first-letter u.kind (decimal u.number), after_first-letter u.kind (decimal u.number), parse_decimal-decimal u.site (omega arith), parse_decimal-decimal u.number (omega arith), kind_with_text-letter u.kind) (new_name-IsName u h)

letter_is : (c : ℕ) (k : Kind) → kind_with_letter c ≡ Some k → c ≡ kind_letter k
letter_is c k e = letter_by (c == 97) (c == 112) (c == 103) refl refl refl e
  where
    letter_by : (a p g : Bool) → c == 97 ≡ a → c == 112 ≡ p → c == 103 ≡ g → (if a then Some Actor else if p then Some Port else if g then Some Group else None) ≡ Some k → c ≡ kind_letter k
    letter_by true p g ea ep eg e = let same : Actor ≡ k = cc in rw (← same) (grind (arith, nat_tests))
    letter_by false true g ea ep eg e = let same : Port ≡ k = cc in rw (← same) (grind (arith, nat_tests))
    letter_by false false true ea ep eg e = let same : Group ≡ k = cc in rw (← same) (grind (arith, nat_tests))
    letter_by false false false ea ep eg e = grind arith

kind_text_is : (text : List ℕ) (k : Kind) → kind_with_text text ≡ Some k → text ≡ kind_letter k ∷ []
kind_text_is [] k e = grind arith
kind_text_is (c ∷ []) k e = rw (← letter_is c k e) refl
kind_text_is (c ∷ d ∷ cs) k e = grind arith

-- a text is what stands before its first dot, the dot, and what stands behind it
rejoined : (text : List ℕ) → 0 < length (after_first is_dot text) → text ≡ before_first is_dot text ++ 46 ∷ after_first is_dot text
rejoined text some =
    let inside : position_or_len is_dot text < length text = omega (arith, length-drop (position_or_len is_dot text + 1) text) in
    let passes = passes_at_first is_dot text 0 inside in
    let dot : get_or text (position_or_len is_dot text) 0 ≡ 46 = grind (arith, nat_tests) in
    rw dot at (split_at_first is_dot text 0 inside)

if_some : (t : Bool) (u : Name) (P : Name → Type 0) → P u → IfSome (if t then Some u else None) P
if_some true u P h = h
if_some false u P h = tt

parts_some : (s : Option ℕ) (k : Option Kind) (n : Option ℕ) (P : Name → Type 0) → ((u : Name) → s ≡ Some u.site → k ≡ Some u.kind → n ≡ Some u.number → P u) → IfSome (name_of_parts s k n) P
parts_some (Some s) (Some k) (Some n) P h = let u : Name = record { site = s; kind = k; number = n } in if_some (is_name u) u P (h u refl refl refl)
parts_some (Some s) (Some k) None P h = tt
parts_some (Some s) None n P h = tt
parts_some None k n P h = tt

pub parse_name_named : (text : List ℕ) → IfSome (parse_name text) IsName
unfolding parse_name
parse_name_named text =
    let rest = after_first is_dot text in
    name_of_parts_some (parse_decimal (before_first is_dot text)) (kind_with_text (before_first is_dot rest)) (parse_decimal (after_first is_dot rest))

-- what is read is spelled so
pub parse_name_some : (text : List ℕ) → IfSome (parse_name text) (λ u. name_text u ≡ text)
unfolding parse_name
parse_name_some text =
    let rest = after_first is_dot text in
    parts_some _ _ _ (λ u. name_text u ≡ text)
    (λ u s k n.
    let site = parse_decimal_is (before_first is_dot text) u.site s in
    let letter = kind_text_is (before_first is_dot rest) u.kind k in
    let number = parse_decimal_is (after_first is_dot rest) u.number n in
    let second = rejoined rest (parse_decimal_not_empty (after_first is_dot rest) u.number n) in
    let first = rejoined text (omega (arith, parse_decimal_not_empty (after_first is_dot rest) u.number n, length-drop (position_or_len is_dot rest + 1) rest)) in
    let tail : rest ≡ kind_letter u.kind ∷ 46 ∷ decimal u.number = second ∙ (λ i. letter i ++ 46 ∷ number i) in
    sym (first ∙ (λ i. site i ++ 46 ∷ tail i)))

pub parse_name_none : (text : List ℕ) → parse_name text ≡ None → (u : Name) → IsName u → name_text u ≢ text
parse_name_none text none u h e = grind (arith, ap parse_name e, parse_name-name_text u h)

module _ (text : List ℕ) (r : Option Name) (value : r ≡ parse_name text) where
  pub parsed_some : IfSome r (λ u. name_text u ≡ text)
  parsed_some = rw value (parse_name_some text)

  pub parsed_none : IsNone r → (u : Name) → IsName u → name_text u ≢ text
  parsed_none h = parse_name_none text (sym value ∙ from_IsNone r h)
