-- A line is read back: reading its words gives the entry, and it has no LF within.
use Rattle.std.proofs.Common.{◌≡◌, ℕ, ◌+◌, ◌*◌, ◌/◌, ◌%◌, ◌^◌, ◌<◌, ◌≤◌, Bool, true, false, not, ◌&&◌, ◌==◌, if◌then◌else◌, nat_lt, Option, Some, None, option_map, unwrap_or, List, [], ◌∷◌, ◌++◌, map, codes, decimal, refl, sym, ap, ◌∙◌, append_assoc, append-nil, arith}
use Rattle.std.specs.Char.{is_ascii_digit}
use Rattle.std.specs.List.{join_with_byte, list_all, flat_map}
use Rattle.std.proofs.lemmas.Bool.{and_parts, eq-eqb, eqb-true, lt-ltb}
use Rattle.std.proofs.lemmas.Bool.Decides.{nat_tests}
use Rattle.std.proofs.lemmas.List.{append_cancel_right}
use Rattle.std.proofs.lemmas.List.Splits.{join_with_byte-slice_split}
use Rattle.chorus_ui.specs.declared.ui.Ui.{Ui}
use Rattle.chorus_ui.specs.declared.kind.Kind.{Kind}
use Rattle.chorus_ui.specs.declared.kind.Kind.TheVariants as K
use Rattle.chorus_ui.specs.Kind.{kind_letter}
use Rattle.chorus_ui.specs.Name.{IsName}
use Rattle.chorus_ui.proofs.Decimals.{all_digits-decimal, parse_decimal-decimal}
use Rattle.chorus_ui.proofs.Texts.{parse_name-name_text}
use Rattle.chorus_entry.specs.declared.id.MsgId.{MsgId}
use Rattle.chorus_entry.specs.declared.dest.Dest.{Dest}
use Rattle.chorus_entry.specs.declared.dest.Dest.TheVariants as D
use Rattle.chorus_entry.specs.declared.tag.Tag.{Tag}
use Rattle.chorus_entry.specs.declared.tag.Tag.TheVariants as T
use Rattle.chorus_entry.specs.declared.answer.Answer.{Answer}
use Rattle.chorus_entry.specs.declared.answer.Answer.TheVariants as A
use Rattle.chorus_entry.specs.declared.message.Message.{Message}
use Rattle.chorus_entry.specs.declared.act.Act.{Act}
use Rattle.chorus_entry.specs.declared.act.Act.TheVariants.{Make, MakeFull, NoActor, NoSite, Post, Accept, Full, Already, ClientsFull, Stale, Early, NoPort, Elsewhere, NoMember, Choose, Try, Told, Heard, Take, Done, Late, Empty, NotHere, Rehome, Depart, Arrive, GroupMake, GroupsFull, Join, Leave, NoGroup, There, NotThere, MembersFull, Outstanding, NoCall, NoRequest, Cancel, Delete, Gone}
use Rattle.chorus_entry.specs.declared.entry.Entry.{Entry}
use Rattle.chorus_show.specs.Lines.{dest_text, tag_text, answer_text, act_text}
use Rattle.chorus_ui.specs.Decimals.{all_digits, parse_decimal}
use Rattle.chorus_ui.specs.Text.{name_text, parse_name}
use Rattle.chorus_show.specs.Phrases.{spaced, phrase, id_text, stands_for_itself, hex_digit, byte_text, escaped_body}
use Rattle.chorus_show.specs.Bounds.{Is8, Is16, Is32, Is64, IsId, AreNames, AreIds, AreBytes, IsDest, IsTag, IsMessage, IsAnswer, IsAct, IsEntry}
use Rattle.chorus_show.specs.Law.{LinesAreReadBack, LinesTellEntries}
use Rattle.chorus_show.specs.Reading.{lacks, parts, two, three, four, five, onto, each, below, u8_in, u16_in, u32_in, id_of, id_in_parts, id_in, digit_in, unescape, body_in, dest_in, behind_dest, tag_in, behind_tag, post_of, answer_in, act_of, decision_of, news_of, port_of, group_of, call_of, act_in, entry_of, entry_in}

-- a text that lacks the byte at which texts are cut
module _ (c : ℕ) where
  not_cut : (b : Bool) → not b ≡ true → b ≡ false
  not_cut true h = sym h
  not_cut false h = refl

  and_true : (a b : Bool) → a ≡ true → b ≡ true → (a && b) ≡ true
  and_true true b h k = k
  and_true false b h k = h

  pub lacks_join : (s t : List ℕ) → lacks c s ≡ true → lacks c t ≡ true → lacks c (s ++ t) ≡ true
  lacks_join [] t hs ht = ht
  lacks_join (x ∷ s) t hs ht = let both = and_parts (not (x == c)) (lacks c s) hs in and_true _ _ both.0 (lacks_join s t both.1 ht)

  digit_differs : (x : ℕ) → is_ascii_digit c ≡ false → is_ascii_digit x ≡ true → not (x == c) ≡ true
  digit_differs x other digit = by (x == c) refl
    where
      by : (b : Bool) → (x == c) ≡ b → not b ≡ true
      by true e = absurd (cc (ap is_ascii_digit (eqb-true x c e)))
      by false e = refl

  lacks_digits : (ds : List ℕ) → is_ascii_digit c ≡ false → all_digits ds ≡ true → lacks c ds ≡ true
  lacks_digits [] other h = refl
  lacks_digits (x ∷ ds) other h = let both = and_parts (is_ascii_digit x) (all_digits ds) h in and_true _ _ (digit_differs x other both.0) (lacks_digits ds other both.1)

  lacks_decimal : (n : ℕ) → is_ascii_digit c ≡ false → n < 2 ^ 64 → lacks c (decimal n) ≡ true
  lacks_decimal n other h = lacks_digits (decimal n) other (all_digits-decimal n h)

  pub one_part : (t : List ℕ) → lacks c t ≡ true → parts c t ≡ t ∷ []
  one_part [] h = refl
  one_part (x ∷ t) h = let both = and_parts (not (x == c)) (lacks c t) h in rw (not_cut (x == c) both.0, one_part t both.1) refl

  pub first_part : (s t : List ℕ) → lacks c s ≡ true → parts c (s ++ c ∷ t) ≡ s ∷ parts c t
  first_part [] t h = rw (eq-eqb c c refl) refl
  first_part (x ∷ s) t h = let both = and_parts (not (x == c)) (lacks c s) h in rw (not_cut (x == c) both.0, first_part s t both.1) refl

-- a word: each of its bytes is above the space
abbrev pub is_word : List ℕ → Bool
is_word t = list_all (λ x. nat_lt 32 x) t

-- so it has no space, and no LF
lacks_word : (c : ℕ) (t : List ℕ) → c ≤ 32 → is_word t ≡ true → lacks c t ≡ true
lacks_word c [] small h = refl
lacks_word c (x ∷ t) small h = let both = and_parts (nat_lt 32 x) (is_word t) h in and_true c _ _ (by both.0) (lacks_word c t small both.1)
  where
    by : nat_lt 32 x ≡ true → not (x == c) ≡ true
    by e = grind (arith, nat_tests)

word_join : (s t : List ℕ) → is_word s ≡ true → is_word t ≡ true → is_word (s ++ t) ≡ true
word_join [] t hs ht = ht
word_join (x ∷ s) t hs ht = let both = and_parts (nat_lt 32 x) (is_word s) hs in and_true 0 _ _ both.0 (word_join s t both.1 ht)

word_digits : (ds : List ℕ) → all_digits ds ≡ true → is_word ds ≡ true
word_digits [] h = refl
word_digits (x ∷ ds) h = let both = and_parts (is_ascii_digit x) (all_digits ds) h in and_true 0 _ _ (by both.0) (word_digits ds both.1)
  where
    by : is_ascii_digit x ≡ true → nat_lt 32 x ≡ true
    by e = grind (arith, nat_tests)

word_decimal : (n : ℕ) → n < 2 ^ 64 → is_word (decimal n) ≡ true
word_decimal n h = word_digits (decimal n) (all_digits-decimal n h)

abbrev AreWords : List (List ℕ) → Type 0
AreWords [] = Unit {0}
AreWords (t ∷ ts) = (is_word t ≡ true) × AreWords ts

-- a phrase of words is cut into them
words : (w : List ℕ) (ts : List (List ℕ)) → is_word w ≡ true → AreWords ts → parts 32 (phrase w ts) ≡ w ∷ ts
words w [] hw h = rw append-nil (one_part 32 w (lacks_word 32 w (omega arith) hw))
words w (t ∷ ts) hw h = first_part 32 w (t ++ spaced ts) (lacks_word 32 w (omega arith) hw) ∙ ap (λ ps. w ∷ ps) (words t ts h.0 h.1)

-- and has no LF
one_line : (w : List ℕ) (ts : List (List ℕ)) → is_word w ≡ true → AreWords ts → lacks 10 (phrase w ts) ≡ true
one_line w [] hw h = rw append-nil (lacks_word 10 w (omega arith) hw)
one_line w (t ∷ ts) hw h = lacks_join 10 w (32 ∷ (t ++ spaced ts)) (lacks_word 10 w (omega arith) hw) (one_line t ts h.0 h.1)

-- nor has the line of a word and a number, before its own
pub count_lacks : (w : List ℕ) (n : ℕ) → is_word w ≡ true → n < 2 ^ 64 → lacks 10 (phrase w (decimal n ∷ [])) ≡ true
count_lacks w n hw h = one_line w (decimal n ∷ []) hw (word_decimal n h, tt)

-- a phrase that ends in any text
words_then : (w f t : List ℕ) → is_word w ≡ true → is_word f ≡ true → parts 32 (phrase w (f ∷ t ∷ [])) ≡ w ∷ f ∷ parts 32 t
words_then w f t hw hf =
    first_part 32 w (f ++ 32 ∷ (t ++ [])) (lacks_word 32 w (omega arith) hw)
    ∙ ap (λ ps. w ∷ ps) (first_part 32 f (t ++ []) (lacks_word 32 f (omega arith) hf) ∙ ap (λ s. f ∷ parts 32 s) (append-nil t))

one_line_then : (w f t : List ℕ) → is_word w ≡ true → is_word f ≡ true → lacks 10 t ≡ true → lacks 10 (phrase w (f ∷ t ∷ [])) ≡ true
one_line_then w f t hw hf ht =
    lacks_join 10 w (32 ∷ (f ++ 32 ∷ (t ++ []))) (lacks_word 10 w (omega arith) hw)
    (lacks_join 10 f (32 ∷ (t ++ [])) (lacks_word 10 f (omega arith) hf) (ap (lacks 10) (append-nil t) ∙ ht))

-- what a text says when it is cut into its words, and that it is one line
record Says {A : Type 0} (text : List ℕ) (read : List (List ℕ) → Option A) (a : A) : Type 0 where
  back : read (parts 32 text) ≡ Some a
  line : lacks 10 text ≡ true

module _ {A : Type 0} (read : List (List ℕ) → Option A) (a : A) where
  says : (w : List ℕ) (ts : List (List ℕ)) → is_word w ≡ true → AreWords ts → read (w ∷ ts) ≡ Some a → Says (phrase w ts) read a
  says w ts hw h e = record { back = ap read (words w ts hw h) ∙ e; line = one_line w ts hw h }

  says_then : (w f t : List ℕ) → is_word w ≡ true → is_word f ≡ true → lacks 10 t ≡ true → read (w ∷ f ∷ parts 32 t) ≡ Some a → Says (phrase w (f ∷ t ∷ [])) read a
  says_then w f t hw hf ht e = record { back = ap read (words_then w f t hw hf) ∙ e; line = one_line_then w f t hw hf ht }

-- numbers, names and ids are words, and are read back
small : (bound n : ℕ) → n < bound → below bound (Some n) ≡ Some n
small bound n h = rw (lt-ltb n bound h) refl

back : (bound n : ℕ) → n < 2 ^ 64 → n < bound → below bound (parse_decimal (decimal n)) ≡ Some n
back bound n h k = ap (below bound) (parse_decimal-decimal n h) ∙ small bound n k

fits8 : (n : ℕ) → Is8 n → n < 2 ^ 64
fits8 n h = omega arith

fits16 : (n : ℕ) → Is16 n → n < 2 ^ 64
fits16 n h = omega arith

fits32 : (n : ℕ) → Is32 n → n < 2 ^ 64
fits32 n h = omega arith

word_n8 : (n : ℕ) → Is8 n → is_word (decimal n) ≡ true
word_n8 n h = word_decimal n (fits8 n h)

back_n8 : (n : ℕ) → Is8 n → u8_in (decimal n) ≡ Some n
back_n8 n h = back (2 ^ 8) n (fits8 n h) h

word_n16 : (n : ℕ) → Is16 n → is_word (decimal n) ≡ true
word_n16 n h = word_decimal n (fits16 n h)

back_n16 : (n : ℕ) → Is16 n → u16_in (decimal n) ≡ Some n
back_n16 n h = back (2 ^ 16) n (fits16 n h) h

word_n32 : (n : ℕ) → Is32 n → is_word (decimal n) ≡ true
word_n32 n h = word_decimal n (fits32 n h)

pub back_n32 : (n : ℕ) → Is32 n → u32_in (decimal n) ≡ Some n
back_n32 n h = back (2 ^ 32) n (fits32 n h) h

word_n64 : (n : ℕ) → Is64 n → is_word (decimal n) ≡ true
word_n64 n h = word_decimal n h

back_n64 : (n : ℕ) → Is64 n → parse_decimal (decimal n) ≡ Some n
back_n64 n h = parse_decimal-decimal n h

site_fits : (q : Ui) → IsName q → q.site < 2 ^ 64
site_fits q h = omega arith

number_fits : (q : Ui) → IsName q → q.number < 2 ^ 64
number_fits q h = omega arith

letter_word : (k : Kind) (ds : List ℕ) → is_word ds ≡ true → is_word (46 ∷ kind_letter k ∷ 46 ∷ ds) ≡ true
letter_word K.Actor ds h = h
letter_word K.Port ds h = h
letter_word K.Group ds h = h

word_name : (q : Ui) → IsName q → is_word (name_text q) ≡ true
word_name q h = word_join (decimal q.site) _ (word_decimal q.site (site_fits q h)) (letter_word q.kind (decimal q.number) (word_decimal q.number (number_fits q h)))

back_name : (q : Ui) → IsName q → parse_name (name_text q) ≡ Some q
back_name q h = parse_name-name_text q h

word_id : (x : MsgId) → IsId x → is_word (id_text x) ≡ true
word_id x h =
    word_join (decimal x.seat ++ 58 ∷ decimal x.number) (58 ∷ decimal x.copy)
    (word_join (decimal x.seat) (58 ∷ decimal x.number) (word_n32 x.seat h.seat) (word_n32 x.number h.number))
    (word_n16 x.copy h.copy)

id_parts : (x : MsgId) → IsId x → parts 58 (id_text x) ≡ decimal x.seat ∷ decimal x.number ∷ decimal x.copy ∷ []
id_parts x h =
    ap (parts 58) (append_assoc (decimal x.seat) (58 ∷ decimal x.number) (58 ∷ decimal x.copy))
    ∙ first_part 58 (decimal x.seat) (decimal x.number ++ 58 ∷ decimal x.copy) (lacks_decimal 58 x.seat refl (fits32 x.seat h.seat))
    ∙ ap (λ ps. decimal x.seat ∷ ps) (first_part 58 (decimal x.number) (decimal x.copy) (lacks_decimal 58 x.number refl (fits32 x.number h.number))
    ∙ ap (λ ps. decimal x.number ∷ ps) (one_part 58 (decimal x.copy) (lacks_decimal 58 x.copy refl (fits16 x.copy h.copy))))

back_id : (x : MsgId) → IsId x → id_in (id_text x) ≡ Some x
back_id x h = ap id_in_parts (id_parts x h) ∙ (λ i. option_map id_of (three (back_n32 x.seat h.seat i) (back_n32 x.number h.number i) (back_n16 x.copy h.copy i)))

words_names : (qs : List Ui) → AreNames qs → AreWords (map name_text qs)
words_names [] h = tt
words_names (q ∷ qs) h = (word_name q h.0, words_names qs h.1)

back_names : (qs : List Ui) → AreNames qs → each parse_name (map name_text qs) ≡ Some qs
back_names [] h = refl
back_names (q ∷ qs) h = λ i. onto (back_name q h.0 i) (back_names qs h.1 i)

words_ids : (xs : List MsgId) → AreIds xs → AreWords (map id_text xs)
words_ids [] h = tt
words_ids (x ∷ xs) h = (word_id x h.0, words_ids xs h.1)

back_ids : (xs : List MsgId) → AreIds xs → each id_in (map id_text xs) ≡ Some xs
back_ids [] h = refl
back_ids (x ∷ xs) h = λ i. onto (back_id x h.0 i) (back_ids xs h.1 i)

-- bodies
digit_back : (d : ℕ) → d < 16 → digit_in (hex_digit d) ≡ d
digit_back d h = grind (arith, nat_tests)

plain_is_no_escape : (c : ℕ) → stands_for_itself c ≡ true → (c == 37) ≡ false
plain_is_no_escape c h = grind (arith, nat_tests)

byte_back : (c : ℕ) (cs : List ℕ) → Is8 c → unescape None (byte_text c ++ cs) ≡ c ∷ unescape None cs
byte_back c cs h = by (stands_for_itself c) refl
  where
    by : (b : Bool) → stands_for_itself c ≡ b → unescape None ((if b then c ∷ [] else 37 ∷ hex_digit (c / 16) ∷ hex_digit (c % 16) ∷ []) ++ cs) ≡ c ∷ unescape None cs
    by true e = rw (plain_is_no_escape c e) refl
    by false e =
        let whole : digit_in (hex_digit (c / 16)) * 16 + digit_in (hex_digit (c % 16)) ≡ c = omega (arith, digit_back (c / 16) (omega arith), digit_back (c % 16) (omega arith)) in
        ap (λ d. d ∷ unescape None cs) whole

bytes_back : (cs : List ℕ) → AreBytes cs → unescape None (flat_map byte_text cs) ≡ cs
bytes_back [] h = refl
bytes_back (c ∷ cs) h = byte_back c (flat_map byte_text cs) h.0 ∙ ap (λ ds. c ∷ ds) (bytes_back cs h.1)

-- and they have no LF
byte_line : (c : ℕ) → Is8 c → lacks 10 (byte_text c) ≡ true
byte_line c h = by (stands_for_itself c) refl
  where
    plain : stands_for_itself c ≡ true → not (c == 10) ≡ true
    plain e = grind (arith, nat_tests)

    high : not (hex_digit (c / 16) == 10) ≡ true
    high = grind (arith, nat_tests)

    low : not (hex_digit (c % 16) == 10) ≡ true
    low = grind (arith, nat_tests)

    by : (b : Bool) → stands_for_itself c ≡ b → lacks 10 (if b then c ∷ [] else 37 ∷ hex_digit (c / 16) ∷ hex_digit (c % 16) ∷ []) ≡ true
    by true e = and_true 10 _ _ (plain e) refl
    by false e = and_true 10 _ _ high (and_true 10 _ _ low refl)

bytes_line : (cs : List ℕ) → AreBytes cs → lacks 10 (flat_map byte_text cs) ≡ true
bytes_line [] h = refl
bytes_line (c ∷ cs) h = lacks_join 10 (byte_text c) (flat_map byte_text cs) (byte_line c h.0) (bytes_line cs h.1)

answer_says : (answer : Answer) → IsAnswer answer → Says (answer_text answer) answer_in answer
unfolding answer_in
answer_says (A.Accepted pos) h = says answer_in (A.Accepted pos) (codes "accepted") (decimal pos ∷ []) refl (word_n64 pos h, tt) (λ i. option_map A.Accepted (back_n64 pos h i))
answer_says (A.Full len) h = says answer_in (A.Full len) (codes "full") (decimal len ∷ []) refl (word_n8 len h, tt) (λ i. option_map A.Full (back_n8 len h i))
answer_says (A.Stale to hop) h = says answer_in (A.Stale to hop) (codes "stale") (decimal to ∷ decimal hop ∷ []) refl (word_n16 to h.0, (word_n64 hop h.1, tt)) (λ i. option_map (λ p. A.Stale p.0 p.1) (two (back_n16 to h.0 i) (back_n64 hop h.1 i)))
answer_says (A.Early hop) h = says answer_in (A.Early hop) (codes "early") (decimal hop ∷ []) refl (word_n64 hop h, tt) (λ i. option_map A.Early (back_n64 hop h i))
answer_says A.NoPort h = record { back = refl; line = refl }
answer_says A.Already h = record { back = refl; line = refl }
answer_says A.ClientsFull h = record { back = refl; line = refl }
answer_says (A.Elsewhere to hop) h = says answer_in (A.Elsewhere to hop) (codes "elsewhere") (decimal to ∷ decimal hop ∷ []) refl (word_n16 to h.0, (word_n64 hop h.1, tt)) (λ i. option_map (λ p. A.Elsewhere p.0 p.1) (two (back_n16 to h.0 i) (back_n64 hop h.1 i)))
answer_says A.NoMember h = record { back = refl; line = refl }
answer_says (A.Chosen count) h = says answer_in (A.Chosen count) (codes "chosen") (decimal count ∷ []) refl (word_n16 count h, tt) (λ i. option_map A.Chosen (back_n16 count h i))
answer_says A.Gone h = record { back = refl; line = refl }

-- the words of a phrase that stands before another text
before : (w : List ℕ) (ts : List (List ℕ)) (more : List ℕ) → is_word w ≡ true → AreWords ts → parts 32 (phrase w ts ++ 32 ∷ more) ≡ w ∷ (ts ++ parts 32 more)
before w [] more hw h = rw append-nil (first_part 32 w more (lacks_word 32 w (omega arith) hw))
before w (t ∷ ts) more hw h =
    ap (parts 32) (append_assoc w (32 ∷ (t ++ spaced ts)) (32 ∷ more))
    ∙ first_part 32 w ((t ++ spaced ts) ++ 32 ∷ more) (lacks_word 32 w (omega arith) hw)
    ∙ ap (λ ps. w ∷ ps) (before t ts more h.0 h.1)

dest_line : (d : Dest) → IsDest d → lacks 10 (dest_text d) ≡ true
dest_line (D.Port q) h = one_line (codes "port") (name_text q ∷ []) refl (word_name q h, tt)
dest_line (D.All g) h = one_line (codes "all") (name_text g ∷ []) refl (word_name g h, tt)
dest_line (D.One g) h = one_line (codes "one") (name_text g ∷ []) refl (word_name g h, tt)
dest_line (D.OneAt g site) h = one_line (codes "at") (name_text g ∷ decimal site ∷ []) refl (word_name g h.0, (word_n16 site h.1, tt))

tag_line : (t : Tag) → IsTag t → lacks 10 (tag_text t) ≡ true
tag_line T.Plain h = refl
tag_line (T.Request number back) h = one_line (codes "request") (decimal number ∷ name_text back ∷ []) refl (word_n32 number h.0, (word_name back h.1, tt))
tag_line (T.Reply client number) h = one_line (codes "reply") (decimal client ∷ decimal number ∷ []) refl (word_n32 client h.0, (word_n32 number h.1, tt))

module _ (more : List ℕ) where
  dest_back : (d : Dest) → IsDest d → dest_in (parts 32 (dest_text d ++ 32 ∷ more)) ≡ Some d
  unfolding dest_in
  dest_back (D.Port q) h = ap dest_in (before (codes "port") (name_text q ∷ []) more refl (word_name q h, tt)) ∙ (λ i. option_map D.Port (back_name q h i))
  dest_back (D.All g) h = ap dest_in (before (codes "all") (name_text g ∷ []) more refl (word_name g h, tt)) ∙ (λ i. option_map D.All (back_name g h i))
  dest_back (D.One g) h = ap dest_in (before (codes "one") (name_text g ∷ []) more refl (word_name g h, tt)) ∙ (λ i. option_map D.One (back_name g h i))
  dest_back (D.OneAt g site) h = ap dest_in (before (codes "at") (name_text g ∷ decimal site ∷ []) more refl (word_name g h.0, (word_n16 site h.1, tt))) ∙ (λ i. option_map (λ p. D.OneAt p.0 p.1) (two (back_name g h.0 i) (back_n16 site h.1 i)))

  dest_passed : (d : Dest) → IsDest d → behind_dest (parts 32 (dest_text d ++ 32 ∷ more)) ≡ parts 32 more
  dest_passed (D.Port q) h = ap behind_dest (before (codes "port") (name_text q ∷ []) more refl (word_name q h, tt))
  dest_passed (D.All g) h = ap behind_dest (before (codes "all") (name_text g ∷ []) more refl (word_name g h, tt))
  dest_passed (D.One g) h = ap behind_dest (before (codes "one") (name_text g ∷ []) more refl (word_name g h, tt))
  dest_passed (D.OneAt g site) h = ap behind_dest (before (codes "at") (name_text g ∷ decimal site ∷ []) more refl (word_name g h.0, (word_n16 site h.1, tt)))

  tag_back : (t : Tag) → IsTag t → tag_in (parts 32 (tag_text t ++ 32 ∷ more)) ≡ Some t
  unfolding tag_in
  tag_back T.Plain h = ap tag_in (first_part 32 (codes "plain") more refl)
  tag_back (T.Request number back) h = ap tag_in (before (codes "request") (decimal number ∷ name_text back ∷ []) more refl (word_n32 number h.0, (word_name back h.1, tt))) ∙ (λ i. option_map (λ p. T.Request p.0 p.1) (two (back_n32 number h.0 i) (back_name back h.1 i)))
  tag_back (T.Reply client number) h = ap tag_in (before (codes "reply") (decimal client ∷ decimal number ∷ []) more refl (word_n32 client h.0, (word_n32 number h.1, tt))) ∙ (λ i. option_map (λ p. T.Reply p.0 p.1) (two (back_n32 client h.0 i) (back_n32 number h.1 i)))

  tag_passed : (t : Tag) → IsTag t → behind_tag (parts 32 (tag_text t ++ 32 ∷ more)) ≡ parts 32 more
  tag_passed T.Plain h = ap behind_tag (first_part 32 (codes "plain") more refl)
  tag_passed (T.Request number back) h = ap behind_tag (before (codes "request") (decimal number ∷ name_text back ∷ []) more refl (word_n32 number h.0, (word_name back h.1, tt)))
  tag_passed (T.Reply client number) h = ap behind_tag (before (codes "reply") (decimal client ∷ decimal number ∷ []) more refl (word_n32 client h.0, (word_n32 number h.1, tt)))

module _ (m : Message) (d : Dest) (hm : IsMessage m) (hd : IsDest d) where
  body : List ℕ
  body = escaped_body m.body ++ []

  behind_id : List ℕ
  behind_id = dest_text d ++ 32 ∷ (tag_text m.tag ++ 32 ∷ body)

  post_words : parts 32 (act_text (Post m d)) ≡ codes "post" ∷ id_text m.id ∷ parts 32 behind_id
  unfolding body behind_id
  post_words =
      first_part 32 (codes "post") (id_text m.id ++ 32 ∷ behind_id) refl
      ∙ ap (λ ps. codes "post" ∷ ps) (first_part 32 (id_text m.id) behind_id (lacks_word 32 (id_text m.id) (omega arith) (word_id m.id hm.id)))

  body_back : body_in (join_with_byte 32 (parts 32 body)) ≡ Some m.body
  unfolding body
  body_back = ap body_in (join_with_byte-slice_split 32 body ∙ append-nil (escaped_body m.body)) ∙ ap Some (bytes_back m.body hm.body)

  dest_gone : behind_dest (parts 32 behind_id) ≡ parts 32 (tag_text m.tag ++ 32 ∷ body)
  unfolding behind_id
  dest_gone = dest_passed (tag_text m.tag ++ 32 ∷ body) d hd

  post_back : act_in (parts 32 (act_text (Post m d))) ≡ Some (Post m d)
  unfolding behind_id act_of
  post_back =
      ap act_in post_words
      ∙ (λ i. option_map post_of
      (four
      (back_id m.id hm.id i)
      (dest_back (tag_text m.tag ++ 32 ∷ body) d hd i)
      ((ap tag_in dest_gone ∙ tag_back body m.tag hm.tag) i)
      ((ap (λ ps. body_in (join_with_byte 32 (behind_tag ps))) dest_gone ∙ ap (λ ps. body_in (join_with_byte 32 ps)) (tag_passed body m.tag hm.tag) ∙ body_back) i)))

  post_line : lacks 10 (act_text (Post m d)) ≡ true
  post_line =
      lacks_join 10 (codes "post ") (id_text m.id ++ 32 ∷ (dest_text d ++ 32 ∷ (tag_text m.tag ++ 32 ∷ (escaped_body m.body ++ [])))) refl
      (lacks_join 10 (id_text m.id) _ (lacks_word 10 (id_text m.id) (omega arith) (word_id m.id hm.id))
      (lacks_join 10 (dest_text d) _ (dest_line d hd)
      (lacks_join 10 (tag_text m.tag) _ (tag_line m.tag hm.tag)
      (ap (lacks 10) (append-nil (escaped_body m.body)) ∙ bytes_line m.body hm.body))))

act_says : (act : Act) → IsAct act → Says (act_text act) act_in act
unfolding act_of decision_of news_of port_of group_of call_of
act_says (Post m d) h = record { back = post_back m d h.0 h.1; line = post_line m d h.0 h.1 }
act_says (Make q a n) h = says act_in (Make q a n) (codes "make") (name_text q ∷ name_text a ∷ decimal n ∷ []) refl (word_name q h.0, (word_name a h.1, (word_n8 n h.2, tt))) (λ i. option_map (λ p. Make p.0 p.1 p.2) (three (back_name q h.0 i) (back_name a h.1 i) (back_n8 n h.2 i)))
act_says (MakeFull a) h = says act_in (MakeFull a) (codes "make-full") (name_text a ∷ []) refl (word_name a h, tt) (λ i. option_map MakeFull (back_name a h i))
act_says (NoActor a) h = says act_in (NoActor a) (codes "no-actor") (name_text a ∷ []) refl (word_name a h, tt) (λ i. option_map NoActor (back_name a h i))
act_says (NoSite site) h = says act_in (NoSite site) (codes "no-site") (decimal site ∷ []) refl (word_n16 site h, tt) (λ i. option_map NoSite (back_n16 site h i))
act_says (Accept x q pos) h = says act_in (Accept x q pos) (codes "accept") (id_text x ∷ name_text q ∷ decimal pos ∷ []) refl (word_id x h.0, (word_name q h.1, (word_n64 pos h.2, tt))) (λ i. option_map (λ p. Accept p.0 p.1 p.2) (three (back_id x h.0 i) (back_name q h.1 i) (back_n64 pos h.2 i)))
act_says (Full x q len) h = says act_in (Full x q len) (codes "full") (id_text x ∷ name_text q ∷ decimal len ∷ []) refl (word_id x h.0, (word_name q h.1, (word_n8 len h.2, tt))) (λ i. option_map (λ p. Full p.0 p.1 p.2) (three (back_id x h.0 i) (back_name q h.1 i) (back_n8 len h.2 i)))
act_says (Already x q) h = says act_in (Already x q) (codes "already") (id_text x ∷ name_text q ∷ []) refl (word_id x h.0, (word_name q h.1, tt)) (λ i. option_map (λ p. Already p.0 p.1) (two (back_id x h.0 i) (back_name q h.1 i)))
act_says (ClientsFull x q) h = says act_in (ClientsFull x q) (codes "clients-full") (id_text x ∷ name_text q ∷ []) refl (word_id x h.0, (word_name q h.1, tt)) (λ i. option_map (λ p. ClientsFull p.0 p.1) (two (back_id x h.0 i) (back_name q h.1 i)))
act_says (Stale x q tried to hop) h = says act_in (Stale x q tried to hop) (codes "stale") (id_text x ∷ name_text q ∷ decimal tried ∷ decimal to ∷ decimal hop ∷ []) refl (word_id x h.0, (word_name q h.1, (word_n64 tried h.2, (word_n16 to h.3, (word_n64 hop h.4, tt))))) (λ i. option_map (λ p. Stale p.0 p.1 p.2 p.3 p.4) (five (back_id x h.0 i) (back_name q h.1 i) (back_n64 tried h.2 i) (back_n16 to h.3 i) (back_n64 hop h.4 i)))
act_says (Early x q hop) h = says act_in (Early x q hop) (codes "early") (id_text x ∷ name_text q ∷ decimal hop ∷ []) refl (word_id x h.0, (word_name q h.1, (word_n64 hop h.2, tt))) (λ i. option_map (λ p. Early p.0 p.1 p.2) (three (back_id x h.0 i) (back_name q h.1 i) (back_n64 hop h.2 i)))
act_says (NoPort x q) h = says act_in (NoPort x q) (codes "no-port") (id_text x ∷ name_text q ∷ []) refl (word_id x h.0, (word_name q h.1, tt)) (λ i. option_map (λ p. NoPort p.0 p.1) (two (back_id x h.0 i) (back_name q h.1 i)))
act_says (Elsewhere x q to hop) h = says act_in (Elsewhere x q to hop) (codes "elsewhere") (id_text x ∷ name_text q ∷ decimal to ∷ decimal hop ∷ []) refl (word_id x h.0, (word_name q h.1, (word_n16 to h.2, (word_n64 hop h.3, tt)))) (λ i. option_map (λ p. Elsewhere p.0 p.1 p.2 p.3) (four (back_id x h.0 i) (back_name q h.1 i) (back_n16 to h.2 i) (back_n64 hop h.3 i)))
act_says (NoMember x g) h = says act_in (NoMember x g) (codes "no-member") (id_text x ∷ name_text g ∷ []) refl (word_id x h.0, (word_name g h.1, tt)) (λ i. option_map (λ p. NoMember p.0 p.1) (two (back_id x h.0 i) (back_name g h.1 i)))
act_says (Choose x g members) h = says act_in (Choose x g members) (codes "choose") (id_text x ∷ name_text g ∷ map name_text members) refl (word_id x h.0, (word_name g h.1, words_names members h.2)) (λ i. option_map (λ p. Choose p.0 p.1 p.2) (three (back_id x h.0 i) (back_name g h.1 i) (back_names members h.2 i)))
act_says (Try x q to hop) h = says act_in (Try x q to hop) (codes "try") (id_text x ∷ name_text q ∷ decimal to ∷ decimal hop ∷ []) refl (word_id x h.0, (word_name q h.1, (word_n16 to h.2, (word_n64 hop h.3, tt)))) (λ i. option_map (λ p. Try p.0 p.1 p.2 p.3) (four (back_id x h.0 i) (back_name q h.1 i) (back_n16 to h.2 i) (back_n64 hop h.3 i)))
act_says (Told x answer) h = says_then act_in (Told x answer) (codes "told") (id_text x) (answer_text answer) refl (word_id x h.0) (answer_says answer h.1).line (λ i. option_map (λ p. Told p.0 p.1) (two (back_id x h.0 i) ((answer_says answer h.1).back i)))
act_says (Heard x answer) h = says_then act_in (Heard x answer) (codes "heard") (id_text x) (answer_text answer) refl (word_id x h.0) (answer_says answer h.1).line (λ i. option_map (λ p. Heard p.0 p.1) (two (back_id x h.0 i) ((answer_says answer h.1).back i)))
act_says (Take q pos x) h = says act_in (Take q pos x) (codes "take") (name_text q ∷ decimal pos ∷ id_text x ∷ []) refl (word_name q h.0, (word_n64 pos h.1, (word_id x h.2, tt))) (λ i. option_map (λ p. Take p.0 p.1 p.2) (three (back_name q h.0 i) (back_n64 pos h.1 i) (back_id x h.2 i)))
act_says (Done number) h = says act_in (Done number) (codes "done") (decimal number ∷ []) refl (word_n32 number h, tt) (λ i. option_map Done (back_n32 number h i))
act_says (Late number) h = says act_in (Late number) (codes "late") (decimal number ∷ []) refl (word_n32 number h, tt) (λ i. option_map Late (back_n32 number h i))
act_says (Empty q) h = says act_in (Empty q) (codes "empty") (name_text q ∷ []) refl (word_name q h, tt) (λ i. option_map Empty (back_name q h i))
act_says (NotHere q) h = says act_in (NotHere q) (codes "not-here") (name_text q ∷ []) refl (word_name q h, tt) (λ i. option_map NotHere (back_name q h i))
act_says (Rehome q a) h = says act_in (Rehome q a) (codes "rehome") (name_text q ∷ name_text a ∷ []) refl (word_name q h.0, (word_name a h.1, tt)) (λ i. option_map (λ p. Rehome p.0 p.1) (two (back_name q h.0 i) (back_name a h.1 i)))
act_says (Depart q to a hop) h = says act_in (Depart q to a hop) (codes "depart") (name_text q ∷ decimal to ∷ name_text a ∷ decimal hop ∷ []) refl (word_name q h.0, (word_n16 to h.1, (word_name a h.2, (word_n64 hop h.3, tt)))) (λ i. option_map (λ p. Depart p.0 p.1 p.2 p.3) (four (back_name q h.0 i) (back_n16 to h.1 i) (back_name a h.2 i) (back_n64 hop h.3 i)))
act_says (Arrive q hop) h = says act_in (Arrive q hop) (codes "arrive") (name_text q ∷ decimal hop ∷ []) refl (word_name q h.0, (word_n64 hop h.1, tt)) (λ i. option_map (λ p. Arrive p.0 p.1) (two (back_name q h.0 i) (back_n64 hop h.1 i)))
act_says (GroupMake g) h = says act_in (GroupMake g) (codes "group") (name_text g ∷ []) refl (word_name g h, tt) (λ i. option_map GroupMake (back_name g h i))
act_says (GroupsFull site) h = says act_in (GroupsFull site) (codes "groups-full") (decimal site ∷ []) refl (word_n16 site h, tt) (λ i. option_map GroupsFull (back_n16 site h i))
act_says (Join g q) h = says act_in (Join g q) (codes "join") (name_text g ∷ name_text q ∷ []) refl (word_name g h.0, (word_name q h.1, tt)) (λ i. option_map (λ p. Join p.0 p.1) (two (back_name g h.0 i) (back_name q h.1 i)))
act_says (Leave g q) h = says act_in (Leave g q) (codes "leave") (name_text g ∷ name_text q ∷ []) refl (word_name g h.0, (word_name q h.1, tt)) (λ i. option_map (λ p. Leave p.0 p.1) (two (back_name g h.0 i) (back_name q h.1 i)))
act_says (NoGroup g) h = says act_in (NoGroup g) (codes "no-group") (name_text g ∷ []) refl (word_name g h, tt) (λ i. option_map NoGroup (back_name g h i))
act_says (There g q) h = says act_in (There g q) (codes "there") (name_text g ∷ name_text q ∷ []) refl (word_name g h.0, (word_name q h.1, tt)) (λ i. option_map (λ p. There p.0 p.1) (two (back_name g h.0 i) (back_name q h.1 i)))
act_says (NotThere g q) h = says act_in (NotThere g q) (codes "not-there") (name_text g ∷ name_text q ∷ []) refl (word_name g h.0, (word_name q h.1, tt)) (λ i. option_map (λ p. NotThere p.0 p.1) (two (back_name g h.0 i) (back_name q h.1 i)))
act_says (MembersFull g) h = says act_in (MembersFull g) (codes "members-full") (name_text g ∷ []) refl (word_name g h, tt) (λ i. option_map MembersFull (back_name g h i))
act_says (Outstanding number) h = says act_in (Outstanding number) (codes "outstanding") (decimal number ∷ []) refl (word_n32 number h, tt) (λ i. option_map Outstanding (back_n32 number h i))
act_says NoCall h = record { back = refl; line = refl }
act_says NoRequest h = record { back = refl; line = refl }
act_says (Cancel number) h = says act_in (Cancel number) (codes "cancel") (decimal number ∷ []) refl (word_n32 number h, tt) (λ i. option_map Cancel (back_n32 number h i))
act_says (Delete q discarded) h = says act_in (Delete q discarded) (codes "delete") (name_text q ∷ map id_text discarded) refl (word_name q h.0, words_ids discarded h.1) (λ i. option_map (λ p. Delete p.0 p.1) (two (back_name q h.0 i) (back_ids discarded h.1 i)))
act_says (Gone x q) h = says act_in (Gone x q) (codes "gone") (id_text x ∷ name_text q ∷ []) refl (word_id x h.0, (word_name q h.1, tt)) (λ i. option_map (λ p. Gone p.0 p.1) (two (back_id x h.0 i) (back_name q h.1 i)))

-- the line without its LF
abbrev pub line : Entry → List ℕ
line e = phrase (decimal e.clock) (decimal e.place ∷ decimal e.seat ∷ act_text e.act ∷ [])

pub entry_back : (e : Entry) → IsEntry e → entry_in (parts 32 (line e)) ≡ Some e
entry_back e h =
    ap entry_in
    (first_part 32 (decimal e.clock) _ (lacks_word 32 (decimal e.clock) (omega arith) (word_n64 e.clock h.clock))
    ∙ ap (λ ps. decimal e.clock ∷ ps) (words_then (decimal e.place) (decimal e.seat) (act_text e.act) (word_n16 e.place h.place) (word_n32 e.seat h.seat)))
    ∙ (λ i. option_map entry_of (four (back_n64 e.clock h.clock i) (back_n16 e.place h.place i) (back_n32 e.seat h.seat i) ((act_says e.act h.act).back i)))

-- there is no LF in it
pub entry_line : (e : Entry) → IsEntry e → lacks 10 (line e) ≡ true
entry_line e h =
    lacks_join 10 (decimal e.clock) _ (lacks_word 10 (decimal e.clock) (omega arith) (word_n64 e.clock h.clock))
    (one_line_then (decimal e.place) (decimal e.seat) (act_text e.act) (word_n16 e.place h.place) (word_n32 e.seat h.seat) (act_says e.act h.act).line)

some_same : (d e : Entry) → Some d ≡ Some e → d ≡ e
some_same d e h = ap (λ o. unwrap_or o d) h

pub lines_tell_entries : LinesTellEntries
lines_tell_entries d e hd he same =
    some_same d e (sym (entry_back d hd) ∙ ap (λ t. entry_in (parts 32 t)) (append_cancel_right (line d) (line e) (10 ∷ []) same) ∙ entry_back e he)

pub lines_are_read_back : LinesAreReadBack
lines_are_read_back e text h same = ap (λ t. entry_in (parts 32 t)) (sym (append_cancel_right (line e) text (10 ∷ []) same)) ∙ entry_back e h
