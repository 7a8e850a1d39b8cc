-- The lines of facts say what the facts are: each is read back by the entry that has the same words.
-- x is an id, q a port, a and b are acts or answers, c is a byte, t a text, f and g are facts.
use Rattle.std.proofs.Common.{ℕ, ◌≡◌, ◌<◌, ◌^◌, ◌==◌, Bool, true, false, ◌&&◌, not, if◌then◌else◌, List, [], ◌∷◌, ◌++◌, map, drop, codes, decimal, Option, Some, None, option_map, IfSome, refl, sym, ◌∙◌, ap, ap₂, subst, append_assoc, append-nil, arith}
use Rattle.std.specs.Char.{is_ascii_digit}
use Rattle.std.specs.Str.{bytes_eq}
use Rattle.std.proofs.lemmas.Bool.{and_parts, eq-eqb, eqb-true, false≢true, not-true}
use Rattle.std.proofs.lemmas.List.{append_cancel_left}
use Rattle.std.proofs.lemmas.List.Elements.{All-head, All-tail}
use Rattle.chorus_ui.specs.declared.kind.Kind.{Kind}
use Rattle.chorus_ui.specs.declared.kind.Kind.TheVariants as kinds
use Rattle.chorus_ui.specs.declared.ui.Ui.{Ui}
use Rattle.chorus_ui.specs.Decimals.{all_digits, parse_decimal}
use Rattle.chorus_ui.specs.Kind.{kind_letter}
use Rattle.chorus_ui.specs.Name.{IsName}
use Rattle.chorus_ui.specs.Text.{name_text, parse_name}
use Rattle.chorus_ui.proofs.Decimals.{all_digits-decimal, parse_decimal-decimal, parse_decimal_not_empty}
use Rattle.chorus_ui.proofs.Texts.{parse_name-name_text}
use Rattle.chorus_entry.specs.declared.act.Act.{Act}
use Rattle.chorus_entry.specs.declared.act.Act.TheVariants as acts
use Rattle.chorus_entry.specs.declared.answer.Answer.{Answer}
use Rattle.chorus_entry.specs.declared.answer.Answer.TheVariants as answers
use Rattle.chorus_entry.specs.declared.entry.Entry.{Entry}
use Rattle.chorus_entry.specs.declared.id.MsgId.{MsgId}
use Rattle.chorus_show.specs.Bounds.{AreIds, AreNames, IsAct, IsAnswer, IsId}
use Rattle.chorus_show.specs.Lines.{act_text, answer_text}
use Rattle.chorus_show.specs.Phrases.{id_text, phrase, spaced}
use Rattle.chorus_show.specs.Reading.{act_in, act_of, answer_in, below, decision_of, entry_in, entry_of, first, four, fourth, id_in, id_in_parts, id_of, lacks, news_of, parts, port_of, rest, second, third, three, two, u16_in, u32_in}
use Rattle.chorus_show.proofs.LineBack.{entry_back, entry_line, first_part, lacks_join, lines_tell_entries, one_part}
use Rattle.law_explore.specs.Outcome as facts
use Rattle.law_explore.specs.Outcome.{Answered, Calls, Copied, Fact, Held, Judged, Members, Moving, Next, Open, Settled, Stale, Stuck, plain_act, plain_answer}
use Rattle.explore_report.specs.Facts.{fact_line, outcome_lines, plain_act_text, plain_answer_text, verdict_text}
use Rattle.law_outcomes.specs.Facts.{IsPlain, IsSettling, IsTake, TextsTellOutcomes}

-- Texts in which a byte stands.

cut : (c : ℕ) (xs us ys vs : List ℕ) → lacks c xs ≡ true → lacks c us ≡ true → xs ++ c ∷ ys ≡ us ++ c ∷ vs → (xs ≡ us) × (ys ≡ vs)
cut c [] [] ys vs h k e = (refl, cc)
cut c [] (u ∷ us) ys vs h k e =
    absurd (let same : u ≡ c = cc in false≢true (sym (not-true (u == c) (and_parts (not (u == c)) (lacks c us) k).0) ∙ eq-eqb u c same))
cut c (x ∷ xs) [] ys vs h k e =
    absurd (let same : x ≡ c = cc in false≢true (sym (not-true (x == c) (and_parts (not (x == c)) (lacks c xs) h).0) ∙ eq-eqb x c same))
cut c (x ∷ xs) (u ∷ us) ys vs h k e =
    let head : x ≡ u = cc in
    let tail : xs ++ c ∷ ys ≡ us ++ c ∷ vs = cc in
    let rest = cut c xs us ys vs (and_parts (not (x == c)) (lacks c xs) h).1 (and_parts (not (u == c)) (lacks c us) k).1 tail in
    (ap₂ (λ z zs. z ∷ zs) head rest.0, rest.1)

lacks-behind : (c : ℕ) (s t : List ℕ) → lacks c (s ++ t) ≡ true → lacks c t ≡ true
lacks-behind c [] t h = h
lacks-behind c (x ∷ s) t h = lacks-behind c s t (and_parts (not (x == c)) (lacks c (s ++ t)) h).1

-- it stands there
stands : (c : ℕ) (us vs : List ℕ) → lacks c (us ++ c ∷ vs) ≡ true → ⊥
stands c us vs h =
    let k = lacks-behind c us (c ∷ vs) h in
    false≢true (sym (not-true (c == c) (and_parts (not (c == c)) (lacks c vs) k).0) ∙ eq-eqb c c refl)

-- a word, and words behind it
word-then : (xs us : List ℕ) (ts ws : List (List ℕ)) → lacks 32 xs ≡ true → lacks 32 us ≡ true → xs ++ spaced ts ≡ us ++ spaced ws → (xs ≡ us) × (spaced ts ≡ spaced ws)
word-then xs us [] [] h k e = (sym (append-nil xs) ∙ e ∙ append-nil us, refl)
word-then xs us [] (w ∷ ws) h k e = absurd (stands 32 us (w ++ spaced ws) (ap (lacks 32) (sym e ∙ append-nil xs) ∙ h))
word-then xs us (t ∷ ts) [] h k e = absurd (stands 32 xs (t ++ spaced ts) (ap (lacks 32) (e ∙ append-nil us) ∙ k))
word-then xs us (t ∷ ts) (w ∷ ws) h k e =
    let rest = cut 32 xs us (t ++ spaced ts) (w ++ spaced ws) h k e in (rest.0, ap (λ zs. 32 ∷ zs) rest.1)

-- texts that begin with two bytes are two
unlike : (a b : ℕ) (xs ys : List ℕ) → a < b → a ∷ xs ≡ b ∷ ys → ⊥
unlike a b xs ys lt e = (let same : a ≡ b = cc in omega (arith, lt, same))

-- Numbers, ids and names, which lack what stands between words and behind lines.

record IsBetween (c : ℕ) : Type 0 where
  pub digit : is_ascii_digit c ≡ false
  pub dot : not (46 == c) ≡ true
  pub colon : not (58 == c) ≡ true
  pub letter : (k : Kind) → not (kind_letter k == c) ≡ true

space : IsBetween 32
space = record { digit = refl; dot = refl; colon = refl; letter = by }
  where
    by : (k : Kind) → not (kind_letter k == 32) ≡ true
    by kinds.Actor = refl
    by kinds.Port = refl
    by kinds.Group = refl

line_end : IsBetween 10
line_end = record { digit = refl; dot = refl; colon = refl; letter = by }
  where
    by : (k : Kind) → not (kind_letter k == 10) ≡ true
    by kinds.Actor = refl
    by kinds.Port = refl
    by kinds.Group = refl

both : (a b : Bool) → a ≡ true → b ≡ true → (a && b) ≡ true
both true b h k = k
both false b h k = h

module _ (c : ℕ) (is : IsBetween c) where
  digits : (ds : List ℕ) → all_digits ds ≡ true → lacks c ds ≡ true
  digits [] h = refl
  digits (d ∷ ds) h =
      let two = and_parts (is_ascii_digit d) (all_digits ds) h in both (not (d == c)) (lacks c ds) (by (d == c) refl two.0) (digits ds two.1)
    where
      by : (b : Bool) → (d == c) ≡ b → is_ascii_digit d ≡ true → not b ≡ true
      by true e k = absurd (false≢true (sym is.digit ∙ ap is_ascii_digit (sym (eqb-true d c e)) ∙ k))
      by false e k = refl

  number-lacks : (n : ℕ) → n < 2 ^ 64 → lacks c (decimal n) ≡ true
  number-lacks n h = digits (decimal n) (all_digits-decimal n h)

  name-lacks : (q : Ui) → IsName q → lacks c (name_text q) ≡ true
  name-lacks q h =
      let site = h.site_in_16_bits in
      let number = h.number_in_40_bits in
      lacks_join c (decimal q.site) (46 ∷ kind_letter q.kind ∷ 46 ∷ decimal q.number) (number-lacks q.site (omega (arith, site)))
      (both (not (46 == c)) (lacks c (kind_letter q.kind ∷ 46 ∷ decimal q.number)) is.dot
      (both (not (kind_letter q.kind == c)) (lacks c (46 ∷ decimal q.number)) (is.letter q.kind)
      (both (not (46 == c)) (lacks c (decimal q.number)) is.dot (number-lacks q.number (omega (arith, number))))))

  id-lacks : (x : MsgId) → IsId x → lacks c (id_text x) ≡ true
  id-lacks x h =
      let seat = h.seat in
      let number = h.number in
      let copy = h.copy in
      lacks_join c (decimal x.seat ++ 58 ∷ decimal x.number) (58 ∷ decimal x.copy)
      (lacks_join c (decimal x.seat) (58 ∷ decimal x.number) (number-lacks x.seat (omega (arith, seat))) (both (not (58 == c)) (lacks c (decimal x.number)) is.colon (number-lacks x.number (omega (arith, number)))))
      (both (not (58 == c)) (lacks c (decimal x.copy)) is.colon (number-lacks x.copy (omega (arith, copy))))

some-same : {A : Type 0} (x y : A) → Some x ≡ Some y → x ≡ y
some-same x y e = cc

number-tells : (m n : ℕ) → m < 2 ^ 64 → n < 2 ^ 64 → decimal m ≡ decimal n → m ≡ n
number-tells m n h k e = some-same m n (sym (parse_decimal-decimal m h) ∙ ap parse_decimal e ∙ parse_decimal-decimal n k)

-- An act as an entry.

abbrev with_act : Act → Entry
with_act a = record { clock = 0; place = 0; seat = 0; act = a }

act-tells : (a b : Act) → IsAct a → IsAct b → act_text a ≡ act_text b → a ≡ b
act-tells a b h k e =
    ap (λ (x : Entry). x.act)
    (lines_tell_entries (with_act a) (with_act b) (record { clock = omega arith; place = omega arith; seat = omega arith; act = h }) (record { clock = omega arith; place = omega arith; seat = omega arith; act = k })
    (ap (λ t. phrase (decimal 0) (decimal 0 ∷ decimal 0 ∷ t ∷ []) ++ 10 ∷ []) e))

name-tells : (q r : Ui) → IsName q → IsName r → name_text q ≡ name_text r → q ≡ r
name-tells q r h k e =
    (let same : acts.Empty q ≡ acts.Empty r = act-tells (acts.Empty q) (acts.Empty r) h k (ap (λ t. phrase (codes "empty") (t ∷ [])) e) in cc)

id-tells : (x y : MsgId) → IsId x → IsId y → id_text x ≡ id_text y → x ≡ y
id-tells x y h k e =
    (let same : acts.Told x answers.NoPort ≡ acts.Told y answers.NoPort =
    act-tells (acts.Told x answers.NoPort) (acts.Told y answers.NoPort) (h, tt) (k, tt) (ap (λ t. phrase (codes "told") (t ∷ answer_text answers.NoPort ∷ [])) e) in cc)

abbrev id : MsgId
id = record { seat = 1; number = 1; copy = 0 }

id-is : IsId id
id-is = record { seat = omega arith; number = omega arith; copy = omega arith }

-- The words of an act say the act.

act-words : (a : Act) → parts 32 (phrase (decimal 0) (decimal 0 ∷ decimal 0 ∷ act_text a ∷ [])) ≡ decimal 0 ∷ decimal 0 ∷ decimal 0 ∷ parts 32 (act_text a)
act-words a =
    let zero_lacks : lacks 32 (decimal 0) ≡ true = number-lacks 32 space 0 (omega arith) in
    first_part 32 (decimal 0) (decimal 0 ++ 32 ∷ (decimal 0 ++ 32 ∷ (act_text a ++ []))) zero_lacks
    ∙ ap (λ ps. decimal 0 ∷ ps)
    (first_part 32 (decimal 0) (decimal 0 ++ 32 ∷ (act_text a ++ [])) zero_lacks
    ∙ ap (λ ps. decimal 0 ∷ ps) (first_part 32 (decimal 0) (act_text a ++ []) zero_lacks ∙ ap (λ t. decimal 0 ∷ parts 32 t) (append-nil (act_text a))))

act-of : (o : Option Act) (m n k : Option ℕ) (a : Act) → option_map entry_of (four m n k o) ≡ Some (with_act a) → o ≡ Some a
act-of (Some b) (Some m) (Some n) (Some k) a e =
    ap (λ (x : Act). Some x) (ap (λ (x : Entry). x.act) (some-same (record { clock = m; place = n; seat = k; act = b }) (with_act a) e))
act-of (Some b) (Some m) (Some n) None a e = absurd (cc)
act-of (Some b) (Some m) None k a e = absurd (cc)
act-of (Some b) None n k a e = absurd (cc)
act-of None (Some m) (Some n) (Some k) a e = absurd (cc)
act-of None (Some m) (Some n) None a e = absurd (cc)
act-of None (Some m) None k a e = absurd (cc)
act-of None None n k a e = absurd (cc)

act-back : (a : Act) → IsAct a → act_in (parts 32 (act_text a)) ≡ Some a
act-back a h =
    act-of (act_in (parts 32 (act_text a))) (parse_decimal (decimal 0)) (u16_in (decimal 0)) (u32_in (decimal 0)) a
    (sym (ap entry_in (act-words a)) ∙ entry_back (with_act a) (record { clock = omega arith; place = omega arith; seat = omega arith; act = h }))

act-line : (a : Act) → IsAct a → lacks 10 (act_text a) ≡ true
act-line a h =
    let whole = entry_line (with_act a) (record { clock = omega arith; place = omega arith; seat = omega arith; act = h }) in
    sym (ap (lacks 10) (append-nil (act_text a)))
    ∙ lacks-behind 10 (decimal 0 ++ 32 ∷ []) (act_text a ++ [])
    (ap (lacks 10) (append_assoc (decimal 0) (32 ∷ []) (act_text a ++ []))
    ∙ lacks-behind 10 (decimal 0 ++ 32 ∷ []) (decimal 0 ++ 32 ∷ (act_text a ++ []))
    (ap (lacks 10) (append_assoc (decimal 0) (32 ∷ []) (decimal 0 ++ 32 ∷ (act_text a ++ [])))
    ∙ lacks-behind 10 (decimal 0 ++ 32 ∷ []) (decimal 0 ++ 32 ∷ (decimal 0 ++ 32 ∷ (act_text a ++ [])))
    (ap (lacks 10) (append_assoc (decimal 0) (32 ∷ []) (decimal 0 ++ 32 ∷ (decimal 0 ++ 32 ∷ (act_text a ++ [])))) ∙ whole)))

-- So do those of an id, of a site, and of an answer.

told-words : (x : MsgId) (a : Answer) → IsId x → parts 32 (act_text (acts.Told x a)) ≡ codes "told" ∷ id_text x ∷ parts 32 (answer_text a)
told-words x a h =
    first_part 32 (codes "told") (id_text x ++ 32 ∷ (answer_text a ++ [])) refl
    ∙ ap (λ ps. codes "told" ∷ ps) (first_part 32 (id_text x) (answer_text a ++ []) (id-lacks 32 space x h) ∙ ap (λ t. id_text x ∷ parts 32 t) (append-nil (answer_text a)))

told-in : (ws : List (List ℕ)) (t : List ℕ) → act_in (codes "told" ∷ t ∷ ws) ≡ option_map (λ (p : MsgId × Answer). acts.Told p.0 p.1) (two (id_in t) (answer_in ws))
unfolding act_of decision_of news_of
told-in ws t = refl

told-of : (m : Option MsgId) (o : Option Answer) (x : MsgId) (a : Answer) → option_map (λ (p : MsgId × Answer). acts.Told p.0 p.1) (two m o) ≡ Some (acts.Told x a) → (m ≡ Some x) × (o ≡ Some a)
told-of (Some y) (Some b) x a e = (let same : acts.Told y b ≡ acts.Told x a = some-same (acts.Told y b) (acts.Told x a) e in (cc, cc))
told-of (Some y) None x a e = absurd (cc)
told-of None o x a e = absurd (cc)

told-back : (x : MsgId) (a : Answer) → IsId x → IsAnswer a → (id_in (id_text x) ≡ Some x) × (answer_in (parts 32 (answer_text a)) ≡ Some a)
told-back x a h k =
    told-of (id_in (id_text x)) (answer_in (parts 32 (answer_text a))) x a
    (sym (ap act_in (told-words x a h) ∙ told-in (parts 32 (answer_text a)) (id_text x)) ∙ act-back (acts.Told x a) (h, k))

site-in : (t : List ℕ) → act_in (codes "no-site" ∷ t ∷ []) ≡ option_map acts.NoSite (u16_in t)
unfolding act_of
site-in t = refl

site-of : (o : Option ℕ) (n : ℕ) → option_map acts.NoSite o ≡ Some (acts.NoSite n) → o ≡ Some n
site-of (Some m) n e = (let same : acts.NoSite m ≡ acts.NoSite n = some-same (acts.NoSite m) (acts.NoSite n) e in cc)
site-of None n e = absurd (cc)

site-back : (n : ℕ) → n < 2 ^ 16 → u16_in (decimal n) ≡ Some n
site-back n h =
    let words : parts 32 (act_text (acts.NoSite n)) ≡ codes "no-site" ∷ decimal n ∷ [] =
    first_part 32 (codes "no-site") (decimal n ++ []) refl
    ∙ ap (λ t. codes "no-site" ∷ parts 32 t) (append-nil (decimal n)) ∙ ap (λ ps. codes "no-site" ∷ ps) (one_part 32 (decimal n) (number-lacks 32 space n (omega (arith, h)))) in
    site-of (u16_in (decimal n)) n (sym (ap act_in words ∙ site-in (decimal n)) ∙ act-back (acts.NoSite n) h)

-- Verdicts without the numbers that only tell when.

parse-none : parse_decimal [] ≡ None
parse-none = by (parse_decimal []) refl
  where
    by : (o : Option ℕ) → parse_decimal [] ≡ o → parse_decimal [] ≡ None
    by None e = e
    by (Some n) e = absurd (let lt = parse_decimal_not_empty [] n e in omega (arith, lt))

abbrev or_else : {A : Type 0} → Option A → Option A → Option A
or_else (Some a) o = Some a
or_else None o = o

abbrev short_verdict : List (List ℕ) → Option (Option Answer)
short_verdict ws =
    if bytes_eq (first ws) (codes "chosen") then Some None
    else if bytes_eq (first ws) (codes "accepted") then Some (Some (answers.Accepted 0))
    else if bytes_eq (first ws) (codes "early") then Some (Some (answers.Early 0))
    else Some (Some (answers.Elsewhere 0 0))

abbrev verdict_in : List (List ℕ) → Option (Option Answer)
verdict_in ws = or_else (option_map (λ (a : Answer). Some a) (answer_in ws)) (short_verdict ws)

chosen-none : answer_in (codes "chosen" ∷ []) ≡ None
unfolding answer_in
chosen-none = ap (λ o. option_map answers.Chosen (below (2 ^ 16) o)) parse-none

accepted-none : answer_in (codes "accepted" ∷ []) ≡ None
unfolding answer_in
accepted-none = ap (option_map answers.Accepted) parse-none

early-none : answer_in (codes "early" ∷ []) ≡ None
unfolding answer_in
early-none = ap (option_map answers.Early) parse-none

elsewhere-none : answer_in (codes "elsewhere" ∷ []) ≡ None
unfolding answer_in
elsewhere-none = ap (λ o. option_map (λ (p : ℕ × ℕ). answers.Elsewhere p.0 p.1) (two (below (2 ^ 16) o) (parse_decimal []))) parse-none

abbrev full_verdict : Answer → Type 0
full_verdict (answers.Accepted n) = ⊥
full_verdict (answers.Early n) = ⊥
full_verdict (answers.Elsewhere to hop) = ⊥
full_verdict a = Unit {0}

full-text : (a : Answer) → full_verdict a → plain_answer_text a ≡ answer_text a
full-text (answers.Accepted n) h = absurd h
full-text (answers.Early n) h = absurd h
full-text (answers.Elsewhere to hop) h = absurd h
full-text a h = refl

full-back : (a : Answer) → IsAnswer a → full_verdict a → verdict_in (parts 32 (plain_answer_text a)) ≡ Some (Some a)
full-back a h f =
    ap (λ t. verdict_in (parts 32 t)) (full-text a f)
    ∙ ap (λ o. or_else (option_map (λ (b : Answer). Some b) o) (short_verdict (parts 32 (answer_text a)))) (told-back id a id-is h).1

verdict-back : (v : Option Answer) → IfSome v (λ a. IsAnswer a × (plain_answer a ≡ a)) → verdict_in (parts 32 (verdict_text v)) ≡ Some v
verdict-back None h =
    ap verdict_in (one_part 32 (codes "chosen") refl) ∙ ap (λ o. or_else (option_map (λ (b : Answer). Some b) o) (short_verdict (codes "chosen" ∷ []))) chosen-none
verdict-back (Some (answers.Accepted n)) h =
    ap verdict_in (one_part 32 (codes "accepted") refl) ∙ ap (λ o. or_else (option_map (λ (b : Answer). Some b) o) (short_verdict (codes "accepted" ∷ []))) accepted-none ∙ ap (λ (a : Answer). Some (Some a)) h.1
verdict-back (Some (answers.Early n)) h =
    ap verdict_in (one_part 32 (codes "early") refl) ∙ ap (λ o. or_else (option_map (λ (b : Answer). Some b) o) (short_verdict (codes "early" ∷ []))) early-none ∙ ap (λ (a : Answer). Some (Some a)) h.1
verdict-back (Some (answers.Elsewhere to hop)) h =
    ap verdict_in (one_part 32 (codes "elsewhere") refl) ∙ ap (λ o. or_else (option_map (λ (b : Answer). Some b) o) (short_verdict (codes "elsewhere" ∷ []))) elsewhere-none ∙ ap (λ (a : Answer). Some (Some a)) h.1
verdict-back (Some (answers.Full n)) h = full-back (answers.Full n) h.0 tt
verdict-back (Some (answers.Stale to hop)) h = full-back (answers.Stale to hop) h.0 tt
verdict-back (Some answers.NoPort) h = full-back answers.NoPort h.0 tt
verdict-back (Some answers.Already) h = full-back answers.Already h.0 tt
verdict-back (Some answers.ClientsFull) h = full-back answers.ClientsFull h.0 tt
verdict-back (Some answers.NoMember) h = full-back answers.NoMember h.0 tt
verdict-back (Some (answers.Chosen n)) h = full-back (answers.Chosen n) h.0 tt
verdict-back (Some answers.Gone) h = full-back answers.Gone h.0 tt

-- Acts without them.

abbrev short_act : List (List ℕ) → Option Act
short_act ws =
    if bytes_eq (first ws) (codes "take") then option_map (λ (p : Ui × MsgId). acts.Take p.0 0 p.1) (two (parse_name (second ws)) (id_in (third ws)))
    else option_map (λ (p : Ui × ℕ × Ui). acts.Depart p.0 p.1 p.2 0) (three (parse_name (second ws)) (u16_in (third ws)) (parse_name (fourth ws)))

abbrev plain_in : List (List ℕ) → Option Act
plain_in ws = or_else (act_in ws) (short_act ws)

abbrev full_act : Act → Type 0
full_act (acts.Take q n x) = ⊥
full_act (acts.Depart q to a hop) = ⊥
full_act a = Unit {0}

full-act-text : (a : Act) → full_act a → plain_act_text a ≡ act_text a
full-act-text (acts.Take q n x) h = absurd h
full-act-text (acts.Depart q to a hop) h = absurd h
full-act-text a h = refl

full-act-back : (a : Act) → full_act a → IsAct a → plain_in (parts 32 (plain_act_text a)) ≡ Some a
full-act-back a f h = ap (λ t. plain_in (parts 32 t)) (full-act-text a f) ∙ ap (λ o. or_else o (short_act (parts 32 (act_text a)))) (act-back a h)

id-none : id_in [] ≡ None
id-none = ap (λ o. option_map id_of (three (below (2 ^ 32) o) (below (2 ^ 32) (parse_decimal [])) (below (2 ^ 16) (parse_decimal [])))) parse-none

none-three : (a : Option Ui) (b : Option ℕ) → (let n : Option (Ui × ℕ × MsgId) = three a b None in n) ≡ None
none-three None b = refl
none-three (Some a) None = refl
none-three (Some a) (Some b) = refl

none-four : (a : Option Ui) (b : Option ℕ) (c : Option Ui) → (let n : Option (Ui × ℕ × Ui × ℕ) = four a b c None in n) ≡ None
none-four None b c = refl
none-four (Some a) None c = refl
none-four (Some a) (Some b) None = refl
none-four (Some a) (Some b) (Some c) = refl

take-none : (t u : List ℕ) → act_in (codes "take" ∷ t ∷ u ∷ []) ≡ None
unfolding act_of decision_of news_of port_of
take-none t u =
    ap (λ o. option_map (λ (p : Ui × ℕ × MsgId). acts.Take p.0 p.1 p.2) (three (parse_name t) (parse_decimal u) o)) id-none
    ∙ ap (option_map (λ (p : Ui × ℕ × MsgId). acts.Take p.0 p.1 p.2)) (none-three (parse_name t) (parse_decimal u))

depart-none : (t u w : List ℕ) → act_in (codes "depart" ∷ t ∷ u ∷ w ∷ []) ≡ None
unfolding act_of decision_of news_of port_of
depart-none t u w =
    ap (λ o. option_map (λ (p : Ui × ℕ × Ui × ℕ). acts.Depart p.0 p.1 p.2 p.3) (four (parse_name t) (u16_in u) (parse_name w) o)) parse-none
    ∙ ap (option_map (λ (p : Ui × ℕ × Ui × ℕ). acts.Depart p.0 p.1 p.2 p.3)) (none-four (parse_name t) (u16_in u) (parse_name w))

take-back : (q : Ui) (n : ℕ) (x : MsgId) → IsName q → IsId x → plain_in (parts 32 (plain_act_text (acts.Take q n x))) ≡ Some (acts.Take q 0 x)
take-back q n x h k =
    let t = name_text q in
    let u = id_text x in
    ap plain_in
    (first_part 32 (codes "take") (t ++ 32 ∷ (u ++ [])) refl
    ∙ ap (λ ps. codes "take" ∷ ps)
    (first_part 32 t (u ++ []) (name-lacks 32 space q h) ∙ ap (λ ps. t ∷ ps) (ap (parts 32) (append-nil u) ∙ one_part 32 u (id-lacks 32 space x k))))
    ∙ ap (λ o. or_else o (short_act (codes "take" ∷ t ∷ u ∷ []))) (take-none t u)
    ∙ ap₂ (λ a b. option_map (λ (p : Ui × MsgId). acts.Take p.0 0 p.1) (two a b)) (parse_name-name_text q h) (told-back x answers.NoPort k tt).0

depart-back : (q : Ui) (to : ℕ) (a : Ui) (hop : ℕ) → IsName q → to < 2 ^ 16 → IsName a → plain_in (parts 32 (plain_act_text (acts.Depart q to a hop))) ≡ Some (acts.Depart q to a 0)
depart-back q to a hop h m k =
    let t = name_text q in
    let u = decimal to in
    let w = name_text a in
    ap plain_in
    (first_part 32 (codes "depart") (t ++ 32 ∷ (u ++ 32 ∷ (w ++ []))) refl
    ∙ ap (λ ps. codes "depart" ∷ ps)
    (first_part 32 t (u ++ 32 ∷ (w ++ [])) (name-lacks 32 space q h)
    ∙ ap (λ ps. t ∷ ps)
    (first_part 32 u (w ++ []) (number-lacks 32 space to (omega (arith, m))) ∙ ap (λ ps. u ∷ ps) (ap (parts 32) (append-nil w) ∙ one_part 32 w (name-lacks 32 space a k)))))
    ∙ ap (λ o. or_else o (short_act (codes "depart" ∷ t ∷ u ∷ w ∷ []))) (depart-none t u w)
    ∙ (λ i. option_map (λ (p : Ui × ℕ × Ui). acts.Depart p.0 p.1 p.2 0) (three (parse_name-name_text q h i) (site-back to m i) (parse_name-name_text a k i)))

plain-back : (a : Act) → IsAct a → plain_act a ≡ a → plain_in (parts 32 (plain_act_text a)) ≡ Some a
plain-back (acts.Take q n x) h p = take-back q n x h.0 h.2 ∙ ap (λ (a : Act). Some a) p
plain-back (acts.Depart q to a hop) h p = depart-back q to a hop h.0 h.1 h.2 ∙ ap (λ (b : Act). Some b) p
plain-back a h p = full-act-back a tt h

plain-line : (a : Act) → IsAct a → lacks 10 (plain_act_text a) ≡ true
plain-line (acts.Take q n x) h =
    lacks_join 10 (codes "take ") (name_text q ++ 32 ∷ (id_text x ++ [])) refl
    (lacks_join 10 (name_text q) (32 ∷ (id_text x ++ [])) (name-lacks 10 line_end q h.0) (ap (lacks 10) (append-nil (id_text x)) ∙ id-lacks 10 line_end x h.2))
plain-line (acts.Depart q to a hop) h =
    let m = h.1 in
    lacks_join 10 (codes "depart ") (name_text q ++ 32 ∷ (decimal to ++ 32 ∷ (name_text a ++ []))) refl
    (lacks_join 10 (name_text q) (32 ∷ (decimal to ++ 32 ∷ (name_text a ++ []))) (name-lacks 10 line_end q h.0)
    (lacks_join 10 (decimal to) (32 ∷ (name_text a ++ [])) (number-lacks 10 line_end to (omega (arith, m))) (ap (lacks 10) (append-nil (name_text a)) ∙ name-lacks 10 line_end a h.2)))
plain-line a h = act-line a h

answer-line : (a : Answer) → IsAnswer a → lacks 10 (answer_text a) ≡ true
answer-line a h =
    sym (ap (lacks 10) (append-nil (answer_text a)))
    ∙ lacks-behind 10 (codes "told " ++ (id_text id ++ 32 ∷ [])) (answer_text a ++ [])
    (ap (lacks 10) (append_assoc (codes "told ") (id_text id ++ 32 ∷ []) (answer_text a ++ []) ∙ ap (λ t. codes "told " ++ t) (append_assoc (id_text id) (32 ∷ []) (answer_text a ++ [])))
    ∙ act-line (acts.Told id a) (id-is, h))

verdict-line : (v : Option Answer) → IfSome v (λ a. IsAnswer a × (plain_answer a ≡ a)) → lacks 10 (verdict_text v) ≡ true
verdict-line None h = refl
verdict-line (Some (answers.Accepted n)) h = refl
verdict-line (Some (answers.Early n)) h = refl
verdict-line (Some (answers.Elsewhere to hop)) h = refl
verdict-line (Some (answers.Full n)) h = answer-line (answers.Full n) h.0
verdict-line (Some (answers.Stale to hop)) h = answer-line (answers.Stale to hop) h.0
verdict-line (Some answers.NoPort) h = answer-line answers.NoPort h.0
verdict-line (Some answers.Already) h = answer-line answers.Already h.0
verdict-line (Some answers.ClientsFull) h = answer-line answers.ClientsFull h.0
verdict-line (Some answers.NoMember) h = answer-line answers.NoMember h.0
verdict-line (Some (answers.Chosen n)) h = answer-line (answers.Chosen n) h.0
verdict-line (Some answers.Gone) h = answer-line answers.Gone h.0

-- Facts.

abbrev fact_text : Fact → List ℕ
fact_text (Answered k i act) = phrase (codes "answer") (decimal k ∷ decimal i ∷ plain_act_text act ∷ [])
fact_text (Judged x verdict) = phrase (codes "verdict") (id_text x ∷ verdict_text verdict ∷ [])
fact_text (Stale x) = phrase (codes "stale") (id_text x ∷ [])
fact_text (Held q actor waiting) = phrase (codes "port") (name_text q ∷ name_text actor ∷ map id_text waiting)
fact_text (Stuck k i) = phrase (codes "stuck") (decimal k ∷ decimal i ∷ [])
fact_text (Settled k i act settles) = phrase (codes "answer") (decimal k ∷ decimal i ∷ plain_act_text act ∷ act_text settles ∷ [])
fact_text (Open x) = phrase (codes "open") (id_text x ∷ [])
fact_text (Copied x q) = phrase (codes "copy") (id_text x ∷ name_text q ∷ [])
fact_text (facts.Accepted q ids) = phrase (codes "accepted") (name_text q ∷ map id_text ids)
fact_text (Moving q actor) = phrase (codes "moving") (name_text q ∷ name_text actor ∷ [])
fact_text (Members g qs) = phrase (codes "members") (name_text g ∷ map name_text qs)
fact_text (Calls k n) = phrase (codes "outstanding") (decimal k ∷ decimal n ∷ [])
fact_text (facts.Holds k client n) = phrase (codes "hand") (decimal k ∷ decimal client ∷ decimal n ∷ [])
fact_text (Next k i) = phrase (codes "next") (decimal k ∷ decimal i ∷ [])

line-is : (f : Fact) → fact_line f ≡ fact_text f ++ 10 ∷ []
line-is (Answered k i act) = refl
line-is (Judged x verdict) = refl
line-is (Stale x) = refl
line-is (Held q actor waiting) = refl
line-is (Stuck k i) = refl
line-is (Settled k i act settles) = refl
line-is (Open x) = refl
line-is (Copied x q) = refl
line-is (facts.Accepted q ids) = refl
line-is (Moving q actor) = refl
line-is (Members g qs) = refl
line-is (Calls k n) = refl
line-is (facts.Holds k client n) = refl
line-is (Next k i) = refl

-- Words that a byte does not stand in.

abbrev Lack : ℕ → List (List ℕ) → Type 0
Lack c [] = Unit {0}
Lack c (t ∷ ts) = (lacks c t ≡ true) × Lack c ts

phrase-lacks : (w : List ℕ) (ts : List (List ℕ)) → lacks 10 w ≡ true → Lack 10 ts → lacks 10 (phrase w ts) ≡ true
phrase-lacks w [] h l = ap (lacks 10) (append-nil w) ∙ h
phrase-lacks w (t ∷ ts) h l = lacks_join 10 w (32 ∷ (t ++ spaced ts)) h (phrase-lacks t ts l.0 l.1)

words : (w : List ℕ) (ts : List (List ℕ)) → lacks 32 w ≡ true → Lack 32 ts → parts 32 (phrase w ts) ≡ w ∷ ts
words w [] h l = ap (parts 32) (append-nil w) ∙ one_part 32 w h
words w (t ∷ ts) h l = first_part 32 w (t ++ spaced ts) h ∙ ap (λ ps. w ∷ ps) (words t ts l.0 l.1)

ids-lack : (c : ℕ) → IsBetween c → (xs : List MsgId) → AreIds xs → Lack c (map id_text xs)
ids-lack c is [] h = tt
ids-lack c is (x ∷ xs) h = (id-lacks c is x h.0, ids-lack c is xs h.1)

names-lack : (c : ℕ) → IsBetween c → (qs : List Ui) → AreNames qs → Lack c (map name_text qs)
names-lack c is [] h = tt
names-lack c is (q ∷ qs) h = (name-lacks c is q h.0, names-lack c is qs h.1)

small : (c : ℕ) → IsBetween c → (n : ℕ) → n < 2 ^ 32 → lacks c (decimal n) ≡ true
small c is n h = number-lacks c is n (omega (arith, h))

settles-line : (a : Act) → IsSettling a → lacks 10 (act_text a) ≡ true
settles-line (acts.Done n) h = act-line (acts.Done n) h
settles-line (acts.Late n) h = act-line (acts.Late n) h
settles-line a h = absurd h

take-line : (a : Act) → IsTake a → lacks 10 (plain_act_text a) ≡ true
take-line (acts.Take q position x) h = phrase-lacks (codes "take") (name_text q ∷ id_text x ∷ []) refl (name-lacks 10 line_end q h.0, (id-lacks 10 line_end x h.1, tt))
take-line a h = absurd h

one-line : (f : Fact) → IsPlain f → lacks 10 (fact_text f) ≡ true
one-line (Answered k i act) h = phrase-lacks (codes "answer") (decimal k ∷ decimal i ∷ plain_act_text act ∷ []) refl (small 10 line_end k h.0, (small 10 line_end i h.1, (plain-line act h.2, tt)))
one-line (Judged x verdict) h = phrase-lacks (codes "verdict") (id_text x ∷ verdict_text verdict ∷ []) refl (id-lacks 10 line_end x h.0, (verdict-line verdict h.1, tt))
one-line (Stale x) h = phrase-lacks (codes "stale") (id_text x ∷ []) refl (id-lacks 10 line_end x h, tt)
one-line (Held q actor waiting) h = phrase-lacks (codes "port") (name_text q ∷ name_text actor ∷ map id_text waiting) refl (name-lacks 10 line_end q h.0, (name-lacks 10 line_end actor h.1, ids-lack 10 line_end waiting h.2))
one-line (Stuck k i) h = phrase-lacks (codes "stuck") (decimal k ∷ decimal i ∷ []) refl (small 10 line_end k h.0, (small 10 line_end i h.1, tt))
one-line (Settled k i act settles) h =
    phrase-lacks (codes "answer") (decimal k ∷ decimal i ∷ plain_act_text act ∷ act_text settles ∷ []) refl
    (small 10 line_end k h.0, (small 10 line_end i h.1, (take-line act h.2, (settles-line settles h.3, tt))))
one-line (Open x) h = phrase-lacks (codes "open") (id_text x ∷ []) refl (id-lacks 10 line_end x h, tt)
one-line (Copied x q) h = phrase-lacks (codes "copy") (id_text x ∷ name_text q ∷ []) refl (id-lacks 10 line_end x h.0, (name-lacks 10 line_end q h.1, tt))
one-line (facts.Accepted q ids) h = phrase-lacks (codes "accepted") (name_text q ∷ map id_text ids) refl (name-lacks 10 line_end q h.0, ids-lack 10 line_end ids h.1)
one-line (Moving q actor) h = phrase-lacks (codes "moving") (name_text q ∷ name_text actor ∷ []) refl (name-lacks 10 line_end q h.0, (name-lacks 10 line_end actor h.1, tt))
one-line (Members g qs) h = phrase-lacks (codes "members") (name_text g ∷ map name_text qs) refl (name-lacks 10 line_end g h.0, names-lack 10 line_end qs h.1)
one-line (Calls k n) h = phrase-lacks (codes "outstanding") (decimal k ∷ decimal n ∷ []) refl (small 10 line_end k h.0, (small 10 line_end n h.1, tt))
one-line (facts.Holds k client n) h = phrase-lacks (codes "hand") (decimal k ∷ decimal client ∷ decimal n ∷ []) refl (small 10 line_end k h.0, (small 10 line_end client h.1, (small 10 line_end n h.2, tt)))
one-line (Next k i) h = phrase-lacks (codes "next") (decimal k ∷ decimal i ∷ []) refl (small 10 line_end k h.0, (small 10 line_end i h.1, tt))

-- Facts but answers are read back from their words.

abbrev with_first : {X : Type 0} → Option X → Option (List X) → Option (List X)
with_first (Some x) (Some xs) = Some (x ∷ xs)
with_first o p = None

abbrev all_in : {X : Type 0} → (List ℕ → Option X) → List (List ℕ) → Option (List X)
all_in read [] = Some []
all_in read (t ∷ ts) = with_first (read t) (all_in read ts)

abbrev fact_of : List ℕ → List (List ℕ) → Option Fact
fact_of w ws =
    if bytes_eq w (codes "verdict") then option_map (λ (p : MsgId × Option Answer). Judged p.0 p.1) (two (id_in (first ws)) (verdict_in (rest ws)))
    else if bytes_eq w (codes "stale") then option_map Stale (id_in (first ws))
    else if bytes_eq w (codes "port") then option_map (λ (p : Ui × Ui × List MsgId). Held p.0 p.1 p.2) (three (parse_name (first ws)) (parse_name (second ws)) (all_in id_in (rest (rest ws))))
    else if bytes_eq w (codes "stuck") then option_map (λ (p : ℕ × ℕ). Stuck p.0 p.1) (two (parse_decimal (first ws)) (parse_decimal (second ws)))
    else if bytes_eq w (codes "open") then option_map Open (id_in (first ws))
    else if bytes_eq w (codes "copy") then option_map (λ (p : MsgId × Ui). Copied p.0 p.1) (two (id_in (first ws)) (parse_name (second ws)))
    else if bytes_eq w (codes "accepted") then option_map (λ (p : Ui × List MsgId). facts.Accepted p.0 p.1) (two (parse_name (first ws)) (all_in id_in (rest ws)))
    else if bytes_eq w (codes "moving") then option_map (λ (p : Ui × Ui). Moving p.0 p.1) (two (parse_name (first ws)) (parse_name (second ws)))
    else if bytes_eq w (codes "members") then option_map (λ (p : Ui × List Ui). Members p.0 p.1) (two (parse_name (first ws)) (all_in parse_name (rest ws)))
    else if bytes_eq w (codes "outstanding") then option_map (λ (p : ℕ × ℕ). Calls p.0 p.1) (two (parse_decimal (first ws)) (parse_decimal (second ws)))
    else if bytes_eq w (codes "hand") then option_map (λ (p : ℕ × ℕ × ℕ). facts.Holds p.0 p.1 p.2) (three (parse_decimal (first ws)) (parse_decimal (second ws)) (parse_decimal (third ws)))
    else if bytes_eq w (codes "next") then option_map (λ (p : ℕ × ℕ). Next p.0 p.1) (two (parse_decimal (first ws)) (parse_decimal (second ws)))
    else None

abbrev fact_in : List ℕ → Option Fact
fact_in t = fact_of (first (parts 32 t)) (rest (parts 32 t))

abbrev is_answer : Fact → Bool
is_answer (Answered k i act) = true
is_answer (Settled k i act settles) = true
is_answer fact = false

id-back : (x : MsgId) → IsId x → id_in (id_text x) ≡ Some x
id-back x h = (told-back x answers.NoPort h tt).0

ids-back : (xs : List MsgId) → AreIds xs → all_in id_in (map id_text xs) ≡ Some xs
ids-back [] h = refl
ids-back (x ∷ xs) h = ap₂ with_first (id-back x h.0) (ids-back xs h.1)

names-back : (qs : List Ui) → AreNames qs → all_in parse_name (map name_text qs) ≡ Some qs
names-back [] h = refl
names-back (q ∷ qs) h = ap₂ with_first (parse_name-name_text q h.0) (names-back qs h.1)

number-back : (n : ℕ) → n < 2 ^ 32 → parse_decimal (decimal n) ≡ Some n
number-back n h = parse_decimal-decimal n (omega (arith, h))

by-words : (w : List ℕ) (ts : List (List ℕ)) → lacks 32 w ≡ true → Lack 32 ts → fact_in (phrase w ts) ≡ fact_of w ts
by-words w ts h l = ap (λ ps. fact_of (first ps) (rest ps)) (words w ts h l)

fact-back : (f : Fact) → is_answer f ≡ false → IsPlain f → fact_in (fact_text f) ≡ Some f
fact-back (Answered k i act) n h = absurd (false≢true (sym n))
fact-back (Settled k i act settles) n h = absurd (false≢true (sym n))
fact-back (Judged x v) n h =
    ap (λ ps. fact_of (first ps) (rest ps)) (first_part 32 (codes "verdict") (id_text x ++ 32 ∷ (verdict_text v ++ [])) refl ∙ ap (λ ps. codes "verdict" ∷ ps) (first_part 32 (id_text x) (verdict_text v ++ []) (id-lacks 32 space x h.0) ∙ ap (λ t. id_text x ∷ parts 32 t) (append-nil (verdict_text v))))
    ∙ ap₂ (λ a b. option_map (λ (p : MsgId × Option Answer). Judged p.0 p.1) (two a b)) (id-back x h.0) (verdict-back v h.1)
fact-back (Stale x) n h = by-words (codes "stale") (id_text x ∷ []) refl (id-lacks 32 space x h, tt) ∙ ap (option_map Stale) (id-back x h)
fact-back (Held q a xs) n h =
    by-words (codes "port") (name_text q ∷ name_text a ∷ map id_text xs) refl (name-lacks 32 space q h.0, (name-lacks 32 space a h.1, ids-lack 32 space xs h.2))
    ∙ (λ i. option_map (λ (p : Ui × Ui × List MsgId). Held p.0 p.1 p.2) (three (parse_name-name_text q h.0 i) (parse_name-name_text a h.1 i) (ids-back xs h.2 i)))
fact-back (Stuck k i) n h =
    by-words (codes "stuck") (decimal k ∷ decimal i ∷ []) refl (small 32 space k h.0, (small 32 space i h.1, tt))
    ∙ ap₂ (λ a b. option_map (λ (p : ℕ × ℕ). Stuck p.0 p.1) (two a b)) (number-back k h.0) (number-back i h.1)
fact-back (Open x) n h = by-words (codes "open") (id_text x ∷ []) refl (id-lacks 32 space x h, tt) ∙ ap (option_map Open) (id-back x h)
fact-back (Copied x q) n h =
    by-words (codes "copy") (id_text x ∷ name_text q ∷ []) refl (id-lacks 32 space x h.0, (name-lacks 32 space q h.1, tt))
    ∙ ap₂ (λ a b. option_map (λ (p : MsgId × Ui). Copied p.0 p.1) (two a b)) (id-back x h.0) (parse_name-name_text q h.1)
fact-back (facts.Accepted q xs) n h =
    by-words (codes "accepted") (name_text q ∷ map id_text xs) refl (name-lacks 32 space q h.0, ids-lack 32 space xs h.1)
    ∙ ap₂ (λ a b. option_map (λ (p : Ui × List MsgId). facts.Accepted p.0 p.1) (two a b)) (parse_name-name_text q h.0) (ids-back xs h.1)
fact-back (Moving q a) n h =
    by-words (codes "moving") (name_text q ∷ name_text a ∷ []) refl (name-lacks 32 space q h.0, (name-lacks 32 space a h.1, tt))
    ∙ ap₂ (λ u v. option_map (λ (p : Ui × Ui). Moving p.0 p.1) (two u v)) (parse_name-name_text q h.0) (parse_name-name_text a h.1)
fact-back (Members g qs) n h =
    by-words (codes "members") (name_text g ∷ map name_text qs) refl (name-lacks 32 space g h.0, names-lack 32 space qs h.1)
    ∙ ap₂ (λ a b. option_map (λ (p : Ui × List Ui). Members p.0 p.1) (two a b)) (parse_name-name_text g h.0) (names-back qs h.1)
fact-back (Calls k m) n h =
    by-words (codes "outstanding") (decimal k ∷ decimal m ∷ []) refl (small 32 space k h.0, (small 32 space m h.1, tt))
    ∙ ap₂ (λ a b. option_map (λ (p : ℕ × ℕ). Calls p.0 p.1) (two a b)) (number-back k h.0) (number-back m h.1)
fact-back (facts.Holds k client m) n h =
    by-words (codes "hand") (decimal k ∷ decimal client ∷ decimal m ∷ []) refl (small 32 space k h.0, (small 32 space client h.1, (small 32 space m h.2, tt)))
    ∙ (λ i. option_map (λ (p : ℕ × ℕ × ℕ). facts.Holds p.0 p.1 p.2) (three (number-back k h.0 i) (number-back client h.1 i) (number-back m h.2 i)))
fact-back (Next k i) n h =
    by-words (codes "next") (decimal k ∷ decimal i ∷ []) refl (small 32 space k h.0, (small 32 space i h.1, tt))
    ∙ ap₂ (λ a b. option_map (λ (p : ℕ × ℕ). Next p.0 p.1) (two a b)) (number-back k h.0) (number-back i h.1)

-- Answers: the rest of the line is the act, or a Take and what it settled.

abbrev answered : ℕ → ℕ → Act → Option Act → Fact
answered k i a None = Answered k i a
answered k i a (Some s) = Settled k i a s

abbrev behind : Act → Option Act → List ℕ
behind a None = plain_act_text a ++ []
behind a (Some s) = plain_act_text a ++ 32 ∷ (act_text s ++ [])

abbrev Is : Act → Option Act → Type 0
Is a None = IsAct a × (plain_act a ≡ a)
Is a (Some s) = IsTake a × IsSettling s

record View (f : Fact) : Type 0 where
  pub script : ℕ
  pub number : ℕ
  pub act : Act
  pub settles : Option Act
  pub is : f ≡ answered script number act settles
  pub text : fact_text f ≡ codes "answer" ++ 32 ∷ (decimal script ++ 32 ∷ (decimal number ++ 32 ∷ behind act settles))
  pub script_is : script < 2 ^ 32
  pub number_is : number < 2 ^ 32
  pub acts_are : Is act settles

view : (f : Fact) → is_answer f ≡ true → IsPlain f → View f
view (Answered k i a) n h = record { script = k; number = i; act = a; settles = None; is = refl; text = refl; script_is = h.0; number_is = h.1; acts_are = (h.2, h.3) }
view (Settled k i a s) n h = record { script = k; number = i; act = a; settles = Some s; is = refl; text = refl; script_is = h.0; number_is = h.1; acts_are = (h.2, h.3) }
view (Judged x v) n h = absurd (false≢true n)
view (Stale x) n h = absurd (false≢true n)
view (Held q a xs) n h = absurd (false≢true n)
view (Stuck k i) n h = absurd (false≢true n)
view (Open x) n h = absurd (false≢true n)
view (Copied x q) n h = absurd (false≢true n)
view (facts.Accepted q xs) n h = absurd (false≢true n)
view (Moving q a) n h = absurd (false≢true n)
view (Members g qs) n h = absurd (false≢true n)
view (Calls k m) n h = absurd (false≢true n)
view (facts.Holds k client m) n h = absurd (false≢true n)
view (Next k i) n h = absurd (false≢true n)

answers-none : (f : Fact) → View f → fact_in (fact_text f) ≡ None
answers-none f v =
    ap fact_in v.text
    ∙ ap (λ ps. fact_of (first ps) (rest ps)) (first_part 32 (codes "answer") (decimal v.script ++ 32 ∷ (decimal v.number ++ 32 ∷ behind v.act v.settles)) refl)

end-same : (t u : List ℕ) → t ++ [] ≡ u ++ [] → t ≡ u
end-same t u e = sym (append-nil t) ∙ e ∙ append-nil u

no-more : (t r : List ℕ) → t ++ [] ≡ t ++ 32 ∷ r → ⊥
no-more [] r e = absurd (cc)
no-more (b ∷ t) r e = no-more t r (let tail : t ++ [] ≡ t ++ 32 ∷ r = cc in tail)

take-text : (q : Ui) (n : ℕ) (x : MsgId) (r : List ℕ) → plain_act_text (acts.Take q n x) ++ 32 ∷ r ≡ codes "take" ++ 32 ∷ (name_text q ++ 32 ∷ (id_text x ++ 32 ∷ r))
take-text q n x r =
    ap (λ z. codes "take" ++ 32 ∷ z)
    (append_assoc (name_text q) (32 ∷ (id_text x ++ [])) (32 ∷ r) ∙ ap (λ z. name_text q ++ 32 ∷ z) (append_assoc (id_text x) [] (32 ∷ r)))

settling-act : (s : Act) → IsSettling s → IsAct s
settling-act (acts.Done n) h = h
settling-act (acts.Late n) h = h
settling-act s h = absurd h

no-id : (w : List ℕ) → parts 58 w ≡ w ∷ [] → id_in w ≡ None
no-id w h =
    ap id_in_parts h
    ∙ ap (λ o. option_map id_of (three (u32_in w) (below (2 ^ 32) o) (below (2 ^ 16) (parse_decimal [])))) parse-none
    ∙ by (u32_in w)
  where
    by : (o : Option ℕ) → option_map id_of (three o None (below (2 ^ 16) (parse_decimal []))) ≡ None
    by None = refl
    by (Some n) = refl

-- the word behind the id of what was taken is none of an entry of a Take
taken-none : (t u w : List ℕ) (ws : List (List ℕ)) → id_in w ≡ None → act_in (codes "take" ∷ t ∷ u ∷ w ∷ ws) ≡ None
unfolding act_of decision_of news_of port_of
taken-none t u w ws h =
    ap (λ o. option_map (λ (p : Ui × ℕ × MsgId). acts.Take p.0 p.1 p.2) (three (parse_name t) (parse_decimal u) o)) h
    ∙ ap (option_map (λ (p : Ui × ℕ × MsgId). acts.Take p.0 p.1 p.2)) (none-three (parse_name t) (parse_decimal u))

-- so what was taken is read in front of it
taken-by : (q : Ui) (n : ℕ) (x : MsgId) (w : List ℕ) (m : ℕ) → IsName q → IsId x → m < 2 ^ 32 → lacks 32 w ≡ true → parts 58 w ≡ w ∷ []
    → plain_in (parts 32 (plain_act_text (acts.Take q n x) ++ 32 ∷ (phrase w (decimal m ∷ []) ++ []))) ≡ Some (acts.Take q 0 x)
taken-by q n x w m h k l lacks_it one =
    let t = name_text q in
    let u = id_text x in
    ap plain_in
    (ap (parts 32) (take-text q n x (phrase w (decimal m ∷ []) ++ []))
    ∙ first_part 32 (codes "take") (t ++ 32 ∷ (u ++ 32 ∷ (phrase w (decimal m ∷ []) ++ []))) refl
    ∙ ap (λ ps. codes "take" ∷ ps)
    (first_part 32 t (u ++ 32 ∷ (phrase w (decimal m ∷ []) ++ [])) (name-lacks 32 space q h)
    ∙ ap (λ ps. t ∷ ps)
    (first_part 32 u (phrase w (decimal m ∷ []) ++ []) (id-lacks 32 space x k)
    ∙ ap (λ ps. u ∷ ps) (ap (parts 32) (append-nil (phrase w (decimal m ∷ []))) ∙ words w (decimal m ∷ []) lacks_it (small 32 space m l, tt)))))
    ∙ ap (λ o. or_else o (short_act (codes "take" ∷ t ∷ u ∷ w ∷ decimal m ∷ []))) (taken-none t u w (decimal m ∷ []) (no-id w one))
    ∙ ap₂ (λ a b. option_map (λ (p : Ui × MsgId). acts.Take p.0 0 p.1) (two a b)) (parse_name-name_text q h) (id-back x k)

taken-back : (a : Act) (s : Act) → IsTake a → IsSettling s → plain_in (parts 32 (behind a (Some s))) ≡ Some a
taken-back (acts.Take q n x) s h l = by s l ∙ ap (λ (m : ℕ). Some (acts.Take q m x)) (sym h.2)
  where
    by : (s : Act) → IsSettling s → plain_in (parts 32 (behind (acts.Take q n x) (Some s))) ≡ Some (acts.Take q 0 x)
    by (acts.Done m) l = taken-by q n x (codes "done") m h.0 h.1 l refl refl
    by (acts.Late m) l = taken-by q n x (codes "late") m h.0 h.1 l refl refl
    by s l = absurd l
taken-back a s h l = absurd h

alone-back : (a : Act) → IsAct a → plain_act a ≡ a → plain_in (parts 32 (behind a None)) ≡ Some a
alone-back a h p = ap (λ t. plain_in (parts 32 t)) (append-nil (plain_act_text a)) ∙ plain-back a h p

act-read : (a : Act) (o : Option Act) → Is a o → plain_in (parts 32 (behind a o)) ≡ Some a
act-read a None h = alone-back a h.0 h.1
act-read a (Some s) h = taken-back a s h.0 h.1

-- and what is behind the same act is the same
rest-tells : (a : Act) (o p : Option Act) → Is a o → Is a p → behind a o ≡ behind a p → o ≡ p
rest-tells a None None h l e = refl
rest-tells a None (Some s) h l e = absurd (no-more (plain_act_text a) (act_text s ++ []) e)
rest-tells a (Some s) None h l e = absurd (no-more (plain_act_text a) (act_text s ++ []) (sym e))
rest-tells a (Some s) (Some t) h l e =
    let same : act_text s ++ [] ≡ act_text t ++ [] = behind-space (append_cancel_left (plain_act_text a) (32 ∷ (act_text s ++ [])) (32 ∷ (act_text t ++ [])) e) in
    ap (λ (b : Act). Some b) (act-tells s t (settling-act s h.1) (settling-act t l.1) (end-same (act_text s) (act_text t) same))
  where
    behind-space : {us vs : List ℕ} → 32 ∷ us ≡ 32 ∷ vs → us ≡ vs
    behind-space f = cc

both-tell : (a b : Act) (o p : Option Act) → Is a o → Is b p → behind a o ≡ behind b p → (a ≡ b) × (o ≡ p)
both-tell a b o p h l e =
    let same : a ≡ b = some-same a b (sym (act-read a o h) ∙ ap (λ t. plain_in (parts 32 t)) e ∙ act-read b p l) in
    (same, rest-tells a o p h (subst (λ (x : Act). Is x p) (sym same) l) (e ∙ ap (λ (x : Act). behind x p) (sym same)))

answers-tell : (f g : Fact) → View f → View g → fact_text f ≡ fact_text g → f ≡ g
answers-tell f g v w e =
    let p = v.script_is in
    let r = v.number_is in
    let s = w.script_is in
    let t = w.number_is in
    let first = cut 32 (decimal v.script) (decimal w.script) (decimal v.number ++ 32 ∷ behind v.act v.settles) (decimal w.number ++ 32 ∷ behind w.act w.settles) (small 32 space v.script p) (small 32 space w.script s)
    (ap (drop 7) (sym v.text ∙ e ∙ w.text)) in
    let next = cut 32 (decimal v.number) (decimal w.number) (behind v.act v.settles) (behind w.act w.settles) (small 32 space v.number r) (small 32 space w.number t) first.1 in
    let both = both-tell v.act w.act v.settles w.settles v.acts_are w.acts_are next.1 in
    v.is
    ∙ (λ z. answered (number-tells v.script w.script (omega (arith, p)) (omega (arith, s)) first.0 z) (number-tells v.number w.number (omega (arith, r)) (omega (arith, t)) next.0 z) (both.0 z) (both.1 z))
    ∙ sym w.is

text-tells : (f g : Fact) → IsPlain f → IsPlain g → fact_text f ≡ fact_text g → f ≡ g
text-tells f g h l e = by (is_answer f) refl (is_answer g) refl
  where
    no-fact : (x : Fact) → None ≡ Some x → ⊥
    no-fact x k = absurd (cc)

    by : (b : Bool) → is_answer f ≡ b → (d : Bool) → is_answer g ≡ d → f ≡ g
    by false p false q = some-same f g (sym (fact-back f p h) ∙ ap fact_in e ∙ fact-back g q l)
    by true p false q = absurd (no-fact g (sym (answers-none f (view f p h)) ∙ ap fact_in e ∙ fact-back g q l))
    by false p true q = absurd (no-fact f (sym (answers-none g (view g q l)) ∙ ap fact_in (sym e) ∙ fact-back f p h))
    by true p true q = answers-tell f g (view f p h) (view g q l) e

-- Lists of them.

no-line : (t more : List ℕ) → [] ≡ (t ++ 10 ∷ []) ++ more → ⊥
no-line [] more e = absurd (cc)
no-line (b ∷ t) more e = absurd (cc)

line-then : (f : Fact) (more : List ℕ) → fact_line f ++ more ≡ fact_text f ++ 10 ∷ more
line-then f more = ap (λ t. t ++ more) (line-is f) ∙ append_assoc (fact_text f) (10 ∷ []) more

pub texts-tell-outcomes : TextsTellOutcomes
texts-tell-outcomes [] [] h l e = refl
texts-tell-outcomes [] (g ∷ gs) h l e = absurd (no-line (fact_text g) (outcome_lines gs) (e ∙ ap (λ t. t ++ outcome_lines gs) (line-is g)))
texts-tell-outcomes (f ∷ fs) [] h l e = absurd (no-line (fact_text f) (outcome_lines fs) (sym e ∙ ap (λ t. t ++ outcome_lines fs) (line-is f)))
texts-tell-outcomes (f ∷ fs) (g ∷ gs) h l e =
    let one = All-head IsPlain f fs h in
    let other = All-head IsPlain g gs l in
    let split = cut 10 (fact_text f) (fact_text g) (outcome_lines fs) (outcome_lines gs) (one-line f one) (one-line g other) (sym (line-then f (outcome_lines fs)) ∙ e ∙ line-then g (outcome_lines gs)) in
    ap₂ (λ x xs. x ∷ xs) (text-tells f g one other split.0) (texts-tell-outcomes fs gs (All-tail IsPlain f fs h) (All-tail IsPlain g gs l) split.1)
