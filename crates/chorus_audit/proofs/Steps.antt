-- The steps of an audit.
use Rattle.std.proofs.Common.{◌≡◌, ◌≢◌, ℕ, ◌+◌, ◌^◌, ◌<◌, ◌≤◌, ◌==◌, Bool, true, false, not, if◌then◌else◌, Option, Some, None, unwrap_or, List, [], ◌∷◌, ◌++◌, length, reverse, codes, decimal, refl, sym, ap, ◌∙◌, subst, append_assoc, append-nil, arith, inl, inr, length-append}
use Rattle.std.specs.Prelude.{◌⊎◌}
use Rattle.std.proofs.lemmas.Bool.{and_parts, false≢true}
use Rattle.std.proofs.lemmas.List.{reverse-append, reverse-reverse, length-reverse}
use Rattle.chorus_ui.specs.declared.layout.Layout.{Layout}
use Rattle.chorus_ui.specs.Decimals.{parse_decimal}
use Rattle.chorus_ui.proofs.Decimals.{parse_decimal_is}
use Rattle.chorus_entry.specs.declared.entry.Entry.{Entry}
use Rattle.chorus_world.specs.Steps.{State, opening, may, is_legal, next}
use Rattle.chorus_checker.specs.declared.fault.WorldFault.{WorldFault}
use Rattle.chorus_checker.specs.declared.fault.WorldFault.TheVariants.{NotLegal, Memory}
use Rattle.chorus_checker.specs.Refusals.{IsRefusal}
use Rattle.chorus_checker.specs.Rules.{rule_of}
use Rattle.chorus_show.specs.Phrases.{phrase}
use Rattle.chorus_show.specs.Lines.{entry_text}
use Rattle.chorus_show.specs.Report.{summary_with}
use Rattle.chorus_show.specs.Reading.{lacks, below, u32_in}
use Rattle.chorus_show.proofs.LineBack.{line, entry_line, count_lacks, back_n32}
use Rattle.chorus_audit.specs.declared.judging.Audit.{Audit}
use Rattle.chorus_audit.specs.declared.judging.Audit.TheVariants.{Legal, Wrong}
use Rattle.chorus_show.specs.Bounds.{IsWithin, AreWithin}
use Rattle.chorus_audit.specs.Calls.{behind}
use Rattle.chorus_audit.specs.Tests.{head, Begins, IsNoEntry, IsUnlawful, IsSummary, IsNoSummary, AtHead, AtEntry, AtSummary, IsRead, IsVerdict}
use Rattle.chorus_audit.specs.Stops.{IsStop, TakesEntry}
use Rattle.chorus_audit.proofs.Cutting.{cut_once}
use Rattle.chorus_audit.proofs.Agreeing.{lines}

none_some : {A : Type 0} (a : A) → None ≡ Some a → ⊥
none_some a h = grind arith

-- a text that lacks LF begins with no line
has_mark : (s x : List ℕ) → lacks 10 ((s ++ 10 ∷ []) ++ x) ≡ true → ⊥
has_mark [] x h = false≢true h
has_mark (c ∷ s) x h = has_mark s x (and_parts (not (c == 10)) (lacks 10 ((s ++ 10 ∷ []) ++ x)) h).1

-- the first line: `journal N`
module _ (text row word : List ℕ) (rest number : Option (List ℕ)) (no_lf : lacks 10 row ≡ true) (whole : text ≡ row ++ behind 10 rest) (no_space : lacks 32 word ≡ true) (parted : row ≡ word ++ behind 32 number) (n : ℕ) (r : List ℕ) (small : n < 2 ^ 32) (is : text ≡ head n ++ r) where
  told : List ℕ
  told = phrase (codes "journal") (decimal n ∷ [])

  told_row : (o : Option (List ℕ)) → text ≡ row ++ behind 10 o → (row ≡ told) × (o ≡ Some r)
  unfolding told
  told_row None e = absurd (has_mark told r (ap (lacks 10) (sym is ∙ e ∙ append-nil row) ∙ no_lf))
  told_row (Some more) e =
      let cut = cut_once 10 row told more r no_lf (count_lacks (codes "journal") n refl (omega arith)) (sym e ∙ is ∙ append_assoc told (10 ∷ []) r) in
      (cut.0, ap Some cut.1)

  no_space_in : (s x : List ℕ) → lacks 32 (s ++ 32 ∷ x) ≡ true → ⊥
  no_space_in [] x h = false≢true h
  no_space_in (c ∷ s) x h = no_space_in s x (and_parts (not (c == 32)) (lacks 32 (s ++ 32 ∷ x)) h).1

  spelled : told ≡ codes "journal" ++ 32 ∷ decimal n
  unfolding told
  spelled = ap (λ t. codes "journal" ++ 32 ∷ t) (append-nil (decimal n))

  told_word : (o : Option (List ℕ)) → row ≡ word ++ behind 32 o → (word ≡ codes "journal") × (o ≡ Some (decimal n))
  told_word None e =
      absurd (no_space_in (codes "journal") (decimal n) (ap (lacks 32) (sym spelled ∙ sym (told_row rest whole).0 ∙ e ∙ append-nil word) ∙ no_space))
  told_word (Some digits) e =
      let cut = cut_once 32 word (codes "journal") digits (decimal n) no_space refl (sym e ∙ (told_row rest whole).0 ∙ spelled) in
      (cut.0, ap Some cut.1)

  pub word_is : word ≡ codes "journal"
  word_is = (told_word number parted).0

  pub number_is : number ≡ Some (decimal n)
  number_is = (told_word number parted).1

  pub rest_is : rest ≡ Some r
  rest_is = (told_row rest whole).1

  pub number_read : (digits : List ℕ) → number ≡ Some digits → u32_in digits ≡ Some n
  number_read digits e = ap u32_in (ap (λ o. unwrap_or o []) (sym e ∙ number_is)) ∙ back_n32 n small

-- the number is none that is told
pub no_count : (text row word digits : List ℕ) (rest number : Option (List ℕ)) → lacks 10 row ≡ true → text ≡ row ++ behind 10 rest → lacks 32 word ≡ true → row ≡ word ++ behind 32 number → number ≡ Some digits → u32_in digits ≡ None → (n : ℕ) (r : List ℕ) → n < 2 ^ 32 → text ≢ head n ++ r
no_count text row word digits rest number no_lf whole no_space parted is_digits none n r small is =
    none_some n (sym none ∙ number_read text row word rest number no_lf whole no_space parted n r small is digits is_digits)

below_if : (b : Bool) (m n : ℕ) → (if b then Some m else None) ≡ Some n → Some m ≡ Some n
below_if true m n h = h
below_if false m n h = absurd (none_some n h)

below_is : (bound : ℕ) (o : Option ℕ) (n : ℕ) → below bound o ≡ Some n → o ≡ Some n
below_is bound None n h = absurd (none_some n h)
below_is bound (Some m) n h = below_if _ m n h

-- and where it is there
pub is_told : (text row word rest digits : List ℕ) (n : ℕ) → text ≡ row ++ 10 ∷ rest → row ≡ word ++ 32 ∷ digits → word ≡ codes "journal" → u32_in digits ≡ Some n → text ≡ head n ++ rest
is_told text row word rest digits n whole parted is_word read =
    let number : digits ≡ decimal n = parse_decimal_is digits n (below_is (2 ^ 32) (parse_decimal digits) n read) in
    let spelled : row ≡ phrase (codes "journal") (decimal n ∷ []) = parted ∙ (λ i. is_word i ++ 32 ∷ number i) ∙ ap (λ t. codes "journal" ++ 32 ∷ t) (sym (append-nil (decimal n))) in
    whole ∙ ap (λ t. t ++ 10 ∷ rest) spelled ∙ sym (append_assoc (phrase (codes "journal") (decimal n ∷ [])) (10 ∷ []) rest)

-- the line of an entry
pub entry_front : (text row rest : List ℕ) (e : Entry) → text ≡ row ++ 10 ∷ rest → entry_text e ≡ row ++ 10 ∷ [] → text ≡ entry_text e ++ rest
entry_front text row rest e whole is = whole ∙ sym (append_assoc row (10 ∷ []) rest) ∙ ap (λ s. s ++ rest) (sym is)

pub no_line : (text : List ℕ) → lacks 10 text ≡ true → IsNoEntry text 99
no_line text lacking = record {
  is_rule = refl;
  no_entry = λ e more h is. has_mark (line e) more (ap (lacks 10) (sym is) ∙ lacking);
}

pub no_entry_line : (text row rest : List ℕ) → text ≡ row ++ 10 ∷ rest → lacks 10 row ≡ true → ((e : Entry) → IsWithin e → entry_text e ≢ row ++ 10 ∷ []) → IsNoEntry text 99
no_entry_line text row rest whole lacking none = record {
  is_rule = refl;
  no_entry = λ e more h is.
      let cut = cut_once 10 (line e) row more rest (entry_line e h.numbers) lacking (sym (append_assoc (line e) (10 ∷ []) more) ∙ sym is ∙ whole) in
      none e h (ap (λ s. s ++ 10 ∷ []) cut.0);
}

may_if : (b : Bool) (w : State) → (if b then Some w else None) ≡ None → b ≡ false
may_if true w h = absurd (none_some w (sym h))
may_if false w h = refl

pub unlawful : (w : State) (text row rest : List ℕ) (e : Entry) (rule : ℕ) → text ≡ row ++ 10 ∷ rest → entry_text e ≡ row ++ 10 ∷ [] → IsWithin e → next w e ≡ None → rule ≡ rule_of w.layout w.past e → IsUnlawful w.layout w.past text rule
unlawful w text row rest e rule whole is within none is_rule = record {
  entry = e;
  more = rest;
  within = within;
  is = entry_front text row rest e whole is;
  unlawful = may_if (may w.layout w.past e) _ none;
  is_rule = is_rule;
}

-- what was found after so many entries
pub record Found (l : Layout) (text : List ℕ) (n : ℕ) (w : State) (rest : List ℕ) (taken : ℕ) : Type 0 where
  pub layout_is : w.layout ≡ l
  pub count_is : length w.past ≡ taken
  pub begins : Begins l text n (reverse w.past) rest
  pub shorter : taken + length rest ≤ length text

found_none : (l : Layout) (text : List ℕ) (n : ℕ) (rest : List ℕ) → n < 2 ^ 32 → text ≡ head n ++ rest → Found l text n (opening l) rest 0
found_none l text n rest small is = record {
  layout_is = refl;
  count_is = refl;
  begins = record { number = small; few = omega arith; within = tt; legal = refl; is = is };
  shorter = omega (arith, ap length is, length-append (head n) rest);
}

pub found_first : (l : Layout) (text : List ℕ) (n : ℕ) (w : State) (rest : List ℕ) → w ≡ opening l → n < 2 ^ 32 → text ≡ head n ++ rest → Found l text n w rest 0
found_first l text n w rest e small is = subst (λ v. Found l text n v rest 0) (sym e) (found_none l text n rest small is)

pub within_end : (es : List Entry) (e : Entry) → AreWithin es → IsWithin e → AreWithin (es ++ e ∷ [])
within_end [] e h k = (k, tt)
within_end (d ∷ es) e h k = (h.0, within_end es e h.1 k)

pub lines_end : (es : List Entry) (e : Entry) (rest : List ℕ) → lines (es ++ e ∷ []) ++ rest ≡ lines es ++ (entry_text e ++ rest)
lines_end [] e rest = ap (λ t. t ++ rest) (append-nil (entry_text e))
lines_end (d ∷ es) e rest =
    append_assoc (entry_text d) (lines (es ++ e ∷ [])) rest ∙ ap (λ t. entry_text d ++ t) (lines_end es e rest) ∙ sym (append_assoc (entry_text d) (lines es) (entry_text e ++ rest))

may_some : (b : Bool) (v w : State) → (if b then Some v else None) ≡ Some w → (b ≡ true) × (v ≡ w)
may_some true v w h = (refl, ap (λ o. unwrap_or o v) h)
may_some false v w h = absurd (none_some w h)

one_more : (l : Layout) (text : List ℕ) (n : ℕ) (past : List Entry) (rest more : List ℕ) (taken : ℕ) (e : Entry) → Found l text n (record { layout = l; past = past }) rest taken → taken < n → IsWithin e → rest ≡ entry_text e ++ more → may l past e ≡ true → Found l text n (record { layout = l; past = e ∷ past }) more (taken + 1)
one_more l text n past rest more taken e h less within is allowed =
    let turned : reverse (e ∷ past) ≡ reverse past ++ e ∷ [] = reverse-append (e ∷ []) past in
    let legal : is_legal l past ≡ true = ap (is_legal l) (sym (reverse-reverse past)) ∙ h.begins.legal in
    let both : is_legal l (e ∷ past) ≡ true = rw allowed legal in
    let long = ap length is ∙ length-append (entry_text e) more in
    let some = length-append (line e) (10 ∷ []) in
    record {
      layout_is = refl;
      count_is = omega (arith, h.count_is);
      begins = record {
        number = h.begins.number;
        few = omega (arith, length-reverse (e ∷ past), h.count_is, less);
        within = subst AreWithin (sym turned) (within_end (reverse past) e h.begins.within within);
        legal = ap (is_legal l) (reverse-reverse (e ∷ past)) ∙ both;
        is =
            h.begins.is
            ∙ ap (λ t. head n ++ (lines (reverse past) ++ t)) is
            ∙ ap (λ t. head n ++ t) (sym (lines_end (reverse past) e more))
            ∙ ap (λ es. head n ++ (lines es ++ more)) (sym turned);
      };
      shorter = omega (arith, h.shorter, long, some);
    }

pub found_next : (l : Layout) (text : List ℕ) (n : ℕ) (w v : State) (rest more : List ℕ) (taken : ℕ) → Found l text n w rest taken → taken < n → TakesEntry w v rest more → Found l text n v more (taken + 1)
found_next l text n w v rest more taken h less t =
    let step = may_some (may w.layout w.past t.entry) _ v t.next_is in
    let here = subst (λ k. Found k text n w rest taken) (sym h.layout_is) h in
    let grown = one_more w.layout text n w.past rest more taken t.entry here less t.within t.is step.0 in
    subst (λ k. Found k text n v more (taken + 1)) h.layout_is (subst (λ u. Found w.layout text n u more (taken + 1)) step.1 grown)

-- what was read, with the verdict
pub head_end : (l : Layout) (text : List ℕ) (w : State) → w ≡ opening l → ((n : ℕ) (rest : List ℕ) → n < 2 ^ 32 → text ≢ head n ++ rest) → IsRead l text (Wrong 1 99) (reverse w.past)
head_end l text w is none = (AtHead (record { is_first = refl; is_rule = refl; no_head = none }), ap (λ v. reverse v.past) is)

pub stop_end : (l : Layout) (text : List ℕ) (n : ℕ) (w : State) (rest : List ℕ) (taken rule : ℕ) → Found l text n w rest taken → taken < n → IsNoEntry rest rule ⊎ IsUnlawful w.layout w.past rest rule → IsRead l text (Wrong (taken + 2) rule) (reverse w.past)
stop_end l text n w rest taken rule h less fails = (
  AtEntry (record {
    told = n;
    entries = reverse w.past;
    rest = rest;
    begins = h.begins;
    more_told = omega (arith, length-reverse w.past, h.count_is, less);
    is_line = omega (arith, length-reverse w.past, h.count_is);
    fails = moved fails;
  }),
  refl,
)
  where
    moved : IsNoEntry rest rule ⊎ IsUnlawful w.layout w.past rest rule → IsNoEntry rest rule ⊎ IsUnlawful l (reverse (reverse w.past)) rest rule
    moved (inl f) = inl f
    moved (inr f) = inr (subst (λ k. IsUnlawful k (reverse (reverse w.past)) rest rule) h.layout_is (subst (λ past. IsUnlawful w.layout past rest rule) (sym (reverse-reverse w.past)) f))

module _ (l : Layout) (text : List ℕ) (n : ℕ) (w : State) (rest : List ℕ) (entries : List Entry) (h : Found l text n w rest n) (all : entries ≡ reverse w.past) where
  len : length entries ≡ n
  len = ap length all ∙ length-reverse w.past ∙ h.count_is

  begun : Begins l text n entries rest
  begun = subst (λ es. Begins l text n es rest) (sym all) h.begins

  legal_entries : IsSummary entries rest → IsRead l text (Legal n) entries
  legal_entries (stuck, are, is) = (
    record {
      number = subst (λ m. m < 4294967296) (sym len) begun.number;
      within = begun.within;
      legal = begun.legal;
      stuck = stuck;
      are = are;
      is =
          begun.is
          ∙ ap (λ t. head n ++ (lines entries ++ t)) is
          ∙ sym (append_assoc (head n) (lines entries) (summary_with stuck entries))
          ∙ ap (λ m. (head m ++ lines entries) ++ summary_with stuck entries) (sym len);
    },
    len,
  )

  pub legal_end : IsSummary entries rest → IsRead l text (Legal n) (reverse w.past)
  legal_end is = subst (IsRead l text (Legal n)) all (legal_entries is)

  pub summary_end : (shared : ℕ) → IsNoSummary entries rest shared → IsRead l text (Wrong (n + 2 + shared) 99) (reverse w.past)
  summary_end shared none = (
    AtSummary (record {
      entries = entries;
      rest = rest;
      begins = subst (λ m. Begins l text m entries rest) (sym len) begun;
      shared = shared;
      none = none;
      is_line = omega (arith, len);
      is_rule = refl;
    }),
    sym all,
  )

  -- and they are few
  pub few : length text ≤ 268435456 → length entries ≤ 268435456
  few short = omega (arith, len, h.shorter)

-- and the verdict alone
pub verdict_of : (l : Layout) (text : List ℕ) (audit : Audit) (es : List Entry) → IsRead l text audit es → IsVerdict l text audit
verdict_of l text (Legal n) es h = (es, h.0, h.1)
verdict_of l text (Wrong line rule) es h = h.0

-- an entry that the world does not take
pub refused_stop : (w : State) (text row rest : List ℕ) (e : Entry) (fault : WorldFault) → text ≡ row ++ 10 ∷ rest → entry_text e ≡ row ++ 10 ∷ [] → IsWithin e → IsRefusal w e fault → IsStop w text fault
refused_stop w text row rest e (NotLegal rule) whole is within h = inr (unlawful w text row rest e rule whole is within h.0 h.1)
refused_stop w text row rest e (Memory error) whole is within h = tt
