-- The lines of the scripts that are stuck, and the summaries that they may stand in.
use Rattle.std.proofs.Common.{◌≡◌, ◌≢◌, ℕ, ◌+◌, ◌^◌, ◌<◌, ◌≤◌, ◌==◌, true, not, Option, Some, None, unwrap_or, Result, Ok, Err, IfOk, MatchOption, List, [], ◌∷◌, ◌++◌, length, drop, codes, decimal, refl, sym, ap, ◌∙◌, subst, append_assoc, arith, length-append}
use Rattle.std.specs.declared.alloc.AllocError.{AllocError}
use Rattle.std.specs.Borrow.{Bor}
use Rattle.std.specs.BTreeMap.{BTreeMap}
use Rattle.std.specs.Char.{is_ascii_digit}
use Rattle.std.specs.List.{flat_map}
use Rattle.std.proofs.lemmas.Bool.{and_parts, and_from}
use Rattle.std.proofs.lemmas.Bool.Decides.{nat_tests}
use Rattle.std.proofs.lemmas.List.{append_cancel_left}
use Rattle.std.proofs.lemmas.List.Sums.{length-filter, count_by-le-length}
use Rattle.chorus_ui.specs.Decimals.{all_digits}
use Rattle.chorus_ui.proofs.Decimals.{all_digits-decimal}
use Rattle.chorus_entry.specs.declared.entry.Entry.{Entry}
use Rattle.chorus_world.specs.Commands.{is_own_of}
use Rattle.chorus_show.specs.declared.stuck.Stuck.{Stuck}
use Rattle.chorus_show.specs.Reading.{lacks, parts, first, u32_in}
use Rattle.chorus_show.specs.Report.{stuck_line}
use Rattle.chorus_show.specs.Summary.{summary_lines, summary_text}
use Rattle.chorus_show.proofs.LineBack.{lacks_join, first_part, back_n32}
use Rattle.chorus_audit.specs.Stuck.{commands_of, AreGiven, MayBeStuck, AreStuck, HasNoStuck, BeginsStuck, Skips, SkipsSome}
use Rattle.chorus_audit.specs.Tests.{lines_shared, IsSummary, IsNoSummary}
use Rattle.chorus_audit.proofs.Cutting.{cut_once}
use Rattle.chorus_audit.proofs.Sharing.{Shares, Nothing, Line, shares_line, line_first, front_first, without_front}

-- a decimal has no space, and no LF
digit_apart : (c x : ℕ) → c < 48 → is_ascii_digit x ≡ true → not (x == c) ≡ true
digit_apart c x low h = grind (arith, nat_tests)

digits_lack : (c : ℕ) (ds : List ℕ) → c < 48 → all_digits ds ≡ true → lacks c ds ≡ true
digits_lack c [] low h = refl
digits_lack c (x ∷ ds) low h =
    let both = and_parts (is_ascii_digit x) (all_digits ds) h in
    and_from (not (x == c)) (lacks c ds) (digit_apart c x low both.0) (digits_lack c ds low both.1)

decimal_lacks : (c n : ℕ) → c < 48 → n < 2 ^ 64 → lacks c (decimal n) ≡ true
decimal_lacks c n low small = digits_lack c (decimal n) low (all_digits-decimal n small)

pub commands_few : (k : ℕ) (es : List Entry) → commands_of k es ≤ length es
commands_few k es = omega (arith, length-filter (is_own_of k) es, count_by-le-length (is_own_of k) es)

-- The line of a script, before its LF.

abbrev row : Stuck → List ℕ
row s = codes "stuck " ++ decimal s.script ++ codes " " ++ decimal s.command

row_line : (s : Stuck) (x : List ℕ) → stuck_line s ++ x ≡ row s ++ 10 ∷ x
row_line s x = append_assoc (row s) (10 ∷ []) x

pub longer : (s : Stuck) (x : List ℕ) → length x < length (stuck_line s ++ x)
longer s x = omega (arith, length-append (stuck_line s) x, ap length (row_line s []), length-append (row s) (10 ∷ []), length-append (stuck_line s) [])

-- The number of the script is read back.

fields : (ds cs x : List ℕ) → (((ds ++ 32 ∷ []) ++ cs) ++ 10 ∷ []) ++ x ≡ ds ++ 32 ∷ ((cs ++ 10 ∷ []) ++ x)
fields [] cs x = refl
fields (d ∷ ds) cs x = λ i. d ∷ fields ds cs x i

script_back : (s : Stuck) (x : List ℕ) → s.script < 2 ^ 32 → u32_in (first (parts 32 (drop 6 (stuck_line s ++ x)))) ≡ Some s.script
script_back s x h =
    ap (λ t. u32_in (first (parts 32 t))) (fields (decimal s.script) (decimal s.command) x)
    ∙ ap (λ ps. u32_in (first ps)) (first_part 32 (decimal s.script) ((decimal s.command ++ 10 ∷ []) ++ x) (decimal_lacks 32 s.script (omega arith) (omega (arith, h))))
    ∙ back_n32 s.script h

pub script_read : (text numbers word : List ℕ) (words : List (List ℕ)) → text ≡ codes "stuck " ++ numbers → parts 32 numbers ≡ word ∷ words → (s : Stuck) (more : List ℕ) → s.script < 2 ^ 32 → text ≡ stuck_line s ++ more → u32_in word ≡ Some s.script
script_read text numbers word words whole cut s more h is =
    ap (λ ps. u32_in (first ps)) (sym cut) ∙ ap (λ t. u32_in (first (parts 32 (drop 6 t)))) (sym whole ∙ is) ∙ script_back s more h

abbrev first_byte : List ℕ → ℕ
first_byte [] = 0
first_byte (c ∷ cs) = c

some_number : (m n : ℕ) → Some m ≡ Some n → m ≡ n
some_number m n h = ap (λ o. unwrap_or o 0) h

-- Whether the text begins with a line.

-- what a reader of the number says of the text: the script, if it begins with the line of one
abbrev Numbers : List ℕ → Option ℕ → Type 0
Numbers text found = (s : Stuck) (more : List ℕ) → s.script < 2 ^ 32 → text ≡ stuck_line s ++ more → found ≡ Some s.script

none_some : {A : Type 0} (a : A) → None ≡ Some a → ⊥
none_some a h = grind arith

module _ (es : List Entry) (last : ℕ) (text : List ℕ) where
  pub no_start : ((rest : List ℕ) → text ≢ codes "stuck " ++ rest) → HasNoStuck es last text
  no_start none = λ s more h is. none (drop 6 (stuck_line s ++ more)) is

  pub no_number : (found : Option ℕ) → Numbers text found → found ≡ None → HasNoStuck es last text
  no_number found read none = λ s more h is. none_some s.script (sym none ∙ read s more h.fits is)

  module _ (found : Option ℕ) (n : ℕ) (read : Numbers text found) (is_found : found ≡ Some n) where
    number_is : (s : Stuck) (more : List ℕ) → MayBeStuck es last s → text ≡ stuck_line s ++ more → n ≡ s.script
    number_is s more h is = some_number n s.script (sym is_found ∙ read s more h.fits is)

    pub no_rise : n ≤ last → HasNoStuck es last text
    no_rise low = λ s more h is. absurd (omega (arith, number_is s more h is, h.rises, low))

    pub no_line : (stuck : Stuck) → stuck.script ≡ n → stuck.command ≡ commands_of n es + 1 → ((rest : List ℕ) → text ≢ stuck_line stuck ++ rest) → HasNoStuck es last text
    no_line stuck script command none = λ s more h is.
        let same : n ≡ s.script = number_is s more h is in
        let one : stuck.script ≡ s.script = script ∙ same in
        let other : stuck.command ≡ s.command = command ∙ ap (λ k. commands_of k es + 1) same ∙ sym h.is_next in
        none more (is ∙ sym (λ i. stuck_line (record { script = one i; command = other i }) ++ more))

  pub begins : (n : ℕ) (stuck : Stuck) (more : List ℕ) → last < n → n < 2 ^ 32 → stuck.script ≡ n → stuck.command ≡ commands_of n es + 1 → text ≡ stuck_line stuck ++ more → BeginsStuck es last text n more
  begins n stuck more rises fits script command is = record {
    stuck = stuck;
    may = record { rises = omega (arith, rises, script); fits = omega (arith, fits, script); is_next = command ∙ ap (λ k. commands_of k es + 1) (sym script) };
    script_is = sym script;
    is = is;
  }

-- Which lines the text begins with.

module _ (es : List Entry) where
  pub skips_none : (last : ℕ) (text : List ℕ) → HasNoStuck es last text → SkipsSome es last text 0 text
  skips_none last text h = record { stuck = []; count_is = refl; skips = (refl, h) }

  skips_next : (last : ℕ) (text : List ℕ) (script : ℕ) (more : List ℕ) (count : ℕ) (left : List ℕ) → BeginsStuck es last text script more → SkipsSome es script more count left → SkipsSome es last text (1 + count) left
  skips_next last text script more count left b k = record {
    stuck = b.stuck ∷ k.stuck;
    count_is = omega (arith, k.count_is);
    skips = (b.may, (more, b.is, subst (λ n. Skips es n more left k.stuck) b.script_is k.skips));
  }

  -- who goes on from here goes from the start
  pub record Leads (text : List ℕ) (last count : ℕ) (left : List ℕ) : Type 0 where
    pub on : (c : ℕ) (end : List ℕ) → SkipsSome es last left c end → SkipsSome es 0 text (count + c) end

  plus : (text : List ℕ) (m n : ℕ) (left : List ℕ) → m ≡ n → SkipsSome es 0 text m left → SkipsSome es 0 text n left
  plus text m n left e h = subst (λ c. SkipsSome es 0 text c left) e h

  pub leads_first : (text : List ℕ) → Leads text 0 0 text
  leads_first text = record { on = λ c end h. plus text c (0 + c) end (omega arith) h }

  pub leads_next : (text : List ℕ) (last count : ℕ) (left : List ℕ) (script : ℕ) (more : List ℕ) → Leads text last count left → BeginsStuck es last left script more → Leads text script (count + 1) more
  leads_next text last count left script more h b = record {
    on = λ c end k. plus text (count + (1 + c)) (count + 1 + c) end (omega arith) (h.on (1 + c) end (skips_next last left script more c end b k));
  }

  pub leads_end : (text : List ℕ) (last count : ℕ) (left : List ℕ) → Leads text last count left → HasNoStuck es last left → SkipsSome es 0 text count left
  leads_end text last count left h none = plus text (count + 0) count left (omega arith) (h.on 0 left (skips_none last left none))

  -- What it shares with the summaries.

  abbrev tail : List Stuck → List ℕ
  tail stuck = flat_map stuck_line stuck ++ codes "end\n"

  tail_more : (s : Stuck) (stuck : List Stuck) → tail (s ∷ stuck) ≡ stuck_line s ++ tail stuck
  tail_more s stuck = append_assoc (stuck_line s) (flat_map stuck_line stuck) (codes "end\n")

  are_of : (stuck : List Stuck) (last : ℕ) (text left : List ℕ) → Skips es last text left stuck → AreStuck es last stuck
  are_of [] last text left h = tt
  are_of (s ∷ stuck) last text left h = (h.0, are_of stuck s.script h.1.0 left h.1.2)

  module _ (few : length es < 2 ^ 32) where
    row_lacks : (last : ℕ) (s : Stuck) → MayBeStuck es last s → lacks 10 (row s) ≡ true
    row_lacks last s h =
        let script = decimal_lacks 10 s.script (omega arith) (omega (arith, h.fits)) in
        let command = decimal_lacks 10 s.command (omega arith) (omega (arith, h.is_next, commands_few s.script es, few)) in
        let front = lacks_join 10 (codes "stuck ") (decimal s.script) refl script in
        let spaced = lacks_join 10 (codes "stuck " ++ decimal s.script) (codes " ") front refl in
        lacks_join 10 (codes "stuck " ++ decimal s.script ++ codes " ") (decimal s.command) spaced command

    same_next : (last : ℕ) (s t : Stuck) (x y : List ℕ) → MayBeStuck es last s → MayBeStuck es last t → stuck_line s ++ x ≡ stuck_line t ++ y → (s.script ≡ t.script) × (x ≡ y)
    same_next last s t x y hs ht e = (
      some_number s.script t.script (sym (script_back s x hs.fits) ∙ ap (λ text. u32_in (first (parts 32 (drop 6 text)))) e ∙ script_back t y ht.fits),
      (cut_once 10 (row s) (row t) x y (row_lacks last s hs) (row_lacks last t ht) (sym (row_line s x) ∙ e ∙ row_line t y)).1,
    )

    line_more : (x : List ℕ) (t : Stuck) (stuck : List Stuck) → lines_shared x (tail (t ∷ stuck)) ≡ lines_shared x (row t ++ 10 ∷ tail stuck)
    line_more x t stuck = ap (lines_shared x) (tail_more t stuck ∙ row_line t (tail stuck))

    shared : (stuck : List Stuck) (last : ℕ) (text left : List ℕ) → Skips es last text left stuck → lines_shared text (tail stuck) ≡ length stuck + lines_shared left (codes "end\n")
    shared [] last text left h = omega (arith, ap (λ t. lines_shared t (codes "end\n")) h.0)
    shared (s ∷ stuck) last text left h =
        let more = h.1.0 in
        let line = line_first (row s) text (tail (s ∷ stuck)) more (tail stuck) (row_lacks last s h.0) (h.1.1 ∙ row_line s more) (tail_more s stuck ∙ row_line s (tail stuck)) in
        let rest = shared stuck s.script more left h.1.2 in
        omega (arith, line, rest)

    most : (stuck : List Stuck) (last : ℕ) (text left : List ℕ) → Skips es last text left stuck → (others : List Stuck) → AreStuck es last others → lines_shared text (tail others) ≤ length stuck + lines_shared left (codes "end\n")
    most [] last text left h [] are = omega (arith, ap (λ t. lines_shared t (codes "end\n")) h.0)
    most [] last text left h (t ∷ others) are = by (shares_line (row t) text (tail others) (row_lacks last t are.0))
      where
        by : Shares (row t) text (tail others) → lines_shared text (tail (t ∷ others)) ≤ 0 + lines_shared left (codes "end\n")
        by (Nothing n) = omega (arith, line_more text t others, n)
        by (Line z is n) = absurd (h.1 t z are.0 (is ∙ sym (row_line t z)))
    most (s ∷ stuck) last text left h [] are = let none : lines_shared text (codes "end\n") ≡ 0 = ap (λ x. lines_shared x (codes "end\n")) h.1.1 in omega (arith, none)
    most (s ∷ stuck) last text left h (t ∷ others) are = by (most stuck s.script h.1.0 left h.1.2 others) (shares_line (row t) text (tail others) (row_lacks last t are.0))
      where
        by : (AreStuck es s.script others → lines_shared h.1.0 (tail others) ≤ length stuck + lines_shared left (codes "end\n")) → Shares (row t) text (tail others) → lines_shared text (tail (t ∷ others)) ≤ length (s ∷ stuck) + lines_shared left (codes "end\n")
        by ih (Nothing n) = omega (arith, line_more text t others, n)
        by ih (Line z is n) =
            let same = same_next last s t h.1.0 z h.0 are.0 (sym h.1.1 ∙ is ∙ sym (row_line t z)) in
            let rest = ih (subst (λ k. AreStuck es k others) (sym same.0) are.1) in
            let moved = ap (λ w. lines_shared w (tail others)) same.1 in
            omega (arith, line_more text t others, n, rest, moved)

    apart : (stuck : List Stuck) (last : ℕ) (text left : List ℕ) → Skips es last text left stuck → left ≢ codes "end\n" → (others : List Stuck) → AreStuck es last others → text ≢ tail others
    apart [] last text left h differs [] are is = differs (sym h.0 ∙ is)
    apart [] last text left h differs (t ∷ others) are is = h.1 t (tail others) are.0 (is ∙ tail_more t others)
    apart (s ∷ stuck) last text left h differs [] are is = let first : 115 ≡ 101 = ap first_byte (sym h.1.1 ∙ is) in absurd (omega (arith, first))
    apart (s ∷ stuck) last text left h differs (t ∷ others) are is =
        let same = same_next last s t h.1.0 (tail others) h.0 are.0 (sym h.1.1 ∙ is ∙ tail_more t others) in
        apart stuck s.script h.1.0 left h.1.2 differs others (subst (λ k. AreStuck es k others) (sym same.0) are.1) same.1

    whole : (stuck : List Stuck) (last : ℕ) (text left : List ℕ) → Skips es last text left stuck → left ≡ codes "end\n" → text ≡ tail stuck
    whole [] last text left h is = h.0 ∙ is
    whole (s ∷ stuck) last text left h is = h.1.1 ∙ ap (λ t. stuck_line s ++ t) (whole stuck s.script h.1.0 left h.1.2 is) ∙ sym (tail_more s stuck)

    -- The summaries.

    module _ (lines : List ℕ) (are_lines : lines ≡ summary_lines es) (text : List ℕ) (count : ℕ) (left : List ℕ) (k : SkipsSome es 0 text count left) where
      pub is_summary : left ≡ codes "end\n" → IsSummary es (lines ++ text)
      is_summary is = (k.stuck, are_of k.stuck 0 text left k.skips, (λ i. are_lines i ++ whole k.stuck 0 text left k.skips is i))

      pub is_none : left ≢ codes "end\n" → (n : ℕ) → n ≡ lines_shared lines lines + count + lines_shared left (codes "end\n") → IsNoSummary es (lines ++ text) n
      is_none differs n n_is = record {
        differs = λ s. apart k.stuck 0 text left k.skips differs s.0 s.1 (append_cancel_left lines text (tail s.0) (s.2 ∙ ap (λ ls. ls ++ tail s.0) (sym are_lines)));
        stuck = k.stuck;
        are = are_of k.stuck 0 text left k.skips;
        shares = omega (arith, n_is, k.count_is, front_first lines (summary_lines es) text (tail k.stuck) are_lines, shared k.stuck 0 text left k.skips);
        most = λ others are. omega (arith, n_is, k.count_is, front_first lines (summary_lines es) text (tail others) are_lines, most k.stuck 0 text left k.skips others are);
      }

  pub is_unlike : (text : List ℕ) → ((more : List ℕ) → text ≢ summary_lines es ++ more) → (n : ℕ) → n ≡ lines_shared text (summary_text es) → IsNoSummary es text n
  is_unlike text h n n_is = record {
    differs = λ s. h (tail s.0) s.2;
    stuck = [];
    are = tt;
    shares = n_is;
    most = λ others are. omega (arith, n_is, without_front (summary_lines es) text (tail others) (codes "end\n") h);
  }

-- a text of two parts has the fault that they have
pub of_parts : (es : List Entry) (text lines left : List ℕ) (r : Result (Option ℕ) AllocError) → text ≡ lines ++ left
    → IfOk r (λ fault. MatchOption fault (IsSummary es (lines ++ left)) (λ shared. IsNoSummary es (lines ++ left) shared × (shared ≤ length lines + length left)))
    → IfOk r (λ fault. MatchOption fault (IsSummary es text) (λ shared. IsNoSummary es text shared × (shared ≤ length text)))
of_parts es text lines left (Ok None) is h = subst (IsSummary es) (sym is) h
of_parts es text lines left (Ok (Some n)) is h = (subst (λ t. IsNoSummary es t n) (sym is) h.0, omega (arith, h.1, ap length is, length-append lines left))
of_parts es text lines left (Err e) is h = tt

-- what a call says of a text holds at these entries, and what was found there
pub of_table : (es : List Entry) (table : BTreeMap ℕ ℕ) (text : List ℕ) (r : Result (ℕ × Bor (List ℕ)) AllocError) → AreGiven table es
    → IfOk r (λ x. (ds : List Entry) → AreGiven table ds → SkipsSome ds 0 text x.0 x.1.now) → IfOk r (λ x. SkipsSome es 0 text x.0 x.1.now)
of_table es table text (Ok x) given h = h es given
of_table es table text (Err e) given h = tt

pub shortens : (es : List Entry) (last : ℕ) (text : List ℕ) (n : ℕ) (more : List ℕ) → BeginsStuck es last text n more → length more < length text
shortens es last text n more b = omega (arith, ap length b.is, longer b.stuck more)

pub skipped_within : (es : List Entry) (stuck : List Stuck) (last : ℕ) (text left : List ℕ) → Skips es last text left stuck → length stuck + length left ≤ length text
skipped_within es [] last text left h = omega (arith, ap length h.0)
skipped_within es (s ∷ stuck) last text left h = omega (arith, ap length h.1.1, longer s h.1.0, skipped_within es stuck s.script h.1.0 left h.1.2)
