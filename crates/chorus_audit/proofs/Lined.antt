-- The steps of reading a text, whatever its entries say.
use Rattle.std.proofs.Common.{◌≡◌, ◌≢◌, ℕ, ◌+◌, ◌^◌, ◌<◌, ◌≤◌, List, [], ◌∷◌, ◌++◌, Some, length, refl, sym, ap, ◌∙◌, subst, append_assoc, arith, length-append}
use Rattle.chorus_entry.specs.declared.entry.Entry.{Entry}
use Rattle.chorus_show.specs.Lines.{entry_text}
use Rattle.chorus_show.specs.Report.{summary_with}
use Rattle.chorus_show.proofs.LineBack.{line}
use Rattle.chorus_audit.specs.Tests.{head, IsNoEntry, IsNoSummary, IsSummary}
use Rattle.chorus_audit.specs.Lines.{AreLines, AtEntry, AtHead, AtSummary, BeginsWith, BeginsWithEntry, IsWhole}
use Rattle.chorus_audit.proofs.Agreeing.{lines}
use Rattle.chorus_audit.proofs.Steps.{lines_end, within_end}

-- what was read after so many entries
pub record Read (text : List ℕ) (n : ℕ) (es : List Entry) (rest : List ℕ) (taken : ℕ) : Type 0 where
  pub count_is : length es ≡ taken
  pub begins : BeginsWith text n es rest
  pub shorter : taken + length rest ≤ length text

pub read_first : (text : List ℕ) (n : ℕ) (es : List Entry) (rest : List ℕ) → es ≡ [] → n < 2 ^ 32 → text ≡ head n ++ rest → Read text n es rest 0
read_first text n es rest none small is = subst (λ xs. Read text n xs rest 0) (sym none) (record {
  count_is = refl;
  begins = record { number = small; few = omega arith; within = tt; is = is };
  shorter = omega (arith, ap length is, length-append (head n) rest);
})

pub read_next : (text : List ℕ) (n : ℕ) (es ds : List Entry) (rest more : List ℕ) (taken : ℕ) (e : Entry) → Read text n es rest taken → taken < n → BeginsWithEntry rest e more → ds ≡ es ++ e ∷ [] → Read text n ds more (taken + 1)
read_next text n es ds rest more taken e h less next is =
    let long = ap length next.is ∙ length-append (entry_text e) more in
    let some = length-append (line e) (10 ∷ []) in
    let count = length-append es (e ∷ []) in
    subst (λ xs. Read text n xs more (taken + 1)) (sym is) (record {
      count_is = omega (arith, count, h.count_is);
      begins = record {
        number = h.begins.number;
        few = omega (arith, count, h.count_is, less);
        within = within_end es e h.begins.within next.within;
        is =
            h.begins.is
            ∙ ap (λ t. head n ++ (lines es ++ t)) next.is
            ∙ ap (λ t. head n ++ t) (sym (lines_end es e more));
      };
      shorter = omega (arith, h.shorter, long, some);
    })

pub stop_line : (text : List ℕ) (n : ℕ) (es : List Entry) (rest : List ℕ) (taken : ℕ) → Read text n es rest taken → taken < n → IsNoEntry rest 99 → AreLines text es (Some (taken + 2))
stop_line text n es rest taken h less none = AtEntry (record {
  told = n;
  rest = rest;
  begins = h.begins;
  more_told = omega (arith, h.count_is, less);
  no_entry = none;
  is_line = omega (arith, h.count_is);
})

begun : (text : List ℕ) (n : ℕ) (es : List Entry) (rest : List ℕ) → Read text n es rest n → BeginsWith text (length es) es rest
begun text n es rest h = subst (λ m. BeginsWith text m es rest) (sym h.count_is) h.begins

pub whole_end : (text : List ℕ) (n : ℕ) (es : List Entry) (rest : List ℕ) → Read text n es rest n → IsSummary es rest → IsWhole text es
whole_end text n es rest h (stuck, are, is) =
    let b = begun text n es rest h in
    record {
      number = b.number;
      within = b.within;
      stuck = stuck;
      are = are;
      is =
          b.is
          ∙ ap (λ t. head (length es) ++ (lines es ++ t)) is
          ∙ sym (append_assoc (head (length es)) (lines es) (summary_with stuck es));
    }

pub summary_stop : (text : List ℕ) (n : ℕ) (es : List Entry) (rest : List ℕ) (shared : ℕ) → Read text n es rest n → IsNoSummary es rest shared → AreLines text es (Some (n + 2 + shared))
summary_stop text n es rest shared h none = AtSummary (record {
  rest = rest;
  begins = begun text n es rest h;
  shared = shared;
  none = none;
  is_line = omega (arith, h.count_is);
})

-- they are few
pub few : (text : List ℕ) (n : ℕ) (es : List Entry) (rest : List ℕ) (taken : ℕ) → Read text n es rest taken → length text ≤ 268435456 → length es ≤ 268435456
few text n es rest taken h short = omega (arith, h.count_is, h.shorter, short)

pub head_stop : (text : List ℕ) (es : List Entry) → es ≡ [] → ((n : ℕ) (rest : List ℕ) → n < 2 ^ 32 → text ≢ head n ++ rest) → AreLines text es (Some 1)
head_stop text es none no_head = AtHead (record { is_first = refl; is_rule = refl; no_head = no_head }) none
