-- The entry of the line that fails is the one that stands behind those that were read.
use Rattle.std.proofs.Common.{ℕ, zero, suc, ◌+◌, ◌-◌, ◌^◌, ◌<◌, ◌≡◌, ◌≢◌, true, List, [], ◌∷◌, ◌++◌, length, Option, Some, unwrap_or, codes, decimal, reverse, refl, sym, ◌∙◌, ap, subst, arith, append_assoc, inl, inr}
use Rattle.std.specs.Prelude.{◌⊎◌}
use Rattle.std.specs.List.{flat_map}
use Rattle.std.proofs.lemmas.List.{length-reverse}
use Rattle.chorus_ui.specs.declared.layout.Layout.{Layout}
use Rattle.chorus_entry.specs.declared.entry.Entry.{Entry}
use Rattle.chorus_world.specs.Steps.{may}
use Rattle.chorus_checker.specs.Rules.{rule_of}
use Rattle.chorus_lines.specs.Text.{cut}
use Rattle.chorus_show.specs.Bounds.{IsWithin, AreWithin}
use Rattle.chorus_show.specs.Lines.{entry_text}
use Rattle.chorus_show.specs.Phrases.{phrase}
use Rattle.chorus_show.specs.Reading.{lacks}
use Rattle.chorus_show.proofs.LineBack.{count_lacks, entry_line, line, lines_tell_entries}
use Rattle.chorus_audit.specs.declared.judging.Audit.TheVariants.{Wrong}
use Rattle.chorus_audit.specs.Tests.{head, AtEntry, AtHead, AtSummary, IsNoEntry, IsRead, IsUnlawful}
use Rattle.judge_heads.proofs.Cuts.{cut_join}
use Rattle.judge_rules.specs.declared.blame.Blame.{Blame}
use Rattle.judge_rules.specs.Blames.{blame}
use Rattle.judge_rules.specs.Laws.{IsOwnBlame, IsTakeBlame}
use Rattle.judge_rules.proofs.Blaming.{blames_agree}
use Rattle.chorus_judge.specs.Blaming.{behind_line, behind_lines, AgreesOn, BlamesAgreeWithAudits, IsBlamedFor}

-- Lines, one behind another.

behind-first : (s rest : List ℕ) → lacks 10 s ≡ true → behind_line ((s ++ 10 ∷ []) ++ rest) ≡ rest
behind-first s rest h = ap (λ t. behind_line t) (append_assoc s (10 ∷ []) rest) ∙ ap (λ (p : List ℕ × Option (List ℕ)). unwrap_or p.1 []) (cut_join 10 s rest h)

behind-more : (n : ℕ) (text : List ℕ) → behind_lines (suc n) text ≡ behind_lines n (behind_line text)
behind-more zero text = refl
behind-more (suc n) text = ap behind_line (behind-more n text)

behind-entry : (e : Entry) (rest : List ℕ) → IsWithin e → behind_line (entry_text e ++ rest) ≡ rest
behind-entry e rest h = behind-first (line e) rest (entry_line e h.numbers)

behind-entries : (es : List Entry) (rest : List ℕ) → AreWithin es → behind_lines (length es) (flat_map entry_text es ++ rest) ≡ rest
behind-entries [] rest h = refl
behind-entries (e ∷ es) rest h =
    behind-more (length es) (flat_map entry_text (e ∷ es) ++ rest)
    ∙ ap (λ t. behind_lines (length es) (behind_line t)) (append_assoc (entry_text e) (flat_map entry_text es) rest)
    ∙ ap (behind_lines (length es)) (behind-entry e (flat_map entry_text es ++ rest) h.0)
    ∙ behind-entries es rest h.1

behind-head : (n : ℕ) (rest : List ℕ) → n < 2 ^ 32 → behind_line (head n ++ rest) ≡ rest
behind-head n rest small = behind-first (phrase (codes "journal") (decimal n ∷ [])) rest (count_lacks (codes "journal") n refl (omega (arith, small)))

-- What an audit finds of an entry.

module _ (l : Layout) (text : List ℕ) (line_number rule : ℕ) (es : List Entry) where
  -- the wrong line has an entry, where its rule is one
  pub record AtAnEntry : Type 0 where
    pub told : ℕ
    pub small : told < 2 ^ 32
    pub within : AreWithin es
    pub rest : List ℕ
    pub is : text ≡ head told ++ (flat_map entry_text es ++ rest)
    pub is_line : line_number ≡ length es + 2
    pub unlawful : IsUnlawful l (reverse es) rest rule

  pub at_entry : IsRead l text (Wrong line_number rule) es → rule ≢ 99 → AtAnEntry
  at_entry (AtHead fails, same) other = absurd (other fails.is_rule)
  at_entry (AtSummary fails, same) other = absurd (other fails.is_rule)
  at_entry (AtEntry fails, same) other = of-entry fails.fails
    where
      of-entry : (IsNoEntry fails.rest rule ⊎ IsUnlawful l (reverse fails.entries) fails.rest rule) → AtAnEntry
      of-entry (inl none) = absurd (other none.is_rule)
      of-entry (inr unlawful) = record {
        told = fails.told;
        small = fails.begins.number;
        within = subst AreWithin (sym same) fails.begins.within;
        rest = fails.rest;
        is = fails.begins.is ∙ ap (λ xs. head fails.told ++ (flat_map entry_text xs ++ fails.rest)) (sym same);
        is_line = fails.is_line ∙ ap (λ (xs : List Entry). length xs + 2) (sym same);
        unlawful = subst (λ xs. IsUnlawful l (reverse xs) fails.rest rule) (sym same) unlawful;
      }

  module _ (found : AtAnEntry) where
    abbrev wrong : Entry
    wrong = found.unlawful.entry

    -- its line is the one that is read
    left-is : behind_lines (line_number - 1) text ≡ entry_text wrong ++ found.unlawful.more
    left-is =
        let one : line_number - 1 ≡ suc (length es) = (let h = found.is_line in omega (arith, h)) in
        ap (λ n. behind_lines n text) one
        ∙ behind-more (length es) text
        ∙ ap (λ t. behind_lines (length es) (behind_line t)) found.is
        ∙ ap (behind_lines (length es)) (behind-head found.told (flat_map entry_text es ++ found.rest) found.small)
        ∙ behind-entries es found.rest found.within
        ∙ found.unlawful.is

    pub row_is : (row : List ℕ) (behind : Option (List ℕ)) → (row, behind) ≡ cut 10 (behind_lines (line_number - 1) text) → entry_text wrong ≡ row ++ 10 ∷ []
    row_is row behind h =
        let whole : (row, behind) ≡ (line wrong, Some found.unlawful.more) =
        h ∙ ap (cut 10) (left-is ∙ append_assoc (line wrong) (10 ∷ []) found.unlawful.more) ∙ cut_join 10 (line wrong) found.unlawful.more (entry_line wrong found.unlawful.within.numbers) in
        ap (λ (p : List ℕ × Option (List ℕ)). p.0 ++ 10 ∷ []) (sym whole)

    -- so it is the entry that is parsed
    module _ (row : List ℕ) (is-row : entry_text wrong ≡ row ++ 10 ∷ []) where
      pub parsed : (e : Entry) → IsWithin e → entry_text e ≡ row ++ 10 ∷ [] → e ≡ wrong
      parsed e within is = lines_tell_entries e wrong within.numbers found.unlawful.within.numbers (is ∙ sym is-row)

      pub unparsed : ((e : Entry) → IsWithin e → entry_text e ≢ row ++ 10 ∷ []) → ⊥
      unparsed none = none wrong found.unlawful.within is-row

    pub by_rule : (e : Entry) → e ≡ wrong → rule ≡ rule_of l (reverse es) e
    by_rule e same = found.unlawful.is_rule ∙ ap (rule_of l (reverse es)) (sym same)

    pub blamed : rule ≢ 99 → (e : Entry) → IsWithin e → e ≡ wrong → (b : Blame) → b ≡ blame l (reverse es) e → IsBlamedFor l text rule es b
    blamed other e within same b is = record {
      entry = e;
      told = found.told;
      rest = found.unlawful.more;
      stands = found.is ∙ ap (λ t. head found.told ++ (flat_map entry_text es ++ t)) (found.unlawful.is ∙ ap (λ x. entry_text x ++ found.unlawful.more) (sym same));
      within = within;
      unlawful = ap (may l (reverse es)) same ∙ found.unlawful.unlawful;
      is_rule = other;
      by_rule = by_rule e same;
      is = is;
    }

-- What is blamed agrees with the audit.

pub agree_with_audits : BlamesAgreeWithAudits
agree_with_audits l text line_number rule es b read h = by-blame (blames_agree l (reverse es) h.entry h.unlawful)
  where
    found : AtAnEntry l text line_number rule es
    found = at_entry l text line_number rule es read h.is_rule

    line-is : length (reverse es) + 2 ≡ line_number
    line-is = ap (λ n. n + 2) (length-reverse es) ∙ sym found.is_line

    by-blame : (IsOwnBlame l (reverse es) h.entry (blame l (reverse es) h.entry) ⊎ IsTakeBlame (reverse es) h.entry (blame l (reverse es) h.entry)) → AgreesOn line_number rule es b
    by-blame (inl own) =
        inl (ap (λ (x : Blame). x.line) (h.is ∙ own.is) ∙ line-is, ap (λ (x : Blame). x.rule) (h.is ∙ own.is) ∙ sym h.by_rule)
    by-blame (inr taken) =
        inr ((h.entry, subst (IsTakeBlame (reverse es) h.entry) (sym h.is) taken), ap (λ (x : Blame). x.about) (h.is ∙ taken.is) ∙ line-is)
