-- What is left of a text that begins with the lines of entries, behind so many of them.
use Rattle.std.proofs.Common.{◌≡◌, ℕ, ◌+◌, ◌<◌, ◌≤◌, List, ◌∷◌, ◌++◌, length, drop, slice_index_or, sym, ap, ◌∙◌, subst, append_assoc}
use Rattle.std.proofs.lemmas.List.{drop_all, drop_more, length-append}
use Rattle.chorus_entry.specs.declared.entry.Entry.{Entry}
use Rattle.chorus_show.specs.Bounds.{AreWithin, IsWithin}
use Rattle.chorus_show.specs.Journal.{journal_lines}
use Rattle.chorus_show.specs.Lines.{entry_text}

pub record LinesLeft (text left : List ℕ) (es : List Entry) (i : ℕ) : Type 0 where
  pub more : List ℕ
  pub whole : text ≡ journal_lines es ++ more
  pub here : left ≡ journal_lines (drop i es) ++ more
  pub within : AreWithin (drop i es)

pub all_left : (text : List ℕ) (es : List Entry) → AreWithin es → ((more : List ℕ) × (text ≡ journal_lines es ++ more)) → LinesLeft text text es 0
all_left text es within lines = record { more = lines.0; whole = lines.1; here = lines.1; within = within }

module _ (text left : List ℕ) (es : List Entry) (i : ℕ) (h : LinesLeft text left es i) where
  module _ (e : Entry) (less : i < length es) (is : e ≡ slice_index_or es i e) where
    dropped : drop i es ≡ e ∷ drop (i + 1) es
    dropped = drop_more es i e less ∙ ap (λ d. d ∷ drop (i + 1) es) (sym is)

    both_within : AreWithin (e ∷ drop (i + 1) es)
    both_within = subst AreWithin dropped h.within

    pub first_within : IsWithin e
    first_within = both_within.0

    -- behind its line
    abbrev pub behind_line : List ℕ
    behind_line = journal_lines (drop (i + 1) es) ++ h.more

    pub left_is : left ≡ entry_text e ++ behind_line
    left_is =
        h.here ∙ ap (λ ds. journal_lines ds ++ h.more) dropped
        ∙ append_assoc (entry_text e) (journal_lines (drop (i + 1) es)) h.more

    pub next_left : (behind : List ℕ) → behind ≡ behind_line → LinesLeft text behind es (i + 1)
    next_left behind same = record { more = h.more; whole = h.whole; here = same; within = both_within.1 }

  pub none_left : length es ≤ i → text ≡ journal_lines es ++ left
  none_left all =
      h.whole ∙ ap (λ t. journal_lines es ++ t) (sym (h.here ∙ ap (λ ds. journal_lines ds ++ h.more) (drop_all i es all)))

  -- how many bytes they are
  pub lines_long : length es ≤ i → length text ≡ length (journal_lines es) + length left
  lines_long all = ap length (none_left all) ∙ length-append (journal_lines es) left
