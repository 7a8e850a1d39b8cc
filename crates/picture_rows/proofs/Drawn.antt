-- What was drawn after so many rows.
use Rattle.std.proofs.Common.{◌≡◌, ℕ, ◌+◌, ◌<◌, ◌≤◌, List, Option, [], ◌∷◌, ◌++◌, length, take, reverse, slice_index_or, sym, ap, ◌∙◌, subst, append_assoc, append-nil, arith}
use Rattle.std.proofs.lemmas.List.{length-reverse, length-take-le, reverse-append, take_all}
use Rattle.std.proofs.lemmas.Grind.{take_at_read}
use Rattle.chorus_entry.specs.declared.entry.Entry.{Entry}
use Rattle.chorus_entry.specs.declared.id.MsgId.{MsgId}
use Rattle.picture_rows.specs.Bodies.{AreBodies, AreNotes, NotesAfter}
use Rattle.picture_rows.specs.Columns.{ColumnShape}
use Rattle.picture_rows.specs.Shapes.{arrow_text, each_row, ground_text, marks_text}
use Rattle.picture_rows.specs.declared.bodies.Bodies.{Bodies}
use Rattle.picture_rows.specs.declared.tables.Tables.{Tables}
use Rattle.picture_rows.specs.declared.limits.TheConstants.{ENTRIES_LIMIT}
use Rattle.picture_rows.specs.Tables.{AreTables, Grows, HaveFew, bar_of}
use Rattle.picture_rows.proofs.Kept.{grows, have_few}
use Rattle.picture_rows.proofs.Noted.{notes_next}
use Rattle.picture_rows.proofs.RowTexts.{rows_next}

-- one layer
abbrev pub IsLayer : (List Entry → Entry → List ℕ) → List Entry → ℕ → List ℕ → List ℕ → Type 0
IsLayer part es i old now = now ≡ old ++ each_row part [] (take i es)

pub layer_none : (part : List Entry → Entry → List ℕ) (es : List Entry) (old : List ℕ) → IsLayer part es 0 old old
layer_none part es old = sym (append-nil old)

pub layer_all : (part : List Entry → Entry → List ℕ) (es : List Entry) (i : ℕ) (old now : List ℕ)
    → IsLayer part es i old now → length es ≤ i → now ≡ old ++ each_row part [] es
layer_all part es i old now h all = h ∙ ap (λ xs. old ++ each_row part [] xs) (take_all i es all)

-- one entry more
module _ (es : List Entry) (i : ℕ) (e : Entry) (less : i < length es) (is : e ≡ slice_index_or es i e) where
  taken : take (i + 1) es ≡ take i es ++ e ∷ []
  taken = (take_at_read es i e less).1 ∙ ap (λ d. take i es ++ d ∷ []) (sym is)

  past_taken : reverse (take (i + 1) es) ≡ e ∷ reverse (take i es)
  past_taken = ap reverse taken ∙ reverse-append (take i es) (e ∷ [])

  pub layer_next : (part : List Entry → Entry → List ℕ) (old mid now text : List ℕ) → IsLayer part es i old mid → now ≡ mid ++ text
      → text ≡ part (reverse (take i es)) e → IsLayer part es (i + 1) old now
  layer_next part old mid now text h written stands =
      written ∙ ap (λ front. front ++ text) h ∙ append_assoc old (each_row part [] (take i es)) text
      ∙ ap (λ t. old ++ (each_row part [] (take i es) ++ t)) stands
      ∙ ap (λ t. old ++ t) (sym (ap (each_row part []) taken ∙ rows_next part (take i es) e))

  pub tables_next : (s t : Tables) → AreTables s (reverse (take i es)) → Grows e s t → AreTables t (reverse (take (i + 1) es))
  tables_next s t h grown = subst (AreTables t) (sym past_taken) (grows s t (reverse (take i es)) e h grown)

  pub notes_taken : (old new : MsgId → Option (List ℕ)) → AreNotes old (reverse (take i es)) → NotesAfter e old new
      → AreNotes new (reverse (take (i + 1) es))
  notes_taken old new h after = subst (AreNotes new) (sym past_taken) (notes_next old new (reverse (take i es)) e h after)

-- there is room in the tables for the next one
pub tables_room : (es : List Entry) (i : ℕ) (t : Tables) → AreTables t (reverse (take i es)) → i < length es → length es ≤ ENTRIES_LIMIT
    → (t.number < ENTRIES_LIMIT) × HaveFew (bar_of t.bars)
tables_room es i t h less few =
    let so-far : length (reverse (take i es)) ≤ i = omega (arith, length-reverse (take i es), length-take-le i es (omega (arith, less))) in
    let number : t.number < ENTRIES_LIMIT = omega (arith, h.number, so-far, less, few) in
    (number, have_few t (reverse (take i es)) h number)

pub tables_all : (es : List Entry) (i : ℕ) (t : Tables) → AreTables t (reverse (take i es)) → length es ≤ i → AreTables t (reverse es)
tables_all es i t h all = subst (λ xs. AreTables t (reverse xs)) (take_all i es all) h

pub record Drawn (og oa om g a m : List ℕ) (cs : List ColumnShape) (es : List Entry) (i : ℕ) (t : Tables) (b : Bodies) : Type 0 where
  pub ground : IsLayer (ground_text cs) es i og g
  pub arrows : IsLayer (arrow_text cs) es i oa a
  pub marks : IsLayer (marks_text cs) es i om m
  pub tables : AreTables t (reverse (take i es))
  pub bodies : AreBodies b (reverse (take i es))
