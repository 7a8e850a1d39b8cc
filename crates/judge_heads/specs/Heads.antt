-- The head of a journal that names the layout it is of.
use Rattle.std.specs.Prelude.{ℕ, ◌≡◌, ◌<◌, ◌^◌, List, [], ◌∷◌, ◌++◌, codes, decimal, Option, Some, None}
use Rattle.chorus_ui.specs.declared.layout.Layout.{Layout}
use Rattle.chorus_ui.specs.Layout.{IsLayout}
use Rattle.chorus_show.specs.Phrases.{phrase}
use Rattle.chorus_show.specs.Journal.{journal_head}

-- the line `journal N SITES TURNS`, without its LF
abbrev pub layout_line : ℕ → Layout → List ℕ
layout_line n l = phrase (codes "journal") (decimal n ∷ decimal l.sites ∷ decimal l.turns ∷ [])

-- the text begins with this line, N being below 2^32, and this is the rest
pub record Names (text : List ℕ) (n : ℕ) (l : Layout) (rest : List ℕ) : Type 0 where
  pub number : n < 2 ^ 32
  pub layout : IsLayout l
  pub is : text ≡ layout_line n l ++ 10 ∷ rest

-- What is judged in place of a text: the text itself where its first line names no layout, else the text with the plain
-- head `journal N`.
abbrev pub IsPlain : List ℕ → Option Layout → List ℕ → Type 0
IsPlain text None plain = (plain ≡ text) × ((n : ℕ) (l : Layout) (rest : List ℕ) → Names text n l rest → ⊥)
IsPlain text (Some l) plain =
    (n : ℕ) × ((rest : List ℕ) × (Names text n l rest × (plain ≡ journal_head n ++ rest)))

-- the layout that a text is judged for: the one that is asked for, else the one that its head names, else 16 sites of one
-- place each
abbrev pub layout_for : Option Layout → Option Layout → Layout
layout_for (Some l) named = l
layout_for None (Some l) = l
layout_for None None = record { sites = 16; turns = 1 }
