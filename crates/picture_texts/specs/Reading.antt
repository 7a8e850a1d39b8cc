-- Reading: what a reader of XML finds in the text between two tags. It is said here apart from how the text is written.
-- c is a byte of what is found, name stands behind `&`.
use Rattle.std.specs.Prelude.{ℕ, ◌≡◌, ◌==◌, Bool, true, ◌&&◌, not, if◌then◌else◌, List, [], ◌∷◌, ◌++◌, map, codes, Option, Some, None}
use Rattle.chorus_ui.specs.Name.{Name, IsName}
use Rattle.chorus_ui.specs.Text.{name_text}
use Rattle.picture_texts.specs.Filling.{markup}

-- the byte is none of `<`, `>`, `&` and the two quotes
abbrev pub is_plain : ℕ → Bool
is_plain c = not (c == 60) && not (c == 62) && not (c == 38) && not (c == 39) && not (c == 34)

-- what stands behind `&` in place of one of these
abbrev pub entity : ℕ → Option (List ℕ)
entity c =
    if c == 60 then Some (codes "lt;")
    else if c == 62 then Some (codes "gt;")
    else if c == 38 then Some (codes "amp;")
    else if c == 39 then Some (codes "#39;")
    else if c == 34 then Some (codes "quot;")
    else None

-- each byte is itself or stands as an entity, and no tag begins
pub data Reads : List ℕ → List ℕ → Type 0 where
  End : Reads [] []
  Plain : (c : ℕ) (cs text : List ℕ) → is_plain c ≡ true → Reads cs text → Reads (c ∷ cs) (c ∷ text)
  Entity : (c : ℕ) (name cs text : List ℕ) → entity c ≡ Some name → Reads cs text → Reads (38 ∷ (name ++ cs)) (c ∷ text)

-- a text in one line
abbrev pub blank : ℕ → ℕ
blank c = if c == 10 then 32 else c

-- what is found between the tags is the text that was to be shown, in one line
abbrev pub TextsAreRead : Type 0
TextsAreRead = (text : List ℕ) → Reads (markup text) (map blank text)

-- and a name stands there as it is
abbrev pub NamesAreRead : Type 0
NamesAreRead = (q : Name) → IsName q → Reads (name_text q) (name_text q)
