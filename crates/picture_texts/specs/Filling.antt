-- Filling: templates with numbers, and texts in which nothing is read as markup.
use Rattle.std.specs.Prelude.{ℕ, ◌+◌, ◌==◌, nat_le, min, if◌then◌else◌, List, [], ◌∷◌, ◌++◌, length, take, codes, decimal, Option, Some, None}
use Rattle.std.specs.List.{flat_map, position}
use Rattle.picture_texts.specs.declared.limits.TheConstants.{SHOWN_BODY_LIMIT, SHOWN_LIMIT}

-- a template: for each `@` (64) the next number stands there, as its decimal
abbrev pub filled : List ℕ → List ℕ → List ℕ
filled [] ns = []
filled (c ∷ cs) [] = c ∷ filled cs []
filled (c ∷ cs) (n ∷ ns) = if c == 64 then decimal n ++ filled cs ns else c ∷ filled cs (n ∷ ns)

-- a byte between tags: `<`, `>`, `&` and both quotes are entities, and LF is a space
abbrev pub markup_byte : ℕ → List ℕ
markup_byte c =
    if c == 60 then codes "&lt;"
    else if c == 62 then codes "&gt;"
    else if c == 38 then codes "&amp;"
    else if c == 39 then codes "&#39;"
    else if c == 34 then codes "&quot;"
    else if c == 10 then codes " "
    else c ∷ []

abbrev pub markup : List ℕ → List ℕ
markup = flat_map markup_byte

-- a long text is cut
abbrev pub cut : ℕ → List ℕ → List ℕ
cut most text = if nat_le (length text) most then text else take most text ++ codes "..."

abbrev pub shown : List ℕ → List ℕ
shown text = markup (cut SHOWN_LIMIT text)

-- an act is cut in its body too, which stands behind its first `=` (61)
abbrev pub most_shown : Option ℕ → ℕ
most_shown None = SHOWN_LIMIT
most_shown (Some at) = min SHOWN_LIMIT (at + 1 + SHOWN_BODY_LIMIT)

abbrev pub shown_act : List ℕ → List ℕ
shown_act act = markup (cut (most_shown (position (λ c. c == 61) act)) act)

-- the text of a body, `=` and what stands for its bytes, is cut behind as many
abbrev pub shown_body : List ℕ → List ℕ
shown_body text = markup (cut (1 + SHOWN_BODY_LIMIT) text)
