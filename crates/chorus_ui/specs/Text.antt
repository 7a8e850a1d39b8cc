-- A name as a text: `site.letter.number`, the two numbers in decimals.
use Rattle.std.specs.Prelude.{ℕ, Bool, ◌==◌, List, ◌∷◌, ◌++◌, Option, decimal}
use Rattle.std.specs.List.{before_first, after_first}
use Rattle.chorus_ui.specs.Decimals.{parse_decimal}
use Rattle.chorus_ui.specs.Kind.{kind_letter, kind_with_text}
use Rattle.chorus_ui.specs.Name.{Name, name_of_parts}

-- 46 is the dot
abbrev pub is_dot : ℕ → Bool
is_dot c = c == 46

abbrev pub name_text : Name → List ℕ
name_text u = decimal u.site ++ 46 ∷ kind_letter u.kind ∷ 46 ∷ decimal u.number

-- the name with this text, where there is one
unfoldable pub parse_name : List ℕ → Option Name
parse_name text = let rest = after_first is_dot text in name_of_parts (parse_decimal (before_first is_dot text))
    (kind_with_text (before_first is_dot rest)) (parse_decimal (after_first is_dot rest))
