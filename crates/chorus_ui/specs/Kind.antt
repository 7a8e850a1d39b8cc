-- The three kinds of thing that have a name, with their numbers and letters.
use Rattle.std.specs.Prelude.{ℕ, Bool, ◌==◌, List, [], ◌∷◌, Option, Some, None, if◌then◌else◌}
use Rattle.chorus_ui.specs.declared.kind.Kind.{Kind}
use Rattle.chorus_ui.specs.declared.kind.Kind.TheVariants.{Actor, Port, Group}

-- in the bits of a name
abbrev pub kind_number : Kind → ℕ
kind_number Actor = 1
kind_number Port = 2
kind_number Group = 3

-- in the text of a name: `a`, `p` and `g`
abbrev pub kind_letter : Kind → ℕ
kind_letter Actor = 97
kind_letter Port = 112
kind_letter Group = 103

-- the kind with this number
abbrev pub kind_with_number : ℕ → Option Kind
kind_with_number n = if n == 1 then Some Actor else if n == 2 then Some Port else if n == 3 then Some Group else None

-- the kind with this letter
abbrev pub kind_with_letter : ℕ → Option Kind
kind_with_letter c =
    if c == 97 then Some Actor else if c == 112 then Some Port else if c == 103 then Some Group else None

-- the kind whose letter alone is this text
abbrev pub kind_with_text : List ℕ → Option Kind
kind_with_text [] = None
kind_with_text (c ∷ []) = kind_with_letter c
kind_with_text (c ∷ d ∷ cs) = None

abbrev pub same_kind : Kind → Kind → Bool
same_kind k l = kind_number k == kind_number l
