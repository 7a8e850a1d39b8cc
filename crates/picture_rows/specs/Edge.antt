-- Edge: the texts of a row that name the right edge of the columns.
use Rattle.std.specs.Prelude.{ℕ, ◌≡◌, ◌+◌, ◌-◌, if◌then◌else◌, Bool, List, [], ◌∷◌, ◌++◌, codes, decimal}
use Rattle.picture_texts.specs.Filling.{filled}
use Rattle.picture_rows.specs.declared.edge.Edge.{Edge}

-- behind the height of a thin line above a row, before that of a caller, and before that of an act
abbrev pub tick_end : ℕ → List ℕ
tick_end right = (codes "H" ++ decimal (right + 652)) ++ codes "'/>\n"

abbrev pub seat_front : ℕ → List ℕ
seat_front right = (codes "</text><text x='" ++ decimal (right + 12)) ++ codes "' y='"

abbrev pub act_front : ℕ → List ℕ
act_front right = (codes "</text><text class='act' x='" ++ decimal (right + 72)) ++ codes "' y='"

pub record IsEdge (e : Edge) : Type 0 where
  pub tick : e.tick_end.items ≡ tick_end e.right
  pub seat : e.seat_front.items ≡ seat_front e.right
  pub act : e.act_front.items ≡ act_front e.right

-- the thin line above a row
unfoldable pub tick_at : ℕ → ℕ → List ℕ
tick_at right y = filled (codes "<path class='tick' d='M8 @H@'/>\n") ((y - 9) ∷ (right + 652) ∷ [])

-- where its clock is a new one
abbrev pub tick_of : ℕ → ℕ → Bool → List ℕ
tick_of right y b = if b then tick_at right y else []
