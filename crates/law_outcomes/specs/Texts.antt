-- What the text of an exploration says of how much was gone over.
-- c is a scenario, most is how many events may be carried out, first is from where the
-- generator draws, text is what is told.
use Rattle.std.specs.Prelude.{ℕ, ◌≡◌, ◌<◌, ◌^◌, ◌↔◌, false, List, [], ◌∷◌, ◌++◌, codes, Some, slice_get}
use Rattle.chorus_scene.specs.Scene.{Scene}
use Rattle.explore_report.specs.Lines.{lines_in}
use Rattle.chorus_explore.specs.Explored.{IsExploration}

-- its third line says that it tells of all
abbrev pub SaysAll : List ℕ → Type 0
SaysAll text = slice_get (lines_in text) 2 ≡ Some (codes "all" ++ 10 ∷ [])

-- so it does exactly where the exploration was not cut off
abbrev pub AllIsUncut : Type 0
AllIsUncut =
    (c : Scene) (most first : ℕ) (text : List ℕ) → most < 2 ^ 64 → (told : IsExploration c most first text) →
    SaysAll text ↔ (told.explored.is_cut ≡ false)
