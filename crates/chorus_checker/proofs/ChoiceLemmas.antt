-- A choice of one member: the first of those from the rotation place on, or else of those before it.
use Rattle.std.proofs.Common.{◌≡◌, Bool, List, [], ◌∷◌, ◌++◌, find, Option, Some, None, refl, sym, ◌∙◌, ap}
use Rattle.std.specs.Option.{option_or}
use Rattle.std.proofs.lemmas.List.Folds.{find-append}
use Rattle.chorus_ui.specs.declared.ui.Ui.{Ui}
use Rattle.chorus_entry.specs.Members.{first_of, listed}
use Rattle.chorus_checker.specs.Worlds.{one_of}

pub first_behind : (qs rs : List Ui) → one_of (listed (first_of qs)) (listed (first_of rs)) ≡ listed (first_of (qs ++ rs))
first_behind [] rs = refl
first_behind (q ∷ qs) rs = refl

listed_or : (o p : Option Ui) → one_of (listed o) (listed p) ≡ listed (option_or o p)
listed_or None p = refl
listed_or (Some q) p = refl

pub found_behind : (test : Ui → Bool) (qs rs : List Ui) → one_of (listed (find test qs)) (listed (find test rs)) ≡ listed (find test (qs ++ rs))
found_behind test qs rs = listed_or (find test qs) (find test rs) ∙ ap listed (sym (find-append test qs rs))
