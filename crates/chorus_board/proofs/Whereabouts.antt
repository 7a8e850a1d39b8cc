-- For those who publish: where ports are located after one entry more, and entries of one place.
use Rattle.std.proofs.Common.{◌≡◌, ℕ, nat_lt, Bool, true, false, if◌then◌else◌, cond, Some, None, List, [], ◌∷◌, ◌++◌, reverse, refl, ap, sym, ◌∙◌, arith}
use Rattle.std.proofs.lemmas.Bool.Decides.{nat_tests}
use Rattle.std.proofs.lemmas.List.{reverse-append}
use Rattle.std.proofs.lemmas.List.Elements.{All-get_or}
use Rattle.std.proofs.lemmas.Option.{slice_get_within, get_or_from_slice_get}
use Rattle.std.specs.List.{All}
use Rattle.chorus_ui.specs.declared.layout.Layout.{Layout}
use Rattle.chorus_ui.specs.declared.ui.Ui.{Ui}
use Rattle.chorus_ui.specs.Name.{same_ui}
use Rattle.chorus_entry.specs.declared.entry.Entry.{Entry}
use Rattle.chorus_world.specs.declared.place.Location.{Location}
use Rattle.chorus_world.specs.Places.{located, farther, learned}
use Rattle.chorus_board.specs.Located.{located_after, told_of, IsOfPlace}

-- one entry more
pub located_more : (layout : Layout) (log : List Entry) (e : Entry) (q : Ui) → located_after layout (log ++ e ∷ []) q ≡ farther (located_after layout log q) (learned q e.place (reverse log) e.act)
unfolding located_after
located_more layout log e q = ap (located layout q) (reverse-append log (e ∷ []))

-- a publish with hop 0 tells nothing
pub nothing_told : (at : Location) (q ui : Ui) (place : ℕ) → farther at (told_of q ui place 0) ≡ at
nothing_told at q ui place = by (same_ui ui q)
  where
    by : (s : Bool) → farther at (if s then Some (record { to = place; hop = 0 }) else None) ≡ at
    by true = let same : nat_lt at.hop 0 ≡ false = grind (arith, nat_tests) in ap (λ (b : Bool). cond b (record { to = place; hop = 0 }) at) same
    by false = refl

-- entries of a place are so
pub of_place : (p : ℕ) (log : List Entry) → All (λ (e : Entry). e.place ≡ p) log → IsOfPlace p log
of_place p log all i e at_i =
    ap (λ (y : Entry). y.place) (sym (get_or_from_slice_get log i e e at_i))
    ∙ All-get_or (λ (y : Entry). y.place ≡ p) log i e (slice_get_within log i e at_i) all
