-- The message that is tried at another place, with either word for the location.
use Rattle.std.proofs.Common.{◌≡◌, ℕ, ◌+◌, ◌≤◌, ◌==◌, Bool, true, false, not, cond, Option, None, List, [], ◌∷◌, ◌++◌, refl, sym, ◌∙◌, ap}
use Rattle.chorus_ui.specs.declared.ui.Ui.{Ui}
use Rattle.chorus_ui.specs.declared.layout.Layout.{Layout}
use Rattle.chorus_ui.specs.Layout.{has_site}
use Rattle.chorus_world.specs.declared.place.Location.{Location}
use Rattle.chorus_hints.specs.Known.{newest_of}
use Rattle.place_unsettled.specs.declared.wait.Wait.{Wait}
use Rattle.law_machine.specs.PlaceState.{location}
use Rattle.chorus_place.specs.PlaceTables.Going.{first_to, leaving_to}
use Rattle.chorus_place.proofs.PlaceTables.Deciding.{located}

pub leaving-at : (l : Layout) (p : ℕ) (q : Ui) (o : Option (ℕ × ℕ)) (ws : List Wait) → leaving_to l p q (newest_of l q o).0 ws ≡ leaving_to l p q (location l q o).to ws
leaving-at l p q o ws = by (has_site l q.site) refl
  where
    by : (b : Bool) → has_site l q.site ≡ b → leaving_to l p q (newest_of l q o).0 ws ≡ leaving_to l p q (location l q o).to ws
    by true h = ap (λ n. leaving_to l p q n ws) (sym (ap (λ (x : Location). x.to) (located l q o (newest_of l q o) h refl)))
    by false h =
        ap (λ b. cond (not b) None (cond ((newest_of l q o).0 == p) None (first_to l (newest_of l q o).0 ws))) h
        ∙ sym (ap (λ b. cond (not b) None (cond ((location l q o).to == p) None (first_to l (location l q o).to ws))) h)
