-- The first message that may be tried at a place.
use Rattle.std.proofs.Common.{◌≡◌, ℕ, ◌+◌, true, false, cond, Some, List, ◌∷◌, ◌++◌, drop, slice_get, ap, ◌∙◌}
use Rattle.std.proofs.lemmas.Option.{slice_get_within, get_or_from_slice_get}
use Rattle.std.proofs.lemmas.List.{drop_more}
use Rattle.chorus_ui.specs.declared.layout.Layout.{Layout}
use Rattle.chorus_world.specs.Posts.{is_on_site}
use Rattle.place_unsettled.specs.declared.wait.Wait.{Wait}
use Rattle.chorus_place.specs.PlaceTables.Going.{first_to}

drop-head : (ws : List Wait) (i : ℕ) (w : Wait) → slice_get ws i ≡ Some w → drop i ws ≡ w ∷ drop (i + 1) ws
drop-head ws i w h = drop_more ws i w (slice_get_within ws i w h) ∙ ap (λ x. x ∷ drop (i + 1) ws) (get_or_from_slice_get ws i w w h)

pub found-to : (l : Layout) (to : ℕ) (ws vs : List Wait) (i : ℕ) (w : Wait) → slice_get ws i ≡ Some w → is_on_site l w.only to ≡ true
    → first_to l to (drop i ws ++ vs) ≡ Some w
found-to l to ws vs i w h on =
    ap (λ xs. first_to l to (xs ++ vs)) (drop-head ws i w h) ∙ ap (λ b. cond b (Some w) (first_to l to (drop (i + 1) ws ++ vs))) on

pub passed-to : (l : Layout) (to : ℕ) (ws vs : List Wait) (i : ℕ) (w : Wait) → slice_get ws i ≡ Some w → is_on_site l w.only to ≡ false
    → first_to l to (drop i ws ++ vs) ≡ first_to l to (drop (i + 1) ws ++ vs)
passed-to l to ws vs i w h off =
    ap (λ xs. first_to l to (xs ++ vs)) (drop-head ws i w h) ∙ ap (λ b. cond b (Some w) (first_to l to (drop (i + 1) ws ++ vs))) off
