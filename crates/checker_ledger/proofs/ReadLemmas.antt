-- What the readers read.
use Rattle.std.proofs.Common.{ℕ, ◌≡◌, ◌==◌, Bool, true, false, cond, List, [], ◌∷◌, ◌++◌, Some, None, refl, sym, ◌∙◌, ap, inl, inr}
use Rattle.std.specs.Prelude.{if◌then◌else◌}
use Rattle.std.proofs.lemmas.Bool.{eq-eqb, false≢true}
use Rattle.std.proofs.lemmas.List.{append-nil}
use Rattle.chorus_ui.specs.declared.ui.Ui.{Ui}
use Rattle.chorus_ui.specs.declared.layout.Layout.{Layout}
use Rattle.chorus_ui.specs.Layout.{IsLayout, has_site, first_place}
use Rattle.chorus_entry.specs.Same.{is_number}
use Rattle.chorus_world.proofs.Groups.GroupBounds.{group-place}
use Rattle.chorus_entry.specs.declared.entry.Entry.{Entry}
use Rattle.chorus_world.specs.Views.{at, is_group}
use Rattle.chorus_world.specs.Groups.{is_group_place, posts_to, post_to}
use Rattle.chorus_world.specs.Steps.{is_legal}
use Rattle.chorus_world.proofs.Sorted.Observers.{group_looked_for, legal_laws}
use Rattle.checker_ledger.specs.Asks.{asked_row}

-- a group is made at its place, or nowhere
pub group_here : (l : Layout) (past : List Entry) (g : Ui) (p : ℕ) → IsLayout l → is_legal l past ≡ true → is_group_place l g p ≡ true → is_group g past ≡ is_group g (at p past)
group_here l past g p shape legal h = group_looked_for l g p past (legal_laws l past shape legal).groups (inl h)

asked_case : (g : Ui) (e : Entry) (there : List Entry) (b : Bool) → posts_to g there ++ cond b (post_to g e.act) [] ≡ posts_to g (cond b (e ∷ there) there)
asked_case g e there true = refl
asked_case g e there false = append-nil (posts_to g there)

-- a key without a route has the posts to its group
pub asked_is : (past : List Entry) (p : ℕ) (g : Ui) → asked_row past (record { place = p; name = g; route = None }) ≡ posts_to g (at p past)
asked_is [] p g = refl
asked_is (e ∷ past) p g = ap (λ xs. xs ++ cond (e.place == p) (post_to g e.act) []) (asked_is past p g) ∙ asked_case g e (at p past) (e.place == p)

-- where the layout has no such site, there is no such group
pub no_group : (l : Layout) (past : List Entry) (g : Ui) → IsLayout l → is_legal l past ≡ true → has_site l g.site ≡ false → is_group g past ≡ false
no_group l past g shape legal h = group_looked_for l g 0 past (legal_laws l past shape legal).groups (inr h) ∙ go (is_group g (at 0 past)) refl
  where
    go : (b : Bool) → is_group g (at 0 past) ≡ b → is_group g (at 0 past) ≡ false
    go true e = absurd (false≢true (sym (ap (λ b. is_number 0 (if b then Some (first_place l g.site) else None)) h) ∙ group-place l past g 0 legal e))
    go false e = e

pub own_place : (l : Layout) (g : Ui) → has_site l g.site ≡ true → is_group_place l g (first_place l g.site) ≡ true
own_place l g h = ap (λ b. is_number (first_place l g.site) (if b then Some (first_place l g.site) else None)) h ∙ eq-eqb (first_place l g.site) (first_place l g.site) refl
