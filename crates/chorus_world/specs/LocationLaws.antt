-- The laws on locations: where a place locates a port, there the port was; so a message is tried a limited number of
-- times.
use Rattle.std.specs.Prelude.{ℕ, ◌≡◌, ◌<◌, ◌≤◌, ◌+◌, Bool, true, false, ◌||◌, List, [], ◌∷◌, length, Option, Some, None, slice_get}
use Rattle.chorus_ui.specs.declared.ui.Ui.{Ui}
use Rattle.chorus_ui.specs.declared.layout.Layout.{Layout}
use Rattle.chorus_ui.specs.Name.{same_ui}
use Rattle.chorus_ui.specs.Layout.{IsLayout}
use Rattle.chorus_entry.specs.declared.entry.Entry.{Entry}
use Rattle.chorus_entry.specs.declared.id.MsgId.{MsgId}
use Rattle.chorus_entry.specs.declared.act.Act.{Act}
use Rattle.chorus_entry.specs.declared.act.Act.TheVariants.{Try}
use Rattle.chorus_world.specs.Views.{at, on, about}
use Rattle.chorus_world.specs.Ports.{PortState, fate}
use Rattle.chorus_world.specs.Places.{located, named_location}
use Rattle.chorus_world.specs.Steps.{is_legal}

-- the places of a port's hops 0, 1, ..: of a port that is not made the place alone that its name tells, which is its
-- creation place where the layout has its site
abbrev pub path_of : Layout → Ui → Option PortState → List ℕ
path_of l q None = (named_location l q).to ∷ []
path_of l q (Some f) = f.path

-- in a legal past each place locates a port at a place of the port's path, with that place's hop
abbrev pub LocatesOnPath : Type 0
LocatesOnPath =
    (l : Layout) (past : List Entry) (p : ℕ) (q : Ui) → IsLayout l → is_legal l past ≡ true →
    slice_get (path_of l q (fate (on q past))) (located l q (at p past)).hop ≡ Some (located l q (at p past)).to

-- and a place that the port has left, by a hop that is not its last, locates it by a later hop than that one
abbrev pub KnowsWhatLeft : Type 0
KnowsWhatLeft =
    (l : Layout) (past : List Entry) (p : ℕ) (q : Ui) (hop : ℕ) → IsLayout l → is_legal l past ≡ true →
    slice_get (path_of l q (fate (on q past))) hop ≡ Some p →
    hop + 1 < length (path_of l q (fate (on q past))) → hop < (located l q (at p past)).hop

-- how many tries stand among these entries
abbrev pub tries_after : Act → ℕ → ℕ
tries_after (Try x q to hop) n = n + 1
tries_after _ n = n

abbrev pub tries : List Entry → ℕ
tries [] = 0
tries (e ∷ message) = tries_after e.act (tries message)

-- one of them tries for the port q
abbrev pub is_try_for : Ui → Act → Bool
is_try_for q (Try x r to hop) = same_ui r q
is_try_for q _ = false

abbrev pub is_tried_for : Ui → List Entry → Bool
is_tried_for q [] = false
is_tried_for q (e ∷ message) = is_try_for q e.act || is_tried_for q message

-- in a legal past a message is tried at most as many times as its port's path has places: with h hops of the port so
-- far, at most h + 1 times
abbrev pub TriesWithinPath : Type 0
TriesWithinPath =
    (l : Layout) (past : List Entry) (x : MsgId) (q : Ui) → IsLayout l → is_legal l past ≡ true →
    is_tried_for q (about x past) ≡ true →
    tries (about x past) ≤ length (path_of l q (fate (on q past)))
