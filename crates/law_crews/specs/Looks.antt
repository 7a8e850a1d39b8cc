-- What a receive told of its port, in what was closed.
-- l is the layout of a nucleus, v what the closing pass knew, comers are those who came, c is what was closed; e is an
-- entry of its merge, of a caller in the actor a, older what stands before it, q a port.
use Rattle.std.specs.Prelude.{ℕ, ◌≡◌, ◌⊎◌, List, ◌∷◌, ◌++◌, Some}
use Rattle.std.specs.List.{Contains}
use Rattle.chorus_ui.specs.declared.ui.Ui.{Ui}
use Rattle.chorus_ui.specs.declared.layout.Layout.{Layout}
use Rattle.chorus_ui.specs.Layout.{IsLayout}
use Rattle.chorus_entry.specs.declared.entry.Entry.{Entry}
use Rattle.law_world.specs.Looks.{TellsWhatWaited}
use Rattle.law_history.specs.Journals.{Comer}
use Rattle.law_history.specs.Runs.{actor_among}
use Rattle.law_closing.specs.Places.{PlaceNote}
use Rattle.chorus_turn.specs.declared.knowledge.Note.{Note}
use Rattle.chorus_turn.specs.declared.knowledge.Knowledge.{Knowledge}
use Rattle.chorus_net.specs.declared.closed.Closed.{Closed}
use Rattle.chorus_net.specs.Closing.{past_of}
use Rattle.chorus_nucleus.specs.Closing.{ClosesAs}

-- the seat is that of the closing pass, or of one that was retired into it
abbrev pub IsSeatOf : Knowledge PlaceNote → ℕ → Type 0
IsSeatOf v s = (s ≡ v.seat) ⊎ ((m : Note PlaceNote) × Contains v.notes m × (m.seat ≡ s))

abbrev pub LooksToldWhatWaited : Type 0
LooksToldWhatWaited =
    (l : Layout) (v : Knowledge PlaceNote) (comers : List Comer) (c : Closed) (newer older : List Entry) (e : Entry)
    (q a : Ui) → IsLayout l → ClosesAs l v comers c → past_of c ≡ newer ++ e ∷ older → IsSeatOf v e.seat →
    actor_among comers e.seat ≡ Some a → TellsWhatWaited q a e older
