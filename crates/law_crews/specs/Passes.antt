-- The passes whose entries a closed nucleus has. v is what the closing pass knew.
use Rattle.std.specs.Prelude.{List, ◌∷◌}
use Rattle.chorus_turn.specs.declared.knowledge.Note.{Note}
use Rattle.chorus_turn.specs.declared.knowledge.Knowledge.{Knowledge}
use Rattle.chorus_turn.specs.Knowing.{note_of}
use Rattle.law_closing.specs.Places.{PlaceNote}

-- the closing pass itself, and each that was retired into it
abbrev pub passes_of : Knowledge PlaceNote → List (Note PlaceNote)
passes_of v = note_of v ∷ v.notes
