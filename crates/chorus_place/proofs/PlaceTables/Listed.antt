-- The ids of the messages that wait in a port.
use Rattle.std.proofs.Common.{◌≡◌, ℕ, ◌+◌, ◌++◌, List, [], ◌∷◌, Some, take, slice_get, ap, ◌∙◌}
use Rattle.std.proofs.lemmas.List.{map_more}
use Rattle.std.proofs.lemmas.Option.{slice_get_within, get_or_from_slice_get}
use Rattle.chorus_entry.specs.declared.message.Message.{Message}
use Rattle.chorus_place.specs.PlaceTables.Ports.{ids_of}

-- the ids of one message more
pub ids-more : (ms : List Message) (i : ℕ) (m : Message) → slice_get ms i ≡ Some m → ids_of (take (i + 1) ms) ≡ ids_of (take i ms) ++ m.id ∷ []
ids-more ms i m h =
    map_more (λ (x : Message). x.id) ms i m (slice_get_within ms i m h) ∙ ap (λ (x : Message). ids_of (take i ms) ++ x.id ∷ []) (get_or_from_slice_get ms i m m h)
