-- What the examples share: entries of a second seat at the first place and of one at the second, and what stands in no past.
use Rattle.std.proofs.Common.{ℕ, ◌≡◌, List, [], ◌∷◌, ◌++◌}
use Rattle.chorus_entry.specs.declared.dest.Dest.{Dest}
use Rattle.chorus_entry.specs.declared.entry.Entry.{Entry}
use Rattle.chorus_entry.specs.declared.id.MsgId.{MsgId}
use Rattle.chorus_entry.specs.declared.tag.Tag.{Tag}
use Rattle.chorus_entry.specs.declared.act.Act.{Act}
use Rattle.chorus_world.specs.SentLaws.{StandsIn}

-- seat 1 at the first place, and seat 2 at the second
abbrev pub server : ℕ → Act → Entry
server t a = record { clock = t; place = 1; seat = 1; act = a }

abbrev pub there : ℕ → Act → Entry
there t a = record { clock = t; place = 2; seat = 2; act = a }

abbrev pub id : ℕ → ℕ → MsgId
id s n = record { seat = s; number = n; copy = 0 }

abbrev pub posted : MsgId → Tag → Dest → Act
posted x t d = Act.Post (record { id = x; tag = t; body = 7 ∷ [] }) d

-- nothing stands in the empty past
pub none-stands : (e : Entry) → StandsIn e [] → ⊥
none-stands e s = by s.newer s.is
  where
    by : (newer : List Entry) → [] ≡ newer ++ e ∷ s.older → ⊥
    by [] h = cc
    by (f ∷ newer) h = cc
