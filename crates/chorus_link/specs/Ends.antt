-- The words of the contracts: what they see of the two ends and of the rest.
use Rattle.std.specs.Prelude.{◌≡◌, ℕ, List, [], ◌++◌, length, drop}
use Rattle.std.specs.Arc.{arc_value}
use Rattle.atomic_table.specs.Seated.{TableId}
use Rattle.crossbeam_queue.specs.Passes.{view, ruled_capacity}
use Rattle.chorus_link.specs.declared.ends.SendEnd.{SendEnd}
use Rattle.chorus_link.specs.declared.ends.RecvEnd.{RecvEnd}
use Rattle.chorus_link.specs.declared.name.LinkName.{LinkName}
use Rattle.chorus_link.specs.declared.rest.Rest.{Rest}
use Rattle.chorus_link.specs.Lists.{StartsWith}

-- the table on which a link stands, as its name
abbrev pub name_of : TableId → LinkName
name_of z = record {
  words = z.words;
  slots = z.slots;
  views_name = z.views_name;
  atom = z.atom;
  block = z.block;
  offset = z.offset;
  slot_names = z.slot_names;
}

-- and back
abbrev pub table_of : LinkName → TableId
table_of name = record {
  words = name.words;
  slots = name.slots;
  views_name = name.views_name;
  atom = name.atom;
  block = name.block;
  offset = name.offset;
  slot_names = name.slot_names;
}

module _ {P : Type 0} where
  -- which link it is an end of
  abbrev pub send_link : SendEnd P → TableId
  send_link e = e.pass.table_id

  abbrev pub recv_link : RecvEnd P → TableId
  recv_link e = e.pass.table_id

  -- the name of the link
  abbrev pub send_name : SendEnd P → LinkName
  send_name e = name_of (send_link e)

  abbrev pub recv_name : RecvEnd P → LinkName
  recv_name e = name_of (recv_link e)

  -- how many packets the link has room for
  abbrev pub room : SendEnd P → ℕ
  room e = ruled_capacity (arc_value e.queue)

  -- all that was put
  abbrev pub packets_put : SendEnd P → List P
  packets_put e = (view e.pass).put

  -- what the sending end knows to have been got, a beginning of what was got; only a packet that it puts makes it
  -- longer
  abbrev pub known_got : SendEnd P → List P
  known_got e = (view e.pass).got

  -- all that was got
  abbrev pub packets_got : RecvEnd P → List P
  packets_got e = (view e.pass).got

  -- what the receiving end knows to have been put, a beginning of what was put; only a packet that it gets makes it
  -- longer
  abbrev pub known_put : RecvEnd P → List P
  known_put e = (view e.pass).put

  -- how many packets came back from a full link
  abbrev pub fulls_of : SendEnd P → ℕ
  fulls_of e = e.fulls

  -- how many times the link was found empty
  abbrev pub empties_of : RecvEnd P → ℕ
  empties_of e = e.empties

  -- a new link
  abbrev pub AreNew : SendEnd P → RecvEnd P → Type 0
  AreNew send recv = (packets_put send ≡ []) × (packets_got recv ≡ []) × (known_got send ≡ []) × (known_put recv ≡ [])

  -- nothing was put, and nothing more is known to be got
  abbrev pub PutsNothing : SendEnd P → SendEnd P → Type 0
  PutsNothing old new = (packets_put new ≡ packets_put old) × (known_got new ≡ known_got old)

  -- nothing was got, and nothing more is known to be put
  abbrev pub GetsNothing : RecvEnd P → RecvEnd P → Type 0
  GetsNothing old new = (packets_got new ≡ packets_got old) × (known_put new ≡ known_put old)

  -- at one moment the link held as many packets as it has room for: the last that were put, and none of them known to
  -- be got
  abbrev pub WasFull : ℕ → List P → List P → Type 0
  WasFull room put known =
      (held : List P) × (length held ≡ room) × (gone : List P) × (put ≡ gone ++ held) × StartsWith gone known

  -- at one moment the link held nothing: what had been put is what was got, and it begins with all that was known to be
  -- put
  abbrev pub WasEmpty : List P → List P → Type 0
  WasEmpty got known = StartsWith got known

  -- the packets that were put and not got
  abbrev pub packets_left : Rest P → List P
  packets_left r = drop (length (view r.pass).got) (view r.pass).put
