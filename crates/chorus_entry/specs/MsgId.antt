use Rattle.std.specs.Prelude.{ℕ, ◌+◌, ◌*◌, ◌%◌, ◌^◌, Bool, ◌&&◌, ◌==◌}
use Rattle.chorus_entry.specs.declared.id.TheConstants.{NUMBERS, COPY_STEP}
use Rattle.chorus_entry.specs.declared.id.MsgId.{MsgId}

-- the two ids are one
abbrev pub same_id : MsgId → MsgId → Bool
same_id x y = (x.seat == y.seat) && (x.number == y.number) && (x.copy == y.copy)

-- one number for the post that the id is of, which no other post has
abbrev pub post_number : MsgId → ℕ
post_number id = id.seat * NUMBERS + id.number

-- one number for the id; two ids of seats below 2^16 never have the same
abbrev pub hashed_number : MsgId → ℕ
hashed_number id = (post_number id + id.copy * COPY_STEP) % 2 ^ 64
