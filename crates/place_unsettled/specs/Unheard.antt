-- What a place may still hear of its posts to groups of other places.
use Rattle.std.specs.Prelude.{ℕ, Bool, false, true, ◌&&◌, ◌||◌, not, ◌==◌, List, Option, Some, None, slice_get, slice_index_or}
use Rattle.std.specs.Option.{option_map}
use Rattle.std.specs.Map.{lookup}
use Rattle.chorus_entry.specs.declared.id.MsgId.{MsgId}
use Rattle.chorus_entry.specs.MsgId.{same_id}
use Rattle.place_unsettled.specs.declared.unheard.Post.{Post}
use Rattle.place_unsettled.specs.declared.unheard.Copies.{Copies}

abbrev pub same_post : Post → Post → Bool
same_post p q = (p.seat == q.seat) && (p.number == q.number)

-- the post of which the message is a copy, or which it is
abbrev pub post_of : MsgId → Post
post_of x = record { seat = x.seat; number = x.number }

-- it is this post, or a copy of it
abbrev pub is_of : ℕ → ℕ → MsgId → Bool
is_of seat number x = same_post (record { seat = seat; number = number }) (post_of x)

-- nothing was heard of this copy yet
abbrev pub is_open : ℕ → Option Copies → Bool
is_open copy None = false
is_open copy (Some copies) = slice_index_or copies.open copy true

-- the place may still hear of the message: it is a copy of a post that was asked for, and was not heard of
abbrev pub is_unheard : List (Post × Copies) → MsgId → Bool
is_unheard posts x = is_open x.copy (lookup (same_post (post_of x)) posts)

-- the post at this position, and what is kept of the copies of a post
abbrev pub post_at : List (Post × Copies) → ℕ → Option (ℕ × ℕ)
post_at posts i = option_map (λ (row : Post × Copies). (row.0.seat, row.0.number)) (slice_get posts i)

abbrev pub copies_of : List (Post × Copies) → ℕ → ℕ → Option (List Bool)
copies_of posts seat number =
    option_map (λ (copies : Copies). copies.open)
    (lookup (same_post (record { seat = seat; number = number })) posts)

-- what may be heard of once this post was asked for, with each of its copies
abbrev pub asked : ℕ → ℕ → (MsgId → Bool) → MsgId → Bool
asked seat number unheard x = is_of seat number x || unheard x

-- what may be heard of once this message was heard of
abbrev pub heard : MsgId → (MsgId → Bool) → MsgId → Bool
heard id unheard x = not (same_id id x) && unheard x
