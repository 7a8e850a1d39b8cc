-- Asks: the posts to a group that were made at a place, in order.
use Rattle.std.specs.Prelude.{◌==◌, Bool, not, cond, List, [], ◌∷◌, ◌++◌, Option, Some, None}
use Rattle.chorus_ui.specs.declared.ui.Ui.{Ui}
use Rattle.chorus_entry.specs.declared.entry.Entry.{Entry}
use Rattle.chorus_entry.specs.declared.id.MsgId.{MsgId}
use Rattle.chorus_world.specs.Groups.{is_chosen, post_to}
use Rattle.checker_rows.specs.declared.keys.LineKey.{LineKey}

-- the post has no choice in this past
abbrev pub is_unchosen : List Entry → MsgId → Bool
is_unchosen past x = not (is_chosen x past)

-- the ids, where the key has no route: posts to a group have none
abbrev pub direct : Option Ui → List MsgId → List MsgId
direct None xs = xs
direct (Some g) xs = []

-- the post to the group of a key that the entry makes at its place
abbrev pub asked_by : LineKey → Entry → List MsgId
asked_by k e = cond (e.place == k.place) (direct k.route (post_to k.name e.act)) []

-- all of them, the oldest first
abbrev pub asked_row : List Entry → LineKey → List MsgId
asked_row [] k = []
asked_row (e ∷ past) k = asked_row past k ++ asked_by k e
