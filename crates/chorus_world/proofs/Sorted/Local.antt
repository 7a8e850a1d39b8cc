-- The step relation read from the entry's own place, seat, message and held port alone.
use Rattle.std.proofs.Common.{ℕ, ◌==◌, nat_lt, Bool, false, ◌&&◌, ◌||◌, not, List, [], ◌∷◌, is_some, is_none}
use Rattle.std.specs.List.{filter}
use Rattle.chorus_ui.specs.declared.ui.Ui.{Ui}
use Rattle.chorus_ui.specs.declared.layout.Layout.{Layout}
use Rattle.chorus_ui.specs.Name.{same_ui}
use Rattle.chorus_entry.specs.declared.entry.Entry.{Entry}
use Rattle.chorus_entry.specs.declared.id.MsgId.{MsgId}
use Rattle.chorus_entry.specs.declared.act.Act.{Act}
use Rattle.chorus_entry.specs.declared.act.Act.TheVariants.{Make, Stale, Early, NoPort, Elsewhere, Depart, Arrive, Delete, Gone}
use Rattle.chorus_entry.specs.Act.{message_of, held_port_of}
use Rattle.chorus_entry.specs.Kinds.{has_kinds}
use Rattle.chorus_world.specs.Views.{Views, at, by, is_about, is_on, finds_group}
use Rattle.chorus_world.specs.Posts.{site_asked, is_on_site}
use Rattle.chorus_world.specs.Places.{deletes, is_deleted, is_first, located, is_location, just_taken}
use Rattle.chorus_world.specs.Steps.{act_may, is_timely, may_stand_behind, due, is_due, is_due_with, is_tried_with, is_early, is_beyond, is_to_go}

-- the port is held here, as far as this place knows by itself
abbrev pub kept_after : Ui → Act → Bool → Bool
kept_after q (Make r a c) b = same_ui r q || b
kept_after q (Arrive r hop) b = same_ui r q || b
kept_after q (Depart r to a hop) b = not (same_ui r q) && b
kept_after q (Delete r xs) b = not (same_ui r q) && b
kept_after q _ b = b

abbrev pub is_kept : Ui → List Entry → Bool
is_kept q [] = false
is_kept q (e ∷ here) = kept_after q e.act (is_kept q here)

-- the port was deleted here, after an act
abbrev pub deleted_after : Ui → Act → Bool → Bool
deleted_after q a b = deletes q a || b

-- what an entry reads where `table`, the whole list of which the past is a part, stands for what was posted
abbrev pub local_views : List Entry → List Entry → ℕ → ℕ → Act → Views
local_views table past p s a =
    record {
      here = at p past;
      mine = by s past;
      message = filter (is_about (message_of a)) past;
      port = filter (is_on (held_port_of a)) past;
      all = table;
      group_made = finds_group a (at p past);
    }

abbrev pub stale_here : Layout → Views → ℕ → MsgId → Ui → ℕ → ℕ → ℕ → Bool
stale_here l v p x q tried to hop =
    is_due_with (λ h. h == tried) (due l v p x q) && not (is_kept q v.here)
    && is_location to hop (located l q v.here) && nat_lt tried hop && not (to == p) && is_none (site_asked x v.all)

abbrev pub early_here : Layout → Views → ℕ → MsgId → Ui → ℕ → Bool
early_here l v p x q hop =
    is_due_with (is_early p hop (located l q v.here)) (due l v p x q)
    && (not (is_kept q v.here) && not (is_deleted q v.here))

abbrev pub no_port_here : Layout → Views → ℕ → MsgId → Ui → Bool
no_port_here l v p x q =
    (is_due_with (λ h. h == 0) (due l v p x q)
    && (not (is_kept q v.here) && not (is_deleted q v.here) && ((located l q v.here).hop == 0)))
    || (is_beyond l q && is_first x q v.here)

abbrev pub elsewhere_here : Layout → Views → ℕ → MsgId → Ui → ℕ → ℕ → Bool
elsewhere_here l v p x q to hop =
    is_some (site_asked x v.all) && is_location to hop (located l q v.here)
    && ((is_to_go l v x q to && not (is_on_site l (site_asked x v.all) to))
    || (is_tried_with (λ h. nat_lt h hop) (due l v p x q) && not (is_kept q v.here) && not (to == p)))

abbrev pub gone_here : Layout → Views → ℕ → MsgId → Ui → Bool
gone_here l v p x q = is_due (due l v p x q) && is_deleted q v.here

abbrev pub act_may_here : Layout → Views → ℕ → ℕ → Act → Bool
act_may_here l v p s (Stale x q tried to hop) = stale_here l v p x q tried to hop
act_may_here l v p s (Early x q hop) = early_here l v p x q hop
act_may_here l v p s (NoPort x q) = no_port_here l v p x q
act_may_here l v p s (Elsewhere x q to hop) = elsewhere_here l v p x q to hop
act_may_here l v p s (Gone x q) = gone_here l v p x q
act_may_here l v p s a = act_may l v p s a

abbrev pub follows_here : Layout → Views → ℕ → ℕ → Act → Bool
follows_here l v p s a = has_kinds a && may_stand_behind (just_taken v.all v.here) a && act_may_here l v p s a

-- the entry may come next, as far as its own place, seat, message and held port tell
abbrev pub may_here : Layout → Views → Entry → Bool
may_here l v e = is_timely l v e && follows_here l v e.place e.seat e.act
