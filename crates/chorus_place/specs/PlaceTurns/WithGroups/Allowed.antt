-- When a message may be posted to a group.
-- d is the destination, g the group, body what is posted, m the message, p the tables of the place, c the caller.
use Rattle.std.specs.Prelude.{ℕ, ◌≡◌, ◌-◌, ◌^◌, ◌<◌, true, List, None, Some}
use Rattle.chorus_ui.specs.declared.ui.Ui.{Ui}
use Rattle.chorus_ui.specs.Layout.{has_place}
use Rattle.chorus_entry.specs.declared.dest.Dest.{Dest}
use Rattle.chorus_entry.specs.declared.message.Message.{Message}
use Rattle.chorus_entry.specs.declared.tag.Tag.TheVariants.{Plain}
use Rattle.chorus_entry.specs.Dest.{group_in, port_in}
use Rattle.chorus_entry.specs.Kinds.{has_kinds_in_dest}
use Rattle.chorus_calls.specs.Callers.{Seated}
use Rattle.law_machine.specs.Own.{next_message}
use Rattle.chorus_place.specs.PlaceTables.Tables.{Tables, IsSound}

-- the caller's next message, with this body, may be posted to a group
pub record MayPostToGroup (d : Dest) (body : List ℕ) (c : Seated) : Type 0 where
  pub group : port_in d ≡ None
  pub kinds : has_kinds_in_dest d ≡ true
  pub posts : c.posts < 2 ^ 32 - 1
  pub sound : IsSound (next_message Plain body c)

-- the message may be posted to this group, and its members chosen here
pub record MayPostHere (m : Message) (d : Dest) (g : Ui) (c : Seated) : Type 0 where
  pub group : group_in d ≡ Some g
  pub posts : c.posts < 2 ^ 32 - 1
  pub sound : IsSound m

-- the message, which is no copy, may be posted to a group, and the place `to` asked to choose members for it
pub record MayPostAway (m : Message) (d : Dest) (to : ℕ) (p : Tables) (c : Seated) : Type 0 where
  pub group : port_in d ≡ None
  pub place : has_place p.layout to ≡ true
  pub post : m.id.copy ≡ 0
  pub posts : c.posts < 2 ^ 32 - 1
