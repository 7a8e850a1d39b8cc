-- The place at which a command is carried out.
use Rattle.std.specs.Prelude.{ℕ, if◌then◌else◌, Option, Some, None, unwrap_or}
use Rattle.chorus_ui.specs.declared.ui.Ui.{Ui}
use Rattle.chorus_ui.specs.declared.layout.Layout.{Layout}
use Rattle.chorus_ui.specs.Layout.{has_site, first_place, place_at, home, group_place}
use Rattle.chorus_entry.specs.declared.command.Command.{Command}
use Rattle.chorus_entry.specs.declared.command.Command.TheVariants.{Make, Send, Call, Retry, Cancel, Reply, Take, Move, Delete, GroupMake, Join, Leave}

-- where it names one: the home place of the actor, the place of the port on the caller's site, the site's first place,
-- or the group's place
abbrev pub place_named : Layout → Ui → Command → Option ℕ
place_named l a (Make actor capacity) = home l actor
place_named l a (Take port) = Some (place_at l a.site port)
place_named l a (Move port actor) = Some (place_at l a.site port)
place_named l a (Delete port) = Some (place_at l a.site port)
place_named l a (GroupMake site) = if has_site l site then Some (first_place l site) else None
place_named l a (Join group port) = group_place l group
place_named l a (Leave group port) = group_place l group
place_named l a (Send dest body) = None
place_named l a (Call port back body) = None
place_named l a Retry = None
place_named l a Cancel = None
place_named l a (Reply body) = None

-- there, or else at the caller's home place, where the caller runs in the actor a
abbrev pub place_for : Layout → Ui → Command → ℕ
place_for l a c = unwrap_or (place_named l a c) (place_at l a.site a)
