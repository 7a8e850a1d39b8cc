-- Room that is taken before a turn changes anything.
use Rattle.std.specs.Prelude.{◌≡◌, ◌+◌, ◌≤◌, length}
use Rattle.chorus_place.specs.PlaceTables.Tables.{Tables}

-- there is as much room at least, and all else is as it was
pub record Roomier (before after : Tables) : Type 0 where
  pub layout : after.layout ≡ before.layout
  pub number : after.number ≡ before.number
  pub past : after.journal.past ≡ before.journal.past
  pub groups : after.journal.groups ≡ before.journal.groups
  pub spare : before.journal.spare ≤ after.journal.spare
  pub ports : after.ports ≡ before.ports
  pub known : after.known ≡ before.known
  pub waits : after.waits ≡ before.waits
  pub unheard : after.unheard ≡ before.unheard
  pub puts : after.puts ≡ before.puts
  pub lists : after.out.lists ≡ before.out.lists
  pub put : after.out.puts ≡ before.out.puts
  pub room : before.room ≤ after.room

-- no more room is taken than that of the entries and packets
pub record KeepsRoom (before after : Tables) : Type 0 where
  pub entries : before.journal.spare + length before.journal.past ≤ after.journal.spare + length after.journal.past
  pub packets : before.room + length before.puts ≤ after.room + length after.puts
  pub grows : length before.journal.past ≤ length after.journal.past
