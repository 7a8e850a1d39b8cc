-- One side of the ends of a place is used: those to other places, or those from them. The other side may be any.
-- old and new are that side before and after.
use Rattle.std.specs.Prelude.{ℕ, List, Option}
use Rattle.chorus_entry.specs.declared.packet.Packet.{Packet}
use Rattle.chorus_link.specs.declared.ends.SendEnd.{SendEnd}
use Rattle.chorus_link.specs.declared.ends.RecvEnd.{RecvEnd}
use Rattle.chorus_io.specs.Count.{Rose}
use Rattle.chorus_ends.specs.Links.{Links, Counts, Sends, Receives, MovesNothing}
use Rattle.chorus_ruled_ends.specs.Ruled.{links}

abbrev pub Outs : Type 0
Outs = List (Option (SendEnd Packet))

abbrev pub Intos : Type 0
Intos = List (Option (RecvEnd Packet))

-- what both sides show
abbrev pub shows : Outs → Intos → Links
shows out into = links (record { out = out; into = into })

abbrev pub CountsOut : Outs → Outs → Type 0
CountsOut old new = (into : Intos) → Counts (shows old into) (shows new into)

abbrev pub SendsOut : ℕ → Packet → Outs → Outs → Type 0
SendsOut place packet old new = (into : Intos) → Sends place packet (shows old into) (shows new into)

abbrev pub SendsNothing : Outs → Outs → Type 0
SendsNothing old new = (into : Intos) → MovesNothing (shows old into) (shows new into)

abbrev pub FoundFull : ℕ → Outs → Outs → Type 0
FoundFull place old new = (into : Intos) → Rose ((shows old into).fulls place) ((shows new into).fulls place)

abbrev pub CountsInto : Intos → Intos → Type 0
CountsInto old new = (out : Outs) → Counts (shows out old) (shows out new)

abbrev pub ReceivesInto : ℕ → Packet → Intos → Intos → Type 0
ReceivesInto place packet old new = (out : Outs) → Receives place packet (shows out old) (shows out new)

abbrev pub ReceivesNothing : Intos → Intos → Type 0
ReceivesNothing old new = (out : Outs) → MovesNothing (shows out old) (shows out new)

abbrev pub FoundEmpty : ℕ → Intos → Intos → Type 0
FoundEmpty place old new = (out : Outs) → Rose ((shows out old).empties place) ((shows out new).empties place)
