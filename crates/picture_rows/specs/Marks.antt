-- Marks: the shape of an entry.
use Rattle.std.specs.Prelude.{ℕ, ◌≡◌, Bool, true, false, List, codes, Option, Some, None, is_some}
use Rattle.chorus_entry.specs.declared.act.Act.{Act}
use Rattle.chorus_entry.specs.declared.act.Act.TheVariants.{Make, MakeFull, NoActor, NoSite, Post, Accept, Full, Already, ClientsFull, Stale, Early, NoPort, Elsewhere, NoMember, Choose, Try, Told, Heard, Take, Done, Late, Empty, NotHere, Rehome, Depart, Arrive, GroupMake, GroupsFull, Join, Leave, NoGroup, There, NotThere, MembersFull, Outstanding, NoCall, NoRequest, Cancel, Delete, Gone}
use Rattle.chorus_entry.specs.Act.{is_command_entry}
use Rattle.chorus_show.specs.Summary.{is_refusal, is_stale}
use Rattle.picture_rows.specs.declared.mark.Mark.{Mark}
use Rattle.picture_rows.specs.declared.mark.Mark.TheVariants as M
use Rattle.law_picture.specs.declared.row.PacketKind.{PacketKind}
use Rattle.law_picture.specs.declared.row.PacketKind.TheVariants as P
use Rattle.law_picture.specs.declared.row.Row.{Row}

-- a packet is worked off, or the entry follows from the one before it at its place
abbrev pub worked : Option Row → Mark
worked None = M.Follow
worked (Some r) = M.Work

-- by the act, and where that tells no more, by the entry that caused it
abbrev pub mark_of : Option Row → Act → Mark
mark_of cause (Make q a c) = M.Own
mark_of cause (MakeFull a) = M.Denied
mark_of cause (NoActor a) = M.Denied
mark_of cause (NoSite s) = M.Denied
mark_of cause (Post m d) = M.Own
mark_of cause (Accept x q n) = worked cause
mark_of cause (Full x q n) = M.Lost
mark_of cause (Already x q) = M.Lost
mark_of cause (ClientsFull x q) = M.Lost
mark_of cause (Stale x q tried to hop) = M.Stale
mark_of cause (Early x q hop) = M.Lost
mark_of cause (NoPort x q) = M.Lost
mark_of cause (Elsewhere x q to hop) = M.Lost
mark_of cause (NoMember x g) = M.Lost
mark_of cause (Choose x g qs) = worked cause
mark_of cause (Try x q to hop) = worked cause
mark_of cause (Told x answer) = worked cause
mark_of cause (Heard x answer) = worked cause
mark_of cause (Take q n x) = M.Own
mark_of cause (Done n) = worked cause
mark_of cause (Late n) = worked cause
mark_of cause (Empty q) = M.Denied
mark_of cause (NotHere q) = M.Denied
mark_of cause (Rehome q a) = M.Own
mark_of cause (Depart q to a hop) = M.Own
mark_of cause (Arrive q hop) = worked cause
mark_of cause (GroupMake g) = M.Own
mark_of cause (GroupsFull s) = M.Denied
mark_of cause (Join g q) = M.Own
mark_of cause (Leave g q) = M.Own
mark_of cause (NoGroup g) = M.Denied
mark_of cause (There g q) = M.Denied
mark_of cause (NotThere g q) = M.Denied
mark_of cause (MembersFull g) = M.Denied
mark_of cause (Outstanding n) = M.Denied
mark_of cause NoCall = M.Denied
mark_of cause NoRequest = M.Denied
mark_of cause (Cancel n) = M.Own
mark_of cause (Delete q xs) = M.Own
mark_of cause (Gone x q) = M.Lost

abbrev pub mark_name : Mark → List ℕ
mark_name M.Own = codes "own"
mark_name M.Denied = codes "denied"
mark_name M.Work = codes "work"
mark_name M.Follow = codes "follow"
mark_name M.Stale = codes "stale"
mark_name M.Lost = codes "lost"

abbrev pub packet_name : PacketKind → List ℕ
packet_name P.Try = codes "try"
packet_name P.Verdict = codes "verdict"
packet_name P.Transfer = codes "transfer"
packet_name P.Ask = codes "ask"
packet_name P.Report = codes "report"

-- What the marks tell: a square is a command, a cross is what the summary counts as refused, a triangle what it counts
-- as stale, and a disc has an arrow.

abbrev pub is_square : Mark → Bool
is_square M.Own = true
is_square M.Denied = true
is_square _ = false

abbrev pub is_cross : Mark → Bool
is_cross M.Lost = true
is_cross _ = false

abbrev pub is_triangle : Mark → Bool
is_triangle M.Stale = true
is_triangle _ = false

abbrev pub is_disc : Mark → Bool
is_disc M.Work = true
is_disc _ = false

pub record MarksTell (cause : Option Row) (a : Act) : Type 0 where
  pub squares : is_square (mark_of cause a) ≡ is_command_entry a
  pub crosses : is_cross (mark_of cause a) ≡ is_refusal a
  pub triangles : is_triangle (mark_of cause a) ≡ is_stale a
  pub discs : is_disc (mark_of cause a) ≡ true → is_some cause ≡ true

abbrev pub EachMarkTells : Type 0
EachMarkTells = (cause : Option Row) (a : Act) → MarksTell cause a
