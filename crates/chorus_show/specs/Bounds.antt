-- The entries that a line can be the line of: each number is within its type, each name is one, and a body and members
-- are within their limits.
use Rattle.std.specs.Prelude.{◌≡◌, ℕ, ◌<◌, ◌≤◌, ◌^◌, Bool, true, nat_le, List, [], ◌∷◌, length}
use Rattle.chorus_ui.specs.declared.ui.Ui.{Ui}
use Rattle.chorus_ui.specs.declared.limits.TheConstants.{BODY_LIMIT, MEMBERS_LIMIT}
use Rattle.chorus_ui.specs.Name.{IsName}
use Rattle.chorus_entry.specs.declared.id.MsgId.{MsgId}
use Rattle.chorus_entry.specs.declared.dest.Dest.{Dest}
use Rattle.chorus_entry.specs.declared.dest.Dest.TheVariants as D
use Rattle.chorus_entry.specs.declared.tag.Tag.{Tag}
use Rattle.chorus_entry.specs.declared.tag.Tag.TheVariants as T
use Rattle.chorus_entry.specs.declared.message.Message.{Message}
use Rattle.chorus_entry.specs.declared.answer.Answer.{Answer}
use Rattle.chorus_entry.specs.declared.answer.Answer.TheVariants as A
use Rattle.chorus_entry.specs.declared.act.Act.{Act}
use Rattle.chorus_entry.specs.declared.act.Act.TheVariants.{Make, MakeFull, NoActor, NoSite, Post, Accept, Full, Already, ClientsFull, Stale, Early, NoPort, Elsewhere, NoMember, Choose, Try, Told, Heard, Take, Done, Late, Empty, NotHere, Rehome, Depart, Arrive, GroupMake, GroupsFull, Join, Leave, NoGroup, There, NotThere, MembersFull, Outstanding, NoCall, NoRequest, Cancel, Delete, Gone}
use Rattle.chorus_entry.specs.declared.entry.Entry.{Entry}

abbrev pub Is8 : ℕ → Type 0
Is8 n = n < 2 ^ 8

abbrev pub Is16 : ℕ → Type 0
Is16 n = n < 2 ^ 16

abbrev pub Is32 : ℕ → Type 0
Is32 n = n < 2 ^ 32

abbrev pub Is64 : ℕ → Type 0
Is64 n = n < 2 ^ 64

-- the numbers of an id are within their types
pub record IsId (x : MsgId) : Type 0 where
  pub seat : Is32 x.seat
  pub number : Is32 x.number
  pub copy : Is16 x.copy

abbrev pub AreNames : List Ui → Type 0
AreNames [] = Unit {0}
AreNames (q ∷ qs) = IsName q × AreNames qs

abbrev pub AreIds : List MsgId → Type 0
AreIds [] = Unit {0}
AreIds (x ∷ xs) = IsId x × AreIds xs

abbrev pub AreBytes : List ℕ → Type 0
AreBytes [] = Unit {0}
AreBytes (c ∷ cs) = Is8 c × AreBytes cs

-- the same of the other parts of an entry: each number is within its type, and each name is one
abbrev pub IsDest : Dest → Type 0
IsDest (D.Port q) = IsName q
IsDest (D.All g) = IsName g
IsDest (D.One g) = IsName g
IsDest (D.OneAt g site) = IsName g × Is16 site

abbrev pub IsTag : Tag → Type 0
IsTag T.Plain = Unit {0}
IsTag (T.Request number back) = Is32 number × IsName back
IsTag (T.Reply client number) = Is32 client × Is32 number

pub record IsMessage (m : Message) : Type 0 where
  pub id : IsId m.id
  pub tag : IsTag m.tag
  pub body : AreBytes m.body

abbrev pub IsAnswer : Answer → Type 0
IsAnswer (A.Accepted pos) = Is64 pos
IsAnswer (A.Full len) = Is8 len
IsAnswer (A.Stale to hop) = Is16 to × Is64 hop
IsAnswer (A.Early hop) = Is64 hop
IsAnswer A.NoPort = Unit {0}
IsAnswer A.Already = Unit {0}
IsAnswer A.ClientsFull = Unit {0}
IsAnswer (A.Elsewhere to hop) = Is16 to × Is64 hop
IsAnswer A.NoMember = Unit {0}
IsAnswer (A.Chosen count) = Is16 count
IsAnswer A.Gone = Unit {0}

abbrev pub IsAct : Act → Type 0
IsAct (Make q a n) = IsName q × IsName a × Is8 n
IsAct (MakeFull a) = IsName a
IsAct (NoActor a) = IsName a
IsAct (NoSite site) = Is16 site
IsAct (Post m d) = IsMessage m × IsDest d
IsAct (Accept x q pos) = IsId x × IsName q × Is64 pos
IsAct (Full x q len) = IsId x × IsName q × Is8 len
IsAct (Already x q) = IsId x × IsName q
IsAct (ClientsFull x q) = IsId x × IsName q
IsAct (Stale x q tried to hop) = IsId x × IsName q × Is64 tried × Is16 to × Is64 hop
IsAct (Early x q hop) = IsId x × IsName q × Is64 hop
IsAct (NoPort x q) = IsId x × IsName q
IsAct (Elsewhere x q to hop) = IsId x × IsName q × Is16 to × Is64 hop
IsAct (NoMember x g) = IsId x × IsName g
IsAct (Choose x g members) = IsId x × IsName g × AreNames members
IsAct (Try x q to hop) = IsId x × IsName q × Is16 to × Is64 hop
IsAct (Told x answer) = IsId x × IsAnswer answer
IsAct (Heard x answer) = IsId x × IsAnswer answer
IsAct (Take q pos x) = IsName q × Is64 pos × IsId x
IsAct (Done number) = Is32 number
IsAct (Late number) = Is32 number
IsAct (Empty q) = IsName q
IsAct (NotHere q) = IsName q
IsAct (Rehome q a) = IsName q × IsName a
IsAct (Depart q to a hop) = IsName q × Is16 to × IsName a × Is64 hop
IsAct (Arrive q hop) = IsName q × Is64 hop
IsAct (GroupMake g) = IsName g
IsAct (GroupsFull site) = Is16 site
IsAct (Join g q) = IsName g × IsName q
IsAct (Leave g q) = IsName g × IsName q
IsAct (NoGroup g) = IsName g
IsAct (There g q) = IsName g × IsName q
IsAct (NotThere g q) = IsName g × IsName q
IsAct (MembersFull g) = IsName g
IsAct (Outstanding number) = Is32 number
IsAct NoCall = Unit {0}
IsAct NoRequest = Unit {0}
IsAct (Cancel number) = Is32 number
IsAct (Delete q discarded) = IsName q × AreIds discarded
IsAct (Gone x q) = IsId x × IsName q

pub record IsEntry (e : Entry) : Type 0 where
  pub clock : Is64 e.clock
  pub place : Is16 e.place
  pub seat : Is32 e.seat
  pub act : IsAct e.act

-- a body and members are within their limits
abbrev pub has_room : Act → Bool
has_room (Post m d) = nat_le (length m.body) BODY_LIMIT
has_room (Choose x g members) = nat_le (length members) MEMBERS_LIMIT
has_room _ = true

abbrev pub IsBody : List ℕ → Type 0
IsBody bytes = AreBytes bytes × (length bytes ≤ BODY_LIMIT)

-- both of an act
abbrev pub IsActWithin : Act → Type 0
IsActWithin act = IsAct act × (has_room act ≡ true)

pub record IsWithin (e : Entry) : Type 0 where
  pub numbers : IsEntry e
  pub room : has_room e.act ≡ true

abbrev pub AreWithin : List Entry → Type 0
AreWithin [] = Unit {0}
AreWithin (e ∷ es) = IsWithin e × AreWithin es
