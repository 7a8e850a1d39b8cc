-- What an act is: the role that it plays, and by its role which answer it gives, and which message, port, group and
-- seat it names. One table goes through all forty acts, so that a further act has to be placed by hand in it.
use Rattle.std.specs.Prelude.{ℕ, Bool, true, false, Option, Some, None, length}
use Rattle.std.specs.Option.{option_map}
use Rattle.chorus_ui.specs.declared.ui.Ui.{Ui}
use Rattle.chorus_entry.specs.declared.id.MsgId.{MsgId}
use Rattle.chorus_entry.specs.declared.answer.Answer.{Answer}
use Rattle.chorus_entry.specs.declared.answer.Answer.TheVariants as A
use Rattle.chorus_entry.specs.declared.dest.Dest.{Dest}
use Rattle.chorus_entry.specs.declared.act.Act.{Act}
use Rattle.chorus_entry.specs.declared.act.Act.TheVariants.{Make, MakeFull, NoActor, NoSite, Post, Accept, Full, Already, ClientsFull, Stale, Early, NoPort, Elsewhere, NoMember, Choose, Try, Told, Heard, Take, Done, Late, Empty, NotHere, Rehome, Depart, Arrive, GroupMake, GroupsFull, Join, Leave, NoGroup, There, NotThere, MembersFull, Outstanding, NoCall, NoRequest, Cancel, Delete, Gone}
use Rattle.chorus_entry.specs.Answer.{is_final}
use Rattle.chorus_entry.specs.Dest.{port_in, group_in}

-- What an act does, with what it names. The first six answer a command: they are the first entry that it appends.
--   Alone names neither port nor group
--   OnPort stands only where the port is held, or makes it
--   OffPort finds that the port is not held
--   OfGroup is about a group, and OfMember about a port as a member of one
--   Posts posts a message
--   DecidesHeld and DecidesAway give the answer of a place to a message for a port, which is held there, or is not
--   FindsNone and Chooses say that there is no member for a post to a group, or how many are chosen
--   Tries sends a message on to where its port is located
--   Hears takes in what became of a message elsewhere
--   Arrives brings the port
--   Ends follows on the Take of a reply
pub data Role : Type 0 where
  Alone : Role
  OnPort : (port : Ui) → Role
  OffPort : (port : Ui) → Role
  OfGroup : (group : Ui) → Role
  OfMember : (group : Ui) (port : Ui) → Role
  Posts : (id : MsgId) (dest : Dest) → Role
  DecidesHeld : (id : MsgId) (port : Ui) (answer : Answer) → Role
  DecidesAway : (id : MsgId) (port : Ui) (answer : Answer) → Role
  FindsNone : (id : MsgId) (group : Ui) → Role
  Chooses : (id : MsgId) (group : Ui) (count : ℕ) → Role
  Tries : (id : MsgId) (port : Ui) → Role
  Hears : (id : MsgId) → Role
  Arrives : (port : Ui) → Role
  Ends : Role

abbrev pub role : Act → Role
role (Make q a n) = OnPort q
role (MakeFull a) = Alone
role (NoActor a) = Alone
role (NoSite s) = Alone
role (Post m d) = Posts m.id d
role (Accept x q n) = DecidesHeld x q (A.Accepted n)
role (Full x q n) = DecidesHeld x q (A.Full n)
role (Already x q) = DecidesHeld x q A.Already
role (ClientsFull x q) = DecidesHeld x q A.ClientsFull
role (Stale x q tried to hop) = DecidesAway x q (A.Stale to hop)
role (Early x q hop) = DecidesAway x q (A.Early hop)
role (NoPort x q) = DecidesAway x q A.NoPort
role (Elsewhere x q to hop) = DecidesAway x q (A.Elsewhere to hop)
role (NoMember x g) = FindsNone x g
role (Choose x g qs) = Chooses x g (length qs)
role (Try x q to hop) = Tries x q
role (Told x r) = Hears x
role (Heard x r) = Hears x
role (Take q n x) = OnPort q
role (Done n) = Ends
role (Late n) = Ends
role (Empty q) = OnPort q
role (NotHere q) = OffPort q
role (Rehome q a) = OnPort q
role (Depart q to a hop) = OnPort q
role (Arrive q hop) = Arrives q
role (GroupMake g) = OfGroup g
role (GroupsFull s) = Alone
role (Join g q) = OfMember g q
role (Leave g q) = OfMember g q
role (NoGroup g) = OfGroup g
role (There g q) = OfMember g q
role (NotThere g q) = OfMember g q
role (MembersFull g) = OfGroup g
role (Outstanding n) = Alone
role NoCall = Alone
role NoRequest = Alone
role (Cancel n) = Alone
role (Delete q xs) = OnPort q
role (Gone x q) = DecidesAway x q A.Gone

-- the act answers a command: it is the first entry that the command appends
abbrev answers_command : Role → Bool
answers_command Alone = true
answers_command (OnPort q) = true
answers_command (OffPort q) = true
answers_command (OfGroup g) = true
answers_command (OfMember g q) = true
answers_command (Posts x d) = true
answers_command (DecidesHeld x q r) = false
answers_command (DecidesAway x q r) = false
answers_command (FindsNone x g) = false
answers_command (Chooses x g n) = false
answers_command (Tries x q) = false
answers_command (Hears x) = false
answers_command (Arrives q) = false
answers_command Ends = false

abbrev pub is_command_entry : Act → Bool
is_command_entry act = answers_command (role act)

-- a place decides on a message for a port
abbrev decides : Role → Bool
decides Alone = false
decides (OnPort q) = false
decides (OffPort q) = false
decides (OfGroup g) = false
decides (OfMember g q) = false
decides (Posts x d) = false
decides (DecidesHeld x q r) = true
decides (DecidesAway x q r) = true
decides (FindsNone x g) = false
decides (Chooses x g n) = false
decides (Tries x q) = false
decides (Hears x) = false
decides (Arrives q) = false
decides Ends = false

abbrev pub is_decision : Act → Bool
is_decision act = decides (role act)

-- the act settles its message: a decision other than Stale, or that there is nobody to choose
abbrev settles : Role → Bool
settles Alone = false
settles (OnPort q) = false
settles (OffPort q) = false
settles (OfGroup g) = false
settles (OfMember g q) = false
settles (Posts x d) = false
settles (DecidesHeld x q r) = is_final r
settles (DecidesAway x q r) = is_final r
settles (FindsNone x g) = true
settles (Chooses x g n) = false
settles (Tries x q) = false
settles (Hears x) = false
settles (Arrives q) = false
settles Ends = false

abbrev pub is_verdict : Act → Bool
is_verdict act = settles (role act)

-- the answer that a decision or a choice of members gives
abbrev answer_in : Role → Option Answer
answer_in Alone = None
answer_in (OnPort q) = None
answer_in (OffPort q) = None
answer_in (OfGroup g) = None
answer_in (OfMember g q) = None
answer_in (Posts x d) = None
answer_in (DecidesHeld x q r) = Some r
answer_in (DecidesAway x q r) = Some r
answer_in (FindsNone x g) = Some A.NoMember
answer_in (Chooses x g n) = Some (A.Chosen n)
answer_in (Tries x q) = None
answer_in (Hears x) = None
answer_in (Arrives q) = None
answer_in Ends = None

abbrev pub answer_of : Act → Option Answer
answer_of act = answer_in (role act)

-- the message that an act is about. A Take is about its port
abbrev message_in : Role → Option MsgId
message_in Alone = None
message_in (OnPort q) = None
message_in (OffPort q) = None
message_in (OfGroup g) = None
message_in (OfMember g q) = None
message_in (Posts x d) = Some x
message_in (DecidesHeld x q r) = Some x
message_in (DecidesAway x q r) = Some x
message_in (FindsNone x g) = Some x
message_in (Chooses x g n) = Some x
message_in (Tries x q) = Some x
message_in (Hears x) = Some x
message_in (Arrives q) = None
message_in Ends = None

abbrev pub message_of : Act → Option MsgId
message_of act = message_in (role act)

-- the seat that posted the message which an act is about
abbrev pub seat_of : Act → Option ℕ
seat_of act = option_map (λ x. x.seat) (message_of act)

-- the port that an act names; of a post, the one that it goes to
abbrev port_named : Role → Option Ui
port_named Alone = None
port_named (OnPort q) = Some q
port_named (OffPort q) = Some q
port_named (OfGroup g) = None
port_named (OfMember g q) = Some q
port_named (Posts x d) = port_in d
port_named (DecidesHeld x q r) = Some q
port_named (DecidesAway x q r) = Some q
port_named (FindsNone x g) = None
port_named (Chooses x g n) = None
port_named (Tries x q) = Some q
port_named (Hears x) = None
port_named (Arrives q) = Some q
port_named Ends = None

abbrev pub port_of : Act → Option Ui
port_of act = port_named (role act)

-- the port of an act that stands only where this port is held, or comes to be held
abbrev port_held : Role → Option Ui
port_held Alone = None
port_held (OnPort q) = Some q
port_held (OffPort q) = None
port_held (OfGroup g) = None
port_held (OfMember g q) = None
port_held (Posts x d) = None
port_held (DecidesHeld x q r) = Some q
port_held (DecidesAway x q r) = None
port_held (FindsNone x g) = None
port_held (Chooses x g n) = None
port_held (Tries x q) = None
port_held (Hears x) = None
port_held (Arrives q) = Some q
port_held Ends = None

abbrev pub held_port_of : Act → Option Ui
held_port_of act = port_held (role act)

-- the port that an act reads: the one that it needs held, makes or brings, or the one that it finds away
abbrev port_read : Role → Option Ui
port_read Alone = None
port_read (OnPort q) = Some q
port_read (OffPort q) = None
port_read (OfGroup g) = None
port_read (OfMember g q) = None
port_read (Posts x d) = None
port_read (DecidesHeld x q r) = Some q
port_read (DecidesAway x q r) = Some q
port_read (FindsNone x g) = None
port_read (Chooses x g n) = None
port_read (Tries x q) = None
port_read (Hears x) = None
port_read (Arrives q) = Some q
port_read Ends = None

abbrev pub port_read_by : Act → Option Ui
port_read_by act = port_read (role act)

-- the group that an act names; of a post, the one that it goes to
abbrev group_named : Role → Option Ui
group_named Alone = None
group_named (OnPort q) = None
group_named (OffPort q) = None
group_named (OfGroup g) = Some g
group_named (OfMember g q) = Some g
group_named (Posts x d) = group_in d
group_named (DecidesHeld x q r) = None
group_named (DecidesAway x q r) = None
group_named (FindsNone x g) = Some g
group_named (Chooses x g n) = Some g
group_named (Tries x q) = None
group_named (Hears x) = None
group_named (Arrives q) = None
group_named Ends = None

abbrev pub group_of : Act → Option Ui
group_of act = group_named (role act)
