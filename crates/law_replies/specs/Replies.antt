-- What each reply says: which entries the command's call appended.
-- es are these entries, x is the id of the post, q a port, g a group.
use Rattle.std.specs.Prelude.{ℕ, ◌≡◌, ◌⊎◌, List, length, Option, Some, None}
use Rattle.chorus_ui.specs.declared.ui.Ui.{Ui}
use Rattle.chorus_entry.specs.declared.entry.Entry.{Entry}
use Rattle.chorus_entry.specs.declared.id.MsgId.{MsgId}
use Rattle.chorus_entry.specs.declared.dest.Dest.{Dest}
use Rattle.chorus_entry.specs.declared.message.Message.{Message}
use Rattle.chorus_entry.specs.declared.act.Act.{Act}
use Rattle.chorus_entry.specs.Act.{message_of, answer_of}
use Rattle.chorus_world.specs.SentLaws.{StandsIn}
use Rattle.chorus_calls.specs.declared.client.Settle.{Settle}
use Rattle.chorus_calls.specs.declared.client.Settle.TheVariants as settles
use Rattle.law_machine.specs.declared.reply.Reply.{Reply}

-- one of the entries has this act
abbrev pub Says : List Entry → Act → Type 0
Says es a = (e : Entry) × (StandsIn e es × (e.act ≡ a))

-- what was posted has this id
pub record IsPost (x : MsgId) (es : List Entry) : Type 0 where
  pub message : Message
  pub dest : Dest
  pub says : Says es (Act.Post message dest)
  pub id : message.id ≡ x

-- no entry decides on x, and none chooses members for it
abbrev pub IsUnanswered : MsgId → List Entry → Type 0
IsUnanswered x es = (a : Act) → Says es a → message_of a ≡ Some x → answer_of a ≡ None

-- a port or a group of this name was made
abbrev pub IsMade : Ui → List Entry → Type 0
IsMade name es =
    ((actor : Ui) × ((capacity : ℕ) × Says es (Act.Make name actor capacity))) ⊎ Says es (Act.GroupMake name)

-- whether a call was ended, or a reply came late
abbrev pub IsSettledAs : Option Settle → List Entry → Type 0
IsSettledAs None es = (number : ℕ) → (Says es (Act.Done number) → ⊥) × (Says es (Act.Late number) → ⊥)
IsSettledAs (Some settles.Done) es = (number : ℕ) × Says es (Act.Done number)
IsSettledAs (Some settles.Late) es = (number : ℕ) × Says es (Act.Late number)

-- The meaning of each reply. `gives` says of a message whether it is what the port gives out under its id.
abbrev pub Tells : (Ui → Message → Type 0) → List Entry → Reply → Type 0
-- making
Tells gives es (Reply.Made name) = IsMade name es
Tells gives es Reply.MakeFull = (actor : Ui) × Says es (Act.MakeFull actor)
Tells gives es Reply.NoActor = (actor : Ui) × Says es (Act.NoActor actor)
Tells gives es Reply.NoSite = (site : ℕ) × Says es (Act.NoSite site)
Tells gives es Reply.GroupsFull = (site : ℕ) × Says es (Act.GroupsFull site)
-- posting to a port: the message has this verdict
Tells gives es (Reply.Accepted x position) = IsPost x es × ((q : Ui) × Says es (Act.Accept x q position))
Tells gives es (Reply.Full x len) = IsPost x es × ((q : Ui) × Says es (Act.Full x q len))
Tells gives es (Reply.Early x hop) = IsPost x es × ((q : Ui) × Says es (Act.Early x q hop))
Tells gives es (Reply.NoPort x) = IsPost x es × ((q : Ui) × Says es (Act.NoPort x q))
Tells gives es (Reply.Already x) = IsPost x es × ((q : Ui) × Says es (Act.Already x q))
Tells gives es (Reply.ClientsFull x) = IsPost x es × ((q : Ui) × Says es (Act.ClientsFull x q))
Tells gives es (Reply.Gone x) = IsPost x es × ((q : Ui) × Says es (Act.Gone x q))
-- posting to a group: so many members were chosen, or there is none
Tells gives es (Reply.Chosen x count) =
    IsPost x es × ((g : Ui) × ((qs : List Ui) × (Says es (Act.Choose x g qs) × (length qs ≡ count))))
Tells gives es (Reply.NoMember x) = IsPost x es × ((g : Ui) × Says es (Act.NoMember x g))
-- posting, where neither a verdict nor a choice is there yet
Tells gives es (Reply.Posted x) = IsPost x es × IsUnanswered x es
-- receiving
Tells gives es (Reply.Taken position m settled) =
    ((q : Ui) × (Says es (Act.Take q position m.id) × gives q m)) × IsSettledAs settled es
Tells gives es Reply.Empty = (q : Ui) × Says es (Act.Empty q)
Tells gives es Reply.NotHere = (q : Ui) × Says es (Act.NotHere q)
-- moving and deleting
Tells gives es Reply.Rehomed = (q : Ui) × ((actor : Ui) × Says es (Act.Rehome q actor))
Tells gives es (Reply.Departed hop) = (q : Ui) × ((to : ℕ) × ((actor : Ui) × Says es (Act.Depart q to actor hop)))
Tells gives es (Reply.Deleted count) =
    (q : Ui) × ((xs : List MsgId) × (Says es (Act.Delete q xs) × (length xs ≡ count)))
-- groups
Tells gives es Reply.Joined = (g : Ui) × ((q : Ui) × Says es (Act.Join g q))
Tells gives es Reply.Left = (g : Ui) × ((q : Ui) × Says es (Act.Leave g q))
Tells gives es Reply.NoGroup = (g : Ui) × Says es (Act.NoGroup g)
Tells gives es Reply.There = (g : Ui) × ((q : Ui) × Says es (Act.There g q))
Tells gives es Reply.NotThere = (g : Ui) × ((q : Ui) × Says es (Act.NotThere g q))
Tells gives es Reply.MembersFull = (g : Ui) × Says es (Act.MembersFull g)
-- calls
Tells gives es (Reply.Outstanding number) = Says es (Act.Outstanding number)
Tells gives es Reply.NoCall = Says es Act.NoCall
Tells gives es Reply.NoRequest = Says es Act.NoRequest
Tells gives es (Reply.Cancelled number) = Says es (Act.Cancel number)
