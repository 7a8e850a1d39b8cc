-- The reply that a caller gets: by the command's own act, and for a post by what became of it in the turn.
-- x is the id of the post, d its destination, g a group, q a port, s the place; t is the turn as it began, u as it
-- ended.
use Rattle.std.specs.Prelude.{ℕ, ◌==◌, ◌&&◌, if◌then◌else◌, List, [], ◌∷◌, length, Option, Some, None}
use Rattle.chorus_ui.specs.declared.ui.Ui.{Ui}
use Rattle.chorus_entry.specs.declared.entry.Entry.{Entry}
use Rattle.chorus_entry.specs.declared.id.MsgId.{MsgId}
use Rattle.chorus_entry.specs.declared.dest.Dest.{Dest}
use Rattle.chorus_entry.specs.declared.tag.Tag.{Tag}
use Rattle.chorus_entry.specs.declared.message.Message.{Message}
use Rattle.chorus_entry.specs.declared.command.Command.{Command}
use Rattle.chorus_entry.specs.declared.act.Act.{Act}
use Rattle.chorus_entry.specs.declared.answer.Answer.{Answer}
use Rattle.chorus_entry.specs.declared.answer.Answer.TheVariants as A
use Rattle.chorus_entry.specs.Act.{answer_of}
use Rattle.chorus_ports.specs.Table.{find}
use Rattle.chorus_calls.specs.declared.client.Settle.{Settle}
use Rattle.chorus_calls.specs.declared.client.Settle.TheVariants as settles
use Rattle.chorus_calls.specs.Clients.{is_outstanding}
use Rattle.chorus_calls.specs.Callers.{Seated}
use Rattle.law_machine.specs.declared.reply.Reply.{Reply}
use Rattle.law_machine.specs.PlaceState.{PlaceState, Turn}
use Rattle.law_machine.specs.Choosing.{choice}
use Rattle.law_machine.specs.Own.{own}
use Rattle.law_machine.specs.Doing.{first_message, choosing_place}
use Rattle.law_machine.specs.PlaceMachine.{act}

-- the message has this verdict; a direct one has none of the other answers while it is posted
abbrev pub verdict_reply : MsgId → Answer → Reply
verdict_reply x (A.Accepted position) = Reply.Accepted x position
verdict_reply x (A.Full len) = Reply.Full x len
verdict_reply x (A.Early hop) = Reply.Early x hop
verdict_reply x A.NoPort = Reply.NoPort x
verdict_reply x A.Already = Reply.Already x
verdict_reply x A.ClientsFull = Reply.ClientsFull x
verdict_reply x A.Gone = Reply.Gone x
verdict_reply x answer = Reply.Posted x

abbrev pub decided_reply : MsgId → Option Answer → Reply
decided_reply x None = Reply.Posted x
decided_reply x (Some answer) = verdict_reply x answer

-- A message to a port waits behind all others of its port and route. So where the last entry of the turn is a decision,
-- it is the verdict of that message; else the message has none.
abbrev pub post_reply : MsgId → List Entry → Reply
post_reply x [] = Reply.Posted x
post_reply x (e ∷ here) = decided_reply x (answer_of e.act)

-- For a post to a group members are chosen by the place as it was before the turn, or its place is asked.
abbrev pub choice_reply : MsgId → List Ui → Reply
choice_reply x [] = Reply.NoMember x
choice_reply x (q ∷ qs) = Reply.Chosen x (length (q ∷ qs))

abbrev pub group_reply : MsgId → Dest → Ui → PlaceState → Reply
group_reply x d g s = if choosing_place s g == s.number then choice_reply x (choice d s) else Reply.Posted x

abbrev pub posted_reply : MsgId → Dest → Turn → Turn → Reply
posted_reply x (Dest.Port q) t u = post_reply x u.place.journal
posted_reply x (Dest.All g) t u = group_reply x (Dest.All g) g t.place
posted_reply x (Dest.One g) t u = group_reply x (Dest.One g) g t.place
posted_reply x (Dest.OneAt g site) t u = group_reply x (Dest.OneAt g site) g t.place

-- whether the message that was taken ended the caller's outstanding call, where it is a reply
abbrev pub settling : Tag → Seated → Option Settle
settling (Tag.Reply client number) caller =
    Some (if (client == caller.seat) && is_outstanding number caller.client then settles.Done else settles.Late)
settling _ caller = None

abbrev pub taken_reply : ℕ → Option Message → Seated → Reply
taken_reply position None caller = Reply.Empty
taken_reply position (Some m) caller = Reply.Taken position m (settling m.tag caller)

-- the reply to the own act; an act that answers no command has none of its own
abbrev pub reply_to : Act → Turn → Turn → Reply
reply_to (Act.Make q actor capacity) t u = Reply.Made q
reply_to (Act.MakeFull actor) t u = Reply.MakeFull
reply_to (Act.NoActor actor) t u = Reply.NoActor
reply_to (Act.NoSite site) t u = Reply.NoSite
reply_to (Act.Post m d) t u = posted_reply m.id d t u
reply_to (Act.Take q position x) t u = taken_reply position (first_message (find q t.place.ports)) t.caller
reply_to (Act.Empty q) t u = Reply.Empty
reply_to (Act.NotHere q) t u = Reply.NotHere
reply_to (Act.Rehome q actor) t u = Reply.Rehomed
reply_to (Act.Depart q to actor hop) t u = Reply.Departed hop
reply_to (Act.GroupMake g) t u = Reply.Made g
reply_to (Act.GroupsFull site) t u = Reply.GroupsFull
reply_to (Act.Join g q) t u = Reply.Joined
reply_to (Act.Leave g q) t u = Reply.Left
reply_to (Act.NoGroup g) t u = Reply.NoGroup
reply_to (Act.There g q) t u = Reply.There
reply_to (Act.NotThere g q) t u = Reply.NotThere
reply_to (Act.MembersFull g) t u = Reply.MembersFull
reply_to (Act.Outstanding number) t u = Reply.Outstanding number
reply_to Act.NoCall t u = Reply.NoCall
reply_to Act.NoRequest t u = Reply.NoRequest
reply_to (Act.Cancel number) t u = Reply.Cancelled number
reply_to (Act.Delete q xs) t u = Reply.Deleted (length xs)
reply_to _ t u = Reply.NotHere

-- the reply to the caller's command
abbrev pub reply : Command → Turn → Reply
reply command t = reply_to (own command t) t (act command t)
