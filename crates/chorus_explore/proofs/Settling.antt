-- What a reply says that was taken is what it settles.
-- a is an act, t and u are turns, w is a caller, x a message.
use Rattle.std.proofs.Common.{ℕ, ◌≡◌, ◌==◌, ◌&&◌, Bool, true, false, cond, List, [], ◌∷◌, Option, Some, None, refl}
use Rattle.chorus_ui.specs.declared.ui.Ui.{Ui}
use Rattle.chorus_entry.specs.declared.act.Act.{Act}
use Rattle.chorus_entry.specs.declared.act.Act.TheVariants as acts
use Rattle.chorus_entry.specs.declared.answer.Answer.{Answer}
use Rattle.chorus_entry.specs.declared.answer.Answer.TheVariants as answers
use Rattle.chorus_entry.specs.declared.dest.Dest.{Dest}
use Rattle.chorus_entry.specs.declared.dest.Dest.TheVariants as dests
use Rattle.chorus_entry.specs.declared.entry.Entry.{Entry}
use Rattle.chorus_entry.specs.declared.id.MsgId.{MsgId}
use Rattle.chorus_entry.specs.declared.message.Message.{Message}
use Rattle.chorus_entry.specs.declared.tag.Tag.{Tag}
use Rattle.chorus_entry.specs.declared.tag.Tag.TheVariants as tags
use Rattle.chorus_entry.specs.Act.{answer_of}
use Rattle.chorus_calls.specs.Callers.{Seated}
use Rattle.chorus_calls.specs.Clients.{is_outstanding}
use Rattle.chorus_calls.specs.declared.client.Settle.TheVariants as settles
use Rattle.chorus_ports.specs.Table.{find}
use Rattle.law_machine.specs.Choosing.{choice}
use Rattle.law_machine.specs.Doing.{first_message, choosing_place}
use Rattle.law_machine.specs.declared.reply.Reply.TheVariants as replies
use Rattle.law_machine.specs.PlaceState.{PlaceState, Turn}
use Rattle.law_machine.specs.Replies.{verdict_reply, decided_reply, post_reply, choice_reply, group_reply, posted_reply, settling, taken_reply, reply_to}
use Rattle.law_explore.specs.Races.{settles_by, settles_with, settled_by}
use Rattle.chorus_explore.specs.Tellings.{settle_act, settles_in}

by-tag : (tag : Tag) (w : Seated) → settle_act tag (settling tag w) ≡ settles_by tag w
by-tag (tags.Reply client number) w = by ((client == w.seat) && is_outstanding number w.client)
  where
    by : (b : Bool) → settle_act (tags.Reply client number) (Some (cond b settles.Done settles.Late)) ≡ Some (cond b (acts.Done number) (acts.Late number))
    by true = refl
    by false = refl
by-tag tags.Plain w = refl
by-tag (tags.Request number back) w = refl

by-message : (position : ℕ) (m : Option Message) (w : Seated) → settles_in (taken_reply position m w) ≡ settles_with m w
by-message position None w = refl
by-message position (Some m) w = by-tag m.tag w

of-verdict : (x : MsgId) (answer : Answer) → settles_in (verdict_reply x answer) ≡ None
of-verdict x (answers.Accepted position) = refl
of-verdict x (answers.Full len) = refl
of-verdict x (answers.Early hop) = refl
of-verdict x answers.NoPort = refl
of-verdict x answers.Already = refl
of-verdict x answers.ClientsFull = refl
of-verdict x answers.Gone = refl
of-verdict x answer = refl

of-decided : (x : MsgId) (o : Option Answer) → settles_in (decided_reply x o) ≡ None
of-decided x None = refl
of-decided x (Some answer) = of-verdict x answer

of-post : (x : MsgId) (journal : List Entry) → settles_in (post_reply x journal) ≡ None
of-post x [] = refl
of-post x (e ∷ here) = of-decided x (answer_of e.act)

of-choice : (x : MsgId) (qs : List Ui) → settles_in (choice_reply x qs) ≡ None
of-choice x [] = refl
of-choice x (q ∷ qs) = refl

of-group : (x : MsgId) (d : Dest) (g : Ui) (s : PlaceState) → settles_in (group_reply x d g s) ≡ None
of-group x d g s = by (choosing_place s g == s.number)
  where
    by : (b : Bool) → settles_in (cond b (choice_reply x (choice d s)) (replies.Posted x)) ≡ None
    by true = of-choice x (choice d s)
    by false = refl

of-posted : (x : MsgId) (d : Dest) (t u : Turn) → settles_in (posted_reply x d t u) ≡ None
of-posted x (dests.Port q) t u = of-post x u.place.journal
of-posted x (dests.All g) t u = of-group x (dests.All g) g t.place
of-posted x (dests.One g) t u = of-group x (dests.One g) g t.place
of-posted x (dests.OneAt g site) t u = of-group x (dests.OneAt g site) g t.place

pub settles-of-reply : (a : Act) (t u : Turn) → settles_in (reply_to a t u) ≡ settled_by a t
settles-of-reply (acts.Make q actor capacity) t u = refl
settles-of-reply (acts.MakeFull actor) t u = refl
settles-of-reply (acts.NoActor actor) t u = refl
settles-of-reply (acts.NoSite site) t u = refl
settles-of-reply (acts.Post m d) t u = of-posted m.id d t u
settles-of-reply (acts.Take q position x) t u = by-message position (first_message (find q t.place.ports)) t.caller
settles-of-reply (acts.Empty q) t u = refl
settles-of-reply (acts.NotHere q) t u = refl
settles-of-reply (acts.Rehome q actor) t u = refl
settles-of-reply (acts.Depart q to actor hop) t u = refl
settles-of-reply (acts.GroupMake g) t u = refl
settles-of-reply (acts.GroupsFull site) t u = refl
settles-of-reply (acts.Join g q) t u = refl
settles-of-reply (acts.Leave g q) t u = refl
settles-of-reply (acts.NoGroup g) t u = refl
settles-of-reply (acts.There g q) t u = refl
settles-of-reply (acts.NotThere g q) t u = refl
settles-of-reply (acts.MembersFull g) t u = refl
settles-of-reply (acts.Outstanding number) t u = refl
settles-of-reply acts.NoCall t u = refl
settles-of-reply acts.NoRequest t u = refl
settles-of-reply (acts.Cancel number) t u = refl
settles-of-reply (acts.Delete q xs) t u = refl
settles-of-reply a t u = refl
