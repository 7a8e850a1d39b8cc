-- A turn of a caller gives a call number only with a post.
-- t is the turn before, u the turn after, m a message, q a port, c the caller.
use Rattle.std.proofs.Common.{◌+◌, ◌≤◌, Option, Some, None, arith}
use Rattle.chorus_ui.specs.declared.ui.Ui.{Ui}
use Rattle.chorus_entry.specs.declared.id.MsgId.{MsgId}
use Rattle.chorus_entry.specs.declared.dest.Dest.{Dest}
use Rattle.chorus_entry.specs.declared.tag.Tag.{Tag}
use Rattle.chorus_entry.specs.declared.tag.Tag.TheVariants as tags
use Rattle.chorus_entry.specs.declared.message.Message.{Message}
use Rattle.chorus_entry.specs.declared.command.Command.{Command}
use Rattle.chorus_entry.specs.declared.act.Act.{Act}
use Rattle.chorus_entry.specs.declared.packet.Packet.{Packet}
use Rattle.chorus_calls.specs.Clients.{Call, with_call as client_with}
use Rattle.chorus_calls.specs.Callers.{Seated, after_post}
use Rattle.chorus_ports.specs.Table.{find}
use Rattle.law_machine.specs.declared.reply.Reply.{Reply}
use Rattle.law_machine.specs.PlaceState.{Turn}
use Rattle.law_machine.specs.PlaceMachine.{act, work}
use Rattle.law_machine.specs.Own.{own}
use Rattle.law_machine.specs.Doing.{poster, posts, after_tag, holding, first_message}
use Rattle.law_machine.proofs.Machine.Steps.{Step, holder, own_change, taken, Works, follows-works, does-gives, work-keeps}
use Rattle.law_machine.proofs.Machine.Follows.{still-counts}
use Rattle.chorus_place.specs.GivenPosts.{GaveWithinPosts}

poster-within : (m : Message) (d : Dest) (c : Seated) → GaveWithinPosts c → GaveWithinPosts (poster m d c)
poster-within m (Dest.All g) c h = omega (arith, h)
poster-within m (Dest.One g) c h = omega (arith, h)
poster-within m (Dest.OneAt g site) c h = omega (arith, h)
poster-within m (Dest.Port q) c h = by m.tag
  where
    begins : (o : Option Call) (back : Ui) → (client_with o c.client q back m.body).given ≤ c.posts + 1
    begins None back = omega (arith, h)
    begins (Some call) back = omega (arith, h)

    by : (tag : Tag) → GaveWithinPosts (after_post (after_tag tag q m.body c))
    by tags.Plain = omega (arith, h)
    by (tags.Request number back) = begins c.client.outstanding back
    by (tags.Reply client number) = omega (arith, h)

holding-within : (x : MsgId) (tag : Tag) (c : Seated) → GaveWithinPosts c → GaveWithinPosts (holding x tag c)
holding-within x tags.Plain c h = h
holding-within x (tags.Request number back) c h = h
holding-within x (tags.Reply client number) c h = h

holder-within : (o : Option Message) (c : Seated) → GaveWithinPosts c → GaveWithinPosts (holder o c)
holder-within None c h = h
holder-within (Some m) c h = holding-within m.id m.tag c h

own-within : (a : Act) (t : Turn) → GaveWithinPosts t.caller → GaveWithinPosts (own_change a t).caller
own-within (Act.Post m d) t h = poster-within m d t.caller h
own-within (Act.Take q position x) t h = holder-within (first_message (find q t.place.ports)) t.caller h
own-within _ t h = h

abbrev Within : Turn → Type 0
Within t = GaveWithinPosts t.caller

still-within : (s : Step) (t : Turn) → Works s t → Within t → Within (taken s t)
still-within = still-counts (λ posts given. given ≤ posts)

-- after a command the caller gave at most as many numbers as it posted, where that was so before
pub act-within : (command : Command) (t : Turn) → GaveWithinPosts t.caller → GaveWithinPosts (act command t).caller
act-within command t h =
    does-gives Within (λ s u f. still-within s u (follows-works s u f)) (own command t) t (own-within (own command t) t h)
    (λ m d to is. poster-within m d t.caller h)

-- and after a packet
pub work-within : (packet : Packet) (t : Turn) → GaveWithinPosts t.caller → GaveWithinPosts (work packet t).caller
work-within packet t h = work-keeps Within still-within packet t h
