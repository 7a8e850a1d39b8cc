-- Answer: the one act that answers a command in a run, as the views of its place, its seat and its port tell it.
-- p is a place, k a seat, a its actor, `here` the entries of the place, `mine` those of the seat.
use Rattle.std.specs.Prelude.{ℕ, ◌+◌, ◌==◌, nat_le, Bool, not, if◌then◌else◌, List, length, drop, Option, Some, None, slice_get}
use Rattle.chorus_ui.specs.declared.kind.Kind.TheVariants as kinds
use Rattle.chorus_ui.specs.declared.ui.Ui.{Ui}
use Rattle.chorus_ui.specs.declared.layout.Layout.{Layout}
use Rattle.chorus_ui.specs.declared.limits.TheConstants.{GROUPS_PER_SITE_LIMIT, MEMBERS_LIMIT}
use Rattle.chorus_ui.specs.Layout.{has_site, has_actor, place_at, site_of}
use Rattle.chorus_entry.specs.declared.entry.Entry.{Entry}
use Rattle.chorus_entry.specs.declared.hand.Hand.{Hand}
use Rattle.chorus_entry.specs.declared.id.MsgId.{MsgId}
use Rattle.chorus_entry.specs.declared.tag.Tag.{Tag}
use Rattle.chorus_entry.specs.declared.dest.Dest.{Dest}
use Rattle.chorus_entry.specs.declared.command.Command.{Command}
use Rattle.chorus_entry.specs.declared.act.Act.{Act}
use Rattle.chorus_entry.specs.Places.{place_for}
use Rattle.chorus_entry.specs.Members.{is_member}
use Rattle.chorus_world.specs.Views.{at, by, on, is_group}
use Rattle.chorus_world.specs.Ports.{PortState, fate}
use Rattle.chorus_world.specs.Groups.{groups_made, members}
use Rattle.chorus_world.specs.Seats.{Call, posts, requests, call, first_call, hand}
use Rattle.chorus_world.specs.Steps.{next_number, is_full_of_ports}
use Rattle.chorus_world.specs.Runs.{is_held_at_by}

abbrev pub make_for : Layout → ℕ → List Entry → Ui → ℕ → Act
make_for l p here actor capacity =
    if not (has_actor l actor) then Act.NoActor actor
    else if is_full_of_ports l here then Act.MakeFull actor
    else Act.Make (record { site = actor.site; kind = kinds.Port; number = next_number l p here }) actor capacity

abbrev pub group_for : Layout → List Entry → ℕ → Act
group_for l here site =
    if not (has_site l site) then Act.NoSite site
    else if nat_le GROUPS_PER_SITE_LIMIT (groups_made here) then Act.GroupsFull site
    else Act.GroupMake (record { site = site; kind = kinds.Group; number = groups_made here + 1 })

abbrev pub join_for : List Entry → Ui → Ui → Act
join_for here g q =
    if not (is_group g here) then Act.NoGroup g
    else if is_member q (members g here) then Act.There g q
    else if nat_le MEMBERS_LIMIT (length (members g here)) then Act.MembersFull g
    else Act.Join g q

abbrev pub leave_for : List Entry → Ui → Ui → Act
leave_for here g q =
    if not (is_group g here) then Act.NoGroup g
    else if is_member q (members g here) then Act.Leave g q
    else Act.NotThere g q

abbrev pub take_first : Ui → ℕ → Option MsgId → Act
take_first q n None = Act.Empty q
take_first q n (Some x) = Act.Take q n x

abbrev pub take_from : Ui → Option PortState → Act
take_from q None = Act.NotHere q
take_from q (Some f) = take_first q f.taken (slice_get f.accepted f.taken)

abbrev pub delete_from : Ui → Option PortState → Act
delete_from q None = Act.NotHere q
delete_from q (Some f) = Act.Delete q (drop f.taken f.accepted)

-- the number of the port's next move, from 1 (its epoch)
abbrev pub hops : Option PortState → ℕ
hops None = 0
hops (Some f) = length f.path

abbrev pub move_from : Layout → ℕ → Ui → Ui → ℕ → Act
move_from l p q actor hop =
    if not (has_actor l actor) then Act.NoActor actor
    else if actor.site == site_of l p then Act.Rehome q actor
    else Act.Depart q (place_at l actor.site q) actor hop

-- where the caller's actor holds the port here; NotHere elsewhere
abbrev pub where_held : Ui → Bool → Act → Act
where_held q holds act = if holds then act else Act.NotHere q

abbrev pub next_post : ℕ → List Entry → Tag → List ℕ → Dest → Act
next_post k mine tag body d =
    Act.Post (record { id = record { seat = k; number = posts mine + 1; copy = 0 }; tag = tag; body = body }) d

abbrev pub call_for : ℕ → List Entry → Ui → Ui → List ℕ → Option ℕ → Act
call_for k mine q back body None = next_post k mine (Tag.Request (requests mine + 1) back) body (Dest.Port q)
call_for k mine q back body (Some n) = Act.Outstanding n

abbrev pub retry_as : ℕ → List Entry → ℕ → Option Call → Act
retry_as k mine n None = Act.NoCall
retry_as k mine n (Some c) = next_post k mine (Tag.Request n c.back) c.body (Dest.Port c.port)

abbrev pub retry_for : ℕ → List Entry → Option ℕ → Act
retry_for k mine None = Act.NoCall
retry_for k mine (Some n) = retry_as k mine n (first_call n mine)

abbrev pub cancel_for : Option ℕ → Act
cancel_for None = Act.NoCall
cancel_for (Some n) = Act.Cancel n

abbrev pub reply_for : ℕ → List Entry → List ℕ → Option Hand → Act
reply_for k mine body None = Act.NoRequest
reply_for k mine body (Some h) = next_post k mine (Tag.Reply h.client h.number) body (Dest.Port h.back)

-- the answer to a command of the seat k in the actor a at the place p
abbrev pub answer_at : Layout → List Entry → ℕ → ℕ → Ui → Command → Act
answer_at l past p k a (Command.Make actor capacity) = make_for l p (at p past) actor capacity
answer_at l past p k a (Command.Send d body) = next_post k (by k past) Tag.Plain body d
answer_at l past p k a (Command.Call q back body) = call_for k (by k past) q back body (call (by k past))
answer_at l past p k a Command.Retry = retry_for k (by k past) (call (by k past))
answer_at l past p k a Command.Cancel = cancel_for (call (by k past))
answer_at l past p k a (Command.Reply body) = reply_for k (by k past) body (hand past (by k past))
answer_at l past p k a (Command.Take q) =
    where_held q (is_held_at_by p a (fate (on q past))) (take_from q (fate (on q past)))
answer_at l past p k a (Command.Move q actor) =
    where_held q (is_held_at_by p a (fate (on q past))) (move_from l p q actor (hops (fate (on q past))))
answer_at l past p k a (Command.GroupMake site) = group_for l (at p past) site
answer_at l past p k a (Command.Join g q) = join_for (at p past) g q
answer_at l past p k a (Command.Leave g q) = leave_for (at p past) g q
answer_at l past p k a (Command.Delete q) =
    where_held q (is_held_at_by p a (fate (on q past))) (delete_from q (fate (on q past)))

abbrev pub answer_for : Layout → List Entry → ℕ → Ui → Command → Act
answer_for l past k a c = answer_at l past (place_for l a c) k a c
