-- The acts that answer a command, each with the tests that it stands behind. A property of own acts is one list of cases.
-- t is the turn, q a port, g a group.
use Rattle.std.proofs.Common.{ℕ, ◌≡◌, ◌+◌, ◌==◌, nat_le, Bool, true, false, not, cond, List, [], ◌∷◌, map, length, Option, Some, None, refl, sym, ◌∙◌, ap}
use Rattle.chorus_ui.specs.declared.ui.Ui.{Ui}
use Rattle.chorus_ui.specs.declared.limits.TheConstants.{GROUPS_PER_SITE_LIMIT, MEMBERS_LIMIT}
use Rattle.chorus_ui.specs.Name.{same_ui}
use Rattle.chorus_ui.proofs.Names.{from_same_ui}
use Rattle.chorus_ui.specs.Layout.{has_site, has_actor, place_at, site_of}
use Rattle.chorus_entry.specs.declared.hand.Hand.{Hand}
use Rattle.chorus_entry.specs.declared.tag.Tag.{Tag}
use Rattle.chorus_entry.specs.declared.dest.Dest.{Dest}
use Rattle.chorus_entry.specs.declared.message.Message.{Message}
use Rattle.chorus_entry.specs.declared.command.Command.{Command}
use Rattle.chorus_entry.specs.declared.act.Act.{Act}
use Rattle.chorus_entry.specs.declared.record.PortRecord.{PortRecord}
use Rattle.chorus_entry.specs.Members.{is_member}
use Rattle.chorus_world.specs.Views.{is_group}
use Rattle.chorus_world.specs.Groups.{groups_made, members}
use Rattle.chorus_world.specs.Steps.{is_full_of_ports}
use Rattle.chorus_ports.specs.declared.taking.Taken.{Taken}
use Rattle.chorus_ports.specs.declared.taking.Taken.TheVariants as takes
use Rattle.chorus_ports.specs.Table.{find}
use Rattle.chorus_ports.specs.Taking.{first_at, taken}
use Rattle.chorus_calls.specs.Clients.{Call}
use Rattle.law_machine.specs.PlaceState.{Turn}
use Rattle.law_machine.specs.Own.{own, next_port, next_group, take_act, held_by, move_act, delete_act, next_message, call_act, retry_act, cancel_act, reply_act}

-- the caller's outstanding call, what it takes from the port, and the record of the port that its actor holds
abbrev pub call_of : Turn → Option Call
call_of t = t.caller.client.outstanding

abbrev pub taken_of : Ui → Turn → Taken
taken_of q t = taken t.caller.actor (find q t.place.ports)

abbrev pub held_of : Ui → Turn → Option PortRecord
held_of q t = held_by t.caller.actor (find q t.place.ports)

pub data IsOwn (t : Turn) : Command → Act → Type 0 where
  NoMaker : (actor : Ui) (capacity : ℕ) → has_actor t.place.layout actor ≡ false → IsOwn t (Command.Make actor capacity) (Act.NoActor actor)
  MakesNone : (actor : Ui) (capacity : ℕ) → is_full_of_ports t.place.layout t.place.journal ≡ true → IsOwn t (Command.Make actor capacity) (Act.MakeFull actor)
  Makes : (actor : Ui) (capacity : ℕ) → has_actor t.place.layout actor ≡ true → is_full_of_ports t.place.layout t.place.journal ≡ false
      → IsOwn t (Command.Make actor capacity) (Act.Make (next_port t.place actor) actor capacity)
  Sends : (d : Dest) (body : List ℕ) → IsOwn t (Command.Send d body) (Act.Post (next_message Tag.Plain body t.caller) d)
  Calls : (q back : Ui) (body : List ℕ) → call_of t ≡ None
      → IsOwn t (Command.Call q back body) (Act.Post (next_message (Tag.Request (t.caller.client.given + 1) back) body t.caller) (Dest.Port q))
  CallsNone : (q back : Ui) (body : List ℕ) (call : Call) → call_of t ≡ Some call → IsOwn t (Command.Call q back body) (Act.Outstanding call.number)
  Retries : (call : Call) → call_of t ≡ Some call
      → IsOwn t Command.Retry (Act.Post (next_message (Tag.Request call.number call.back) call.body t.caller) (Dest.Port call.port))
  RetriesNone : call_of t ≡ None → IsOwn t Command.Retry Act.NoCall
  Cancels : (call : Call) → call_of t ≡ Some call → IsOwn t Command.Cancel (Act.Cancel call.number)
  CancelsNone : call_of t ≡ None → IsOwn t Command.Cancel Act.NoCall
  Replies : (body : List ℕ) (hand : Hand) → t.caller.hand ≡ Some hand
      → IsOwn t (Command.Reply body) (Act.Post (next_message (Tag.Reply hand.client hand.number) body t.caller) (Dest.Port hand.back))
  RepliesNone : (body : List ℕ) → t.caller.hand ≡ None → IsOwn t (Command.Reply body) Act.NoRequest
  Takes : (q : Ui) (position : ℕ) (m : Message) → taken_of q t ≡ takes.Message position m → IsOwn t (Command.Take q) (Act.Take q position m.id)
  TakesEmpty : (q : Ui) → taken_of q t ≡ takes.Empty → IsOwn t (Command.Take q) (Act.Empty q)
  TakesNone : (q : Ui) → taken_of q t ≡ takes.NotHere → IsOwn t (Command.Take q) (Act.NotHere q)
  MovesNone : (q actor : Ui) → held_of q t ≡ None → IsOwn t (Command.Move q actor) (Act.NotHere q)
  NoMover : (q actor : Ui) (port : PortRecord) → held_of q t ≡ Some port → has_actor t.place.layout actor ≡ false → IsOwn t (Command.Move q actor) (Act.NoActor actor)
  Rehomes : (q actor : Ui) (port : PortRecord) → held_of q t ≡ Some port → has_actor t.place.layout actor ≡ true
      → (actor.site == site_of t.place.layout t.place.number) ≡ true → IsOwn t (Command.Move q actor) (Act.Rehome q actor)
  Departs : (q actor : Ui) (port : PortRecord) → held_of q t ≡ Some port → has_actor t.place.layout actor ≡ true
      → (actor.site == site_of t.place.layout t.place.number) ≡ false
      → IsOwn t (Command.Move q actor) (Act.Depart q (place_at t.place.layout actor.site q) actor (port.hop + 1))
  NoSite : (site : ℕ) → has_site t.place.layout site ≡ false → IsOwn t (Command.GroupMake site) (Act.NoSite site)
  GroupsNone : (site : ℕ) → nat_le GROUPS_PER_SITE_LIMIT (groups_made t.place.journal) ≡ true → IsOwn t (Command.GroupMake site) (Act.GroupsFull site)
  Groups : (site : ℕ) → has_site t.place.layout site ≡ true → nat_le GROUPS_PER_SITE_LIMIT (groups_made t.place.journal) ≡ false
      → IsOwn t (Command.GroupMake site) (Act.GroupMake (next_group t.place site))
  JoinsNone : (g q : Ui) → is_group g t.place.journal ≡ false → IsOwn t (Command.Join g q) (Act.NoGroup g)
  JoinsAgain : (g q : Ui) → is_member q (members g t.place.journal) ≡ true → IsOwn t (Command.Join g q) (Act.There g q)
  JoinsFull : (g q : Ui) → nat_le MEMBERS_LIMIT (length (members g t.place.journal)) ≡ true → IsOwn t (Command.Join g q) (Act.MembersFull g)
  Joins : (g q : Ui) → is_group g t.place.journal ≡ true → is_member q (members g t.place.journal) ≡ false
      → nat_le MEMBERS_LIMIT (length (members g t.place.journal)) ≡ false → IsOwn t (Command.Join g q) (Act.Join g q)
  LeavesNone : (g q : Ui) → is_group g t.place.journal ≡ false → IsOwn t (Command.Leave g q) (Act.NoGroup g)
  Leaves : (g q : Ui) → is_group g t.place.journal ≡ true → is_member q (members g t.place.journal) ≡ true → IsOwn t (Command.Leave g q) (Act.Leave g q)
  LeavesNot : (g q : Ui) → is_member q (members g t.place.journal) ≡ false → IsOwn t (Command.Leave g q) (Act.NotThere g q)
  DeletesNone : (q : Ui) → held_of q t ≡ None → IsOwn t (Command.Delete q) (Act.NotHere q)
  Deletes : (q : Ui) (port : PortRecord) → held_of q t ≡ Some port → IsOwn t (Command.Delete q) (Act.Delete q (map (λ (m : Message). m.id) port.pending))

pub is-own : (c : Command) (t : Turn) → IsOwn t c (own c t)
is-own (Command.Make actor capacity) t = by (has_actor t.place.layout actor) (is_full_of_ports t.place.layout t.place.journal) refl refl
  where
    by : (a f : Bool) → has_actor t.place.layout actor ≡ a → is_full_of_ports t.place.layout t.place.journal ≡ f
        → IsOwn t (Command.Make actor capacity) (cond (not a) (Act.NoActor actor) (cond f (Act.MakeFull actor) (Act.Make (next_port t.place actor) actor capacity)))
    by false f e h = NoMaker actor capacity e
    by true true e h = MakesNone actor capacity h
    by true false e h = Makes actor capacity e h
is-own (Command.Send d body) t = Sends d body
is-own (Command.Call q back body) t = by (call_of t) refl
  where
    by : (o : Option Call) → call_of t ≡ o → IsOwn t (Command.Call q back body) (call_act q back body t.caller o)
    by None e = Calls q back body e
    by (Some call) e = CallsNone q back body call e
is-own Command.Retry t = by (call_of t) refl
  where
    by : (o : Option Call) → call_of t ≡ o → IsOwn t Command.Retry (retry_act t.caller o)
    by None e = RetriesNone e
    by (Some call) e = Retries call e
is-own Command.Cancel t = by (call_of t) refl
  where
    by : (o : Option Call) → call_of t ≡ o → IsOwn t Command.Cancel (cancel_act o)
    by None e = CancelsNone e
    by (Some call) e = Cancels call e
is-own (Command.Reply body) t = by t.caller.hand refl
  where
    by : (o : Option Hand) → t.caller.hand ≡ o → IsOwn t (Command.Reply body) (reply_act body t.caller o)
    by None e = RepliesNone body e
    by (Some hand) e = Replies body hand e
is-own (Command.Take q) t = by (taken_of q t) refl
  where
    by : (o : Taken) → taken_of q t ≡ o → IsOwn t (Command.Take q) (take_act q o)
    by (takes.Message position m) e = Takes q position m e
    by takes.Empty e = TakesEmpty q e
    by takes.NotHere e = TakesNone q e
is-own (Command.Move q actor) t = by (held_of q t) refl
  where
    held : (port : PortRecord) → held_of q t ≡ Some port → (a b : Bool) → has_actor t.place.layout actor ≡ a → (actor.site == site_of t.place.layout t.place.number) ≡ b
        → IsOwn t (Command.Move q actor) (cond (not a) (Act.NoActor actor) (cond b (Act.Rehome q actor) (Act.Depart q (place_at t.place.layout actor.site q) actor (port.hop + 1))))
    held port e false b h k = NoMover q actor port e h
    held port e true true h k = Rehomes q actor port e h k
    held port e true false h k = Departs q actor port e h k

    by : (o : Option PortRecord) → held_of q t ≡ o → IsOwn t (Command.Move q actor) (move_act q actor t.place o)
    by None e = MovesNone q actor e
    by (Some port) e = held port e (has_actor t.place.layout actor) (actor.site == site_of t.place.layout t.place.number) refl refl
is-own (Command.GroupMake site) t = by (has_site t.place.layout site) (nat_le GROUPS_PER_SITE_LIMIT (groups_made t.place.journal)) refl refl
  where
    by : (a f : Bool) → has_site t.place.layout site ≡ a → nat_le GROUPS_PER_SITE_LIMIT (groups_made t.place.journal) ≡ f
        → IsOwn t (Command.GroupMake site) (cond (not a) (Act.NoSite site) (cond f (Act.GroupsFull site) (Act.GroupMake (next_group t.place site))))
    by false f e h = NoSite site e
    by true true e h = GroupsNone site h
    by true false e h = Groups site e h
is-own (Command.Join g q) t = by (is_group g t.place.journal) (is_member q (members g t.place.journal)) (nat_le MEMBERS_LIMIT (length (members g t.place.journal))) refl refl refl
  where
    by : (a b f : Bool) → is_group g t.place.journal ≡ a → is_member q (members g t.place.journal) ≡ b → nat_le MEMBERS_LIMIT (length (members g t.place.journal)) ≡ f
        → IsOwn t (Command.Join g q) (cond (not a) (Act.NoGroup g) (cond b (Act.There g q) (cond f (Act.MembersFull g) (Act.Join g q))))
    by false b f e h k = JoinsNone g q e
    by true true f e h k = JoinsAgain g q h
    by true false true e h k = JoinsFull g q k
    by true false false e h k = Joins g q e h k
is-own (Command.Leave g q) t = by (is_group g t.place.journal) (is_member q (members g t.place.journal)) refl refl
  where
    by : (a b : Bool) → is_group g t.place.journal ≡ a → is_member q (members g t.place.journal) ≡ b
        → IsOwn t (Command.Leave g q) (cond (not a) (Act.NoGroup g) (cond b (Act.Leave g q) (Act.NotThere g q)))
    by false b e h = LeavesNone g q e
    by true true e h = Leaves g q e h
    by true false e h = LeavesNot g q h
is-own (Command.Delete q) t = by (held_of q t) refl
  where
    by : (o : Option PortRecord) → held_of q t ≡ o → IsOwn t (Command.Delete q) (delete_act q o)
    by None e = DeletesNone q e
    by (Some port) e = Deletes q port e

-- What is held, and what is taken first.

pub held-is : (actor : Ui) (o : Option PortRecord) (r : PortRecord) → held_by actor o ≡ Some r → (o ≡ Some r) × (r.actor ≡ actor)
held-is actor None r e = absurd (cc)
held-is actor (Some x) r e = by (same_ui x.actor actor) refl e
  where
    by : (b : Bool) → same_ui x.actor actor ≡ b → cond b (Some x) None ≡ Some r → (Some x ≡ Some r) × (r.actor ≡ actor)
    by true s e = (let same : x ≡ r = cc in (e, ap (λ (z : PortRecord). z.actor) (sym same) ∙ from_same_ui x.actor actor s))
    by false s e = absurd (cc)

pub record TakesFirst (actor : Ui) (o : Option PortRecord) (position : ℕ) (m : Message) : Type 0 where
  pub port : PortRecord
  pub found : o ≡ Some port
  pub mine : port.actor ≡ actor
  pub first : port.first ≡ position
  pub rest : List Message
  pub pending : port.pending ≡ m ∷ rest

pub takes-first : (actor : Ui) (o : Option PortRecord) (position : ℕ) (m : Message) → taken actor o ≡ takes.Message position m → TakesFirst actor o position m
takes-first actor None position m e = absurd (cc)
takes-first actor (Some r) position m e = by (same_ui r.actor actor) refl e
  where
    first : (ms : List Message) → r.pending ≡ ms → r.actor ≡ actor → first_at r.first ms ≡ takes.Message position m → TakesFirst actor (Some r) position m
    first [] p s e = absurd (cc)
    first (x ∷ ms) p s e =
        (let place : r.first ≡ position = cc in
        let same : x ≡ m = cc in
        record { port = r; found = refl; mine = s; first = place; rest = ms; pending = p ∙ ap (λ y. y ∷ ms) same })

    by : (b : Bool) → same_ui r.actor actor ≡ b → cond b (first_at r.first r.pending) takes.NotHere ≡ takes.Message position m → TakesFirst actor (Some r) position m
    by true s e = first r.pending refl (from_same_ui r.actor actor s) e
    by false s e = absurd (cc)

pub takes-empty : (actor : Ui) (o : Option PortRecord) → taken actor o ≡ takes.Empty → (r : PortRecord) × (o ≡ Some r)
takes-empty actor None e = absurd (cc)
takes-empty actor (Some r) e = (r, refl)
