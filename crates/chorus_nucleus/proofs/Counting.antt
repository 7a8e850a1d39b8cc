-- What a turn counts of its caller's posts and calls.
-- t is a turn before, u after, c the caller.
use Rattle.std.proofs.Common.{◌≡◌, ℕ, ◌+◌, ◌≤◌, Option, Some, None, refl, ap, arith}
use Rattle.chorus_ui.specs.declared.ui.Ui.{Ui}
use Rattle.chorus_entry.specs.declared.id.MsgId.{MsgId}
use Rattle.chorus_entry.specs.declared.dest.Dest.{Dest}
use Rattle.chorus_entry.specs.declared.tag.Tag.{Tag}
use Rattle.chorus_entry.specs.declared.tag.Tag.TheVariants as tags
use Rattle.chorus_entry.specs.declared.message.Message.{Message}
use Rattle.chorus_entry.specs.declared.command.Command.{Command}
use Rattle.chorus_entry.specs.declared.act.Act.{Act}
use Rattle.chorus_entry.specs.declared.packet.Packet.{Packet}
use Rattle.chorus_calls.specs.Clients.{Call, with_call as client_with}
use Rattle.chorus_calls.specs.Callers.{Seated, after_post}
use Rattle.chorus_ports.specs.Table.{find}
use Rattle.law_machine.specs.PlaceState.{PlaceState, Turn}
use Rattle.law_machine.specs.PlaceMachine.{begun, begun_by}
use Rattle.law_machine.specs.Own.{own}
use Rattle.law_machine.specs.Doing.{poster, after_tag, holding, first_message}
use Rattle.law_machine.proofs.Machine.Stays.{act-stays, work-stays}
use Rattle.law_machine.proofs.Machine.Steps.{holder, own_change, follows-works, does-gives, work-keeps}
use Rattle.law_machine.proofs.Machine.Follows.{still-counts}
use Rattle.law_history.specs.declared.turns.Input.{Input}
use Rattle.law_history.specs.PlaceTurns.{turn}
use Rattle.chorus_nucleus.specs.SiteTurns.Turning.{HasSeenMore}
use Rattle.chorus_nucleus.specs.Calls.{Grows, Stays}

-- at most one post and one call more
abbrev PostedBy : Seated → Seated → Type 0
PostedBy c d = (d.posts ≤ c.posts + 1) × (d.client.given ≤ c.client.given + 1)

poster-more : (m : Message) (d : Dest) (c : Seated) → PostedBy c (poster m d c)
poster-more m (Dest.All g) c = (omega arith, omega arith)
poster-more m (Dest.One g) c = (omega arith, omega arith)
poster-more m (Dest.OneAt g site) c = (omega arith, omega arith)
poster-more m (Dest.Port q) c = by m.tag
  where
    begins : (o : Option Call) (back : Ui) → (client_with o c.client q back m.body).given ≤ c.client.given + 1
    begins None back = omega arith
    begins (Some call) back = omega arith

    by : (tag : Tag) → PostedBy c (after_post (after_tag tag q m.body c))
    by tags.Plain = (omega arith, omega arith)
    by (tags.Request number back) = (omega arith, begins c.client.outstanding back)
    by (tags.Reply client number) = (omega arith, omega arith)

holding-more : (x : MsgId) (tag : Tag) (c : Seated) → PostedBy c (holding x tag c)
holding-more x tags.Plain c = (omega arith, omega arith)
holding-more x (tags.Request number back) c = (omega arith, omega arith)
holding-more x (tags.Reply client number) c = (omega arith, omega arith)

holder-more : (o : Option Message) (c : Seated) → PostedBy c (holder o c)
holder-more None c = (omega arith, omega arith)
holder-more (Some m) c = holding-more m.id m.tag c

own-more : (a : Act) (t : Turn) → PostedBy t.caller (own_change a t).caller
own-more (Act.Post m d) t = poster-more m d t.caller
own-more (Act.Take q position x) t = holder-more (first_message (find q t.place.ports)) t.caller
own-more _ t = (omega arith, omega arith)

-- a command counts at most one post and one call more
pub command-grows : (c : Command) (s : PlaceState) (w : Seated) → Grows w (turn (Input.Command c) s w).caller
command-grows c s w =
    (let t = begun s w in
    let more = does-gives (λ u. PostedBy w u.caller) (λ x u f. still-counts (λ posts given. (posts ≤ w.posts + 1) × (given ≤ w.client.given + 1)) x u (follows-works x u f)) (own c t) t (own-more (own c t) t) (λ m d to is. poster-more m d w) in
    let of = act-stays c t in
    record { seat = of.seat; actor = of.actor; posts = more.0; given = more.1 })

-- a packet counts none
pub packet-stays : (a : ℕ) (k : Packet) (s : PlaceState) (w : Seated) → Stays w (turn (Input.Packet a k) s w).caller
packet-stays a k s w =
    (let t = begun_by s w k in
    let same = work-keeps (λ u. (u.caller.posts ≡ w.posts) × (u.caller.client.given ≡ w.client.given)) (still-counts (λ posts given. (posts ≡ w.posts) × (given ≡ w.client.given))) k t (refl, refl) in
    let of = work-stays k t in
    record { seat = of.seat; actor = of.actor; posts = same.0; given = same.1 })

pub grows-none : (w x : Seated) → HasSeenMore w x → Grows w x
grows-none w x e = record {
  seat = ap (λ (z : Seated). z.seat) e;
  actor = ap (λ (z : Seated). z.actor) e;
  posts = (let n = ap (λ (z : Seated). z.posts) e in omega (arith, n));
  given = (let n = ap (λ (z : Seated). z.client.given) e in omega (arith, n));
}

pub stays-none : (w x : Seated) → HasSeenMore w x → Stays w x
stays-none w x e = record {
  seat = ap (λ (z : Seated). z.seat) e;
  actor = ap (λ (z : Seated). z.actor) e;
  posts = ap (λ (z : Seated). z.posts) e;
  given = ap (λ (z : Seated). z.client.given) e;
}
