-- What was posted stays: what is read of the posts of the past does not change with one entry more.
use Rattle.chorus_world.specs.Clients.{clients_kept}
use Rattle.std.proofs.Common.{ℕ, zero, suc, ◌≡◌, ◌==◌, ◌-◌, false, cond, List, [], ◌∷◌, length, drop, map, Option, Some, None, refl, sym, ◌∙◌, ap}
use Rattle.chorus_ui.specs.declared.ui.Ui.{Ui}
use Rattle.chorus_ui.specs.declared.layout.Layout.{Layout}
use Rattle.chorus_entry.specs.declared.entry.Entry.{Entry}
use Rattle.chorus_entry.specs.declared.id.MsgId.{MsgId}
use Rattle.chorus_entry.specs.declared.message.Message.{Message}
use Rattle.chorus_entry.specs.declared.packet.Cargo.{Cargo}
use Rattle.chorus_entry.specs.declared.record.PortRecord.{PortRecord}
use Rattle.chorus_entry.specs.Dest.{group_in}
use Rattle.chorus_world.specs.declared.place.Sent.{Sent}
use Rattle.chorus_world.specs.declared.spot.Spot.{Spot}
use Rattle.chorus_world.specs.declared.spot.Spot.TheVariants.{Held, Moving, Ended}
use Rattle.chorus_world.specs.declared.progress.Progress.{Progress}
use Rattle.chorus_world.specs.declared.progress.Progress.TheVariants.{Idle, Asked, Tried, Decided, Settled, Reported}
use Rattle.chorus_world.specs.Views.{about}
use Rattle.chorus_world.specs.Ports.{PortState, fate, last_of}
use Rattle.chorus_world.specs.Posts.{Posted, post_of, site_from, as_posted}
use Rattle.chorus_world.specs.Messages.{progress}
use Rattle.chorus_world.specs.Places.{last_clock}
use Rattle.chorus_world.specs.Seats.{hand}
use Rattle.chorus_world.proofs.Messages.Posted.{IsPosted, AllPosted, EachPosted, AcceptedPosted, accepted_posted, busy_posted, is_idle}
use Rattle.chorus_world.proofs.Sorted.Agreement.{hand_agrees, clients_agree}
use Rattle.chorus_world.proofs.Messages.Growing.{goes-on, post-grows}
use Rattle.chorus_world.proofs.Messages.SendingLemmas.{sent_as, sent_stays}
use Rattle.chorus_world.proofs.Messages.StageLemmas.{Stage, MessageFacts}
use Rattle.place_unsettled.specs.declared.wait.Wait.{Wait}
use Rattle.law_machine.specs.declared.outgoing.Outgoing.{Outgoing}
use Rattle.law_network.specs.Records.{message, home_from, record_for, record_held, record_here, record_by, as_wait}
use Rattle.law_network.specs.UnderWay.{packet, route, route_in, far_place, reported_as, under_way_as, under_way, before_last, transfer_in, transfer_of, transfer_by}

pub message-grows : (e : Entry) (past : List Entry) (x : MsgId) → IsPosted past x → message (e ∷ past) x ≡ message past x
message-grows e past x p = ap (as_posted x) (post-grows e past x p)

pub message-id : (past : List Entry) (x : MsgId) → (message past x).id ≡ x
message-id past x = by (post_of x past)
  where
    by : (o : Option Posted) → (as_posted x o).id ≡ x
    by None = refl
    by (Some m) = refl

-- a message that waits
abbrev wait-of : Sent → Option Posted → Wait
wait-of m o = record { message = as_posted m.id o; only = site_from o; home = home_from o }

pub wait-grows : (e : Entry) (past : List Entry) (m : Sent) → IsPosted past m.id → as_wait (e ∷ past) m ≡ as_wait past m
wait-grows e past m p = ap (wait-of m) (post-grows e past m.id p)

-- Records.

each-drop : (past : List Entry) (n : ℕ) (xs : List MsgId) → EachPosted past xs → EachPosted past (drop n xs)
each-drop past zero [] h = tt
each-drop past zero (x ∷ xs) h = h
each-drop past (suc n) [] h = tt
each-drop past (suc n) (x ∷ xs) h = each-drop past n xs h.1

pub messages-grow : (e : Entry) (past : List Entry) (xs : List MsgId) → EachPosted past xs → map (message (e ∷ past)) xs ≡ map (message past) xs
messages-grow e past [] h = refl
messages-grow e past (x ∷ xs) h =
    ap (λ m. m ∷ map (message (e ∷ past)) xs) (message-grows e past x h.0) ∙ ap (λ ms. message past x ∷ ms) (messages-grow e past xs h.1)

pub clients-grow : (e : Entry) (past line : List Entry) → AllPosted past line → clients_kept (e ∷ past) line ≡ clients_kept past line
clients-grow e past line h = clients_agree (e ∷ past) past line (goes-on e past) h

abbrev record-of : Ui → Ui → PortState → List Message → List (ℕ × ℕ) → PortRecord
record-of q actor f ms ks =
    record { ui = q; actor = actor; capacity = f.capacity; hop = length f.path - 1; first = f.taken; pending = ms; clients = ks }

pub record-grows : (e : Entry) (past line : List Entry) (q actor : Ui) (f : PortState) → AllPosted past line → EachPosted past f.accepted → record_for (e ∷ past) line q actor f ≡ record_for past line q actor f
record-grows e past line q actor f h k =
    ap (λ ms. record-of q actor f ms (clients_kept (e ∷ past) line)) (messages-grow e past (drop f.taken f.accepted) (each-drop past f.taken f.accepted k))
    ∙ ap (λ ks. record-of q actor f (map (message past) (drop f.taken f.accepted)) ks) (clients-grow e past line h)

held-grows : (e : Entry) (past line : List Entry) (q : Ui) (p : ℕ) (f : PortState) (s : Spot) → AllPosted past line → EachPosted past f.accepted → record_held (e ∷ past) line q p f s ≡ record_held past line q p f s
held-grows e past line q p f (Held a) h k = ap (λ r. cond (last_of 0 f.path == p) (Some r) None) (record-grows e past line q a f h k)
held-grows e past line q p f (Moving a) h k = refl
held-grows e past line q p f Ended h k = refl

here-grows : (e : Entry) (past line : List Entry) (q : Ui) (p : ℕ) (o : Option PortState) → AllPosted past line → AcceptedPosted past o → record_here (e ∷ past) line q p o ≡ record_here past line q p o
here-grows e past line q p None h k = refl
here-grows e past line q p (Some f) h k = held-grows e past line q p f f.spot h k

-- the record of the port of this line
pub shown-grows : (e : Entry) (past line : List Entry) (q : Ui) (p : ℕ) → AllPosted past line → record_by (e ∷ past) line q p ≡ record_by past line q p
shown-grows e past line q p h = here-grows e past line q p (fate line) h (accepted_posted past line h)

in-grows : (e : Entry) (past line : List Entry) (q : Ui) (f : PortState) (s : Spot) → AllPosted past line → EachPosted past f.accepted → transfer_in (e ∷ past) line q f s ≡ transfer_in past line q f s
in-grows e past line q f (Held a) h k = refl
in-grows e past line q f (Moving a) h k =
    ap (λ r. packet (before_last 0 0 f.path) (last_of 0 f.path) (last_clock line) (Cargo.Transfer r) ∷ []) (record-grows e past line q a f h k)
in-grows e past line q f Ended h k = refl

of-grows : (e : Entry) (past line : List Entry) (q : Ui) (o : Option PortState) → AllPosted past line → AcceptedPosted past o → transfer_of (e ∷ past) line q o ≡ transfer_of past line q o
of-grows e past line q None h k = refl
of-grows e past line q (Some f) h k = in-grows e past line q f f.spot h k

pub transfer-grows : (e : Entry) (past line : List Entry) (q : Ui) → AllPosted past line → transfer_by (e ∷ past) line q ≡ transfer_by past line q
transfer-grows e past line q h = of-grows e past line q (fate line) h (accepted_posted past line h)

-- What is under way of a message.

pub route-grows : (e : Entry) (past : List Entry) (x : MsgId) (p : ℕ) (m : Sent) → sent_as x p past ≡ Some m → route (e ∷ past) x p ≡ route past x p
route-grows e past x p m h = ap route_in (sent_stays x p past e m h ∙ sym h)

way-grows : (l : Layout) (e : Entry) (past : List Entry) (x : MsgId) (c : ℕ) (s : Progress) → (is_idle s ≡ false → IsPosted past x) → Stage x past s → under_way_as l (e ∷ past) x c s ≡ under_way_as l past x c s
way-grows l e past x c Idle p k = refl
way-grows l e past x c (Asked from d) p k = ap (λ o. asked-by o (far_place l from (group_in d))) (post-grows e past x (p refl))
  where
    asked-by : Option Posted → Option ℕ → List Outgoing
    asked-by o None = []
    asked-by o (Some r) = packet from r c (Cargo.Ask (as_posted x o) d) ∷ []
way-grows l e past x c (Tried from q to hop) p k =
    ap (λ o. packet from to c (Cargo.Try (as_posted x o) q (route (e ∷ past) x from) (site_from o) hop) ∷ []) (post-grows e past x (p refl))
    ∙ ap (λ r. packet from to c (Cargo.Try (message past x) q r (site_from (post_of x past)) hop) ∷ []) (route-grows e past x from k.1.message k.1.is)
way-grows l e past x c (Decided from b q a) p k =
    ap (λ r. packet b from c (Cargo.Verdict x q r a) ∷ []) (route-grows e past x from k.2.message k.2.is)
way-grows l e past x c (Settled a) p k = ap (reported_as l x c a) (post-grows e past x (p refl))
way-grows l e past x c Reported p k = refl

-- while nothing new stands about it
pub under-grows : (l : Layout) (e : Entry) (past : List Entry) (x : MsgId) → AllPosted past past → MessageFacts x past
    → under_way_as l (e ∷ past) x (last_clock (about x past)) (progress (about x past)) ≡ under_way l past x
under-grows l e past x all f =
    way-grows l e past x (last_clock (about x past)) (progress (about x past)) (busy_posted past x all) f.stage

pub hand-grows : (e : Entry) (past mine : List Entry) → AllPosted past mine → hand (e ∷ past) mine ≡ hand past mine
hand-grows e past mine h = hand_agrees (e ∷ past) past mine (goes-on e past) h
