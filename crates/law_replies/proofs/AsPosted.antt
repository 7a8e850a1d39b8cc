-- What was posted under an id, by the post of the id and by the entry that posted it; and that a place gives out what was posted.
-- A past has its newest entry first, x is an id, q a port, p the number of a place, f what became of a port.
use Rattle.std.proofs.Common.{ℕ, zero, suc, ◌≡◌, ◌==◌, Bool, true, false, cond, List, [], ◌∷◌, map, drop, Option, Some, None, slice_get, refl, sym, ◌∙◌, ap, inl, inr}
use Rattle.chorus_ui.specs.declared.ui.Ui.{Ui}
use Rattle.chorus_ui.specs.declared.layout.Layout.{Layout}
use Rattle.chorus_entry.specs.declared.entry.Entry.{Entry}
use Rattle.chorus_entry.specs.declared.id.MsgId.{MsgId}
use Rattle.chorus_entry.specs.declared.message.Message.{Message}
use Rattle.chorus_world.specs.declared.spot.Spot.{Spot}
use Rattle.chorus_world.specs.declared.spot.Spot.TheVariants as spots
use Rattle.chorus_world.specs.Views.{on, by}
use Rattle.chorus_world.specs.Ports.{PortState, fate, last_of}
use Rattle.chorus_world.specs.Posts.{Posted, post_of, posted_in, posted_by, source, as_posted}
use Rattle.chorus_world.specs.Steps.{is_legal}
use Rattle.chorus_world.specs.AcceptedLaws.{accepted_by, accepted_from}
use Rattle.chorus_world.proofs.Groups.ChoiceLemmas.{posted_is}
use Rattle.chorus_world.proofs.Messages.SendingLemmas.{from_or}
use Rattle.chorus_world.proofs.Messages.AcceptedLemmas.{accepted_posted}
use Rattle.chorus_world.proofs.Ports.LineLemmas.{none_some}
use Rattle.law_replies.proofs.Posts.{post-stands, stood-post}
use Rattle.law_machine.specs.Doing.{first_in, first_message}
use Rattle.law_network.specs.Records.{message, record_for, record_held, record_here, record_at}
use Rattle.law_network.proofs.Standing.Grows.{message-id}
use Rattle.law_replies.specs.AsPosted.{IsAsPosted}

-- the post of an id has the id of which it is a copy, or its own
pub found-id : (x : MsgId) (mine : List Entry) (d : Posted) → posted_in x mine ≡ Some d → d.message.id ≡ x
found-id x [] d h = none_some d h
found-id x (e ∷ mine) d h =
    elim (from_or (posted_in x mine) (posted_by x e.place e.act) d h) [
      | inl old ↦ found-id x mine d old
      | inr new ↦ (posted_is x e.place e.act d new.1).id
    ]

-- the message of the id as it was posted
pub as-posted : (past : List Entry) (m : Message) (d : Posted) → post_of m.id past ≡ Some d → m.tag ≡ d.message.tag → m.body ≡ d.message.body → IsAsPosted m past
as-posted past m d h tag body =
    let p = post-stands past m.id d h in
    record { entry = p.entry; message = d.message; dest = d.dest; stands = p.stands; posts = p.posts; id = found-id (source m.id) (by m.id.seat past) d h; tag = tag; body = body }

-- and no other one is
pub record IsPostOf (m : Message) (past : List Entry) : Type 0 where
  pub post : Posted
  pub is : post_of m.id past ≡ Some post
  pub tag : m.tag ≡ post.message.tag
  pub body : m.body ≡ post.message.body

pub post-of : (l : Layout) (past : List Entry) (m : Message) → is_legal l past ≡ true → IsAsPosted m past → IsPostOf m past
post-of l past m legal h =
    let d : Posted = record { place = h.entry.place; message = h.message; dest = h.dest } in
    let found : post_of h.message.id past ≡ Some d = (stood-post l past h.entry h.message h.dest legal h.stands h.posts).0 in
    record { post = d; is = ap (λ x. post_of x past) (sym h.id) ∙ found; tag = h.tag; body = h.body }

-- of one id one message was posted
pub one-message : (past : List Entry) (m n : Message) → IsPostOf m past → IsPostOf n past → m.id ≡ n.id → m ≡ n
one-message past m n a b same =
    let both : Some a.post ≡ Some b.post = sym a.is ∙ (ap (λ x. post_of x past) same ∙ b.is) in
    let post : a.post ≡ b.post = cc in
    let tag : m.tag ≡ n.tag = a.tag ∙ (ap (λ (d : Posted). d.message.tag) post ∙ sym b.tag) in
    let body : m.body ≡ n.body = a.body ∙ (ap (λ (d : Posted). d.message.body) post ∙ sym b.body) in
    λ i. record { id = same i; tag = tag i; body = body i }

-- What a place gives out.

dropped : {X : Type 0} (k : ℕ) (xs ys : List X) (y : X) → drop k xs ≡ y ∷ ys → slice_get xs k ≡ Some y
dropped zero [] ys y h = absurd (cc)
dropped zero (x ∷ xs) ys y h = let same : x ≡ y = cc in ap (λ z. Some z) same
dropped (suc k) [] ys y h = absurd (cc)
dropped (suc k) (x ∷ xs) ys y h = dropped k xs ys y h

-- the message that a record has first is one that the port accepted
pub record IsGiven (past : List Entry) (q : Ui) (m : Message) : Type 0 where
  pub id : MsgId
  pub position : ℕ
  pub accepted : slice_get (accepted_by q past) position ≡ Some id
  pub is : m ≡ message past id

first-given : (past : List Entry) (q : Ui) (p : ℕ) (m : Message) → first_message (record_at past q p) ≡ Some m → IsGiven past q m
first-given past q p m = by (fate (on q past)) refl
  where
    line : List Entry
    line = on q past

    first : (f : PortState) (xs : List MsgId) → fate (on q past) ≡ Some f → drop f.taken f.accepted ≡ xs → first_in (map (message past) xs) ≡ Some m → IsGiven past q m
    first f [] e d h = absurd (cc)
    first f (x ∷ xs) e d h =
        let is : message past x ≡ m = cc in
        record { id = x; position = f.taken; accepted = ap (λ o. slice_get (accepted_from o) f.taken) e ∙ dropped f.taken f.accepted xs x d; is = sym is }

    here : (f : PortState) (actor : Ui) (b : Bool) → fate (on q past) ≡ Some f → first_message (cond b (Some (record_for past line q actor f)) None) ≡ Some m → IsGiven past q m
    here f actor true e h = first f (drop f.taken f.accepted) e refl h
    here f actor false e h = absurd (cc)

    spot : (f : PortState) (s : Spot) → fate (on q past) ≡ Some f → first_message (record_held past line q p f s) ≡ Some m → IsGiven past q m
    spot f (spots.Held actor) e h = here f actor (last_of 0 f.path == p) e h
    spot f (spots.Moving actor) e h = absurd (cc)
    spot f spots.Ended e h = absurd (cc)

    by : (o : Option PortState) → fate (on q past) ≡ o → first_message (record_here past line q p o) ≡ Some m → IsGiven past q m
    by None e h = absurd (cc)
    by (Some f) e h = spot f f.spot e h

-- so it is as it was posted
pub first-posted : (l : Layout) (past : List Entry) (q : Ui) (p : ℕ) (m : Message) → is_legal l past ≡ true → first_message (record_at past q p) ≡ Some m → IsPostOf m past
first-posted l past q p m legal h =
    let g = first-given past q p m h in
    let d = accepted_posted l past q g.position g.id legal g.accepted in
    let id : m.id ≡ g.id = ap (λ (z : Message). z.id) g.is ∙ message-id past g.id in
    let is : m ≡ as_posted g.id (Some d.0) = g.is ∙ ap (as_posted g.id) d.1 in
    record { post = d.0; is = ap (λ x. post_of x past) id ∙ d.1; tag = ap (λ (z : Message). z.tag) is; body = ap (λ (z : Message). z.body) is }
