-- What a place knows of locations, what waits there and what it may hear of, after one entry more.
use Rattle.std.proofs.Common.{ℕ, ◌≡◌, ◌==◌, Bool, true, false, ◌&&◌, ◌||◌, not, cond, List, [], ◌∷◌, Option, Some, None, refl, sym, ◌∙◌, ap}
use Rattle.std.specs.List.{filter}
use Rattle.std.specs.Option.{option_or}
use Rattle.std.proofs.lemmas.Bool.{true≢false}
use Rattle.chorus_ui.specs.declared.ui.Ui.{Ui}
use Rattle.chorus_ui.specs.declared.layout.Layout.{Layout}
use Rattle.chorus_entry.specs.declared.entry.Entry.{Entry}
use Rattle.chorus_entry.specs.declared.id.MsgId.{MsgId}
use Rattle.chorus_entry.specs.declared.dest.Dest.{Dest}
use Rattle.chorus_entry.specs.declared.message.Message.{Message}
use Rattle.chorus_entry.specs.declared.act.Act.{Act}
use Rattle.chorus_entry.specs.declared.act.Act.TheVariants as acts
use Rattle.chorus_entry.specs.Dest.{group_in}
use Rattle.chorus_entry.specs.MsgId.{same_id}
use Rattle.chorus_world.specs.declared.place.Sent.{Sent}
use Rattle.chorus_world.specs.Views.{at, is_by, is_about}
use Rattle.chorus_entry.specs.Order.{is_at}
use Rattle.chorus_world.specs.Posts.{Posted, posted_by, posted_in, source, post_of}
use Rattle.chorus_world.specs.Places as places
use Rattle.chorus_world.specs.Places.{sent_by, hears, is_heard}
use Rattle.chorus_world.specs.Steps.{is_legal, is_asked_from, is_asking_place}
use Rattle.chorus_world.proofs.Steps.LegalLemmas.{skips}
use Rattle.chorus_world.proofs.Messages.Posted.{AllPosted}
use Rattle.chorus_world.proofs.Messages.SendingLemmas.{sent_as, and_false}
use Rattle.place_unsettled.specs.declared.wait.Key.{Key}
use Rattle.place_unsettled.specs.Queues.{Queue, changed, same_key}
use Rattle.law_network.specs.Records.{is_for, queue_at}
use Rattle.law_network.proofs.Tables.Learning.{IsKnown, known-stays}
use Rattle.law_network.proofs.Tables.Hearing.{IsUnheard}
use Rattle.law_network.proofs.Tables.Keys.{for-other}
use Rattle.law_machine.proofs.Machine.Keys.{same_key-is}
use Rattle.law_network.proofs.Tables.Queues.{queue-stays}

-- the act teaches where a port is
abbrev pub teaches : Act → Bool
teaches (acts.Arrive q hop) = true
teaches (acts.Depart q to a hop) = true
teaches (acts.Told x a) = true
teaches _ = false

-- it posts, or a place hears of its message
abbrev pub posts_or_hears : Act → Bool
posts_or_hears (acts.Post m d) = true
posts_or_hears (acts.Heard x a) = true
posts_or_hears _ = false

pub known-still : (l : Layout) (known : Ui → Option (ℕ × ℕ)) (e : Entry) (here : List Entry) → teaches e.act ≡ false → IsKnown l known here → IsKnown l known (e ∷ here)
known-still l known e here h = known-stays l known e here (λ q. none q e.act h)
  where
    none : (q : Ui) (a : Act) → teaches a ≡ false → places.learned q e.place here a ≡ None
    none q (acts.Arrive r hop) k = absurd (true≢false k)
    none q (acts.Depart r to b hop) k = absurd (true≢false k)
    none q (acts.Told x b) k = absurd (true≢false k)
    none q a k = refl

-- What a place may hear of, where the entry is not heard there and posts nothing that is asked for from there.
pub unheard-keeps : (l : Layout) (past : List Entry) (e : Entry) (p : ℕ) (f : MsgId → Bool) → ((x : MsgId) → is_heard x (at p (e ∷ past)) ≡ is_heard x (at p past))
    → ((x : MsgId) (d : Posted) → posted_by (source x) e.place e.act ≡ Some d → is_asked_from l p (Some d) ≡ false)
    → IsUnheard l past p f → IsUnheard l (e ∷ past) p f
unheard-keeps l past e p f heard asks h x =
    h x ∙ (λ i. sym (asked (post_of x past) refl (is_by x.seat e)) i && not (sym (heard x) i))
  where
    mine : List Entry
    mine = filter (is_by x.seat) past

    new : (o z : Option Posted) → posted_by (source x) e.place e.act ≡ z → is_asked_from l p (option_or o z) ≡ is_asked_from l p o
    new (Some d) z g = refl
    new None None g = refl
    new None (Some d) g = asks x d g

    asked : (o : Option Posted) → post_of x past ≡ o → (b : Bool) → is_asked_from l p (posted_in (source x) (cond b (e ∷ mine) mine)) ≡ is_asked_from l p (post_of x past)
    asked o g false = refl
    asked o g true = new (post_of x past) (posted_by (source x) e.place e.act) refl

-- an act that posts nothing and is not heard
pub unheard-still : (l : Layout) (past : List Entry) (e : Entry) (f : MsgId → Bool) → posts_or_hears e.act ≡ false → IsUnheard l past e.place f → IsUnheard l (e ∷ past) e.place f
unheard-still l past e f h =
    unheard-keeps l past e e.place f (λ x. silent x (is_at e.place e)) (λ x d k. absurd (none x d e.act h k))
  where
    quiet : (x : MsgId) (a : Act) → posts_or_hears a ≡ false → hears x a ≡ false
    quiet x (acts.Heard y b) k = absurd (true≢false k)
    quiet x a k = refl

    silent : (x : MsgId) (b : Bool) → is_heard x (cond b (e ∷ at e.place past) (at e.place past)) ≡ is_heard x (at e.place past)
    silent x true = ap (λ z. z || is_heard x (at e.place past)) (quiet x e.act h)
    silent x false = refl

    none : (x : MsgId) (d : Posted) (a : Act) → posts_or_hears a ≡ false → posted_by (source x) e.place a ≡ Some d → ⊥
    none x d (acts.Post m g) k s = true≢false k
    none x d a k s = (let bad : None ≡ Some d = s in cc)

-- a post that its place does not ask for elsewhere
pub unheard-posted : (l : Layout) (past : List Entry) (e : Entry) (f : MsgId → Bool) (m : Message) (d : Dest) → e.act ≡ acts.Post m d → is_asking_place l e.place (group_in d) ≡ false
    → IsUnheard l past e.place f → IsUnheard l (e ∷ past) e.place f
unheard-posted l past e f m d act none =
    unheard-keeps l past e e.place f (λ x. silent x (is_at e.place e)) (λ x o k. not-asked o (same_id m.id (source x)) (sym (ap (posted_by (source x) e.place) act) ∙ k))
  where
    silent : (x : MsgId) (b : Bool) → is_heard x (cond b (e ∷ at e.place past) (at e.place past)) ≡ is_heard x (at e.place past)
    silent x true = ap (λ a. hears x a || is_heard x (at e.place past)) act
    silent x false = refl

    not-asked : (o : Posted) (b : Bool) → cond b (Some (record { place = e.place; message = m; dest = d })) None ≡ Some o → is_asked_from l e.place (Some o) ≡ false
    not-asked o true k =
        let same : record { place = e.place; message = m; dest = d } ≡ o = cc in
        ap (λ (z : Posted). is_asked_from l e.place (Some z)) (sym same) ∙ (ap (λ b. (e.place == e.place) && b) none ∙ and_false (e.place == e.place))
    not-asked o false k = (let bad : None ≡ Some o = k in absurd (cc))

-- another place
pub unheard-elsewhere : (l : Layout) (past : List Entry) (e : Entry) (p : ℕ) (f : MsgId → Bool) → (e.place == p) ≡ false → IsUnheard l past p f → IsUnheard l (e ∷ past) p f
unheard-elsewhere l past e p f away =
    unheard-keeps l past e p f (λ x. ap (is_heard x) (skips (is_at p) e past away)) (λ x d k. other x d e.act k)
  where
    other : (x : MsgId) (d : Posted) (a : Act) → posted_by (source x) e.place a ≡ Some d → is_asked_from l p (Some d) ≡ false
    other x d (acts.Post m g) k = go (same_id m.id (source x)) k
      where
        go : (b : Bool) → cond b (Some (record { place = e.place; message = m; dest = g })) None ≡ Some d → is_asked_from l p (Some d) ≡ false
        go true h =
            let same : record { place = e.place; message = m; dest = g } ≡ d = cc in
            ap (λ (z : Posted). is_asked_from l p (Some z)) (sym same) ∙ ap (λ b. b && is_asking_place l p (group_in g)) away
        go false h = (let bad : None ≡ Some d = h in absurd (cc))
    other x d a k = (let bad : None ≡ Some d = k in absurd (cc))

-- What waits.

module _ (l : Layout) (past : List Entry) (e : Entry) (waiting : Key → Queue) (all : AllPosted past past) (legal : is_legal l (e ∷ past) ≡ true) (old : (k : Key) → waiting k ≡ queue_at past e.place k) where
  -- an entry that sends nothing, and is about no message that waits here
  pub waiting-still : sent_by e.act ≡ [] → ((m : Sent) → sent_as m.id e.place past ≡ Some m → is_about (Some m.id) e ≡ false) → (k : Key) → waiting k ≡ queue_at (e ∷ past) e.place k
  waiting-still unsent apart k =
      old k ∙ sym (queue-stays l past e k all legal (ap (filter (is_for k)) unsent) (λ m found goes. apart m found))

  -- only the queue of k changes
  pub waiting-changed : (k : Key) (f : Queue → Queue) → f (queue_at past e.place k) ≡ queue_at (e ∷ past) e.place k
      → ((j : Key) → same_key k j ≡ false → queue_at (e ∷ past) e.place j ≡ queue_at past e.place j) → (j : Key) → changed k f waiting j ≡ queue_at (e ∷ past) e.place j
  waiting-changed k f this others j = by (same_key k j) refl
    where
      by : (b : Bool) → same_key k j ≡ b → cond b (f (waiting k)) (waiting j) ≡ queue_at (e ∷ past) e.place j
      by true h = ap f (old k) ∙ (this ∙ ap (queue_at (e ∷ past) e.place) (same_key-is k j h))
      by false h = old j ∙ sym (others j h)

  -- where the entry is about one message for k that was sent here, and sends nothing
  pub waiting-one : (k : Key) (f : Queue → Queue) (m : Sent) → sent_as m.id e.place past ≡ Some m → is_for k m ≡ true → sent_by e.act ≡ []
      → ((n : Sent) → sent_as n.id e.place past ≡ Some n → is_about (Some n.id) e ≡ true → n ≡ m) → f (queue_at past e.place k) ≡ queue_at (e ∷ past) e.place k
      → (j : Key) → changed k f waiting j ≡ queue_at (e ∷ past) e.place j
  waiting-one k f m found goes unsent one this =
      waiting-changed k f this
      (λ j other. queue-stays l past e j all legal (ap (filter (is_for j)) unsent)
      (λ n there for. off n there (is_about (Some n.id) e) refl (λ same. true≢false (sym for ∙ (ap (is_for j) same ∙ for-other k j m goes other)))))
    where
      off : (n : Sent) → sent_as n.id e.place past ≡ Some n → (b : Bool) → is_about (Some n.id) e ≡ b → ((n ≡ m) → ⊥) → b ≡ false
      off n there false h not-same = refl
      off n there true h not-same = absurd (not-same (one n there h))
