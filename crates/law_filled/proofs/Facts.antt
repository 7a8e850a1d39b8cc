-- What is so where a seat only fills ports: of posts, of what was sent, and of ports.
-- l is a layout, n the room of a port, s the seat, q a port, x an id. A past has its newest entry first.
use Rattle.std.proofs.Common.{ℕ, ◌≡◌, ◌+◌, ◌<◌, ◌≤◌, ◌⊎◌, inl, inr, Bool, true, false, ◌&&◌, cond, List, [], ◌∷◌, ◌++◌, length, append-nil, Option, Some, None, refl, sym, ◌∙◌, ap, subst, arith}
use Rattle.std.specs.Option.{option_or}
use Rattle.std.proofs.lemmas.Bool.{and_parts, eq-eqb, false≢true}
use Rattle.std.proofs.lemmas.List.{map-append}
use Rattle.chorus_ui.specs.declared.ui.Ui.{Ui}
use Rattle.chorus_ui.specs.declared.layout.Layout.{Layout}
use Rattle.chorus_ui.specs.Layout.{has_site}
use Rattle.chorus_ui.specs.Name.{same_ui}
use Rattle.chorus_ui.proofs.Names.{from_same_ui, same_ui-self}
use Rattle.chorus_entry.specs.declared.entry.Entry.{Entry}
use Rattle.chorus_entry.specs.declared.id.MsgId.{MsgId}
use Rattle.chorus_entry.specs.declared.message.Message.{Message}
use Rattle.chorus_entry.specs.declared.tag.Tag.{Tag}
use Rattle.chorus_entry.specs.declared.dest.Dest.{Dest}
use Rattle.chorus_entry.specs.declared.act.Act.{Act}
use Rattle.chorus_entry.specs.Act.{is_command_entry, held_port_of}
use Rattle.chorus_entry.specs.Dest.{group_in, site_in}
use Rattle.chorus_entry.specs.MsgId.{same_id}
use Rattle.chorus_entry.specs.Order.{is_at}
use Rattle.chorus_entry.proofs.Same.{from_same_id, same_id-self}
use Rattle.chorus_world.specs.declared.place.Sent.{Sent}
use Rattle.chorus_world.specs.declared.spot.Spot.{Spot}
use Rattle.chorus_world.specs.declared.spot.Spot.TheVariants.{Held, Moving, Ended}
use Rattle.chorus_world.specs.Views.{views, at, by, on, is_on, is_by}
use Rattle.chorus_world.specs.Ports.{PortState, fate, fate_after, is_made, is_held, is_moving, is_ended, is_coming, is_ended_at, is_last}
use Rattle.chorus_world.specs.Places.{sent, sent_by, find_sent}
use Rattle.chorus_world.specs.Posts.{Posted, posted_by, posted_in, post_of, source, tag_of, tag_from, site_asked, site_from}
use Rattle.chorus_world.specs.Seats.{posts}
use Rattle.chorus_world.specs.Steps.{act_may, is_legal}
use Rattle.chorus_world.proofs.Steps.LegalLemmas.{entry, legal_parts, keeps, on_is}
use Rattle.chorus_world.proofs.Ports.LineLemmas.{none_some}
use Rattle.chorus_world.proofs.Messages.SentLemmas.{find_sent_append}
use Rattle.chorus_world.proofs.Messages.SendingLemmas.{sent_as, from_or, cond_some, sent_stays, at_same}
use Rattle.chorus_world.proofs.Messages.MessageInvariant.{legal_messages}
use Rattle.chorus_world.proofs.Messages.PostLemmas.{ChoiceNeeds, asked_facts, choose_needs, post_needs, posts_grow}
use Rattle.chorus_world.proofs.Messages.SentFacts.{EachSent, each-append, each-map, sent-new}
use Rattle.law_filled.specs.Filled.{posted_to, messages_to, ids, Fills, AllFill}

-- Lists of ids.

abbrev pub Has : MsgId → List MsgId → Type 0
Has x [] = ⊥
Has x (y ∷ ys) = (y ≡ x) ⊎ Has x ys

pub has-left : (x : MsgId) (xs ys : List MsgId) → Has x xs → Has x (xs ++ ys)
has-left x [] ys h = absurd h
has-left x (y ∷ xs) ys (inl e) = inl e
has-left x (y ∷ xs) ys (inr h) = inr (has-left x xs ys h)

pub has-right : (x : MsgId) (xs ys : List MsgId) → Has x ys → Has x (xs ++ ys)
has-right x [] ys h = h
has-right x (y ∷ xs) ys h = inr (has-right x xs ys h)

-- Posts.

-- what was posted is plain, and goes to a port
pub record IsDirect (d : Posted) : Type 0 where
  pub tag : d.message.tag ≡ Tag.Plain
  pub port : Ui
  pub dest : d.dest ≡ Dest.Port port

by-direct : (l : Layout) (n s : ℕ) (past : List Entry) (p seat : ℕ) (a : Act) (x : MsgId) (d : Posted) → (is_command_entry a ≡ true → Fills l n s past seat a) → posted_by x p a ≡ Some d → IsDirect d
by-direct l n s past p seat (Act.Post m (Dest.Port q)) x d f e =
    elim (cond_some (same_id m.id x) (record { place = p; message = m; dest = Dest.Port q }) d None e) [
      | inl this ↦ subst IsDirect this.1 (record { tag = (f refl).0; port = q; dest = refl })
      | inr none ↦ none_some d none.1
    ]
by-direct l n s past p seat (Act.Post m (Dest.All g)) x d f e = absurd (f refl)
by-direct l n s past p seat (Act.Post m (Dest.One g)) x d f e = absurd (f refl)
by-direct l n s past p seat (Act.Post m (Dest.OneAt g t)) x d f e = absurd (f refl)
by-direct l n s past p seat _ x d f e = none_some d e

in-direct : (l : Layout) (n s : ℕ) (past : List Entry) (t : ℕ) (x : MsgId) (d : Posted) → AllFill l n s past → posted_in x (by t past) ≡ Some d → IsDirect d
in-direct l n s [] t x d f e = none_some d e
in-direct l n s (e ∷ past) t x d f h = go (is_by t e) h (in-direct l n s past t x d f.1)
  where
    go : (b : Bool) → posted_in x (cond b (e ∷ by t past) (by t past)) ≡ Some d → (posted_in x (by t past) ≡ Some d → IsDirect d) → IsDirect d
    go true k ih =
        elim (from_or (posted_in x (by t past)) (posted_by x e.place e.act) d k) [
          | inl old ↦ ih old
          | inr new ↦ by-direct l n s past e.place e.seat e.act x d f.0 new.1
        ]
    go false k ih = ih k

module _ (l : Layout) (n s : ℕ) (past : List Entry) (f : AllFill l n s past) where
  pub post-direct : (x : MsgId) (d : Posted) → post_of x past ≡ Some d → IsDirect d
  post-direct x d e = in-direct l n s past x.seat (source x) d f e

  pub plain : (x : MsgId) → tag_of x past ≡ Tag.Plain
  plain x = from (post_of x past) refl
    where
      from : (o : Option Posted) → post_of x past ≡ o → tag_from o ≡ Tag.Plain
      from None e = refl
      from (Some d) e = (post-direct x d e).tag

  pub no-site : (x : MsgId) → site_asked x past ≡ None
  no-site x = from (post_of x past) refl
    where
      from : (o : Option Posted) → post_of x past ≡ o → site_from o ≡ None
      from None e = refl
      from (Some d) e = ap site_in (post-direct x d e).dest

  -- nothing is posted to a group
  pub no-asking : (p : ℕ) (x : MsgId) (g : Ui) → is_legal l past ≡ true → ChoiceNeeds l past p x g → ⊥
  no-asking p x g h needs =
      let a = (asked_facts x past needs.from needs.dest (legal_messages l past h x) needs.asked).1 in
      let d = post-direct x a.post a.posted in
      none_some g (sym (ap group_in (sym a.dest ∙ d.dest)) ∙ needs.group)

-- Ports.

-- the port is where it was made, with room for n messages, and none was taken
abbrev pub Stays : ℕ → Option PortState → Type 0
Stays n None = Unit {0}
Stays n (Some f) = (f.taken ≡ 0) × (f.capacity ≡ n) × (is_held f.spot ≡ true) × (length f.path ≡ 1)

held-moving : (t : Spot) → is_held t ≡ true → is_moving t ≡ true → ⊥
held-moving (Held a) h m = false≢true m
held-moving (Moving a) h m = false≢true h
held-moving Ended h m = false≢true h

held-ended : (t : Spot) → is_held t ≡ true → is_ended t ≡ true → ⊥
held-ended (Held a) h m = false≢true m
held-ended (Moving a) h m = false≢true h
held-ended Ended h m = false≢true h

pub not-coming : (n p hop : ℕ) (o : Option PortState) → Stays n o → is_coming p hop o ≡ true → ⊥
not-coming n p hop None i c = false≢true c
not-coming n p hop (Some f) i c =
    held-moving f.spot i.2 (and_parts (is_moving f.spot) (is_last p f) (and_parts (is_moving f.spot && is_last p f) _ c).0).0

pub not-ended : (n p : ℕ) (o : Option PortState) → Stays n o → is_ended_at p o ≡ true → ⊥
not-ended n p None i c = false≢true c
not-ended n p (Some f) i c = held-ended f.spot i.2 (and_parts (is_ended f.spot) (is_last p f) c).0

stays-after : (l : Layout) (n s : ℕ) (past : List Entry) (p seat : ℕ) (a : Act) (o : Option PortState) → (is_command_entry a ≡ true → Fills l n s past seat a) → ((r : Ui) (hop : ℕ) → a ≡ Act.Arrive r hop → is_coming p hop o ≡ true) → Stays n o → Stays n (fate_after p a o)
stays-after l n s past p seat (Act.Make r a c) o f k i = (refl, f refl, refl, refl)
stays-after l n s past p seat (Act.Arrive r hop) o f k i = absurd (not-coming n p hop o i (k r hop refl))
stays-after l n s past p seat (Act.Take r m x) o f k i = absurd (f refl)
stays-after l n s past p seat (Act.Rehome r a) o f k i = absurd (f refl)
stays-after l n s past p seat (Act.Depart r to a hop) o f k i = absurd (f refl)
stays-after l n s past p seat (Act.Delete r xs) o f k i = absurd (f refl)
stays-after l n s past p seat _ None f k i = i
stays-after l n s past p seat _ (Some z) f k i = i

pub stays : (l : Layout) (n s : ℕ) (past : List Entry) (q : Ui) → is_legal l past ≡ true → AllFill l n s past → Stays n (fate (on q past))
stays l n s [] q h f = tt
stays l n s (e ∷ past) q h f = go (is_on (Some q) e) refl (stays l n s past q (legal_parts l e past h).1 f.1)
  where
    coming : is_on (Some q) e ≡ true → (r : Ui) (hop : ℕ) → e.act ≡ Act.Arrive r hop → is_coming e.place hop (fate (on q past)) ≡ true
    coming t r hop is =
        let named : Some r ≡ Some q = ap held_port_of (sym is) ∙ on_is q (held_port_of e.act) t in
        let same : r ≡ q = cc in
        let may : is_coming e.place hop (fate (on r past)) ≡ true = subst (λ z. act_may l (views past e.place e.seat z) e.place e.seat z ≡ true) is (legal_parts l e past h).0 in
        subst (λ z. is_coming e.place hop (fate (on z past)) ≡ true) same may

    go : (b : Bool) → is_on (Some q) e ≡ b → Stays n (fate (on q past)) → Stays n (fate (cond b (e ∷ on q past) (on q past)))
    go true t ih = stays-after l n s past e.place e.seat e.act (fate (on q past)) f.0 (coming t) ih
    go false t ih = ih

made-after : (p : ℕ) (a : Act) (o : Option PortState) → is_made o ≡ true → is_made (fate_after p a o) ≡ true
made-after p (Act.Make r a c) o h = refl
made-after p _ None h = absurd (false≢true h)
made-after p _ (Some f) h = refl

pub made-stays : (q : Ui) (past : List Entry) (e : Entry) → is_made (fate (on q past)) ≡ true → is_made (fate (on q (e ∷ past))) ≡ true
made-stays q past e h = go (is_on (Some q) e)
  where
    go : (b : Bool) → is_made (fate (cond b (e ∷ on q past) (on q past))) ≡ true
    go true = made-after e.place e.act (fate (on q past)) h
    go false = h

-- What was sent.

-- the message went to a port that is made, and was posted to it
pub record IsSent (l : Layout) (past : List Entry) (m : Sent) : Type 0 where
  pub route : m.route ≡ None
  pub made : is_made (fate (on m.port past)) ≡ true
  pub site : has_site l m.port.site ≡ true
  pub listed : Has m.id (ids (messages_to m.port past))

pub listed-more : (q : Ui) (past : List Entry) (e : Entry) → ids (messages_to q (e ∷ past)) ≡ ids (messages_to q past) ++ ids (posted_to q e.act)
listed-more q past e = map-append (λ (m : Message). m.id) (messages_to q past) (posted_to q e.act)

is-sent-stays : (l : Layout) (past : List Entry) (e : Entry) (m : Sent) → IsSent l past m → IsSent l (e ∷ past) m
is-sent-stays l past e m i = record {
  route = i.route;
  made = made-stays m.port past e i.made;
  site = i.site;
  listed = subst (Has m.id) (sym (listed-more m.port past e)) (has-left m.id (ids (messages_to m.port past)) (ids (posted_to m.port e.act)) i.listed);
}

by-sent : (l : Layout) (n s : ℕ) (past : List Entry) (c p seat : ℕ) (a : Act) → is_legal l past ≡ true → AllFill l n s past → (is_command_entry a ≡ true → Fills l n s past seat a) → act_may l (views past p seat a) p seat a ≡ true
    → EachSent (IsSent l (entry c p seat a ∷ past)) (sent_by a)
by-sent l n s past c p seat (Act.Post m (Dest.Port q)) h all f may =
    let e = entry c p seat (Act.Post m (Dest.Port q)) in
    let fills = f refl in
    let here : Has m.id (ids (posted_to q (Act.Post m (Dest.Port q)))) = subst (λ b. Has m.id (ids (cond b (m ∷ []) []))) (sym (same_ui-self q)) (inl refl) in (
      record {
        route = refl;
        made = made-stays q past e fills.2;
        site = fills.3;
        listed = subst (Has m.id) (sym (listed-more q past e)) (has-right m.id (ids (messages_to q past)) (ids (posted_to q (Act.Post m (Dest.Port q)))) here);
      },
      tt,
    )
by-sent l n s past c p seat (Act.Post m (Dest.All g)) h all f may = tt
by-sent l n s past c p seat (Act.Post m (Dest.One g)) h all f may = tt
by-sent l n s past c p seat (Act.Post m (Dest.OneAt g t)) h all f may = tt
by-sent l n s past c p seat (Act.Choose x g qs) h all f may = absurd (no-asking l n s past all p x g h (choose_needs l past p seat x g qs may))
by-sent l n s past c p seat _ h all f may = tt

pub all-sent : (l : Layout) (n s : ℕ) (past : List Entry) (p : ℕ) → is_legal l past ≡ true → AllFill l n s past → EachSent (IsSent l past) (sent (at p past))
all-sent l n s [] p h f = tt
all-sent l n s (e ∷ past) p h f =
    go (is_at p e) (each-map (IsSent l past) (IsSent l (e ∷ past)) (is-sent-stays l past e) (sent (at p past)) (all-sent l n s past p (legal_parts l e past h).1 f.1))
  where
    go : (b : Bool) → EachSent (IsSent l (e ∷ past)) (sent (at p past)) → EachSent (IsSent l (e ∷ past)) (sent (cond b (e ∷ at p past) (at p past)))
    go false ih = ih
    go true ih =
        let two = legal_parts l e past h in
        each-append (IsSent l (e ∷ past)) (sent (at p past)) (sent_by e.act) ih (by-sent l n s past e.clock e.place e.seat e.act two.1 f.1 f.0 two.0)

-- what is found has the id
pub found-id : (x : MsgId) (ms : List Sent) (m : Sent) → find_sent x ms ≡ Some m → m.id ≡ x
found-id x [] m e = none_some m e
found-id x (k ∷ ms) m e =
    elim (cond_some (same_id k.id x) k m (find_sent x ms) e) [
      | inl this ↦ subst (λ (z : Sent). z.id ≡ x) this.1 (from_same_id k.id x this.0)
      | inr later ↦ found-id x ms m later.1
    ]

-- Each message that was posted to the port was sent to it, by a place, and has a number of the seat.

abbrev pub direct : MsgId → Ui → Sent
direct x q = record { id = x; port = q; route = None }

pub record IsListed (l : Layout) (s : ℕ) (q : Ui) (past : List Entry) (x : MsgId) : Type 0 where
  pub place : ℕ
  pub is : sent_as x place past ≡ Some (direct x q)
  pub seat : x.seat ≡ s
  pub number : x.number ≤ posts (by s past)

posted-now : (l : Layout) (n s : ℕ) (past : List Entry) (c p seat : ℕ) (m : Message) (q : Ui) → is_legal l past ≡ true → Fills l n s past seat (Act.Post m (Dest.Port q)) → act_may l (views past p seat (Act.Post m (Dest.Port q))) p seat (Act.Post m (Dest.Port q)) ≡ true
    → IsListed l s q (entry c p seat (Act.Post m (Dest.Port q)) ∷ past) m.id × (m.id.number ≡ posts (by s past) + 1)
posted-now l n s past c p seat m q h f may =
    let e = entry c p seat (Act.Post m (Dest.Port q)) in
    let needs = post_needs l past p seat m (Dest.Port q) may in
    let fresh = (sent-new l past c p seat (λ x. legal_messages l past h x) (Act.Post m (Dest.Port q)) may).0 in
    let number : m.id.number ≡ posts (by s past) + 1 = needs.number ∙ ap (λ z. posts (by z past) + 1) f.1 in
    let view : by s (e ∷ past) ≡ e ∷ by s past = keeps (is_by s) e past (eq-eqb seat s f.1) in (
      record {
        place = p;
        is =
            ap (λ es. find_sent m.id (sent es)) (at_same p e past refl) ∙ find_sent_append m.id (sent (at p past)) (direct m.id q ∷ [])
            ∙ ap (λ o. option_or o (find_sent m.id (direct m.id q ∷ []))) fresh ∙ ap (λ b. cond b (Some (direct m.id q)) None) (same_id-self m.id);
        seat = needs.seat ∙ f.1;
        number = let more : posts (by s (e ∷ past)) ≡ posts (by s past) + 1 = ap posts view in omega (arith, more, number);
      },
      number,
    )

pub listed-stays : (l : Layout) (s : ℕ) (q : Ui) (past : List Entry) (e : Entry) (x : MsgId) → IsListed l s q past x → IsListed l s q (e ∷ past) x
listed-stays l s q past e x i = record {
  place = i.place;
  is = sent_stays x i.place past e (direct x q) i.is;
  seat = i.seat;
  number = let more = posts_grow past e s in let few = i.number in omega (arith, more, few);
}

abbrev pub Each : (MsgId → Type 0) → List MsgId → Type 0
Each P [] = Unit {0}
Each P (x ∷ xs) = P x × Each P xs

pub each-of : (P : MsgId → Type 0) (xs : List MsgId) (x : MsgId) → Each P xs → Has x xs → P x
each-of P [] x h k = absurd k
each-of P (y ∷ xs) x h (inl e) = subst P e h.0
each-of P (y ∷ xs) x h (inr k) = each-of P xs x h.1 k

pub each-weaker : (P Q : MsgId → Type 0) → ((x : MsgId) → P x → Q x) → (xs : List MsgId) → Each P xs → Each Q xs
each-weaker P Q f [] h = tt
each-weaker P Q f (x ∷ xs) h = (f x h.0, each-weaker P Q f xs h.1)

pub each-both : (P : MsgId → Type 0) (xs ys : List MsgId) → Each P xs → Each P ys → Each P (xs ++ ys)
each-both P [] ys a b = b
each-both P (x ∷ xs) ys a b = (a.0, each-both P xs ys a.1 b)

-- numbers rise
abbrev pub Rising : List MsgId → Type 0
Rising [] = Unit {0}
Rising (x ∷ xs) = Each (λ y. x.number < y.number) xs × Rising xs

pub rising-push : (xs : List MsgId) (y : MsgId) → Rising xs → Each (λ x. x.number < y.number) xs → Rising (xs ++ y ∷ [])
rising-push [] y r k = (tt, tt)
rising-push (x ∷ xs) y r k = (each-both (λ z. x.number < z.number) xs (y ∷ []) r.0 (k.0, tt), rising-push xs y r.1 k.1)

pub record AreListed (l : Layout) (s : ℕ) (q : Ui) (past : List Entry) (xs : List MsgId) : Type 0 where
  pub each : Each (IsListed l s q past) xs
  pub rise : Rising xs

list-more : (l : Layout) (n s : ℕ) (past : List Entry) (c p seat : ℕ) (a : Act) (q : Ui) (xs : List MsgId) → is_legal l past ≡ true → (is_command_entry a ≡ true → Fills l n s past seat a) → act_may l (views past p seat a) p seat a ≡ true → AreListed l s q past xs
    → AreListed l s q (entry c p seat a ∷ past) (xs ++ ids (posted_to q a))
list-more l n s past c p seat (Act.Post m (Dest.Port r)) q xs h f may i = go (same_ui r q) refl
  where
    e : Entry
    e = entry c p seat (Act.Post m (Dest.Port r))

    old : Each (IsListed l s q (e ∷ past)) xs
    old = each-weaker (IsListed l s q past) (IsListed l s q (e ∷ past)) (listed-stays l s q past e) xs i.each

    go : (b : Bool) → same_ui r q ≡ b → AreListed l s q (e ∷ past) (xs ++ ids (cond b (m ∷ []) []))
    go false t = record { each = each-both (IsListed l s q (e ∷ past)) xs [] old tt; rise = subst Rising (sym (append-nil xs)) i.rise }
    go true t =
        let now = posted-now l n s past c p seat m r h (f refl) may in
        let number = now.1 in
        let here : IsListed l s q (e ∷ past) m.id = subst (λ z. IsListed l s z (e ∷ past) m.id) (from_same_ui r q t) now.0 in
        record {
          each = each-both (IsListed l s q (e ∷ past)) xs (m.id ∷ []) old (here, tt);
          rise = rising-push xs m.id i.rise (each-weaker (IsListed l s q past) (λ x. x.number < m.id.number) (λ x k. let few = k.number in omega (arith, few, number)) xs i.each);
        }
list-more l n s past c p seat (Act.Post m (Dest.All g)) q xs h f may i = absurd (f refl)
list-more l n s past c p seat (Act.Post m (Dest.One g)) q xs h f may i = absurd (f refl)
list-more l n s past c p seat (Act.Post m (Dest.OneAt g t)) q xs h f may i = absurd (f refl)
list-more l n s past c p seat a q xs h f may i = record {
  each = each-both (IsListed l s q (entry c p seat a ∷ past)) xs [] (each-weaker (IsListed l s q past) (IsListed l s q (entry c p seat a ∷ past)) (listed-stays l s q past (entry c p seat a)) xs i.each) tt;
  rise = subst Rising (sym (append-nil xs)) i.rise;
}

pub all-listed : (l : Layout) (n s : ℕ) (past : List Entry) (q : Ui) → is_legal l past ≡ true → AllFill l n s past → AreListed l s q past (ids (messages_to q past))
all-listed l n s [] q h f = record { each = tt; rise = tt }
all-listed l n s (e ∷ past) q h f =
    let two = legal_parts l e past h in
    subst (AreListed l s q (e ∷ past)) (sym (listed-more q past e))
    (list-more l n s past e.clock e.place e.seat e.act q (ids (messages_to q past)) two.1 f.0 two.0 (all-listed l n s past q two.1 f.1))
