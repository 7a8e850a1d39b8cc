-- What a decision says of the world before it: of the port, of its path, and of the room in it.
use Rattle.std.proofs.Common.{ℕ, ◌≡◌, ◌≢◌, ◌<◌, ◌+◌, ◌⊎◌, Bool, true, false, ◌==◌, nat_lt, nat_le, ◌&&◌, not, cond, List, ◌∷◌, length, Option, Some, None, is_none, is_some, refl, sym, ◌∙◌, ap, subst, inl, inr, arith}
use Rattle.std.specs.Prelude.{slice_get}
use Rattle.std.proofs.lemmas.Bool.{and_parts, eqb-true, eq-eqb, false≢true, leb-true, ltb-true, not-true, or_cases, or_right}
use Rattle.std.proofs.lemmas.Option.{slice_get_within}
use Rattle.chorus_ui.specs.declared.ui.Ui.{Ui}
use Rattle.chorus_ui.specs.declared.layout.Layout.{Layout}
use Rattle.chorus_ui.specs.Name.{same_ui}
use Rattle.chorus_ui.specs.Layout.{IsLayout, has_site, site_of}
use Rattle.chorus_ui.proofs.Names.{from_same_ui, same_ui-self}
use Rattle.chorus_entry.specs.declared.entry.Entry.{Entry}
use Rattle.chorus_entry.specs.declared.id.MsgId.{MsgId}
use Rattle.chorus_entry.specs.declared.act.Act.{Act}
use Rattle.chorus_entry.specs.declared.act.Act.TheVariants.{Accept, Full, Already, ClientsFull, Stale, Early, NoPort, Elsewhere, Gone}
use Rattle.chorus_entry.specs.Act.{is_decision, message_of, port_of}
use Rattle.chorus_world.specs.declared.progress.Progress.{Progress}
use Rattle.chorus_world.specs.declared.progress.Progress.TheVariants.{Idle, Asked, Tried, Decided, Settled, Reported}
use Rattle.chorus_world.specs.declared.place.Location.{Location}
use Rattle.chorus_world.specs.declared.due.Due.TheVariants.{NotDue, ByTry, AtHome}
use Rattle.chorus_world.specs.Views.{Views, views, at, about, on}
use Rattle.chorus_world.specs.Ports.{PortState, fate, has_room, is_coming, is_ended, is_ended_at, is_full, is_held, is_held_at, is_last, is_made, last_of, waiting}
use Rattle.chorus_world.specs.Posts.{is_on_site, site_asked}
use Rattle.chorus_world.specs.Clients.{finds_clients_full, is_already}
use Rattle.chorus_world.specs.Messages.{progress}
use Rattle.chorus_world.specs.Places.{is_first, is_location, located}
use Rattle.chorus_world.specs.Steps.{act_may, due, due_at_home, due_by_try, is_beyond, is_due, is_due_with, is_early, is_elsewhere, is_legal, is_to_go, is_tried_with, may_enter, meets, suits}
use Rattle.chorus_world.specs.DecisionLaws.{AcceptsWithRoom, AnswersNewer, ElsewhereNamesPath, FullWithoutRoom, MeetsWhereHeld, StaleNamesLater, naming_decision, port_met}
use Rattle.chorus_world.specs.LocationLaws.{KnowsWhatLeft, path_of}
use Rattle.chorus_world.proofs.Steps.LegalLemmas.{legal_parts}
use Rattle.chorus_world.proofs.Ports.PortSteps.{spot_in}
use Rattle.chorus_world.proofs.Ports.Whereabouts.{Facts, at_last}
use Rattle.chorus_world.proofs.Messages.DueLemmas.{IsDue, enters}
use Rattle.chorus_world.proofs.Messages.MessageInvariant.{legal_messages}
use Rattle.chorus_world.proofs.Messages.MessageSteps.{legal_inv, locates}
use Rattle.chorus_world.proofs.Messages.SendingLemmas.{first_here, some_is}
use Rattle.chorus_world.proofs.Messages.StageLemmas.{first_is_idle}
use Rattle.chorus_world.proofs.Messages.VerdictLemmas.{decision_due}

pub may_as : (l : Layout) (past : List Entry) (e : Entry) (a : Act) → is_legal l (e ∷ past) ≡ true → e.act ≡ a → act_may l (views past e.place e.seat a) e.place e.seat a ≡ true
may_as l past e a h is = subst (λ z. act_may l (views past e.place e.seat z) e.place e.seat z ≡ true) is (legal_parts l e past h).0

meets-held : (l : Layout) (past : List Entry) (p s : ℕ) (a : Act) (q : Ui) → act_may l (views past p s a) p s a ≡ true → port_met a ≡ Some q → is_held_at p (fate (on q past)) ≡ true
meets-held l past p s (Accept x r n) q h is =
    let v = views past p s (Accept x r n) in
    let same : r ≡ q = cc in
    subst (λ z. is_held_at p (fate (on z past)) ≡ true) same
    (and_parts (is_due (due l v p x r)) (is_held_at p (fate v.port)) (enters l past p x r v refl refl (and_parts (may_enter l v p x r) (has_room n (fate v.port)) h).0).0).1
meets-held l past p s (Full x r n) q h is =
    let v = views past p s (Full x r n) in
    let same : r ≡ q = cc in
    subst (λ z. is_held_at p (fate (on z past)) ≡ true) same
    (and_parts (is_due (due l v p x r)) (is_held_at p (fate v.port)) (enters l past p x r v refl refl (and_parts (may_enter l v p x r) (is_full n (fate v.port)) h).0).0).1
meets-held l past p s (Already x r) q h is =
    let v = views past p s (Already x r) in
    let same : r ≡ q = cc in
    subst (λ z. is_held_at p (fate (on z past)) ≡ true) same
    (and_parts (is_due (due l v p x r)) (is_held_at p (fate v.port)) (and_parts (meets l v p x r) (is_already x v.all v.port) h).0).1
meets-held l past p s (ClientsFull x r) q h is =
    let v = views past p s (ClientsFull x r) in
    let same : r ≡ q = cc in
    subst (λ z. is_held_at p (fate (on z past)) ≡ true) same
    (and_parts (is_due (due l v p x r)) (is_held_at p (fate v.port)) (and_parts (meets l v p x r) (finds_clients_full x v.all v.port) h).0).1
meets-held l past p s _ q h is = absurd (cc)

pub meets_where_held : (l : Layout) (past : List Entry) (e : Entry) → is_legal l (e ∷ past) ≡ true → MeetsWhereHeld past e
meets_where_held l past e h q is = meets-held l past e.place e.seat e.act q (legal_parts l e past h).0 is

room_in : (n : ℕ) (o : Option PortState) → has_room n o ≡ true → (f : PortState) × (o ≡ Some f) × (waiting f < f.capacity) × (n ≡ length f.accepted)
room_in n None h = absurd (false≢true h)
room_in n (Some f) h =
    let two = and_parts (nat_lt (waiting f) f.capacity) (n == length f.accepted) h in
    (f, refl, ltb-true (waiting f) f.capacity two.0, eqb-true n (length f.accepted) two.1)

pub accepts_with_room : (l : Layout) (past : List Entry) (e : Entry) → is_legal l (e ∷ past) ≡ true → AcceptsWithRoom past e
accepts_with_room l past e h x q n is =
    let v = views past e.place e.seat (Accept x q n) in
    room_in n (fate (on q past)) (and_parts (may_enter l v e.place x q) (has_room n (fate v.port)) (may_as l past e (Accept x q n) h is)).1

full_in : (n : ℕ) (o : Option PortState) → is_full n o ≡ true → (f : PortState) × (o ≡ Some f) × (waiting f ≡ f.capacity) × (n ≡ f.capacity)
full_in n None h = absurd (false≢true h)
full_in n (Some f) h =
    let two = and_parts (waiting f == f.capacity) (n == waiting f) h in
    let full : waiting f ≡ f.capacity = eqb-true (waiting f) f.capacity two.0 in
    (f, refl, full, eqb-true n (waiting f) two.1 ∙ full)

pub full_without_room : (l : Layout) (past : List Entry) (e : Entry) → is_legal l (e ∷ past) ≡ true → FullWithoutRoom past e
full_without_room l past e h x q n is =
    let v = views past e.place e.seat (Full x q n) in
    full_in n (fate (on q past)) (and_parts (may_enter l v e.place x q) (is_full n (fate v.port)) (may_as l past e (Full x q n) h is)).1

differs : (m n : ℕ) → not (m == n) ≡ true → m ≢ n
differs m n h e = false≢true (sym (not-true (m == n) h) ∙ eq-eqb m n e)

-- a location that a place names is its own
names : (to hop : ℕ) (here : Location) → is_location to hop here ≡ true → here ≡ record { to = to; hop = hop }
names to hop here is =
    let two = and_parts (here.to == to) (here.hop == hop) is in
    λ i. record { to = eqb-true here.to to two.0 i; hop = eqb-true here.hop hop two.1 i }

-- and on the port's path
on_path : (l : Layout) (past : List Entry) (p to hop : ℕ) (q : Ui) → IsLayout l → is_legal l past ≡ true → is_location to hop (located l q (at p past)) ≡ true → slice_get (path_of l q (fate (on q past))) hop ≡ Some to
on_path l past p to hop q layout h is =
    let here = located l q (at p past) in
    let two = and_parts (here.to == to) (here.hop == hop) is in
    ap (slice_get (path_of l q (fate (on q past)))) (sym (eqb-true here.hop hop two.1)) ∙ (locates l past p q layout h ∙ ap (λ z. Some z) (eqb-true here.to to two.0))

-- what is due was tried here, or is located here
due_here : (l : Layout) (past : List Entry) (p : ℕ) (x : MsgId) (q : Ui) (v : Views) (test : ℕ → Bool) (s : Progress) → is_due_with test (due_by_try p q s (due_at_home l v p x q)) ≡ true → ((from : ℕ) × (hop : ℕ) × (s ≡ Tried from q p hop) × (test hop ≡ true)) ⊎ ((located l q v.here).to ≡ p)
due_here l past p x q v test s h = by s h
  where
    home : (b : Bool) (n : ℕ) → is_due_with test (cond b (AtHome n) NotDue) ≡ true → b ≡ true
    home true n k = refl
    home false n k = absurd (false≢true k)

    here : is_due_with test (due_at_home l v p x q) ≡ true → (located l q v.here).to ≡ p
    here k =
        let go = (and_parts (is_to_go l v x q p) (suits l v p x) (home (is_to_go l v x q p && suits l v p x) (located l q v.here).hop k)).0 in
        eqb-true (located l q v.here).to p (and_parts (is_first x q v.here && not (is_beyond l q)) ((located l q v.here).to == p) go).1

    by : (s : Progress) → is_due_with test (due_by_try p q s (due_at_home l v p x q)) ≡ true → ((from : ℕ) × (hop : ℕ) × (s ≡ Tried from q p hop) × (test hop ≡ true)) ⊎ ((located l q v.here).to ≡ p)
    by (Tried from r to hop) k = go ((to == p) && same_ui r q) refl k
      where
        go : (b : Bool) → (to == p) && same_ui r q ≡ b → is_due_with test (cond b (ByTry hop) (due_at_home l v p x q)) ≡ true → ((from_ : ℕ) × (hop_ : ℕ) × (Tried from r to hop ≡ Tried from_ q p hop_) × (test hop_ ≡ true)) ⊎ ((located l q v.here).to ≡ p)
        go false e j = inr (here j)
        go true e j =
            let two = and_parts (to == p) (same_ui r q) e in
            let place : to ≡ p = eqb-true to p two.0 in
            let port : r ≡ q = from_same_ui r q two.1 in
            inl (from, hop, (λ i. Tried from (port i) (place i) hop), j)
    by Idle k = inr (here k)
    by (Asked from d) k = inr (here k)
    by (Decided from b r a) k = inr (here k)
    by (Settled a) k = inr (here k)
    by Reported k = inr (here k)

none-there : (o : Option ℕ) → is_none o ≡ true → o ≡ None
none-there None h = refl
none-there (Some n) h = absurd (false≢true h)

pub stale_names_later : (l : Layout) (past : List Entry) (e : Entry) → IsLayout l → is_legal l (e ∷ past) ≡ true → StaleNamesLater l past e
stale_names_later l past e layout h x q tried to hop is =
    let p = e.place in
    let v = views past p e.seat (Stale x q tried to hop) in
    let d = is_due_with (λ h. h == tried) (due l v p x q) in
    let away = not (is_held_at p (fate v.port)) in
    let there = is_location to hop (located l q v.here) in
    let five = and_parts (d && away && there && nat_lt tried hop && not (to == p)) (is_none (site_asked x v.all)) (may_as l past e (Stale x q tried to hop) h is) in
    let four = and_parts (d && away && there && nat_lt tried hop) (not (to == p)) five.0 in
    let three = and_parts (d && away && there) (nat_lt tried hop) four.0 in
    let two = and_parts (d && away) there three.0 in
    let one = and_parts d away two.0 in
    let known = names to hop (located l q (at p past)) two.1 in
    let elsewhere = differs to p four.1 in
    let passed : (from : ℕ) × (progress (about x past) ≡ Tried from q p tried) = elim (due_here l past p x q v (λ h. h == tried) (progress (about x past)) one.0) [
      | inl t ↦ (t.0, t.2 ∙ ap (λ z. Tried t.0 q p z) (eqb-true t.1 tried t.3))
      | inr go ↦ absurd (elsewhere (sym (ap (λ (z : Location). z.to) known) ∙ go))
    ] in (
      record {
        from = passed.0;
        is = passed.1;
        away = not-true (is_held_at p (fate (on q past))) one.1;
        known = known;
        elsewhere = elsewhere;
        later = ltb-true tried hop three.1;
      },
      none-there (site_asked x past) five.1,
      on_path l past p to hop q layout (legal_parts l e past h).1 two.1,
    )

-- what passes a test by a try was tried here with a hop that passes it
tried_here : (l : Layout) (past : List Entry) (p : ℕ) (x : MsgId) (q : Ui) (v : Views) (test : ℕ → Bool) (s : Progress) → is_tried_with test (due_by_try p q s (due_at_home l v p x q)) ≡ true → (from : ℕ) × (hop : ℕ) × (s ≡ Tried from q p hop) × (test hop ≡ true)
tried_here l past p x q v test s h = by s h
  where
    home : (b : Bool) (n : ℕ) → is_tried_with test (cond b (AtHome n) NotDue) ≡ true → ⊥
    home true n k = false≢true k
    home false n k = false≢true k

    not-home : is_tried_with test (due_at_home l v p x q) ≡ true → ⊥
    not-home k = home (is_to_go l v x q p && suits l v p x) (located l q v.here).hop k

    by : (s : Progress) → is_tried_with test (due_by_try p q s (due_at_home l v p x q)) ≡ true → (from : ℕ) × (hop : ℕ) × (s ≡ Tried from q p hop) × (test hop ≡ true)
    by (Tried from r to hop) k = go ((to == p) && same_ui r q) refl k
      where
        go : (b : Bool) → (to == p) && same_ui r q ≡ b → is_tried_with test (cond b (ByTry hop) (due_at_home l v p x q)) ≡ true → (from_ : ℕ) × (hop_ : ℕ) × (Tried from r to hop ≡ Tried from_ q p hop_) × (test hop_ ≡ true)
        go false e j = absurd (not-home j)
        go true e j =
            let two = and_parts (to == p) (same_ui r q) e in
            let place : to ≡ p = eqb-true to p two.0 in
            let port : r ≡ q = from_same_ui r q two.1 in
            (from, hop, (λ i. Tried from (port i) (place i) hop), j)
    by Idle k = absurd (not-home k)
    by (Asked from d) k = absurd (not-home k)
    by (Decided from b r a) k = absurd (not-home k)
    by (Settled a) k = absurd (not-home k)
    by Reported k = absurd (not-home k)

off-site : (l : Layout) (o : Option ℕ) (s to : ℕ) → o ≡ Some s → not (is_on_site l o to) ≡ true → site_of l to ≢ s
off-site l o s to e h = differs (site_of l to) s (ap (λ z. not (is_on_site l z to)) (sym e) ∙ h)

there-some : (o : Option ℕ) → is_some o ≡ true → (n : ℕ) × (o ≡ Some n)
there-some None h = absurd (false≢true h)
there-some (Some n) h = (n, refl)

not-not : (b : Bool) → not (not b) ≡ true → b ≡ true
not-not true h = refl
not-not false h = absurd (false≢true h)

pub elsewhere_names_path : (l : Layout) (past : List Entry) (e : Entry) → IsLayout l → is_legal l (e ∷ past) ≡ true → ElsewhereNamesPath l past e
elsewhere_names_path l past e layout h x q to hop is =
    let p = e.place in
    let v = views past p e.seat (Elsewhere x q to hop) in
    let two = and_parts (is_some (site_asked x v.all) && is_location to hop (located l q v.here)) (is_elsewhere l v p x q to hop) (may_as l past e (Elsewhere x q to hop) h is) in
    let one = and_parts (is_some (site_asked x v.all)) (is_location to hop (located l q v.here)) two.0 in
    let site = there-some (site_asked x past) one.0 in
    let go = is_to_go l v x q to && not (is_on_site l (site_asked x v.all) to) in
    let t = is_tried_with (λ h. nat_lt h hop) (due l v p x q) in
    let away = not (is_held_at p (fate v.port)) in
    let known = names to hop (located l q (at p past)) one.1 in (
      site.0,
      site.1,
      on_path l past p to hop q layout (legal_parts l e past h).1 one.1,
      elim (or_cases go (t && away && not (to == p)) two.1) [
        | inl a ↦ (
            let off = and_parts (is_to_go l v x q to) (not (is_on_site l (site_asked x v.all) to)) a in
            let goes = and_parts (is_first x q v.here) (not (is_beyond l q)) (and_parts (is_first x q v.here && not (is_beyond l q)) ((located l q v.here).to == to) off.0).0 in
            inl (record {
              first = goes.0;
              within = not-not (has_site l q.site) goes.1;
              known = known;
              off = off-site l (site_asked x past) site.0 to site.1 off.1;
            }))
        | inr b ↦ (
            let three = and_parts (t && away) (not (to == p)) b in
            let both = and_parts t away three.0 in
            let was = tried_here l past p x q v (λ h. nat_lt h hop) (progress (about x past)) both.0 in
            inr (
              was.1,
              record {
                from = was.0;
                is = was.2;
                away = not-true (is_held_at p (fate (on q past))) both.1;
                known = known;
                elsewhere = differs to p three.1;
                later = ltb-true was.1 hop was.3;
              },
            ))
      ],
    )

-- a place where the port has ended locates it there
ends-here : (l : Layout) (q : Ui) (p : ℕ) (o : Option PortState) (k d : ℕ → Bool) (at : ℕ → Location) (m : ℕ) → Facts q (spot_in o) (path_of l q o) k d at m → is_ended_at p o ≡ true → (at p).to ≡ p
ends-here l q p None k d at m f h = absurd (false≢true h)
ends-here l q p (Some g) k d at m f h =
    let two = and_parts (is_ended g.spot) (is_last p g) h in
    let last : last_of 0 g.path ≡ p = eqb-true (last_of 0 g.path) p two.1 in
    let rests : (at (last_of 0 g.path)).hop + 1 ≡ length g.path = f.rests (or_right (is_held g.spot) (is_ended g.spot) two.0) in
    let here : (at p).hop + 1 ≡ length g.path = subst (λ z. (at z).hop + 1 ≡ length g.path) last rests in
    some_is (at p).to p (sym (f.located p) ∙ (at_last 0 g.path (at p).hop (sym here) ∙ ap (λ z. Some z) last))

-- A decision on a message that was tried too late for its port: x stands tried at the place p for the port q.
module _ (l : Layout) (past : List Entry) (p s : ℕ) (x : MsgId) (q : Ui) (from tried : ℕ) (layout : IsLayout l) (legal : is_legal l past ≡ true) (is : progress (about x past) ≡ Tried from q p tried) where
  not-first : (r : Ui) → is_first x r (at p past) ≡ true → ⊥
  not-first r first =
      let e : Idle ≡ Tried from q p tried = sym (first_is_idle x r p past (legal_messages l past legal x) (first_here x r p past first)).0 ∙ is in
      absurd (cc)

  for-port : (r : Ui) → IsDue x r p past → r ≡ q
  for-port r (inl t) = let e : Tried t.from r p t.hop ≡ Tried from q p tried = sym t.is ∙ is in cc
  for-port r (inr first) = absurd (not-first r first)

  due-is : (v : Views) → v.message ≡ about x past → due l v p x q ≡ ByTry tried
  due-is v m =
      ap (λ z. due_by_try p q (progress z) (due_at_home l v p x q)) m
      ∙ (ap (λ z. due_by_try p q z (due_at_home l v p x q)) is
      ∙ (ap (λ b. cond (b && same_ui q q) (ByTry tried) (due_at_home l v p x q)) (eq-eqb p p refl)
      ∙ ap (λ b. cond b (ByTry tried) (due_at_home l v p x q)) (same_ui-self q)))

  -- the decision is on this message, for this port
  on-this : (f : MsgId → Ui → Act) (y : MsgId) (r : Ui) (a : Act) → y ≡ x → r ≡ q → (act_may l (views past p s (f x q)) p s (f x q) ≡ true → f x q ≡ a) → act_may l (views past p s (f y r)) p s (f y r) ≡ true → f y r ≡ a
  on-this f y r a ey er k h =
      (λ i. f (ey i) (er i)) ∙ k
      (subst (λ z. act_may l (views past p s (f z q)) p s (f z q) ≡ true) ey
      (subst (λ z. act_may l (views past p s (f y z)) p s (f y z) ≡ true) er h))

  module _ (to hop : ℕ) (away : is_held_at p (fate (on q past)) ≡ false) (known : located l q (at p past) ≡ record { to = to; hop = hop }) (elsewhere : to ≢ p) (later : tried < hop) where
    is-there : (u k : ℕ) → is_location u k (located l q (at p past)) ≡ true → (u ≡ to) × (k ≡ hop)
    is-there u k there =
        let same : record { to = u; hop = k } ≡ record { to = to; hop = hop } = sym (names u k (located l q (at p past)) there) ∙ known in
        (ap (λ (z : Location). z.to) same, ap (λ (z : Location). z.hop) same)

    not-held : (a : Act) (r : Ui) → act_may l (views past p s a) p s a ≡ true → is_decision a ≡ true → message_of a ≡ Some x → port_of a ≡ Some r → port_met a ≡ Some r → ⊥
    not-held a r h d m o met =
        let port : r ≡ q = for-port r (decision_due l past p s a x r d m o h) in
        false≢true (sym away ∙ subst (λ z. is_held_at p (fate (on z past)) ≡ true) port (meets-held l past p s a r h met))

    stale-is : (t u k : ℕ) → act_may l (views past p s (Stale x q t u k)) p s (Stale x q t u k) ≡ true → Stale x q t u k ≡ naming_decision (site_asked x past) x q tried to hop
    stale-is t u k h =
        let v = views past p s (Stale x q t u k) in
        let d = is_due_with (λ h. h == t) (due l v p x q) in
        let off = not (is_held_at p (fate v.port)) in
        let there = is_location u k (located l q v.here) in
        let five = and_parts (d && off && there && nat_lt t k && not (u == p)) (is_none (site_asked x v.all)) h in
        let four = and_parts (d && off && there && nat_lt t k) (not (u == p)) five.0 in
        let three = and_parts (d && off && there) (nat_lt t k) four.0 in
        let two = and_parts (d && off) there three.0 in
        let one = and_parts d off two.0 in
        let hops : tried ≡ t = eqb-true tried t (ap (is_due_with (λ h. h == t)) (sym (due-is v refl)) ∙ one.0) in
        let same = is-there u k two.1 in
        (λ i. Stale x q (sym hops i) (same.0 i) (same.1 i)) ∙ ap (λ o. naming_decision o x q tried to hop) (sym (none-there (site_asked x past) five.1))

    elsewhere-is : (u k : ℕ) → act_may l (views past p s (Elsewhere x q u k)) p s (Elsewhere x q u k) ≡ true → Elsewhere x q u k ≡ naming_decision (site_asked x past) x q tried to hop
    elsewhere-is u k h =
        let v = views past p s (Elsewhere x q u k) in
        let two = and_parts (is_some (site_asked x v.all) && is_location u k (located l q v.here)) (is_elsewhere l v p x q u k) h in
        let one = and_parts (is_some (site_asked x v.all)) (is_location u k (located l q v.here)) two.0 in
        let site = there-some (site_asked x past) one.0 in
        let same = is-there u k one.1 in
        (λ i. Elsewhere x q (same.0 i) (same.1 i)) ∙ ap (λ o. naming_decision o x q tried to hop) (sym site.1)

    not-early : (k : ℕ) → act_may l (views past p s (Early x q k)) p s (Early x q k) ≡ true → ⊥
    not-early k h =
        let v = views past p s (Early x q k) in
        let test = is_early p k (located l q v.here) in
        let due = and_parts (is_due_with test (due l v p x q)) (is_coming p k (fate v.port)) h in
        let passes : test tried ≡ true = ap (is_due_with test) (sym (due-is v refl)) ∙ due.0 in
        let here = located l q (at p past) in
        let far : here.hop ≡ hop = ap (λ (z : Location). z.hop) known in
        elim (or_cases (is_location p k here && nat_lt tried k) (nat_le here.hop tried && (k == tried) && nat_lt 0 tried) passes) [
          | inl a ↦ elsewhere (sym (is-there p k (and_parts (is_location p k here) (nat_lt tried k) a).0).0)
          | inr b ↦ (
              let two = and_parts (nat_le here.hop tried && (k == tried)) (nat_lt 0 tried) b in
              let le = leb-true here.hop tried (and_parts (nat_le here.hop tried) (k == tried) two.0).0 in
              omega (arith, le, far, later))
        ]

    not-unmade : (o : Option PortState) → slice_get (path_of l q o) hop ≡ Some to → not (is_made o) ≡ true → ⊥
    not-unmade None path h = let lt : hop < 1 = slice_get_within (path_of l q None) hop to path in omega (arith, lt, later)
    not-unmade (Some g) path h = false≢true h

    not-no-port : act_may l (views past p s (NoPort x q)) p s (NoPort x q) ≡ true → ⊥
    not-no-port h =
        let v = views past p s (NoPort x q) in
        let d = is_due_with (λ h. h == 0) (due l v p x q) in
        let o = fate (on q past) in
        let path : slice_get (path_of l q o) hop ≡ Some to =
        subst (λ (z : Location). slice_get (path_of l q o) z.hop ≡ Some z.to) known (locates l past p q layout legal) in
        elim (or_cases (d && not (is_made (fate v.port))) (is_beyond l q && is_first x q v.here) h) [
          | inl a ↦ not-unmade o path (and_parts d (not (is_made (fate v.port))) a).1
          | inr b ↦ not-first q (and_parts (is_beyond l q) (is_first x q v.here) b).1
        ]

    not-gone : act_may l (views past p s (Gone x q)) p s (Gone x q) ≡ true → ⊥
    not-gone h =
        let v = views past p s (Gone x q) in
        let ended = (and_parts (is_due (due l v p x q)) (is_ended_at p (fate v.port)) h).1 in
        let here = ends-here l q p (fate (on q past)) _ _ _ _ ((legal_inv l past layout legal).ports q) ended in
        elsewhere (sym (ap (λ (z : Location). z.to) known) ∙ here)

    answers : (a : Act) → act_may l (views past p s a) p s a ≡ true → is_decision a ≡ true → message_of a ≡ Some x → a ≡ naming_decision (site_asked x past) x q tried to hop
    answers (Accept y r n) h d m = absurd (not-held (Accept y r n) r h d m refl refl)
    answers (Full y r n) h d m = absurd (not-held (Full y r n) r h d m refl refl)
    answers (Already y r) h d m = absurd (not-held (Already y r) r h d m refl refl)
    answers (ClientsFull y r) h d m = absurd (not-held (ClientsFull y r) r h d m refl refl)
    answers (Stale y r t u k) h d m =
        on-this (λ z w. Stale z w t u k) y r (naming_decision (site_asked x past) x q tried to hop) (some_is y x m)
        (for-port r (decision_due l past p s (Stale y r t u k) x r d m refl h)) (stale-is t u k) h
    answers (Elsewhere y r u k) h d m =
        on-this (λ z w. Elsewhere z w u k) y r (naming_decision (site_asked x past) x q tried to hop) (some_is y x m)
        (for-port r (decision_due l past p s (Elsewhere y r u k) x r d m refl h)) (elsewhere-is u k) h
    answers (Early y r k) h d m =
        on-this (λ z w. Early z w k) y r (naming_decision (site_asked x past) x q tried to hop) (some_is y x m)
        (for-port r (decision_due l past p s (Early y r k) x r d m refl h)) (λ j. absurd (not-early k j)) h
    answers (NoPort y r) h d m =
        on-this (λ z w. NoPort z w) y r (naming_decision (site_asked x past) x q tried to hop) (some_is y x m)
        (for-port r (decision_due l past p s (NoPort y r) x r d m refl h)) (λ j. absurd (not-no-port j)) h
    answers (Gone y r) h d m =
        on-this (λ z w. Gone z w) y r (naming_decision (site_asked x past) x q tried to hop) (some_is y x m)
        (for-port r (decision_due l past p s (Gone y r) x r d m refl h)) (λ j. absurd (not-gone j)) h
    answers _ h d m = absurd (false≢true d)

pub answers_newer : (l : Layout) (past : List Entry) (e : Entry) → IsLayout l → is_legal l (e ∷ past) ≡ true → AnswersNewer l past e
answers_newer l past e layout h x q tried to hop d m passed =
    let two = legal_parts l e past h in
    answers l past e.place e.seat x q passed.from tried layout two.1 passed.is to hop passed.away passed.known passed.elsewhere passed.later
    e.act two.0 d m

-- a place that a port has left knows it
pub knows_what_left : KnowsWhatLeft
knows_what_left l past p q hop layout h at less = ((legal_inv l past layout h).ports q).left p hop at less
