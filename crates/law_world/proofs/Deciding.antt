-- The one decision that a place may make on a message: what is to be decided there, and what the port then makes of it.
use Rattle.std.proofs.Common.{ℕ, ◌≡◌, ◌+◌, ◌-◌, ◌<◌, ◌==◌, nat_lt, nat_le, Bool, true, false, not, ◌&&◌, ◌||◌, cond, List, length, Option, Some, None, is_some, is_none, refl, sym, ◌∙◌, ap, subst, arith, inl, inr}
use Rattle.std.specs.Prelude.{slice_get}
use Rattle.std.proofs.lemmas.Bool.{and_parts, and_from, or_cases, eqb-true, eqb-false, eq-eqb, ne_eqb, ltb-true, lt-ltb, le-ltb, leb-true, not-true, false≢true, true≢false, cases_Bool}
use Rattle.std.proofs.lemmas.Option.{slice_get_within}
use Rattle.chorus_ui.specs.declared.ui.Ui.{Ui}
use Rattle.chorus_ui.specs.declared.layout.Layout.{Layout}
use Rattle.chorus_ui.specs.Layout.{IsLayout, has_site}
use Rattle.chorus_ui.specs.Name.{same_ui}
use Rattle.chorus_ui.proofs.Names.{from_same_ui, same_ui-self}
use Rattle.chorus_entry.specs.declared.entry.Entry.{Entry}
use Rattle.chorus_entry.specs.declared.id.MsgId.{MsgId}
use Rattle.chorus_entry.specs.declared.act.Act.{Act}
use Rattle.chorus_entry.specs.declared.act.Act.TheVariants.{Accept, Full, Already, ClientsFull, Stale, Early, NoPort, Elsewhere, Gone}
use Rattle.chorus_entry.specs.Act.{is_decision, message_of, port_of}
use Rattle.chorus_world.specs.declared.progress.Progress.{Progress}
use Rattle.chorus_world.specs.declared.progress.Progress.TheVariants.{Idle, Asked, Tried, Decided, Settled, Reported}
use Rattle.chorus_world.specs.declared.place.Location.{Location}
use Rattle.chorus_world.specs.declared.spot.Spot.{Spot}
use Rattle.chorus_world.specs.declared.spot.Spot.TheVariants.{Held, Moving, Ended}
use Rattle.chorus_world.specs.declared.due.Due.{Due}
use Rattle.chorus_world.specs.declared.due.Due.TheVariants.{NotDue, ByTry, AtHome}
use Rattle.chorus_world.specs.Views.{views, views_about, at, about, on}
use Rattle.chorus_world.specs.Ports.{PortState, fate, is_made, is_held, is_moving, is_ended, is_last, last_of, is_held_at, is_ended_at, is_coming, has_room, is_full, waiting}
use Rattle.chorus_world.specs.Posts.{tag_of, site_asked, is_on_site}
use Rattle.chorus_world.specs.Clients.{is_already, finds_clients_full, clients_kept}
use Rattle.chorus_entry.specs.ClientTable.{number_of}
use Rattle.chorus_entry.specs.Clients.{is_reached, is_repeated, is_one_too_many}
use Rattle.chorus_entry.specs.declared.tag.Tag.{Tag}
use Rattle.chorus_entry.specs.declared.tag.Tag.TheVariants.{Plain, Request, Reply}
use Rattle.chorus_world.specs.Messages.{progress}
use Rattle.chorus_world.specs.Places.{is_first, located, is_location}
use Rattle.chorus_world.specs.Steps.{act_may, is_legal, is_beyond, is_to_go, suits, due_at_home, due_by_try, due, is_due_with, is_tried_with, is_due, meets, may_enter, is_early, is_elsewhere}
use Rattle.chorus_world.specs.LocationLaws.{path_of}
use Rattle.chorus_world.specs.DecisionLaws.{naming_decision}
use Rattle.chorus_world.proofs.Ports.LineLemmas.{none_some}
use Rattle.chorus_world.proofs.Ports.PortSteps.{spot_in}
use Rattle.chorus_world.proofs.Ports.Whereabouts.{Facts, at_last}
use Rattle.chorus_world.proofs.Messages.SendingLemmas.{first_here, some_is}
use Rattle.chorus_world.proofs.Messages.StageLemmas.{first_is_idle}
use Rattle.chorus_world.proofs.Messages.MessageInvariant.{legal_messages}
use Rattle.chorus_world.proofs.Messages.MessageSteps.{legal_inv, locates}
use Rattle.law_world.specs.Decisions.{IsTriedHere, IsNextHere, IsToDecide}

-- What is to be decided at a place.

abbrev pub hop_of : Due → Option ℕ
hop_of NotDue = None
hop_of (ByTry hop) = Some hop
hop_of (AtHome hop) = Some hop

pub due-hop : (test : ℕ → Bool) (d : Due) → is_due_with test d ≡ true → (h : ℕ) × (hop_of d ≡ Some h) × (test h ≡ true)
due-hop test NotDue h = absurd (false≢true h)
due-hop test (ByTry k) h = (k, refl, h)
due-hop test (AtHome k) h = (k, refl, h)

due-test : (test : ℕ → Bool) (d : Due) (h : ℕ) → hop_of d ≡ Some h → is_due_with test d ≡ true → test h ≡ true
due-test test NotDue h e t = none_some h e
due-test test (ByTry k) h e t = subst (λ z. test z ≡ true) (some_is k h e) t
due-test test (AtHome k) h e t = subst (λ z. test z ≡ true) (some_is k h e) t

tried-test : (test : ℕ → Bool) (d : Due) (h : ℕ) → hop_of d ≡ Some h → is_tried_with test d ≡ true → test h ≡ true
tried-test test NotDue h e t = none_some h e
tried-test test (ByTry k) h e t = subst (λ z. test z ≡ true) (some_is k h e) t
tried-test test (AtHome k) h e t = absurd (false≢true t)

pub tried-due : (test : ℕ → Bool) (d : Due) → is_tried_with test d ≡ true → (h : ℕ) × (hop_of d ≡ Some h)
tried-due test NotDue h = absurd (false≢true h)
tried-due test (ByTry k) h = (k, refl)
tried-due test (AtHome k) h = (k, refl)

-- a decision that is due at the place p
abbrev pub due_of : Layout → List Entry → ℕ → MsgId → Ui → Due
due_of l past p x q = due l (views_about past p x q) p x q

module _ (l : Layout) (past : List Entry) (p : ℕ) (x : MsgId) (q : Ui) where
  next-here : (h : ℕ) → hop_of (due_at_home l (views_about past p x q) p x q) ≡ Some h → IsNextHere l past p x q h
  next-here h k = go (is_to_go l (views_about past p x q) x q p && suits l (views_about past p x q) p x) refl k
    where
      go : (b : Bool) → (is_to_go l (views_about past p x q) x q p && suits l (views_about past p x q) p x) ≡ b → hop_of (cond b (AtHome (located l q (at p past)).hop) NotDue) ≡ Some h → IsNextHere l past p x q h
      go false e j = none_some h j
      go true e j =
          let here = located l q (at p past) in
          let two = and_parts (is_to_go l (views_about past p x q) x q p) (suits l (views_about past p x q) p x) e in
          let one = and_parts (is_first x q (at p past) && not (is_beyond l q)) (here.to == p) two.0 in
          let first = and_parts (is_first x q (at p past)) (not (is_beyond l q)) one.0 in
          record {
            first = first.0;
            within = within (has_site l q.site) first.1;
            known = λ i. record { to = eqb-true here.to p one.1 i; hop = some_is here.hop h j i };
            suits = two.1;
          }
        where
          within : (b : Bool) → not (not b) ≡ true → b ≡ true
          within true h = refl
          within false h = absurd (false≢true h)

  pub to-decide : (h : ℕ) → hop_of (due_of l past p x q) ≡ Some h → IsToDecide l past p x q h
  to-decide h k = by (progress (about x past)) refl k
    where
      by : (s : Progress) → progress (about x past) ≡ s → hop_of (due_by_try p q s (due_at_home l (views_about past p x q) p x q)) ≡ Some h → IsToDecide l past p x q h
      by (Tried from r to hop) is k = go ((to == p) && same_ui r q) refl k
        where
          go : (b : Bool) → (to == p) && same_ui r q ≡ b → hop_of (cond b (ByTry hop) (due_at_home l (views_about past p x q) p x q)) ≡ Some h → IsToDecide l past p x q h
          go false e j = inr (next-here h j)
          go true e j =
              let two = and_parts (to == p) (same_ui r q) e in
              inl (record { from = from; is = is ∙ (λ i. Tried from (from_same_ui r q two.1 i) (eqb-true to p two.0 i) (some_is hop h j i)) })
      by Idle is k = inr (next-here h k)
      by (Asked from d) is k = inr (next-here h k)
      by (Decided from b r a) is k = inr (next-here h k)
      by (Settled a) is k = inr (next-here h k)
      by Reported is k = inr (next-here h k)

  tried-is : (h : ℕ) → IsTriedHere past p x q h → hop_of (due_of l past p x q) ≡ Some h
  tried-is h t =
      ap (λ z. hop_of (due_by_try p q z (due_at_home l (views_about past p x q) p x q))) t.is
      ∙ (ap (λ b. hop_of (cond (b && same_ui q q) (ByTry h) (due_at_home l (views_about past p x q) p x q))) (eq-eqb p p refl)
      ∙ ap (λ b. hop_of (cond b (ByTry h) (due_at_home l (views_about past p x q) p x q))) (same_ui-self q))

  next-is : (h : ℕ) → is_legal l past ≡ true → IsNextHere l past p x q h → hop_of (due_of l past p x q) ≡ Some h
  next-is h legal n =
      let idle = (first_is_idle x q p past (legal_messages l past legal x) (first_here x q p past n.first)).0 in
      let here = located l q (at p past) in
      let go : is_to_go l (views_about past p x q) x q p && suits l (views_about past p x q) p x ≡ true =
      and_from _ _ (and_from _ _ (and_from _ _ n.first (ap (λ b. not (not b)) n.within)) (eq-eqb here.to p (ap (λ (z : Location). z.to) n.known))) n.suits in
      ap (λ z. hop_of (due_by_try p q z (due_at_home l (views_about past p x q) p x q))) idle
      ∙ (ap (λ b. hop_of (cond b (AtHome here.hop) NotDue)) go ∙ ap (λ (z : Location). Some z.hop) n.known)

  pub due-is : (h : ℕ) → is_legal l past ≡ true → IsToDecide l past p x q h → hop_of (due_of l past p x q) ≡ Some h
  due-is h legal (inl t) = tried-is h t
  due-is h legal (inr n) = next-is h legal n

-- what stands tried here is the next nowhere
pub tried-not-first : (l : Layout) (past : List Entry) (p : ℕ) (x : MsgId) (q : Ui) (from h : ℕ) → is_legal l past ≡ true → progress (about x past) ≡ Tried from q p h → (r : Ui) → is_first x r (at p past) ≡ true → ⊥
tried-not-first l past p x q from h legal is r first =
    let e : Idle ≡ Tried from q p h = sym (first_is_idle x r p past (legal_messages l past legal x) (first_here x r p past first)).0 ∙ is in
    absurd (cc)

nothing : (o : Option ℕ) → is_none o ≡ true → o ≡ None
nothing None h = refl
nothing (Some n) h = absurd (false≢true h)

-- a port finds its clients full for a new client alone
pub new-client : (x : MsgId) (past port : List Entry) → finds_clients_full x past port ≡ true → is_already x past port ≡ false
new-client x past port h = by (tag_of x past) h
  where
    absent : (n : ℕ) (o : Option ℕ) → not (is_some o) ≡ true → is_reached n o ≡ false
    absent n None e = refl
    absent n (Some m) e = absurd (false≢true e)

    by : (t : Tag) → is_one_too_many x.seat t (clients_kept past port) ≡ true → is_repeated x.seat t (clients_kept past port) ≡ false
    by Plain e = refl
    by (Reply c n) e = refl
    by (Request n back) e = absent n (number_of (clients_kept past port) x.seat) (and_parts (not (is_some (number_of (clients_kept past port) x.seat))) _ e).0

-- What the port makes of it.

-- the first of these that is so
abbrev pick : Bool → Bool → Bool → Bool → Act → Act → Act → Act → Act → Act
pick held ended made passed met gone none newer early = cond held met (cond ended gone (cond made (cond passed newer early) none))

abbrev pub met_by : MsgId → Ui → Bool → Bool → Option PortState → Act
met_by x q already full None = NoPort x q
met_by x q already full (Some f) =
    cond already (Already x q) (cond full (ClientsFull x q) (cond (waiting f == f.capacity) (Full x q (waiting f)) (Accept x q (length f.accepted))))

-- the decision on x, which came to the place p by the hop h
abbrev pub decision : Layout → List Entry → ℕ → MsgId → Ui → ℕ → Act
decision l past p x q h =
    let o = fate (on q past) in
    let here = located l q (at p past) in
    pick (is_held_at p o) (is_ended_at p o) (is_made o) (nat_lt h here.hop && not (here.to == p))
    (met_by x q (is_already x past (on q past)) (finds_clients_full x past (on q past)) o) (Gone x q) (NoPort x q)
    (naming_decision (site_asked x past) x q h here.to here.hop) (Early x q (length (path_of l q o) - 1))

ended-not-held : (p : ℕ) (o : Option PortState) → is_ended_at p o ≡ true → is_held_at p o ≡ false
ended-not-held p None h = refl
ended-not-held p (Some f) h = ap (λ b. b && is_last p f) (by f.spot (and_parts (is_ended f.spot) (is_last p f) h).0)
  where
    by : (s : Spot) → is_ended s ≡ true → is_held s ≡ false
    by (Held a) h = absurd (false≢true h)
    by (Moving a) h = absurd (false≢true h)
    by Ended h = refl

-- a port that is on its way to p
pub record Comes (l : Layout) (q : Ui) (p hop : ℕ) (o : Option PortState) : Type 0 where
  pub held : is_held_at p o ≡ false
  pub ended : is_ended_at p o ≡ false
  pub made : is_made o ≡ true
  pub far : hop ≡ length (path_of l q o) - 1

pub comes : (l : Layout) (q : Ui) (p hop : ℕ) (o : Option PortState) → is_coming p hop o ≡ true → Comes l q p hop o
comes l q p hop None h = absurd (false≢true h)
comes l q p hop (Some f) h =
    let two = and_parts (is_moving f.spot && is_last p f) (hop == length f.path - 1) h in
    let moving = (and_parts (is_moving f.spot) (is_last p f) two.0).0 in
    record {
      held = ap (λ b. b && is_last p f) (not-held f.spot moving);
      ended = ap (λ b. b && is_last p f) (not-ended f.spot moving);
      made = refl;
      far = eqb-true hop (length f.path - 1) two.1;
    }
  where
    not-held : (s : Spot) → is_moving s ≡ true → is_held s ≡ false
    not-held (Held a) h = absurd (false≢true h)
    not-held (Moving a) h = refl
    not-held Ended h = absurd (false≢true h)

    not-ended : (s : Spot) → is_moving s ≡ true → is_ended s ≡ false
    not-ended (Held a) h = absurd (false≢true h)
    not-ended (Moving a) h = refl
    not-ended Ended h = absurd (false≢true h)

-- a place where the port has ended locates it there
ends-here : (l : Layout) (q : Ui) (p : ℕ) (o : Option PortState) (k d : ℕ → Bool) (at : ℕ → Location) (m : ℕ) → Facts q (spot_in o) (path_of l q o) k d at m → is_ended_at p o ≡ true → (at p).to ≡ p
ends-here l q p None k d at m f h = absurd (false≢true h)
ends-here l q p (Some g) k d at m f h =
    let two = and_parts (is_ended g.spot) (is_last p g) h in
    let last : last_of 0 g.path ≡ p = eqb-true (last_of 0 g.path) p two.1 in
    let rests : (at (last_of 0 g.path)).hop + 1 ≡ length g.path = f.rests (either (is_held g.spot) (is_ended g.spot) two.0) in
    let here : (at p).hop + 1 ≡ length g.path = subst (λ z. (at z).hop + 1 ≡ length g.path) last rests in
    some_is (at p).to p (sym (f.located p) ∙ (at_last 0 g.path (at p).hop (sym here) ∙ ap (λ z. Some z) last))
  where
    either : (a b : Bool) → b ≡ true → a || b ≡ true
    either true b h = refl
    either false b h = h

-- a port that is located with a hop was made
located-far : (l : Layout) (q : Ui) (o : Option PortState) (hop to : ℕ) → slice_get (path_of l q o) hop ≡ Some to → 0 < hop → is_made o ≡ true
located-far l q None hop to path h = absurd (let lt : hop < 1 = slice_get_within (path_of l q None) hop to path in omega (arith, lt, h))
located-far l q (Some f) hop to path h = refl

module _ (l : Layout) (past : List Entry) (p s : ℕ) (x : MsgId) (q : Ui) (h : ℕ) (layout : IsLayout l) (legal : is_legal l past ≡ true) (hop : hop_of (due_of l past p x q) ≡ Some h) where
  abbrev Is : Act → Type 0
  Is a = act_may l (views past p s a) p s a ≡ true → a ≡ decision l past p x q h

  abbrev o : Option PortState
  o = fate (on q past)

  abbrev here : Location
  here = located l q (at p past)

  abbrev passed : Bool
  passed = nat_lt h here.hop && not (here.to == p)

  abbrev met : Act
  met = met_by x q (is_already x past (on q past)) (finds_clients_full x past (on q past)) o

  abbrev newer : Act
  newer = naming_decision (site_asked x past) x q h here.to here.hop

  abbrev early : Act
  early = Early x q (length (path_of l q o) - 1)

  pub is-met : is_held_at p o ≡ true → met ≡ decision l past p x q h
  is-met e = sym (ap (λ b. pick b (is_ended_at p o) (is_made o) passed met (Gone x q) (NoPort x q) newer early) e)

  pub is-gone : is_ended_at p o ≡ true → Gone x q ≡ decision l past p x q h
  is-gone e = sym (λ i. pick (ended-not-held p o e i) (e i) (is_made o) passed met (Gone x q) (NoPort x q) newer early)

  pub is-unmade : is_made o ≡ false → NoPort x q ≡ decision l past p x q h
  is-unmade e = by o e
    where
      by : (z : Option PortState) → is_made z ≡ false → NoPort x q ≡ pick (is_held_at p z) (is_ended_at p z) (is_made z) passed (met_by x q (is_already x past (on q past)) (finds_clients_full x past (on q past)) z) (Gone x q) (NoPort x q) newer (Early x q (length (path_of l q z) - 1))
      by None e = refl
      by (Some f) e = absurd (true≢false e)

  pub is-newer : is_held_at p o ≡ false → passed ≡ true → newer ≡ decision l past p x q h
  is-newer held pass =
      let two = and_parts (nat_lt h here.hop) (not (here.to == p)) pass in
      let ended : is_ended_at p o ≡ false = elim (cases_Bool (is_ended_at p o)) [
        | inl t ↦ absurd (eqb-false here.to p (not-true (here.to == p) two.1) (ends-here l q p o _ _ _ _ ((legal_inv l past layout legal).ports q) t))
        | inr f ↦ f
      ] in
      let made : is_made o ≡ true = located-far l q o here.hop here.to (locates l past p q layout legal) (let lt = ltb-true h here.hop two.0 in omega (arith, lt)) in
      sym (λ i. pick (held i) (ended i) (made i) (pass i) met (Gone x q) (NoPort x q) newer early)

  pub is-early : (k : ℕ) → is_coming p k o ≡ true → passed ≡ false → Early x q k ≡ decision l past p x q h
  is-early k c pass =
      let w = comes l q p k o c in
      ap (λ n. Early x q n) w.far ∙ sym (λ i. pick (w.held i) (w.ended i) (w.made i) (pass i) met (Gone x q) (NoPort x q) newer early)

  -- the decisions of a port that is held
  of-entered : may_enter l (views_about past p x q) p x q ≡ true → (is_held_at p o ≡ true) × (is_already x past (on q past) ≡ false) × (finds_clients_full x past (on q past) ≡ false)
  of-entered e =
      let v = views_about past p x q in
      let three = and_parts (meets l v p x q && suits l v p x && not (is_already x past (on q past))) (not (finds_clients_full x past (on q past))) e in
      let two = and_parts (meets l v p x q && suits l v p x) (not (is_already x past (on q past))) three.0 in
      let one = and_parts (meets l v p x q) (suits l v p x) two.0 in
      ((and_parts (is_due (due_of l past p x q)) (is_held_at p o) one.0).1, not-true (is_already x past (on q past)) two.1, not-true (finds_clients_full x past (on q past)) three.1)

  accepts : (n : ℕ) → Is (Accept x q n)
  accepts n m =
      let two = and_parts (may_enter l (views_about past p x q) p x q) (has_room n o) m in
      let e = of-entered two.0 in
      by o refl two.1 ∙ (sym (λ i. met_by x q (e.1 i) (e.2 i) o) ∙ is-met e.0)
    where
      by : (z : Option PortState) → o ≡ z → has_room n z ≡ true → Accept x q n ≡ met_by x q false false z
      by None e r = absurd (false≢true r)
      by (Some f) e r =
          let two = and_parts (nat_lt (waiting f) f.capacity) (n == length f.accepted) r in
          let lt = ltb-true (waiting f) f.capacity two.0 in
          let apart : (waiting f == f.capacity) ≡ false = ne_eqb (waiting f) f.capacity (λ same. omega (arith, lt, same)) in
          ap (λ z. Accept x q z) (eqb-true n (length f.accepted) two.1) ∙ sym (ap (λ b. cond b (Full x q (waiting f)) (Accept x q (length f.accepted))) apart)

  finds-full : (n : ℕ) → Is (Full x q n)
  finds-full n m =
      let two = and_parts (may_enter l (views_about past p x q) p x q) (is_full n o) m in
      let e = of-entered two.0 in
      by o refl two.1 ∙ (sym (λ i. met_by x q (e.1 i) (e.2 i) o) ∙ is-met e.0)
    where
      by : (z : Option PortState) → o ≡ z → is_full n z ≡ true → Full x q n ≡ met_by x q false false z
      by None e r = absurd (false≢true r)
      by (Some f) e r =
          let two = and_parts (waiting f == f.capacity) (n == waiting f) r in
          ap (λ z. Full x q z) (eqb-true n (waiting f) two.1) ∙ sym (ap (λ b. cond b (Full x q (waiting f)) (Accept x q (length f.accepted))) two.0)

  held-some : (z : Option PortState) (a c : Bool) (b : Act) → is_held_at p z ≡ true → ((f : PortState) → b ≡ met_by x q a c (Some f)) → b ≡ met_by x q a c z
  held-some None a c b e k = absurd (false≢true e)
  held-some (Some f) a c b e k = k f

  finds-already : Is (Already x q)
  finds-already m =
      let two = and_parts (meets l (views_about past p x q) p x q) (is_already x past (on q past)) m in
      let held = (and_parts (is_due (due_of l past p x q)) (is_held_at p o) two.0).1 in
      held-some o true (finds_clients_full x past (on q past)) (Already x q) held (λ f. refl)
      ∙ (sym (ap (λ b. met_by x q b (finds_clients_full x past (on q past)) o) two.1) ∙ is-met held)

  finds-clients : Is (ClientsFull x q)
  finds-clients m =
      let two = and_parts (meets l (views_about past p x q) p x q) (finds_clients_full x past (on q past)) m in
      let held = (and_parts (is_due (due_of l past p x q)) (is_held_at p o) two.0).1 in
      let fresh = new-client x past (on q past) two.1 in
      held-some o false true (ClientsFull x q) held (λ f. refl)
      ∙ (sym (λ i. met_by x q (fresh i) (two.1 i) o) ∙ is-met held)

  gone : Is (Gone x q)
  gone m = is-gone (and_parts (is_due (due_of l past p x q)) (is_ended_at p o) m).1

  -- nothing is to be tried from here that was tried to here, and what is next here is on the site
  not-off-site : (to : ℕ) → is_to_go l (views_about past p x q) x q to && not (is_on_site l (site_asked x past) to) ≡ true → ⊥
  not-off-site to e =
      let two = and_parts (is_to_go l (views_about past p x q) x q to) (not (is_on_site l (site_asked x past) to)) e in
      let one = and_parts (is_first x q (at p past) && not (is_beyond l q)) (here.to == to) two.0 in
      let first = (and_parts (is_first x q (at p past)) (not (is_beyond l q)) one.0).0 in
      elim (to-decide l past p x q h hop) [
        | inl t ↦ tried-not-first l past p x q t.from h legal t.is q first
        | inr n ↦ (
            let same : to ≡ p = sym (eqb-true here.to to one.1) ∙ ap (λ (z : Location). z.to) n.known in
            false≢true (sym (not-true (is_on_site l (site_asked x past) to) two.1) ∙ (ap (is_on_site l (site_asked x past)) same ∙ n.suits)))
      ]

  no-port : Is (NoPort x q)
  no-port m =
      elim (or_cases (is_due_with (λ k. k == 0) (due_of l past p x q) && not (is_made o)) (is_beyond l q && is_first x q (at p past)) m) [
        | inl a ↦ is-unmade (not-true (is_made o) (and_parts (is_due_with (λ k. k == 0) (due_of l past p x q)) (not (is_made o)) a).1)
        | inr b ↦ (
            let two = and_parts (is_beyond l q) (is_first x q (at p past)) b in
            absurd (elim (to-decide l past p x q h hop) [
              | inl t ↦ tried-not-first l past p x q t.from h legal t.is q two.1
              | inr n ↦ false≢true (ap not (sym n.within) ∙ two.0)
            ]))
      ]

  -- where the place names a location other than itself, by a later hop
  names-newer : (to k : ℕ) → is_location to k here ≡ true → h < k → (to == p) ≡ false → (passed ≡ true) × (to ≡ here.to) × (k ≡ here.hop)
  names-newer to k e lt apart =
      let two = and_parts (here.to == to) (here.hop == k) e in
      let at-to = eqb-true here.to to two.0 in
      let at-hop = eqb-true here.hop k two.1 in
      (and_from (nat_lt h here.hop) (not (here.to == p)) (lt-ltb h here.hop (omega (arith, lt, at-hop))) (ap (λ z. not (z == p)) at-to ∙ ap not apart), sym at-to, sym at-hop)

  stale : (t u k : ℕ) → Is (Stale x q t u k)
  stale t u k m =
      let d = is_due_with (λ j. j == t) (due_of l past p x q) in
      let off = not (is_held_at p o) in
      let there = is_location u k here in
      let five = and_parts (d && off && there && nat_lt t k && not (u == p)) (is_none (site_asked x past)) m in
      let four = and_parts (d && off && there && nat_lt t k) (not (u == p)) five.0 in
      let three = and_parts (d && off && there) (nat_lt t k) four.0 in
      let two = and_parts (d && off) there three.0 in
      let one = and_parts d off two.0 in
      let same : h ≡ t = eqb-true h t (due-test (λ j. j == t) (due_of l past p x q) h hop one.0) in
      let late : h < k = subst (λ z. z < k) (sym same) (ltb-true t k three.1) in
      let named = names-newer u k two.1 late (not-true (u == p) four.1) in
      let none : site_asked x past ≡ None = nothing (site_asked x past) five.1 in
      (λ i. Stale x q (sym same i) (named.1 i) (named.2 i))
      ∙ (ap (λ z. naming_decision z x q h here.to here.hop) (sym none) ∙ is-newer (not-true (is_held_at p o) one.1) named.0)

  elsewhere : (u k : ℕ) → Is (Elsewhere x q u k)
  elsewhere u k m =
      let two = and_parts (is_some (site_asked x past) && is_location u k here) (is_elsewhere l (views_about past p x q) p x q u k) m in
      let one = and_parts (is_some (site_asked x past)) (is_location u k here) two.0 in
      let t = is_tried_with (λ j. nat_lt j k) (due_of l past p x q) in
      let off = not (is_held_at p o) in
      elim (or_cases (is_to_go l (views_about past p x q) x q u && not (is_on_site l (site_asked x past) u)) (t && off && not (u == p)) two.1) [
        | inl a ↦ absurd (not-off-site u a)
        | inr b ↦ (
            let three = and_parts (t && off) (not (u == p)) b in
            let both = and_parts t off three.0 in
            let late : h < k = ltb-true h k (tried-test (λ j. nat_lt j k) (due_of l past p x q) h hop both.0) in
            let named = names-newer u k one.1 late (not-true (u == p) three.1) in
            (λ i. Elsewhere x q (named.1 i) (named.2 i))
            ∙ (asks (site_asked x past) one.0 ∙ is-newer (not-true (is_held_at p o) both.1) named.0))
      ]
    where
      asks : (z : Option ℕ) → is_some z ≡ true → Elsewhere x q here.to here.hop ≡ naming_decision z x q h here.to here.hop
      asks None e = absurd (false≢true e)
      asks (Some n) e = refl

  comes-early : (k : ℕ) → Is (Early x q k)
  comes-early k m =
      let two = and_parts (is_due_with (is_early p k here) (due_of l past p x q)) (is_coming p k o) m in
      let test = due-test (is_early p k here) (due_of l past p x q) h hop two.0 in
      is-early k two.1 (not-passed test)
    where
      not-passed : is_early p k here h ≡ true → passed ≡ false
      not-passed e =
          elim (or_cases (is_location p k here && nat_lt h k) (nat_le here.hop h && (k == h) && nat_lt 0 h) e) [
            | inl a ↦ (
                let there = (and_parts (here.to == p) (here.hop == k) (and_parts (is_location p k here) (nat_lt h k) a).0).0 in
                ap (λ b. nat_lt h here.hop && not b) there ∙ and_false (nat_lt h here.hop))
            | inr b ↦ (
                let le = leb-true here.hop h (and_parts (nat_le here.hop h) (k == h) (and_parts (nat_le here.hop h && (k == h)) (nat_lt 0 h) b).0).0 in
                ap (λ b. b && not (here.to == p)) (le-ltb h here.hop le))
          ]
        where
          and_false : (b : Bool) → b && false ≡ false
          and_false true = refl
          and_false false = refl

  -- any decision on x for q
  abbrev OnThis : (MsgId → Ui → Act) → MsgId → Ui → Type 0
  OnThis f y r = y ≡ x → r ≡ q → Is (f x q) → Is (f y r)

  on-this : (f : MsgId → Ui → Act) (y : MsgId) (r : Ui) → OnThis f y r
  on-this f y r ey er k m =
      (λ i. f (ey i) (er i))
      ∙ k (subst (λ z. act_may l (views past p s (f z q)) p s (f z q) ≡ true) ey (subst (λ z. act_may l (views past p s (f y z)) p s (f y z) ≡ true) er m))

  pub decides : (a : Act) → is_decision a ≡ true → message_of a ≡ Some x → port_of a ≡ Some q → Is a
  decides (Accept y r n) d m e = on-this (λ z w. Accept z w n) y r (some_is y x m) (some_is r q e) (accepts n)
  decides (Full y r n) d m e = on-this (λ z w. Full z w n) y r (some_is y x m) (some_is r q e) (finds-full n)
  decides (Already y r) d m e = on-this (λ z w. Already z w) y r (some_is y x m) (some_is r q e) finds-already
  decides (ClientsFull y r) d m e = on-this (λ z w. ClientsFull z w) y r (some_is y x m) (some_is r q e) finds-clients
  decides (Stale y r t u k) d m e = on-this (λ z w. Stale z w t u k) y r (some_is y x m) (some_is r q e) (stale t u k)
  decides (Early y r k) d m e = on-this (λ z w. Early z w k) y r (some_is y x m) (some_is r q e) (comes-early k)
  decides (NoPort y r) d m e = on-this (λ z w. NoPort z w) y r (some_is y x m) (some_is r q e) no-port
  decides (Elsewhere y r u k) d m e = on-this (λ z w. Elsewhere z w u k) y r (some_is y x m) (some_is r q e) (elsewhere u k)
  decides (Gone y r) d m e = on-this (λ z w. Gone z w) y r (some_is y x m) (some_is r q e) gone
  decides _ d m e = absurd (false≢true d)
