-- On what a place decides, why, and that no other decision is possible.
use Rattle.std.proofs.Common.{ℕ, ◌≡◌, ◌≢◌, ◌⊎◌, ◌==◌, nat_lt, nat_le, Bool, true, false, not, ◌&&◌, cond, List, [], ◌∷◌, length, Option, Some, None, is_some, is_none, refl, sym, ◌∙◌, ap, subst, inl, inr}
use Rattle.std.proofs.lemmas.Bool.{and_parts, or_cases, eqb-true, eqb-false, eq-eqb, ltb-true, not-true, false≢true, cases_Bool}
use Rattle.chorus_ui.specs.declared.ui.Ui.{Ui}
use Rattle.chorus_ui.specs.declared.layout.Layout.{Layout}
use Rattle.chorus_ui.specs.Layout.{IsLayout, has_site, has_actor, place_at}
use Rattle.chorus_ui.specs.declared.limits.TheConstants.{ACTORS_PER_SITE_LIMIT, PENDING_LIMIT}
use Rattle.chorus_ui.proofs.Names.{from_same_ui}
use Rattle.chorus_entry.specs.declared.entry.Entry.{Entry}
use Rattle.chorus_entry.specs.declared.id.MsgId.{MsgId}
use Rattle.chorus_entry.specs.declared.act.Act.{Act}
use Rattle.chorus_entry.specs.declared.act.Act.TheVariants.{Make, Accept, Full, Already, ClientsFull, Stale, Early, NoPort, Elsewhere, Gone}
use Rattle.chorus_entry.specs.Act.{is_decision, message_of, port_of}
use Rattle.chorus_world.specs.declared.place.Location.{Location}
use Rattle.chorus_world.specs.declared.progress.Progress.TheVariants.{Tried}
use Rattle.chorus_world.specs.Views.{views, views_about, at, on}
use Rattle.chorus_world.specs.Ports.{PortState, fate, is_made, last_of, is_held_at, is_ended_at, is_coming, has_room, is_full, waiting}
use Rattle.chorus_world.specs.Posts.{site_asked, is_on_site}
use Rattle.chorus_world.specs.Clients.{is_already, finds_clients_full}
use Rattle.chorus_world.specs.Places.{is_first, is_made_here, makes, is_deleted, located, is_location}
use Rattle.chorus_world.specs.Steps.{act_may, may, is_legal, is_beyond, is_to_go, suits, is_due_with, is_tried_with, is_due, meets, may_enter, is_early, is_elsewhere, is_home, is_full_of_ports, next_number}
use Rattle.chorus_world.specs.LocationLaws.{path_of}
use Rattle.chorus_world.specs.DecisionLaws.{port_met, naming_decision}
use Rattle.chorus_world.proofs.Steps.LegalLemmas.{legal_parts}
use Rattle.chorus_world.proofs.Ports.LineLemmas.{none_some}
use Rattle.chorus_world.proofs.Ports.PortSteps.{spot_in}
use Rattle.chorus_world.proofs.Ports.Whereabouts.{has_ended}
use Rattle.chorus_world.proofs.Messages.SendingLemmas.{first_here, some_is}
use Rattle.chorus_world.proofs.Messages.DueLemmas.{IsDue}
use Rattle.chorus_world.proofs.Messages.VerdictLemmas.{decision_due}
use Rattle.chorus_world.proofs.Messages.Decided.{may_as, meets_where_held, answers_newer}
use Rattle.chorus_world.proofs.Messages.MessageSteps.{legal_inv, may_act}
use Rattle.law_world.specs.Decisions.{IsToDecide, IsRefusedOffSite, IsRefusedBeyond, DecidesWhatIsDue, IsTooLate, HasItsCause, DecidesByThePort, NoPortWasMade, OneDecisionIsPossible}
use Rattle.law_world.proofs.Moves.{made-is, coming-moved, moved-coming}
use Rattle.law_world.proofs.Deciding.{hop_of, due_of, due-hop, tried-due, to-decide, due-is, tried-not-first, met_by, decision, comes, is-met, is-gone, is-unmade, is-early, decides}

-- The port of a decision.

decision-port : (a : Act) → is_decision a ≡ true → (q : Ui) × (port_of a ≡ Some q)
decision-port (Accept x q n) d = (q, refl)
decision-port (Full x q n) d = (q, refl)
decision-port (Already x q) d = (q, refl)
decision-port (ClientsFull x q) d = (q, refl)
decision-port (Stale x q t to hop) d = (q, refl)
decision-port (Early x q hop) d = (q, refl)
decision-port (NoPort x q) d = (q, refl)
decision-port (Elsewhere x q to hop) d = (q, refl)
decision-port (Gone x q) d = (q, refl)
decision-port _ d = absurd (false≢true d)

-- a message is to be decided at a place for one port
one-port : (l : Layout) (past : List Entry) (p : ℕ) (x : MsgId) (q r : Ui) → is_legal l past ≡ true → IsDue x q p past → IsDue x r p past → q ≡ r
one-port l past p x q r legal (inl t) (inl u) = let both : Tried t.from q p t.hop ≡ Tried u.from r p u.hop = sym t.is ∙ u.is in cc
one-port l past p x q r legal (inl t) (inr f) = absurd (tried-not-first l past p x q t.from t.hop legal t.is r f)
one-port l past p x q r legal (inr e) (inl u) = absurd (tried-not-first l past p x r u.from u.hop legal u.is q e)
one-port l past p x q r legal (inr e) (inr f) =
    let a = first_here x q p past e in
    let b = first_here x r p past f in
    let same : a.message ≡ b.message = some_is a.message b.message (sym a.is ∙ b.is) in
    sym a.port ∙ (ap (λ m. m.port) same ∙ b.port)

due-here : (l : Layout) (past : List Entry) (p : ℕ) (x : MsgId) (q : Ui) (h : ℕ) → IsToDecide l past p x q h → IsDue x q p past
due-here l past p x q h (inl t) = inl (record { from = t.from; hop = h; is = t.is })
due-here l past p x q h (inr n) = inr n.first

-- What is decided though it is not due.

module _ (l : Layout) (past : List Entry) (e : Entry) (x : MsgId) (q : Ui) (none : hop_of (due_of l past e.place x q) ≡ None) where
  abbrev Refuses : Act → Type 0
  Refuses a = e.act ≡ a → act_may l (views past e.place e.seat a) e.place e.seat a ≡ true → IsRefusedOffSite l past e x q ⊎ IsRefusedBeyond l past e x q

  not-due : (test : ℕ → Bool) → is_due_with test (due_of l past e.place x q) ≡ true → ⊥
  not-due test d = let k = due-hop test (due_of l past e.place x q) d in none_some k.0 (sym none ∙ k.1)

  not-tried : (test : ℕ → Bool) → is_tried_with test (due_of l past e.place x q) ≡ true → ⊥
  not-tried test d = let k = tried-due test (due_of l past e.place x q) d in none_some k.0 (sym none ∙ k.1)

  not-met : meets l (views_about past e.place x q) e.place x q ≡ true → ⊥
  not-met m = not-due (λ k. true) (and_parts (is_due (due_of l past e.place x q)) (is_held_at e.place (fate (on q past))) m).0

  not-entered : may_enter l (views_about past e.place x q) e.place x q ≡ true → ⊥
  not-entered m =
      let v = views_about past e.place x q in
      let p = e.place in
      let three = and_parts (meets l v p x q && suits l v p x && not (is_already x past (on q past))) (not (finds_clients_full x past (on q past))) m in
      let two = and_parts (meets l v p x q && suits l v p x) (not (is_already x past (on q past))) three.0 in
      not-met (and_parts (meets l v p x q) (suits l v p x) two.0).0

  refuses-stale : (t u k : ℕ) → Refuses (Stale x q t u k)
  refuses-stale t u k is m =
      let p = e.place in
      let d = is_due_with (λ j. j == t) (due_of l past p x q) in
      let off = not (is_held_at p (fate (on q past))) in
      let there = is_location u k (located l q (at p past)) in
      let five = and_parts (d && off && there && nat_lt t k && not (u == p)) (is_none (site_asked x past)) m in
      let four = and_parts (d && off && there && nat_lt t k) (not (u == p)) five.0 in
      let three = and_parts (d && off && there) (nat_lt t k) four.0 in
      let two = and_parts (d && off) there three.0 in
      absurd (not-due (λ j. j == t) (and_parts d off two.0).0)

  refuses-early : (k : ℕ) → Refuses (Early x q k)
  refuses-early k is m =
      absurd (not-due (is_early e.place k (located l q (at e.place past))) (and_parts (is_due_with (is_early e.place k (located l q (at e.place past))) (due_of l past e.place x q)) (is_coming e.place k (fate (on q past))) m).0)

  refuses-no-port : Refuses (NoPort x q)
  refuses-no-port is m =
      elim (or_cases (is_due_with (λ k. k == 0) (due_of l past e.place x q) && not (is_made (fate (on q past)))) (is_beyond l q && is_first x q (at e.place past)) m) [
        | inl a ↦ absurd (not-due (λ k. k == 0) (and_parts (is_due_with (λ k. k == 0) (due_of l past e.place x q)) (not (is_made (fate (on q past)))) a).0)
        | inr b ↦ (
            let two = and_parts (is_beyond l q) (is_first x q (at e.place past)) b in
            inr (record { says = is; first = two.1; beyond = not-true (has_site l q.site) two.0 }))
      ]

  refuses-elsewhere : (u k : ℕ) → Refuses (Elsewhere x q u k)
  refuses-elsewhere u k is m =
      let p = e.place in
      let here = located l q (at p past) in
      let two = and_parts (is_some (site_asked x past) && is_location u k here) (is_elsewhere l (views_about past p x q) p x q u k) m in
      let one = and_parts (is_some (site_asked x past)) (is_location u k here) two.0 in
      let place = and_parts (here.to == u) (here.hop == k) one.1 in
      let t = is_tried_with (λ j. nat_lt j k) (due_of l past p x q) in
      let off = not (is_held_at p (fate (on q past))) in
      elim (or_cases (is_to_go l (views_about past p x q) x q u && not (is_on_site l (site_asked x past) u)) (t && off && not (u == p)) two.1) [
        | inl a ↦ (
            let away = and_parts (is_to_go l (views_about past p x q) x q u) (not (is_on_site l (site_asked x past) u)) a in
            let goes = and_parts (is_first x q (at p past) && not (is_beyond l q)) (here.to == u) away.0 in
            let first = and_parts (is_first x q (at p past)) (not (is_beyond l q)) goes.0 in
            let site = asked (site_asked x past) one.0 in
            inl (record {
              to = u;
              hop = k;
              site = site.0;
              says = is;
              asked = site.1;
              off = record {
                first = first.0;
                within = within (has_site l q.site) first.1;
                known = λ i. record { to = eqb-true here.to u place.0 i; hop = eqb-true here.hop k place.1 i };
                off = λ same. false≢true (sym (not-true (is_on_site l (site_asked x past) u) away.1) ∙ (ap (λ o. is_on_site l o u) site.1 ∙ eq-eqb _ _ same));
              };
            }))
        | inr b ↦ absurd (not-tried (λ j. nat_lt j k) (and_parts t off (and_parts (t && off) (not (u == p)) b).0).0)
      ]
    where
      asked : (o : Option ℕ) → is_some o ≡ true → (n : ℕ) × (o ≡ Some n)
      asked None h = absurd (false≢true h)
      asked (Some n) h = (n, refl)

      within : (b : Bool) → not (not b) ≡ true → b ≡ true
      within true h = refl
      within false h = absurd (false≢true h)

  -- on x, for q
  for-this : (f : MsgId → Ui → Act) (y : MsgId) (r : Ui) → y ≡ x → r ≡ q → Refuses (f x q) → Refuses (f y r)
  for-this f y r ey er k is m =
      k (is ∙ (λ i. f (ey i) (er i)))
      (subst (λ z. act_may l (views past e.place e.seat (f z q)) e.place e.seat (f z q) ≡ true) ey
      (subst (λ z. act_may l (views past e.place e.seat (f y z)) e.place e.seat (f y z) ≡ true) er m))

  refuses : (a : Act) → is_decision a ≡ true → message_of a ≡ Some x → port_of a ≡ Some q → Refuses a
  refuses (Accept y r n) d m o =
      for-this (λ z w. Accept z w n) y r (some_is y x m) (some_is r q o)
      (λ is k. absurd (not-entered (and_parts (may_enter l (views_about past e.place x q) e.place x q) (has_room n (fate (on q past))) k).0))
  refuses (Full y r n) d m o =
      for-this (λ z w. Full z w n) y r (some_is y x m) (some_is r q o)
      (λ is k. absurd (not-entered (and_parts (may_enter l (views_about past e.place x q) e.place x q) (is_full n (fate (on q past))) k).0))
  refuses (Already y r) d m o =
      for-this (λ z w. Already z w) y r (some_is y x m) (some_is r q o)
      (λ is k. absurd (not-met (and_parts (meets l (views_about past e.place x q) e.place x q) (is_already x past (on q past)) k).0))
  refuses (ClientsFull y r) d m o =
      for-this (λ z w. ClientsFull z w) y r (some_is y x m) (some_is r q o)
      (λ is k. absurd (not-met (and_parts (meets l (views_about past e.place x q) e.place x q) (finds_clients_full x past (on q past)) k).0))
  refuses (Stale y r t u k) d m o = for-this (λ z w. Stale z w t u k) y r (some_is y x m) (some_is r q o) (refuses-stale t u k)
  refuses (Early y r k) d m o = for-this (λ z w. Early z w k) y r (some_is y x m) (some_is r q o) (refuses-early k)
  refuses (NoPort y r) d m o = for-this (λ z w. NoPort z w) y r (some_is y x m) (some_is r q o) refuses-no-port
  refuses (Elsewhere y r u k) d m o = for-this (λ z w. Elsewhere z w u k) y r (some_is y x m) (some_is r q o) (refuses-elsewhere u k)
  refuses (Gone y r) d m o =
      for-this (λ z w. Gone z w) y r (some_is y x m) (some_is r q o)
      (λ is k. absurd (not-due (λ j. true) (and_parts (is_due (due_of l past e.place x q)) (is_ended_at e.place (fate (on q past))) k).0))
  refuses _ d m o = absurd (false≢true d)

-- due or refused
due-or-refused : (l : Layout) (past : List Entry) (e : Entry) (x : MsgId) (q : Ui) → is_decision e.act ≡ true → message_of e.act ≡ Some x → port_of e.act ≡ Some q → act_may l (views past e.place e.seat e.act) e.place e.seat e.act ≡ true
    → ((hop : ℕ) × (hop_of (due_of l past e.place x q) ≡ Some hop)) ⊎ (IsRefusedOffSite l past e x q ⊎ IsRefusedBeyond l past e x q)
due-or-refused l past e x q d m o may = go (hop_of (due_of l past e.place x q)) refl
  where
    go : (z : Option ℕ) → hop_of (due_of l past e.place x q) ≡ z → ((hop : ℕ) × (hop_of (due_of l past e.place x q) ≡ Some hop)) ⊎ (IsRefusedOffSite l past e x q ⊎ IsRefusedBeyond l past e x q)
    go None is = inr (refuses l past e x q is e.act d m o refl may)
    go (Some h) is = inl (h, is)

pub decides-what-is-due : (l : Layout) (past : List Entry) (e : Entry) → IsLayout l → is_legal l (e ∷ past) ≡ true → DecidesWhatIsDue l past e
decides-what-is-due l past e layout h x q d m o =
    elim (due-or-refused l past e x q d m o (legal_parts l e past h).0) [
      | inl due ↦ inl (due.0, to-decide l past e.place x q due.0 due.1)
      | inr refused ↦ inr refused
    ]

-- No other decision.

one-of-two : (l : Layout) (past : List Entry) (e f : Entry) (x : MsgId) → IsLayout l → is_legal l past ≡ true → act_may l (views past e.place e.seat e.act) e.place e.seat e.act ≡ true → act_may l (views past e.place f.seat f.act) e.place f.seat f.act ≡ true → is_decision e.act ≡ true → is_decision f.act ≡ true → message_of e.act ≡ Some x → message_of f.act ≡ Some x → e.place ≡ f.place → e.act ≡ f.act
one-of-two l past e f x layout legal may-e may-f de df me mf places =
    let p = e.place in
    let q = decision-port e.act de in
    let r = decision-port f.act df in
    let may-there : act_may l (views past f.place f.seat f.act) f.place f.seat f.act ≡ true = subst (λ z. act_may l (views past z f.seat f.act) z f.seat f.act ≡ true) places may-f in
    let port : q.0 ≡ r.0 = one-port l past p x q.0 r.0 legal (decision_due l past p e.seat e.act x q.0 de me q.1 may-e) (decision_due l past p f.seat f.act x r.0 df mf r.1 may-f) in
    let of-f : port_of f.act ≡ Some q.0 = r.1 ∙ ap (λ z. Some z) (sym port) in
    elim (due-or-refused l past e x q.0 de me q.1 may-e) [
      | inl due ↦ (
          decides l past p e.seat x q.0 due.0 layout legal due.1 e.act de me q.1 may-e
          ∙ sym (decides l past p f.seat x q.0 due.0 layout legal due.1 f.act df mf of-f may-f))
      | inr a ↦ elim (due-or-refused l past f x q.0 df mf of-f may-there) [
        | inl due ↦ (
            let here : hop_of (due_of l past p x q.0) ≡ Some due.0 = subst (λ z. hop_of (due_of l past z x q.0) ≡ Some due.0) (sym places) due.1 in
            decides l past p e.seat x q.0 due.0 layout legal here e.act de me q.1 may-e
            ∙ sym (decides l past p f.seat x q.0 due.0 layout legal here f.act df mf of-f may-f))
        | inr b ↦ refused q.0 a b
      ]
    ]
  where
    refused : (q : Ui) → IsRefusedOffSite l past e x q ⊎ IsRefusedBeyond l past e x q → IsRefusedOffSite l past f x q ⊎ IsRefusedBeyond l past f x q → e.act ≡ f.act
    refused q (inl a) (inl b) =
        let same : record { to = a.to; hop = a.hop } ≡ record { to = b.to; hop = b.hop } = sym a.off.known ∙ (ap (λ z. located l q (at z past)) places ∙ b.off.known) in
        a.says ∙ ((λ i. Elsewhere x q ((same i).to) ((same i).hop)) ∙ sym b.says)
    refused q (inl a) (inr b) = absurd (false≢true (sym b.beyond ∙ a.off.within))
    refused q (inr a) (inl b) = absurd (false≢true (sym a.beyond ∙ b.off.within))
    refused q (inr a) (inr b) = a.says ∙ sym b.says

pub one-decision : OneDecisionIsPossible
one-decision l past e f x layout legal may-e may-f places de df me mf =
    one-of-two l past e f x layout legal (may_act l past e may-e)
    (subst (λ z. act_may l (views past z f.seat f.act) z f.seat f.act ≡ true) (sym places) (may_act l past f may-f)) de df me mf places

-- Why it decides so.

module _ (l : Layout) (past : List Entry) (e : Entry) (x : MsgId) (q : Ui) (tried : ℕ) (layout : IsLayout l) (h : is_legal l (e ∷ past) ≡ true) (d : is_decision e.act ≡ true) (m : message_of e.act ≡ Some x) (due : IsToDecide l past e.place x q tried) where
  before : is_legal l past ≡ true
  before = (legal_parts l e past h).1

  abbrev o : Option PortState
  o = fate (on q past)

  for-port : port_of e.act ≡ Some q
  for-port =
      let r = decision-port e.act d in
      r.1 ∙ ap (λ z. Some z) (one-port l past e.place x r.0 q before (decision_due l past e.place e.seat e.act x r.0 d m r.1 (legal_parts l e past h).0) (due-here l past e.place x q tried due))

  hop : hop_of (due_of l past e.place x q) ≡ Some tried
  hop = due-is l past e.place x q tried before due

  is : e.act ≡ decision l past e.place x q tried
  is = decides l past e.place e.seat x q tried layout before hop e.act d m for-port (legal_parts l e past h).0

  meets-port : is_held_at e.place o ≡ true → port_met e.act ≡ Some q
  meets-port held =
      ap port_met (is ∙ sym (is-met l past e.place e.seat x q tried layout before hop held))
      ∙ by o held
    where
      of-held : (a c : Bool) (f : PortState) → port_met (met_by x q a c (Some f)) ≡ Some q
      of-held true c f = refl
      of-held false true f = refl
      of-held false false f = room (waiting f == f.capacity)
        where
          room : (b : Bool) → port_met (cond b (Full x q (waiting f)) (Accept x q (length f.accepted))) ≡ Some q
          room true = refl
          room false = refl

      by : (z : Option PortState) → is_held_at e.place z ≡ true → port_met (met_by x q (is_already x past (on q past)) (finds_clients_full x past (on q past)) z) ≡ Some q
      by None k = absurd (false≢true k)
      by (Some f) k = of-held (is_already x past (on q past)) (finds_clients_full x past (on q past)) f

  deleted-is : is_deleted q (at e.place past) ≡ is_ended_at e.place o
  deleted-is = ((legal_inv l past layout before).ports q).ended e.place ∙ by o
    where
      by : (z : Option PortState) → (has_ended (spot_in z) && (last_of 0 (path_of l q z) == e.place)) ≡ is_ended_at e.place z
      by None = refl
      by (Some f) = refl

  -- Early is no answer to what came too late
  not-early : (k : ℕ) → e.act ≡ Early x q k → IsTooLate l past e x q tried → ⊥
  not-early k says late = by (site_asked x past) (sym says ∙ answers_newer l past e layout h x q tried late.0 late.1 d m late.2)
    where
      by : (z : Option ℕ) → Early x q k ≡ naming_decision z x q tried late.0 late.1 → ⊥
      by None j = cc
      by (Some n) j = cc

  early-says : (k : ℕ) → e.act ≡ Early x q k → is_coming e.place k o ≡ true
  early-says k says =
      (and_parts (is_due_with (is_early e.place k (located l q (at e.place past))) (due_of l past e.place x q)) (is_coming e.place k o) (may_as l past e (Early x q k) h says)).1

  comes-early : (k : ℕ) → is_coming e.place k o ≡ true → (IsTooLate l past e x q tried → ⊥) → e.act ≡ Early x q k
  comes-early k c timely =
      let here = located l q (at e.place past) in
      let in-time : nat_lt tried here.hop && not (here.to == e.place) ≡ false = elim (cases_Bool (nat_lt tried here.hop && not (here.to == e.place))) [
        | inr f ↦ f
        | inl t ↦ absurd (
            let two = and_parts (nat_lt tried here.hop) (not (here.to == e.place)) t in
            let apart : here.to ≢ e.place = eqb-false here.to e.place (not-true (here.to == e.place) two.1) in
            elim due [
              | inl tr ↦ timely (
                here.to,
                here.hop,
                record { from = tr.from; is = tr.is; away = (comes l q e.place k o c).held; known = refl; elsewhere = apart; later = ltb-true tried here.hop two.0 },
              )
              | inr n ↦ apart (ap (λ (z : Location). z.to) n.known)
            ])
      ] in
      is ∙ sym (is-early l past e.place e.seat x q tried layout before hop k c in-time)

  unmade-says : e.act ≡ NoPort x q → is_made o ≡ false
  unmade-says says =
      elim (or_cases (is_due_with (λ k. k == 0) (due_of l past e.place x q) && not (is_made o)) (is_beyond l q && is_first x q (at e.place past)) (may_as l past e (NoPort x q) h says)) [
        | inl a ↦ not-true (is_made o) (and_parts (is_due_with (λ k. k == 0) (due_of l past e.place x q)) (not (is_made o)) a).1
        | inr b ↦ (
            let two = and_parts (is_beyond l q) (is_first x q (at e.place past)) b in
            absurd (elim due [
              | inl t ↦ tried-not-first l past e.place x q t.from tried before t.is q two.1
              | inr n ↦ false≢true (ap not (sym n.within) ∙ two.0)
            ]))
      ]

  pub its-cause : HasItsCause l past e x q tried
  its-cause =
      record {
        met = (λ says. meets_where_held l past e h q says, λ held. meets-port held);
        gone = (
          λ says. deleted-is ∙ (and_parts (is_due (due_of l past e.place x q)) (is_ended_at e.place o) (may_as l past e (Gone x q) h says)).1,
          λ gone. is ∙ sym (is-gone l past e.place e.seat x q tried layout before hop (sym deleted-is ∙ gone)),
        );
        no_port = (
          λ says. sym (made-is past q) ∙ unmade-says says,
          λ none. is ∙ sym (is-unmade l past e.place e.seat x q tried layout before hop (made-is past q ∙ none)),
        );
        early = λ k. (
          λ says. (coming-moved l past q e.place k before (early-says k says), λ late. not-early k says late),
          λ way. comes-early k (moved-coming l past q e.place k before way.0) way.1,
        );
      }

pub decides-by-the-port : (l : Layout) (past : List Entry) (e : Entry) → IsLayout l → is_legal l (e ∷ past) ≡ true → DecidesByThePort l past e
decides-by-the-port l past e layout h x q tried d m due = its-cause l past e x q tried layout h d m due

-- Only of a port that was never made.

-- a port is made on a site of the layout
made-here-site : (l : Layout) (past : List Entry) (p s : ℕ) (a : Act) (q : Ui) → act_may l (views past p s a) p s a ≡ true → makes q a ≡ true → has_site l q.site ≡ true
made-here-site l past p s (Make r b c) q may k =
    let four = (and_parts (is_home l b p && nat_le 1 c && nat_le c PENDING_LIMIT && not (is_full_of_ports l (at p past)) && (r.site == b.site)) (r.number == next_number l p (at p past)) may).0 in
    let site = and_parts (is_home l b p && nat_le 1 c && nat_le c PENDING_LIMIT && not (is_full_of_ports l (at p past))) (r.site == b.site) four in
    let two = (and_parts (is_home l b p && nat_le 1 c && nat_le c PENDING_LIMIT) (not (is_full_of_ports l (at p past))) site.0).0 in
    let one = (and_parts (is_home l b p) (nat_le 1 c) (and_parts (is_home l b p && nat_le 1 c) (nat_le c PENDING_LIMIT) two).0).0 in
    let actor = (and_parts (has_actor l b) (place_at l b.site b == p) one).0 in
    let has = (and_parts (has_site l b.site) (nat_le 1 b.number) (and_parts (has_site l b.site && nat_le 1 b.number) (nat_le b.number ACTORS_PER_SITE_LIMIT) actor).0).0 in
    ap (has_site l) (ap (λ (z : Ui). z.site) (sym (from_same_ui r q k)) ∙ eqb-true r.site b.site site.1) ∙ has
made-here-site l past p s _ q may k = absurd (false≢true k)

pub made-site : (l : Layout) (past : List Entry) (q : Ui) → is_legal l past ≡ true → is_made_here q past ≡ true → has_site l q.site ≡ true
made-site l [] q h k = absurd (false≢true k)
made-site l (e ∷ past) q h k =
    elim (or_cases (makes q e.act) (is_made_here q past) k) [
      | inl now ↦ made-here-site l past e.place e.seat e.act q (legal_parts l e past h).0 now
      | inr old ↦ made-site l past q (legal_parts l e past h).1 old
    ]

pub no-port-was-made : (l : Layout) (past : List Entry) (e : Entry) → is_legal l (e ∷ past) ≡ true → NoPortWasMade past e
no-port-was-made l past e h x q says =
    elim (or_cases (is_due_with (λ k. k == 0) (due_of l past e.place x q) && not (is_made (fate (on q past)))) (is_beyond l q && is_first x q (at e.place past)) (may_as l past e (NoPort x q) h says)) [
      | inl a ↦ sym (made-is past q) ∙ not-true (is_made (fate (on q past))) (and_parts (is_due_with (λ k. k == 0) (due_of l past e.place x q)) (not (is_made (fate (on q past)))) a).1
      | inr b ↦ elim (cases_Bool (is_made_here q past)) [
        | inr never ↦ never
        | inl made ↦ absurd (false≢true (ap not (sym (made-site l past q (legal_parts l e past h).1 made)) ∙ (and_parts (is_beyond l q) (is_first x q (at e.place past)) b).0))
      ]
    ]
