-- On what is to be decided at a place a decision may come next.
use Rattle.std.proofs.Common.{ℕ, ◌≡◌, ◌+◌, ◌-◌, ◌<◌, ◌==◌, nat_lt, Bool, true, false, not, ◌&&◌, ◌||◌, cond, List, length, Option, Some, None, is_some, is_none, refl, sym, ◌∙◌, ap, subst, arith, inl, inr}
use Rattle.std.specs.Prelude.{slice_get}
use Rattle.std.proofs.lemmas.Bool.{and_parts, and_from, and_cases, eqb-true, eqb-false, eq-eqb, ltb-false, lt-ltb, le-leb, not-true, not-false, false≢true, true≢false, cases_Bool, cases_lt}
use Rattle.std.proofs.lemmas.Option.{slice_get_within}
use Rattle.chorus_ui.specs.declared.ui.Ui.{Ui}
use Rattle.chorus_ui.specs.declared.layout.Layout.{Layout}
use Rattle.chorus_ui.specs.Layout.{IsLayout, has_place}
use Rattle.chorus_ui.specs.Name.{same_ui}
use Rattle.chorus_ui.specs.NameKind.{is_port}
use Rattle.chorus_ui.proofs.Names.{same_ui-self}
use Rattle.chorus_entry.specs.declared.entry.Entry.{Entry}
use Rattle.chorus_entry.specs.declared.id.MsgId.{MsgId}
use Rattle.chorus_entry.specs.declared.act.Act.{Act}
use Rattle.chorus_entry.specs.declared.act.Act.TheVariants.{Accept, Full, Already, ClientsFull, Stale, Early, NoPort, Elsewhere, Gone}
use Rattle.chorus_entry.specs.Act.{is_decision, message_of}
use Rattle.chorus_entry.specs.Kinds.{has_kinds}
use Rattle.chorus_world.specs.declared.progress.Progress.TheVariants.{Tried}
use Rattle.chorus_world.specs.declared.place.Location.{Location}
use Rattle.chorus_world.specs.declared.place.Sent.{Sent}
use Rattle.chorus_world.specs.declared.spot.Spot.{Spot}
use Rattle.chorus_world.specs.declared.spot.Spot.TheVariants.{Held, Moving, Ended}
use Rattle.chorus_world.specs.declared.due.Due.{Due}
use Rattle.chorus_world.specs.declared.due.Due.TheVariants.{NotDue, ByTry, AtHome}
use Rattle.chorus_world.specs.Views.{views, views_about, at, on}
use Rattle.chorus_world.specs.Ports.{PortState, fate, is_made, is_held, is_moving, is_ended, is_last, last_of, is_held_at, is_ended_at, is_coming, has_room, is_full, waiting}
use Rattle.chorus_world.specs.Posts.{site_asked, is_on_site}
use Rattle.chorus_world.specs.Clients.{is_already, finds_clients_full}
use Rattle.chorus_world.specs.Places.{sent, is_deleted, located, is_location, just_taken, last_clock}
use Rattle.chorus_world.specs.Steps.{act_may, is_legal, is_due_with, is_tried_with, is_due, due_by_try, due_at_home, meets, may_enter, may_stand_behind, is_early}
use Rattle.chorus_world.specs.LocationLaws.{path_of}
use Rattle.chorus_world.proofs.Sorted.Local.{is_kept}
use Rattle.chorus_world.proofs.Ports.PortSteps.{spot_in, next_at_home}
use Rattle.chorus_world.proofs.Ports.Whereabouts.{Facts, at_last}
use Rattle.chorus_world.proofs.Ports.PortMoves.{held_fate}
use Rattle.chorus_world.proofs.Ports.PortLaws.{keeps_to_capacity}
use Rattle.chorus_world.proofs.Messages.SendingLemmas.{some_is}
use Rattle.chorus_world.proofs.Messages.SentFacts.{sent-named, found-has}
use Rattle.chorus_world.proofs.Messages.StageFacts.{StageFacts, keeps-stages}
use Rattle.chorus_world.proofs.Messages.MessageSteps.{Fits, first_sent, legal_inv, locates}
use Rattle.law_world.specs.Decisions.{IsTriedHere, IsToDecide, SomeDecisionIsPossible}
use Rattle.law_world.proofs.Deciding.{hop_of, due_of, due-is}

-- What is due with a hop passes each test that the hop passes.

due-passes : (test : ℕ → Bool) (d : Due) (h : ℕ) → hop_of d ≡ Some h → test h ≡ true → is_due_with test d ≡ true
due-passes test NotDue h e t = absurd (cc)
due-passes test (ByTry k) h e t = ap test (some_is k h e) ∙ t
due-passes test (AtHome k) h e t = ap test (some_is k h e) ∙ t

tried-due : (l : Layout) (past : List Entry) (p : ℕ) (x : MsgId) (q : Ui) (h : ℕ) → IsTriedHere past p x q h → due_of l past p x q ≡ ByTry h
tried-due l past p x q h t =
    ap (λ z. due_by_try p q z (due_at_home l (views_about past p x q) p x q)) t.is
    ∙ (ap (λ b. cond (b && same_ui q q) (ByTry h) (due_at_home l (views_about past p x q) p x q)) (eq-eqb p p refl)
    ∙ ap (λ b. cond b (ByTry h) (due_at_home l (views_about past p x q) p x q)) (same_ui-self q))

module _ (l : Layout) (past : List Entry) (p s : ℕ) (x : MsgId) (q : Ui) (h : ℕ) (layout : IsLayout l) (legal : is_legal l past ≡ true) (undecided : IsToDecide l past p x q h) where
  abbrev o : Option PortState
  o = fate (on q past)

  abbrev here : Location
  here = located l q (at p past)

  abbrev FactsOf : Option PortState → Type 0
  FactsOf z = Facts q (spot_in z) (path_of l q z) (λ r. is_kept q (at r past)) (λ r. is_deleted q (at r past)) (λ r. located l q (at r past)) (next_at_home l q past)

  facts : FactsOf (fate (on q past))
  facts = (legal_inv l past layout legal).ports q

  hop : hop_of (due_of l past p x q) ≡ Some h
  hop = due-is l past p x q h legal undecided

  on-site : is_on_site l (site_asked x past) p ≡ true
  on-site = by undecided
    where
      by : IsToDecide l past p x q h → is_on_site l (site_asked x past) p ≡ true
      by (inl t) = (let f : StageFacts l past x (Tried t.from q p h) = subst (StageFacts l past x) t.is (keeps-stages l past x layout legal) in f.1.0)
      by (inr n) = n.suits

  kind : is_port q ≡ true
  kind = by undecided
    where
      by : IsToDecide l past p x q h → is_port q ≡ true
      by (inl t) = (let f : StageFacts l past x (Tried t.from q p h) = subst (StageFacts l past x) t.is (keeps-stages l past x layout legal) in f.0)
      by (inr n) =
          let f = first_sent past p x q n.first in
          ap is_port (sym f.2) ∙ found-has (λ (m : Sent). is_port m.port ≡ true) x (sent (at p past)) f.0 (sent-named l past p legal) f.1

  -- the port was here by this hop
  was-here : slice_get (path_of l q (fate (on q past))) h ≡ Some p
  was-here = by undecided
    where
      by : IsToDecide l past p x q h → slice_get (path_of l q (fate (on q past))) h ≡ Some p
      by (inl t) = (let f : Fits l past x (Tried t.from q p h) = subst (Fits l past x) t.is ((legal_inv l past layout legal).messages x) in f.0)
      by (inr n) = subst (λ (z : Location). slice_get (path_of l q (fate (on q past))) z.hop ≡ Some z.to) n.known (locates l past p q layout legal)

  record IsPossible : Type 0 where
    act : Act
    decides : is_decision act ≡ true
    about : message_of act ≡ Some x
    kinds : has_kinds act ≡ true
    may : act_may l (views past p s act) p s act ≡ true

  is-met : is_held_at p o ≡ true → meets l (views_about past p x q) p x q ≡ true
  is-met held = and_from (is_due (due_of l past p x q)) (is_held_at p o) (due-passes (λ k. true) (due_of l past p x q) h hop refl) held

  is-entered : is_held_at p o ≡ true → is_already x past (on q past) ≡ false → finds_clients_full x past (on q past) ≡ false → may_enter l (views_about past p x q) p x q ≡ true
  is-entered held a c = and_from _ _ (and_from _ _ (and_from _ _ (is-met held) on-site) (ap not a)) (ap not c)

  of-held : is_held_at p o ≡ true → IsPossible
  of-held held = by (is_already x past (on q past)) refl (finds_clients_full x past (on q past)) refl
    where
      f : PortState
      f = (held_fate p (fate (on q past)) held).0

      made : fate (on q past) ≡ Some (held_fate p (fate (on q past)) held).0
      made = (held_fate p (fate (on q past)) held).2

      room : (b : Bool) → (waiting (held_fate p (fate (on q past)) held).0 == (held_fate p (fate (on q past)) held).0.capacity) ≡ b → is_already x past (on q past) ≡ false → finds_clients_full x past (on q past) ≡ false → IsPossible
      room true e a c =
          let g = (held_fate p (fate (on q past)) held).0 in
          record {
            act = Full x q (waiting g);
            decides = refl;
            about = refl;
            kinds = kind;
            may = and_from _ _ (is-entered held a c) (ap (is_full (waiting g)) made ∙ and_from (waiting g == g.capacity) (waiting g == waiting g) e (eq-eqb (waiting g) (waiting g) refl));
          }
      room false e a c =
          let g = (held_fate p (fate (on q past)) held).0 in
          let le = (keeps_to_capacity l past layout legal q g made).1 in
          let apart = eqb-false (waiting g) g.capacity e in
          let lt : waiting g < g.capacity = elim (cases_lt (waiting g) g.capacity) [
            | inl less ↦ less
            | inr ge ↦ absurd (apart (omega (arith, ge, le)))
          ] in
          record {
            act = Accept x q (length g.accepted);
            decides = refl;
            about = refl;
            kinds = kind;
            may = and_from _ _ (is-entered held a c) (ap (has_room (length g.accepted)) made ∙ and_from (nat_lt (waiting g) g.capacity) (length g.accepted == length g.accepted) (lt-ltb (waiting g) g.capacity lt) (eq-eqb (length g.accepted) (length g.accepted) refl));
          }

      by : (a : Bool) → is_already x past (on q past) ≡ a → (c : Bool) → finds_clients_full x past (on q past) ≡ c → IsPossible
      by true a c d = record { act = Already x q; decides = refl; about = refl; kinds = kind; may = and_from _ _ (is-met held) a }
      by false a true d = record { act = ClientsFull x q; decides = refl; about = refl; kinds = kind; may = and_from _ _ (is-met held) d }
      by false a false d = room (waiting (held_fate p (fate (on q past)) held).0 == (held_fate p (fate (on q past)) held).0.capacity) refl a d

  of-ended : is_ended_at p o ≡ true → IsPossible
  of-ended e =
      record { act = Gone x q; decides = refl; about = refl; kinds = kind; may = and_from _ _ (due-passes (λ k. true) (due_of l past p x q) h hop refl) e }

  of-unmade : is_made o ≡ false → IsPossible
  of-unmade e =
      let first : h ≡ 0 = alone o e was-here in
      record {
        act = NoPort x q;
        decides = refl;
        about = refl;
        kinds = kind;
        may = either _ _ (and_from _ _ (due-passes (λ k. k == 0) (due_of l past p x q) h hop (eq-eqb h 0 first)) (ap not e));
      }
    where
      either : (a b : Bool) → a ≡ true → a || b ≡ true
      either true b k = refl
      either false b k = absurd (false≢true k)

      alone : (z : Option PortState) → is_made z ≡ false → slice_get (path_of l q z) h ≡ Some p → h ≡ 0
      alone None e k = (let lt : h < 1 = slice_get_within (path_of l q None) h p k in omega (arith, lt))
      alone (Some f) e k = absurd (true≢false e)

  -- the place locates the port elsewhere by a later hop
  of-passed : is_held_at p o ≡ false → nat_lt h here.hop && not (here.to == p) ≡ true → IsPossible
  of-passed away pass = by undecided
    where
      two : (nat_lt h (located l q (at p past)).hop ≡ true) × (not ((located l q (at p past)).to == p) ≡ true)
      two = and_parts (nat_lt h (located l q (at p past)).hop) (not ((located l q (at p past)).to == p)) pass

      there : is_location (located l q (at p past)).to (located l q (at p past)).hop (located l q (at p past)) ≡ true
      there = and_from _ _ (eq-eqb (located l q (at p past)).to (located l q (at p past)).to refl) (eq-eqb (located l q (at p past)).hop (located l q (at p past)).hop refl)

      names : IsTriedHere past p x q h → (z : Option ℕ) → site_asked x past ≡ z → IsPossible
      names t None e =
          record {
            act = Stale x q h here.to here.hop;
            decides = refl;
            about = refl;
            kinds = kind;
            may = and_from _ _ (and_from _ _ (and_from _ _ (and_from _ _ (and_from _ _ (due-passes (λ k. k == h) (due_of l past p x q) h hop (eq-eqb h h refl)) (ap not away)) there) two.0) two.1) (ap is_none e);
          }
      names t (Some n) e =
          record {
            act = Elsewhere x q here.to here.hop;
            decides = refl;
            about = refl;
            kinds = kind;
            may = and_from _ _ (and_from _ _ (ap is_some e) there) (last-so _ _ (and_from _ _ (and_from _ _ (ap (is_tried_with (λ k. nat_lt k here.hop)) (tried-due l past p x q h t) ∙ two.0) (ap not away)) two.1));
          }
        where
          last-so : (a b : Bool) → b ≡ true → a || b ≡ true
          last-so true b k = refl
          last-so false b k = k

      by : IsToDecide l past p x q h → IsPossible
      by (inl t) = names t (site_asked x past) refl
      by (inr n) = absurd (eqb-false here.to p (not-true (here.to == p) two.1) (ap (λ (z : Location). z.to) n.known))

  -- the port is on its way here
  of-coming : (f : PortState) → o ≡ Some f → is_held_at p o ≡ false → is_ended_at p o ≡ false → nat_lt h here.hop && not (here.to == p) ≡ false → IsPossible
  of-coming f is held ended timely =
      record {
        act = Early x q (length f.path - 1);
        decides = refl;
        about = refl;
        kinds = kind;
        may = and_from _ _ (due-passes (is_early p (length f.path - 1) here) (due_of l past p x q) h hop comes.1) (ap (is_coming p (length f.path - 1)) is ∙ comes.0);
      }
    where
      of-f : FactsOf (Some f)
      of-f = subst FactsOf is facts

      here-f : slice_get f.path h ≡ Some p
      here-f = subst (λ z. slice_get (path_of l q z) h ≡ Some p) is was-here

      moves-there : last_of 0 f.path ≡ p → is_moving f.spot ≡ true
      moves-there last = by f.spot (subst (λ z. is_held_at p z ≡ false) is held) (subst (λ z. is_ended_at p z ≡ false) is ended)
        where
          by : (z : Spot) → is_held z && is_last p f ≡ false → is_ended z && is_last p f ≡ false → is_moving z ≡ true
          by (Held a) k e = absurd (true≢false (sym (eq-eqb (last_of 0 f.path) p last) ∙ k))
          by Ended k e = absurd (true≢false (sym (eq-eqb (last_of 0 f.path) p last) ∙ e))
          by (Moving a) k e = refl

      coming : last_of 0 f.path ≡ p → is_coming p (length f.path - 1) (Some f) ≡ true
      coming last = and_from _ _ (and_from _ _ (moves-there last) (eq-eqb (last_of 0 f.path) p last)) (eq-eqb (length f.path - 1) (length f.path - 1) refl)

      first-so : (a b : Bool) → a ≡ true → a || b ≡ true
      first-so true b k = refl
      first-so false b k = absurd (false≢true k)

      last-so : (a b : Bool) → b ≡ true → a || b ≡ true
      last-so true b k = refl
      last-so false b k = k

      comes : (is_coming p (length f.path - 1) (Some f) ≡ true) × (is_early p (length f.path - 1) (located l q (at p past)) h ≡ true)
      comes =
          elim (cases_lt (h + 1) (length f.path)) [
            | inr ge ↦ (
                let within = slice_get_within f.path h p here-f in
                let long : length f.path ≡ h + 1 = omega (arith, ge, within) in
                let last : last_of 0 f.path ≡ p = some_is (last_of 0 f.path) p (sym (at_last 0 f.path h long) ∙ here-f) in
                let far = slice_get_within f.path here.hop here.to (of-f.located p) in
                let some : 1 < length f.path = of-f.moving (moves-there last) in (
                  coming last,
                  last-so _ _ (and_from _ _ (and_from _ _ (le-leb here.hop h (omega (arith, far, long))) (eq-eqb (length f.path - 1) h (omega (arith, long)))) (lt-ltb 0 h (omega (arith, some, long)))),
                ))
            | inl less ↦ (
                let newer : h < here.hop = of-f.left p h here-f less in
                let there : here.to ≡ p = elim (and_cases (nat_lt h here.hop) (not (here.to == p)) timely) [
                  | inl early ↦ absurd (let le = ltb-false h here.hop early in omega (arith, le, newer))
                  | inr same ↦ eqb-true here.to p (not-false (here.to == p) same)
                ] in
                let at-hop : slice_get f.path here.hop ≡ Some p = of-f.located p ∙ ap (λ z. Some z) there in
                let within = slice_get_within f.path here.hop p at-hop in
                let long : length f.path ≡ here.hop + 1 = elim (cases_lt (here.hop + 1) (length f.path)) [
                  | inl more ↦ absurd (let bad = of-f.left p here.hop at-hop more in omega (arith, bad))
                  | inr end ↦ omega (arith, end, within)
                ] in
                let last : last_of 0 f.path ≡ p = some_is (last_of 0 f.path) p (sym (at_last 0 f.path here.hop long) ∙ at-hop) in (
                  coming last,
                  first-so _ _ (and_from _ _ (and_from _ _ (eq-eqb here.to p there) (eq-eqb here.hop (length f.path - 1) (omega (arith, long)))) (lt-ltb h (length f.path - 1) (omega (arith, newer, long)))),
                ))
          ]

  possible : IsPossible
  possible = one (is_held_at p o) refl
    where
      four : is_held_at p (fate (on q past)) ≡ false → is_ended_at p (fate (on q past)) ≡ false → (z : Option PortState) → fate (on q past) ≡ z → IsPossible
      four held ended None is = of-unmade (ap is_made is)
      four held ended (Some f) is = elim (cases_Bool (nat_lt h here.hop && not (here.to == p))) [
        | inl pass ↦ of-passed held pass
        | inr timely ↦ of-coming f is held ended timely
      ]

      two : is_held_at p (fate (on q past)) ≡ false → (b : Bool) → is_ended_at p (fate (on q past)) ≡ b → IsPossible
      two held true e = of-ended e
      two held false e = four held e (fate (on q past)) refl

      one : (b : Bool) → is_held_at p (fate (on q past)) ≡ b → IsPossible
      one true e = of-held e
      one false e = two e (is_ended_at p (fate (on q past))) refl

pub some-decision : SomeDecisionIsPossible
some-decision l past p s time x q h layout legal has undecided free before =
    let d = possible l past p s x q h layout legal undecided in
    record {
      act = d.act;
      decides = d.decides;
      about = d.about;
      comes_next =
          and_from _ _ (and_from (has_place l p) (nat_lt (last_clock (at p past)) time) has (lt-ltb (last_clock (at p past)) time before))
          (and_from _ _ (and_from (has_kinds d.act) (may_stand_behind (just_taken past (at p past)) d.act) d.kinds (ap (λ z. may_stand_behind z d.act) free)) d.may);
    }
