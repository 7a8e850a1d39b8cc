-- Where a port is that an actor holds, and what NotHere means.
use Rattle.std.proofs.Common.{ℕ, ◌≡◌, ◌↔◌, ◌==◌, nat_lt, nat_le, Bool, true, false, not, ◌&&◌, cond, List, [], ◌∷◌, ◌++◌, Option, Some, None, refl, sym, ◌∙◌, ap, subst, inl, inr}
use Rattle.std.proofs.lemmas.Bool.{and_parts, and_from, eqb-true, eq-eqb, not-true, false≢true, true≢false, cases_Bool}
use Rattle.chorus_ui.specs.declared.ui.Ui.{Ui}
use Rattle.chorus_ui.specs.declared.layout.Layout.{Layout}
use Rattle.chorus_ui.specs.declared.limits.TheConstants.{ACTORS_PER_SITE_LIMIT}
use Rattle.chorus_ui.specs.Layout.{IsLayout, has_site, has_actor, site_of, place_at}
use Rattle.chorus_ui.specs.Name.{same_ui}
use Rattle.chorus_ui.proofs.Names.{from_same_ui}
use Rattle.chorus_entry.specs.declared.command.Command.{Command}
use Rattle.chorus_entry.specs.declared.command.Command.TheVariants as commands
use Rattle.chorus_entry.specs.declared.entry.Entry.{Entry}
use Rattle.chorus_entry.specs.declared.act.Act.{Act}
use Rattle.chorus_entry.specs.declared.act.Act.TheVariants.{Make, NoActor, Accept, Full, Already, ClientsFull, Take, Empty, NotHere, Rehome, Depart, Arrive, Delete}
use Rattle.chorus_entry.specs.Act.{held_port_of}
use Rattle.chorus_world.specs.declared.spot.Spot.{Spot}
use Rattle.chorus_world.specs.declared.spot.Spot.TheVariants.{Held, Moving, Ended}
use Rattle.chorus_world.specs.Views.{views, on, is_on}
use Rattle.chorus_world.specs.Ports.{PortState, fate, fate_after, changed, is_held_at, is_last, last_of, is_next_hop, arrived}
use Rattle.chorus_world.specs.Steps.{act_may, may, is_legal}
use Rattle.chorus_world.specs.Runs.{is_held_by, is_held_at_by, fits_caller, fits_callers, may_run, is_run}
use Rattle.chorus_world.specs.Commands.{act_answers, answers, move_answers}
use Rattle.chorus_world.specs.Places.{last_clock}
use Rattle.chorus_world.specs.Views.{by}
use Rattle.chorus_world.proofs.Steps.LegalLemmas.{legal_parts, on_is}
use Rattle.chorus_world.proofs.Ports.LineLemmas.{none_some, Needs, needs}
use Rattle.chorus_world.proofs.Ports.PortMoves.{held_fate, make_new}
use Rattle.chorus_world.proofs.Ports.Sites.{place-site}
use Rattle.chorus_world.proofs.Messages.SendingLemmas.{some_is}
use Rattle.chorus_world.proofs.Messages.MessageSteps.{legal_inv}
use Rattle.chorus_world.proofs.Sorted.Holders.{run_is_legal}
use Rattle.law_world.specs.Holding.{IsAtActorsSite, holds, port_wanted, NotHereMeansNotHeld}
use Rattle.law_world.proofs.Naming.{make-needs}

-- The site of the actor that holds a port, or that it is on its way to.

abbrev OnSite : Layout → Spot → ℕ → Type 0
OnSite l (Held a) p = a.site ≡ site_of l p
OnSite l (Moving a) p = a.site ≡ site_of l p
OnSite l Ended p = Unit {0}

-- the port is at its place of some site, which is that of the actor
record Stands (l : Layout) (q : Ui) (f : PortState) : Type 0 where
  place : last_of 0 f.path ≡ place_at l (site_of l (last_of 0 f.path)) q
  site : OnSite l f.spot (last_of 0 f.path)

abbrev StandsRight : Layout → Ui → Option PortState → Type 0
StandsRight l q None = Unit {0}
StandsRight l q (Some f) = Stands l q f

last-push : (a : ℕ) (ps : List ℕ) (p : ℕ) → last_of a (ps ++ p ∷ []) ≡ p
last-push a [] p = refl
last-push a (r ∷ ps) p = last-push r ps p

site-of-actor : (l : Layout) (a : Ui) → has_actor l a ≡ true → has_site l a.site ≡ true
site-of-actor l a h = (and_parts (has_site l a.site) (nat_le 1 a.number) (and_parts (has_site l a.site && nat_le 1 a.number) (nat_le a.number ACTORS_PER_SITE_LIMIT) h).0).0

arrived-site : (l : Layout) (s : Spot) (p : ℕ) → OnSite l s p → OnSite l (arrived s) p
arrived-site l (Held a) p h = h
arrived-site l (Moving a) p h = h
arrived-site l Ended p h = h

module _ (l : Layout) (past : List Entry) (p s : ℕ) (q : Ui) (layout : IsLayout l) (legal : is_legal l past ≡ true) where
  abbrev o : Option PortState
  o = fate (on q past)

  abbrev May : Act → Type 0
  May a = act_may l (views past p s a) p s a ≡ true

  -- what leaves the path and the spot as they are
  stays : (a : Act) → ((f : PortState) → fate_after p a (Some f) ≡ Some (changed a f)) → ((f : PortState) → Stands l q f → Stands l q (changed a f)) → (z : Option PortState) → StandsRight l q z → fate_after p a None ≡ None → StandsRight l q (fate_after p a z)
  stays a after keeps None i none = subst (StandsRight l q) (sym none) tt
  stays a after keeps (Some f) i none = subst (StandsRight l q) (sym (after f)) (keeps f i)

  step : (a : Act) → held_port_of a ≡ Some q → Needs p a o → May a → StandsRight l q o → StandsRight l q (fate_after p a o)
  step (Make r b c) e n m i =
      let same : r ≡ q = some_is r q e in
      let needs = make-needs l past p s r b c m in
      let new = make_new l past p s r b c layout ((legal_inv l past layout legal).ports r) m in
      let has : has_site l r.site ≡ true = ap (has_site l) needs.site ∙ needs.has in
      let site : site_of l p ≡ r.site = ap (site_of l) (sym new.1) ∙ place-site l r.site r layout has in
      record {
        place = sym new.1 ∙ ((λ i. place_at l (sym site i) r) ∙ ap (place_at l (site_of l p)) same);
        site = sym needs.site ∙ sym site;
      }
  step (Rehome r b) e n m i =
      let same : r ≡ q = some_is r q e in
      let f = held_fate p o n in
      let old : Stands l q f.0 = subst (StandsRight l q) f.2 i in
      let site = eqb-true b.site (site_of l p) (and_parts (is_held_at p (fate (on r past)) && has_actor l b) (b.site == site_of l p) m).1 in
      subst (λ z. StandsRight l q (fate_after p (Rehome r b) z)) (sym f.2)
      (record { place = old.place; site = site ∙ ap (site_of l) (sym f.4) })
  step (Depart r to b hop) e n m i =
      let same : r ≡ q = some_is r q e in
      let f = held_fate p o n in
      let four = and_parts (is_held_at p (fate (on r past)) && has_actor l b && not (b.site == site_of l p) && (to == place_at l b.site r)) (is_next_hop hop (fate (on r past))) m in
      let three = and_parts (is_held_at p (fate (on r past)) && has_actor l b && not (b.site == site_of l p)) (to == place_at l b.site r) four.0 in
      let two = and_parts (is_held_at p (fate (on r past)) && has_actor l b) (not (b.site == site_of l p)) three.0 in
      let actor = (and_parts (is_held_at p (fate (on r past))) (has_actor l b) two.0).1 in
      let there : to ≡ place_at l b.site r = eqb-true to (place_at l b.site r) three.1 in
      let site : site_of l to ≡ b.site = ap (site_of l) there ∙ place-site l b.site r layout (site-of-actor l b actor) in
      let last : last_of 0 ((f.0).path ++ to ∷ []) ≡ to = last-push 0 (f.0).path to in
      subst (λ z. StandsRight l q (fate_after p (Depart r to b hop) z)) (sym f.2)
      (record {
        place = last ∙ (there ∙ ((λ i. place_at l (sym site i) (same i)) ∙ ap (λ z. place_at l (site_of l z) q) (sym last)));
        site = sym site ∙ ap (site_of l) (sym last);
      })
  step (Arrive r hop) e n m i = stays (Arrive r hop) (λ f. refl) (λ f z. record { place = z.place; site = arrived-site l f.spot (last_of 0 f.path) z.site }) o i refl
  step (Delete r xs) e n m i = stays (Delete r xs) (λ f. refl) (λ f z. record { place = z.place; site = tt }) o i refl
  step (Accept x r k) e n m i = stays (Accept x r k) (λ f. refl) (λ f z. record { place = z.place; site = z.site }) o i refl
  step (Full x r k) e n m i = stays (Full x r k) (λ f. refl) (λ f z. z) o i refl
  step (Already x r) e n m i = stays (Already x r) (λ f. refl) (λ f z. z) o i refl
  step (ClientsFull x r) e n m i = stays (ClientsFull x r) (λ f. refl) (λ f z. z) o i refl
  step (Take r k x) e n m i = stays (Take r k x) (λ f. refl) (λ f z. record { place = z.place; site = z.site }) o i refl
  step (Empty r) e n m i = stays (Empty r) (λ f. refl) (λ f z. z) o i refl
  step _ e n m i = none_some q e

stands-right : (l : Layout) (past : List Entry) (q : Ui) → IsLayout l → is_legal l past ≡ true → StandsRight l q (fate (on q past))
stands-right l [] q layout h = tt
stands-right l (e ∷ past) q layout h = go (is_on (Some q) e) refl (stands-right l past q layout (legal_parts l e past h).1)
  where
    go : (b : Bool) → is_on (Some q) e ≡ b → StandsRight l q (fate (on q past)) → StandsRight l q (fate (cond b (e ∷ on q past) (on q past)))
    go false t i = i
    go true t i =
        let two = legal_parts l e past h in
        let line = on_is q (held_port_of e.act) t in
        step l past e.place e.seat q layout two.1 e.act line (needs l past e.clock e.place e.seat e.act q line two.0) two.0 i

pub at-actors-site : IsAtActorsSite
at-actors-site l past q a f layout h is held =
    let s : Stands l q f = subst (StandsRight l q) is (stands-right l past q layout h) in
    let site : a.site ≡ site_of l (last_of 0 f.path) = subst (λ z. OnSite l z (last_of 0 f.path)) held s.site in
    s.place ∙ ap (λ z. place_at l z q) (sym site)

-- NotHere.

-- who holds it at a place holds it
pub held-holds : (p : ℕ) (a : Ui) (o : Option PortState) → is_held_at_by p a o ≡ true → holds a o ≡ true
held-holds p a None h = absurd (false≢true h)
held-holds p a (Some f) h = (and_parts (is_held_by a f.spot) (is_last p f) h).0

-- and who holds it, holds it at the port's place on its site
holds-held : (l : Layout) (past : List Entry) (a q : Ui) → IsLayout l → is_legal l past ≡ true → holds a (fate (on q past)) ≡ true → is_held_at_by (place_at l a.site q) a (fate (on q past)) ≡ true
holds-held l past a q layout legal h = by (fate (on q past)) refl h
  where
    spot : (f : PortState) → fate (on q past) ≡ Some f → (s : Spot) → f.spot ≡ s → is_held_by a s ≡ true → is_held_by a f.spot && is_last (place_at l a.site q) f ≡ true
    spot f is (Held b) e k =
        let same : a ≡ b = from_same_ui a b k in
        let last : last_of 0 f.path ≡ place_at l a.site q = at-actors-site l past q a f layout legal is (e ∙ ap (λ z. Held z) (sym same)) in
        and_from (is_held_by a f.spot) (is_last (place_at l a.site q) f) (ap (is_held_by a) e ∙ k) (eq-eqb (last_of 0 f.path) (place_at l a.site q) last)
    spot f is (Moving b) e k = absurd (false≢true k)
    spot f is Ended e k = absurd (false≢true k)

    by : (o : Option PortState) → fate (on q past) ≡ o → holds a o ≡ true → is_held_at_by (place_at l a.site q) a o ≡ true
    by None is k = absurd (false≢true k)
    by (Some f) is k = spot f is f.spot refl k

module _ (l : Layout) (past : List Entry) (a q : Ui) (layout : IsLayout l) (legal : is_legal l past ≡ true) where
  abbrev place : ℕ
  place = place_at l a.site q

  abbrev held : Bool
  held = is_held_at_by place a (fate (on q past))

  abbrev Means : Act → Type 0
  Means act = (act ≡ NotHere q) ↔ (holds a (fate (on q past)) ≡ false)

  -- it holds the port here
  not-away : (act : Act) → (act ≡ NotHere q → ⊥) → held ≡ true → Means act
  not-away act other h = (λ e. absurd (other e), λ none. absurd (true≢false (sym (held-holds place a (fate (on q past)) h) ∙ none)))

  away : not held ≡ true → Means (NotHere q)
  away h = (
    λ e. elim (cases_Bool (holds a (fate (on q past)))) [
      | inr f ↦ f
      | inl t ↦ absurd (true≢false (sym (holds-held l past a q layout legal t) ∙ not-true held h))
    ],
    λ none. refl,
  )

  on-port : (f : Ui → Act) (r : Ui) → same_ui r q ≡ true → (fits_caller past place a (f q) ≡ true → Means (f q)) → fits_caller past place a (f r) ≡ true → Means (f r)
  on-port f r t k m =
      let same : r ≡ q = from_same_ui r q t in
      subst (λ z. Means (f z)) (sym same) (k (subst (λ z. fits_caller past place a (f z) ≡ true) same m))

  of-take : (act : Act) → act_answers past place 0 a (commands.Take q) act ≡ true → fits_caller past place a act ≡ true → Means act
  of-take (Take r n x) t m = on-port (λ z. Take z n x) r t (λ h. not-away (Take q n x) (λ e. cc) h) m
  of-take (Empty r) t m = on-port (λ z. Empty z) r t (λ h. not-away (Empty q) (λ e. cc) h) m
  of-take (NotHere r) t m = on-port (λ z. NotHere z) r t away m
  of-take _ t m = absurd (false≢true t)

  of-move : (b : Ui) (act : Act) → move_answers held q b act ≡ true → fits_caller past place a act ≡ true → Means act
  of-move b (Rehome r c) t m = on-port (λ z. Rehome z c) r (and_parts (same_ui r q) (same_ui c b) t).0 (λ h. not-away (Rehome q c) (λ e. cc) h) m
  of-move b (Depart r to c hop) t m = on-port (λ z. Depart z to c hop) r (and_parts (same_ui r q) (same_ui c b) t).0 (λ h. not-away (Depart q to c hop) (λ e. cc) h) m
  of-move b (NotHere r) t m = on-port (λ z. NotHere z) r t away m
  of-move b (NoActor c) t m = not-away (NoActor c) (λ e. cc) (and_parts (same_ui c b) held t).1
  of-move b _ t m = absurd (false≢true t)

  of-delete : (act : Act) → act_answers past place 0 a (commands.Delete q) act ≡ true → fits_caller past place a act ≡ true → Means act
  of-delete (Delete r xs) t m = on-port (λ z. Delete z xs) r t (λ h. not-away (Delete q xs) (λ e. cc) h) m
  of-delete (NotHere r) t m = on-port (λ z. NotHere z) r t away m
  of-delete _ t m = absurd (false≢true t)

pub not-here-means : NotHereMeansNotHeld
not-here-means l callers past e a q c layout run who ans wanted = by c wanted ans
  where
    three : (may l past e && may_run callers past e ≡ true) × (is_run l callers past ≡ true)
    three = and_parts (may l past e && may_run callers past e) (is_run l callers past) run

    legal : is_legal l past ≡ true
    legal = run_is_legal l callers past three.1

    fits : fits_caller past e.place a e.act ≡ true
    fits =
        ap (λ z. fits_callers past e.place z e.act) (sym who)
        ∙ (and_parts (nat_lt (last_clock (by e.seat past)) e.clock) (fits_callers past e.place (callers e.seat) e.act) (and_parts (may l past e) (may_run callers past e) three.0).1).1

    by : (d : Command) → port_wanted d ≡ Some q → answers l past a d e ≡ true → (e.act ≡ NotHere q) ↔ (holds a (fate (on q past)) ≡ false)
    by (commands.Take r) w t =
        let same : r ≡ q = some_is r q w in
        let two = and_parts (e.place == place_at l a.site r) (act_answers past e.place e.seat a (commands.Take r) e.act) t in
        let place : e.place ≡ place_at l a.site q = eqb-true e.place (place_at l a.site r) two.0 ∙ ap (place_at l a.site) same in
        of-take l past a q layout legal e.act (subst (λ z. act_answers past (place_at l a.site q) 0 a (commands.Take z) e.act ≡ true) same two.1) (subst (λ z. fits_caller past z a e.act ≡ true) place fits)
    by (commands.Move r b) w t =
        let same : r ≡ q = some_is r q w in
        let two = and_parts (e.place == place_at l a.site r) (act_answers past e.place e.seat a (commands.Move r b) e.act) t in
        let place : e.place ≡ place_at l a.site q = eqb-true e.place (place_at l a.site r) two.0 ∙ ap (place_at l a.site) same in
        of-move l past a q layout legal b e.act (subst (λ z. move_answers (is_held_at_by z a (fate (on q past))) q b e.act ≡ true) place (subst (λ z. move_answers (is_held_at_by e.place a (fate (on z past))) z b e.act ≡ true) same two.1)) (subst (λ z. fits_caller past z a e.act ≡ true) place fits)
    by (commands.Delete r) w t =
        let same : r ≡ q = some_is r q w in
        let two = and_parts (e.place == place_at l a.site r) (act_answers past e.place e.seat a (commands.Delete r) e.act) t in
        let place : e.place ≡ place_at l a.site q = eqb-true e.place (place_at l a.site r) two.0 ∙ ap (place_at l a.site) same in
        of-delete l past a q layout legal e.act (subst (λ z. act_answers past (place_at l a.site q) 0 a (commands.Delete z) e.act ≡ true) same two.1) (subst (λ z. fits_caller past z a e.act ≡ true) place fits)
    by _ w t = none_some q w
