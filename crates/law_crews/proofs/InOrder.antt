-- The takes of a pass, and so those of a crew, are in the order of their positions.
-- s is a seat, q a port, P the number of the place at which the seat takes from it. A past has its newest entry first.
use Rattle.std.proofs.Common.{ℕ, zero, suc, ◌≡◌, ◌==◌, inl, inr, Bool, true, false, ◌&&◌, cond, nat_le, nat_lt, List, [], ◌∷◌, ◌++◌, append-nil, append_assoc, map, reverse, Option, Some, None, slice_get, refl, sym, ◌∙◌, ap, ap₂, subst}
use Rattle.std.specs.List.{All, filter}
use Rattle.std.specs.Option.{option_map}
use Rattle.std.proofs.lemmas.Bool.{and_parts, eqb-true, eq-eqb, false≢true, le-leb, and_from}
use Rattle.std.proofs.lemmas.List.{reverse-append}
use Rattle.std.proofs.lemmas.List.Elements.{All-nil, All-cons, All-head, All-tail}
use Rattle.chorus_ui.specs.declared.ui.Ui.{Ui}
use Rattle.chorus_ui.specs.declared.layout.Layout.{Layout}
use Rattle.chorus_ui.specs.declared.limits.TheConstants.{ACTORS_PER_SITE_LIMIT}
use Rattle.chorus_ui.specs.Layout.{IsLayout, has_place, has_site, has_actor, place_at}
use Rattle.chorus_ui.specs.Name.{same_ui}
use Rattle.chorus_ui.proofs.Names.{from_same_ui, same_ui-self}
use Rattle.chorus_calls.specs.declared.client.Settle.{Settle}
use Rattle.chorus_calls.specs.declared.client.Settle.TheVariants as settles
use Rattle.chorus_entry.specs.declared.entry.Entry.{Entry}
use Rattle.chorus_entry.specs.declared.id.MsgId.{MsgId}
use Rattle.chorus_entry.specs.declared.tag.Tag.{Tag}
use Rattle.chorus_entry.specs.declared.act.Act.{Act}
use Rattle.chorus_entry.specs.Act.{held_port_of}
use Rattle.chorus_entry.specs.Order.{is_at}
use Rattle.chorus_entry.specs.Same.{are_same}
use Rattle.chorus_world.specs.declared.spot.Spot.{Spot}
use Rattle.chorus_world.specs.declared.spot.Spot.TheVariants.{Held, Moving, Ended}
use Rattle.chorus_world.specs.Views.{at, by, on, is_by, is_on}
use Rattle.chorus_world.specs.Places.{last_clock}
use Rattle.chorus_world.specs.Ports.{PortState, fate, is_last, last_of}
use Rattle.chorus_world.specs.Steps.{is_legal, may}
use Rattle.chorus_world.specs.Runs.{fits_callers, is_held_at_by, is_held_by, is_run, may_run}
use Rattle.chorus_world.proofs.Moments.{run-older}
use Rattle.chorus_world.proofs.Ports.Sites.{place-inside}
use Rattle.chorus_world.proofs.Sorted.Holders.{run_is_legal}
use Rattle.chorus_world.proofs.Steps.LegalLemmas.{entry, keeps, skips}
use Rattle.law_world.proofs.Holding.{at-actors-site}
use Rattle.law_replies.specs.Taking.{settled_acts, taken_acts}
use Rattle.law_history.specs.Journals.{Comer, IsComer}
use Rattle.law_history.specs.Runs.{actor_among}
use Rattle.law_closing.specs.Places.{PlaceNote}
use Rattle.chorus_turn.specs.declared.knowledge.Note.{Note}
use Rattle.chorus_turn.specs.declared.knowledge.Placed.{Placed}
use Rattle.chorus_turn.specs.declared.knowledge.Knowledge.{Knowledge}
use Rattle.chorus_turn.specs.Journals.{at_place, entries_of}
use Rattle.chorus_net.specs.declared.closed.Closed.{Closed}
use Rattle.chorus_net.specs.Closing.{past_of}
use Rattle.chorus_nucleus.specs.declared.taken_message.TakenMessage.{TakenMessage}
use Rattle.chorus_nucleus.specs.Answers.{reply_with}
use Rattle.chorus_nucleus.specs.Closing.{ClosesAs}
use Rattle.chorus_nucleus.specs.Passes.{layout_of, known}
use Rattle.chorus_nucleus.specs.Taking.{acts_made}
use Rattle.chorus_nucleus.proofs.Running.{a-closed-nucleus-is-a-run}
use Rattle.chorus_crew.specs.Handling.{took_acts}
use Rattle.law_crews.specs.Passes.{passes_of}
use Rattle.law_crews.specs.Positions.{TakesInOrder, positions, positions_after}
use Rattle.law_crews.specs.Taken.{CrewsTookInOrder, PassesTakeInOrder, position_in, positions_in}
use Rattle.law_crews.proofs.Lists.{In}
use Rattle.law_crews.proofs.Passes.{at-one, contained-in, made-stands, stands-so}
use Rattle.law_crews.proofs.Seats.{in-order-front, legal-takes-of-a-seat}

-- The positions of entries, by their acts.

one-act : (c p s : ℕ) (a : Act) (q : Ui) → positions (on q (entry c p s a ∷ [])) ≡ position_in q a
one-act c p s (Act.Take r n x) q = go (same_ui q r)
  where
    go : (b : Bool) → positions (cond b (entry c p s (Act.Take r n x) ∷ []) []) ≡ cond b (n ∷ []) []
    go true = refl
    go false = refl
one-act c p s a q = go (are_same same_ui (Some q) (held_port_of a))
  where
    go : (b : Bool) → positions (cond b (entry c p s a ∷ []) []) ≡ []
    go true = refl
    go false = refl

one-entry : (e : Entry) (q : Ui) → positions (on q (e ∷ [])) ≡ position_in q e.act
one-entry e q = one-act e.clock e.place e.seat e.act q

after-more : (a : Act) (ns : List ℕ) → positions_after a ns ≡ ns ++ positions_after a []
after-more (Act.Take q n x) ns = refl
after-more _ ns = sym (append-nil ns)

first-more : (q : Ui) (e : Entry) (es : List Entry) → positions (on q (e ∷ es)) ≡ positions (on q es) ++ position_in q e.act
first-more q e es = go (is_on (Some q) e) refl ∙ ap (λ ns. positions (on q es) ++ ns) (one-entry e q)
  where
    go : (b : Bool) → is_on (Some q) e ≡ b → positions (cond b (e ∷ on q es) (on q es)) ≡ positions (on q es) ++ positions (cond b (e ∷ []) [])
    go true h = after-more e.act (positions (on q es))
    go false h = sym (append-nil (positions (on q es)))

both : (q : Ui) (xs ys : List Entry) → positions (on q (xs ++ ys)) ≡ positions (on q ys) ++ positions (on q xs)
both q [] ys = sym (append-nil (positions (on q ys)))
both q (e ∷ xs) ys =
    first-more q e (xs ++ ys) ∙ ap (λ ns. ns ++ position_in q e.act) (both q xs ys)
    ∙ append_assoc (positions (on q ys)) (positions (on q xs)) (position_in q e.act) ∙ ap (λ ns. positions (on q ys) ++ ns) (sym (first-more q e xs))

turned : (q : Ui) (es : List Entry) → positions (on q (reverse es)) ≡ positions_in q (map (λ (e : Entry). e.act) es)
turned q [] = refl
turned q (e ∷ es) =
    ap (λ zs. positions (on q zs)) (reverse-append (e ∷ []) es) ∙ both q (reverse es) (e ∷ [])
    ∙ ap₂ (λ xs ys. xs ++ ys) (one-entry e q) (turned q es)

takes-none : (q : Ui) (a : Act) → ((n : ℕ) (x : MsgId) → a ≡ Act.Take q n x → ⊥) → position_in q a ≡ []
takes-none q (Act.Take r n x) none = go (same_ui q r) refl
  where
    go : (b : Bool) → same_ui q r ≡ b → cond b (n ∷ []) [] ≡ []
    go true h = absurd (none n x (ap (λ z. Act.Take z n x) (sym (from_same_ui q r h))))
    go false h = refl
takes-none q a none = refl

positions-more : (q : Ui) (xs ys : List Act) → positions_in q (xs ++ ys) ≡ positions_in q xs ++ positions_in q ys
positions-more q [] ys = refl
positions-more q (a ∷ xs) ys =
    ap (λ ns. position_in q a ++ ns) (positions-more q xs ys) ∙ sym (append_assoc (position_in q a) (positions_in q xs) (positions_in q ys))

-- A seat takes from a port at one place.

abbrev TakesAt : Ui → ℕ → ℕ → Entry → Type 0
TakesAt q s P e = e.seat ≡ s → (n : ℕ) (x : MsgId) → e.act ≡ Act.Take q n x → e.place ≡ P

at-place : (q : Ui) (s P : ℕ) (past : List Entry) → All (TakesAt q s P) past → positions (on q (by s past)) ≡ positions (on q (by s (at P past)))
at-place q s P [] a = refl
at-place q s P (e ∷ past) a = go (is_by s e) (is_at P e) refl refl (at-place q s P past (All-tail (TakesAt q s P) e past a))
  where
    go : (b d : Bool) → is_by s e ≡ b → is_at P e ≡ d → positions (on q (by s past)) ≡ positions (on q (by s (at P past))) → positions (on q (cond b (e ∷ by s past) (by s past))) ≡ positions (on q (by s (cond d (e ∷ at P past) (at P past))))
    go false false t u ih = ih
    go false true t u ih = ih ∙ ap (λ (zs : List Entry). positions (on q zs)) (sym (skips (is_by s) e (at P past) t))
    go true true t u ih =
        first-more q e (by s past) ∙ ap (λ ns. ns ++ position_in q e.act) ih ∙ sym (first-more q e (by s (at P past)))
        ∙ ap (λ (zs : List Entry). positions (on q zs)) (sym (keeps (is_by s) e (at P past) t))
    go true false t u ih =
        let none = takes-none q e.act (λ n x is. false≢true (sym u ∙ eq-eqb e.place P (All-head (TakesAt q s P) e past a (eqb-true e.seat s t) n x is))) in
        first-more q e (by s past) ∙ ap (λ ns. positions (on q (by s past)) ++ ns) none ∙ append-nil (positions (on q (by s past))) ∙ ih

at-made : (q : Ui) (P : ℕ) (mine : List (Placed PlaceNote)) → All (λ (m : Placed PlaceNote). (n : ℕ) (x : MsgId) → m.remarked.entry.act ≡ Act.Take q n x → m.place ≡ P) mine
    → positions_in q (map (λ (e : Entry). e.act) (entries_of (at_place P mine))) ≡ positions_in q (acts_made mine)
at-made q P [] a = refl
at-made q P (m ∷ mine) a = go (m.place == P) refl (at-made q P mine (All-tail Is m mine a))
  where
    Is : Placed PlaceNote → Type 0
    Is z = (n : ℕ) (x : MsgId) → z.remarked.entry.act ≡ Act.Take q n x → z.place ≡ P

    there : List (Placed PlaceNote)
    there = filter (λ (z : Placed PlaceNote). z.place == P) mine

    acts : List (Placed PlaceNote) → List Act
    acts zs = map (λ (e : Entry). e.act) (entries_of (map (λ (z : Placed PlaceNote). z.remarked) zs))

    go : (b : Bool) → (m.place == P) ≡ b → positions_in q (map (λ (e : Entry). e.act) (entries_of (at_place P mine))) ≡ positions_in q (acts_made mine)
        → positions_in q (map (λ (e : Entry). e.act) (entries_of (map (λ (z : Placed PlaceNote). z.remarked) (cond b (m ∷ filter (λ (z : Placed PlaceNote). z.place == P) mine) (filter (λ (z : Placed PlaceNote). z.place == P) mine))))) ≡ positions_in q (acts_made (m ∷ mine))
    go true t ih = ap (λ ns. position_in q m.remarked.entry.act ++ ns) ih
    go false t ih =
        let none = takes-none q m.remarked.entry.act (λ n x is. false≢true (sym t ∙ eq-eqb m.place P (All-head Is m mine a n x is))) in
        ih ∙ ap (λ ns. ns ++ positions_in q (acts_made mine)) (sym none)

-- who takes from a port takes at its place on the site of the actor
held-there : (l : Layout) (past : List Entry) (p : ℕ) (q a : Ui) (o : Option PortState) → IsLayout l → is_legal l past ≡ true → fate (on q past) ≡ o → is_held_at_by p a o ≡ true → p ≡ place_at l a.site q
held-there l past p q a None shape legal is h = absurd (false≢true h)
held-there l past p q a (Some f) shape legal is h =
    let two = and_parts (is_held_by a f.spot) (is_last p f) h in
    by-spot f.spot refl two.0 (eqb-true (last_of 0 f.path) p two.1)
  where
    by-spot : (s : Spot) → f.spot ≡ s → is_held_by a s ≡ true → last_of 0 f.path ≡ p → p ≡ place_at l a.site q
    by-spot (Held b) spot same last =
        let actor : a ≡ b = from_same_ui a b same in
        sym last ∙ at-actors-site l past q a f shape legal is (spot ∙ ap (λ z. Held z) (sym actor))
    by-spot (Moving b) spot same last = absurd (false≢true same)
    by-spot Ended spot same last = absurd (false≢true same)

fits : (l : Layout) (callers : ℕ → Option Ui) (older : List Entry) (e : Entry) → is_run l callers (e ∷ older) ≡ true → fits_callers older e.place (callers e.seat) e.act ≡ true
fits l callers older e run =
    let first = and_parts (may l older e && may_run callers older e) (is_run l callers older) run in
    let second = and_parts (may l older e) (may_run callers older e) first.0 in
    (and_parts (nat_lt (last_clock (by e.seat older)) e.clock) (fits_callers older e.place (callers e.seat) e.act) second.1).1

-- the place where the seat takes from the port
record TakingPlace (l : Layout) (q : Ui) (s : ℕ) (past : List Entry) : Type 0 where
  place : ℕ
  has : has_place l place ≡ true
  takes : (e : Entry) → In e past → TakesAt q s place e

all-of : {X : Type 0} (P : X → Type 0) (xs : List X) → ((x : X) → In x xs → P x) → All P xs
all-of P [] h = All-nil P
all-of P (x ∷ xs) h = All-cons P x xs (h x (inl refl)) (all-of P xs (λ y there. h y (inr there)))

among : (l : Layout) (comers : List Comer) (s : ℕ) (a : Ui) → All (IsComer l) comers → actor_among comers s ≡ Some a → has_site l a.site ≡ true
among l comers s a all is = go comers s all is
  where
    site-of : (b : Ui) → has_actor l b ≡ true → has_site l b.site ≡ true
    site-of b h = (and_parts (has_site l b.site) (nat_le 1 b.number) (and_parts (has_site l b.site && nat_le 1 b.number) (nat_le b.number ACTORS_PER_SITE_LIMIT) h).0).0

    go : (cs : List Comer) (s : ℕ) → All (IsComer l) cs → option_map (λ (c : Comer). c.actor) (slice_get cs s) ≡ Some a → has_site l a.site ≡ true
    go [] s all is = absurd (cc)
    go (c ∷ cs) zero all is = let same : c.actor ≡ a = cc in subst (λ (z : Ui). has_site l z.site ≡ true) same (site-of c.actor (All-head (IsComer l) c cs all).actor)
    go (c ∷ cs) (suc s) all is = go cs s (All-tail (IsComer l) c cs all) is

module _ (l : Layout) (v : Knowledge PlaceNote) (comers : List Comer) (c : Closed) (shape : IsLayout l) (k : ClosesAs l v comers c) where
  abbrev past : List Entry
  past = past_of c

  run : is_run l (actor_among comers) past ≡ true
  run = (a-closed-nucleus-is-a-run l v comers c shape k).run

  -- an entry of the seat, with its act: it fits the actor of the seat
  fits-here : (e : Entry) → In e past → (s : ℕ) → e.seat ≡ s → (act : Act) → e.act ≡ act → (o : Option Ui) → actor_among comers s ≡ o → (older : List Entry) × (is_legal l older ≡ true) × (fits_callers older e.place o act ≡ true)
  fits-here e there s seat act is o who =
      let st = stands-so e past there in
      let here : is_run l (actor_among comers) (e ∷ st.older) ≡ true = run-older l (actor_among comers) st.newer (e ∷ st.older) (subst (λ zs. is_run l (actor_among comers) zs ≡ true) st.is run) in
      let older-run = run-older l (actor_among comers) (e ∷ []) st.older here in
      (st.older, run_is_legal l (actor_among comers) st.older older-run, subst (λ z. fits_callers st.older e.place z act ≡ true) (ap (actor_among comers) seat ∙ who) (subst (λ z. fits_callers st.older e.place (actor_among comers e.seat) z ≡ true) is (fits l (actor_among comers) st.older e here)))

  taking-place : (q : Ui) (s : ℕ) → TakingPlace l q s past
  taking-place q s = go (actor_among comers s) refl
    where
      go : (o : Option Ui) → actor_among comers s ≡ o → TakingPlace l q s past
      go None who = record {
        place = place_at l 1 q;
        has = place-inside l 1 q shape (and_from (nat_le 1 1) (nat_le 1 l.sites) refl (le-leb 1 l.sites shape.sites_from_one));
        takes = λ e there seat n x is. absurd (false≢true (fits-here e there s seat (Act.Take q n x) is None who).2);
      }
      go (Some a) who = record {
        place = place_at l a.site q;
        has = place-inside l a.site q shape (among l comers s a k.histories.came who);
        takes = λ e there seat n x is.
            let f = fits-here e there s seat (Act.Take q n x) is (Some a) who in
            held-there l f.0 e.place q a (fate (on q f.0)) shape f.1 refl f.2;
      }

  -- the takes of a pass, in the merge and as it made them
  same-positions : (m : Note PlaceNote) (q : Ui) → In m (passes_of v) → positions (on q (by m.seat past)) ≡ positions_in q (acts_made m.mine)
  same-positions m q among-them =
      let t = taking-place q m.seat in
      let made = λ (x : Placed PlaceNote) (mine : In x m.mine). made-stands l v comers c shape k m x among-them mine in
      at-place q m.seat t.place past (all-of (TakesAt q m.seat t.place) past t.takes)
      ∙ ap (λ zs. positions (on q zs)) (at-one l v comers c shape k m t.place among-them t.has)
      ∙ turned q (entries_of (at_place t.place m.mine))
      ∙ at-made q t.place m.mine
      (all-of (λ (x : Placed PlaceNote). (n : ℕ) (y : MsgId) → x.remarked.entry.act ≡ Act.Take q n y → x.place ≡ t.place) m.mine
      (λ x mine n y is. let s = made x mine in sym s.place_is ∙ t.takes x.remarked.entry s.there s.seat_is n y is))

  pub pass-takes-in-order : (m : Note PlaceNote) (q : Ui) → In m (passes_of v) → TakesInOrder past m.seat q (positions_in q (acts_made m.mine))
  pass-takes-in-order m q among-them =
      subst (TakesInOrder past m.seat q) (same-positions m q among-them)
      (legal-takes-of-a-seat l past m.seat q shape (run_is_legal l (actor_among comers) past run))

pub passes-take-in-order : PassesTakeInOrder
passes-take-in-order n p closed q m is-closed noted =
    pass-takes-in-order (layout_of n) (known p) is-closed.comers closed is-closed.shape is-closed.closes m q (contained-in m (passes_of (known p)) noted)

-- Those of a crew.

settled-none : (q : Ui) (tag : Tag) (o : Option Settle) → positions_in q (settled_acts tag o) ≡ []
settled-none q Tag.Plain o = refl
settled-none q (Tag.Request n back) o = refl
settled-none q (Tag.Reply c n) None = refl
settled-none q (Tag.Reply c n) (Some settles.Done) = refl
settled-none q (Tag.Reply c n) (Some settles.Late) = refl

took-positions : (q : Ui) (ts : List TakenMessage) → positions_in q (took_acts q ts) ≡ map (λ (t : TakenMessage). t.position) ts
took-positions q [] = refl
took-positions q (t ∷ ts) =
    positions-more q (taken_acts q (reply_with t)) (took_acts q ts)
    ∙ ap₂ (λ xs ys. xs ++ ys)
    (ap (λ b. cond b (t.position ∷ []) [] ++ positions_in q (settled_acts t.message.tag t.settled)) (same_ui-self q) ∙ ap (λ ns. t.position ∷ ns) (settled-none q t.message.tag t.settled))
    (took-positions q ts)

pub crews-took-in-order : CrewsTookInOrder
crews-took-in-order n p closed q m took rest is-closed noted acts =
    let all = pass-takes-in-order (layout_of n) (known p) is-closed.comers closed is-closed.shape is-closed.closes m q (inr (contained-in m (known p).notes noted)) in
    let split : positions_in q (acts_made m.mine) ≡ map (λ (t : TakenMessage). t.position) took ++ positions_in q rest =
    ap (positions_in q) acts ∙ positions-more q (took_acts q took) rest ∙ ap (λ ns. ns ++ positions_in q rest) (took-positions q took) in
    in-order-front (past_of closed) m.seat q (map (λ (t : TakenMessage). t.position) took) (positions_in q rest) (subst (TakesInOrder (past_of closed) m.seat q) split all)
