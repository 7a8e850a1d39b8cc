-- In a legal past what an entry needs of the world can be read from its own place, seat, message and held port; so a legal
-- list along whose views clock and place rise is legal when it is sorted.
use Rattle.std.proofs.Common.{ℕ, ◌≡◌, ◌+◌, ◌-◌, ◌<◌, ◌≤◌, ◌⊎◌, inl, inr, Bool, true, false, ◌==◌, nat_lt, nat_le, ◌&&◌, ◌||◌, not, cond, if◌then◌else◌, List, [], ◌∷◌, length, Option, Some, None, is_some, is_none, refl, sym, ◌∙◌, ap, subst, arith}
use Rattle.std.specs.List.{slice_get, filter}
use Rattle.std.proofs.lemmas.Bool.{eqb-true, eq-eqb, ne_eqb, ltb-true, leb-true, cases_Bool, cases_eq, false≢true, true≢false, and_parts, and_from, and_left, and_right, or_cases}
use Rattle.std.proofs.lemmas.List.Elements.{All-head, All-tail}
use Rattle.std.proofs.lemmas.Option.{slice_get_within}
use Rattle.chorus_ui.specs.declared.ui.Ui.{Ui}
use Rattle.chorus_ui.specs.declared.layout.Layout.{Layout}
use Rattle.chorus_ui.specs.Name.{same_ui}
use Rattle.chorus_ui.specs.Layout.{IsLayout, has_site, first_place, group_place}
use Rattle.chorus_ui.proofs.Names.{from_same_ui}
use Rattle.chorus_entry.specs.declared.entry.Entry.{Entry}
use Rattle.chorus_entry.specs.declared.id.MsgId.{MsgId}
use Rattle.chorus_entry.specs.declared.message.Message.{Message}
use Rattle.chorus_entry.specs.declared.dest.Dest.{Dest}
use Rattle.chorus_entry.specs.declared.tag.Tag.{Tag}
use Rattle.chorus_entry.specs.declared.tag.Tag.TheVariants.{Plain, Request, Reply}
use Rattle.chorus_entry.specs.declared.act.Act.{Act}
use Rattle.chorus_entry.specs.declared.act.Act.TheVariants.{Post, Accept, Full, Already, ClientsFull, Stale, Early, NoPort, Elsewhere, NoMember, Choose, Try, Heard, Done, Late, GroupMake, NoGroup, NoRequest, Gone}
use Rattle.chorus_entry.specs.Dest.{group_in}
use Rattle.chorus_entry.specs.Kinds.{has_kinds}
use Rattle.chorus_entry.specs.Members.{same_uis}
use Rattle.chorus_world.specs.declared.spot.Spot.{Spot}
use Rattle.chorus_world.specs.declared.spot.Spot.TheVariants.{Held, Moving, Ended}
use Rattle.chorus_world.specs.declared.place.Location.{Location}
use Rattle.chorus_world.specs.declared.progress.Progress.{Progress}
use Rattle.chorus_world.specs.declared.progress.Progress.TheVariants.{Idle, Asked, Tried, Decided, Settled, Reported}
use Rattle.chorus_world.specs.declared.due.Due.TheVariants.{NotDue, ByTry, AtHome}
use Rattle.chorus_world.specs.Views.{Views, views, at, by, on, about, is_by, is_on, is_group, makes_group, finds_group}
use Rattle.chorus_entry.specs.Order.{is_at}
use Rattle.chorus_entry.specs.Same.{is_number, are_same}
use Rattle.chorus_world.specs.Ports.{PortState, fate, last_of, is_made, is_held_at, is_ended_at, is_coming, has_room, is_full}
use Rattle.chorus_world.specs.Posts.{post_of, site_asked, is_on_site}
use Rattle.chorus_world.specs.Clients.{is_already, finds_clients_full}
use Rattle.chorus_world.specs.Messages.{progress, is_to_be_heard}
use Rattle.chorus_world.specs.Places.{is_deleted, located, is_location, is_first, just_taken}
use Rattle.chorus_world.specs.Groups.{is_group_place, is_choosing_place, is_next_to}
use Rattle.chorus_world.specs.Seats.{posts, posts_stay, call, same_hand}
use Rattle.chorus_world.specs.Steps.{act_may, may, is_timely, may_stand_behind, is_legal, is_to_go, is_beyond, suits, due, due_by_try, is_due, is_due_with, is_tried_with, is_early, meets, may_enter, is_elsewhere, is_asked_from, may_tag, reply_to, may_choose_from, choice_from, is_taken_by, ends_call}
use Rattle.chorus_world.specs.Order.{sort}
use Rattle.chorus_world.specs.SortingLaws.{LooksAtHome, AllLookAtHome, SortsLegally}
use Rattle.chorus_world.specs.LocationLaws.{path_of}
use Rattle.chorus_world.proofs.Steps.LegalLemmas.{under, cond_idem}
use Rattle.chorus_world.proofs.Sorted.Local.{local_views, is_kept, act_may_here, may_here}
use Rattle.chorus_world.proofs.Ports.Whereabouts.{Facts, holds, moves, has_ended, at_last}
use Rattle.chorus_world.proofs.Ports.PortSteps.{PortFacts, Known, spot_in}
use Rattle.chorus_world.proofs.Messages.MessageSteps.{Inv, Fits, may_act, legal_inv, location_known, located_known}
use Rattle.chorus_world.proofs.Messages.Posted.{IsPosted, AllPosted, filtered, busy_posted, heard_busy, first_posted, due_posted, elsewhere_posted, posted_more}
use Rattle.chorus_world.proofs.Sorted.Agreement.{Extends, extends_self, extends_sort, extends_before, post_agrees, site_agrees, already_agrees, clients_full_agrees, hand_agrees, taken_agrees, next_agrees}
use Rattle.chorus_world.proofs.Sorted.Exchange.{Chains, chains, all_find, all_find_sort, all_sort, chained}

-- Groups are made at their places.

abbrev AtGroup : Layout → ℕ → Act → Type 0
AtGroup l p (GroupMake g) = is_group_place l g p ≡ true
AtGroup l p _ = Unit {0}

abbrev pub AllGroups : Layout → List Entry → Type 0
AllGroups l [] = Unit {0}
AllGroups l (e ∷ es) = AtGroup l e.place e.act × AllGroups l es

groups_choice : (l : Layout) (e : Entry) (es : List Entry) (b : Bool) → AtGroup l e.place e.act → AllGroups l es → AllGroups l (cond b (e ∷ es) es)
groups_choice l e es true x h = (x, h)
groups_choice l e es false x h = h

groups_filter : (l : Layout) (t : Entry → Bool) (es : List Entry) → AllGroups l es → AllGroups l (filter t es)
groups_filter l t [] h = tt
groups_filter l t (e ∷ es) h = groups_choice l e (filter t es) (t e) h.0 (groups_filter l t es h.1)

group_made_at : (l : Layout) (g : Ui) (p : ℕ) (a : Act) → AtGroup l p a → makes_group g a ≡ true → is_group_place l g p ≡ true
group_made_at l g p (GroupMake h) x t = subst (λ z. is_group_place l z p ≡ true) (from_same_ui h g t) x
group_made_at l g p _ x t = absurd (false≢true t)

one_number : (p r : ℕ) (o : Option ℕ) → is_number p o ≡ true → is_number r o ≡ true → r ≡ p
one_number p r None a b = absurd (false≢true a)
one_number p r (Some n) a b = sym (eqb-true n r b) ∙ eqb-true n p a

-- that a group was made is read at its place
group_here : (l : Layout) (g : Ui) (p : ℕ) (es : List Entry) → AllGroups l es → is_group_place l g p ≡ true → is_group g es ≡ is_group g (at p es)
group_here l g p [] h k = refl
group_here l g p (e ∷ es) h k =
    elim (cases_Bool (makes_group g e.act)) [
      | inl t ↦ (
          let there : (e.place == p) ≡ true = eq-eqb e.place p (one_number p e.place (group_place l g) k (group_made_at l g e.place e.act h.0 t)) in
          ap (λ b. b || is_group g es) t
          ∙ (sym (ap (λ b. b || is_group g (at p es)) t) ∙ sym (ap (λ b. is_group g (cond b (e ∷ at p es) (at p es))) there)))
      | inr f ↦ (
          ap (λ b. b || is_group g es) f
          ∙ (group_here l g p es h.1 k
          ∙ sym (under (is_group g) (is_at p e) (e ∷ at p es) (at p es)
          ∙ (ap (λ b. cond (is_at p e) (b || is_group g (at p es)) (is_group g (at p es))) f ∙ cond_idem (is_at p e) (is_group g (at p es))))))
    ]

no_group_place : (l : Layout) (g : Ui) (p : ℕ) → has_site l g.site ≡ false → is_group_place l g p ≡ false
no_group_place l g p h = ap (λ b. is_number p (if b then Some (first_place l g.site) else None)) h

no_group : (l : Layout) (g : Ui) (es : List Entry) → AllGroups l es → has_site l g.site ≡ false → is_group g es ≡ false
no_group l g [] h k = refl
no_group l g (e ∷ es) h k =
    elim (cases_Bool (makes_group g e.act)) [
      | inl t ↦ absurd (false≢true (sym (no_group_place l g e.place k) ∙ group_made_at l g e.place e.act h.0 t))
      | inr f ↦ ap (λ b. b || is_group g es) f ∙ no_group l g es h.1 k
    ]

pub group_looked_for : (l : Layout) (g : Ui) (p : ℕ) (past : List Entry) → AllGroups l past → (is_group_place l g p ≡ true) ⊎ (has_site l g.site ≡ false) → is_group g past ≡ is_group g (at p past)
group_looked_for l g p past h (inl k) = group_here l g p past h k
group_looked_for l g p past h (inr k) = no_group l g past h k ∙ sym (no_group l g (at p past) (groups_filter l (is_at p) past h) k)

group_now : (l : Layout) (past : List Entry) (p s : ℕ) (a : Act) → act_may l (views past p s a) p s a ≡ true → AtGroup l p a
group_now l past p s (GroupMake g) h = (and_parts (is_group_place l g p) _ (and_parts _ (nat_le g.number 4) h).0).0
group_now l past p s _ h = tt

-- What is so of every legal past.

pub record Laws (l : Layout) (past : List Entry) : Type 0 where
  pub inv : Inv l past
  pub posted : AllPosted past past
  pub groups : AllGroups l past

pub legal_laws : (l : Layout) (past : List Entry) → IsLayout l → is_legal l past ≡ true → Laws l past
legal_laws l [] layout h = record { inv = legal_inv l [] layout h; posted = tt; groups = tt }
legal_laws l (e ∷ past) layout h =
    let two = and_parts (may l past e) (is_legal l past) h in
    let before = legal_laws l past layout two.1 in
    let act = may_act l past e two.0 in
    record {
      inv = legal_inv l (e ∷ past) layout h;
      posted = posted_more l past e before.posted act;
      groups = (group_now l past e.place e.seat e.act act, before.groups);
    }

-- What a place knows of a port that is not there, on plain variables.

some_same : (a b : ℕ) → Some a ≡ Some b → a ≡ b
some_same a b h = cc

-- a port that was at p at hop 0, and is neither kept nor deleted there nor left from there, is not made
find_unmade : (q : Ui) (s : Option Spot) (ps : List ℕ) (k d : ℕ → Bool) (at' : ℕ → Location) (m : ℕ) → Facts q s ps k d at' m → (p : ℕ) → slice_get ps 0 ≡ Some p → not (is_some s) ≡ (not (k p) && not (d p) && ((at' p).hop == 0))
find_unmade q None ps k d at' m f p h =
    let one : length ps ≡ 1 = f.unmade refl in
    let within = slice_get_within ps (at' p).hop (at' p).to (f.located p) in
    sym (and_from (not (k p) && not (d p)) ((at' p).hop == 0) (and_from (not (k p)) (not (d p)) (ap not (f.kept p)) (ap not (f.ended p))) (eq-eqb (at' p).hop 0 (omega arith)))
find_unmade q (Some (Held b)) ps k d at' m f p h =
    elim (cases_eq (length ps) 1) [
      | inl e ↦ (
          let last : last_of 0 ps ≡ p = some_same (last_of 0 ps) p (sym (at_last 0 ps 0 (omega arith)) ∙ h) in
          sym (and_left (not (k p) && not (d p)) ((at' p).hop == 0) (and_left (not (k p)) (not (d p)) (ap not (f.kept p ∙ eq-eqb (last_of 0 ps) p last)))))
      | inr ne ↦ (
          let pos = f.some in
          let lt : 0 < (at' p).hop = f.left p 0 h (omega arith) in
          sym (and_right (not (k p) && not (d p)) ((at' p).hop == 0) (ne_eqb (at' p).hop 0 (λ e. omega arith))))
    ]
find_unmade q (Some Ended) ps k d at' m f p h =
    elim (cases_eq (length ps) 1) [
      | inl e ↦ (
          let last : last_of 0 ps ≡ p = some_same (last_of 0 ps) p (sym (at_last 0 ps 0 (omega arith)) ∙ h) in
          sym (and_left (not (k p) && not (d p)) ((at' p).hop == 0) (and_right (not (k p)) (not (d p)) (ap not (f.ended p ∙ eq-eqb (last_of 0 ps) p last)))))
      | inr ne ↦ (
          let pos = f.some in
          let lt : 0 < (at' p).hop = f.left p 0 h (omega arith) in
          sym (and_right (not (k p) && not (d p)) ((at' p).hop == 0) (ne_eqb (at' p).hop 0 (λ e. omega arith))))
    ]
find_unmade q (Some (Moving b)) ps k d at' m f p h =
    let more = f.moving refl in
    let lt : 0 < (at' p).hop = f.left p 0 h (omega arith) in
    sym (and_right (not (k p) && not (d p)) ((at' p).hop == 0) (ne_eqb (at' p).hop 0 (λ e. omega arith)))

-- a port that was at p with a later hop than it is known to have left with is kept there, was deleted there, or comes there
find_coming : (q : Ui) (s : Option Spot) (ps : List ℕ) (k d : ℕ → Bool) (at' : ℕ → Location) (m : ℕ) → Facts q s ps k d at' m → (p hop : ℕ) → slice_get ps hop ≡ Some p → 0 < hop → (at' p).hop ≤ hop → length ps ≡ hop + 1 → last_of 0 ps ≡ p → (moves s && (last_of 0 ps == p) && (hop == length ps - 1)) ≡ (not (k p) && not (d p))
find_coming q None ps k d at' m f p hop h pos le len last = absurd (let one : length ps ≡ 1 = f.unmade refl in omega arith)
find_coming q (Some (Held b)) ps k d at' m f p hop h pos le len last =
    sym (and_left (not (k p)) (not (d p)) (ap not (f.kept p ∙ eq-eqb (last_of 0 ps) p last)))
find_coming q (Some Ended) ps k d at' m f p hop h pos le len last =
    sym (and_right (not (k p)) (not (d p)) (ap not (f.ended p ∙ eq-eqb (last_of 0 ps) p last)))
find_coming q (Some (Moving b)) ps k d at' m f p hop h pos le len last =
    and_from (last_of 0 ps == p) (hop == length ps - 1) (eq-eqb (last_of 0 ps) p last) (eq-eqb hop (length ps - 1) (omega arith))
    ∙ sym (and_from (not (k p)) (not (d p)) (ap not (f.kept p)) (ap not (f.ended p)))

last_hop : (q : Ui) (s : Option Spot) (ps : List ℕ) (k d : ℕ → Bool) (at' : ℕ → Location) (m : ℕ) → Facts q s ps k d at' m → (p hop : ℕ) → slice_get ps hop ≡ Some p → (at' p).hop ≤ hop → length ps ≡ hop + 1
last_hop q s ps k d at' m f p hop h le =
    let within = slice_get_within ps hop p h in
    elim (cases_eq (length ps) (hop + 1)) [
      | inl e ↦ e
      | inr ne ↦ absurd (let lt : hop < (at' p).hop = f.left p hop h (omega arith) in omega arith)
    ]

-- The same of the past.

held_is : (l : Layout) (q : Ui) (p : ℕ) (o : Option PortState) → is_held_at p o ≡ (holds (spot_in o) && (last_of 0 (path_of l q o) == p))
held_is l q p None = refl
held_is l q p (Some f) = refl

ended_is : (l : Layout) (q : Ui) (p : ℕ) (o : Option PortState) → is_ended_at p o ≡ (has_ended (spot_in o) && (last_of 0 (path_of l q o) == p))
ended_is l q p None = refl
ended_is l q p (Some f) = refl

coming_is : (l : Layout) (q : Ui) (p hop : ℕ) (o : Option PortState) → is_coming p hop o ≡ (moves (spot_in o) && (last_of 0 (path_of l q o) == p) && (hop == length (path_of l q o) - 1))
coming_is l q p hop None = refl
coming_is l q p hop (Some f) = refl

made_is : (o : Option PortState) → is_made o ≡ is_some (spot_in o)
made_is None = refl
made_is (Some f) = refl

pub held_here : (l : Layout) (past : List Entry) (q : Ui) (p : ℕ) → PortFacts l past q → is_held_at p (fate (on q past)) ≡ is_kept q (at p past)
held_here l past q p f = held_is l q p (fate (on q past)) ∙ sym (f.kept p)

ended_here : (l : Layout) (past : List Entry) (q : Ui) (p : ℕ) → PortFacts l past q → is_ended_at p (fate (on q past)) ≡ is_deleted q (at p past)
ended_here l past q p f = ended_is l q p (fate (on q past)) ∙ sym (f.ended p)

unmade_here : (l : Layout) (past : List Entry) (q : Ui) (p : ℕ) → PortFacts l past q → Known l past q 0 p → not (is_made (fate (on q past))) ≡ (not (is_kept q (at p past)) && not (is_deleted q (at p past)) && ((located l q (at p past)).hop == 0))
unmade_here l past q p f k =
    ap not (made_is (fate (on q past))) ∙ find_unmade q (spot_in (fate (on q past))) (path_of l q (fate (on q past))) _ _ _ _ f p k

coming_here : (l : Layout) (past : List Entry) (q : Ui) (p hop : ℕ) → PortFacts l past q → Known l past q hop p → 0 < hop → (located l q (at p past)).hop ≤ hop → is_coming p hop (fate (on q past)) ≡ (not (is_kept q (at p past)) && not (is_deleted q (at p past)))
coming_here l past q p hop f k pos le =
    let ps = path_of l q (fate (on q past)) in
    let len = last_hop q (spot_in (fate (on q past))) ps _ _ _ _ f p hop k le in
    let last : last_of 0 ps ≡ p = some_same (last_of 0 ps) p (sym (at_last 0 ps hop len) ∙ k) in
    coming_is l q p hop (fate (on q past)) ∙ find_coming q (spot_in (fate (on q past))) ps _ _ _ _ f p hop k pos le len last

-- Where a message is due with a hop, the port was with that hop.

home_finds : (l : Layout) (past : List Entry) (q : Ui) (p hop : ℕ) (test : ℕ → Bool) (b : Bool) → (b ≡ true → Known l past q hop p) → is_due_with test (cond b (AtHome hop) NotDue) ≡ true → (h : ℕ) × (test h ≡ true) × Known l past q h p
home_finds l past q p hop test true k h = (hop, h, k refl)
home_finds l past q p hop test false k h = absurd (false≢true h)

try_finds : (l : Layout) (past : List Entry) (q : Ui) (p hop n : ℕ) (test : ℕ → Bool) (c b : Bool) → (c ≡ true → Known l past q n p) → (b ≡ true → Known l past q hop p) → is_due_with test (cond c (ByTry n) (cond b (AtHome hop) NotDue)) ≡ true → (h : ℕ) × (test h ≡ true) × Known l past q h p
try_finds l past q p hop n test true b t k h = (n, h, t refl)
try_finds l past q p hop n test false b t k h = home_finds l past q p hop test b k h

due_finds : (l : Layout) (past : List Entry) (x : MsgId) (q : Ui) (p hop : ℕ) (test : ℕ → Bool) (s : Progress) (b : Bool) → Fits l past x s → (b ≡ true → Known l past q hop p) → is_due_with test (due_by_try p q s (cond b (AtHome hop) NotDue)) ≡ true → (h : ℕ) × (test h ≡ true) × Known l past q h p
due_finds l past x q p hop test (Tried from r to n) b f k h =
    try_finds l past q p hop n test ((to == p) && same_ui r q) b
    (λ t. let two = and_parts (to == p) (same_ui r q) t in
    subst (λ z. Known l past z n p) (from_same_ui r q two.1) (subst (λ z. Known l past r n z) (eqb-true to p two.0) f.0))
    k h
due_finds l past x q p hop test Idle b f k h = home_finds l past q p hop test b k h
due_finds l past x q p hop test (Asked from d) b f k h = home_finds l past q p hop test b k h
due_finds l past x q p hop test (Decided from at' r a) b f k h = home_finds l past q p hop test b k h
due_finds l past x q p hop test (Settled a) b f k h = home_finds l past q p hop test b k h
due_finds l past x q p hop test Reported b f k h = home_finds l past q p hop test b k h

-- what a decision on the message x for the port q reads at the place p
abbrev seen : List Entry → ℕ → ℕ → MsgId → Ui → List Entry → Views
seen past p s x q all =
    record { here = at p past; mine = by s past; message = about x past; port = on q past; all = all; group_made = false }

due_known : (l : Layout) (past : List Entry) (p s : ℕ) (x : MsgId) (q : Ui) (test : ℕ → Bool) → Inv l past → is_due_with test (due l (seen past p s x q past) p x q) ≡ true → (h : ℕ) × (test h ≡ true) × Known l past q h p
due_known l past p s x q test i h =
    let v = seen past p s x q past in
    due_finds l past x q p (located l q (at p past)).hop test (progress (about x past)) (is_to_go l v x q p && suits l v p x) (i.messages x)
    (λ t. located_known l past q p p (located l q (at p past)).hop (i.ports q)
    (eqb-true (located l q (at p past)).to p (and_parts (is_first x q (at p past) && not (is_beyond l q)) ((located l q (at p past)).to == p) (and_parts (is_to_go l v x q p) (suits l v p x) t).0).1)
    refl)
    h

early_known : (l : Layout) (past : List Entry) (p s : ℕ) (x : MsgId) (q : Ui) (hop : ℕ) → Inv l past → is_due_with (is_early p hop (located l q (at p past))) (due l (seen past p s x q past) p x q) ≡ true → Known l past q hop p × (0 < hop) × ((located l q (at p past)).hop ≤ hop)
early_known l past p s x q hop i h =
    let loc = located l q (at p past) in
    let d = due_known l past p s x q (is_early p hop loc) i h in
    let n = d.0 in
    elim (or_cases (is_location p hop loc && nat_lt n hop) (nat_le loc.hop n && (hop == n) && nat_lt 0 n) d.1) [
      | inl a ↦ (
          let two = and_parts (is_location p hop loc) (nat_lt n hop) a in
          let lt = ltb-true n hop two.1 in
          let at_hop = eqb-true loc.hop hop (and_parts (loc.to == p) (loc.hop == hop) two.0).1 in
          (location_known l past q p p hop (i.ports q) two.0, omega arith, omega arith))
      | inr b ↦ (
          let two = and_parts (nat_le loc.hop n && (hop == n)) (nat_lt 0 n) b in
          let one = and_parts (nat_le loc.hop n) (hop == n) two.0 in
          let same = eqb-true hop n one.1 in
          let pos = ltb-true 0 n two.1 in
          let le = leb-true loc.hop n one.0 in
          (subst (λ z. Known l past q z p) (sym same) d.2, omega arith, omega arith))
    ]

-- Both relations ask the same.

and_agree : (u w x y : Bool) → u ≡ w → (u ≡ true → x ≡ y) → (u && x) ≡ (w && y)
and_agree true true x y e h = h refl
and_agree true false x y e h = absurd (true≢false e)
and_agree false true x y e h = absurd (false≢true e)
and_agree false false x y e h = refl

and_agree_left : (x y u w : Bool) → u ≡ w → (u ≡ true → x ≡ y) → (x && u) ≡ (y && w)
and_agree_left x y true true e h = ap (λ z. z && true) (h refl)
and_agree_left x y true false e h = absurd (true≢false e)
and_agree_left x y false true e h = absurd (false≢true e)
and_agree_left x y false false e h = and_right x false refl ∙ sym (and_right y false refl)

go_posted : (l : Layout) (past : List Entry) (v : Views) (p : ℕ) (x : MsgId) (q : Ui) (to : ℕ) → AllPosted past past → v.here ≡ at p past → is_to_go l v x q to ≡ true → IsPosted past x
go_posted l past v p x q to all here h =
    first_posted past p x q all
    (ap (λ es. is_first x q es) (sym here)
    ∙ (and_parts (is_first x q v.here) (not (is_beyond l q)) (and_parts (is_first x q v.here && not (is_beyond l q)) ((located l q v.here).to == to) h).0).0)

suits_same : (l : Layout) (table past : List Entry) (p s : ℕ) (x : MsgId) (q : Ui) → Extends table past → IsPosted past x → suits l (seen past p s x q past) p x ≡ suits l (seen past p s x q table) p x
suits_same l table past p s x q ext posted = ap (λ z. is_on_site l z p) (sym (site_agrees table past x ext posted))

due_same : (l : Layout) (table past : List Entry) (p s : ℕ) (x : MsgId) (q : Ui) → AllPosted past past → Extends table past → due l (seen past p s x q past) p x q ≡ due l (seen past p s x q table) p x q
due_same l table past p s x q all ext =
    let v = seen past p s x q past in
    let w = seen past p s x q table in
    ap (λ b. due_by_try p q (progress (about x past)) (cond b (AtHome (located l q (at p past)).hop) NotDue))
    (and_agree (is_to_go l v x q p) (is_to_go l w x q p) (suits l v p x) (suits l w p x) refl
    (λ t. suits_same l table past p s x q ext (go_posted l past v p x q p all refl t)))

meets_same : (l : Layout) (table past : List Entry) (p s : ℕ) (x : MsgId) (q : Ui) → AllPosted past past → Extends table past → meets l (seen past p s x q past) p x q ≡ meets l (seen past p s x q table) p x q
meets_same l table past p s x q all ext =
    ap (λ d. is_due d && is_held_at p (fate (on q past))) (due_same l table past p s x q all ext)

meets_posted : (l : Layout) (past : List Entry) (p s : ℕ) (x : MsgId) (q : Ui) → AllPosted past past → meets l (seen past p s x q past) p x q ≡ true → IsPosted past x
meets_posted l past p s x q all h =
    let v = seen past p s x q past in
    due_posted l past v p x q (λ hop. true) all refl refl (and_parts (is_due (due l v p x q)) (is_held_at p (fate (on q past))) h).0

enter_same : (l : Layout) (table past : List Entry) (p s : ℕ) (x : MsgId) (q : Ui) → AllPosted past past → Extends table past → may_enter l (seen past p s x q past) p x q ≡ may_enter l (seen past p s x q table) p x q
enter_same l table past p s x q all ext =
    let v = seen past p s x q past in
    let w = seen past p s x q table in
    let port = filtered past (is_on (Some q)) past all in
    let one = meets_same l table past p s x q all ext in
    let two : (meets l v p x q && suits l v p x) ≡ (meets l w p x q && suits l w p x) = and_agree (meets l v p x q) (meets l w p x q) (suits l v p x) (suits l w p x) one (λ t. suits_same l table past p s x q ext (meets_posted l past p s x q all t)) in
    let three : (meets l v p x q && suits l v p x && not (is_already x past (on q past))) ≡ (meets l w p x q && suits l w p x && not (is_already x table (on q past))) = and_agree (meets l v p x q && suits l v p x) (meets l w p x q && suits l w p x) (not (is_already x past (on q past))) (not (is_already x table (on q past))) two
    (λ t. ap not (sym (already_agrees table past (on q past) x ext (meets_posted l past p s x q all (and_parts (meets l v p x q) (suits l v p x) t).0) port))) in
    and_agree (meets l v p x q && suits l v p x && not (is_already x past (on q past))) (meets l w p x q && suits l w p x && not (is_already x table (on q past))) (not (finds_clients_full x past (on q past))) (not (finds_clients_full x table (on q past))) three
    (λ t. ap not (sym (clients_full_agrees table past (on q past) x ext (meets_posted l past p s x q all (and_parts (meets l v p x q) (suits l v p x) (and_parts (meets l v p x q && suits l v p x) (not (is_already x past (on q past))) t).0).0) port)))

go_site_same : (l : Layout) (table past : List Entry) (p s : ℕ) (x : MsgId) (q : Ui) (to : ℕ) → AllPosted past past → Extends table past → (is_to_go l (seen past p s x q past) x q to && not (is_on_site l (site_asked x past) to)) ≡ (is_to_go l (seen past p s x q table) x q to && not (is_on_site l (site_asked x table) to))
go_site_same l table past p s x q to all ext =
    and_agree (is_to_go l (seen past p s x q past) x q to) (is_to_go l (seen past p s x q table) x q to) _ _ refl
    (λ t. ap (λ z. not (is_on_site l z to)) (sym (site_agrees table past x ext (go_posted l past (seen past p s x q past) p x q to all refl t))))

elsewhere_same : (l : Layout) (table past : List Entry) (p s : ℕ) (x : MsgId) (q : Ui) (to hop : ℕ) → Laws l past → Extends table past → is_elsewhere l (seen past p s x q past) p x q to hop ≡ ((is_to_go l (seen past p s x q table) x q to && not (is_on_site l (site_asked x table) to)) || (is_tried_with (λ h. nat_lt h hop) (due l (seen past p s x q table) p x q) && not (is_kept q (at p past)) && not (to == p)))
elsewhere_same l table past p s x q to hop k ext =
    ap (λ b. b || (is_tried_with (λ h. nat_lt h hop) (due l (seen past p s x q past) p x q) && not (is_held_at p (fate (on q past))) && not (to == p))) (go_site_same l table past p s x q to k.posted ext)
    ∙ (ap (λ d. (is_to_go l (seen past p s x q table) x q to && not (is_on_site l (site_asked x table) to)) || (is_tried_with (λ h. nat_lt h hop) d && not (is_held_at p (fate (on q past))) && not (to == p))) (due_same l table past p s x q k.posted ext)
    ∙ ap (λ b. (is_to_go l (seen past p s x q table) x q to && not (is_on_site l (site_asked x table) to)) || (is_tried_with (λ h. nat_lt h hop) (due l (seen past p s x q table) p x q) && not b && not (to == p))) (held_here l past q p (k.inv.ports q)))

tag_same : (table past : List Entry) (p s : ℕ) (m : Message) (d : Dest) (g : Tag) → AllPosted past past → Extends table past → may_tag (views past p s (Post m d)) m d g ≡ may_tag (local_views table past p s (Post m d)) m d g
tag_same table past p s m d Plain all ext = refl
tag_same table past p s m d (Request n back) all ext = refl
tag_same table past p s m d (Reply c n) all ext =
    ap (λ h. are_same same_hand h (reply_to c n d)) (sym (hand_agrees table past (by s past) ext (filtered past (is_by s) past all)))

-- what a choice reads
abbrev asked : List Entry → ℕ → ℕ → MsgId → List Entry → List Entry → Views
asked past p s x port all =
    record { here = at p past; mine = by s past; message = about x past; port = port; all = all; group_made = false }

choose_same : (l : Layout) (table past port : List Entry) (p s : ℕ) (x : MsgId) (g : Ui) (r : Progress) → Fits l past x r → Extends table past → may_choose_from l (asked past p s x port past) p x g r ≡ may_choose_from l (asked past p s x port table) p x g r
choose_same l table past port p s x g (Asked from d) f ext =
    and_agree (are_same same_ui (Some g) (group_in d) && is_choosing_place l g from p) (are_same same_ui (Some g) (group_in d) && is_choosing_place l g from p) (is_next_to g x from (at p past) past) (is_next_to g x from (at p past) table) refl
    (λ t. sym (next_agrees table past (at p past) g x from ext (f g (and_parts (are_same same_ui (Some g) (group_in d)) (is_choosing_place l g from p) t).0)))
choose_same l table past port p s x g Idle f ext = refl
choose_same l table past port p s x g (Tried from r to n) f ext = refl
choose_same l table past port p s x g (Decided from at' r a) f ext = refl
choose_same l table past port p s x g (Settled a) f ext = refl
choose_same l table past port p s x g Reported f ext = refl

-- what the act needs of the world it can read by itself, where the table has what was posted
act_here : (l : Layout) (table past : List Entry) (p s : ℕ) (a : Act) → Laws l past → Extends table past → LooksAtHome l p a → act_may l (views past p s a) p s a ≡ act_may_here l (local_views table past p s a) p s a
act_here l table past p s (Post m d) k ext home =
    ap (λ b. (m.id.seat == s) && (m.id.number == posts (by s past) + 1) && (m.id.copy == 0) && posts_stay p (by s past) && b) (tag_same table past p s m d m.tag k.posted ext)
act_here l table past p s (Accept x q n) k ext home = ap (λ b. b && has_room n (fate (on q past))) (enter_same l table past p s x q k.posted ext)
act_here l table past p s (Full x q n) k ext home = ap (λ b. b && is_full n (fate (on q past))) (enter_same l table past p s x q k.posted ext)
act_here l table past p s (Already x q) k ext home =
    and_agree (meets l (seen past p s x q past) p x q) (meets l (seen past p s x q table) p x q) _ _ (meets_same l table past p s x q k.posted ext)
    (λ t. sym (already_agrees table past (on q past) x ext (meets_posted l past p s x q k.posted t) (filtered past (is_on (Some q)) past k.posted)))
act_here l table past p s (ClientsFull x q) k ext home =
    and_agree (meets l (seen past p s x q past) p x q) (meets l (seen past p s x q table) p x q) _ _ (meets_same l table past p s x q k.posted ext)
    (λ t. sym (clients_full_agrees table past (on q past) x ext (meets_posted l past p s x q k.posted t) (filtered past (is_on (Some q)) past k.posted)))
act_here l table past p s (Stale x q tried to hop) k ext home =
    let v = seen past p s x q past in
    let w = seen past p s x q table in
    let test : ℕ → Bool = λ h. h == tried in
    let loc = is_location to hop (located l q (at p past)) in
    let same : (is_due_with test (due l v p x q) && not (is_held_at p (fate (on q past))) && loc && nat_lt tried hop && not (to == p)) ≡ (is_due_with test (due l w p x q) && not (is_kept q (at p past)) && loc && nat_lt tried hop && not (to == p)) = ap (λ d. is_due_with test d && not (is_held_at p (fate (on q past))) && loc && nat_lt tried hop && not (to == p)) (due_same l table past p s x q k.posted ext)
    ∙ ap (λ b. is_due_with test (due l w p x q) && not b && loc && nat_lt tried hop && not (to == p)) (held_here l past q p (k.inv.ports q)) in
    and_agree _ _ (is_none (site_asked x past)) (is_none (site_asked x table)) same
    (λ t. let four = and_parts (is_due_with test (due l v p x q) && not (is_held_at p (fate (on q past))) && loc && nat_lt tried hop) (not (to == p)) t in
    let three = and_parts (is_due_with test (due l v p x q) && not (is_held_at p (fate (on q past))) && loc) (nat_lt tried hop) four.0 in
    let two = and_parts (is_due_with test (due l v p x q) && not (is_held_at p (fate (on q past)))) loc three.0 in
    let one = and_parts (is_due_with test (due l v p x q)) (not (is_held_at p (fate (on q past)))) two.0 in
    ap is_none (sym (site_agrees table past x ext (due_posted l past v p x q test k.posted refl refl one.0))))
act_here l table past p s (Early x q hop) k ext home =
    let test = is_early p hop (located l q (at p past)) in
    and_agree (is_due_with test (due l (seen past p s x q past) p x q)) (is_due_with test (due l (seen past p s x q table) p x q)) _ _
    (ap (is_due_with test) (due_same l table past p s x q k.posted ext))
    (λ t. let e = early_known l past p s x q hop k.inv t in coming_here l past q p hop (k.inv.ports q) e.0 e.1 e.2)
act_here l table past p s (NoPort x q) k ext home =
    let test : ℕ → Bool = λ h. h == 0 in
    ap (λ b. b || (is_beyond l q && is_first x q (at p past)))
    (and_agree (is_due_with test (due l (seen past p s x q past) p x q)) (is_due_with test (due l (seen past p s x q table) p x q)) _ _
    (ap (is_due_with test) (due_same l table past p s x q k.posted ext))
    (λ t. let d = due_known l past p s x q test k.inv t in
    unmade_here l past q p (k.inv.ports q) (subst (λ z. Known l past q z p) (eqb-true d.0 0 d.1) d.2)))
act_here l table past p s (Elsewhere x q to hop) k ext home =
    let v = seen past p s x q past in
    and_agree_left (is_some (site_asked x past) && is_location to hop (located l q (at p past))) (is_some (site_asked x table) && is_location to hop (located l q (at p past))) (is_elsewhere l v p x q to hop) _
    (elsewhere_same l table past p s x q to hop k ext)
    (λ t. ap (λ z. is_some z && is_location to hop (located l q (at p past))) (sym (site_agrees table past x ext (elsewhere_posted l past v p x q to hop k.posted refl refl t))))
act_here l table past p s (Gone x q) k ext home =
    ap (λ d. is_due d && is_ended_at p (fate (on q past))) (due_same l table past p s x q k.posted ext)
    ∙ ap (λ b. is_due (due l (seen past p s x q table) p x q) && b) (ended_here l past q p (k.inv.ports q))
act_here l table past p s (NoMember x g) k ext home =
    ap (λ b. b && (length (choice_from l (at p past) (progress (about x past))) == 0))
    (choose_same l table past (filter (is_on None) past) p s x g (progress (about x past)) (k.inv.messages x) ext)
act_here l table past p s (Choose x g qs) k ext home =
    ap (λ b. b && nat_lt 0 (length qs) && same_uis qs (choice_from l (at p past) (progress (about x past))))
    (choose_same l table past (filter (is_on None) past) p s x g (progress (about x past)) (k.inv.messages x) ext)
act_here l table past p s (Try x q to hop) k ext home =
    let go = is_to_go l (seen past p s x q past) x q to in
    and_agree (go && ((located l q (at p past)).hop == hop) && not (to == p)) (go && ((located l q (at p past)).hop == hop) && not (to == p)) (is_on_site l (site_asked x past) to) (is_on_site l (site_asked x table) to) refl
    (λ t. let two = and_parts (go && ((located l q (at p past)).hop == hop)) (not (to == p)) t in
    let one = and_parts go ((located l q (at p past)).hop == hop) two.0 in
    ap (λ z. is_on_site l z to) (sym (site_agrees table past x ext (go_posted l past (seen past p s x q past) p x q to k.posted refl one.0))))
act_here l table past p s (Heard x a) k ext home =
    and_agree_left (is_asked_from l p (post_of x past)) (is_asked_from l p (post_of x table)) (is_to_be_heard a (progress (about x past))) (is_to_be_heard a (progress (about x past))) refl
    (λ t. ap (is_asked_from l p) (sym (post_agrees table past x ext (busy_posted past x k.posted (heard_busy a (progress (about x past)) t)))))
act_here l table past p s (Done n) k ext home =
    ap (λ o. is_taken_by s n o && ends_call s n (call (by s past)) o) (sym (taken_agrees table past (at p past) ext (filtered past (is_at p) past k.posted)))
act_here l table past p s (Late n) k ext home =
    ap (λ o. is_taken_by s n o && not (ends_call s n (call (by s past)) o)) (sym (taken_agrees table past (at p past) ext (filtered past (is_at p) past k.posted)))
act_here l table past p s NoRequest k ext home =
    ap is_none (sym (hand_agrees table past (by s past) ext (filtered past (is_by s) past k.posted)))
act_here l table past p s (NoGroup g) k ext home = ap not (group_looked_for l g p past k.groups home)
act_here l table past p s _ k ext home = refl

pub may_same : (l : Layout) (table past : List Entry) (e : Entry) → Laws l past → Extends table past → LooksAtHome l e.place e.act → may l past e ≡ may_here l (local_views table past e.place e.seat e.act) e
may_same l table past e k ext home =
    let v = views past e.place e.seat e.act in
    let w = local_views table past e.place e.seat e.act in
    ap (λ o. is_timely l v e && (has_kinds e.act && may_stand_behind o e.act && act_may l v e.place e.seat e.act)) (sym (taken_agrees table past (at e.place past) ext (filtered past (is_at e.place) past k.posted)))
    ∙ ap (λ b. is_timely l v e && (has_kinds e.act && may_stand_behind (just_taken table (at e.place past)) e.act && b)) (act_here l table past e.place e.seat e.act k ext home)

-- The two notions of a legal list are one.

abbrev pub widened : List Entry → Chains → Act → Views
widened table c a =
    record {
      here = c.here;
      mine = c.mine;
      message = c.message;
      port = c.port;
      all = table;
      group_made = finds_group a c.here;
    }

abbrev pub may_find : Layout → List Entry → Chains → Entry → Bool
may_find l table c e = may_here l (widened table c e.act) e

pub to_here : (l : Layout) (table past : List Entry) → IsLayout l → Extends table past → AllLookAtHome l past → is_legal l past ≡ true → all_find (may_find l table) past ≡ true
to_here l table [] layout ext home h = refl
to_here l table (e ∷ past) layout ext home h =
    let two = and_parts (may l past e) (is_legal l past) h in
    let before = extends_before table past e ext in
    let looks : (f : Entry) → Type 0 = λ f. LooksAtHome l f.place f.act in
    and_from (may_find l table (chains past e) e) (all_find (may_find l table) past)
    (sym (may_same l table past e (legal_laws l past layout two.1) before (All-head looks e past home)) ∙ two.0)
    (to_here l table past layout before (All-tail looks e past home) two.1)

pub from_here : (l : Layout) (table past : List Entry) → IsLayout l → Extends table past → AllLookAtHome l past → all_find (may_find l table) past ≡ true → is_legal l past ≡ true
from_here l table [] layout ext home h = refl
from_here l table (e ∷ past) layout ext home h =
    let two = and_parts (may_find l table (chains past e) e) (all_find (may_find l table) past) h in
    let before = extends_before table past e ext in
    let looks : (f : Entry) → Type 0 = λ f. LooksAtHome l f.place f.act in
    let back = from_here l table past layout before (All-tail looks e past home) two.1 in
    and_from (may l past e) (is_legal l past)
    (may_same l table past e (legal_laws l past layout back) before (All-head looks e past home) ∙ two.0) back

-- the sorted list is legal
pub sorts_legally : SortsLegally
sorts_legally l past layout causal home h =
    let w = chained past causal in
    from_here l past (sort past) layout (extends_sort past w) (all_sort (λ e. LooksAtHome l e.place e.act) past home)
    (all_find_sort (may_find l past) past w (to_here l past past layout (extends_self past) home h))
