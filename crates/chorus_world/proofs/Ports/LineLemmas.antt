-- What is so of the entries on the line of one port, in every legal past.
use Rattle.std.proofs.Common.{ℕ, ◌≡◌, ◌+◌, ◌<◌, ◌≤◌, ◌==◌, true, ◌&&◌, not, List, [], ◌∷◌, ◌++◌, length, take, drop, nat_lt, nat_le, Option, Some, None, refl, sym, ◌∙◌, ap, subst, arith}
use Rattle.std.specs.List.{slice_get}
use Rattle.std.proofs.lemmas.Bool.{and_parts, eqb-true, ltb-true, false≢true}
use Rattle.std.proofs.lemmas.Bool.Decides.{nat_tests}
use Rattle.std.proofs.lemmas.List.{take-append-le, length-append, take_more}
use Rattle.std.proofs.lemmas.Option.{slice_get_within, get_or_from_slice_get}
use Rattle.chorus_ui.specs.declared.ui.Ui.{Ui}
use Rattle.chorus_ui.specs.declared.layout.Layout.{Layout}
use Rattle.chorus_entry.specs.declared.entry.Entry.{Entry}
use Rattle.chorus_entry.specs.declared.id.MsgId.{MsgId}
use Rattle.chorus_entry.specs.declared.act.Act.{Act}
use Rattle.chorus_entry.specs.declared.act.Act.TheVariants.{Make, Accept, Full, Already, ClientsFull, Take, Empty, Rehome, Depart, Arrive, Delete}
use Rattle.chorus_entry.specs.MsgId.{same_id}
use Rattle.chorus_entry.specs.Act.{held_port_of}
use Rattle.chorus_entry.proofs.Same.{from_same_id, from_same_ids}
use Rattle.chorus_world.specs.declared.spot.Spot.{Spot}
use Rattle.chorus_world.specs.declared.spot.Spot.TheVariants.{Held, Moving, Ended}
use Rattle.chorus_world.specs.Views.{Views, views, on}
use Rattle.chorus_entry.specs.Same.{are_same}
use Rattle.chorus_world.specs.Ports.{PortState, fate, fate_after, changed, new_port, arrived, waiting, is_held, is_moving, is_last, is_held_at, is_coming, has_room, is_full, is_first_waiting, is_empty, is_next_hop, are_waiting}
use Rattle.chorus_world.specs.Clients.{is_already, finds_clients_full}
use Rattle.chorus_ui.specs.Layout.{has_actor, site_of, place_at}
use Rattle.chorus_world.specs.Steps.{is_home, is_full_of_ports, next_number, act_may, due, is_due, suits, meets, may_enter}
use Rattle.chorus_world.specs.AcceptedLaws.{received, received_after, discarded, discarded_after}
use Rattle.chorus_world.proofs.Steps.LegalLemmas.{entry}

-- the ids were discarded, exactly where the port is deleted
abbrev pub Discards : Spot → Option (List MsgId) → List MsgId → Type 0
Discards Ended d xs = d ≡ Some xs
Discards _ d xs = d ≡ None

pub record LineFacts (f : PortState) (ids : List MsgId) (d : Option (List MsgId)) : Type 0 where
  pub received : ids ≡ take f.taken f.accepted
  pub within : f.taken ≤ length f.accepted
  pub room : length f.accepted ≤ f.taken + f.capacity
  pub some : 1 ≤ f.capacity
  pub few : f.capacity ≤ 64
  pub over : Discards f.spot d (drop f.taken f.accepted)

-- a port that is not made has no entries, and of a made one the facts hold
abbrev pub LineIs : Option PortState → List Entry → Type 0
LineIs None port = port ≡ []
LineIs (Some f) port = LineFacts f (received port) (discarded port)

abbrev pub IsLine : List Entry → Type 0
IsLine port = LineIs (fate port) port

pub held_at : (p : ℕ) (o : Option PortState) → is_held_at p o ≡ true → (f : PortState) × (o ≡ Some f) × (is_held f.spot ≡ true)
held_at p None h = absurd (false≢true h)
held_at p (Some f) h = (f, refl, (and_parts (is_held f.spot) (is_last p f) h).0)

pub coming : (p hop : ℕ) (o : Option PortState) → is_coming p hop o ≡ true → (f : PortState) × (o ≡ Some f) × (is_moving f.spot ≡ true)
coming p hop None h = absurd (false≢true h)
coming p hop (Some f) h =
    (f, refl, (and_parts (is_moving f.spot) (is_last p f) (and_parts (is_moving f.spot && is_last p f) _ h).0).0)

-- where the port is held, or on its way, nothing was discarded
held_none : (s : Spot) (d : Option (List MsgId)) (xs : List MsgId) → is_held s ≡ true → Discards s d xs → d ≡ None
held_none (Held a) d xs h o = o
held_none (Moving a) d xs h o = absurd (false≢true h)
held_none Ended d xs h o = absurd (false≢true h)

moving_none : (s : Spot) (d : Option (List MsgId)) (xs : List MsgId) → is_moving s ≡ true → Discards s d xs → d ≡ None
moving_none (Held a) d xs h o = absurd (false≢true h)
moving_none (Moving a) d xs h o = o
moving_none Ended d xs h o = absurd (false≢true h)

held_discards : (s : Spot) (d : Option (List MsgId)) (xs : List MsgId) → is_held s ≡ true → d ≡ None → Discards s d xs
held_discards (Held a) d xs h o = o
held_discards (Moving a) d xs h o = o
held_discards Ended d xs h o = absurd (false≢true h)

arrived_discards : (s : Spot) (d : Option (List MsgId)) (xs : List MsgId) → is_moving s ≡ true → d ≡ None → Discards (arrived s) d xs
arrived_discards (Held a) d xs h o = absurd (false≢true h)
arrived_discards (Moving a) d xs h o = o
arrived_discards Ended d xs h o = absurd (false≢true h)

facts_at : (o : Option PortState) (port : List Entry) (f : PortState) → LineIs o port → o ≡ Some f → LineFacts f (received port) (discarded port)
facts_at o port f i e = subst (λ z. LineIs z port) e i

pub none_some : {A : Type 0} {P : Type 0} (t : A) → None ≡ Some t → P
none_some t h = cc

made : (p : ℕ) (a : Ui) (c : ℕ) → 1 ≤ c → c ≤ 64 → LineFacts (new_port p a c) [] None
made p a c some few =
    record { received = refl; within = omega arith; room = omega arith; some = some; few = few; over = refl }

take_next : (xs : List MsgId) (n : ℕ) (x : MsgId) → slice_get xs n ≡ Some x → take (n + 1) xs ≡ take n xs ++ x ∷ []
take_next xs n x at =
    take_more xs n x (slice_get_within xs n x at) ∙ ap (λ y. take n xs ++ y ∷ []) (get_or_from_slice_get xs n x x at)

module _ (f : PortState) (ids : List MsgId) (d : Option (List MsgId)) (i : LineFacts f ids d) where
  accepts : (x : MsgId) → is_held f.spot ≡ true → waiting f < f.capacity → LineFacts (record f { accepted = f.accepted ++ x ∷ [] }) ids d
  accepts x h lt =
      let n : length (f.accepted ++ x ∷ []) ≡ length f.accepted + 1 = length-append f.accepted (x ∷ []) in
      record {
        received = i.received ∙ sym (take-append-le f.taken f.accepted (x ∷ []) i.within);
        within = omega (arith, n, i.within);
        room = omega (arith, n, i.within, i.room, lt);
        some = i.some;
        few = i.few;
        over = held_discards f.spot d (drop f.taken (f.accepted ++ x ∷ [])) h (held_none f.spot d (drop f.taken f.accepted) h i.over);
      }

  takes : (x : MsgId) → is_held f.spot ≡ true → slice_get f.accepted f.taken ≡ Some x → LineFacts (record f { taken = f.taken + 1 }) (ids ++ x ∷ []) d
  takes x h at =
      let lt : f.taken < length f.accepted = slice_get_within f.accepted f.taken x at in
      record {
        received = ap (λ ys. ys ++ x ∷ []) i.received ∙ sym (take_next f.accepted f.taken x at);
        within = omega (arith, lt);
        room = omega (arith, i.room);
        some = i.some;
        few = i.few;
        over = held_discards f.spot d (drop (f.taken + 1) f.accepted) h (held_none f.spot d (drop f.taken f.accepted) h i.over);
      }

  -- it goes to another spot where nothing was discarded
  goes : (s : Spot) (ps : List ℕ) → Discards s d (drop f.taken f.accepted) → LineFacts (record f { path = ps; spot = s }) ids d
  goes s ps o =
      record { received = i.received; within = i.within; room = i.room; some = i.some; few = i.few; over = o }

  ends : (xs : List MsgId) → xs ≡ drop f.taken f.accepted → LineFacts (record f { spot = Ended }) ids (Some xs)
  ends xs e =
      record { received = i.received; within = i.within; room = i.room; some = i.some; few = i.few; over = ap (λ ys. Some ys) e }

pub id_is : (x : MsgId) (o : Option MsgId) → are_same same_id (Some x) o ≡ true → o ≡ Some x
id_is x None h = absurd (false≢true h)
id_is x (Some y) h = ap (λ z. Some z) (sym (from_same_id x y h))

first_parts : (n : ℕ) (x : MsgId) (f : PortState) → is_first_waiting n x (Some f) ≡ true → slice_get f.accepted f.taken ≡ Some x
first_parts n x f h =
    let two = and_parts (n == f.taken) (are_same same_id (Some x) (slice_get f.accepted n)) h in
    ap (slice_get f.accepted) (sym (eqb-true n f.taken two.0)) ∙ id_is x (slice_get f.accepted n) two.1

-- what the acts on a line need of its port
module _ (l : Layout) (p : ℕ) (v : Views) where
  meets_held : (x : MsgId) (q : Ui) → meets l v p x q ≡ true → is_held_at p (fate v.port) ≡ true
  meets_held x q h = (and_parts (is_due (due l v p x q)) (is_held_at p (fate v.port)) h).1

  enter_meets : (x : MsgId) (q : Ui) → may_enter l v p x q ≡ true → meets l v p x q ≡ true
  enter_meets x q h =
      let two = and_parts (meets l v p x q && suits l v p x && not (is_already x v.all v.port)) (not (finds_clients_full x v.all v.port)) h in
      let one = and_parts (meets l v p x q && suits l v p x) (not (is_already x v.all v.port)) two.0 in
      (and_parts (meets l v p x q) (suits l v p x) one.0).0

-- the line after an entry on it, where the port is made
module _ (c p s : ℕ) (port : List Entry) (f : PortState) (e : fate port ≡ Some f) where
  after : (a : Act) → fate_after p a (Some f) ≡ Some (changed a f) → LineFacts (changed a f) (received_after a (received port)) (discarded_after a (discarded port)) → IsLine (entry c p s a ∷ port)
  after a n i = subst (λ z. LineIs z (entry c p s a ∷ port)) (sym (ap (fate_after p a) e ∙ n)) i

-- a Make is of a port that is not made
abbrev pub MakesNew : Act → Option PortState → Type 0
MakesNew (Make q a n) o = o ≡ None
MakesNew _ o = Unit {0}

-- what the acts on the line of a port need of it
abbrev pub Needs : ℕ → Act → Option PortState → Type 0
Needs p (Make q a n) o = Unit {0}
Needs p (Arrive q hop) o = is_coming p hop o ≡ true
Needs p _ o = is_held_at p o ≡ true

module _ (l : Layout) (past : List Entry) (c p s : ℕ) where
  abbrev pub NeedsOf : Act → Ui → Type 0
  NeedsOf a q = act_may l (views past p s a) p s a ≡ true → Needs p a (fate (on q past))

  need_rehome : (q a : Ui) → NeedsOf (Rehome q a) q
  need_rehome q a h =
      (and_parts (is_held_at p (fate (on q past))) (has_actor l a) (and_parts (is_held_at p (fate (on q past)) && has_actor l a) (a.site == site_of l p) h).0).0

  need_depart : (q : Ui) (to : ℕ) (a : Ui) (hop : ℕ) → NeedsOf (Depart q to a hop) q
  need_depart q to a hop h =
      let o = fate (on q past) in
      let four = and_parts (is_held_at p o && has_actor l a && not (a.site == site_of l p) && (to == place_at l a.site q)) (is_next_hop hop o) h in
      let three = and_parts (is_held_at p o && has_actor l a && not (a.site == site_of l p)) (to == place_at l a.site q) four.0 in
      let two = and_parts (is_held_at p o && has_actor l a) (not (a.site == site_of l p)) three.0 in
      (and_parts (is_held_at p o) (has_actor l a) two.0).0

  need_accept : (x : MsgId) (q : Ui) (n : ℕ) → NeedsOf (Accept x q n) q
  need_accept x q n h =
      let v = views past p s (Accept x q n) in
      meets_held l p v x q (enter_meets l p v x q (and_parts (may_enter l v p x q) (has_room n (fate v.port)) h).0)

  need_full : (x : MsgId) (q : Ui) (n : ℕ) → NeedsOf (Full x q n) q
  need_full x q n h =
      let v = views past p s (Full x q n) in
      meets_held l p v x q (enter_meets l p v x q (and_parts (may_enter l v p x q) (is_full n (fate v.port)) h).0)

  need_already : (x : MsgId) (q : Ui) → NeedsOf (Already x q) q
  need_already x q h =
      let v = views past p s (Already x q) in meets_held l p v x q (and_parts (meets l v p x q) (is_already x v.all v.port) h).0

  need_clients_full : (x : MsgId) (q : Ui) → NeedsOf (ClientsFull x q) q
  need_clients_full x q h =
      let v = views past p s (ClientsFull x q) in
      meets_held l p v x q (and_parts (meets l v p x q) (finds_clients_full x v.all v.port) h).0

  need_take : (q : Ui) (n : ℕ) (x : MsgId) → NeedsOf (Take q n x) q
  need_take q n x h =
      (and_parts (is_held_at p (fate (on q past))) (is_first_waiting n x (fate (on q past))) h).0

  need_empty : (q : Ui) → NeedsOf (Empty q) q
  need_empty q h = (and_parts (is_held_at p (fate (on q past))) (is_empty (fate (on q past))) h).0

  need_delete : (q : Ui) (xs : List MsgId) → NeedsOf (Delete q xs) q
  need_delete q xs h = (and_parts (is_held_at p (fate (on q past))) (are_waiting xs (fate (on q past))) h).0

  needs_named : (a : Act) (r q : Ui) → Some r ≡ Some q → NeedsOf a r → NeedsOf a q
  needs_named a r q m k = let same : r ≡ q = cc in subst (NeedsOf a) same k

  pub needs : (a : Act) (q : Ui) → held_port_of a ≡ Some q → NeedsOf a q
  needs (Make r a n) q m = λ h. tt
  needs (Accept x r n) q m = needs_named (Accept x r n) r q m (need_accept x r n)
  needs (Full x r n) q m = needs_named (Full x r n) r q m (need_full x r n)
  needs (Already x r) q m = needs_named (Already x r) r q m (need_already x r)
  needs (ClientsFull x r) q m = needs_named (ClientsFull x r) r q m (need_clients_full x r)
  needs (Take r n x) q m = needs_named (Take r n x) r q m (need_take r n x)
  needs (Empty r) q m = needs_named (Empty r) r q m (need_empty r)
  needs (Rehome r a) q m = needs_named (Rehome r a) r q m (need_rehome r a)
  needs (Depart r to a hop) q m = needs_named (Depart r to a hop) r q m (need_depart r to a hop)
  needs (Arrive r hop) q m = needs_named (Arrive r hop) r q m (λ h. h)
  needs (Delete r xs) q m = needs_named (Delete r xs) r q m (need_delete r xs)
  needs _ q m = none_some q m

  abbrev pub Steps : Act → Ui → Type 0
  Steps a q = act_may l (views past p s a) p s a ≡ true → MakesNew a (fate (on q past)) → IsLine (on q past) → IsLine (entry c p s a ∷ on q past)

  step_make : (q a : Ui) (n : ℕ) → Steps (Make q a n) q
  step_make q a n h new i =
      let none : on q past ≡ [] = subst (λ z. LineIs z (on q past)) new i in
      let v = views past p s (Make q a n) in
      let many = and_parts (is_home l a p && nat_le 1 n && nat_le n 64 && not (is_full_of_ports l v.here) && (q.site == a.site)) (q.number == next_number l p v.here) h in
      let more = and_parts (is_home l a p && nat_le 1 n && nat_le n 64 && not (is_full_of_ports l v.here)) (q.site == a.site) many.0 in
      let most = and_parts (is_home l a p && nat_le 1 n && nat_le n 64) (not (is_full_of_ports l v.here)) more.0 in
      let some = and_parts (is_home l a p && nat_le 1 n) (nat_le n 64) most.0 in
      let few = and_parts (is_home l a p) (nat_le 1 n) some.0 in
      subst (λ z. IsLine (entry c p s (Make q a n) ∷ z)) (sym none) (made p a n (grind (arith, nat_tests)) (grind (arith, nat_tests)))

  held_facts : (q : Ui) (a : Act) → is_held_at p (fate (on q past)) ≡ true → IsLine (on q past) → ((f : PortState) → is_held f.spot ≡ true → LineFacts f (received (on q past)) (discarded (on q past)) → fate (on q past) ≡ Some f → (fate_after p a (Some f) ≡ Some (changed a f)) × LineFacts (changed a f) (received_after a (received (on q past))) (discarded_after a (discarded (on q past)))) → IsLine (entry c p s a ∷ on q past)
  held_facts q a h i k =
      let f = held_at p (fate (on q past)) h in
      let two = k f.0 f.2 (facts_at (fate (on q past)) (on q past) f.0 i f.1) f.1 in
      after c p s (on q past) f.0 f.1 a two.0 two.1

  step_accept : (x : MsgId) (q : Ui) (n : ℕ) → Steps (Accept x q n) q
  step_accept x q n h new i =
      let v = views past p s (Accept x q n) in
      let two = and_parts (may_enter l v p x q) (has_room n (fate v.port)) h in
      held_facts q (Accept x q n) (need_accept x q n h) i
      (λ f held facts e.
      let room = and_parts (nat_lt (waiting f) f.capacity) (n == length f.accepted) (ap (has_room n) (sym e) ∙ two.1) in
      (refl, accepts f (received (on q past)) (discarded (on q past)) facts x held (ltb-true (waiting f) f.capacity room.0)))

  step_full : (x : MsgId) (q : Ui) (n : ℕ) → Steps (Full x q n) q
  step_full x q n h new i =
      held_facts q (Full x q n) (need_full x q n h) i (λ f held facts e. (refl, facts))

  step_already : (x : MsgId) (q : Ui) → Steps (Already x q) q
  step_already x q h new i =
      held_facts q (Already x q) (need_already x q h) i (λ f held facts e. (refl, facts))

  step_clients_full : (x : MsgId) (q : Ui) → Steps (ClientsFull x q) q
  step_clients_full x q h new i =
      held_facts q (ClientsFull x q) (need_clients_full x q h) i (λ f held facts e. (refl, facts))

  step_take : (q : Ui) (n : ℕ) (x : MsgId) → Steps (Take q n x) q
  step_take q n x h new i =
      let o = fate (on q past) in
      let two = and_parts (is_held_at p o) (is_first_waiting n x o) h in
      held_facts q (Take q n x) two.0 i
      (λ f held facts e. (refl, takes f (received (on q past)) (discarded (on q past)) facts x held (first_parts n x f (ap (is_first_waiting n x) (sym e) ∙ two.1))))

  step_empty : (q : Ui) → Steps (Empty q) q
  step_empty q h new i =
      held_facts q (Empty q) (need_empty q h) i (λ f held facts e. (refl, facts))

  step_rehome : (q a : Ui) → Steps (Rehome q a) q
  step_rehome q a h new i =
      held_facts q (Rehome q a) (need_rehome q a h) i
      (λ f held facts e. (refl, goes f (received (on q past)) (discarded (on q past)) facts (Held a) f.path (held_none f.spot (discarded (on q past)) (drop f.taken f.accepted) held facts.over)))

  step_depart : (q : Ui) (to : ℕ) (a : Ui) (hop : ℕ) → Steps (Depart q to a hop) q
  step_depart q to a hop h new i =
      held_facts q (Depart q to a hop) (need_depart q to a hop h) i
      (λ f held facts e. (refl, goes f (received (on q past)) (discarded (on q past)) facts (Moving a) (f.path ++ to ∷ []) (held_none f.spot (discarded (on q past)) (drop f.taken f.accepted) held facts.over)))

  step_arrive : (q : Ui) (hop : ℕ) → Steps (Arrive q hop) q
  step_arrive q hop h new i =
      let f = coming p hop (fate (on q past)) h in
      let facts = facts_at (fate (on q past)) (on q past) f.0 i f.1 in
      after c p s (on q past) f.0 f.1 (Arrive q hop) refl
      (goes f.0 (received (on q past)) (discarded (on q past)) facts (arrived (f.0).spot) (f.0).path
      (arrived_discards (f.0).spot (discarded (on q past)) (drop (f.0).taken (f.0).accepted) f.2
      (moving_none (f.0).spot (discarded (on q past)) (drop (f.0).taken (f.0).accepted) f.2 facts.over)))

  step_delete : (q : Ui) (xs : List MsgId) → Steps (Delete q xs) q
  step_delete q xs h new i =
      let o = fate (on q past) in
      let two = and_parts (is_held_at p o) (are_waiting xs o) h in
      held_facts q (Delete q xs) two.0 i
      (λ f held facts e. (refl, ends f (received (on q past)) (discarded (on q past)) facts xs (from_same_ids xs (drop f.taken f.accepted) (ap (are_waiting xs) (sym e) ∙ two.1))))

  named : (a : Act) (r q : Ui) → Some r ≡ Some q → Steps a r → Steps a q
  named a r q m k = let same : r ≡ q = cc in subst (Steps a) same k

  -- an entry on the line of a port keeps what is so of it
  pub step_line : (a : Act) (q : Ui) → held_port_of a ≡ Some q → Steps a q
  step_line (Make r a n) q m = named (Make r a n) r q m (step_make r a n)
  step_line (Accept x r n) q m = named (Accept x r n) r q m (step_accept x r n)
  step_line (Full x r n) q m = named (Full x r n) r q m (step_full x r n)
  step_line (Already x r) q m = named (Already x r) r q m (step_already x r)
  step_line (ClientsFull x r) q m = named (ClientsFull x r) r q m (step_clients_full x r)
  step_line (Take r n x) q m = named (Take r n x) r q m (step_take r n x)
  step_line (Empty r) q m = named (Empty r) r q m (step_empty r)
  step_line (Rehome r a) q m = named (Rehome r a) r q m (step_rehome r a)
  step_line (Depart r to a hop) q m = named (Depart r to a hop) r q m (step_depart r to a hop)
  step_line (Arrive r hop) q m = named (Arrive r hop) r q m (step_arrive r hop)
  step_line (Delete r xs) q m = named (Delete r xs) r q m (step_delete r xs)
  step_line _ q m = none_some q m
