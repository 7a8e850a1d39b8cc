-- Each entry that may come next keeps what is so of each port; and where a port was, it was whatever follows.
use Rattle.std.proofs.Common.{ℕ, ◌≡◌, ◌-◌, ◌<◌, Bool, true, false, ◌==◌, nat_le, ◌&&◌, ◌||◌, not, cond, List, [], ◌∷◌, length, Option, Some, None, is_some, refl, sym, ◌∙◌, ap, subst, arith}
use Rattle.std.specs.List.{slice_get}
use Rattle.std.proofs.lemmas.Bool.{eqb-true, false≢true, true≢false, and_parts, false_from_ne_true}
use Rattle.chorus_ui.specs.declared.ui.Ui.{Ui}
use Rattle.chorus_ui.specs.declared.layout.Layout.{Layout}
use Rattle.chorus_ui.specs.Layout.{IsLayout, has_site, has_actor, place_at, creation_place, site_of}
use Rattle.chorus_ui.proofs.Names.{from_same_ui}
use Rattle.chorus_entry.specs.declared.entry.Entry.{Entry}
use Rattle.chorus_entry.specs.declared.id.MsgId.{MsgId}
use Rattle.chorus_entry.specs.declared.answer.Answer.{Answer}
use Rattle.chorus_entry.specs.declared.act.Act.{Act}
use Rattle.chorus_entry.specs.declared.act.Act.TheVariants.{Make, Told, Rehome, Depart, Arrive, Delete}
use Rattle.chorus_entry.specs.Answer.{same_answer}
use Rattle.chorus_entry.proofs.Same.{from_same_answer}
use Rattle.chorus_world.specs.declared.spot.Spot.{Spot}
use Rattle.chorus_world.specs.declared.spot.Spot.TheVariants.{Held, Moving, Ended}
use Rattle.chorus_world.specs.declared.place.Location.{Location}
use Rattle.chorus_world.specs.declared.place.Sent.{Sent}
use Rattle.chorus_world.specs.declared.progress.Progress.{Progress}
use Rattle.chorus_world.specs.declared.progress.Progress.TheVariants.{Decided}
use Rattle.chorus_world.specs.Views.{views, at, on, is_on}
use Rattle.chorus_entry.specs.Order.{is_at}
use Rattle.chorus_world.specs.Ports.{PortState, fate, fate_after, last_of, is_held, is_moving, is_held_at, is_coming, is_next_hop, are_waiting, arrived}
use Rattle.chorus_world.specs.Messages.{is_to_be_told}
use Rattle.chorus_world.specs.Places.{is_deleted, located, learned, farther, named_location, is_sent_to, find_sent, sent, taught}
use Rattle.chorus_world.specs.Steps.{act_may, is_full_of_ports, next_number}
use Rattle.chorus_world.specs.LocationLaws.{path_of}
use Rattle.chorus_world.proofs.Steps.LegalLemmas.{entry, under, cond_idem, cond_same}
use Rattle.chorus_world.proofs.Sorted.Local.{is_kept}
use Rattle.chorus_world.proofs.Ports.Whereabouts.{Facts, facts_same, facts_learn, facts_make, facts_rehome, facts_depart, facts_arrive, facts_delete, known_push}
use Rattle.chorus_world.proofs.Ports.PortSteps.{PortFacts, Known, spot_in, next_at_home, still, moved, other, number_made, number_grows, made_at, path_still, same_or_not}

cond_agree : {A : Type 0} → (b : Bool) (x y z : A) → (b ≡ true → x ≡ y) → cond b x z ≡ cond b y z
cond_agree true x y z h = h refl
cond_agree false x y z h = refl

held_spot : (s : Spot) → is_held s ≡ true → (a : Ui) × (s ≡ Held a)
held_spot (Held a) h = (a, refl)
held_spot (Moving a) h = absurd (false≢true h)
held_spot Ended h = absurd (false≢true h)

moving_spot : (s : Spot) → is_moving s ≡ true → (a : Ui) × (s ≡ Moving a)
moving_spot (Held a) h = absurd (false≢true h)
moving_spot (Moving a) h = (a, refl)
moving_spot Ended h = absurd (false≢true h)

pub held_fate : (p : ℕ) (o : Option PortState) → is_held_at p o ≡ true → (f : PortState) × (b : Ui) × (o ≡ Some f) × (f.spot ≡ Held b) × (last_of 0 f.path ≡ p)
held_fate p None h = absurd (false≢true h)
held_fate p (Some f) h =
    let two = and_parts (is_held f.spot) (last_of 0 f.path == p) h in
    let s = held_spot f.spot two.0 in
    (f, s.0, refl, s.1, eqb-true (last_of 0 f.path) p two.1)

pub coming_fate : (p hop : ℕ) (o : Option PortState) → is_coming p hop o ≡ true → (f : PortState) × (b : Ui) × (o ≡ Some f) × (f.spot ≡ Moving b) × (last_of 0 f.path ≡ p) × (hop ≡ length f.path - 1)
coming_fate p hop None h = absurd (false≢true h)
coming_fate p hop (Some f) h =
    let two = and_parts (is_moving f.spot && (last_of 0 f.path == p)) (hop == length f.path - 1) h in
    let one = and_parts (is_moving f.spot) (last_of 0 f.path == p) two.0 in
    let s = moving_spot f.spot one.0 in
    (f, s.0, refl, s.1, eqb-true (last_of 0 f.path) p one.1, eqb-true hop (length f.path - 1) two.1)

-- the facts of a port whose fate is known
facts_of : (l : Layout) (past : List Entry) (q : Ui) (f : PortState) (s : Spot) → PortFacts l past q → fate (on q past) ≡ Some f → f.spot ≡ s → Facts q (Some s) f.path (λ p. is_kept q (at p past)) (λ p. is_deleted q (at p past)) (λ p. located l q (at p past)) (next_at_home l q past)
facts_of l past q f s facts was spot =
    subst (λ z. Facts q (Some z) f.path (λ p. is_kept q (at p past)) (λ p. is_deleted q (at p past)) (λ p. located l q (at p past)) (next_at_home l q past)) spot
    (subst (λ o. Facts q (spot_in o) (path_of l q o) (λ p. is_kept q (at p past)) (λ p. is_deleted q (at p past)) (λ p. located l q (at p past)) (next_at_home l q past)) was facts)

unmade_fate : (o : Option PortState) → is_some (spot_in o) ≡ false → o ≡ None
unmade_fate None h = refl
unmade_fate (Some f) h = absurd (true≢false h)

-- a port that may be made was not made, and its name tells the place
pub make_new : (l : Layout) (past : List Entry) (p s : ℕ) (q a : Ui) (n : ℕ) → IsLayout l → PortFacts l past q → act_may l (views past p s (Make q a n)) p s (Make q a n) ≡ true → (fate (on q past) ≡ None) × (creation_place l q ≡ p) × ((named_location l q).to ≡ p) × (q.number ≡ next_number l p (at p past))
make_new l past p s q a n layout f h =
    let five = and_parts _ (q.number == next_number l p (at p past)) h in
    let four = and_parts _ (q.site == a.site) five.0 in
    let three = and_parts _ (not (is_full_of_ports l (at p past))) four.0 in
    let two = and_parts _ (nat_le n 64) three.0 in
    let one = and_parts _ (nat_le 1 n) two.0 in
    let home = and_parts (has_actor l a) (place_at l a.site a == p) one.0 in
    let site : q.site ≡ a.site = eqb-true q.site a.site four.1 in
    let number : q.number ≡ next_number l p (at p past) = eqb-true q.number (next_number l p (at p past)) five.1 in
    let there : creation_place l q ≡ p = made_at l a q p _ layout (eqb-true (place_at l a.site a) p home.1) site number in
    let has : has_site l a.site ≡ true = (and_parts (has_site l a.site) (nat_le 1 a.number) (and_parts _ _ home.0).0).0 in
    let named : (named_location l q).to ≡ p = ap (λ b. cond b (creation_place l q) 0) (ap (has_site l) site ∙ has) ∙ there in
    let new : is_some (spot_in (fate (on q past))) ≡ false = false_from_ne_true (is_some (spot_in (fate (on q past)))) (λ m. let lt : q.number < next_number l p (at p past) = subst (λ z. q.number < next_number l z (at z past)) there (f.made m) in omega arith) in
    (unmade_fate (fate (on q past)) new, there, named, number)

port_make : (l : Layout) (past : List Entry) (q : Ui) (c p s : ℕ) (r a : Ui) (n : ℕ) → IsLayout l → PortFacts l past q → act_may l (views past p s (Make r a n)) p s (Make r a n) ≡ true → PortFacts l (entry c p s (Make r a n) ∷ past) q
port_make l past q c p s r a n layout f h =
    let e = entry c p s (Make r a n) in
    same_or_not q r (PortFacts l (e ∷ past) q)
    (λ is_r t back.
    let new = make_new l past p s q a n layout f (subst (λ z. act_may l (views past p s (Make z a n)) p s (Make z a n) ≡ true) (sym is_r) h) in
    moved l past q e t
    (facts_same
    (facts_make p a (next_at_home l q (e ∷ past))
    (subst (λ o. Facts q (spot_in o) (path_of l q o) (λ z. is_kept q (at z past)) (λ z. is_deleted q (at z past)) (λ z. located l q (at z past)) (next_at_home l q past)) new.0 f)
    new.2 (number_made l past c p s r a n q layout new.1 new.3))
    refl (ap (λ z. z ∷ []) new.2)
    (λ x. ap (λ b. cond (p == x) (b || is_kept q (at x past)) (is_kept q (at x past))) back)
    (λ x. cond_idem (p == x) (is_deleted q (at x past)))
    (λ x. cond_idem (p == x) (located l q (at x past)))
    (omega arith)))
    (λ off back. other l past q e off (λ b. ap (λ x. x || b) back) (λ b. refl) (λ xs. refl) f)

port_rehome : (l : Layout) (past : List Entry) (q : Ui) (c p s : ℕ) (r a : Ui) → PortFacts l past q → act_may l (views past p s (Rehome r a)) p s (Rehome r a) ≡ true → PortFacts l (entry c p s (Rehome r a) ∷ past) q
port_rehome l past q c p s r a f h =
    let e = entry c p s (Rehome r a) in
    let held = (and_parts (is_held_at p (fate (on r past))) _ (and_parts _ (a.site == site_of l p) h).0).0 in
    same_or_not q r (PortFacts l (e ∷ past) q)
    (λ is_r t back.
    let old = held_fate p (fate (on q past)) (subst (λ z. is_held_at p (fate (on z past)) ≡ true) (sym is_r) held) in
    moved l past q e t
    (facts_same
    (facts_rehome a old.1 (facts_of l past q old.0 (Held old.1) f old.2 old.3))
    (sym (ap (λ o. spot_in (fate_after p (Rehome r a) o)) old.2))
    (sym (ap (λ o. path_of l q (fate_after p (Rehome r a) o)) old.2))
    (λ x. cond_idem (p == x) (is_kept q (at x past)))
    (λ x. cond_idem (p == x) (is_deleted q (at x past)))
    (λ x. cond_idem (p == x) (located l q (at x past)))
    (number_grows l q e past)))
    (λ off back. other l past q e off (λ b. refl) (λ b. refl) (λ xs. refl) f)

port_depart : (l : Layout) (past : List Entry) (q : Ui) (c p s : ℕ) (r : Ui) (to : ℕ) (a : Ui) (hop : ℕ) → PortFacts l past q → act_may l (views past p s (Depart r to a hop)) p s (Depart r to a hop) ≡ true → PortFacts l (entry c p s (Depart r to a hop) ∷ past) q
port_depart l past q c p s r to a hop f h =
    let e = entry c p s (Depart r to a hop) in
    let four = and_parts _ (is_next_hop hop (fate (on r past))) h in
    let three = and_parts _ (to == place_at l a.site r) four.0 in
    let two = and_parts _ (not (a.site == site_of l p)) three.0 in
    let held = (and_parts (is_held_at p (fate (on r past))) (has_actor l a) two.0).0 in
    same_or_not q r (PortFacts l (e ∷ past) q)
    (λ is_r t back.
    let old = held_fate p (fate (on q past)) (subst (λ z. is_held_at p (fate (on z past)) ≡ true) (sym is_r) held) in
    let next : is_next_hop hop (Some old.0) ≡ true = subst (λ o. is_next_hop hop o ≡ true) old.2 (subst (λ z. is_next_hop hop (fate (on z past)) ≡ true) (sym is_r) four.1) in
    let far : hop ≡ length (old.0).path = eqb-true hop (length (old.0).path) next in
    moved l past q e t
    (facts_same
    (facts_depart p to a old.1 (facts_of l past q old.0 (Held old.1) f old.2 old.3) old.4)
    (sym (ap (λ o. spot_in (fate_after p (Depart r to a hop) o)) old.2))
    (sym (ap (λ o. path_of l q (fate_after p (Depart r to a hop) o)) old.2))
    (λ x. ap (λ b. cond (p == x) (not b && is_kept q (at x past)) (is_kept q (at x past))) back)
    (λ x. cond_idem (p == x) (is_deleted q (at x past)))
    (λ x. ap (λ b. cond (p == x) (farther (located l q (at x past)) (cond b (Some (record { to = to; hop = hop })) None)) (located l q (at x past))) back
    ∙ ap (λ n. cond (p == x) (farther (located l q (at x past)) (Some (record { to = to; hop = n }))) (located l q (at x past))) far)
    (number_grows l q e past)))
    (λ off back. other l past q e off (λ b. ap (λ x. not x && b) back) (λ b. refl) (λ xs. ap (λ b. cond b (Some (record { to = to; hop = hop })) None) back) f)

port_arrive : (l : Layout) (past : List Entry) (q : Ui) (c p s : ℕ) (r : Ui) (hop : ℕ) → PortFacts l past q → act_may l (views past p s (Arrive r hop)) p s (Arrive r hop) ≡ true → PortFacts l (entry c p s (Arrive r hop) ∷ past) q
port_arrive l past q c p s r hop f h =
    let e = entry c p s (Arrive r hop) in
    same_or_not q r (PortFacts l (e ∷ past) q)
    (λ is_r t back.
    let old = coming_fate p hop (fate (on q past)) (subst (λ z. is_coming p hop (fate (on z past)) ≡ true) (sym is_r) h) in
    moved l past q e t
    (facts_same
    (facts_arrive p hop old.1 (facts_of l past q old.0 (Moving old.1) f old.2 old.3) old.4 old.5)
    (sym (ap (λ o. spot_in (fate_after p (Arrive r hop) o)) old.2 ∙ ap (λ z. Some (arrived z)) old.3))
    (sym (ap (λ o. path_of l q (fate_after p (Arrive r hop) o)) old.2))
    (λ x. ap (λ b. cond (p == x) (b || is_kept q (at x past)) (is_kept q (at x past))) back)
    (λ x. cond_idem (p == x) (is_deleted q (at x past)))
    (λ x. ap (λ b. cond (p == x) (farther (located l q (at x past)) (cond b (Some (record { to = p; hop = hop })) None)) (located l q (at x past))) back)
    (number_grows l q e past)))
    (λ off back. other l past q e off (λ b. ap (λ x. x || b) back) (λ b. refl) (λ xs. ap (λ b. cond b (Some (record { to = p; hop = hop })) None) back) f)

port_delete : (l : Layout) (past : List Entry) (q : Ui) (c p s : ℕ) (r : Ui) (xs : List MsgId) → PortFacts l past q → act_may l (views past p s (Delete r xs)) p s (Delete r xs) ≡ true → PortFacts l (entry c p s (Delete r xs) ∷ past) q
port_delete l past q c p s r xs f h =
    let e = entry c p s (Delete r xs) in
    let held = (and_parts (is_held_at p (fate (on r past))) (are_waiting xs (fate (on r past))) h).0 in
    same_or_not q r (PortFacts l (e ∷ past) q)
    (λ is_r t back.
    let old = held_fate p (fate (on q past)) (subst (λ z. is_held_at p (fate (on z past)) ≡ true) (sym is_r) held) in
    moved l past q e t
    (facts_same
    (facts_delete p old.1 (facts_of l past q old.0 (Held old.1) f old.2 old.3) old.4)
    (sym (ap (λ o. spot_in (fate_after p (Delete r xs) o)) old.2))
    (sym (ap (λ o. path_of l q (fate_after p (Delete r xs) o)) old.2))
    (λ x. ap (λ b. cond (p == x) (not b && is_kept q (at x past)) (is_kept q (at x past))) back)
    (λ x. ap (λ b. cond (p == x) (b || is_deleted q (at x past)) (is_deleted q (at x past))) back)
    (λ x. cond_idem (p == x) (located l q (at x past)))
    (number_grows l q e past)))
    (λ off back. other l past q e off (λ b. ap (λ x. not x && b) back) (λ b. ap (λ x. x || b) back) (λ xs. refl) f)

-- What a place is told.

-- what the answer teaches of the port is so
abbrev pub Teaches : Layout → List Entry → Ui → Option Location → Type 0
Teaches l past q None = Unit {0}
Teaches l past q (Some y) = Known l past q y.hop y.to

-- the message was sent from there to the port
abbrev pub IsSentTo : List Entry → ℕ → MsgId → Ui → Type 0
IsSentTo past from x q = (m : Sent) × (find_sent x (sent (at from past)) ≡ Some m) × (m.port ≡ q)

pub to_be_told : (p : ℕ) (a : Answer) (s : Progress) → is_to_be_told p a s ≡ true → (by : ℕ) × (r : Ui) × (s ≡ Decided p by r a)
to_be_told p a (Decided from by r b) h =
    let two = and_parts (from == p) (same_answer a b) h in
    (by, r, λ i. Decided (eqb-true from p two.0 i) by r (sym (from_same_answer a b two.1) i))
to_be_told p a _ h = absurd (false≢true h)

told_facts : (l : Layout) (past : List Entry) (q : Ui) (p : ℕ) (m : Option Location) → PortFacts l past q → Teaches l past q m → Facts q (spot_in (fate (on q past))) (path_of l q (fate (on q past))) (λ r. is_kept q (at r past)) (λ r. is_deleted q (at r past)) (λ r. cond (p == r) (farther (located l q (at r past)) m) (located l q (at r past))) (next_at_home l q past)
told_facts l past q p None f g =
    facts_same f refl refl (λ _. refl) (λ _. refl) (λ r. cond_idem (p == r) (located l q (at r past))) (omega arith)
told_facts l past q p (Some y) f g = facts_learn p y f g

taught_if : (l : Layout) (past : List Entry) (q r : Ui) (o : Option Location) (b : Bool) → (b ≡ true → r ≡ q) → Teaches l past r o → Teaches l past q (cond b o None)
taught_if l past q r o true same g = subst (λ z. Teaches l past z o) (same refl) g
taught_if l past q r o false same g = tt

sent_to_is : (q : Ui) (m : Sent) (o : Option Sent) → o ≡ Some m → is_sent_to q o ≡ true → m.port ≡ q
sent_to_is q m None e h = absurd (false≢true h)
sent_to_is q m (Some n) e h = from_port n m q e (from_same_ui n.port q h)
  where
    from_port : (n m : Sent) (q : Ui) → Some n ≡ Some m → n.port ≡ q → m.port ≡ q
    from_port n m q e h = cc

port_told : (l : Layout) (past : List Entry) (q : Ui) (c p s : ℕ) (x : MsgId) (a : Answer) (r : Ui) → PortFacts l past q → Teaches l past r (taught a) → IsSentTo past p x r → PortFacts l (entry c p s (Told x a) ∷ past) q
port_told l past q c p s x a r f g to =
    let e = entry c p s (Told x a) in
    let told = learned q p (at p past) (Told x a) in
    let o = find_sent x (sent (at p past)) in
    let same : is_sent_to q o ≡ true → r ≡ q = λ t. sym to.2 ∙ sent_to_is q to.0 o to.1 t in
    facts_same (told_facts l past q p told f (taught_if l past q r (taught a) (is_sent_to q o) same g))
    refl refl
    (λ z. under (is_kept q) (is_at z e) (e ∷ at z past) (at z past) ∙ cond_idem (is_at z e) (is_kept q (at z past)))
    (λ z. under (is_deleted q) (is_at z e) (e ∷ at z past) (at z past) ∙ cond_idem (is_at z e) (is_deleted q (at z past)))
    (λ z. under (located l q) (is_at z e) (e ∷ at z past) (at z past)
    ∙ cond_agree (p == z) (farther (located l q (at z past)) (learned q p (at z past) (Told x a))) (farther (located l q (at z past)) told) (located l q (at z past))
    (λ t. ap (λ v. farther (located l q (at z past)) (learned q p (at v past) (Told x a))) (sym (eqb-true p z t))))
    (number_grows l q e past)

-- each entry that may come next keeps the facts of each port
pub ports_step : (l : Layout) (past : List Entry) (q : Ui) (c p s : ℕ) (a : Act) → IsLayout l → PortFacts l past q → ((x : MsgId) (b : Answer) → a ≡ Told x b → (r : Ui) × (Teaches l past r (taught b) × IsSentTo past p x r)) → act_may l (views past p s a) p s a ≡ true → PortFacts l (entry c p s a ∷ past) q
ports_step l past q c p s (Make r a n) layout f g h = port_make l past q c p s r a n layout f h
ports_step l past q c p s (Rehome r a) layout f g h = port_rehome l past q c p s r a f h
ports_step l past q c p s (Depart r to a hop) layout f g h = port_depart l past q c p s r to a hop f h
ports_step l past q c p s (Arrive r hop) layout f g h = port_arrive l past q c p s r hop f h
ports_step l past q c p s (Delete r xs) layout f g h = port_delete l past q c p s r xs f h
ports_step l past q c p s (Told x b) layout f g h =
    let t = g x b refl in port_told l past q c p s x b t.0 f t.1.0 t.1.1
ports_step l past q c p s a layout f g h = still l past q (entry c p s a) refl (λ here. refl) f

-- Where a port was with some hop, it was whatever follows.

known_same : (l : Layout) (past : List Entry) (e : Entry) (q : Ui) (n p : ℕ) → path_of l q (fate_after e.place e.act (fate (on q past))) ≡ path_of l q (fate (on q past)) → Known l past q n p → Known l (e ∷ past) q n p
known_same l past e q n p h k =
    ap (λ ps. slice_get ps n)
    (under (λ es. path_of l q (fate es)) (is_on (Some q) e) (e ∷ on q past) (on q past)
    ∙ cond_same (is_on (Some q) e) (path_of l q (fate_after e.place e.act (fate (on q past)))) (path_of l q (fate (on q past))) (λ _. h))
    ∙ k

known_other : (l : Layout) (past : List Entry) (e : Entry) (q : Ui) (n p : ℕ) → is_on (Some q) e ≡ false → Known l past q n p → Known l (e ∷ past) q n p
known_other l past e q n p off k = ap (λ b. slice_get (path_of l q (fate (cond b (e ∷ on q past) (on q past)))) n) off ∙ k

known_on : (l : Layout) (past : List Entry) (e : Entry) (q : Ui) (n p : ℕ) → is_on (Some q) e ≡ true → slice_get (path_of l q (fate_after e.place e.act (fate (on q past)))) n ≡ Some p → Known l (e ∷ past) q n p
known_on l past e q n p t k = ap (λ b. slice_get (path_of l q (fate (cond b (e ∷ on q past) (on q past)))) n) t ∙ k

path_rehomed : (l : Layout) (q : Ui) (p : ℕ) (r a : Ui) (o : Option PortState) → path_of l q (fate_after p (Rehome r a) o) ≡ path_of l q o
path_rehomed l q p r a None = refl
path_rehomed l q p r a (Some f) = refl

path_arrived : (l : Layout) (q : Ui) (p : ℕ) (r : Ui) (hop : ℕ) (o : Option PortState) → path_of l q (fate_after p (Arrive r hop) o) ≡ path_of l q o
path_arrived l q p r hop None = refl
path_arrived l q p r hop (Some f) = refl

path_deleted : (l : Layout) (q : Ui) (p : ℕ) (r : Ui) (xs : List MsgId) (o : Option PortState) → path_of l q (fate_after p (Delete r xs) o) ≡ path_of l q o
path_deleted l q p r xs None = refl
path_deleted l q p r xs (Some f) = refl

pub known_departed : (l : Layout) (q : Ui) (p : ℕ) (r : Ui) (to : ℕ) (a : Ui) (hop : ℕ) (o : Option PortState) (n z : ℕ) → slice_get (path_of l q o) n ≡ Some z → slice_get (path_of l q (fate_after p (Depart r to a hop) o)) n ≡ Some z
known_departed l q p r to a hop None n z h = h
known_departed l q p r to a hop (Some f) n z h = known_push f.path to n z h

pub known_step : (l : Layout) (past : List Entry) (q : Ui) (c p s : ℕ) (a : Act) → IsLayout l → PortFacts l past q → act_may l (views past p s a) p s a ≡ true → (n z : ℕ) → Known l past q n z → Known l (entry c p s a ∷ past) q n z
known_step l past q c p s (Make r a m) layout f h n z k =
    let e = entry c p s (Make r a m) in
    same_or_not q r (Known l (e ∷ past) q n z)
    (λ is_r t back.
    let new = make_new l past p s q a m layout f (subst (λ z. act_may l (views past p s (Make z a m)) p s (Make z a m) ≡ true) (sym is_r) h) in
    known_on l past e q n z t
    (ap (λ y. slice_get (y ∷ []) n) (sym new.2) ∙ (ap (λ o. slice_get (path_of l q o) n) (sym new.0) ∙ k)))
    (λ off back. known_other l past e q n z off k)
known_step l past q c p s (Depart r to a hop) layout f h n z k =
    let e = entry c p s (Depart r to a hop) in
    same_or_not q r (Known l (e ∷ past) q n z)
    (λ is_r t back. known_on l past e q n z t (known_departed l q p r to a hop (fate (on q past)) n z k))
    (λ off back. known_other l past e q n z off k)
known_step l past q c p s (Rehome r a) layout f h n z k = known_same l past (entry c p s (Rehome r a)) q n z (path_rehomed l q p r a (fate (on q past))) k
known_step l past q c p s (Arrive r hop) layout f h n z k = known_same l past (entry c p s (Arrive r hop)) q n z (path_arrived l q p r hop (fate (on q past))) k
known_step l past q c p s (Delete r xs) layout f h n z k = known_same l past (entry c p s (Delete r xs)) q n z (path_deleted l q p r xs (fate (on q past))) k
known_step l past q c p s a layout f h n z k =
    known_same l past (entry c p s a) q n z (path_still l q p a (fate (on q past)) refl) k
