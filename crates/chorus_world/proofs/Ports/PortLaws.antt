-- The laws of one port: what it accepts stays, is received in order, and is discarded by its Delete entry.
use Rattle.std.proofs.Common.{ℕ, ◌≡◌, ◌+◌, ◌-◌, ◌*◌, ◌%◌, ◌<◌, ◌≤◌, ◌==◌, Bool, true, false, ◌&&◌, ◌⊎◌, not, cond, List, [], ◌∷◌, ◌++◌, length, take, drop, nat_le, Option, Some, None, refl, sym, ◌∙◌, ap, subst, arith, inl, inr}
use Rattle.std.proofs.lemmas.Bool.{and_parts, eqb-true, eq-eqb, false≢true, cases_Bool}
use Rattle.std.proofs.lemmas.List.{take-append-drop, append-nil, append_assoc}
use Rattle.std.proofs.lemmas.Nat.{mod-mul-add}
use Rattle.chorus_ui.specs.declared.ui.Ui.{Ui}
use Rattle.chorus_ui.specs.declared.layout.Layout.{Layout}
use Rattle.chorus_ui.specs.Layout.{IsLayout, has_actor, place_at, creation_place, first_place}
use Rattle.chorus_ui.specs.declared.limits.TheConstants.{PENDING_LIMIT}
use Rattle.chorus_entry.specs.declared.entry.Entry.{Entry}
use Rattle.chorus_entry.specs.declared.id.MsgId.{MsgId}
use Rattle.chorus_entry.specs.declared.act.Act.{Act}
use Rattle.chorus_entry.specs.declared.act.Act.TheVariants.{Make, Accept, Arrive}
use Rattle.chorus_entry.specs.Act.{held_port_of}
use Rattle.chorus_world.specs.declared.spot.Spot.{Spot}
use Rattle.chorus_world.specs.declared.spot.Spot.TheVariants.{Held, Moving, Ended}
use Rattle.chorus_world.specs.Views.{views, is_on, on, at}
use Rattle.chorus_entry.specs.Order.{is_at}
use Rattle.chorus_world.specs.Ports.{PortState, fate, fate_after, is_made, is_held, is_moving, is_held_at}
use Rattle.chorus_world.specs.Places.{ports_made, ports_after}
use Rattle.chorus_world.specs.Steps.{act_may, is_legal, is_home, is_full_of_ports, next_number}
use Rattle.chorus_world.specs.AcceptedLaws.{accepted_by, accepted_from, taken_by, taken_from, received, discarded, AcceptedGrows, EndsWithDelete}
use Rattle.chorus_world.proofs.Steps.LegalLemmas.{entry, legal_parts, on_is, skips, keeps, under}
use Rattle.chorus_world.proofs.Ports.LineLemmas.{Discards, Needs, needs, held_at, coming, LineFacts, LineIs, IsLine, MakesNew, step_line, none_some}

-- a made port has a number that its creation place has given
abbrev pub IsNumbered : Layout → Ui → List Entry → Type 0
IsNumbered l q past = is_made (fate (on q past)) ≡ true → q.number ≤ ports_made (at (creation_place l q) past) * l.turns

ports_after_grows : (a : Act) (n : ℕ) → n ≤ ports_after a n
ports_after_grows (Make q b c) n = omega arith
ports_after_grows _ n = omega arith

ports_choice : (b : Bool) (a : Act) (n : ℕ) → n ≤ cond b (ports_after a n) n
ports_choice true a n = ports_after_grows a n
ports_choice false a n = omega arith

ports_grow : (e : Entry) (past : List Entry) (p : ℕ) → ports_made (at p past) ≤ ports_made (at p (e ∷ past))
ports_grow e past p =
    subst (λ n. ports_made (at p past) ≤ n) (sym (under ports_made (is_at p e) (e ∷ at p past) (at p past)))
    (ports_choice (is_at p e) e.act (ports_made (at p past)))

mul_grows : (m n t : ℕ) → m ≤ n → m * t ≤ n * t
mul_grows m n t h = grind arith

mul_more : (m t : ℕ) → (m + 1) * t ≡ m * t + t
mul_more m t = grind arith

made_before : (q : Ui) (p : ℕ) (a : Act) (o : Option PortState) → held_port_of a ≡ Some q → is_made (fate_after p a o) ≡ true → (is_made o ≡ true) ⊎ ((b : Ui) × (n : ℕ) × (a ≡ Make q b n))
made_before q p (Make r b n) o m h = let same : r ≡ q = cc in inr (b, n, ap (λ z. Make z b n) same)
made_before q p _ (Some f) m h = inl refl
made_before q p _ None m h = absurd (false≢true h)

-- the number that a Make gives
number_given : (l : Layout) (q a : Ui) (p m : ℕ) → IsLayout l → place_at l a.site a ≡ p → q.site ≡ a.site → q.number ≡ m * l.turns + (p - 1) % l.turns + 1 → (creation_place l q ≡ p) × (q.number ≤ (m + 1) * l.turns) × (m * l.turns < q.number)
number_given l q a p m i home site number =
    let t = l.turns in
    let k = (a.number - 1) % t in
    let less : k < t = omega (arith, i.turns_from_one) in
    let before : p - 1 ≡ (a.site - 1) * t + k = omega (arith, home) in
    let left : (p - 1) % t ≡ k = ap (λ z. z % t) before ∙ mod-mul-add (a.site - 1) t k less in
    let named : q.number ≡ m * t + k + 1 = number ∙ ap (λ z. m * t + z + 1) left in
    let rest : (q.number - 1) % t ≡ k = ap (λ z. z % t) (let e : q.number - 1 ≡ m * t + k = omega (arith, named) in e) ∙ mod-mul-add m t k less in
    (ap (λ z. first_place l q.site + z) rest ∙ ap (λ z. first_place l z + k) site ∙ home, omega (arith, named, less, mul_more m t), omega (arith, named))

-- what a Make needs
make_needs : (l : Layout) (past : List Entry) (p s : ℕ) (q a : Ui) (n : ℕ) → act_may l (views past p s (Make q a n)) p s (Make q a n) ≡ true → (place_at l a.site a ≡ p) × (q.site ≡ a.site) × (q.number ≡ ports_made (at p past) * l.turns + (p - 1) % l.turns + 1)
make_needs l past p s q a n h =
    let here = at p past in
    let five = and_parts (is_home l a p && nat_le 1 n && nat_le n 64 && not (is_full_of_ports l here) && (q.site == a.site)) (q.number == next_number l p here) h in
    let four = and_parts (is_home l a p && nat_le 1 n && nat_le n 64 && not (is_full_of_ports l here)) (q.site == a.site) five.0 in
    let three = and_parts (is_home l a p && nat_le 1 n && nat_le n 64) (not (is_full_of_ports l here)) four.0 in
    let two = and_parts (is_home l a p && nat_le 1 n) (nat_le n 64) three.0 in
    let one = and_parts (is_home l a p) (nat_le 1 n) two.0 in
    let home = and_parts (has_actor l a) (place_at l a.site a == p) one.0 in
    (eqb-true (place_at l a.site a) p home.1, eqb-true q.site a.site four.1, eqb-true q.number (next_number l p here) five.1)

given : (l : Layout) (past : List Entry) (p s : ℕ) (q a : Ui) (n : ℕ) → IsLayout l → act_may l (views past p s (Make q a n)) p s (Make q a n) ≡ true → (creation_place l q ≡ p) × (q.number ≤ (ports_made (at p past) + 1) * l.turns) × (ports_made (at p past) * l.turns < q.number)
given l past p s q a n i h =
    let needs = make_needs l past p s q a n h in number_given l q a p (ports_made (at p past)) i needs.0 needs.1 needs.2

unmade : (o : Option PortState) → (is_made o ≡ true → ⊥) → o ≡ None
unmade None h = refl
unmade (Some f) h = absurd (h refl)

-- a Make is of a port that is not made
makes_new : (l : Layout) (past : List Entry) (p s : ℕ) (a : Act) (q : Ui) → IsLayout l → IsNumbered l q past → held_port_of a ≡ Some q → act_may l (views past p s a) p s a ≡ true → MakesNew a (fate (on q past))
makes_new l past p s (Make r a n) q i k m h =
    let same : r ≡ q = cc in
    let g = given l past p s r a n i h in
    unmade (fate (on q past))
    (λ made.
    let le : q.number ≤ ports_made (at (creation_place l q) past) * l.turns = k made in
    let there : creation_place l q ≡ p = ap (creation_place l) (sym same) ∙ g.0 in
    let lt : ports_made (at p past) * l.turns < q.number = subst (λ z. ports_made (at p past) * l.turns < z.number) same g.2 in
    let here : q.number ≤ ports_made (at p past) * l.turns = subst (λ z. q.number ≤ ports_made (at z past) * l.turns) there le in
    omega arith)
makes_new l past p s _ q i k m h = tt

numbered_more : (l : Layout) (past : List Entry) (e : Entry) (q : Ui) (n : ℕ) → n ≤ ports_made (at (creation_place l q) past) * l.turns → n ≤ ports_made (at (creation_place l q) (e ∷ past)) * l.turns
numbered_more l past e q n h =
    let p = creation_place l q in
    let le = mul_grows (ports_made (at p past)) (ports_made (at p (e ∷ past))) l.turns (ports_grow e past p) in
    omega arith

numbered_step : (l : Layout) (past : List Entry) (c p s : ℕ) (a : Act) (q : Ui) → IsLayout l → IsNumbered l q past → act_may l (views past p s a) p s a ≡ true → held_port_of a ≡ Some q → is_made (fate_after p a (fate (on q past))) ≡ true → q.number ≤ ports_made (at (creation_place l q) (entry c p s a ∷ past)) * l.turns
numbered_step l past c p s a q i k h m made =
    elim (made_before q p a (fate (on q past)) m made) [
      | inl old ↦ numbered_more l past (entry c p s a) q q.number (k old)
      | inr new ↦ (
          let b = new.0 in
          let n = new.1 in
          let g = given l past p s q b n i (subst (λ z. act_may l (views past p s z) p s z ≡ true) new.2 h) in
          let one : ports_made (at p (entry c p s a ∷ past)) ≡ ports_made (at p past) + 1 =
          ap (λ z. ports_made (at p (entry c p s z ∷ past))) new.2
          ∙ ap (λ z. ports_made (cond z (entry c p s (Make q b n) ∷ at p past) (at p past))) (eq-eqb p p refl) in
          subst (λ z. q.number ≤ ports_made (at z (entry c p s a ∷ past)) * l.turns) (sym g.0)
          (subst (λ z. q.number ≤ z * l.turns) (sym one) g.1))
    ]

-- every legal past has, of each port, a line of which the facts hold, and its number
pub legal_line : (l : Layout) (past : List Entry) (q : Ui) → IsLayout l → is_legal l past ≡ true → IsLine (on q past) × IsNumbered l q past
legal_line l [] q i h = (refl, λ m. absurd (false≢true m))
legal_line l (e ∷ past) q i h =
    let two = legal_parts l e past h in
    let old = legal_line l past q i two.1 in
    elim (cases_Bool (is_on (Some q) e)) [
      | inl t ↦ (
          let m = on_is q (held_port_of e.act) t in
          let view : on q (e ∷ past) ≡ e ∷ on q past = keeps (is_on (Some q)) e past t in (
            subst IsLine (sym view) (step_line l past e.clock e.place e.seat e.act q m two.0 (makes_new l past e.place e.seat e.act q i old.1 m two.0) old.0),
            λ made. numbered_step l past e.clock e.place e.seat e.act q i old.1 two.0 m (ap (λ z. is_made (fate z)) (sym view) ∙ made),
          ))
      | inr n ↦ (
          let view : on q (e ∷ past) ≡ on q past = skips (is_on (Some q)) e past n in (
            subst IsLine (sym view) old.0,
            λ made. numbered_more l past e q q.number (old.1 (ap (λ z. is_made (fate z)) (sym view) ∙ made)),
          ))
    ]

-- The laws.

pub line_facts : (l : Layout) (past : List Entry) (q : Ui) (f : PortState) → IsLayout l → is_legal l past ≡ true → fate (on q past) ≡ Some f → LineFacts f (received (on q past)) (discarded (on q past))
line_facts l past q f i h e = subst (λ z. LineIs z (on q past)) e (legal_line l past q i h).0

-- a port that is not made has no entries on its line
pub unmade_is_empty : (l : Layout) (past : List Entry) (q : Ui) → IsLayout l → is_legal l past ≡ true → fate (on q past) ≡ None → on q past ≡ []
unmade_is_empty l past q i h e = subst (λ z. LineIs z (on q past)) e (legal_line l past q i h).0

receives_case : (o : Option PortState) (port : List Entry) → LineIs o port → (received port ≡ take (taken_from o) (accepted_from o)) × (taken_from o ≤ length (accepted_from o))
receives_case None port h = (ap received h, omega arith)
receives_case (Some f) port h = (h.received, h.within)

pub receives_in_order : (l : Layout) (past : List Entry) (q : Ui) → IsLayout l → is_legal l past ≡ true → (received (on q past) ≡ take (taken_by q past) (accepted_by q past)) × (taken_by q past ≤ length (accepted_by q past))
receives_in_order l past q i h = receives_case (fate (on q past)) (on q past) (legal_line l past q i h).0

pub keeps_to_capacity : (l : Layout) (past : List Entry) → IsLayout l → is_legal l past ≡ true → (q : Ui) (f : PortState) → fate (on q past) ≡ Some f → (f.taken ≤ length f.accepted) × (length f.accepted ≤ f.taken + f.capacity) × (1 ≤ f.capacity) × (f.capacity ≤ PENDING_LIMIT)
keeps_to_capacity l past i h q f e =
    let facts = line_facts l past q f i h e in (facts.within, facts.room, facts.some, facts.few)

pub discards_spot : (s : Spot) (d : Option (List MsgId)) (xs ys : List MsgId) → Discards s d ys → d ≡ Some xs → (s ≡ Ended) × (xs ≡ ys)
discards_spot (Held a) d xs ys h e = none_some xs (sym h ∙ e)
discards_spot (Moving a) d xs ys h e = none_some xs (sym h ∙ e)
discards_spot Ended d xs ys h e = (refl, let both : Some xs ≡ Some ys = sym e ∙ h in cc)

discards_case : (o : Option PortState) (port : List Entry) (xs : List MsgId) → LineIs o port → discarded port ≡ Some xs → accepted_from o ≡ received port ++ xs
discards_case None port xs h e = none_some xs (ap discarded (sym h) ∙ e)
discards_case (Some f) port xs h e =
    let over = discards_spot f.spot (discarded port) xs (drop f.taken f.accepted) h.over e in
    sym (ap (λ ys. ys ++ xs) h.received ∙ (ap (λ ys. take f.taken f.accepted ++ ys) over.1 ∙ take-append-drop f.taken f.accepted))

pub discards_the_rest : (l : Layout) (past : List Entry) (q : Ui) (xs : List MsgId) → IsLayout l → is_legal l past ≡ true → discarded (on q past) ≡ Some xs → accepted_by q past ≡ received (on q past) ++ xs
discards_the_rest l past q xs i h e = discards_case (fate (on q past)) (on q past) xs (legal_line l past q i h).0 e

accepts_more : (a : Act) (p : ℕ) (o : Option PortState) → MakesNew a o → (more : List MsgId) × (accepted_from (fate_after p a o) ≡ accepted_from o ++ more)
accepts_more (Make q a n) p o new = ([], sym (ap (λ z. accepted_from z ++ []) new))
accepts_more (Accept x q n) p (Some f) new = (x ∷ [], refl)
accepts_more _ p (Some f) new = ([], sym (append-nil f.accepted))
accepts_more _ p None new = ([], refl)

grows_by_one : (l : Layout) (past : List Entry) (e : Entry) (q : Ui) → IsLayout l → is_legal l (e ∷ past) ≡ true → (more : List MsgId) × (accepted_by q (e ∷ past) ≡ accepted_by q past ++ more)
grows_by_one l past e q i h =
    let two = legal_parts l e past h in
    elim (cases_Bool (is_on (Some q) e)) [
      | inl t ↦ (
          let m = on_is q (held_port_of e.act) t in
          let more = accepts_more e.act e.place (fate (on q past)) (makes_new l past e.place e.seat e.act q i (legal_line l past q i two.1).1 m two.0) in
          (more.0, ap (λ z. accepted_from (fate z)) (keeps (is_on (Some q)) e past t) ∙ more.1))
      | inr n ↦ ([], ap (λ z. accepted_from (fate z)) (skips (is_on (Some q)) e past n) ∙ sym (append-nil (accepted_by q past)))
    ]

pub accepted_grows : AcceptedGrows
accepted_grows l [] past q i h = ([], sym (append-nil (accepted_by q past)))
accepted_grows l (e ∷ newer) past q i h =
    let one = grows_by_one l (newer ++ past) e q i h in
    let old = accepted_grows l newer past q i (legal_parts l e (newer ++ past) h).1 in
    (old.0 ++ one.0, one.1 ∙ (ap (λ z. z ++ one.0) old.1 ∙ append_assoc (accepted_by q past) old.0 one.0))

-- what stands on a line needs its port, and a deleted one is neither held nor on its way
held_alive : (p : ℕ) (o : Option PortState) (f : PortState) → is_held_at p o ≡ true → o ≡ Some f → f.spot ≡ Ended → ⊥
held_alive p o f h e d =
    let g = held_at p o h in
    let same : g.0 ≡ f = let both : Some g.0 ≡ Some f = sym g.1 ∙ e in cc in
    false≢true (ap is_held (sym (ap (λ (z : PortState). z.spot) same ∙ d)) ∙ g.2)

alive : (p : ℕ) (a : Act) (o : Option PortState) (f : PortState) → Needs p a o → MakesNew a o → o ≡ Some f → f.spot ≡ Ended → ⊥
alive p (Make q b n) o f h new e d = none_some f (sym new ∙ e)
alive p (Arrive q hop) o f h new e d =
    let g = coming p hop o h in
    let same : g.0 ≡ f = let both : Some g.0 ≡ Some f = sym g.1 ∙ e in cc in
    false≢true (ap is_moving (sym (ap (λ (z : PortState). z.spot) same ∙ d)) ∙ g.2)
alive p _ o f h new e d = held_alive p o f h e d

ended_spot : (o : Option PortState) (port : List Entry) (xs : List MsgId) → LineIs o port → discarded port ≡ Some xs → (f : PortState) × (o ≡ Some f) × (f.spot ≡ Ended)
ended_spot None port xs h e = none_some xs (ap discarded (sym h) ∙ e)
ended_spot (Some f) port xs h e =
    (f, refl, (discards_spot f.spot (discarded port) xs (drop f.taken f.accepted) h.over e).0)

-- no entry comes behind the Delete of a port
ends_line : (l : Layout) (past : List Entry) (e : Entry) (q : Ui) (xs : List MsgId) → IsLayout l → is_legal l (e ∷ past) ≡ true → discarded (on q past) ≡ Some xs → is_on (Some q) e ≡ true → ⊥
ends_line l past e q xs i h d t =
    let two = legal_parts l e past h in
    let m = on_is q (held_port_of e.act) t in
    let line = legal_line l past q i two.1 in
    let f = ended_spot (fate (on q past)) (on q past) xs line.0 d in
    alive e.place e.act (fate (on q past)) f.0
    (needs l past e.clock e.place e.seat e.act q m two.0)
    (makes_new l past e.place e.seat e.act q i line.1 m two.0)
    f.1 f.2

pub ends_with_delete : EndsWithDelete
ends_with_delete l [] past q xs i h d = refl
ends_with_delete l (e ∷ newer) past q xs i h d =
    let old = ends_with_delete l newer past q xs i (legal_parts l e (newer ++ past) h).1 d in
    elim (cases_Bool (is_on (Some q) e)) [
      | inl t ↦ absurd (ends_line l (newer ++ past) e q xs i h (ap discarded old ∙ d) t)
      | inr n ↦ skips (is_on (Some q)) e (newer ++ past) n ∙ old
    ]
