-- What is so of each port in every legal past, and that each entry that may come next keeps it.
use Rattle.std.proofs.Common.{ℕ, ◌≡◌, ◌≢◌, ◌+◌, ◌-◌, ◌*◌, ◌%◌, ◌<◌, ◌≤◌, zero, suc, inl, inr, Bool, true, false, cond, List, ◌∷◌, Option, Some, None, refl, sym, ◌∙◌, ap, subst, arith, add-mul, one-mul, mul-le-mul_right}
use Rattle.std.specs.List.{slice_get}
use Rattle.std.proofs.lemmas.Bool.{eq-eqb, cases_Bool, false≢true, true≢false, false_from_ne_true}
use Rattle.chorus_ui.specs.declared.ui.Ui.{Ui}
use Rattle.chorus_ui.specs.declared.layout.Layout.{Layout}
use Rattle.chorus_ui.specs.Name.{same_ui}
use Rattle.chorus_ui.specs.Layout.{IsLayout, place_at, creation_place}
use Rattle.chorus_ui.proofs.Names.{from_same_ui, same_ui-self}
use Rattle.chorus_entry.specs.declared.entry.Entry.{Entry}
use Rattle.chorus_entry.specs.declared.act.Act.{Act}
use Rattle.chorus_entry.specs.declared.act.Act.TheVariants.{Make, Rehome, Depart, Arrive, Delete}
use Rattle.chorus_world.specs.declared.spot.Spot.{Spot}
use Rattle.chorus_world.specs.Views.{at, on, is_on}
use Rattle.chorus_entry.specs.Order.{is_at}
use Rattle.chorus_world.specs.Ports.{PortState, fate, fate_after}
use Rattle.chorus_world.specs.Places.{is_deleted, located, learned, farther, ports_made, ports_after}
use Rattle.chorus_world.specs.Steps.{next_number}
use Rattle.chorus_world.specs.LocationLaws.{path_of}
use Rattle.chorus_world.proofs.Steps.LegalLemmas.{entry, under, cond_same}
use Rattle.chorus_world.proofs.Sorted.Local.{is_kept, kept_after, deleted_after}
use Rattle.chorus_world.proofs.Ports.Whereabouts.{Facts, facts_same}

abbrev pub spot_in : Option PortState → Option Spot
spot_in None = None
spot_in (Some f) = Some f.spot

abbrev pub next_at_home : Layout → Ui → List Entry → ℕ
next_at_home l q past = next_number l (creation_place l q) (at (creation_place l q) past)

abbrev pub PortFacts : Layout → List Entry → Ui → Type 0
PortFacts l past q =
    Facts q (spot_in (fate (on q past))) (path_of l q (fate (on q past))) (λ p. is_kept q (at p past)) (λ p. is_deleted q (at p past)) (λ p. located l q (at p past)) (next_at_home l q past)

-- the port was at the place p with its n-th hop
abbrev pub Known : Layout → List Entry → Ui → ℕ → ℕ → Type 0
Known l past q n p = slice_get (path_of l q (fate (on q past))) n ≡ Some p

-- The numbers that a place gives.

next_more : (n t k : ℕ) → 1 ≤ t → n * t + k + 1 < (n + 1) * t + k + 1
next_more n t k h =
    let e : (n + 1) * t ≡ n * t + t = add-mul n 1 t ∙ ap (λ z. n * t + z) (one-mul t) in omega arith

next_grows : (n m t k : ℕ) → n ≤ m → n * t + k + 1 ≤ m * t + k + 1
next_grows n m t k h = let e : n * t ≤ m * t = mul-le-mul_right t h in omega arith

place_again : (t u v n p : ℕ) → 1 ≤ t → t ≤ 4 → t ≢ 3 → p ≡ u * t + 1 + v % t → u * t + 1 + (n * t + (p - 1) % t + 1 - 1) % t ≡ p
place_again zero u v n p a b c e = absurd (omega arith)
place_again (suc zero) u v n p a b c e = omega arith
place_again (suc (suc zero)) u v n p a b c e = omega arith
place_again (suc (suc (suc zero))) u v n p a b c e = absurd (c refl)
place_again (suc (suc (suc (suc zero)))) u v n p a b c e = omega arith
place_again (suc (suc (suc (suc (suc t))))) u v n p a b c e = absurd (omega arith)

-- a port is made at the place where its name puts it
pub made_at : (l : Layout) (a r : Ui) (p n : ℕ) → IsLayout l → place_at l a.site a ≡ p → r.site ≡ a.site → r.number ≡ n * l.turns + (p - 1) % l.turns + 1 → creation_place l r ≡ p
made_at l a r p n layout home site number =
    ap (λ z. (z - 1) * l.turns + 1 + (r.number - 1) % l.turns) site
    ∙ (ap (λ z. (a.site - 1) * l.turns + 1 + (z - 1) % l.turns) number
    ∙ place_again l.turns (a.site - 1) (a.number - 1) n p layout.turns_from_one layout.turns_to_four layout.turns_not_three (sym home))

ports_after_grows : (a : Act) (n : ℕ) → n ≤ ports_after a n
ports_after_grows (Make q b c) n = omega arith
ports_after_grows _ n = omega arith

ports_choice : (b : Bool) (a : Act) (n : ℕ) → n ≤ cond b (ports_after a n) n
ports_choice true a n = ports_after_grows a n
ports_choice false a n = omega arith

ports_grow : (e : Entry) (past : List Entry) (p : ℕ) → ports_made (at p past) ≤ ports_made (at p (e ∷ past))
ports_grow e past p =
    subst (λ n. ports_made (at p past) ≤ n) (sym (under ports_made (is_at p e) (e ∷ at p past) (at p past)))
    (ports_choice (is_at p e) e.act (ports_made (at p past)))

pub number_grows : (l : Layout) (q : Ui) (e : Entry) (past : List Entry) → next_at_home l q past ≤ next_at_home l q (e ∷ past)
number_grows l q e past =
    next_grows (ports_made (at (creation_place l q) past)) (ports_made (at (creation_place l q) (e ∷ past))) l.turns ((creation_place l q - 1) % l.turns) (ports_grow e past (creation_place l q))

-- the number of a port that is made is below the next one
pub number_made : (l : Layout) (past : List Entry) (c p s : ℕ) (r a : Ui) (n : ℕ) (q : Ui) → IsLayout l → creation_place l q ≡ p → q.number ≡ next_number l p (at p past) → q.number < next_at_home l q (entry c p s (Make r a n) ∷ past)
number_made l past c p s r a n q layout home number =
    let e = entry c p s (Make r a n) in
    let one : next_number l p (at p (e ∷ past)) ≡ next_number l p (e ∷ at p past) = ap (λ b. next_number l p (cond b (e ∷ at p past) (at p past))) (eq-eqb p p refl) in
    let lt : next_number l p (at p past) < next_number l p (e ∷ at p past) = next_more (ports_made (at p past)) l.turns ((p - 1) % l.turns) layout.turns_from_one in
    subst (λ z. q.number < next_number l z (at z (e ∷ past))) (sym home) (subst (λ z. q.number < z) (sym one) (omega arith))

-- Entries that do not move a port.

abbrev pub is_still : Act → Bool
is_still (Make q a c) = false
is_still (Rehome q a) = false
is_still (Depart q to a hop) = false
is_still (Arrive q hop) = false
is_still (Delete q xs) = false
is_still _ = true

pub spot_still : (p : ℕ) (a : Act) (o : Option PortState) → is_still a ≡ true → spot_in (fate_after p a o) ≡ spot_in o
spot_still p (Make q b c) o h = absurd (false≢true h)
spot_still p (Rehome q b) o h = absurd (false≢true h)
spot_still p (Depart q to b hop) o h = absurd (false≢true h)
spot_still p (Arrive q hop) o h = absurd (false≢true h)
spot_still p (Delete q xs) o h = absurd (false≢true h)
spot_still p a None h = refl
spot_still p a (Some f) h = refl

pub path_still : (l : Layout) (q : Ui) (p : ℕ) (a : Act) (o : Option PortState) → is_still a ≡ true → path_of l q (fate_after p a o) ≡ path_of l q o
path_still l q p (Make r b c) o h = absurd (false≢true h)
path_still l q p (Rehome r b) o h = absurd (false≢true h)
path_still l q p (Depart r to b hop) o h = absurd (false≢true h)
path_still l q p (Arrive r hop) o h = absurd (false≢true h)
path_still l q p (Delete r xs) o h = absurd (false≢true h)
path_still l q p a None h = refl
path_still l q p a (Some f) h = refl

kept_still : (q : Ui) (a : Act) (b : Bool) → is_still a ≡ true → kept_after q a b ≡ b
kept_still q (Make r d c) b h = absurd (false≢true h)
kept_still q (Depart r to d hop) b h = absurd (false≢true h)
kept_still q (Arrive r hop) b h = absurd (false≢true h)
kept_still q (Delete r xs) b h = absurd (false≢true h)
kept_still q a b h = refl

deleted_still : (q : Ui) (a : Act) (b : Bool) → is_still a ≡ true → deleted_after q a b ≡ b
deleted_still q (Delete r xs) b h = absurd (false≢true h)
deleted_still q a b h = refl

pub still : (l : Layout) (past : List Entry) (q : Ui) (e : Entry) → is_still e.act ≡ true → ((here : List Entry) → learned q e.place here e.act ≡ None) → PortFacts l past q → PortFacts l (e ∷ past) q
still l past q e h hl f =
    let o = fate (on q past) in
    let b = is_on (Some q) e in
    facts_same f
    (sym (under (λ es. spot_in (fate es)) b (e ∷ on q past) (on q past) ∙ cond_same b (spot_in (fate_after e.place e.act o)) (spot_in o) (λ _. spot_still e.place e.act o h)))
    (sym (under (λ es. path_of l q (fate es)) b (e ∷ on q past) (on q past) ∙ cond_same b (path_of l q (fate_after e.place e.act o)) (path_of l q o) (λ _. path_still l q e.place e.act o h)))
    (λ p. under (is_kept q) (is_at p e) (e ∷ at p past) (at p past) ∙ cond_same (is_at p e) (kept_after q e.act (is_kept q (at p past))) (is_kept q (at p past)) (λ _. kept_still q e.act (is_kept q (at p past)) h))
    (λ p. under (is_deleted q) (is_at p e) (e ∷ at p past) (at p past) ∙ cond_same (is_at p e) (deleted_after q e.act (is_deleted q (at p past))) (is_deleted q (at p past)) (λ _. deleted_still q e.act (is_deleted q (at p past)) h))
    (λ p. under (located l q) (is_at p e) (e ∷ at p past) (at p past) ∙ cond_same (is_at p e) (farther (located l q (at p past)) (learned q e.place (at p past) e.act)) (located l q (at p past)) (λ _. ap (λ m. farther (located l q (at p past)) m) (hl (at p past))))
    (number_grows l q e past)

-- Entries on the line of the port, or of another port.

-- what is so of the port behind an entry on its line
pub moved : (l : Layout) (past : List Entry) (q : Ui) (e : Entry) → is_on (Some q) e ≡ true → Facts q (spot_in (fate_after e.place e.act (fate (on q past)))) (path_of l q (fate_after e.place e.act (fate (on q past)))) (λ r. cond (is_at r e) (kept_after q e.act (is_kept q (at r past))) (is_kept q (at r past))) (λ r. cond (is_at r e) (deleted_after q e.act (is_deleted q (at r past))) (is_deleted q (at r past))) (λ r. cond (is_at r e) (farther (located l q (at r past)) (learned q e.place (at r past) e.act)) (located l q (at r past))) (next_at_home l q (e ∷ past)) → PortFacts l (e ∷ past) q
moved l past q e t f =
    facts_same f
    (ap (λ b. spot_in (fate (cond b (e ∷ on q past) (on q past)))) (sym t))
    (ap (λ b. path_of l q (fate (cond b (e ∷ on q past) (on q past)))) (sym t))
    (λ p. under (is_kept q) (is_at p e) (e ∷ at p past) (at p past))
    (λ p. under (is_deleted q) (is_at p e) (e ∷ at p past) (at p past))
    (λ p. under (located l q) (is_at p e) (e ∷ at p past) (at p past))
    (omega arith)

-- an entry on the line of another port
pub other : (l : Layout) (past : List Entry) (q : Ui) (e : Entry) → is_on (Some q) e ≡ false → ((b : Bool) → kept_after q e.act b ≡ b) → ((b : Bool) → deleted_after q e.act b ≡ b) → ((here : List Entry) → learned q e.place here e.act ≡ None) → PortFacts l past q → PortFacts l (e ∷ past) q
other l past q e n hk hd hl f =
    facts_same f
    (ap (λ b. spot_in (fate (cond b (e ∷ on q past) (on q past)))) (sym n))
    (ap (λ b. path_of l q (fate (cond b (e ∷ on q past) (on q past)))) (sym n))
    (λ p. under (is_kept q) (is_at p e) (e ∷ at p past) (at p past) ∙ cond_same (is_at p e) (kept_after q e.act (is_kept q (at p past))) (is_kept q (at p past)) (λ _. hk (is_kept q (at p past))))
    (λ p. under (is_deleted q) (is_at p e) (e ∷ at p past) (at p past) ∙ cond_same (is_at p e) (deleted_after q e.act (is_deleted q (at p past))) (is_deleted q (at p past)) (λ _. hd (is_deleted q (at p past))))
    (λ p. under (located l q) (is_at p e) (e ∷ at p past) (at p past) ∙ cond_same (is_at p e) (farther (located l q (at p past)) (learned q e.place (at p past) e.act)) (located l q (at p past)) (λ _. ap (λ m. farther (located l q (at p past)) m) (hl (at p past))))
    (number_grows l q e past)

-- the two names are one, or neither test says so
pub same_or_not : (q r : Ui) → (P : Type 0) → (q ≡ r → same_ui q r ≡ true → same_ui r q ≡ true → P) → (same_ui q r ≡ false → same_ui r q ≡ false → P) → P
same_or_not q r P yes_case no_case =
    elim (cases_Bool (same_ui q r)) [
      | inl t ↦ (
          let e : q ≡ r = from_same_ui q r t in
          yes_case e t (subst (λ z. same_ui z q ≡ true) e (same_ui-self q)))
      | inr n ↦ no_case n (false_from_ne_true (same_ui r q) (λ t. true≢false (sym (subst (λ z. same_ui q z ≡ true) (sym (from_same_ui r q t)) (same_ui-self q)) ∙ n)))
    ]
