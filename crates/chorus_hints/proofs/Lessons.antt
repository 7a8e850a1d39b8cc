-- What a lesson, and so a list of them, leaves of the pair of each port.
use Rattle.std.proofs.Common.{◌≡◌, ◌⊎◌, inl, inr, ℕ, ◌<◌, ◌≤◌, nat_lt, Bool, true, false, ◌&&◌, if◌then◌else◌, Option, Some, None, List, [], ◌∷◌, ◌++◌, refl, sym, ◌∙◌, ap, arith}
use Rattle.std.proofs.lemmas.Bool.Decides.{nat_tests}
use Rattle.chorus_ui.specs.declared.layout.Layout.{Layout}
use Rattle.chorus_ui.specs.declared.ui.Ui.{Ui}
use Rattle.chorus_ui.specs.Name.{same_ui}
use Rattle.chorus_ui.proofs.Names.{from_same_ui, same_ui-self}
use Rattle.chorus_hints.specs.Known.{newest_of, hop_of, learned}
use Rattle.chorus_hints.specs.Lessons.{Lesson, after, WasLearned, WasKeptOrLearned, IsMadeOrLearned}

-- the pair of a port after a lesson, by whether the lesson is farther and of this port
pub record Outcome (port : Ui) (place hop : ℕ) (pairs : Ui → Option (ℕ × ℕ)) (q : Ui) (now : Option (ℕ × ℕ)) : Type 0 where
  pub rises : hop_of (pairs q) ≤ hop_of now
  pub first : hop_of now ≡ hop_of (pairs q) → now ≡ pairs q
  pub covers : port ≡ q → hop ≤ hop_of now

pub learned-outcome : (port : Ui) (place hop : ℕ) (pairs : Ui → Option (ℕ × ℕ)) (q : Ui) → Outcome port place hop pairs q (learned port place hop pairs q)
learned-outcome port place hop pairs q = by (nat_lt (hop_of (pairs port)) hop) (same_ui port q) refl refl
  where
    by : (b s : Bool) → nat_lt (hop_of (pairs port)) hop ≡ b → same_ui port q ≡ s → Outcome port place hop pairs q (if b && s then Some (place, hop) else pairs q)
    by true true eb es =
        let far : hop_of (pairs port) < hop = grind (arith, nat_tests, eb) in
        let here : hop_of (pairs port) ≡ hop_of (pairs q) = ap (λ u. hop_of (pairs u)) (from_same_ui port q es) in
        record { rises = omega (arith, far, here); first = λ e. absurd (omega (arith, far, here, e)); covers = λ e. omega arith }
    by true false eb es =
        record {
          rises = omega arith;
          first = λ e. refl;
          covers = λ e. absurd (let own : same_ui port q ≡ true = ap (same_ui port) (sym e) ∙ same_ui-self port in let differ : true ≡ false = sym own ∙ es in cc);
        }
    by false s eb es =
        let near : hop ≤ hop_of (pairs port) = grind (arith, nat_tests, eb) in
        record { rises = omega arith; first = λ e. refl; covers = λ e. omega (arith, near, ap (λ u. hop_of (pairs u)) e) }

pub never_falls : (pairs : Ui → Option (ℕ × ℕ)) (lessons : List Lesson) (q : Ui) → hop_of (pairs q) ≤ hop_of (after lessons pairs q)
never_falls pairs [] q = omega arith
never_falls pairs (l ∷ ls) q =
    let on = never_falls (learned l.port l.place l.hop pairs) ls q in
    omega (arith, on, (learned-outcome l.port l.place l.hop pairs q).rises)

pub farthest : (pairs : Ui → Option (ℕ × ℕ)) (earlier later : List Lesson) (l : Lesson) → l.hop ≤ hop_of (after (earlier ++ l ∷ later) pairs l.port)
farthest pairs [] later l =
    let on = never_falls (learned l.port l.place l.hop pairs) later l.port in
    omega (arith, on, (learned-outcome l.port l.place l.hop pairs l.port).covers refl)
farthest pairs (e ∷ es) later l = farthest (learned e.port e.place e.hop pairs) es later l

pub first_stays : (pairs : Ui → Option (ℕ × ℕ)) (lessons : List Lesson) (q : Ui) → hop_of (after lessons pairs q) ≡ hop_of (pairs q) → after lessons pairs q ≡ pairs q
first_stays pairs [] q e = refl
first_stays pairs (l ∷ ls) q e =
    let one = learned-outcome l.port l.place l.hop pairs q in
    let on = never_falls (learned l.port l.place l.hop pairs) ls q in
    let same : hop_of (learned l.port l.place l.hop pairs q) ≡ hop_of (pairs q) = omega (arith, e, on, one.rises) in
    first_stays (learned l.port l.place l.hop pairs) ls q (e ∙ sym same) ∙ one.first same

-- What is kept was kept at first, or learned.

learned_after : (port : Ui) (place hop : ℕ) (pairs : Ui → Option (ℕ × ℕ)) (later : List Lesson) (q : Ui) (pair : ℕ × ℕ) → learned port place hop pairs q ≡ Some pair
    → (pairs q ≡ Some pair) ⊎ WasLearned (record { port = port; place = place; hop = hop } ∷ later) q pair
learned_after port place hop pairs later q pair = by (nat_lt (hop_of (pairs port)) hop) (same_ui port q) refl
  where
    by : (b s : Bool) → same_ui port q ≡ s → (if b && s then Some (place, hop) else pairs q) ≡ Some pair → (pairs q ≡ Some pair) ⊎ WasLearned (record { port = port; place = place; hop = hop } ∷ later) q pair
    by true true es h =
        inr (record { earlier = []; lesson = record { port = port; place = place; hop = hop }; later = later; among = refl; of_port = from_same_ui port q es; is = cc })
    by true false es h = inl h
    by false s es h = inl h

one_later : (l : Lesson) (lessons : List Lesson) (q : Ui) (pair : ℕ × ℕ) → WasLearned lessons q pair → WasLearned (l ∷ lessons) q pair
one_later l lessons q pair w =
    record { earlier = l ∷ w.earlier; lesson = w.lesson; later = w.later; among = ap (λ ls. l ∷ ls) w.among; of_port = w.of_port; is = w.is }

pair_learned : (pairs : Ui → Option (ℕ × ℕ)) (lessons : List Lesson) (q : Ui) (pair : ℕ × ℕ) → after lessons pairs q ≡ Some pair → (pairs q ≡ Some pair) ⊎ WasLearned lessons q pair
pair_learned pairs [] q pair h = inl h
pair_learned pairs (l ∷ ls) q pair h =
    elim (pair_learned (learned l.port l.place l.hop pairs) ls q pair h) [
      | inl now ↦ learned_after l.port l.place l.hop pairs ls q pair now
      | inr later ↦ inr (one_later l ls q pair later)
    ]

none_learned : (pairs : Ui → Option (ℕ × ℕ)) (lessons : List Lesson) (q : Ui) → after lessons pairs q ≡ None → pairs q ≡ None
none_learned pairs [] q h = h
none_learned pairs (l ∷ ls) q h = by (nat_lt (hop_of (pairs l.port)) l.hop && same_ui l.port q) (none_learned (learned l.port l.place l.hop pairs) ls q h)
  where
    by : (b : Bool) → (if b then Some (l.place, l.hop) else pairs q) ≡ None → pairs q ≡ None
    by true e = absurd (cc)
    by false e = e

pub was_learned : (pairs : Ui → Option (ℕ × ℕ)) (lessons : List Lesson) (q : Ui) → WasKeptOrLearned pairs lessons q (after lessons pairs q)
was_learned pairs lessons q = by (after lessons pairs q) refl
  where
    by : (o : Option (ℕ × ℕ)) → after lessons pairs q ≡ o → WasKeptOrLearned pairs lessons q o
    by None e = none_learned pairs lessons q e
    by (Some pair) e = pair_learned pairs lessons q pair e

pub made_or_learned : (layout : Layout) (lessons : List Lesson) (q : Ui) → IsMadeOrLearned layout lessons q (newest_of layout q (after lessons (λ r. None) q))
made_or_learned layout lessons q = by (after lessons (λ r. None) q) refl
  where
    by : (o : Option (ℕ × ℕ)) → after lessons (λ r. None) q ≡ o → IsMadeOrLearned layout lessons q (newest_of layout q o)
    by None e = inl refl
    by (Some pair) e =
        elim (pair_learned (λ r. None) lessons q pair e) [
          | inl kept ↦ absurd (cc)
          | inr learned ↦ inr learned
        ]

second-newest_of : (layout : Layout) (q : Ui) (o : Option (ℕ × ℕ)) → hop_of o ≡ (newest_of layout q o).1
second-newest_of layout q None = refl
second-newest_of layout q (Some pair) = refl

-- the newest place of a port after a lesson: that of the lesson, where it is of this port and its hop is greater
pub newest-learned : (layout : Layout) (port : Ui) (place hop : ℕ) (pairs : Ui → Option (ℕ × ℕ)) (q : Ui) → newest_of layout q (learned port place hop pairs q) ≡ (if same_ui port q && nat_lt (newest_of layout q (pairs q)).1 hop then (place, hop) else newest_of layout q (pairs q))
newest-learned layout port place hop pairs q = by (nat_lt (hop_of (pairs port)) hop) (same_ui port q) refl refl
  where
    choice : (b t : Bool) → t ≡ b → newest_of layout q (if b && true then Some (place, hop) else pairs q) ≡ (if true && t then (place, hop) else newest_of layout q (pairs q))
    choice true true e = refl
    choice true false e = absurd (cc)
    choice false true e = absurd (cc)
    choice false false e = refl

    by : (b s : Bool) → nat_lt (hop_of (pairs port)) hop ≡ b → same_ui port q ≡ s → newest_of layout q (if b && s then Some (place, hop) else pairs q) ≡ (if s && nat_lt (newest_of layout q (pairs q)).1 hop then (place, hop) else newest_of layout q (pairs q))
    by b true eb es =
        choice b _
        (ap (λ n. nat_lt n hop) (sym (second-newest_of layout q (pairs q)) ∙ ap (λ u. hop_of (pairs u)) (sym (from_same_ui port q es))) ∙ eb)
    by true false eb es = refl
    by false false eb es = refl
