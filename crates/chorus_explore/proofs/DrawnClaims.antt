-- Claims asked on drawn histories.
-- c is a scenario, r is its race, k is a claim, j what was found of it, xs and ys are histories, ms is one, at, one and two give where a
-- claim is asked, d is a drawing, front are the histories that it drew, x is what the generator has come to.
use Rattle.std.proofs.Common.{ℕ, zero, suc, ◌≡◌, ◌+◌, ◌-◌, ◌*◌, ◌<◌, ◌≤◌, ◌==◌, ◌||◌, Bool, true, false, cond, List, [], ◌∷◌, ◌++◌, length, map, take, reverse, sum_by, Option, Some, None, slice_get, ◌⊎◌, inl, inr, refl, sym, ◌∙◌, ap, ap₂, subst, arith, append_assoc}
use Rattle.std.specs.List.{All, flat_map}
use Rattle.std.specs.Option.{option_map}
use Rattle.std.proofs.lemmas.Bool.{cases_lt, eqb-true, false≢true}
use Rattle.std.proofs.lemmas.List.{append-nil, length-append}
use Rattle.std.proofs.lemmas.List.Concat.{flat_map-append, flat_map-cons}
use Rattle.std.proofs.lemmas.List.Sums.{sum_by-append, sum_by-cons}
use Rattle.std.proofs.lemmas.Option.{slice_get-map}
use Rattle.std.proofs.Math.Seq.{take-append_seam}
use Rattle.law_explore.specs.declared.moves.Move.{Move}
use Rattle.law_explore.specs.Positions.{next_behind}
use Rattle.law_explore.specs.Races.{IsWhole, replaying}
use Rattle.law_explore.specs.Search.{IsHistory}
use Rattle.law_replay.specs.Shown.{race_of}
use Rattle.chorus_claims.specs.Pieces.{Claim, meets}
use Rattle.chorus_draw.specs.Draws.{next_state, number_of}
use Rattle.chorus_scene.specs.Scene.{Scene}
use Rattle.chorus_scene.specs.declared.limits.TheConstants.{STEPS_LIMIT}
use Rattle.explore_report.specs.declared.explored.Explored.{Explored}
use Rattle.explore_report.specs.declared.judgements.Judgement.{Judgement}
use Rattle.explore_report.specs.declared.judgements.Judgement.TheVariants.{Met, Failed}
use Rattle.explore_report.specs.Judgements.{KeepFirst, has_failed, is_asked_at, unmet_at, unmet_in, unmet_with}
use Rattle.explore_report.proofs.Judging.{get-below, has-some}
use Rattle.chorus_explore.specs.declared.drawing.Drawing.{Drawing}
use Rattle.chorus_explore.specs.Checked.{IsAsked, Verdict, Holds, Fails, Open, facts_behind, facts_in, verdict_of, verdicts_of}
use Rattle.chorus_explore.specs.Drawings.{AreAsked, Asks, DrawsOne, also, asked_here, one_drawn}
use Rattle.chorus_explore.specs.Drawn.{ChecksDrawn, asked_on, drawn_from, drawn_histories, drawn_verdict, first_unmet, has_ended, moments, move_by, said_by}
use Rattle.chorus_explore.specs.declared.race_sites.Stage.{Stage}
use Rattle.chorus_explore.specs.Stages.{AreFresh, IsReached, facts_at, moves_of}
use Rattle.chorus_explore.proofs.DrawnHistories.{LeadsOn, drawn-history, drawn-short, histories-go, leads-on, no-histories}
use Rattle.chorus_explore.proofs.Searching.{some-is}

all-at : (P : Judgement → Type 0) (js : List Judgement) (i : ℕ) (j : Judgement) → slice_get js i ≡ Some j → All P js → P j
all-at P [] i j at all = absurd (cc)
all-at P (x ∷ js) zero j at all = subst P (some-is x j at) (all 0 x (omega arith))
all-at P (x ∷ js) (suc i) j at all = all-at P js i j at (λ n z lt. all (suc n) z (omega (arith, lt)))

abbrev start-alone : List (List Move)
start-alone = [] ∷ []

-- a moment is an end where no move is left
pub is-end : (moves : List Move) (n : ℕ) → n ≡ length moves → (n == 0) ≡ has_ended moves
is-end [] n e = ap (λ k. k == 0) e
is-end (m ∷ moves) n e = by (n == 0) refl
  where
    by : (b : Bool) → (n == 0) ≡ b → (n == 0) ≡ false
    by true is = absurd (let none = eqb-true n 0 is in omega (arith, none, e))
    by false is = is

module _ (c : Scene) where
  pub drawn-length : (x : ℕ) (ms : List Move) (to : ℕ) → one_drawn c x ≡ (ms, to) → length ms ≤ STEPS_LIMIT
  drawn-length x ms to is =
      let short = drawn-short (race_of c) STEPS_LIMIT [] x in
      let same = ap (λ (p : List Move × ℕ). length p.0) is in
      omega (arith, short, same)

  abbrev with_facts : Option (List Move) → Option (List Move × List ℕ)
  with_facts o = option_map (λ (ms : List Move). (ms, facts_at c ms)) o

  -- Where a claim is asked on a history: move by move.

  module _ (k : Claim) where
    -- what is found at one moment more
    one-more : (xs : List (List Move)) (h : List Move) → unmet_with k (facts_at c h) h (with_facts (first_unmet c k xs)) ≡ with_facts (first_unmet c k (xs ++ h ∷ []))
    one-more [] h = by (meets k (facts_at c h))
      where
        by : (b : Bool) → cond b None (Some (h, facts_at c h)) ≡ with_facts (cond b None (Some h))
        by true = refl
        by false = refl
    one-more (x ∷ xs) h = by (meets k (facts_at c x)) (one-more xs h)
      where
        by : (b : Bool) → unmet_with k (facts_at c h) h (with_facts (first_unmet c k xs)) ≡ with_facts (first_unmet c k (xs ++ h ∷ []))
            → unmet_with k (facts_at c h) h (with_facts (cond b (first_unmet c k xs) (Some x))) ≡ with_facts (cond b (first_unmet c k (xs ++ h ∷ [])) (Some x))
        by true ih = ih
        by false ih = refl

    found-here : (is_end : Bool) (h : List Move) (xs : List (List Move))
        → unmet_at is_end k (facts_at c h) h (with_facts (first_unmet c k xs)) ≡ with_facts (first_unmet c k (xs ++ asked_here is_end h k))
    found-here is_end h xs = by (is_asked_at is_end k)
      where
        by : (b : Bool) → cond b (unmet_with k (facts_at c h) h (with_facts (first_unmet c k xs))) (with_facts (first_unmet c k xs))
            ≡ with_facts (first_unmet c k (xs ++ cond b (h ∷ []) []))
        by true = one-more xs h
        by false = ap (λ zs. with_facts (first_unmet c k zs)) (sym (append-nil xs))

    -- the first that was found stays the first
    still-first : (xs ys : List (List Move)) (ms : List Move) → first_unmet c k xs ≡ Some ms → first_unmet c k (xs ++ ys) ≡ Some ms
    still-first [] ys ms e = absurd (cc)
    still-first (x ∷ xs) ys ms e = by (meets k (facts_at c x)) e (still-first xs ys ms)
      where
        by : (b : Bool) → cond b (first_unmet c k xs) (Some x) ≡ Some ms → (first_unmet c k xs ≡ Some ms → first_unmet c k (xs ++ ys) ≡ Some ms)
            → cond b (first_unmet c k (xs ++ ys)) (Some x) ≡ Some ms
        by true f ih = ih f
        by false f ih = f

    -- each of these is where the claim is asked
    abbrev Every : List (List Move) → Type 0
    Every [] = Unit {0}
    Every (x ∷ xs) = IsAsked c k x × Every xs

    every-append : (xs ys : List (List Move)) → Every xs → Every ys → Every (xs ++ ys)
    every-append [] ys a b = b
    every-append (x ∷ xs) ys a b = (a.0, every-append xs ys a.1 b)

    failing : (xs : List (List Move)) (ms : List Move) → Every xs → first_unmet c k xs ≡ Some ms → IsAsked c k ms × (meets k (facts_at c ms) ≡ false)
    failing [] ms all e = absurd (cc)
    failing (x ∷ xs) ms all e = by (meets k (facts_at c x)) refl e (failing xs ms all.1)
      where
        by : (b : Bool) → meets k (facts_at c x) ≡ b → cond b (first_unmet c k xs) (Some x) ≡ Some ms
            → (first_unmet c k xs ≡ Some ms → IsAsked c k ms × (meets k (facts_at c ms) ≡ false)) → IsAsked c k ms × (meets k (facts_at c ms) ≡ false)
        by true met f ih = ih f
        by false met f ih =
            let is = some-is x ms f in
            subst (λ (h : List Move). IsAsked c k h × (meets k (facts_at c h) ≡ false)) is (all.0, met)

    abbrev Is : Bool → List Move → Type 0
    Is throughout ms = cond throughout (IsHistory (replaying (race_of c)) ms) (IsWhole (race_of c) ms)

    abbrev EveryIs : Bool → List (List Move) → Type 0
    EveryIs throughout [] = Unit {0}
    EveryIs throughout (x ∷ xs) = Is throughout x × EveryIs throughout xs

    as-every : (xs : List (List Move)) → EveryIs k.throughout xs → Every xs
    as-every [] all = tt
    as-every (x ∷ xs) all = (all.0, as-every xs all.1)

    more-moments : (xs : List (List Move)) (ms : List Move) → EveryIs true xs → IsHistory (replaying (race_of c)) ms → EveryIs true (xs ++ ms ∷ [])
    more-moments [] ms all h = (h, tt)
    more-moments (x ∷ xs) ms all h = (all.0, more-moments xs ms all.1 h)

    every-moment : (ms : List Move) → IsHistory (replaying (race_of c)) ms → EveryIs true (moments ms)
    every-moment [] h = (tt, tt)
    every-moment (m ∷ ms) h = more-moments (moments ms) (m ∷ ms) (every-moment ms h.1) h

    no-move : (moves : List Move) → has_ended moves ≡ true → moves ≡ []
    no-move [] e = refl
    no-move (m ∷ moves) e = absurd (false≢true e)

    on-history : (ms : List Move) → IsHistory (replaying (race_of c)) ms → Every (asked_on (race_of c) k ms)
    on-history ms h = as-every (asked_on (race_of c) k ms) (by k.throughout)
      where
        at-end : (b : Bool) → has_ended (next_behind (race_of c) ms) ≡ b → EveryIs false (cond b (ms ∷ []) [])
        at-end true e = ((h, no-move (next_behind (race_of c) ms) e), tt)
        at-end false e = tt

        by : (b : Bool) → EveryIs b (cond b (moments ms) (cond (has_ended (next_behind (race_of c) ms)) (ms ∷ []) []))
        by true = every-moment ms h
        by false = at-end (has_ended (next_behind (race_of c) ms)) refl

    on-histories : (most count x : ℕ) → Every (flat_map (asked_on (race_of c) k) (drawn_histories (race_of c) most count x))
    on-histories most zero x = subst (λ hs. Every (flat_map (asked_on (race_of c) k) hs)) (sym (no-histories (race_of c) most x)) tt
    on-histories most (suc count) x =
        let r = race_of c in
        let one = drawn_from r most [] x in
        subst (λ hs. Every (flat_map (asked_on r k) hs)) (sym (histories-go r most count x))
        (subst Every (sym (flat_map-cons (asked_on r k) one.0 (drawn_histories r most count one.1)))
        (every-append (asked_on r k one.0) (flat_map (asked_on r k) (drawn_histories r most count one.1))
        (on-history one.0 (drawn-history r most [] x tt)) (on-histories most count one.1)))

  pub asked-first : (k : Claim) → asked_here (has_ended (next_behind (race_of c) [])) [] k ≡ asked_on (race_of c) k []
  asked-first k = by (has_ended (next_behind (race_of c) [])) k.throughout
    where
      by : (b t : Bool) → cond (b || t) start-alone [] ≡ cond t start-alone (cond b start-alone [])
      by true true = refl
      by true false = refl
      by false true = refl
      by false false = refl

  pub asked-more : (k : Claim) (m : Move) (ms : List Move) → has_ended (next_behind (race_of c) ms) ≡ false
      → asked_on (race_of c) k ms ++ asked_here (has_ended (next_behind (race_of c) (m ∷ ms))) (m ∷ ms) k ≡ asked_on (race_of c) k (m ∷ ms)
  asked-more k m ms e = by k.throughout (has_ended (next_behind (race_of c) (m ∷ ms))) (has_ended (next_behind (race_of c) ms)) e
    where
      by : (t b a : Bool) → a ≡ false
          → cond t (moments ms) (cond a (ms ∷ []) []) ++ cond (b || t) ((m ∷ ms) ∷ []) [] ≡ cond t (moments ms ++ (m ∷ ms) ∷ []) (cond b ((m ∷ ms) ∷ []) [])
      by true true a e = refl
      by true false a e = refl
      by false true false e = refl
      by false false false e = refl
      by false b true e = absurd (false≢true (sym e))

  -- The claims together.

  module _ (claims : List Claim) where
    same-asked : (at one : Claim → List (List Move)) (judged : List Judgement) → ((k : Claim) → at k ≡ one k) → AreAsked c claims at judged → AreAsked c claims one judged
    same-asked at one judged same was = record {
      many = was.many;
      each = λ i k j a b. was.each i k j a b ∙ ap (λ xs. with_facts (first_unmet c k xs)) (same k);
    }

    pub asks-same : (one two : Claim → List (List Move)) (old new : List Judgement) → ((k : Claim) → one k ≡ two k) → Asks c claims one old new → Asks c claims two old new
    asks-same one two old new same asks at was = same-asked (also at one) (also at two) new (λ k. ap (λ xs. at k ++ xs) (same k)) (asks at was)

    pub asks-then : (one two : Claim → List (List Move)) (old mid new : List Judgement) → Asks c claims one old mid → Asks c claims two mid new → Asks c claims (also one two) old new
    asks-then one two old mid new first then at was =
        same-asked (also (also at one) two) (also at (also one two)) new (λ k. append_assoc (at k) (one k) (two k)) (then (also at one) (first at was))

    pub asks-here : (is_end : Bool) (ms : List Move) (old new : List Judgement) → KeepFirst is_end claims (facts_at c ms) ms old new → Asks c claims (asked_here is_end ms) old new
    asks-here is_end ms old new keep at was = record {
      many = keep.many ∙ was.many;
      each = λ i k l claim is.
          (let within = get-below new i l is in
          let m = keep.many in
          let o = has-some old i (omega (arith, within, m)) in
          keep.each i k o.0 l claim o.1 is ∙ ap (unmet_at is_end k (facts_at c ms) ms) (was.each i k o.0 claim o.1) ∙ found-here k is_end ms (at k));
    }

    pub nothing-asked : (judged : List Judgement) → length judged ≡ length claims → All (λ (j : Judgement). unmet_in j ≡ None) judged → AreAsked c claims (λ k. []) judged
    nothing-asked judged many none = record { many = many; each = λ i k j a b. all-at (λ (x : Judgement). unmet_in x ≡ None) judged i j b none }

    -- A history, as far as it was followed.
    pub record IsFollowed (x i : ℕ) (old now : List Judgement) (moves : List Move) (y : ℕ) (s : Stage) : Type 0 where
      pub reached : IsReached c s
      pub asks : s.asks ≡ true
      pub items : moves ≡ next_behind (race_of c) (moves_of s)
      pub leads : LeadsOn (race_of c) x i (moves_of s) y
      pub asked : Asks c claims (λ k. asked_on (race_of c) k (moves_of s)) old now

    -- the start was come to
    pub follow-first : (x : ℕ) (old now : List Judgement) (moves : List Move) (s : Stage) → IsReached c s → s.asks ≡ true → moves_of s ≡ [] → moves ≡ next_behind (race_of c) []
        → Asks c claims (asked_here (has_ended moves) []) old now → IsFollowed x 0 old now moves x s
    follow-first x old now moves s reached asks none items here = record {
      reached = reached;
      asks = asks;
      items = items ∙ ap (next_behind (race_of c)) (sym none);
      leads = λ more. (let n : 0 + more ≡ more = omega arith in ap (λ i. drawn_from (race_of c) i [] x) n ∙ ap (λ ms. drawn_from (race_of c) more ms x) (sym none));
      asked = asks-same (asked_here (has_ended moves) []) (λ k. asked_on (race_of c) k (moves_of s)) old now
          (λ k. ap (λ ms. asked_here (has_ended ms) [] k) items ∙ asked-first k ∙ ap (asked_on (race_of c) k) (sym none)) here;
    }

    -- one move more
    pub follow-more : (x i : ℕ) (old now next : List Judgement) (moves more : List Move) (y z : ℕ) (s t : Stage) → IsFollowed x i old now moves y s → has_ended moves ≡ false
        → IsReached c t → t.asks ≡ true → z ≡ next_state y → moves_of t ≡ move_by moves (number_of z) ∷ moves_of s → more ≡ next_behind (race_of c) (moves_of t)
        → Asks c claims (asked_here (has_ended more) (moves_of t)) now next → IsFollowed x (i + 1) old next more z t
    follow-more x i old now next moves more y z s t was goes reached asks state go items here =
        let m = move_by moves (number_of z) in
        let going : has_ended (next_behind (race_of c) (moves_of s)) ≡ false = ap has_ended (sym was.items) ∙ goes in
        record {
          reached = reached;
          asks = asks;
          items = items;
          leads = leads-on (race_of c) x i (moves_of s) y was.leads going (moves_of t) z (go ∙ ap (λ ms. move_by ms (number_of z) ∷ moves_of s) was.items) state;
          asked = asks-same (also (λ k. asked_on (race_of c) k (moves_of s)) (asked_here (has_ended more) (moves_of t))) (λ k. asked_on (race_of c) k (moves_of t)) old next
              (λ k. (λ j. asked_on (race_of c) k (moves_of s) ++ asked_here (has_ended ((items ∙ ap (next_behind (race_of c)) go) j)) (go j) k)
              ∙ asked-more k m (moves_of s) going ∙ ap (asked_on (race_of c) k) (sym go))
              (asks-then (λ k. asked_on (race_of c) k (moves_of s)) (asked_here (has_ended more) (moves_of t)) old now next was.asked here);
        }

    -- A drawing.

    pub record HasDrawn (first : ℕ) (front : List (List Move)) (d : Drawing) : Type 0 where
      pub leads : (more : ℕ) → drawn_histories (race_of c) STEPS_LIMIT (length front + more) first ≡ front ++ drawn_histories (race_of c) STEPS_LIMIT more d.state
      pub asked : AreAsked c claims (λ k. flat_map (asked_on (race_of c) k) front) d.explored.judged.items
      pub histories : d.explored.histories ≡ length front
      pub events : d.explored.events ≡ sum_by length front
      pub short : sum_by length front ≤ length front * STEPS_LIMIT
      pub fresh : AreFresh c d.fresh
      pub cut : (d.explored.is_cut ≡ true) × (d.explored.bound ≡ 0)

    pub draws-more : (first : ℕ) (front : List (List Move)) (old new : Drawing) → HasDrawn first front old → DrawsOne c claims old new → HasDrawn first (front ++ (one_drawn c old.state).0 ∷ []) new
    draws-more first front old new has draws =
        let r = race_of c in
        let h = (one_drawn c old.state).0 in
        let long = length-append front (h ∷ []) in
        let sum : sum_by length (front ++ h ∷ []) ≡ sum_by length front + length h = (let a = sum_by-append (λ (x : List Move). length x) front (h ∷ []) in let b = sum_by-cons (λ (x : List Move). length x) h [] in omega (arith, a, b)) in
        record {
          leads = λ more.
              (let n : length (front ++ h ∷ []) + more ≡ length front + suc more = omega (arith, long) in
              ap (λ i. drawn_histories r STEPS_LIMIT i first) n ∙ has.leads (suc more) ∙ ap (λ hs. front ++ hs) (histories-go r STEPS_LIMIT more old.state)
              ∙ ap (λ y. front ++ h ∷ drawn_histories r STEPS_LIMIT more y) (sym draws.state) ∙ sym (append_assoc front (h ∷ []) (drawn_histories r STEPS_LIMIT more new.state)));
          asked = same-asked (also (λ k. flat_map (asked_on r k) front) (λ k. asked_on r k h)) (λ k. flat_map (asked_on r k) (front ++ h ∷ [])) new.explored.judged.items
              (λ k. ap (λ xs. flat_map (asked_on r k) front ++ xs) (sym (flat_map-cons (asked_on r k) h [] ∙ append-nil (asked_on r k h))) ∙ sym (flat_map-append (asked_on r k) front (h ∷ [])))
              (draws.asks (λ k. flat_map (asked_on r k) front) has.asked);
          histories = (let a = draws.histories in let b = has.histories in omega (arith, a, b, long));
          events = (let a = draws.events in let b = has.events in omega (arith, a, b, sum));
          short = (let a = has.short in let b = drawn-short r STEPS_LIMIT [] old.state in omega (arith, a, b, sum, long));
          fresh = draws.fresh;
          cut = (draws.cut.0 ∙ has.cut.0, draws.cut.1 ∙ has.cut.1);
        }

    pub begins : (first : ℕ) (d : Drawing) → AreAsked c claims (λ k. []) d.explored.judged.items → (d.explored.histories ≡ 0) × (d.explored.events ≡ 0)
        → (d.explored.is_cut ≡ true) × (d.explored.bound ≡ 0) → (d.state ≡ first) × (d.fresh ≡ None) → HasDrawn first [] d
    begins first d asked none cut state = record {
      leads = λ more.
          (let n : 0 + more ≡ more = omega arith in
          ap (λ i. drawn_histories (race_of c) STEPS_LIMIT i first) n ∙ ap (λ y. drawn_histories (race_of c) STEPS_LIMIT more y) (sym state.0));
      asked = asked;
      histories = none.0;
      events = none.1;
      short = omega arith;
      fresh = subst (AreFresh c) (sym state.1) tt;
      cut = cut;
    }

    -- What is said of a claim.

    said : (e : Explored) (j : Judgement) (o : Option (List Move)) → (e.is_cut ≡ true) × (e.bound ≡ 0) → unmet_in j ≡ with_facts o → verdict_of e j ≡ said_by o
    said e Met None cut is = λ i. cond (cut.0 i) (Open (cut.1 i)) Holds
    said e Met (Some ms) cut is = absurd (cc)
    said e (Failed moves text) None cut is = absurd (cc)
    said e (Failed moves text) (Some ms) cut is = ap Fails (ap (λ (p : List Move × List ℕ). p.0) (some-is (reverse moves.items, text.items) (ms, facts_at c ms) is))

    leads-there : (e : Explored) (j : Judgement) (o : Option (List Move)) → (e.is_cut ≡ true) × (e.bound ≡ 0) → unmet_in j ≡ with_facts o → facts_in j ≡ facts_behind c (verdict_of e j)
    leads-there e Met o cut is = ap (λ b. facts_behind c (cond b (Open e.bound) Holds)) (sym cut.0)
    leads-there e (Failed moves text) None cut is = absurd (cc)
    leads-there e (Failed moves text) (Some ms) cut is =
        let both = some-is (reverse moves.items, text.items) (ms, facts_at c ms) is in
        ap (λ (p : List Move × List ℕ). p.1) both ∙ sym (ap (λ (p : List Move × List ℕ). facts_at c p.0) both)

    module _ (first count : ℕ) (front : List (List Move)) (d : Drawing) (has : HasDrawn first front d) (within : length front ≤ count)
        (over : length front < count → All (λ (j : Judgement). has_failed j ≡ true) d.explored.judged.items) where
      abbrev e : Explored
      e = d.explored

      abbrev every_one : List (List Move)
      every_one = drawn_histories (race_of c) STEPS_LIMIT count first

      abbrev rest : List (List Move)
      rest = drawn_histories (race_of c) STEPS_LIMIT (count - length front) d.state

      all-are : every_one ≡ front ++ rest
      all-are =
          let n : count ≡ length front + (count - length front) = omega (arith, within) in
          ap (λ i. drawn_histories (race_of c) STEPS_LIMIT i first) n ∙ has.leads (count - length front)

      not-failed : (j : Judgement) → unmet_in j ≡ None → has_failed j ≡ true → ⊥
      not-failed Met is e = false≢true e
      not-failed (Failed moves text) is e = absurd (cc)

      -- the others change nothing of a claim that failed, and where one has not, there are no others
      same-first : (k : Claim) (j : Judgement) → (length front < count → has_failed j ≡ true) → unmet_in j ≡ with_facts (first_unmet c k (flat_map (asked_on (race_of c) k) front))
          → first_unmet c k (flat_map (asked_on (race_of c) k) front) ≡ first_unmet c k (flat_map (asked_on (race_of c) k) every_one)
      same-first k j failed is =
          by (first_unmet c k (flat_map (asked_on (race_of c) k) front)) refl is
          ∙ sym (ap (λ hs. first_unmet c k (flat_map (asked_on (race_of c) k) hs)) all-are ∙ ap (first_unmet c k) (flat_map-append (asked_on (race_of c) k) front rest))
        where
          none-left : (length front < count) ⊎ (count ≤ length front) → unmet_in j ≡ None → rest ≡ []
          none-left (inl lt) u = absurd (not-failed j u (failed lt))
          none-left (inr ge) u =
              let n : count - length front ≡ 0 = omega (arith, ge) in
              ap (λ i. drawn_histories (race_of c) STEPS_LIMIT i d.state) n ∙ no-histories (race_of c) STEPS_LIMIT d.state

          by : (o : Option (List Move)) → first_unmet c k (flat_map (asked_on (race_of c) k) front) ≡ o → unmet_in j ≡ with_facts o
              → first_unmet c k (flat_map (asked_on (race_of c) k) front) ≡ first_unmet c k (flat_map (asked_on (race_of c) k) front ++ flat_map (asked_on (race_of c) k) rest)
          by (Some ms) at u = at ∙ sym (still-first k (flat_map (asked_on (race_of c) k) front) (flat_map (asked_on (race_of c) k) rest) ms at)
          by None at u =
              sym (ap (λ hs. first_unmet c k (flat_map (asked_on (race_of c) k) front ++ flat_map (asked_on (race_of c) k) hs)) (none-left (cases_lt (length front) count) u)
              ∙ ap (first_unmet c k) (append-nil (flat_map (asked_on (race_of c) k) front)))

      verdict-is : (i : ℕ) (k : Claim) (j : Judgement) → slice_get claims i ≡ Some k → slice_get e.judged.items i ≡ Some j → verdict_of e j ≡ drawn_verdict c count first k
      verdict-is i k j a b =
          let is = has.asked.each i k j a b in
          said e j (first_unmet c k (flat_map (asked_on (race_of c) k) front)) has.cut is
          ∙ ap said_by (same-first k j (λ lt. all-at (λ (x : Judgement). has_failed x ≡ true) e.judged.items i j b (over lt)) is)

      verdicts-are : (js : List Judgement) (ks : List Claim) → length js ≡ length ks → ((i : ℕ) (k : Claim) (j : Judgement) → slice_get ks i ≡ Some k → slice_get js i ≡ Some j → verdict_of e j ≡ drawn_verdict c count first k)
          → map (verdict_of e) js ≡ map (drawn_verdict c count first) ks
      verdicts-are [] [] m same = refl
      verdicts-are [] (k ∷ ks) m same = absurd (omega (arith, m))
      verdicts-are (j ∷ js) [] m same = absurd (omega (arith, m))
      verdicts-are (j ∷ js) (k ∷ ks) m same = ap₂ (λ v vs. v ∷ vs) (same 0 k j refl refl) (verdicts-are js ks (omega (arith, m)) (λ i x y a b. same (suc i) x y a b))

      verdicts : verdicts_of e ≡ map (drawn_verdict c count first) claims
      verdicts = verdicts-are e.judged.items claims has.asked.many verdict-is

      facts-are : (js : List Judgement) → ((i : ℕ) (j : Judgement) → slice_get js i ≡ Some j → facts_in j ≡ facts_behind c (verdict_of e j)) → map facts_in js ≡ map (facts_behind c) (map (verdict_of e) js)
      facts-are [] same = refl
      facts-are (j ∷ js) same = ap₂ (λ x xs. x ∷ xs) (same 0 j refl) (facts-are js (λ i x a. same (suc i) x a))

      facts : map facts_in e.judged.items ≡ map (facts_behind c) (verdicts_of e)
      facts = facts-are e.judged.items (λ i j b.
          (let lt = get-below e.judged.items i j b in
          let m = has.asked.many in
          let k = has-some claims i (omega (arith, lt, m)) in
          leads-there e j (first_unmet c k.0 (flat_map (asked_on (race_of c) k.0) front)) has.cut (has.asked.each i k.0 j k.1 b)))

      get-said : (i : ℕ) (k : Claim) (v : Verdict) → slice_get claims i ≡ Some k → slice_get (map (drawn_verdict c count first) claims) i ≡ Some v → drawn_verdict c count first k ≡ v
      get-said i k v a b =
          some-is (drawn_verdict c count first k) v (sym (slice_get-map (drawn_verdict c count first) claims i ∙ ap (option_map (drawn_verdict c count first)) a) ∙ b)

      abbrev moves-in : Verdict → List Move
      moves-in Holds = []
      moves-in (Fails ms) = ms
      moves-in (Open d) = []

      from-said : (o : Option (List Move)) (ms : List Move) → said_by o ≡ Fails ms → o ≡ Some ms
      from-said None ms is = absurd (cc)
      from-said (Some os) ms is = ap (λ v. Some (moves-in v)) is

      fails-there : (i : ℕ) (k : Claim) (ms : List Move) → slice_get claims i ≡ Some k → slice_get (verdicts_of e) i ≡ Some (Fails ms) → IsAsked c k ms × (meets k (facts_at c ms) ≡ false)
      fails-there i k ms a b =
          let is = get-said i k (Fails ms) a (sym (ap (λ vs. slice_get vs i) verdicts) ∙ b) in
          failing k (flat_map (asked_on (race_of c) k) every_one) ms (on-histories k STEPS_LIMIT count first)
          (from-said (first_unmet c k (flat_map (asked_on (race_of c) k) every_one)) ms is)

      pub checks-drawn : ChecksDrawn c claims count first e
      checks-drawn = record {
        verdicts = verdicts;
        failing = fails-there;
        facts = facts;
        followed = (let h = has.histories in omega (arith, h, within));
        events = has.events ∙ sym (ap (λ n. sum_by length (take n every_one)) has.histories ∙ ap (λ hs. sum_by length (take (length front) hs)) all-are
            ∙ ap (λ hs. sum_by length hs) (take-append_seam front rest));
        all = λ lt. over (let h = has.histories in omega (arith, h, lt));
      }
