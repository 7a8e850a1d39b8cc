-- Claims that are asked at each moment, level by level: which histories came, and what was found of the claims by them.
-- c is a scenario, n a number of moves, hs are histories, h and k are histories, m and o are moves, ends are histories behind
-- which nothing may come.
use Rattle.std.proofs.Common.{ℕ, suc, ◌≡◌, ◌<◌, ◌≤◌, ◌==◌, ◌&&◌, Bool, true, false, cond, List, [], ◌∷◌, ◌++◌, length, reverse, get_or, sum_by, ◌⊎◌, inl, inr, refl, sym, ◌∙◌, ap, subst, arith, append_assoc}
use Rattle.std.specs.List.{All, Contains}
use Rattle.std.proofs.lemmas.Bool.{and_parts, cases_lt, eqb-true, eq-eqb, false≢true}
use Rattle.std.proofs.lemmas.List.{append-nil}
use Rattle.std.proofs.lemmas.List.Elements.{All-nil, All-append, All-contains, Contains-append_cases, Contains-append_left, Contains-append_right, Contains-get_or}
use Rattle.std.proofs.lemmas.List.Sums.{sum_by-append, sum_by-cons}
use Rattle.law_explore.specs.declared.moves.Move.{Move}
use Rattle.law_explore.specs.declared.moves.Move.TheVariants.{Go, Carry}
use Rattle.law_explore.specs.Levels.{histories_of}
use Rattle.law_explore.specs.Members.{SameHistories}
use Rattle.law_explore.specs.Search.{IsHistory}
use Rattle.law_explore.specs.Races.{Race, replaying}
use Rattle.law_explore.proofs.Histories.{are-listed, no-other}
use Rattle.law_explore.proofs.Searching.{none, here, there, which}
use Rattle.law_replay.specs.Shown.{race_of}
use Rattle.chorus_claims.specs.Pieces.{Claim, meets}
use Rattle.chorus_scene.specs.Scene.{Scene}
use Rattle.explore_report.specs.declared.judgements.Judgement.{Judgement}
use Rattle.explore_report.specs.declared.judgements.Judgement.TheVariants.{Met, Failed}
use Rattle.explore_report.specs.Judgements.{AreJudged, IsJudged, JudgesAll, with_ends}
use Rattle.explore_report.specs.Findings.{AreLater, ComeTo}
use Rattle.chorus_explore.specs.Searches.{IsWatching}
use Rattle.chorus_explore.specs.Stages.{facts_at}

-- How often a history stands in a list.

abbrev same-move : Move → Move → Bool
same-move (Go i) (Go j) = i == j
same-move (Carry a b) (Carry c d) = (a == c) && (b == d)
same-move _ _ = false

from-same-move : (m o : Move) → same-move m o ≡ true → m ≡ o
from-same-move (Go i) (Go j) e = ap Go (eqb-true i j e)
from-same-move (Carry a b) (Carry c d) e =
    let both = and_parts (a == c) (b == d) e in λ i. Carry (eqb-true a c both.0 i) (eqb-true b d both.1 i)
from-same-move (Go i) (Carry c d) e = absurd (false≢true e)
from-same-move (Carry a b) (Go j) e = absurd (false≢true e)

same-move-self : (m : Move) → same-move m m ≡ true
same-move-self (Go i) = eq-eqb i i refl
same-move-self (Carry a b) = λ i. eq-eqb a a refl i && eq-eqb b b refl i

abbrev same : List Move → List Move → Bool
same [] [] = true
same (m ∷ h) (o ∷ k) = same-move m o && same h k
same _ _ = false

from-same : (h k : List Move) → same h k ≡ true → h ≡ k
from-same [] [] e = refl
from-same [] (o ∷ k) e = absurd (false≢true e)
from-same (m ∷ h) [] e = absurd (false≢true e)
from-same (m ∷ h) (o ∷ k) e =
    let both = and_parts (same-move m o) (same h k) e in λ i. from-same-move m o both.0 i ∷ from-same h k both.1 i

same-self : (h : List Move) → same h h ≡ true
same-self [] = refl
same-self (m ∷ h) = λ i. same-move-self m i && same-self h i

abbrev is-one : List Move → List Move → ℕ
is-one h k = cond (same h k) 1 0

sum-has : (h : List Move) (hs : List (List Move)) → Contains hs h → 1 ≤ sum_by (is-one h) hs
sum-has h [] c = absurd (none h c)
sum-has h (k ∷ hs) c = by (which h k hs c) (sum-has h hs)
  where
    by : (k ≡ h) ⊎ Contains hs h → (Contains hs h → 1 ≤ sum_by (is-one h) hs) → 1 ≤ sum_by (is-one h) (k ∷ hs)
    by (inl e) ih =
        let a = sum_by-cons (is-one h) k hs in
        let b : is-one h k ≡ 1 = ap (λ (q : Bool). cond q 1 0) (ap (same h) e ∙ same-self h) in
        omega (arith, a, b)
    by (inr j) ih = let a = sum_by-cons (is-one h) k hs in let b = ih j in omega (arith, a, b)

has-sum : (h : List Move) (hs : List (List Move)) → 1 ≤ sum_by (is-one h) hs → Contains hs h
has-sum h [] l = absurd (omega (arith, l))
has-sum h (k ∷ hs) l = by (same h k) refl (has-sum h hs)
  where
    by : (b : Bool) → same h k ≡ b → (1 ≤ sum_by (is-one h) hs → Contains hs h) → Contains (k ∷ hs) h
    by true e ih = subst (λ (x : List Move). Contains (x ∷ hs) h) (from-same h k e) (here h hs)
    by false e ih =
        let a = sum_by-cons (is-one h) k hs in
        let z : is-one h k ≡ 0 = ap (λ (q : Bool). cond q 1 0) e in
        there h k hs (ih (omega (arith, a, z, l)))

-- what came in front of the rest in one list came so in another that has the same
pub came-too : (front other rest all : List (List Move)) → SameHistories (front ++ rest) all → SameHistories (other ++ rest) all → (h : List Move) → Contains front h → Contains other h
came-too front other rest all one two h there =
    let a = sum-has h front there in
    let b = one (is-one h) in
    let d = two (is-one h) in
    let e = sum_by-append (is-one h) front rest in
    let f = sum_by-append (is-one h) other rest in
    has-sum h other (omega (arith, a, b, d, e, f))

-- All histories of a level came.
every-moment : (r : Race) (n : ℕ) (hs : List (List Move)) → SameHistories hs (histories_of r n) → (h : List Move) → IsHistory (replaying r) h → length h ≡ n → Contains hs h
every-moment r n hs all h history long =
    let listed = sum-has h (histories_of r n) (are-listed r n h history long) in
    let is = all (is-one h) in
    has-sum h hs (omega (arith, listed, is))

module _ (c : Scene) (claims : List Claim) where
  abbrev History : List Move → Type 0
  History h = IsHistory (replaying (race_of c)) h

  module _ (n : ℕ) (pending ends : List (List Move)) (judged : List Judgement) (w : IsWatching c claims n pending ends judged) where
    came : (h : List Move) → Contains w.come h → History h × (length h ≡ n)
    came h i =
        let listed = sum-has h (w.come ++ pending) (Contains-append_left w.come pending h i) in
        let is = w.all (is-one h) in
        let other = no-other (race_of c) n h (has-sum h (histories_of (race_of c) n) (omega (arith, listed, is))) in
        (other.0, other.1)

    was-short : (h : List Move) → Contains w.earlier h → History h × (length h < n)
    was-short h i = All-contains (λ (x : List Move). History x × (length x < n)) w.earlier h w.short i

    pub saw : (h : List Move) → Contains (w.earlier ++ w.come) h → History h × (length h ≤ n)
    saw h i = by (Contains-append_cases w.earlier w.come h i)
      where
        by : Contains w.earlier h ⊎ Contains w.come h → History h × (length h ≤ n)
        by (inl j) = let a = was-short h j in (a.0, (let l = a.1 in omega (arith, l)))
        by (inr j) = let a = came h j in (a.0, (let l = a.1 in omega (arith, l)))

    later : (ks : List (List Move)) → All (λ (k : List Move). length k ≡ n) ks → AreLater (w.earlier ++ w.come) ks
    later ks long i d lt j e within =
        let a = (saw (get_or (w.earlier ++ w.come) i d) (Contains-get_or (w.earlier ++ w.come) i d lt)).1 in
        let b = long j e within in
        omega (arith, a, b)

  -- They are judged by one text.
  pub go-on : (is_end : Bool) (n : ℕ) (ks pending ends : List (List Move)) (text : List ℕ) (h : List Move) (told : ℕ) (old new : List Judgement) → IsWatching c claims n (ks ++ pending) ends old
      → ComeTo (facts_at c) text h told ks → All (λ (k : List Move). length k ≡ n) ks → AreLater ends ks → JudgesAll is_end claims text h old new
      → IsWatching c claims n pending (with_ends is_end ends ks) new
  go-on is_end n ks pending ends text h told old new w is long later-ends judges = record {
    earlier = w.earlier;
    come = w.come ++ ks;
    are = subst (λ (hs : List (List Move)). AreJudged (facts_at c) hs (with_ends is_end ends ks) claims new) (append_assoc w.earlier w.come ks)
        (judges (facts_at c) (w.earlier ++ w.come) ends ks told is (later n (ks ++ pending) ends old w ks long) later-ends w.are);
    short = w.short;
    every = w.every;
    all = subst (λ (hs : List (List Move)). SameHistories hs (histories_of (race_of c) n)) (sym (append_assoc w.come ks pending)) w.all;
  }

  -- They come to the same as one that came, and need not be judged.
  module _ (n : ℕ) (ks pending ends : List (List Move)) (g : List Move) (judged : List Judgement) (w : IsWatching c claims n (ks ++ pending) ends judged) (among : Contains w.come g)
      (alike : All (λ (k : List Move). (facts_at c k ≡ facts_at c g) × (length k ≡ n)) ks) where
    abbrev seen : List (List Move)
    seen = w.earlier ++ w.come

    still : (k : Claim) (j : Judgement) → IsJudged (facts_at c) seen k j → IsJudged (facts_at c) (seen ++ ks) k j
    still k Met was =
        All-append (λ (x : List Move). meets k (facts_at c x) ≡ true) seen ks was
        (λ m d lt. ap (meets k) (alike m d lt).0 ∙ All-contains (λ (x : List Move). meets k (facts_at c x) ≡ true) seen g was (Contains-append_right w.earlier w.come g among))
    still k (Failed moves text) was = record {
      among = Contains-append_left seen ks (reverse moves.items) was.among;
      leads = was.leads;
      unmet = was.unmet;
      first = All-append (λ (x : List Move). meets k (facts_at c x) ≡ false → length (reverse moves.items) ≤ length x) seen ks was.first
          (λ m d lt u.
          (let le = All-contains (λ (x : List Move). meets k (facts_at c x) ≡ false → length (reverse moves.items) ≤ length x) seen g was.first (Contains-append_right w.earlier w.come g among)
          (sym (ap (meets k) (alike m d lt).0) ∙ u) in
          let long = (came n (ks ++ pending) ends judged w g among).1 in
          let other = (alike m d lt).1 in
          omega (arith, le, long, other)));
    }

    still-asked : (b : Bool) (k : Claim) (j : Judgement) → IsJudged (facts_at c) (cond b seen ends) k j → IsJudged (facts_at c) (cond b (seen ++ ks) ends) k j
    still-asked true k j was = still k j was
    still-asked false k j was = was

    pub see-again : IsWatching c claims n pending ends judged
    see-again = record {
      earlier = w.earlier;
      come = w.come ++ ks;
      are = subst (λ (hs : List (List Move)). AreJudged (facts_at c) hs ends claims judged) (append_assoc w.earlier w.come ks) (record {
        many = w.are.many;
        each = λ i k j a b. still-asked k.throughout k j (w.are.each i k j a b);
      });
      short = w.short;
      every = w.every;
      all = subst (λ (hs : List (List Move)). SameHistories hs (histories_of (race_of c) n)) (sym (append_assoc w.come ks pending)) w.all;
    }

  -- A level was gone over.
  module _ (n : ℕ) (ends : List (List Move)) (judged : List Judgement) (w : IsWatching c claims n [] ends judged) where
    all-came : SameHistories w.come (histories_of (race_of c) n)
    all-came = subst (λ (hs : List (List Move)). SameHistories hs (histories_of (race_of c) n)) (append-nil w.come) w.all

    pub up-to : (h : List Move) → History h → length h ≤ n → Contains (w.earlier ++ w.come) h
    up-to h history le = by (cases_lt (length h) n)
      where
        by : (length h < n) ⊎ (n ≤ length h) → Contains (w.earlier ++ w.come) h
        by (inl lt) = Contains-append_left w.earlier w.come h (w.every h history lt)
        by (inr ge) = Contains-append_right w.earlier w.come h (every-moment (race_of c) n w.come all-came h history (omega (arith, le, ge)))

    pub rise : (ks : List (List Move)) → SameHistories ks (histories_of (race_of c) (suc n)) → IsWatching c claims (suc n) ks ends judged
    rise ks same = record {
      earlier = w.earlier ++ w.come;
      come = [];
      are = subst (λ (hs : List (List Move)). AreJudged (facts_at c) hs ends claims judged) (sym (append-nil (w.earlier ++ w.come))) w.are;
      short = λ i d lt.
          (let a = saw n [] ends judged w (get_or (w.earlier ++ w.come) i d) (Contains-get_or (w.earlier ++ w.come) i d lt) in
          (a.0, (let l = a.1 in omega (arith, l))));
      every = λ h history lt. up-to h history (omega (arith, lt));
      all = same;
    }

  pub up-to-last : (n : ℕ) (pending ends : List (List Move)) (judged : List Judgement) → (w : IsWatching c claims n pending ends judged) → pending ≡ [] → (h : List Move) → History h → length h ≤ n
      → Contains (w.earlier ++ w.come) h
  up-to-last n [] ends judged w none h history le = up-to n ends judged w h history le
  up-to-last n (k ∷ pending) ends judged w none h history le = absurd (cc)

  -- The first position.
  pub begins : (judged : List Judgement) → AreJudged (facts_at c) [] [] claims judged → IsWatching c claims 0 ([] ∷ []) [] judged
  begins judged are = record {
    earlier = [];
    come = [];
    are = are;
    short = All-nil (λ (h : List Move). IsHistory (replaying (race_of c)) h × (length h < 0));
    every = λ h history lt. absurd (omega (arith, lt));
    all = λ ask. refl;
  }
