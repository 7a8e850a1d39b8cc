-- What a search found of claims is what is promised of them.
-- c is a scenario, asked is what was asked, e what the search came to, k is a claim, j what was found of it, v what is said of it.
use Rattle.std.proofs.Common.{ℕ, zero, suc, ◌≡◌, ◌<◌, ◌≤◌, ◌⊎◌, Bool, true, false, cond, List, [], ◌∷◌, ◌++◌, length, map, reverse, Some, slice_get, Result, Ok, Err, IfOk, inl, inr, refl, sym, ◌∙◌, ap, ap₂, subst, arith}
use Rattle.std.specs.List.{All, Contains}
use Rattle.std.proofs.lemmas.Bool.{false≢true}
use Rattle.std.proofs.lemmas.List.{length-map}
use Rattle.std.proofs.lemmas.List.Elements.{All-contains, Contains-append_left}
use Rattle.law_explore.specs.declared.moves.Move.{Move}
use Rattle.law_explore.specs.Races.{IsWhole, replaying}
use Rattle.law_explore.specs.Search.{IsHistory}
use Rattle.law_replay.specs.Shown.{race_of}
use Rattle.chorus_claims.specs.Pieces.{Claim, meets}
use Rattle.chorus_scene.specs.Scene.{Scene}
use Rattle.explore_report.specs.declared.explored.Explored.{Explored}
use Rattle.explore_report.specs.declared.judgements.Judgement.{Judgement}
use Rattle.explore_report.specs.declared.judgements.Judgement.TheVariants.{Met, Failed}
use Rattle.explore_report.specs.Judgements.{AreJudged, FailsFirst, IsJudged, asked_of, has_failed}
use Rattle.chorus_explore.specs.declared.level_search.Asked.{Asked}
use Rattle.chorus_explore.specs.declared.exploration.ExploreFault.{ExploreFault}
use Rattle.chorus_explore.specs.Checked.{Checks, IsAsked, Verdict, Holds, Open, IsMetAlong, Judged, ReplaysMeetClaims, facts_behind, facts_in, verdict_of, verdicts_of}
use Rattle.chorus_explore.specs.Events.{CarriesOut}
use Rattle.chorus_explore.specs.Searches.{IsCut, IsLong, IsOver, IsWatching, asks_of}
use Rattle.chorus_explore.specs.Stages.{facts_at}
use Rattle.chorus_explore.proofs.Returning.{replays-are-whole}
use Rattle.chorus_explore.proofs.Searching.{some-is}
use Rattle.chorus_explore.proofs.Watching.{saw, up-to-last}

-- an element of what a list is mapped to, by its place
get-map : {X Y : Type 0} (f : X → Y) (xs : List X) (i : ℕ) (y : Y) → slice_get (map f xs) i ≡ Some y → (x : X) × ((slice_get xs i ≡ Some x) × (f x ≡ y))
get-map f [] i y e = absurd (cc)
get-map f (x ∷ xs) zero y e = (x, (refl, some-is (f x) y e))
get-map f (x ∷ xs) (suc i) y e = get-map f xs i y e

module _ (c : Scene) (asked : Asked) (e : Explored) (over : IsOver c asked e) (asks : asks_of asked ≡ true) where
  abbrev w : IsWatching c asked.claims.now e.bound over.pending over.found e.judged.items
  w = over.watched asks

  -- where a claim is asked, as the search came to it
  abbrev where-asked : Claim → List (List Move)
  where-asked k = asked_of k (w.earlier ++ w.come) over.found

  abbrev Is : Bool → List Move → Type 0
  Is throughout ms = cond throughout (IsHistory (replaying (race_of c)) ms) (IsWhole (race_of c) ms)

  -- those that were come to are such, and none goes beyond the bound
  was-asked : (b : Bool) (h : List Move) → Contains (cond b (w.earlier ++ w.come) over.found) h → Is b h × (length h ≤ e.bound)
  was-asked true h i = saw c asked.claims.now e.bound over.pending over.found e.judged.items w h i
  was-asked false h i = (All-contains (IsWhole (race_of c)) over.found h over.whole i, All-contains (λ (x : List Move). length x ≤ e.bound) over.found h over.within i)

  -- and none is missing of fewer moves
  is-asked : (b : Bool) (h : List Move) → Is b h → length h < e.bound → Contains (cond b (w.earlier ++ w.come) over.found) h
  is-asked true h is lt = Contains-append_left w.earlier w.come h (w.every h is lt)
  is-asked false h is lt = over.bounded h is lt

  -- nor any where no limit was met
  all-asked : ((h : List Move) → IsHistory (replaying (race_of c)) h → length h ≤ e.bound) → e.is_cut ≡ false → (b : Bool) (h : List Move) → Is b h → Contains (cond b (w.earlier ++ w.come) over.found) h
  all-asked last uncut true h is =
      up-to-last c asked.claims.now e.bound over.pending over.found e.judged.items w (over.none_pending uncut) h is (last h is)
  all-asked last uncut false h is = over.every uncut h is

  -- one that is shorter was come to, since that one goes not beyond the bound; and so it meets the claim, or is no shorter
  met-before : (k : Claim) (ms : List Move) (text : List ℕ) → FailsFirst (facts_at c) (where-asked k) k ms text → (os : List Move) → IsAsked c k os → length os < length ms
      → (b : Bool) → meets k (facts_at c os) ≡ b → meets k (facts_at c os) ≡ true
  met-before k ms text one os is lt true met = met
  met-before k ms text one os is lt false met =
      let within = (was-asked k.throughout ms one.among).1 in
      let found = is-asked k.throughout os is (omega (arith, lt, within)) in
      let le = All-contains (λ (h : List Move). meets k (facts_at c h) ≡ false → length ms ≤ length h) (where-asked k) os one.first found met in
      absurd (omega (arith, le, lt))

  module _ (last : e.is_cut ≡ false → (h : List Move) → IsHistory (replaying (race_of c)) h → length h ≤ e.bound) where
    met-open : (k : Claim) → IsJudged (facts_at c) (where-asked k) k Met → (cut : Bool) → e.is_cut ≡ cut → Judged c k (cond cut (Open e.bound) Holds)
    met-open k all true is = λ ms asked-there lt. All-contains (λ (h : List Move). meets k (facts_at c h) ≡ true) (where-asked k) ms all (is-asked k.throughout ms asked-there lt)
    met-open k all false is = λ ms asked-there. All-contains (λ (h : List Move). meets k (facts_at c h) ≡ true) (where-asked k) ms all (all-asked (last is) is k.throughout ms asked-there)

    is-judged : (k : Claim) (j : Judgement) → IsJudged (facts_at c) (where-asked k) k j → Judged c k (verdict_of e j)
    is-judged k Met all = met-open k all e.is_cut refl
    is-judged k (Failed moves text) one = (
      (was-asked k.throughout (reverse moves.items) one.among).0,
      ap (meets k) one.leads ∙ one.unmet,
      λ os is lt. met-before k (reverse moves.items) text.items one os is lt (meets k (facts_at c os)) refl,
    )

    verdict-is : (i : ℕ) (k : Claim) (v : Verdict) → slice_get asked.claims.now i ≡ Some k → slice_get (verdicts_of e) i ≡ Some v → Judged c k v
    verdict-is i k v a b =
        let j = get-map (verdict_of e) e.judged.items i v b in
        subst (Judged c k) j.1.1 (is-judged k j.0 (w.are.each i k j.0 a j.1.0))

  as-many : length (verdicts_of e) ≡ length asked.claims.now
  as-many = length-map e.judged.items (verdict_of e) ∙ w.are.many

  -- the lines that were kept
  leads : (hs : List (List Move)) (k : Claim) (j : Judgement) → IsJudged (facts_at c) hs k j → facts_in j ≡ facts_behind c (verdict_of e j)
  leads hs k Met all = by e.is_cut
    where
      by : (cut : Bool) → [] ≡ facts_behind c (cond cut (Open e.bound) Holds)
      by true = refl
      by false = refl
  leads hs k (Failed moves text) one = sym one.leads

  lead-all : (claims : List Claim) (js : List Judgement) → AreJudged (facts_at c) (w.earlier ++ w.come) over.found claims js → map facts_in js ≡ map (facts_behind c) (map (verdict_of e) js)
  lead-all claims [] are = refl
  lead-all [] (j ∷ js) are = absurd (let m = are.many in omega (arith, m))
  lead-all (k ∷ claims) (j ∷ js) are =
      ap₂ (λ x xs. x ∷ xs) (leads (where-asked k) k j (are.each 0 k j refl refl))
      (lead-all claims js (record { many = (let m = are.many in omega (arith, m)); each = λ i k j a b. are.each (suc i) k j a b }))

  facts-lead : map facts_in e.judged.items ≡ map (facts_behind c) (verdicts_of e)
  facts-lead = lead-all asked.claims.now e.judged.items w.are

  -- An open claim.

  is-open : (j : Judgement) (d : ℕ) → verdict_of e j ≡ Open d → (e.is_cut ≡ true) × (has_failed j ≡ false)
  is-open Met d is = (by e.is_cut refl is, refl)
    where
      by : (cut : Bool) → e.is_cut ≡ cut → cond cut (Open e.bound) Holds ≡ Open d → e.is_cut ≡ true
      by true at f = at
      by false at f = absurd (cc)
  is-open (Failed moves text) d is = absurd (cc)

  limited : (j : Judgement) (i : ℕ) → slice_get e.judged.items i ≡ Some j → has_failed j ≡ false → IsCut c asked e → (e.events ≡ asked.most) ⊎ IsLong c
  limited j i at met (inl why) = why
  limited j i at met (inr settled) = absurd (false≢true (sym met ∙ all-at e.judged.items i at settled.failed))
    where
      all-at : (js : List Judgement) (n : ℕ) → slice_get js n ≡ Some j → All (λ (x : Judgement). has_failed x ≡ true) js → has_failed j ≡ true
      all-at [] n f all = absurd (cc)
      all-at (x ∷ js) zero f all = ap has_failed (sym (some-is x j f)) ∙ all 0 x (omega arith)
      all-at (x ∷ js) (suc n) f all = all-at js n f (λ m d lt. all (suc m) d (omega (arith, lt)))

  open-by : (i d : ℕ) → slice_get (verdicts_of e) i ≡ Some (Open d) → (e.events ≡ asked.most) ⊎ IsLong c
  open-by i d b =
      let j = get-map (verdict_of e) e.judged.items i (Open d) b in
      let is = is-open j.0 d j.1.1 in
      limited j.0 i j.1.0 is.1 (over.cut is.0)

-- Where outcomes are told the search is cut off at a limit alone.
pub limit-met : (c : Scene) (asked : Asked) (e : Explored) → IsOver c asked e → asked.tells ≡ true → e.is_cut ≡ true → (e.events ≡ asked.most) ⊎ IsLong c
limit-met c asked e over tells cut = by (over.cut cut)
  where
    by : IsCut c asked e → (e.events ≡ asked.most) ⊎ IsLong c
    by (inl why) = why
    by (inr settled) = absurd (false≢true (sym settled.untold ∙ tells))

-- So the search checks the claims.
pub checks-if : (c : Scene) (asked : Asked) (most : ℕ) (r : Result Explored ExploreFault) → asked.most ≡ most → asks_of asked ≡ true → IfOk r (λ e. IsOver c asked e) → IfOk r (λ e. CarriesOut (asks_of asked) (race_of c) e)
    → IfOk r (λ e. Checks c asked.claims.now most e)
checks-if c asked most (Ok e) same asks over carried = record {
  many = as-many c asked e over asks;
  judged = verdict-is c asked e over asks carried.last;
  facts = facts-lead c asked e over asks;
  events = ((let m = over.has.events in omega (arith, m, same)), subst (λ (by : Bool). CarriesOut by (race_of c) e) asks carried);
  open_by = λ i d at. subst (λ (n : ℕ). (e.events ≡ n) ⊎ IsLong c) same (open-by c asked e over asks i d at);
}
checks-if c asked most (Err fault) same asks over carried = tt

-- What a replay comes to.

-- what is in front of a history is one
behind-history : (c : Scene) (more ms os : List Move) → ms ≡ more ++ os → IsHistory (replaying (race_of c)) ms → IsHistory (replaying (race_of c)) os
behind-history c more ms os e h = by more (subst (IsHistory (replaying (race_of c))) e h)
  where
    by : (front : List Move) → IsHistory (replaying (race_of c)) (front ++ os) → IsHistory (replaying (race_of c)) os
    by [] k = k
    by (m ∷ front) k = by front k.1

asked-whole : (c : Scene) (ms : List Move) (b : Bool) → IsWhole (race_of c) ms → cond b (IsHistory (replaying (race_of c)) ms) (IsWhole (race_of c) ms)
asked-whole c ms true whole = whole.0
asked-whole c ms false whole = whole

asked-moment : (c : Scene) (ms : List Move) (b : Bool) → b ≡ true → IsHistory (replaying (race_of c)) ms → cond b (IsHistory (replaying (race_of c)) ms) (IsWhole (race_of c) ms)
asked-moment c ms true e h = h
asked-moment c ms false e h = absurd (false≢true e)

pub met-along : (c : Scene) (k : Claim) (ms : List Move) → Judged c k Holds → IsWhole (race_of c) ms → IsMetAlong c k ms
met-along c k ms holds whole = record {
  at_end = holds ms (asked-whole c ms k.throughout whole);
  on_the_way = λ yes more os e. holds os (asked-moment c os k.throughout yes (behind-history c more ms os e whole.0));
}

pub replays-meet-claims : ReplaysMeetClaims
replays-meet-claims c steps k status closed shape keeps holds played unworn =
    let one = replays-are-whole c steps status closed shape keeps played unworn in
    (one.0, (one.1.0, one.1.1, met-along c k one.0 holds one.1.0))
