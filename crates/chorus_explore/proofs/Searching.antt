-- What the search keeps, as histories are come to, and as a level is gone on from.
-- c is a scenario, asked is what is asked of the search, n a number of moves, s is the search before, t behind it; e is what
-- it came to, m are the histories of a class, hs and pending are histories.
use Rattle.std.proofs.Common.{ℕ, zero, suc, min, ◌≡◌, ◌+◌, ◌-◌, ◌^◌, ◌<◌, ◌≤◌, ◌==◌, Bool, true, false, not, cond, List, [], ◌∷◌, ◌++◌, length, map, take, reverse, get_or, set, sum_by, Some, slice_get, ◌⊎◌, inl, inr, refl, sym, ◌∙◌, ap, subst, arith, append_assoc}
use Rattle.std.specs.List.{All, Contains, flat_map}
use Rattle.std.proofs.lemmas.Bool.{eq-eqb, eqb-true, false≢true}
use Rattle.std.proofs.lemmas.List.{append-nil, length-append, length-map, nil_from_length}
use Rattle.std.proofs.lemmas.List.Elements.{All-nil, All-cons, All-head, All-tail, All-append, All-set, All-contains, All-weaker, Contains-append_left, Contains-append_right, Contains-get_or}
use Rattle.std.proofs.lemmas.List.Sums.{sum_by-append, sum_by-cons}
use Rattle.law_explore.specs.declared.moves.Move.{Move}
use Rattle.law_explore.specs.Explores.{told_number}
use Rattle.law_explore.specs.Levels.{histories_of}
use Rattle.law_explore.specs.Members.{Merged, all_members, going_by, going_on, with_move, next_members, SameHistories, IsEnd, IsMember, IsMerged, IsLevel, AreFound, AreOnce}
use Rattle.law_explore.specs.Merging.{ComeToldAlike}
use Rattle.law_explore.specs.Positions.{next_behind}
use Rattle.law_explore.specs.Search.{IsHistory}
use Rattle.law_explore.specs.Races.{Race, replaying, IsWhole}
use Rattle.law_explore.proofs.Histories.{no-other}
use Rattle.law_explore.proofs.Found.{front-once, levels-of-merged-find-all}
use Rattle.law_explore.proofs.Members.{levels-of-merged-go-on}
use Rattle.law_explore.proofs.Merging.{places-tell-the-same, told-alike-is-an-equivalence}
use Rattle.law_explore.proofs.Moments.{nets-tell-the-same}
use Rattle.law_explore.proofs.Searching.{none, here, there, which}
use Rattle.law_replay.specs.Shown.{race_of}
use Rattle.chorus_scene.specs.Scene.{Scene}
use Rattle.chorus_scene.specs.declared.limits.TheConstants.{STEPS_LIMIT}
use Rattle.explore_report.specs.declared.explored.Explored.{Explored}
use Rattle.explore_report.specs.Findings.{AreFindings, AreLater, ComeTo, Counts}
use Rattle.explore_report.specs.Judgements.{AreJudged, JudgesAll}
use Rattle.chorus_explore.specs.declared.level_search.Asked.{Asked}
use Rattle.chorus_explore.specs.declared.level_search.Class.{Class}
use Rattle.chorus_explore.specs.declared.level_search.Search.{Search}
use Rattle.chorus_explore.specs.Classes.{AreClasses, StandFor, StandsFor, shown_by}
use Rattle.chorus_explore.specs.Searches.{HasFound, IsCut, IsEnough, IsLong, IsOver, IsWatching, IsWithin, Come, LeavesOut, asks_of}
use Rattle.chorus_explore.specs.Stages.{comes, facts_at, position}
use Rattle.chorus_explore.specs.Tellings.{tells_of}
use Rattle.chorus_explore.proofs.Alike.{comes-the-same, facts-the-same, tells-on}
use Rattle.chorus_explore.proofs.Racing.{is-race}
use Rattle.chorus_explore.proofs.Watching.{begins, came-too, go-on, rise, see-again}

pub some-is : {X : Type 0} (x y : X) → Some x ≡ Some y → x ≡ y
some-is x y e = cc

pub read-same : {X : Type 0} (xs : List X) (i : ℕ) (x y : X) → slice_get xs i ≡ Some x → y ≡ get_or xs i y → y ≡ x
read-same [] i x y e is = absurd (cc)
read-same (z ∷ xs) zero x y e is = is ∙ some-is z x e
read-same (z ∷ xs) (suc i) x y e is = read-same xs i x y e is

-- a class that stands there is put in its place again
pub classes-set : (c : Scene) (classes : List Class) (i : ℕ) (old new : Class) → slice_get classes i ≡ Some old → new.moves ≡ old.moves → AreClasses c classes → AreClasses c (set classes i new)
classes-set c classes i old new at same h =
    All-set (λ (k : Class). IsHistory (replaying (race_of c)) (shown_by k)) classes i new
    (subst (λ v. IsHistory (replaying (race_of c)) (reverse v.items)) (sym same) (by classes i at h)) h
  where
    by : (ks : List Class) (j : ℕ) → slice_get ks j ≡ Some old → AreClasses c ks → IsHistory (replaying (race_of c)) (shown_by old)
    by [] j e all = absurd (cc)
    by (k ∷ ks) zero e all = subst (λ (x : Class). IsHistory (replaying (race_of c)) (shown_by x)) (some-is k old e) (All-head (λ (x : Class). IsHistory (replaying (race_of c)) (shown_by x)) k ks all)
    by (k ∷ ks) (suc j) e all = by ks j e (All-tail (λ (x : Class). IsHistory (replaying (race_of c)) (shown_by x)) k ks all)

-- Nothing was found yet.
none-found : (comes : List Move → List ℕ) → AreFindings comes [] []
none-found comes = record { shown = All-nil _; once = λ i j d lt within. absurd (omega (arith, lt, within)); found = All-nil _; counted = All-nil _; first = All-nil _ }

-- numbers that are told add up
pub told-both : (a b x y z : ℕ) → x ≡ told_number a → y ≡ told_number b → z ≡ min (x + y) (2 ^ 64 - 1) → z ≡ told_number (a + b)
told-both a b x y z e f g = grind (arith, e, f, g)

-- Classes and the histories for which they stand.

stand-push : (asks : Bool) (r : Race) (n : ℕ) (classes : List Class) (ms : List Merged) (class : Class) (m : Merged) → StandFor asks r n classes ms → StandsFor asks r n (shown_by class) class.number m
    → StandFor asks r n (classes ++ class ∷ []) (ms ++ m ∷ [])
stand-push asks r n [] [] class m h is = (is, tt)
stand-push asks r n [] (x ∷ ms) class m h is = absurd h
stand-push asks r n (k ∷ classes) [] class m h is = absurd h
stand-push asks r n (k ∷ classes) (x ∷ ms) class m h is = (h.0, stand-push asks r n classes ms class m h.1 is)

-- the histories of the class that stands there, with more histories that come to the same
abbrev pub joined : ℕ → Merged → List Merged → List Merged
joined k m [] = []
joined zero m (d ∷ ds) = record { shows = d.shows; members = d.members ++ m.members } ∷ ds
joined (suc k) m (d ∷ ds) = d ∷ joined k m ds

joined-sum : (ask : List Move → ℕ) (k : ℕ) (m : Merged) (ds : List Merged) → k < length ds → sum_by ask (all_members (joined k m ds)) ≡ sum_by ask (all_members ds) + sum_by ask m.members
joined-sum ask k m [] lt = absurd (omega (arith, lt))
joined-sum ask zero m (d ∷ ds) lt =
    let a = sum_by-append ask (d.members ++ m.members) (all_members ds) in
    let b = sum_by-append ask d.members m.members in
    let e = sum_by-append ask d.members (all_members ds) in
    omega (arith, a, b, e)
joined-sum ask (suc k) m (d ∷ ds) lt =
    let a = sum_by-append ask d.members (all_members (joined k m ds)) in
    let b = sum_by-append ask d.members (all_members ds) in
    let e = joined-sum ask k m ds (omega (arith, lt)) in
    omega (arith, a, b, e)

joined-go : (r : Race) (k : ℕ) (m : Merged) (ds : List Merged) → All (λ (d : Merged). IsEnd r d.shows → ⊥) ds → All (λ (d : Merged). IsEnd r d.shows → ⊥) (joined k m ds)
joined-go r k m [] h = All-nil (λ (d : Merged). IsEnd r d.shows → ⊥)
joined-go r zero m (d ∷ ds) h =
    All-cons (λ (x : Merged). IsEnd r x.shows → ⊥) (record { shows = d.shows; members = d.members ++ m.members }) ds (All-head (λ (x : Merged). IsEnd r x.shows → ⊥) d ds h)
    (All-tail (λ (x : Merged). IsEnd r x.shows → ⊥) d ds h)
joined-go r (suc k) m (d ∷ ds) h =
    All-cons (λ (x : Merged). IsEnd r x.shows → ⊥) d (joined k m ds) (All-head (λ (x : Merged). IsEnd r x.shows → ⊥) d ds h)
    (joined-go r k m ds (All-tail (λ (x : Merged). IsEnd r x.shows → ⊥) d ds h))

pub contains-map : {X Y : Type 0} (f : X → Y) (xs : List X) (x : X) → Contains xs x → Contains (map f xs) (f x)
contains-map f [] x c = absurd (none x c)
contains-map f (z ∷ xs) x c = by (which x z xs c) (contains-map f xs x)
  where
    by : (z ≡ x) ⊎ Contains xs x → (Contains xs x → Contains (map f xs) (f x)) → Contains (f z ∷ map f xs) (f x)
    by (inl e) ih = subst (λ (y : _). Contains (f z ∷ map f xs) (f y)) e (here (f z) (map f xs))
    by (inr k) ih = there (f x) (f z) (map f xs) (ih k)

apart : (xs ys : List (List Move)) → AreOnce (xs ++ ys) → (h : List Move) → Contains xs h → Contains ys h → ⊥
apart [] ys once h i j = none h i
apart (x ∷ xs) ys once h i j = by (which h x xs i) (apart xs ys once.1 h)
  where
    by : (x ≡ h) ⊎ Contains xs h → (Contains xs h → Contains ys h → ⊥) → ⊥
    by (inl e) rest = once.0 (Contains-append_right xs ys x (subst (Contains ys) (sym e) j))
    by (inr k) rest = rest k j

members-long : (d m : Merged) → length (d.members ++ m.members) ≡ length d.members + length m.members
members-long d m = length-append d.members m.members

module _ (asks : Bool) (c : Scene) where
  abbrev r : Race
  r = race_of c

  stands-joined : (n : ℕ) (ms os : List Move) (one other new : ℕ) (d m : Merged) → StandsFor asks (race_of c) n ms one d → StandsFor asks (race_of c) n os other m
      → ComeToldAlike (tells_of asks) (race_of c) ms os → new ≡ min (one + other) (2 ^ 64 - 1)
      → StandsFor asks (race_of c) n ms new (record { shows = d.shows; members = d.members ++ m.members })
  stands-joined n ms os one other new d m h f alike e =
      record {
        shows = h.shows;
        merged = (levels-of-merged-go-on (tells_of asks) r (tells-on asks) (is-race c)).0.join n m d f.merged h.merged
            (subst (λ k. ComeToldAlike (tells_of asks) (race_of c) d.shows k) (sym f.shows) (subst (λ k. ComeToldAlike (tells_of asks) (race_of c) k os) (sym h.shows) alike));
        among = Contains-append_left d.members m.members d.shows h.among;
        number = told-both (length d.members) (length m.members) one other new h.number f.number e ∙ ap told_number (sym (members-long d m));
      }

  stand-joined : (n k : ℕ) (classes : List Class) (ds : List Merged) (old new : Class) (os : List Move) (other : ℕ) (m : Merged) → StandFor asks (race_of c) n classes ds
      → slice_get classes k ≡ Some old → new.moves ≡ old.moves → new.number ≡ min (old.number + other) (2 ^ 64 - 1) → StandsFor asks (race_of c) n os other m
      → ComeToldAlike (tells_of asks) (race_of c) (shown_by old) os → StandFor asks (race_of c) n (set classes k new) (joined k m ds) × (k < length ds)
  stand-joined n k [] ds old new os other m h at moves number is alike = absurd (cc)
  stand-joined n k (x ∷ classes) [] old new os other m h at moves number is alike = absurd h
  stand-joined n zero (x ∷ classes) (d ∷ ds) old new os other m h at moves number is alike =
      let same : x ≡ old = cc in
      let one : StandsFor asks (race_of c) n (shown_by old) old.number d = subst (λ (k : Class). StandsFor asks (race_of c) n (shown_by k) k.number d) same h.0 in
      let joint = stands-joined n (shown_by old) os old.number other new.number d m one is alike number in
      ((subst (λ v. StandsFor asks (race_of c) n (reverse v.items) new.number (record { shows = d.shows; members = d.members ++ m.members })) (sym moves) joint, h.1), omega arith)
  stand-joined n (suc k) (x ∷ classes) (d ∷ ds) old new os other m h at moves number is alike =
      let rest = stand-joined n k classes ds old new os other m h.1 at moves number is alike in
      ((h.0, rest.0), (let lt = rest.1 in omega (arith, lt)))

  -- each history of a class that shows an end is whole, and comes to the same
  module _ (n : ℕ) (ms : List Move) (number : ℕ) (m : Merged) (is : StandsFor asks (race_of c) n ms number m) where
    members-whole : next_behind (race_of c) ms ≡ [] → All (IsWhole (race_of c)) m.members
    members-whole none =
        let next = (levels-of-merged-go-on (tells_of asks) r (tells-on asks) (is-race c)).0.next n m is.merged in
        λ k d lt. ((is.merged.members k d lt).history, next k d lt ∙ ap (next_behind (race_of c)) is.shows ∙ none)

    members-alike : All (λ (k : List Move). ComeToldAlike (tells_of asks) (race_of c) ms k) m.members
    members-alike k d lt =
        subst (λ (shows : List Move). ComeToldAlike (tells_of asks) (race_of c) shows (get_or m.members k d)) is.shows (is.merged.members k d lt).alike

    -- and to the same outcome, or where claims are asked to the same facts
    members-come : asks ≡ false → All (λ (k : List Move). comes c k ≡ comes c ms) m.members
    members-come no_ k d lt =
        sym (comes-the-same places-tell-the-same c ms (get_or m.members k d) (subst (λ (by : Bool). ComeToldAlike (tells_of by) (race_of c) ms (get_or m.members k d)) no_ (members-alike k d lt)))

    pub members-facts : asks ≡ true → All (λ (k : List Move). facts_at c k ≡ facts_at c ms) m.members
    members-facts asking k d lt =
        sym (facts-the-same nets-tell-the-same c ms (get_or m.members k d) (subst (λ (by : Bool). ComeToldAlike (tells_of by) (race_of c) ms (get_or m.members k d)) asking (members-alike k d lt)))

    members-to : (tell : List Move → List ℕ) → All (λ (k : List Move). tell k ≡ tell ms) m.members → ComeTo tell (tell ms) ms number m.members
    members-to tell come = record {
      come = come;
      among = subst (Contains m.members) is.shows is.among;
      least = λ k d lt.
          (let a = is.merged.long in
          let b : length m.shows ≡ length ms = ap length is.shows in
          let e = (is.merged.members k d lt).long in
          omega (arith, a, b, e));
      number = is.number;
    }

  -- and so it goes on
  pub stands-on : (n : ℕ) (ms : List Move) (number : ℕ) (m : Merged) (mv : Move) → StandsFor asks (race_of c) n ms number m → Contains (next_behind (race_of c) ms) mv
      → StandsFor asks (race_of c) (suc n) (mv ∷ ms) number (with_move mv m)
  stands-on n ms number m mv is listed = record {
    shows = ap (λ k. mv ∷ k) is.shows;
    merged = (levels-of-merged-go-on (tells_of asks) r (tells-on asks) (is-race c)).0.go_on n m mv is.merged (subst (λ k. Contains (next_behind (race_of c) k) mv) (sym is.shows) listed);
    among = contains-map (λ (h : List Move). mv ∷ h) m.members m.shows is.among;
    number = is.number ∙ ap told_number (sym (length-map m.members (λ (h : List Move). mv ∷ h)));
  }

-- the history that a class shows is among those for which the classes stand
shown-among : (asks : Bool) (r : Race) (n : ℕ) (classes : List Class) (ms : List Merged) (k : ℕ) (class : Class) → StandFor asks r n classes ms → slice_get classes k ≡ Some class
    → Contains (all_members ms) (shown_by class)
shown-among asks r n [] ms k class h e = absurd (cc)
shown-among asks r n (x ∷ classes) [] k class h e = absurd h
shown-among asks r n (x ∷ classes) (m ∷ ms) zero class h e =
    subst (λ (y : Class). Contains (m.members ++ all_members ms) (shown_by y)) (some-is x class e)
    (Contains-append_left m.members (all_members ms) (shown_by x) (subst (Contains m.members) h.0.shows h.0.among))
shown-among asks r n (x ∷ classes) (m ∷ ms) (suc k) class h e = Contains-append_right m.members (all_members ms) (shown_by class) (shown-among asks r n classes ms k class h.1 e)

module _ (c : Scene) (asked : Asked) (n : ℕ) where
  -- The same histories, in another order.

  same-joined : (ds : List Merged) (ends pending : List (List Move)) (k : ℕ) (m : Merged) → k < length ds → SameHistories (all_members ds ++ ends ++ (m.members ++ pending)) (histories_of (race_of c) n)
      → SameHistories (all_members (joined k m ds) ++ ends ++ pending) (histories_of (race_of c) n)
  same-joined ds ends pending k m lt h ask =
      let all = h ask in
      let a = sum_by-append ask (all_members ds ++ ends) (m.members ++ pending) in
      let b = sum_by-append ask (all_members ds) ends in
      let e = sum_by-append ask m.members pending in
      let f = sum_by-append ask (all_members (joined k m ds) ++ ends) pending in
      let g = sum_by-append ask (all_members (joined k m ds)) ends in
      let j = joined-sum ask k m ds lt in
      omega (arith, all, a, b, e, f, g, j)

  same-pushed : (ds : List Merged) (ends pending : List (List Move)) (m : Merged) → SameHistories (all_members ds ++ ends ++ (m.members ++ pending)) (histories_of (race_of c) n)
      → SameHistories (all_members (ds ++ m ∷ []) ++ ends ++ pending) (histories_of (race_of c) n)
  same-pushed ds ends pending m h ask =
      let all = h ask in
      let a = sum_by-append ask (all_members ds ++ ends) (m.members ++ pending) in
      let b = sum_by-append ask (all_members ds) ends in
      let e = sum_by-append ask m.members pending in
      let f = sum_by-append ask (all_members (ds ++ m ∷ []) ++ ends) pending in
      let g = sum_by-append ask (all_members (ds ++ m ∷ [])) ends in
      let j = pushed ds in
      omega (arith, all, a, b, e, f, g, j)
    where
      pushed : (xs : List Merged) → sum_by ask (all_members (xs ++ m ∷ [])) ≡ sum_by ask (all_members xs) + sum_by ask m.members
      pushed [] =
          let a = sum_by-append ask m.members [] in omega (arith, a)
      pushed (x ∷ xs) =
          let a = sum_by-append ask x.members (all_members (xs ++ m ∷ [])) in
          let b = sum_by-append ask x.members (all_members xs) in
          let e = pushed xs in
          omega (arith, a, b, e)

  same-ended : (ds : List Merged) (ends pending members : List (List Move)) → SameHistories (all_members ds ++ ends ++ (members ++ pending)) (histories_of (race_of c) n)
      → SameHistories (all_members ds ++ (ends ++ members) ++ pending) (histories_of (race_of c) n)
  same-ended ds ends pending members h =
      subst (λ xs. SameHistories xs (histories_of (race_of c) n))
      (sym (append_assoc (all_members ds ++ ends) members pending) ∙ ap (λ xs. xs ++ pending) (append_assoc (all_members ds) ends members)) h

  -- The whole histories of the level are as long.

  abbrev off-by : ℕ → List Move → ℕ
  off-by m h = cond (length h == m) 0 1

  none-off : (m : ℕ) (hs : List (List Move)) → ((h : List Move) → Contains hs h → length h ≡ m) → sum_by (off-by m) hs ≡ 0
  none-off m [] all = refl
  none-off m (h ∷ hs) all =
      let a = sum_by-cons (off-by m) h hs in
      let one : off-by m h ≡ 0 = ap (λ (b : Bool). cond b 0 1) (eq-eqb (length h) m (all h (here h hs))) in
      let rest = none-off m hs (λ k i. all k (there k h hs i)) in
      omega (arith, a, one, rest)

  as-long : (m : ℕ) (hs : List (List Move)) → sum_by (off-by m) hs ≡ 0 → (h : List Move) → Contains hs h → length h ≡ m
  as-long m [] e h i = absurd (none h i)
  as-long m (k ∷ hs) e h i = by (which h k hs i) (length k == m) refl (as-long m hs)
    where
      sums : sum_by (off-by m) (k ∷ hs) ≡ off-by m k + sum_by (off-by m) hs
      sums = sum_by-cons (off-by m) k hs

      by : (k ≡ h) ⊎ Contains hs h → (b : Bool) → (length k == m) ≡ b → (sum_by (off-by m) hs ≡ 0 → (z : List Move) → Contains hs z → length z ≡ m) → length h ≡ m
      by (inl same) true f ih = ap length (sym same) ∙ eqb-true (length k) m f
      by (inl same) false f ih = absurd (let one : off-by m k ≡ 1 = ap (λ (b : Bool). cond b 0 1) f in let a = sums in omega (arith, e, a, one))
      by (inr j) b f ih = ih (let a = sums in omega (arith, e, a)) h j

  ends-long : (s : Search) (pending : List (List Move)) → (w : IsWithin c asked n pending s) → (h : List Move) → Contains w.ends h → length h ≡ n
  ends-long s pending w h i =
      let all = w.all (off-by n) in
      let listed = none-off n (histories_of (race_of c) n) (λ k j. (no-other (race_of c) n k j).1) in
      let a = sum_by-append (off-by n) (all_members w.merged ++ w.ends) pending in
      let b = sum_by-append (off-by n) (all_members w.merged) w.ends in
      as-long n w.ends (omega (arith, all, listed, a, b)) h i

  -- A position is come to.

  module _ (s t : Search) (ms : List Move) (number : ℕ) (m : Merged) (is : StandsFor (asks_of asked) (race_of c) n ms number m) where
    -- none that was found is longer
    later : (pending : List (List Move)) → (w : IsWithin c asked n (m.members ++ pending) s) → AreLater (w.before ++ w.ends) m.members
    later pending w =
        All-append (λ (g : List Move). All (λ (k : List Move). length g ≤ length k) m.members) w.before w.ends
        (λ i d lt j e within. (let a = (w.found.whole i d lt).1 in let b = (is.merged.members j e within).long in omega (arith, a, b)))
        (λ i d lt j e within.
        (let a = ends-long s (m.members ++ pending) w (get_or w.ends i d) (Contains-get_or w.ends i d lt) in
        let b = (is.merged.members j e within).long in
        omega (arith, a, b)))

    -- where no outcomes are told claims are asked
    told-only : asked.tells ≡ true → asks_of asked ≡ false
    told-only e = ap not e

    -- the histories are whole
    pub ended : next_behind (race_of c) ms ≡ []
        → (asked.tells ≡ true → Counts (comes c ms) ms number s.explored.findings.items.items t.explored.findings.items.items)
        → (asks_of asked ≡ true → JudgesAll true asked.claims.now (facts_at c ms) ms s.explored.judged.items t.explored.judged.items)
        → t.explored.histories ≡ min (s.explored.histories + number) (2 ^ 64 - 1) → t.explored.events ≡ s.explored.events → t.explored.is_cut ≡ s.explored.is_cut → t.explored.bound ≡ s.explored.bound → t.next ≡ s.next
        → Come c asked n m.members s t
    ended none counts judges histories events cut bound next pending w =
        record {
          before = w.before;
          ends = w.ends ++ m.members;
          merged = w.merged;
          has = subst (λ xs. HasFound c asked xs t.explored) (append_assoc w.before w.ends m.members) (record {
            findings = λ tells. counts tells (comes c) (w.before ++ w.ends) m.members
                (members-to (asks_of asked) c n ms number m is (comes c) (members-come (asks_of asked) c n ms number m is (told-only tells))) (w.has.findings tells);
            histories = told-both (length (w.before ++ w.ends)) (length m.members) s.explored.histories number t.explored.histories w.has.histories is.number histories
                ∙ ap told_number (sym (length-append (w.before ++ w.ends) m.members));
            events = (let a = w.has.events in omega (arith, a, events));
          });
          found = w.found;
          watched = λ yes. subst (λ (es : List (List Move)). IsWatching c asked.claims.now n pending es t.explored.judged.items) (append_assoc w.before w.ends m.members)
              (go-on c asked.claims.now true n m.members pending (w.before ++ w.ends) (facts_at c ms) ms number s.explored.judged.items t.explored.judged.items (w.watched yes)
              (members-to (asks_of asked) c n ms number m is (facts_at c) (members-facts (asks_of asked) c n ms number m is yes))
              (λ k d lt. (is.merged.members k d lt).long) (later pending w) (judges yes));
          whole = All-append (IsWhole (race_of c)) w.ends m.members w.whole (members-whole (asks_of asked) c n ms number m is none);
          stand = subst (λ v. StandFor (asks_of asked) (race_of c) n v.items w.merged) (sym next) w.stand;
          go_on = w.go_on;
          all = same-ended w.merged w.ends pending m.members w.all;
          uncut = cut ∙ w.uncut;
          bound = bound ∙ w.bound;
        }

    class-facts : asks_of asked ≡ true → (old : Class) → ComeToldAlike (tells_of (asks_of asked)) (race_of c) (shown_by old) ms → facts_at c (shown_by old) ≡ facts_at c ms
    class-facts asking old alike =
        facts-the-same nets-tell-the-same c (shown_by old) ms (subst (λ (by : Bool). ComeToldAlike (tells_of by) (race_of c) (shown_by old) ms) asking alike)

    -- they are put to a class
    pub put-to : (k : ℕ) (old new : Class) → slice_get s.next.items k ≡ Some old → new.moves ≡ old.moves → new.number ≡ min (old.number + number) (2 ^ 64 - 1)
        → ComeToldAlike (tells_of (asks_of asked)) (race_of c) (shown_by old) ms → t.explored ≡ s.explored → t.next.items ≡ set s.next.items k new → Come c asked n m.members s t
    put-to k old new at moves number-is alike same next pending w =
        let both = stand-joined (asks_of asked) c n k s.next.items w.merged old new ms number m w.stand at moves number-is is alike in
        record {
          before = w.before;
          ends = w.ends;
          merged = joined k m w.merged;
          has = subst (HasFound c asked (w.before ++ w.ends)) (sym same) w.has;
          watched = λ yes. subst (λ (e : Explored). IsWatching c asked.claims.now n pending (w.before ++ w.ends) e.judged.items) (sym same)
              (see-again c asked.claims.now n m.members pending (w.before ++ w.ends) (shown_by old) s.explored.judged.items (w.watched yes)
              (came-too (all_members w.merged ++ w.ends) (w.watched yes).come (m.members ++ pending) (histories_of (race_of c) n) w.all (w.watched yes).all (shown_by old)
              (Contains-append_left (all_members w.merged) w.ends (shown_by old) (shown-among (asks_of asked) (race_of c) n s.next.items w.merged k old w.stand at)))
              (λ i d lt. (members-facts (asks_of asked) c n ms number m is yes i d lt ∙ sym (class-facts yes old alike), (is.merged.members i d lt).long)));
          found = w.found;
          whole = w.whole;
          stand = subst (λ xs. StandFor (asks_of asked) (race_of c) n xs (joined k m w.merged)) (sym next) both.0;
          go_on = joined-go (race_of c) k m w.merged w.go_on;
          all = same-joined w.merged w.ends pending k m both.1 w.all;
          uncut = ap (λ (e : Explored). e.is_cut) same ∙ w.uncut;
          bound = ap (λ (e : Explored). e.bound) same ∙ w.bound;
        }

    -- they are a class of their own
    pub put-last : (class : Class) → shown_by class ≡ ms → class.number ≡ number → (next_behind (race_of c) ms ≡ [] → ⊥)
        → (asks_of asked ≡ true → JudgesAll false asked.claims.now (facts_at c ms) ms s.explored.judged.items t.explored.judged.items)
        → t.explored ≡ record s.explored { judged = t.explored.judged } → t.next.items ≡ s.next.items ++ class ∷ [] → Come c asked n m.members s t
    put-last class moves number-is goes judges same next pending w =
        let stands : StandsFor (asks_of asked) (race_of c) n (shown_by class) class.number m =
        subst (λ ks. StandsFor (asks_of asked) (race_of c) n ks class.number m) (sym moves) (subst (λ k. StandsFor (asks_of asked) (race_of c) n ms k m) (sym number-is) is) in
        record {
          before = w.before;
          ends = w.ends;
          merged = w.merged ++ m ∷ [];
          has = subst (HasFound c asked (w.before ++ w.ends)) (sym same) (record { findings = w.has.findings; histories = w.has.histories; events = w.has.events });
          watched = λ yes.
              go-on c asked.claims.now false n m.members pending (w.before ++ w.ends) (facts_at c ms) ms number s.explored.judged.items t.explored.judged.items (w.watched yes)
              (members-to (asks_of asked) c n ms number m is (facts_at c) (members-facts (asks_of asked) c n ms number m is yes))
              (λ k d lt. (is.merged.members k d lt).long) (later pending w) (judges yes);
          found = w.found;
          whole = w.whole;
          stand = subst (λ xs. StandFor (asks_of asked) (race_of c) n xs (w.merged ++ m ∷ [])) (sym next) (stand-push (asks_of asked) (race_of c) n s.next.items w.merged class m w.stand stands);
          go_on = All-append (λ (d : Merged). IsEnd (race_of c) d.shows → ⊥) w.merged (m ∷ []) w.go_on
              (All-cons (λ (d : Merged). IsEnd (race_of c) d.shows → ⊥) m [] (λ e. goes (ap (next_behind (race_of c)) (sym is.shows) ∙ e)) (All-nil (λ (d : Merged). IsEnd (race_of c) d.shows → ⊥)));
          all = same-pushed w.merged w.ends pending m w.all;
          uncut = ap (λ (e : Explored). e.is_cut) same ∙ w.uncut;
          bound = ap (λ (e : Explored). e.bound) same ∙ w.bound;
        }

  -- What is not looked at may change: of what was found only the events, and they rise within the limit.
  pub come-by : (s t : Search) (pending : List (List Move)) → t.explored.findings ≡ s.explored.findings → t.explored.judged ≡ s.explored.judged → t.explored.histories ≡ s.explored.histories → t.explored.events ≤ asked.most
      → t.explored.is_cut ≡ s.explored.is_cut → t.explored.bound ≡ s.explored.bound → t.next ≡ s.next → IsWithin c asked n pending s → IsWithin c asked n pending t
  come-by s t pending findings judged histories events cut bound next w = record {
    before = w.before;
    ends = w.ends;
    merged = w.merged;
    has = record {
      findings = λ tells. subst (λ (fs : _). AreFindings (comes c) (w.before ++ w.ends) fs.items.items) (sym findings) (w.has.findings tells);
      histories = histories ∙ w.has.histories;
      events = events;
    };
    watched = λ yes. subst (λ (js : _). IsWatching c asked.claims.now n pending (w.before ++ w.ends) js.items) (sym judged) (w.watched yes);
    found = w.found;
    whole = w.whole;
    stand = subst (λ v. StandFor (asks_of asked) (race_of c) n v.items w.merged) (sym next) w.stand;
    go_on = w.go_on;
    all = w.all;
    uncut = cut ∙ w.uncut;
    bound = bound ∙ w.bound;
  }

  pub same-within : (s t : Search) (pending : List (List Move)) → t.explored ≡ s.explored → t.next ≡ s.next → IsWithin c asked n pending s → IsWithin c asked n pending t
  same-within s t pending same next w =
      come-by s t pending (ap (λ (e : Explored). e.findings) same) (ap (λ (e : Explored). e.judged) same) (ap (λ (e : Explored). e.histories) same)
      (let a = w.has.events in let b : t.explored.events ≡ s.explored.events = ap (λ (e : Explored). e.events) same in omega (arith, a, b)) (ap (λ (e : Explored). e.is_cut) same) (ap (λ (e : Explored). e.bound) same) next w

  -- So none goes beyond the bound, and none is missing before it.
  pub none-beyond : (s : Search) (pending : List (List Move)) → (w : IsWithin c asked n pending s) → All (λ (h : List Move). length h ≤ s.explored.bound) (w.before ++ w.ends)
  none-beyond s pending w =
      All-append (λ (h : List Move). length h ≤ s.explored.bound) w.before w.ends
      (λ i d lt. (let a = (w.found.whole i d lt).1 in let b = w.bound in omega (arith, a, b)))
      (λ i d lt. (let a = ends-long s pending w (get_or w.ends i d) (Contains-get_or w.ends i d lt) in let b = w.bound in omega (arith, a, b)))

  all-within : (s : Search) (pending : List (List Move)) → (w : IsWithin c asked n pending s) → (h : List Move) → IsWhole (race_of c) h → length h < s.explored.bound
      → Contains (w.before ++ w.ends) h
  all-within s pending w h whole lt = Contains-append_left w.before w.ends h (w.found.every h whole (let b = w.bound in omega (arith, lt, b)))

  -- From a history that is pending none of those found goes on.
  pub left-out : (s : Search) (pending : List (List Move)) → (w : IsWithin c asked n pending s) → (p : List Move) → IsHistory (replaying (race_of c)) p → length p ≡ n → Contains pending p
      → LeavesOut (race_of c) s.explored.bound (w.before ++ w.ends)
  left-out s pending w p history long among = record {
    moves = p;
    history = history;
    long = long ∙ sym w.bound;
    out = λ more i.
        (let le = All-contains (λ (h : List Move). length h ≤ s.explored.bound) (w.before ++ w.ends) (more ++ p) (none-beyond s pending w) i in
        let b = w.bound in
        let l = length-append more p in
        let nothing : more ≡ [] = nil_from_length more (omega (arith, le, b, l, long)) in
        apart (w.before ++ w.ends) pending (subst AreOnce (sym (append_assoc w.before w.ends pending)) all-once) p (subst (λ xs. Contains (w.before ++ w.ends) (xs ++ p)) nothing i) among);
  }
    where
      all-once : AreOnce (w.before ++ (w.ends ++ pending))
      all-once =
          let here-are = append-nil (all_members w.merged ++ (w.ends ++ pending)) ∙ sym (append_assoc (all_members w.merged) w.ends pending) in
          front-once (race_of c) n w.before (all_members w.merged) (w.ends ++ pending) [] w.found (subst (λ xs. SameHistories xs (histories_of (race_of c) n)) (sym here-are) w.all)

  -- It is cut off.
  cut-by : (s t : Search) (pending : List (List Move)) → t.explored ≡ record s.explored { is_cut = true } → IsCut c asked s.explored
      → (w : IsWithin c asked n pending s) → LeavesOut (race_of c) s.explored.bound (w.before ++ w.ends) → IsOver c asked t.explored
  cut-by s t pending same why w out = subst (IsOver c asked) (sym same) (record {
    found = w.before ++ w.ends;
    pending = pending;
    has = record { findings = w.has.findings; histories = w.has.histories; events = w.has.events };
    watched = λ yes. subst (λ (b : ℕ). IsWatching c asked.claims.now b pending (w.before ++ w.ends) s.explored.judged.items) (sym w.bound) (w.watched yes);
    none_pending = λ k. absurd (false≢true (sym k));
    whole = All-append (IsWhole (race_of c)) w.before w.ends
        (All-weaker (λ (h : List Move). IsWhole (race_of c) h × (length h < n)) (IsWhole (race_of c)) (λ h is. is.0) w.before w.found.whole) w.whole;
    once = front-once (race_of c) n w.before (all_members w.merged) w.ends pending w.found w.all;
    bounded = all-within s pending w;
    within = none-beyond s pending w;
    every = λ k. absurd (false≢true (sym k));
    cut = λ k. by why;
    out = λ k. out;
  })
    where
      by : IsCut c asked s.explored → IsCut c asked (record s.explored { is_cut = true })
      by (inl limit) = inl limit
      by (inr settled) = inr (record { untold = settled.untold; failed = settled.failed })

  pub cut-off : (s t : Search) (pending : List (List Move)) → t.explored ≡ record s.explored { is_cut = true } → IsEnough asked s.explored
      → (p : List Move) → IsHistory (replaying (race_of c)) p → length p ≡ n → Contains pending p → IsWithin c asked n pending s → IsOver c asked t.explored
  cut-off s t pending same enough p history long among w =
      cut-by s t pending same (by enough) w (left-out s pending w p history long among)
    where
      by : IsEnough asked s.explored → IsCut c asked s.explored
      by (inl full) = inl (inl (let a = w.has.events in omega (arith, a, full)))
      by (inr settled) = inr settled

  -- Several histories come, one after the other.

  pub come-none : (s : Search) → Come c asked n [] s s
  come-none s pending w = w

  pub come-both : (hs ks : List (List Move)) (s t u : Search) → Come c asked n hs s t → Come c asked n ks t u → Come c asked n (hs ++ ks) s u
  come-both hs ks s t u one two pending w =
      two pending (one (ks ++ pending) (subst (λ xs. IsWithin c asked n xs s) (append_assoc hs ks pending) w))

-- A level begins, and the search is over where no class is left.

module _ (c : Scene) (asked : Asked) (n : ℕ) (s : Search) (w : IsWithin c asked n [] s) where
  abbrev all-of-level : SameHistories (all_members w.merged ++ w.ends) (histories_of (race_of c) n)
  all-of-level = subst (λ xs. SameHistories xs (histories_of (race_of c) n)) (append-nil (all_members w.merged ++ w.ends)) w.all

  merged-are : (classes : List Class) (ms : List Merged) → StandFor (asks_of asked) (race_of c) n classes ms → All (IsMerged (tells_of (asks_of asked)) (race_of c) n) ms
  merged-are [] [] h = All-nil (IsMerged (tells_of (asks_of asked)) (race_of c) n)
  merged-are [] (m ∷ ms) h = absurd h
  merged-are (k ∷ classes) [] h = absurd h
  merged-are (k ∷ classes) (m ∷ ms) h = All-cons (IsMerged (tells_of (asks_of asked)) (race_of c) n) m ms h.0.merged (merged-are classes ms h.1)

  pub is-level : IsLevel (tells_of (asks_of asked)) (race_of c) n w.merged w.ends
  is-level = record {
    merged = merged-are s.next.items w.merged w.stand;
    end = All-weaker (IsWhole (race_of c)) (IsEnd (race_of c)) (λ h is. is.1) w.ends w.whole;
    all = all-of-level;
  }

  abbrev now-found : AreFound (race_of c) (suc n) (w.before ++ w.ends)
  now-found = (levels-of-merged-find-all (tells_of (asks_of asked)) (race_of c) (tells-on (asks_of asked)) (is-race c)).more n w.merged w.ends w.before w.found is-level w.go_on

  pub level-begins : (t : Search) (bound : ℕ) → bound ≡ suc n → t.explored ≡ record s.explored { bound = bound } → t.next.items ≡ []
      → IsWithin c asked (suc n) (next_members (race_of c) w.merged) t
  level-begins t bound is same next = record {
    before = w.before ++ w.ends;
    ends = [];
    merged = [];
    has = subst (HasFound c asked ((w.before ++ w.ends) ++ [])) (sym same)
        (subst (λ xs. HasFound c asked xs (record s.explored { bound = bound })) (sym (append-nil (w.before ++ w.ends)))
        (record { findings = w.has.findings; histories = w.has.histories; events = w.has.events }));
    watched = λ yes. subst (λ (e : Explored). IsWatching c asked.claims.now (suc n) (next_members (race_of c) w.merged) ((w.before ++ w.ends) ++ []) e.judged.items) (sym same)
        (subst (λ (es : List (List Move)). IsWatching c asked.claims.now (suc n) (next_members (race_of c) w.merged) es s.explored.judged.items) (sym (append-nil (w.before ++ w.ends)))
        (rise c asked.claims.now n (w.before ++ w.ends) s.explored.judged.items (w.watched yes) (next_members (race_of c) w.merged)
        ((levels-of-merged-go-on (tells_of (asks_of asked)) (race_of c) (tells-on (asks_of asked)) (is-race c)).1 n w.merged w.ends is-level)));
    found = now-found;
    whole = All-nil (IsWhole (race_of c));
    stand = subst (λ xs. StandFor (asks_of asked) (race_of c) (suc n) xs []) (sym next) tt;
    go_on = All-nil (λ (m : Merged). IsEnd (race_of c) m.shows → ⊥);
    all = (levels-of-merged-go-on (tells_of (asks_of asked)) (race_of c) (tells-on (asks_of asked)) (is-race c)).1 n w.merged w.ends is-level;
    uncut = ap (λ (e : Explored). e.is_cut) same ∙ w.uncut;
    bound = ap (λ (e : Explored). e.bound) same ∙ is;
  }

  pub none-merged : (classes : List Class) (ms : List Merged) → StandFor (asks_of asked) (race_of c) n classes ms → classes ≡ [] → ms ≡ []
  none-merged [] [] h e = refl
  none-merged [] (m ∷ ms) h e = absurd h
  none-merged (k ∷ classes) ms h e = absurd (cc)

  pub search-ends : s.next.items ≡ [] → IsOver c asked s.explored
  search-ends none-left =
      let nothing = none-merged s.next.items w.merged w.stand none-left in
      let level = subst (λ ms. IsLevel (tells_of (asks_of asked)) (race_of c) n ms w.ends) nothing is-level in
      record {
        found = w.before ++ w.ends;
        pending = [];
        has = w.has;
        watched = λ yes. subst (λ (b : ℕ). IsWatching c asked.claims.now b [] (w.before ++ w.ends) s.explored.judged.items) (sym w.bound) (w.watched yes);
        none_pending = λ k. refl;
        whole = All-weaker (λ (h : List Move). IsWhole (race_of c) h × (length h < suc n)) (IsWhole (race_of c)) (λ h is. is.0) (w.before ++ w.ends) now-found.whole;
        once = now-found.once;
        bounded = all-within c asked n s [] w;
        within = none-beyond c asked n s [] w;
        cut = λ k. absurd (false≢true (sym w.uncut ∙ k));
        out = λ k. absurd (false≢true (sym w.uncut ∙ k));
        every = λ k. (levels-of-merged-find-all (tells_of (asks_of asked)) (race_of c) (tells-on (asks_of asked)) (is-race c)).all n w.ends w.before w.found level;
      }

-- a class that is left shows a history behind which more may come
long-one : (asks : Bool) (c : Scene) (n : ℕ) (classes : List Class) (ms : List Merged) → StandFor asks (race_of c) n classes ms → All (λ (m : Merged). IsEnd (race_of c) m.shows → ⊥) ms → (classes ≡ [] → ⊥) → n ≡ STEPS_LIMIT → IsLong c
long-one asks c n [] ms h go_on some is = absurd (some refl)
long-one asks c n (k ∷ classes) [] h go_on some is = absurd h
long-one asks c n (k ∷ classes) (m ∷ ms) h go_on some is = record {
  moves = m.shows;
  history = h.0.merged.history;
  long = h.0.merged.long ∙ is;
  goes_on = All-head (λ (d : Merged). IsEnd (race_of c) d.shows → ⊥) m ms go_on;
}

-- and none of those found goes on from it
long-out : (c : Scene) (asked : Asked) (n : ℕ) (s : Search) → (w : IsWithin c asked n [] s) → (long : IsLong c) → length long.moves ≡ n → LeavesOut (race_of c) s.explored.bound (w.before ++ w.ends)
long-out c asked n s w long is = record {
  moves = long.moves;
  history = long.history;
  long = is ∙ sym w.bound;
  out = λ more i.
      (let le = All-contains (λ (h : List Move). length h ≤ s.explored.bound) (w.before ++ w.ends) (more ++ long.moves) (none-beyond c asked n s [] w) i in
      let b = w.bound in
      let l = length-append more long.moves in
      let nothing : more ≡ [] = nil_from_length more (omega (arith, le, b, l, is)) in
      long.goes_on (All-contains (IsWhole (race_of c)) (w.before ++ w.ends) long.moves all-whole (subst (λ xs. Contains (w.before ++ w.ends) (xs ++ long.moves)) nothing i)).1);
}
  where
    all-whole : All (IsWhole (race_of c)) (w.before ++ w.ends)
    all-whole =
        All-append (IsWhole (race_of c)) w.before w.ends
        (All-weaker (λ (h : List Move). IsWhole (race_of c) h × (length h < n)) (IsWhole (race_of c)) (λ h is. is.0) w.before w.found.whole) w.whole

-- where the last level is come to it is over, cut off if a class is left
pub over-by : (c : Scene) (asked : Asked) (n : ℕ) (s : Search) → IsWithin c asked n [] s → n ≡ STEPS_LIMIT → (cut : Bool) → (cut ≡ false → s.next.items ≡ []) → (cut ≡ true → s.next.items ≡ [] → ⊥)
    → IsOver c asked (record s.explored { is_cut = cut })
over-by c asked n s w last true none some =
    let long = long-one (asks_of asked) c n s.next.items w.merged w.stand w.go_on (some refl) last in
    cut-by c asked n s (record s { explored = record s.explored { is_cut = true } }) [] refl (inl (inr long)) w (long-out c asked n s w long (long.long ∙ sym last))
over-by c asked n s w last false none some = subst (λ (e : Explored). IsOver c asked e) (λ i. record s.explored { is_cut = w.uncut i }) (search-ends c asked n s w (none refl))

-- The first position.

module _ (c : Scene) (asked : Asked) where
  abbrev pub root : Merged
  root = record { shows = []; members = [] ∷ [] }

  pub root-stands : StandsFor (asks_of asked) (race_of c) 0 [] 1 root
  root-stands = record {
    shows = refl;
    merged = record {
      history = tt;
      long = refl;
      members = All-cons (IsMember (tells_of (asks_of asked)) (race_of c) 0 []) [] [] (record { history = tt; long = refl; alike = (told-alike-is-an-equivalence (tells_of (asks_of asked)) (length (race_of c).scripts)).itself (position c []) }) (All-nil (IsMember (tells_of (asks_of asked)) (race_of c) 0 []));
    };
    among = here [] [];
    number = refl;
  }

  pub first-within : (s : Search) → s.explored.findings.items.items ≡ [] → AreJudged (facts_at c) [] [] asked.claims.now s.explored.judged.items → s.explored.histories ≡ 0 → s.explored.events ≡ 0 → s.explored.is_cut ≡ false → s.explored.bound ≡ 0 → s.next.items ≡ []
      → IsWithin c asked 0 ([] ∷ []) s
  first-within s findings judged histories events uncut bound next = record {
    before = [];
    ends = [];
    merged = [];
    has = record {
      findings = λ tells. subst (AreFindings (comes c) []) (sym findings) (none-found (comes c));
      histories = histories;
      events = omega (arith, events);
    };
    watched = λ yes. begins c asked.claims.now s.explored.judged.items judged;
    found = record { every = λ h whole lt. absurd (omega (arith, lt)); whole = All-nil (λ (h : List Move). IsWhole (race_of c) h × (length h < 0)); once = tt };
    whole = All-nil (IsWhole (race_of c));
    stand = subst (λ xs. StandFor (asks_of asked) (race_of c) 0 xs []) (sym next) tt;
    go_on = All-nil (λ (m : Merged). IsEnd (race_of c) m.shows → ⊥);
    all = λ ask. refl;
    uncut = uncut;
    bound = bound;
  }

-- A list by its place.

module _ {X Y : Type 0} (f : X → List Y) where
  pub flat-more : (xs : List X) (i : ℕ) (x : X) → slice_get xs i ≡ Some x → flat_map f (take (i + 1) xs) ≡ flat_map f (take i xs) ++ f x
  flat-more xs i x e = (let one : i + 1 ≡ suc i = omega arith in ap (λ (k : ℕ). flat_map f (take k xs)) one ∙ by xs i e)
    where
      by : (ys : List X) (k : ℕ) → slice_get ys k ≡ Some x → flat_map f (take (suc k) ys) ≡ flat_map f (take k ys) ++ f x
      by [] k g = absurd (cc)
      by (y ∷ ys) zero g = append-nil (f y) ∙ ap f (some-is y x g)
      by (y ∷ ys) (suc k) g = ap (λ zs. f y ++ zs) (by ys k g) ∙ sym (append_assoc (f y) (flat_map f (take k ys)) (f x))

  -- what is behind it
  pub flat-rest : (xs : List X) (i : ℕ) (x : X) → slice_get xs i ≡ Some x → (rest : List Y) × (flat_map f xs ≡ flat_map f (take i xs) ++ (f x ++ rest))
  flat-rest [] i x g = absurd (cc)
  flat-rest (y ∷ ys) zero x g = (flat_map f ys, ap (λ (z : X). f z ++ flat_map f ys) (some-is y x g))
  flat-rest (y ∷ ys) (suc k) x g =
      let rest = flat-rest ys k x g in
      (rest.0, ap (λ zs. f y ++ zs) rest.1 ∙ sym (append_assoc (f y) (flat_map f (take k ys)) (f x ++ rest.0)))

  pub flat-all : (xs : List X) (i : ℕ) → length xs ≤ i → flat_map f (take i xs) ≡ flat_map f xs
  flat-all [] i le = ap (flat_map f) (take-nil i)
    where
      take-nil : (k : ℕ) → take {A = X} k [] ≡ []
      take-nil zero = refl
      take-nil (suc k) = refl
  flat-all (y ∷ ys) zero le = absurd (omega (arith, le))
  flat-all (y ∷ ys) (suc k) le = ap (λ zs. f y ++ zs) (flat-all ys k (omega (arith, le)))

pub listed-at : {X : Type 0} (xs ys : List X) (i : ℕ) (x : X) → slice_get xs i ≡ Some x → xs ≡ ys → Contains ys x
listed-at xs ys i x e same = subst (λ zs. Contains zs x) same (by xs i e)
  where
    by : (zs : List _) (k : ℕ) → slice_get zs k ≡ Some x → Contains zs x
    by [] k g = absurd (cc)
    by (z ∷ zs) zero g = subst (λ y. Contains (z ∷ zs) y) (some-is z x g) (here z zs)
    by (z ∷ zs) (suc k) g = there x z zs (by zs k g)

-- the histories of the class that stands there
pub stand-at : (asks : Bool) (r : Race) (n : ℕ) (classes : List Class) (ms : List Merged) (i : ℕ) (class : Class) → StandFor asks r n classes ms → slice_get classes i ≡ Some class
    → (m : Merged) × ((slice_get ms i ≡ Some m) × StandsFor asks r n (shown_by class) class.number m)
stand-at asks r n [] ms i class h e = absurd (cc)
stand-at asks r n (k ∷ classes) [] i class h e = absurd h
stand-at asks r n (k ∷ classes) (m ∷ ms) zero class h e =
    (m, (refl, subst (λ (x : Class). StandsFor asks r n (shown_by x) x.number m) (some-is k class e) h.0))
stand-at asks r n (k ∷ classes) (m ∷ ms) (suc i) class h e = stand-at asks r n classes ms i class h.1 e

pub as-many-stand : (asks : Bool) (r : Race) (n : ℕ) (classes : List Class) (ms : List Merged) → StandFor asks r n classes ms → length ms ≡ length classes
as-many-stand asks r n [] [] h = refl
as-many-stand asks r n [] (m ∷ ms) h = absurd h
as-many-stand asks r n (k ∷ classes) [] h = absurd h
as-many-stand asks r n (k ∷ classes) (m ∷ ms) h = ap suc (as-many-stand asks r n classes ms h.1)

-- One class of a level goes on.

module _ (c : Scene) (asked : Asked) (n : ℕ) (classes : List Class) (ms : List Merged) (stand : StandFor (asks_of asked) (race_of c) n classes ms) (i : ℕ) (class : Class) (at : slice_get classes i ≡ Some class) (s t u : Search)
    (come : Come c asked (suc n) (next_members (race_of c) (take i ms)) s t) where
  abbrev it : (m : Merged) × ((slice_get ms i ≡ Some m) × StandsFor (asks_of asked) (race_of c) n (shown_by class) class.number m)
  it = stand-at (asks_of asked) (race_of c) n classes ms i class stand at

  abbrev on : List (List Move)
  on = going_on (next_behind (race_of c) (shown_by class)) it.0.members

  abbrev of-one : Merged → List (List Move)
  of-one m = going_on (next_behind (race_of c) m.shows) m.members

  on-is : of-one it.0 ≡ on
  on-is = ap (λ h. going_on (next_behind (race_of c) h) it.0.members) it.1.1.shows

  pub class-come : Come c asked (suc n) on t u → Come c asked (suc n) (next_members (race_of c) (take (i + 1) ms)) s u
  class-come next =
      subst (λ hs. Come c asked (suc n) hs s u) (sym (flat-more of-one ms i it.0 it.1.0 ∙ ap (λ hs. next_members (race_of c) (take i ms) ++ hs) on-is))
      (come-both c asked (suc n) (next_members (race_of c) (take i ms)) on s t u come next)

  pub class-cut : ((pending : List (List Move)) → IsWithin c asked (suc n) (on ++ pending) t → IsOver c asked u.explored)
      → (pending : List (List Move)) → IsWithin c asked (suc n) (next_members (race_of c) ms ++ pending) s → IsOver c asked u.explored
  class-cut cut pending w =
      let rest = flat-rest of-one ms i it.0 it.1.0 in
      let is : next_members (race_of c) ms ++ pending ≡ next_members (race_of c) (take i ms) ++ (on ++ (rest.0 ++ pending)) =
      ap (λ hs. hs ++ pending) (rest.1 ∙ ap (λ hs. next_members (race_of c) (take i ms) ++ (hs ++ rest.0)) on-is)
      ∙ append_assoc (next_members (race_of c) (take i ms)) (on ++ rest.0) pending ∙ ap (λ hs. next_members (race_of c) (take i ms) ++ hs) (append_assoc on rest.0 pending) in
      cut (rest.0 ++ pending) (come (on ++ (rest.0 ++ pending)) (subst (λ hs. IsWithin c asked (suc n) hs s) is w))

-- And one move of a class.

module _ (c : Scene) (asked : Asked) (n : ℕ) (moves : List Move) (members : List (List Move)) (i : ℕ) (mv : Move) (at : slice_get moves i ≡ Some mv) (s t u : Search)
    (come : Come c asked n (going_on (take i moves) members) s t) where
  abbrev by-one : Move → List (List Move)
  by-one m = going_by m members

  pub move-come : Come c asked n (going_by mv members) t u → Come c asked n (going_on (take (i + 1) moves) members) s u
  move-come next =
      subst (λ hs. Come c asked n hs s u) (sym (flat-more by-one moves i mv at))
      (come-both c asked n (going_on (take i moves) members) (going_by mv members) s t u come next)

  pub move-cut : ((pending : List (List Move)) → IsWithin c asked n (going_by mv members ++ pending) t → IsOver c asked u.explored)
      → (pending : List (List Move)) → IsWithin c asked n (going_on moves members ++ pending) s → IsOver c asked u.explored
  move-cut cut pending w =
      let rest = flat-rest by-one moves i mv at in
      let on = going_by mv members in
      let is : going_on moves members ++ pending ≡ going_on (take i moves) members ++ (going_by mv members ++ (rest.0 ++ pending)) =
      ap (λ hs. hs ++ pending) rest.1
      ∙ append_assoc (going_on (take i moves) members) (on ++ rest.0) pending ∙ ap (λ hs. going_on (take i moves) members ++ hs) (append_assoc on rest.0 pending) in
      cut (rest.0 ++ pending) (come (going_by mv members ++ (rest.0 ++ pending)) (subst (λ hs. IsWithin c asked n hs s) is w))
