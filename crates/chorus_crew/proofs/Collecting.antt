-- From the calls that share the jobs out to a full slot for each.
-- n is the nucleus, value what a message at its position is worth, jobs are all jobs.
use Rattle.std.proofs.Common.{◌≡◌, ℕ, zero, suc, ◌+◌, ◌<◌, Option, Some, None, List, [], ◌∷◌, ◌++◌, length, slice_get, slice_index_or, refl, sym, ap, ◌∙◌, subst, arith}
use Rattle.std.specs.List.{All, Contains}
use Rattle.std.specs.Global.{Global}
use Rattle.std.proofs.lemmas.List.Elements.{All-nil, All-cons, All-head, All-tail, All-contains, All-weaker}
use Rattle.atomic_blocks.specs.Lent.{RowsId}
use Rattle.crossbeam_deque.specs.Handles.{view, IsPassOf}
use Rattle.chorus_turn.specs.Lists.{times, one, somes}
use Rattle.chorus_turn.proofs.Counts.{times-append}
use Rattle.chorus_nucleus.specs.declared.nucleus.Nucleus.{Nucleus}
use Rattle.chorus_crew.specs.declared.job.Job.{Job}
use Rattle.chorus_crew.specs.declared.job.Done.{Done}
use Rattle.chorus_crew.specs.declared.rule.Share.{Share}
use Rattle.chorus_crew.specs.declared.worker.Hand.{Hand}
use Rattle.chorus_crew.specs.Handling.{Way}
use Rattle.chorus_crew.specs.Jobs.{IsJobOf, IsDoneOf, AreDoneOf, IsNumbered, indices}
use Rattle.chorus_crew.specs.Rule.{share}
use Rattle.chorus_crew.specs.Deals.{IsDealt, AreReady}
use Rattle.chorus_crew.specs.Hands.{Begins, Ends, AreSlots, Fills}
use Rattle.chorus_crew.proofs.Filling.{fills_are, slots_same}

-- what holds of all jobs holds of some of them
pub all-of : (P : Job → Type 0) (jobs some : List Job) → All P jobs → All (Contains jobs) some → All P some
all-of P jobs some all within = All-weaker (Contains jobs) P (λ j there. All-contains P jobs j all there) some within

numbers-from : (k : ℕ) (jobs : List Job) → ((i : ℕ) (j : Job) → slice_get jobs i ≡ Some j → j.index ≡ k + i) → (m : ℕ) → k + length jobs ≡ m → All (λ (j : Job). j.index < m) jobs
numbers-from k [] is m e = All-nil (λ (j : Job). j.index < m)
numbers-from k (j ∷ jobs) is m e =
    let here = is 0 j refl in
    All-cons (λ (x : Job). x.index < m) j jobs (omega (arith, here, e)) (numbers-from (suc k) jobs (λ i x at. let s = is (suc i) x at in omega (arith, s)) m (omega (arith, e)))

-- each number is below the count
pub numbers-within : (jobs : List Job) (m : ℕ) → IsNumbered jobs → m ≡ length jobs → All (λ (j : Job). j.index < m) jobs
numbers-within jobs m is e = numbers-from 0 jobs (λ i j at. let s = is i j at in omega (arith, s)) m (omega (arith, e))

-- The workers begin and end.

pub begins-all : {S : Type 0} (deque thief : RowsId × Global) (n : Nucleus) (put : List Job) (hands : List (Hand S)) → thief ≡ deque → All (IsJobOf n) put → AreReady deque put hands
    → All (λ (h : Hand S). Begins thief n (view h.hold).put h) hands
begins-all {S} deque thief n put hands same jobs ready =
    All-weaker (λ (h : Hand S). IsPassOf deque h.hold × (view h.hold ≡ share 1 put []) × (h.done.items ≡ [])) (λ (h : Hand S). Begins thief n (view h.hold).put h)
    (λ h r. let is : (view h.hold).put ≡ put = ap (λ (v : Share). v.put) r.1 in
    record {
      pass = subst (λ d. IsPassOf d h.hold) (sym same) r.0;
      view_is = r.1 ∙ ap (λ l. share 1 l []) (sym is);
      empty = r.2;
      jobs = subst (All (IsJobOf n)) (sym is) jobs;
    })
    hands ready

module _ {S : Type 0} (way : Way S) (n : Nucleus) where
  ends-each : (deque : RowsId × Global) (put : List Job) (old new : List (Hand S)) → length new ≡ length old → All (λ (h : Hand S). (view h.hold).put ≡ put) old
      → ((i : ℕ) (d : Hand S) → i < length old → Ends way deque n (view (slice_index_or old i d).hold).put (slice_index_or new i d)) → All (Ends way deque n put) new
  ends-each deque put [] [] e same ends = All-nil (Ends way deque n put)
  ends-each deque put [] (h ∷ new) e same ends = absurd (omega (arith, e))
  ends-each deque put (h ∷ old) [] e same ends = absurd (omega (arith, e))
  ends-each deque put (h ∷ old) (k ∷ new) e same ends =
      All-cons (Ends way deque n put) k new
      (subst (λ l. Ends way deque n l k) (All-head (λ (x : Hand S). (view x.hold).put ≡ put) h old same) (ends 0 h (omega arith)))
      (ends-each deque put old new (omega (arith, e)) (All-tail (λ (x : Hand S). (view x.hold).put ≡ put) h old same) (λ i d small. ends (suc i) d (omega (arith, small))))

  pub ends-all : (deque thief : RowsId × Global) (put : List Job) (old new : List (Hand S)) → thief ≡ deque → AreReady deque put old → length new ≡ length old
      → ((i : ℕ) (d : Hand S) → i < length old → Ends way thief n (view (slice_index_or old i d).hold).put (slice_index_or new i d)) → All (Ends way deque n put) new
  ends-all deque thief put old new same ready count ends =
      ends-each deque put old new count
      (All-weaker (λ (h : Hand S). IsPassOf deque h.hold × (view h.hold ≡ share 1 put []) × (h.done.items ≡ [])) (λ (h : Hand S). (view h.hold).put ≡ put) (λ h r. ap (λ (v : Share). v.put) r.1) old ready)
      (λ i d small. subst (λ z. Ends way z n (view (slice_index_or old i d).hold).put (slice_index_or new i d)) same (ends i d small))

  -- Slots.

  none-placed : (slots : List (Option (Done S))) → All (λ (s : Option (Done S)). s ≡ None) slots → (i : ℕ) (d : Done S) → slice_get slots i ≡ Some (Some d) → ⊥
  none-placed [] none i d at = cc
  none-placed (s ∷ slots) none zero d at = let e = All-head (λ (x : Option (Done S)). x ≡ None) s slots none in cc
  none-placed (s ∷ slots) none (suc i) d at = none-placed slots (All-tail (λ (x : Option (Done S)). x ≡ None) s slots none) i d at

  pub slots-none : (jobs : List Job) (taken : List ℕ) (slots : List (Option (Done S))) → taken ≡ [] → All (λ (s : Option (Done S)). s ≡ None) slots → AreSlots way n jobs taken slots
  slots-none jobs taken slots e none = record {
    placed = λ i d at. absurd (none-placed slots none i d at);
    full = λ i some. let z = ap (times i) e in absurd (omega (arith, some, z));
  }

  pub slots-wider : (put jobs : List Job) (taken : List ℕ) (slots : List (Option (Done S))) → All (Contains jobs) put → AreSlots way n put taken slots → AreSlots way n jobs taken slots
  slots-wider put jobs taken slots within s = record {
    placed = λ i d at. let p = s.placed i d at in (p.0, (p.1.0, All-contains (Contains jobs) put p.1.0 within p.1.1, p.1.2));
    full = s.full;
  }

  -- all jobs came into their slots: those that were put and those that were refused
  pub slots-all : (jobs refused : List Job) (v : Share) (before after : List (Option (Done S))) → IsDealt jobs v refused []
      → AreSlots way n v.put (indices v.put) before
      → (AreSlots way n jobs (indices v.put) before → Fills way n jobs (indices v.put) (indices refused) after)
      → AreSlots way n jobs (indices jobs) after
  slots-all jobs refused v before after d s fills =
      slots_same way n jobs (indices v.put ++ indices refused) (indices jobs) after
      (λ i. let t = times-append i (indices v.put) (indices refused) in let o = d.once i in omega (arith, t, o))
      (fills_are way n jobs (indices v.put) (indices refused) after (fills (slots-wider v.put jobs (indices v.put) before d.put s)))

  -- Each job in the slot of its number.

  there-all : (jobs : List Job) → All (λ (j : Job). (k : ℕ) × (slice_get jobs k ≡ Some j)) jobs
  there-all [] = All-nil (λ (j : Job). (k : ℕ) × (slice_get [] k ≡ Some j))
  there-all (x ∷ jobs) =
      All-cons (λ (j : Job). (k : ℕ) × (slice_get (x ∷ jobs) k ≡ Some j)) x jobs (0, refl)
      (All-weaker (λ (j : Job). (k : ℕ) × (slice_get jobs k ≡ Some j)) (λ (j : Job). (k : ℕ) × (slice_get (x ∷ jobs) k ≡ Some j)) (λ j t. (suc t.0, t.1)) jobs (there-all jobs))

  some-job : (a b : Job) → Some a ≡ Some b → a ≡ b
  some-job a b e = cc

  same-job : (jobs : List Job) → IsNumbered jobs → (i : ℕ) (j k : Job) → slice_get jobs i ≡ Some j → Contains jobs k → k.index ≡ i → k ≡ j
  same-job jobs is i j k at there number =
      let t = All-contains (λ (x : Job). (p : ℕ) × (slice_get jobs p ≡ Some x)) jobs k (there-all jobs) there in
      let place : t.0 ≡ i = sym (is t.0 k t.1) ∙ number in
      some-job k j (sym t.1 ∙ ap (slice_get jobs) place ∙ at)

  counted : (jobs : List Job) (i : ℕ) (j : Job) → slice_get jobs i ≡ Some j → j.index ≡ i → 0 < times i (indices jobs)
  counted jobs i j at e = by jobs i at
    where
      by : (xs : List Job) (p : ℕ) → slice_get xs p ≡ Some j → 0 < times i (indices xs)
      by [] p at = absurd (cc)
      by (x ∷ xs) zero at = let same : x ≡ j = some-job x j at in let o : one (Rattle.std.specs.Prelude.eqb x.index i) ≡ 1 = ap one (Rattle.std.proofs.Common.eq-eqb x.index i (ap (λ (y : Job). y.index) same ∙ e)) in omega (arith, o)
      by (x ∷ xs) (suc p) at = let more = by xs p at in omega (arith, more)

  pub each-done : (jobs : List Job) (slots : List (Option (Done S))) → IsNumbered jobs → AreSlots way n jobs (indices jobs) slots → (i : ℕ) (j : Job) → slice_get jobs i ≡ Some j
      → (d : Done S) × (slice_get slots i ≡ Some (Some d)) × IsDoneOf way n j d
  each-done jobs slots is s i j at =
      let f = s.full i (counted jobs i j at (is i j at)) in
      let p = s.placed i f.0 f.1 in
      let same : p.1.0 ≡ j = same-job jobs is i j p.1.0 at p.1.1 (sym p.1.2.index ∙ p.0) in
      (f.0, f.1, subst (λ (x : Job). IsDoneOf way n x f.0) same p.1.2)

  some-slot : (s : Option (Done S)) (t : Option (Done S)) → Some s ≡ Some t → s ≡ t
  some-slot s t e = cc

  collect : (jobs : List Job) (slots : List (Option (Done S))) → length slots ≡ length jobs
      → ((i : ℕ) (j : Job) → slice_get jobs i ≡ Some j → (d : Done S) × (slice_get slots i ≡ Some (Some d)) × IsDoneOf way n j d)
      → (dones : List (Done S)) × (slots ≡ somes dones) × AreDoneOf way n jobs dones
  collect [] [] e each = ([], refl, tt)
  collect [] (s ∷ slots) e each = absurd (omega (arith, e))
  collect (j ∷ jobs) [] e each = absurd (omega (arith, e))
  collect (j ∷ jobs) (s ∷ slots) e each =
      let here = each 0 j refl in
      let more = collect jobs slots (omega (arith, e)) (λ i x at. each (suc i) x at) in
      let is : s ≡ Some here.0 = some-slot s (Some here.0) here.1 in
      (here.0 ∷ more.0, (λ i. is i ∷ more.1 i), (here.2, more.2))

  pub collected : (jobs : List Job) (slots : List (Option (Done S))) → IsNumbered jobs → length slots ≡ length jobs → AreSlots way n jobs (indices jobs) slots
      → (dones : List (Done S)) × (slots ≡ somes dones) × AreDoneOf way n jobs dones
  collected jobs slots is count s = collect jobs slots count (each-done jobs slots is s)
