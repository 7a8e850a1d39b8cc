-- How many commands were done, round by round.
-- c is a scenario, k the number of a script, i its place.
use Rattle.std.proofs.Common.{ℕ, zero, suc, ◌≡◌, ◌<◌, ◌≤◌, ◌+◌, ◌-◌, ◌*◌, ◌⊎◌, Bool, true, false, cond, List, [], ◌∷◌, ◌++◌, length, map, replicate, get_or, set, sum, Some, slice_get, refl, sym, ◌∙◌, ap, subst, inl, inr, append-nil, arith}
use Rattle.std.specs.List.{flat_map, fold}
use Rattle.std.proofs.lemmas.Bool.{false≢true, le-ltb, lt-ltb}
use Rattle.std.proofs.lemmas.Grind.{get_or-set_at}
use Rattle.std.proofs.lemmas.List.Concat.{flat_map-append}
use Rattle.std.proofs.lemmas.Option.{slice_get_within}
use Rattle.chorus_ui.specs.Layout.{IsLayout}
use Rattle.chorus_entry.specs.declared.command.Command.{Command}
use Rattle.law_network.specs.Network.{NetState, numbers}
use Rattle.chorus_scene.specs.declared.limits.TheConstants.{COMMANDS_LIMIT, SCRIPTS_LIMIT}
use Rattle.chorus_scene.specs.Scene.{Scene, Script}
use Rattle.chorus_scene.specs.Grammar.{script_at}
use Rattle.chorus_scene.specs.Limits.{Keeps}
use Rattle.chorus_report.specs.Awaiting.{left_in, left_of}
use Rattle.chorus_show.specs.declared.stuck.Stuck.{Stuck}
use Rattle.chorus_replay.specs.Performing.{GoesFarther, GoesIf, IsAt, SomeGoes, Waits, Went, from_script}
use Rattle.chorus_replay.specs.Waiting.{Phase, InRound, IsScript, done_by, may_go_on}
use Rattle.chorus_replay.proofs.Answering.{script-is}
use Rattle.chorus_replay.proofs.Going.{core-at}
use Rattle.chorus_replay.proofs.May.{few-scripts}
use Rattle.chorus_replay.proofs.Standings.{script-at}

-- Sums.

sum-from : (a : ℕ) (xs : List ℕ) → fold ◌+◌ a xs ≡ a + sum xs
sum-from a [] = omega arith
sum-from a (x ∷ xs) = sum-from (a + x) xs ∙ turn a x (sum xs) ∙ ap (λ s. a + s) (sym (sum-from (0 + x) xs))
  where
    turn : (a x s : ℕ) → a + x + s ≡ a + (0 + x + s)
    turn a x s = omega arith

sum-first : (x : ℕ) (xs : List ℕ) → sum (x ∷ xs) ≡ x + sum xs
sum-first x xs = sum-from (0 + x) xs ∙ plain x (sum xs)
  where
    plain : (x s : ℕ) → 0 + x + s ≡ x + s
    plain x s = omega arith

sum-more : (xs : List ℕ) (i : ℕ) → i < length xs → sum (set xs i (get_or xs i 0 + 1)) ≡ sum xs + 1
sum-more [] i lt = absurd (omega (arith, lt))
sum-more (x ∷ xs) zero lt = sum-first (x + 1) xs ∙ turn x (sum xs) ∙ ap (λ s. s + 1) (sym (sum-first x xs))
  where
    turn : (x s : ℕ) → x + 1 + s ≡ x + s + 1
    turn x s = omega arith
sum-more (x ∷ xs) (suc i) lt =
    sum-first x (set xs i (get_or xs i 0 + 1)) ∙ ap (λ s. x + s) (sum-more xs i (omega (arith, lt))) ∙ turn x (sum xs) ∙ ap (λ s. s + 1) (sym (sum-first x xs))
  where
    turn : (x s : ℕ) → x + (s + 1) ≡ x + s + 1
    turn x s = omega arith

-- of each script at most so many
sum-most : (xs : List ℕ) → ((i : ℕ) → i < length xs → get_or xs i 0 ≤ COMMANDS_LIMIT) → sum xs ≤ length xs * COMMANDS_LIMIT
sum-most [] h = omega arith
sum-most (x ∷ xs) h =
    subst (λ s. s ≤ suc (length xs) * COMMANDS_LIMIT) (sym (sum-first x xs)) (bound x (sum xs) (length xs) (h 0 (omega arith)) (sum-most xs (λ i lt. h (suc i) (omega (arith, lt)))))
  where
    bound : (x s n : ℕ) → x ≤ COMMANDS_LIMIT → s ≤ n * COMMANDS_LIMIT → x + s ≤ suc n * COMMANDS_LIMIT
    bound x s n a b = omega arith

-- Farther.

module _ (c : Scene) (k : ℕ) where
  pub went-more : (before after : List ℕ) (old new : NetState) → k - 1 < length before → Went c k before after old new → sum after ≡ sum before + 1
  went-more before after old new lt w = ap sum w.done ∙ sum-more before (k - 1) lt

  -- as far as it came, or farther
  abbrev pub Stands : List ℕ → List ℕ → NetState → NetState → Type 0
  Stands before after old new = ((after ≡ before) × (new ≡ old)) ⊎ (sum before < sum after)

  pub stands-more : (first before after : List ℕ) (start old mid new : NetState) → k - 1 < length before → Stands first before start old → Went c k before after old mid → Stands first after start new
  stands-more first before after start old mid new lt (inl h) w =
      let more = went-more before after old mid lt w in
      let same = ap sum h.0 in inr (omega (arith, more, same))
  stands-more first before after start old mid new lt (inr h) w =
      let more = went-more before after old mid lt w in
      inr (omega (arith, more, h))

  pub stands-end : (first before after : List ℕ) (start old new : NetState) → Stands first before start old → Waits c k before after old new → GoesFarther c k first after start new
  stands-end first before after start old new (inl h) w =
      inr (record {
        may = ap (λ d. may_go_on c d k start) (sym h.0) ∙ ap (may_go_on c before k) (sym h.1) ∙ w.may;
        same = w.same ∙ h.1;
        done = w.done ∙ h.0;
      })
  stands-end first before after start old new (inr h) w =
      let same = ap sum w.done in inl (omega (arith, same, h))

-- Of a round: some command was done, or none of the scripts so far may go on.
module _ (c : Scene) (first : List ℕ) (start : NetState) where
  abbrev pub RoundStands : ℕ → List ℕ → NetState → Type 0
  RoundStands i done n =
      ((done ≡ first) × (n ≡ start) × ((k : ℕ) → IsScript c k → k ≤ i → may_go_on c first k start ≡ false))
      ⊎ (sum first < sum done)

  pub round-starts : RoundStands 0 first start
  round-starts = inl (refl, refl, λ k of le. absurd (let low = of.0 in omega (arith, low, le)))

  pub round-on : (i : ℕ) (done after : List ℕ) (old new : NetState) → RoundStands i done old → GoesFarther c (i + 1) done after old new → RoundStands (i + 1) after new
  round-on i done after old new (inl h) (inl more) = (let same = ap sum h.0 in inr (omega (arith, same, more)))
  round-on i done after old new (inr h) (inl more) = inr (omega (arith, h, more))
  round-on i done after old new (inr h) (inr w) = (let same = ap sum w.done in inr (omega (arith, same, h)))
  round-on i done after old new (inl h) (inr w) = inl (w.done ∙ h.0, w.same ∙ h.1, λ k of le. by k of le (below k))
    where
      below : (k : ℕ) → (k ≡ i + 1) ⊎ (k ≤ i) ⊎ (i + 1 < k)
      below k = grind arith

      here : may_go_on c first (i + 1) start ≡ false
      here = ap (λ d. may_go_on c d (i + 1) start) (sym h.0) ∙ ap (may_go_on c done (i + 1)) (sym h.1) ∙ w.may

      by : (k : ℕ) → IsScript c k → k ≤ i + 1 → (k ≡ i + 1) ⊎ (k ≤ i) ⊎ (i + 1 < k) → may_go_on c first k start ≡ false
      by k of le (inl e) = ap (λ j. may_go_on c first j start) e ∙ here
      by k of le (inr (inl low)) = h.2 k of low
      by k of le (inr (inr high)) = absurd (omega (arith, le, high))

  -- so where some may go on, some command was done
  pub round-more : (i : ℕ) (done : List ℕ) (n : NetState) → length c.scripts ≤ i → RoundStands i done n → SomeGoes c first start → sum first < sum done
  round-more i done n all (inr h) some = h
  round-more i done n all (inl h) some =
      let of = some.1 in
      absurd (false≢true (sym (h.2 some.0 of (let high = of.1 in omega (arith, high, all))) ∙ some.2))

-- A scenario has no more commands, and where some may go on, fewer were done.
module _ (c : Scene) (shape : IsLayout c.layout) (keeps : Keeps c) where
  all-few : (phase : Phase) (done : List ℕ) (n : NetState) (h : IsAt c phase done n) (i : ℕ) → i < length done → get_or done i 0 ≤ COMMANDS_LIMIT
  all-few phase done n h i lt =
      let core = core-at c shape keeps phase done n h in
      let len = core.len in
      let k : IsScript c (i + 1) = (omega arith, omega (arith, lt, len)) in
      let at = script-at c (i + 1) k in
      let place : at.place ≡ i = (let e = at.is in omega (arith, e)) in
      let found : slice_get c.scripts i ≡ Some (script_at (i + 1) c.scripts) = ap (slice_get c.scripts) (sym place) ∙ at.found in
      let within = (core.given i (script_at (i + 1) c.scripts) found).1 in
      let few = few-scripts c.layout c.version c.sites i c.scripts (script_at (i + 1) c.scripts) keeps.scripts found in
      omega (arith, within, few)

  pub few-done : (phase : Phase) (done : List ℕ) (n : NetState) → IsAt c phase done n → sum done ≤ SCRIPTS_LIMIT * COMMANDS_LIMIT
  few-done phase done n h =
      let core = core-at c shape keeps phase done n h in
      let most = sum-most done (all-few phase done n h) in
      let len = core.len in
      let scripts = keeps.few_scripts in
      bound (sum done) (length done) (length c.scripts) most len scripts
    where
      bound : (s n m : ℕ) → s ≤ n * COMMANDS_LIMIT → n ≡ m → m ≤ SCRIPTS_LIMIT → s ≤ SCRIPTS_LIMIT * COMMANDS_LIMIT
      bound s n m a b d = omega arith

-- Scripts by their numbers.

pub from-next : (c : Scene) (k : ℕ) → IsScript c k → from_script c k ≡ k ∷ from_script c (k + 1)
from-next c k of = by (length c.scripts + 1 - k) (length c.scripts + 1 - (k + 1)) (let low = of.0 in let high = of.1 in omega (arith, low, high))
  where
    by : (m r : ℕ) → m ≡ suc r → numbers m k ≡ k ∷ numbers r (k + 1)
    by zero r e = absurd (omega (arith, e))
    by (suc m) r e = ap (λ z. k ∷ numbers z (k + 1)) (omega (arith, e))

pub from-none : (c : Scene) (k : ℕ) → length c.scripts < k → from_script c k ≡ []
from-none c k lt = ap (λ m. numbers m k) (none (length c.scripts) k lt)
  where
    none : (n k : ℕ) → n < k → n + 1 - k ≡ 0
    none n k lt = omega (arith, lt)

pub at-first : (c : Scene) (k : ℕ) (done : List ℕ) (n : NetState) → IsScript c k → IsAt c (InRound (from_script c k)) done n → IsAt c (InRound (k ∷ from_script c (k + 1))) done n
at-first c k done n of h = subst (λ ks. IsAt c (InRound ks) done n) (from-next c k of) h

pub at-last : (c : Scene) (k : ℕ) (done : List ℕ) (n : NetState) → IsScript c k → IsAt c (InRound (k ∷ from_script c (k + 1))) done n → IsAt c (InRound (from_script c k)) done n
at-last c k done n of h = subst (λ ks. IsAt c (InRound ks) done n) (sym (from-next c k of)) h

pub at-end : (c : Scene) (k : ℕ) (done : List ℕ) (n : NetState) → length c.scripts < k → IsAt c (InRound (from_script c k)) done n → IsAt c (InRound []) done n
at-end c k done n lt h = subst (λ ks. IsAt c (InRound ks) done n) (from-none c k lt) h

-- What one that was asked to go on did.

pub went-so : (c : Scene) (k : ℕ) (before after : List ℕ) (old new : NetState) (b : Bool) → b ≡ true → GoesIf b c k before after old new → Went c k before after old new
went-so c k before after old new true e h = h
went-so c k before after old new false e h = absurd (false≢true e)

pub waits-so : (c : Scene) (k : ℕ) (before after : List ℕ) (old new : NetState) (b : Bool) → b ≡ false → GoesIf b c k before after old new → Waits c k before after old new
waits-so c k before after old new false e h = h
waits-so c k before after old new true e h = absurd (false≢true (sym e))

-- it has a command less ahead
pub went-less : (c : Scene) (k : ℕ) (before after : List ℕ) (old new : NetState) → IsScript c k → length before ≡ length c.scripts → Went c k before after old new
    → length (script_at k c.scripts).commands - done_by after k < length (script_at k c.scripts).commands - done_by before k
went-less c k before after old new of len w =
    let lt = slice_get_within (script_at k c.scripts).commands (done_by before k) w.command w.is in
    let low = of.0 in
    let high = of.1 in
    let own : done_by after k ≡ done_by before k + 1 =
    ap (λ d. done_by d k) w.done ∙ get_or-set_at before (k - 1) (k - 1) (done_by before k + 1) 0 refl (omega (arith, low, high, len)) in
    fewer (length (script_at k c.scripts).commands) (done_by before k) (done_by after k) lt own
  where
    fewer : (n d e : ℕ) → d < n → e ≡ d + 1 → n - e < n - d
    fewer n d e lt is = omega (arith, lt, is)

-- At first none was done.

pub none-done : (scripts : List Script) (m : ℕ) → m ≡ length scripts → ◌≡◌ {A = List ℕ} (replicate m 0) (map (λ (script : Script). 0) scripts)
none-done [] zero e = refl
none-done [] (suc m) e = absurd (omega (arith, e))
none-done (s ∷ scripts) zero e = absurd (omega (arith, e))
none-done (s ∷ scripts) (suc m) e = ap (λ zs. 0 ∷ zs) (none-done scripts m (omega (arith, e)))

-- The scripts that are left, with one script more.

numbers-push : (m p : ℕ) → numbers (m + 1) p ≡ numbers m p ++ (p + m) ∷ []
numbers-push m p = ap (λ z. numbers z p) (up m) ∙ push m p
  where
    up : (m : ℕ) → m + 1 ≡ suc m
    up m = omega arith

    plain : (p : ℕ) → p ≡ p + 0
    plain p = omega arith

    turn : (p m : ℕ) → p + 1 + m ≡ p + suc m
    turn p m = omega arith

    push : (m p : ℕ) → numbers (suc m) p ≡ numbers m p ++ (p + m) ∷ []
    push zero p = ap (λ z. z ∷ []) (plain p)
    push (suc m) p = ap (λ zs. p ∷ zs) (push m (p + 1)) ∙ ap (λ z. p ∷ (numbers m (p + 1) ++ z ∷ [])) (turn p m)

module _ (c : Scene) (done : List ℕ) (i : ℕ) (lt : i < length c.scripts) (front : List Stuck) (so_far : front ≡ flat_map (left_in c done) (numbers i 1)) (items : List Script) (script : Script) (commands : List Command)
    (same : items ≡ c.scripts) (is : script ≡ get_or items i script) (commands-are : commands ≡ script.commands) where
  back : (i : ℕ) → i + 1 - 1 ≡ i
  back i = omega arith

  the-script : script ≡ script_at (i + 1) c.scripts
  the-script = script-is c (i + 1) (omega arith, omega (arith, lt)) items script same (is ∙ ap (λ m. get_or items m script) (sym (back i)))

  last : left_in c done (i + 1) ≡ left_of (i + 1) script (get_or done i 0)
  last = ap (λ (s : Script). left_of (i + 1) s (get_or done (i + 1 - 1) 0)) (sym the-script) ∙ ap (λ m. left_of (i + 1) script (get_or done m 0)) (back i)

  pushed : flat_map (left_in c done) (numbers (i + 1) 1) ≡ front ++ (left_of (i + 1) script (get_or done i 0) ++ [])
  pushed =
      ap (flat_map (left_in c done)) (numbers-push i 1 ∙ ap (λ z. numbers i 1 ++ z ∷ []) (swap i)) ∙ flat_map-append (left_in c done) (numbers i 1) ((i + 1) ∷ [])
      ∙ ap (λ z. z ++ (left_in c done (i + 1) ++ [])) (sym so_far) ∙ ap (λ z. front ++ (z ++ [])) last
    where
      swap : (i : ℕ) → 1 + i ≡ i + 1
      swap i = omega arith

  pub left-more : get_or done i 0 < length commands → front ++ record { script = i + 1; command = get_or done i 0 + 1 } ∷ [] ≡ flat_map (left_in c done) (numbers (i + 1) 1)
  left-more less =
      ap (λ b. front ++ (cond {A = List Stuck} b (record { script = i + 1; command = get_or done i 0 + 1 } ∷ []) [] ++ []))
      (sym (lt-ltb (get_or done i 0) (length script.commands) (subst (λ (cs : List Command). get_or done i 0 < length cs) commands-are less)))
      ∙ sym pushed

  pub left-same : length commands ≤ get_or done i 0 → front ≡ flat_map (left_in c done) (numbers (i + 1) 1)
  left-same le =
      sym (append-nil front)
      ∙ ap (λ b. front ++ (cond {A = List Stuck} b (record { script = i + 1; command = get_or done i 0 + 1 } ∷ []) [] ++ []))
      (sym (le-ltb (get_or done i 0) (length script.commands) (subst (λ (cs : List Command). length cs ≤ get_or done i 0) commands-are le)))
      ∙ sym pushed

-- Rounds.

-- behind the first one each did a command, where some script may go on
pub round-counted : (c : Scene) (r : ℕ) (before after : List ℕ) (old new : NetState) → (r ≡ 0) ⊎ (SomeGoes c before old × (r ≤ sum before + 1)) → (SomeGoes c before old → sum before < sum after) → SomeGoes c after new
    → (r + 1 ≡ 0) ⊎ (SomeGoes c after new × (r + 1 ≤ sum after + 1))
round-counted c r before after old new (inl e) more some = inr (some, omega (arith, e))
round-counted c r before after old new (inr h) more some = (let up = more h.0 in let le = h.1 in inr (some, omega (arith, up, le)))
