-- The awaits of a script, where a command more stands behind the others.
use Rattle.std.proofs.Common.{◌≡◌, ℕ, zero, suc, ◌+◌, ◌<◌, ◌≤◌, Bool, true, false, ◌&&◌, ◌||◌, List, [], ◌∷◌, ◌++◌, length, slice_get, refl, sym, ap, subst, ◌∙◌, arith, length-append}
use Rattle.std.specs.Prelude.{nat_lt, nat_le, ◌==◌}
use Rattle.std.specs.List.{All, list_all}
use Rattle.std.proofs.lemmas.Bool.{eqb-true, false≢true, ne_eqb}
use Rattle.std.proofs.lemmas.Bool.Decides.{nat_tests}
use Rattle.std.proofs.lemmas.List.Folds.{list_any-append}
use Rattle.std.proofs.lemmas.List.Elements.{All-nil, All-cons}
use Rattle.chorus_ui.specs.declared.ui.Ui.{Ui}
use Rattle.chorus_entry.specs.declared.command.Command.{Command}
use Rattle.chorus_entry.specs.declared.command.Command.TheVariants as commands
use Rattle.chorus_scene.specs.Scene.{Script, is_await}
use Rattle.chorus_scene.specs.Grammar.{with_command, with_await}
use Rattle.chorus_scene.specs.Limits.{are_rising, is_take, waits_keep}
use Rattle.chorus_scene.specs.Print.{said_as, command_texts, script_texts, command_text, await_text, actor_text}
use Rattle.chorus_scene.proofs.Again.{and_join}
use Rattle.chorus_scene.proofs.Spelled.{both}
use Rattle.chorus_scene.proofs.Keeping.{all_more}

-- the numbers are below that of the next command
abbrev pub are_below : ℕ → List ℕ → Bool
are_below n is = list_all (λ (i : ℕ). nat_lt i n) is

abbrev pub waits_below : Script → Bool
waits_below s = are_below (length s.commands) s.waits

below_more : (n m : ℕ) (is : List ℕ) → n ≤ m → are_below n is ≡ true → are_below m is ≡ true
below_more n m [] le h = refl
below_more n m (i ∷ is) le h =
    let p = both (nat_lt i n) (are_below n is) h in
    and_join (nat_lt i m) (are_below m is) (less p.0) (below_more n m is le p.1)
  where
    less : nat_lt i n ≡ true → nat_lt i m ≡ true
    less k = grind (arith, nat_tests)

last_below : (n m : ℕ) → n < m → nat_lt n m ≡ true
last_below n m h = grind (arith, nat_tests)

pub command_below : (c : Command) (s : Script) → waits_below s ≡ true → waits_below (with_command c s) ≡ true
command_below c s h = below_more (length s.commands) (length (s.commands ++ c ∷ [])) s.waits (omega (arith, length-append s.commands (c ∷ []))) h

pub await_below : (port : Ui) (s : Script) → waits_below s ≡ true → waits_below (with_await port s) ≡ true
await_below port s h =
    let n = length s.commands in
    let m = length (s.commands ++ commands.Take port ∷ []) in
    let lt : n < m = omega (arith, length-append s.commands (commands.Take port ∷ [])) in
    all_more (λ (i : ℕ). nat_lt i m) s.waits n (below_more n m s.waits (omega (arith, lt)) h) (last_below n m lt)

-- What is printed.

none_at : (n : ℕ) (is : List ℕ) → are_below n is ≡ true → is_await is n ≡ false
none_at n [] h = refl
none_at n (i ∷ is) h =
    let p = both (nat_lt i n) (are_below n is) h in
    neither (i == n) (is_await is n) (apart p.0) (none_at n is p.1)
  where
    apart : nat_lt i n ≡ true → (i == n) ≡ false
    apart k = grind (arith, nat_tests)

    neither : (a b : Bool) → a ≡ false → b ≡ false → (a || b) ≡ false
    neither false b h k = k
    neither true b h k = h

one_more : (n j : ℕ) (is : List ℕ) (b : Bool) → (n == j) ≡ b → is_await (is ++ n ∷ []) j ≡ (is_await is j || b)
one_more n j is b e = list_any-append (λ (i : ℕ). i == j) is (n ∷ []) ∙ ap (λ c. is_await is j || (c || false)) e ∙ ap (λ c. is_await is j || c) (or_none b)
  where
    or_none : (c : Bool) → (c || false) ≡ c
    or_none true = refl
    or_none false = refl

or_false : (c : Bool) → (c || false) ≡ c
or_false true = refl
or_false false = refl

or_true : (c : Bool) → (c || true) ≡ true
or_true true = refl
or_true false = refl

differ : (n j : ℕ) → j < n → (n == j) ≡ false
differ n j h = grind (arith, nat_tests)

same : (n : ℕ) → (n == n) ≡ true
same n = grind (arith, nat_tests)

pub texts_push : (waits more : List ℕ) (i : ℕ) (cs : List Command) (c : Command) → ((j : ℕ) → j < i + length cs → is_await more j ≡ is_await waits j)
    → command_texts more i (cs ++ c ∷ []) ≡ command_texts waits i cs ++ said_as (is_await more (i + length cs)) c ∷ []
texts_push waits more i [] c h = (let e : i ≡ i + 0 = omega arith in ap (λ k. said_as (is_await more k) c ∷ []) e)
texts_push waits more i (x ∷ xs) c h =
    let e : i + 1 + length xs ≡ i + length (x ∷ xs) = omega arith in
    ap (λ b. said_as b x ∷ command_texts more (i + 1) (xs ++ c ∷ [])) (h i (omega arith))
    ∙ ap (λ rest. said_as (is_await waits i) x ∷ rest)
    (texts_push waits more (i + 1) xs c (λ j lt. h j (omega (arith, lt)))
    ∙ ap (λ k. command_texts waits (i + 1) xs ++ said_as (is_await more k) c ∷ []) e)

pub one_command : (c : Command) (s : Script) → waits_below s ≡ true → script_texts (with_command c s) ≡ script_texts s ++ command_text c ∷ []
one_command c s h =
    let n = length s.commands in
    let e : 0 + n ≡ n = omega arith in
    ap (λ rest. actor_text s.actor ∷ rest)
    (texts_push s.waits s.waits 0 s.commands c (λ j lt. refl)
    ∙ ap (λ b. command_texts s.waits 0 s.commands ++ said_as b c ∷ []) (ap (is_await s.waits) e ∙ none_at n s.waits h))

pub one_await : (port : Ui) (s : Script) → script_texts (with_await port s) ≡ script_texts s ++ await_text port ∷ []
one_await port s =
    let n = length s.commands in
    let more = s.waits ++ n ∷ [] in
    let e : 0 + n ≡ n = omega arith in
    ap (λ rest. actor_text s.actor ∷ rest)
    (texts_push s.waits more 0 s.commands (commands.Take port) (λ j lt. one_more n j s.waits false (differ n j (omega (arith, lt))) ∙ or_false (is_await s.waits j))
    ∙ ap (λ b. command_texts s.waits 0 s.commands ++ said_as b (commands.Take port) ∷ []) (ap (is_await more) e ∙ one_more n n s.waits true (same n) ∙ or_true (is_await s.waits n)))

-- What is kept.

rising_push : (from n : ℕ) (is : List ℕ) → are_rising from is ≡ true → are_below n is ≡ true → from ≤ n → are_rising from (is ++ n ∷ []) ≡ true
rising_push from n [] r b le = and_join (nat_le from n) true (so le) refl
  where
    so : from ≤ n → nat_le from n ≡ true
    so k = grind (arith, nat_tests)
rising_push from n (i ∷ is) r b le =
    let p = both (nat_le from i) (are_rising (i + 1) is) r in
    let q = both (nat_lt i n) (are_below n is) b in
    and_join (nat_le from i) (are_rising (i + 1) (is ++ n ∷ [])) p.0 (rising_push (i + 1) n is p.1 q.1 (next q.0))
  where
    next : nat_lt i n ≡ true → i + 1 ≤ n
    next k = grind (arith, nat_tests)

take_still : (cs : List Command) (c : Command) (i : ℕ) → is_take (slice_get cs i) ≡ true → is_take (slice_get (cs ++ c ∷ []) i) ≡ true
take_still [] c i h = absurd (cc)
take_still (x ∷ xs) c zero h = h
take_still (x ∷ xs) c (suc i) h = take_still xs c i h

take_within : (cs : List Command) (i : ℕ) → is_take (slice_get cs i) ≡ true → nat_lt i (length cs) ≡ true
take_within cs i h = last_below i (length cs) (go cs i h)
  where
    go : (ds : List Command) (j : ℕ) → is_take (slice_get ds j) ≡ true → j < length ds
    go [] j k = absurd (cc)
    go (x ∷ xs) zero k = omega arith
    go (x ∷ xs) (suc j) k = (let r = go xs j k in omega (arith, r))

take_last : (cs : List Command) (port : Ui) → is_take (slice_get (cs ++ commands.Take port ∷ []) (length cs)) ≡ true
take_last [] port = refl
take_last (x ∷ xs) port = take_last xs port

all_weaker : (p q : ℕ → Bool) (is : List ℕ) → ((i : ℕ) → p i ≡ true → q i ≡ true) → list_all p is ≡ true → list_all q is ≡ true
all_weaker p q [] f h = refl
all_weaker p q (i ∷ is) f h = (let k = both (p i) (list_all p is) h in and_join (q i) (list_all q is) (f i k.0) (all_weaker p q is f k.1))

record Parts (version : ℕ) (s : Script) : Type 0 where
  rising : are_rising 0 s.waits ≡ true
  takes : list_all (λ (i : ℕ). is_take (slice_get s.commands i)) s.waits ≡ true
  from_three : (nat_le 3 version || (length s.waits == 0)) ≡ true

parts : (version : ℕ) (s : Script) → waits_keep version s ≡ true → Parts version s
parts version s h =
    let takes = list_all (λ (i : ℕ). is_take (slice_get s.commands i)) s.waits in
    let p = both (are_rising 0 s.waits && takes) (nat_le 3 version || (length s.waits == 0)) h in
    let q = both (are_rising 0 s.waits) takes p.0 in
    record { rising = q.0; takes = q.1; from_three = p.1 }

pub waits_command : (version : ℕ) (c : Command) (s : Script) → waits_keep version s ≡ true → waits_keep version (with_command c s) ≡ true
waits_command version c s h =
    let p = parts version s h in
    and_join _ _ (and_join _ _ p.rising (all_weaker (λ (i : ℕ). is_take (slice_get s.commands i)) (λ (i : ℕ). is_take (slice_get (s.commands ++ c ∷ []) i)) s.waits (take_still s.commands c) p.takes)) p.from_three

pub waits_await : (version : ℕ) (port : Ui) (s : Script) → nat_le 3 version ≡ true → waits_keep version s ≡ true → waits_keep version (with_await port s) ≡ true
waits_await version port s three h =
    let p = parts version s h in
    let n = length s.commands in
    let c = commands.Take port in
    let below = all_weaker (λ (i : ℕ). is_take (slice_get s.commands i)) (λ (i : ℕ). nat_lt i n) s.waits (take_within s.commands) p.takes in
    let takes = all_weaker (λ (i : ℕ). is_take (slice_get s.commands i)) (λ (i : ℕ). is_take (slice_get (s.commands ++ c ∷ []) i)) s.waits (take_still s.commands c) p.takes in
    and_join _ _ (and_join _ _ (rising_push 0 n s.waits p.rising below (omega arith)) (all_more (λ (i : ℕ). is_take (slice_get (s.commands ++ c ∷ []) i)) s.waits n takes (take_last s.commands port))) (ap (λ b. b || (length (s.waits ++ n ∷ []) == 0)) three)

-- before version 3 nothing waits
none_waits : (version : ℕ) (s : Script) → version < 3 → waits_keep version s ≡ true → s.waits ≡ []
none_waits version s lt h = empty s.waits (parts version s h).from_three
  where
    old : nat_le 3 version ≡ false
    old = grind (arith, nat_tests)

    empty : (is : List ℕ) → (nat_le 3 version || (length is == 0)) ≡ true → is ≡ []
    empty [] k = refl
    empty (i ∷ is) k = absurd (false≢true (sym (ap (λ b. b || (length (i ∷ is) == 0)) old ∙ ne_eqb (length (i ∷ is)) 0 (λ e. omega (arith, e))) ∙ k))

pub no_script_waits : (version : ℕ) (scripts : List Script) → version < 3 → list_all (waits_keep version) scripts ≡ true → All (λ (s : Script). s.waits ≡ []) scripts
no_script_waits version [] lt h = All-nil (λ (s : Script). s.waits ≡ [])
no_script_waits version (s ∷ rest) lt h =
    let p = both (waits_keep version s) (list_all (waits_keep version) rest) h in
    All-cons (λ (s : Script). s.waits ≡ []) s rest (none_waits version s lt p.0) (no_script_waits version rest lt p.1)

-- an await is a command that receives
pub awaits_take : (version : ℕ) (s : Script) (i : ℕ) → waits_keep version s ≡ true → is_await s.waits i ≡ true → is_take (slice_get s.commands i) ≡ true
awaits_take version s i h waits = go s.waits (parts version s h).takes waits
  where
    go : (is : List ℕ) → list_all (λ (j : ℕ). is_take (slice_get s.commands j)) is ≡ true → is_await is i ≡ true → is_take (slice_get s.commands i) ≡ true
    go [] k w = absurd (cc)
    go (j ∷ js) k w = (let p = both (is_take (slice_get s.commands j)) (list_all (λ (j : ℕ). is_take (slice_get s.commands j)) js) k in by (j == i) refl p.0 (go js p.1) w)
      where
        by : (b : Bool) → (j == i) ≡ b → is_take (slice_get s.commands j) ≡ true → (is_await js i ≡ true → is_take (slice_get s.commands i) ≡ true) → (b || is_await js i) ≡ true → is_take (slice_get s.commands i) ≡ true
        by true e here rest w = subst (λ m. is_take (slice_get s.commands m) ≡ true) (eqb-true j i e) here
        by false e here rest w = rest w
