-- How many commands of a seat the entries answer, one entry more each time.
-- k is a seat, n how many, es are entries, the oldest first, e is the next one, waits tells the awaits, c is a scenario.
use Rattle.std.proofs.Common.{ℕ, zero, suc, ◌≡◌, ◌+◌, ◌<◌, ◌&&◌, not, Bool, true, false, cond, List, [], ◌∷◌, ◌++◌, length, map, reverse, take, get_or, refl, sym, ◌∙◌, ap, subst, arith}
use Rattle.std.specs.Borrow.{Bor}
use Rattle.std.specs.List.{filter}
use Rattle.std.proofs.lemmas.Bool.{and_parts, and_from, false≢true}
use Rattle.std.proofs.lemmas.List.{reverse-append, length-append, length-reverse, length-map, map-append, take_more, get_or-map}
use Rattle.chorus_ui.specs.declared.ui.Ui.{Ui}
use Rattle.chorus_ui.specs.declared.layout.Layout.{Layout}
use Rattle.chorus_entry.specs.declared.command.Command.{Command}
use Rattle.chorus_entry.specs.declared.act.Act.{Act}
use Rattle.chorus_entry.specs.declared.entry.Entry.{Entry}
use Rattle.chorus_merge.specs.Steps.{lent}
use Rattle.chorus_world.specs.Commands.{answers, is_own_of, performs}
use Rattle.law_awaits.specs.Awaits.{is_taken, own_acts}
use Rattle.law_network.specs.Network.{numbers}
use Rattle.chorus_scene.specs.Scene.{Scene, is_await}
use Rattle.chorus_report.specs.Awaiting.{AwaitsTake}
use Rattle.chorus_run.specs.Standing.{Did, done_in}

-- one act more
takes-more : (waits : List ℕ) (i : ℕ) (acts : List Act) (a : Act) → AwaitsTake waits i acts → (is_await waits (i + length acts) ≡ true → is_taken a ≡ true) → AwaitsTake waits i (acts ++ a ∷ [])
takes-more waits i [] a all last = (subst (λ (j : ℕ). is_await waits j ≡ true → is_taken a ≡ true) (none i) last, tt)
  where
    none : (i : ℕ) → i + 0 ≡ i
    none i = omega arith
takes-more waits i (act ∷ acts) a all last =
    (all.0, takes-more waits (i + 1) acts a all.1 (subst (λ (j : ℕ). is_await waits j ≡ true → is_taken a ≡ true) (next i (length acts)) last))
  where
    next : (i m : ℕ) → i + suc m ≡ i + 1 + m
    next i m = omega arith

abbrev as_acts : List Entry → List Act
as_acts es = reverse (map (λ (e : Entry). e.act) es)

acts-more : (e : Entry) (es : List Entry) → as_acts (e ∷ es) ≡ as_acts es ++ e.act ∷ []
acts-more e es = reverse-append (e.act ∷ []) (map (λ (f : Entry). f.act) es)

turned : (es : List Entry) (e : Entry) → reverse (es ++ e ∷ []) ≡ e ∷ reverse es
turned es e = reverse-append es (e ∷ [])

own-one : (k : ℕ) (es : List Entry) (e : Entry) → is_own_of k e ≡ true → own_acts k (reverse (es ++ e ∷ [])) ≡ own_acts k (reverse es) ++ e.act ∷ []
own-one k es e own =
    ap (λ past. as_acts (filter (is_own_of k) past)) (turned es e)
    ∙ ap (λ b. as_acts (cond b (e ∷ filter (is_own_of k) (reverse es)) (filter (is_own_of k) (reverse es)))) own
    ∙ acts-more e (filter (is_own_of k) (reverse es))

own-other : (k : ℕ) (es : List Entry) (e : Entry) → is_own_of k e ≡ false → own_acts k (reverse (es ++ e ∷ [])) ≡ own_acts k (reverse es)
own-other k es e other =
    ap (λ past. as_acts (filter (is_own_of k) past)) (turned es e)
    ∙ ap (λ b. as_acts (cond b (e ∷ filter (is_own_of k) (reverse es)) (filter (is_own_of k) (reverse es)))) other

from-none : (n m : ℕ) → n ≡ m → n ≡ 0 + m
from-none n m h = omega (arith, h)

module _ (waits : List ℕ) (k n : ℕ) (es : List Entry) (e : Entry) (so_far : Did waits k es n) where
  pub did-one : is_own_of k e ≡ true → (is_await waits n ≡ true → is_taken e.act ≡ true) → Did waits k (es ++ e ∷ []) (n + 1)
  did-one own takes =
      let is = own-one k es e own in
      let count = so_far.count in
      let more = length-append (own_acts k (reverse es)) (e.act ∷ []) in
      record {
        count = (let len = ap (λ (acts : List Act). length acts) is in omega (arith, count, len, more));
        taken = subst (AwaitsTake waits 0) (sym is) (takes-more waits 0 (own_acts k (reverse es)) e.act so_far.taken (subst (λ (j : ℕ). is_await waits j ≡ true → is_taken e.act ≡ true) (from-none n (length (own_acts k (reverse es))) count) takes));
      }

  pub did-other : is_own_of k e ≡ false → Did waits k (es ++ e ∷ []) n
  did-other other = let is = own-other k es e other in
      record {
        count = so_far.count ∙ sym (ap (λ (acts : List Act). length acts) is);
        taken = subst (AwaitsTake waits 0) (sym is) so_far.taken;
      }

pub did-none : (waits : List ℕ) (k : ℕ) → Did waits k [] 0
did-none waits k = record { count = refl; taken = tt }

-- Entries that are lent, one more.

pub lent-more : (es : List (Bor Entry)) (i : ℕ) (e : Bor Entry) → i < length es → e ≡ get_or es i e → lent (take (i + 1) es) ≡ lent (take i es) ++ e.now ∷ []
lent-more es i e lt is =
    ap lent (take_more es i e lt ∙ ap (λ (x : Bor Entry). take i es ++ x ∷ []) (sym is)) ∙ map-append (λ (x : Bor Entry). x.now) (take i es) (e ∷ [])

-- an await that is not missed received a message
pub not-missed : (a b r : Bool) → r ≡ (a && not b) → r ≡ false → a ≡ true → b ≡ true
not-missed a true r is none e = refl
not-missed a false r is none e = absurd (false≢true (sym none ∙ is ∙ and_from a true e refl))

-- A seat that performs commands has an own act for each.

is-not : (b : Bool) → not b ≡ true → b ≡ false
is-not true h = sym h
is-not false h = refl

owns : (l : Layout) (s : ℕ) (a : Ui) (past : List Entry) (cs : List Command) → performs l s a past cs ≡ true → length (filter (is_own_of s) past) ≡ length cs
owns l s a [] [] h = refl
owns l s a [] (c ∷ cs) h = absurd (false≢true h)
owns l s a (e ∷ past) [] h =
    let both = and_parts (not (is_own_of s e)) (performs l s a past []) h in
    ap (λ b. length (cond b (e ∷ filter (is_own_of s) past) (filter (is_own_of s) past))) (is-not (is_own_of s e) both.0) ∙ owns l s a past [] both.1
owns l s a (e ∷ past) (c ∷ cs) h = by (owns l s a past cs) (owns l s a past (c ∷ cs)) (is_own_of s e) refl h
  where
    Owns : List Command → Type 0
    Owns ds = performs l s a past ds ≡ true → length (filter (is_own_of s) past) ≡ length ds

    by : Owns cs → Owns (c ∷ cs) → (b : Bool) → is_own_of s e ≡ b → cond b (answers l past a c e && performs l s a past cs) (performs l s a past (c ∷ cs)) ≡ true → length (filter (is_own_of s) (e ∷ past)) ≡ length (c ∷ cs)
    by fewer same true own k =
        ap (λ b. length (cond b (e ∷ filter (is_own_of s) past) (filter (is_own_of s) past))) own
        ∙ ap suc (fewer (and_parts (answers l past a c e) (performs l s a past cs) k).1)
    by fewer same false own k = ap (λ b. length (cond b (e ∷ filter (is_own_of s) past) (filter (is_own_of s) past))) own ∙ same k

pub own-count : (l : Layout) (s : ℕ) (a : Ui) (past : List Entry) (cs : List Command) → performs l s a past (reverse cs) ≡ true → length (own_acts s past) ≡ length cs
own-count l s a past cs h =
    length-reverse (map (λ (e : Entry). e.act) (filter (is_own_of s) past)) ∙ length-map (filter (is_own_of s) past) (λ (e : Entry). e.act) ∙ owns l s a past (reverse cs) h ∙ length-reverse cs

-- So many of a script's commands were done.

number-at : (m p i : ℕ) → i < m → get_or (numbers m p) i 0 ≡ p + i
number-at zero p i lt = absurd (omega (arith, lt))
number-at (suc m) p zero lt = same p
  where
    same : (p : ℕ) → p ≡ p + 0
    same p = omega arith
number-at (suc m) p (suc i) lt = number-at m (p + 1) i (omega (arith, lt)) ∙ next p i
  where
    next : (p i : ℕ) → p + 1 + i ≡ p + suc i
    next p i = omega arith

as-many : (m p : ℕ) → length (numbers m p) ≡ m
as-many zero p = refl
as-many (suc m) p = ap suc (as-many m (p + 1))

pub done-at : (c : Scene) (past : List Entry) (i : ℕ) → i < length c.scripts → get_or (done_in c past) i 0 ≡ length (own_acts (suc i) past)
done-at c past i lt =
    let there : i < length (numbers (length c.scripts) 1) = (let many = as-many (length c.scripts) 1 in omega (arith, lt, many)) in
    get_or-map (λ (k : ℕ). length (own_acts k past)) (numbers (length c.scripts) 1) i 0 0 there
    ∙ ap (λ k. length (own_acts k past)) (number-at (length c.scripts) 1 i lt ∙ first i)
  where
    first : (i : ℕ) → 1 + i ≡ suc i
    first i = omega arith
