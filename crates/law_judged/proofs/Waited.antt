-- The scripts that a replay is stuck at stand behind what their seats gave.
use Rattle.std.proofs.Common.{ℕ, zero, suc, ◌≡◌, ◌≢◌, ◌+◌, ◌-◌, ◌<◌, ◌≤◌, nat_lt, Bool, true, false, not, ◌&&◌, cond, List, [], ◌∷◌, ◌++◌, length, reverse, take, slice_get, Option, Some, refl, sym, ◌∙◌, ap, arith}
use Rattle.std.specs.Prelude.{slice_index_or}
use Rattle.std.specs.List.{filter, flat_map}
use Rattle.std.specs.Option.{option_map}
use Rattle.std.proofs.lemmas.Bool.{and_parts, false≢true}
use Rattle.std.proofs.lemmas.Bool.Decides.{nat_tests}
use Rattle.std.proofs.lemmas.List.{reverse-append, length-reverse, length-take-le}
use Rattle.std.proofs.lemmas.Option.{slice_get-map, slice_get-get_or}
use Rattle.chorus_ui.specs.declared.layout.Layout.{Layout}
use Rattle.chorus_ui.specs.declared.ui.Ui.{Ui}
use Rattle.chorus_entry.specs.declared.command.Command.{Command}
use Rattle.chorus_entry.specs.declared.entry.Entry.{Entry}
use Rattle.chorus_world.specs.Commands.{answers, is_own_of, performs}
use Rattle.law_network.specs.Network.{numbers}
use Rattle.chorus_net.specs.declared.closed.Closed.{Closed}
use Rattle.chorus_net.specs.Closing.{merge_of, past_of}
use Rattle.chorus_scene.specs.Grammar.{no_script, script_at}
use Rattle.chorus_scene.specs.Scene.{Scene, Script}
use Rattle.chorus_scene.proofs.Kept.{kept}
use Rattle.chorus_show.specs.declared.status.Status.{Status}
use Rattle.chorus_show.specs.declared.status.Status.TheVariants.{Done, Usage, Scenario, ReadFault, WriteFault, Memory, Worn}
use Rattle.chorus_show.specs.declared.stuck.Stuck.{Stuck}
use Rattle.chorus_report.specs.Awaiting.{fronts_of, left_in}
use Rattle.chorus_report.specs.Headline.{PerformsAll, PerformsUnless, Runs, callers_of}
use Rattle.chorus_audit.specs.Stuck.{AreStuck, commands_of}
use Rattle.law_judged.specs.Judged.{WhatIsStuckMayBe}

-- What passes a test is as many from either end.

module _ {X : Type 0} (p : X → Bool) where
  added : (b : Bool) (x : X) (xs ys : List X) → length xs ≡ length ys → length (cond b (x ∷ xs) xs) ≡ length (cond b (x ∷ ys) ys)
  added true x xs ys h = ap suc h
  added false x xs ys h = h

  at-end : (xs : List X) (y : X) → length (filter p (xs ++ y ∷ [])) ≡ length (filter p (y ∷ xs))
  at-end [] y = refl
  at-end (x ∷ xs) y = by (p x) (p y) (at-end xs y)
    where
      by : (a b : Bool) → length (filter p (xs ++ y ∷ [])) ≡ length (cond b (y ∷ filter p xs) (filter p xs))
          → length (cond a (x ∷ filter p (xs ++ y ∷ [])) (filter p (xs ++ y ∷ []))) ≡ length (cond b (y ∷ cond a (x ∷ filter p xs) (filter p xs)) (cond a (x ∷ filter p xs) (filter p xs)))
      by true true h = ap suc h
      by true false h = ap suc h
      by false true h = h
      by false false h = h

  reversed : (xs : List X) → length (filter p (reverse xs)) ≡ length (filter p xs)
  reversed [] = refl
  reversed (x ∷ xs) =
      ap (λ ys. length (filter p ys)) (reverse-append (x ∷ []) xs) ∙ at-end (reverse xs) x ∙ added (p x) x (filter p (reverse xs)) (filter p xs) (reversed xs)

-- A seat that performs commands gave so many.

is-not : (b : Bool) → not b ≡ true → b ≡ false
is-not true h = sym h
is-not false h = refl

given : (l : Layout) (s : ℕ) (a : Ui) (past : List Entry) (cs : List Command) → performs l s a past cs ≡ true → length (filter (is_own_of s) past) ≡ length cs
given l s a [] [] h = refl
given l s a [] (c ∷ cs) h = absurd (false≢true h)
given l s a (e ∷ past) [] h =
    let both = and_parts (not (is_own_of s e)) (performs l s a past []) h in
    ap (λ b. length (cond b (e ∷ filter (is_own_of s) past) (filter (is_own_of s) past))) (is-not (is_own_of s e) both.0) ∙ given l s a past [] both.1
given l s a (e ∷ past) (c ∷ cs) h = by (given l s a past cs) (given l s a past (c ∷ cs)) (is_own_of s e) refl h
  where
    Given : List Command → Type 0
    Given ds = performs l s a past ds ≡ true → length (filter (is_own_of s) past) ≡ length ds

    by : Given cs → Given (c ∷ cs) → (b : Bool) → is_own_of s e ≡ b → cond b (answers l past a c e && performs l s a past cs) (performs l s a past (c ∷ cs)) ≡ true → length (filter (is_own_of s) (e ∷ past)) ≡ length (c ∷ cs)
    by fewer same true own k =
        ap (λ b. length (cond b (e ∷ filter (is_own_of s) past) (filter (is_own_of s) past))) own
        ∙ ap suc (fewer (and_parts (answers l past a c e) (performs l s a past cs) k).1)
    by fewer same false own k = ap (λ b. length (cond b (e ∷ filter (is_own_of s) past) (filter (is_own_of s) past))) own ∙ same k

all-of : (status : Status) (l : Layout) (k : ℕ) (actor : Ui) (closed : Closed) (commands : List Command) → ((clock : ℕ) → status ≢ Worn clock) → PerformsUnless status l k actor closed commands → PerformsAll l k actor closed commands
all-of Done l k actor closed commands not-worn h = h
all-of Usage l k actor closed commands not-worn h = h
all-of (Scenario line reason) l k actor closed commands not-worn h = h
all-of ReadFault l k actor closed commands not-worn h = h
all-of WriteFault l k actor closed commands not-worn h = h
all-of Memory l k actor closed commands not-worn h = h
all-of (Worn clock) l k actor closed commands not-worn h = absurd (not-worn clock refl)

module _ (l : Layout) (told : Option (List ℕ)) (status : Status) (closed : Closed) (r : Runs l told status closed) (not-worn : (clock : ℕ) → status ≢ Worn clock) where
  abbrev c : Scene
  c = r.scene

  abbrev es : List Entry
  es = merge_of closed

  -- so many of its commands were done
  abbrev done-of : ℕ → ℕ
  done-of i = slice_index_or r.done i 0

  done-is : (i : ℕ) (script : Script) → slice_get c.scripts i ≡ Some script → done-of i ≤ length script.commands → commands_of (suc i) es ≡ done-of i
  done-is i script at few =
      let front = take (done-of i) script.commands in
      let who : callers_of c (suc i) ≡ Some script.actor = slice_get-map (λ (s : Script). s.actor) c.scripts i ∙ ap (option_map (λ (s : Script). s.actor)) at in
      let what : fronts_of c r.done (suc i) ≡ Some front = ap (option_map (λ (s : Script). take (done-of i) s.commands)) at in
      let all = all-of status l (suc i) script.actor closed front not-worn (r.plays.performed (suc i) script.actor front who what) in
      sym (reversed (is_own_of (suc i)) es)
      ∙ given l (suc i) script.actor (past_of closed) (reverse front) all
      ∙ length-reverse front
      ∙ length-take-le (done-of i) script.commands few

  few-scripts : length c.scripts ≤ 16
  few-scripts = (kept l r.given.bytes c r.given.given).few_scripts

  are-left : (m p last : ℕ) → last < p → p + m ≡ length c.scripts + 1 → AreStuck es last (flat_map (left_in c r.done) (numbers m p))
  are-left zero p last less whole = tt
  are-left (suc m) p last less whole =
      by (nat_lt n (length script.commands)) refl (are-left m (p + 1) p (omega arith) (omega (arith, whole))) (are-left m (p + 1) last (omega (arith, less)) (omega (arith, whole)))
    where
      n : ℕ
      n = done-of (p - 1)

      script : Script
      script = script_at p c.scripts

      at : slice_get c.scripts (p - 1) ≡ Some script
      at = slice_get-get_or c.scripts (p - 1) no_script (omega (arith, less, whole))

      more : List Stuck
      more = flat_map (left_in c r.done) (numbers m (p + 1))

      counted : nat_lt n (length script.commands) ≡ true → n + 1 ≡ commands_of p es + 1
      counted h =
          let few : done-of (p - 1) ≤ length (script_at p c.scripts).commands = grind (arith, nat_tests, h) in
          let same : suc (p - 1) ≡ p = omega (arith, less) in
          omega (arith, done-is (p - 1) script at few, ap (λ k. commands_of k es) same)

      by : (b : Bool) → nat_lt n (length script.commands) ≡ b → AreStuck es p more → AreStuck es last more → AreStuck es last (cond b (record { script = p; command = n + 1 } ∷ []) [] ++ more)
      by true h rest skipped = (record { rises = less; fits = omega (arith, few-scripts, whole); is_next = counted h }, rest)
      by false h rest skipped = skipped

pub what_is_stuck_may_be : WhatIsStuckMayBe
what_is_stuck_may_be l told status closed r not-worn = are-left l told status closed r not-worn (length r.scene.scripts) 1 0 (omega arith) (omega arith)
