-- The scripts at which a replay of a schedule that is made of moves is stuck are those that its outcome tells.
-- p and k are numbers of scripts, from 1 on, all and left are the commands of a script, and those that are left of it.
use Rattle.std.proofs.Common.{ℕ, suc, ◌≡◌, ◌+◌, ◌-◌, nat_lt, Bool, true, false, cond, List, [], ◌∷◌, ◌++◌, map, drop, length, slice_index_or, Option, Some, None, slice_get, refl, sym, ◌∙◌, ap, ap₂, subst, arith}
use Rattle.std.specs.List.{flat_map}
use Rattle.std.proofs.lemmas.Bool.{lt-ltb, le-ltb}
use Rattle.std.proofs.lemmas.List.{map-append, length-map, length-drop}
use Rattle.chorus_entry.specs.declared.command.Command.{Command}
use Rattle.law_network.specs.Network.{Event, numbers}
use Rattle.law_explore.specs.declared.moves.Move.{Move}
use Rattle.law_explore.specs.Outcome.{left_fact, left_facts, stuck_facts}
use Rattle.law_explore.specs.Outcome as facts
use Rattle.law_explore.specs.Search.{IsHistory, state_after}
use Rattle.law_explore.specs.Races.{Order, Position, event_of, position_after, seat_0, replaying}
use Rattle.law_explore.proofs.Replays.{long}
use Rattle.chorus_scene.specs.Scene.{Scene, Script}
use Rattle.chorus_show.specs.declared.stuck.Stuck.{Stuck}
use Rattle.chorus_report.specs.Awaiting.{left_of, left_in, stuck_of}
use Rattle.chorus_replay.specs.Waiting.{Standing}
use Rattle.law_replay.specs.Shown.{orders_from, orders_of, race_of, with_schedule, fact_of, ScheduleIsStuckThere}
use Rattle.law_replay.proofs.Steps.{done_by_moves, is-at, script-is, number-at}
use Rattle.law_replay.proofs.Shown.{ends-so}

as-many : (waits : List ℕ) (i : ℕ) (commands : List Command) → length (orders_from waits i commands) ≡ length commands
as-many waits i [] = refl
as-many waits i (c ∷ commands) = ap suc (as-many waits (i + 1) commands)

-- a script is stuck where something is left of it
stuck-there : (k n : ℕ) (all left : List Order) → left ≡ drop n all → cond (nat_lt n (length all)) (facts.Stuck k (n + 1) ∷ []) [] ≡ left_fact facts.Stuck k all left
stuck-there k n all [] e =
    let none : 0 ≡ length all - n = ap length e ∙ length-drop n all in
    ap (λ b. cond b (facts.Stuck k (n + 1) ∷ []) []) (le-ltb n (length all) (omega (arith, none)))
stuck-there k n all (o ∷ left) e =
    let some : suc (length left) ≡ length all - n = ap length e ∙ length-drop n all in
    let number : n + 1 ≡ length all - length left = omega (arith, some) in
    ap (λ b. cond b (facts.Stuck k (n + 1) ∷ []) []) (lt-ltb n (length all) (omega (arith, some)))
    ∙ ap (λ m. facts.Stuck k m ∷ []) number

stuck-one : (k n : ℕ) (script : Script) (left : List Order) → left ≡ drop n (orders_of script) → map fact_of (left_of k script n) ≡ left_fact facts.Stuck k (orders_of script) left
stuck-one k n script left e =
    by (nat_lt n (length script.commands))
    ∙ ap (λ m. cond (nat_lt n m) (facts.Stuck k (n + 1) ∷ []) []) (sym (as-many script.waits 0 script.commands))
    ∙ stuck-there k n (orders_of script) left e
  where
    by : (b : Bool) → map fact_of (cond b (record { script = k; command = n + 1 } ∷ []) []) ≡ cond b (facts.Stuck k (n + 1) ∷ []) []
    by true = refl
    by false = refl

-- so are all of them, from script p on
module _ (f : ℕ → List Stuck) where
  pub record IsStuckAt (k : ℕ) (script : Script) (left : Option (List Order)) : Type 0 where
    pub number : ℕ
    pub is : f k ≡ left_of k script number
    pub left_is : left ≡ Some (drop number (orders_of script))

  same-left : (one other : List Order) → Some one ≡ Some other → one ≡ other
  same-left one other e = cc

  all-stuck : (p : ℕ) (scripts : List Script) (lefts : List (List Order)) → length lefts ≡ length scripts
      → ((j : ℕ) (script : Script) → slice_get scripts j ≡ Some script → IsStuckAt (p + j) script (slice_get lefts j))
      → map fact_of (flat_map f (numbers (length scripts) p)) ≡ left_facts facts.Stuck p (map orders_of scripts) lefts
  all-stuck p [] [] e at = refl
  all-stuck p [] (left ∷ lefts) e at = absurd (omega (arith, e))
  all-stuck p (script ∷ scripts) [] e at = absurd (omega (arith, e))
  all-stuck p (script ∷ scripts) (left ∷ lefts) e at =
      let first = subst (λ k. IsStuckAt k script (Some left)) (none p) (at 0 script refl) in
      map-append fact_of (f p) (flat_map f (numbers (length scripts) (p + 1)))
      ∙ ap₂ (λ xs ys. xs ++ ys)
      (ap (map fact_of) first.is ∙ stuck-one p first.number script left (same-left left (drop first.number (orders_of script)) first.left_is))
      (all-stuck (p + 1) scripts lefts (omega (arith, e)) (λ j other found. subst (λ k. IsStuckAt k other (slice_get lefts j)) (shift p j) (at (suc j) other found)))
    where
      none : (p : ℕ) → p + 0 ≡ p
      none p = omega arith

      shift : (p j : ℕ) → p + suc j ≡ p + 1 + j
      shift p j = omega arith

module _ (c : Scene) where
  abbrev at : List Move → Position
  at ms = state_after (replaying (race_of c)) ms

  many-left : (ms : List Move) → length (at ms).left ≡ length c.scripts
  many-left [] = length-map c.scripts orders_of
  many-left (m ∷ ms) = by (event_of (race_of c).net.layout seat_0 m (at ms).left) ∙ many-left ms
    where
      by : (o : Option Event) → length (position_after o m (at ms)).left ≡ length (at ms).left
      by None = refl
      by (Some e) = long m (at ms).left

  stuck-in : (ms : List Move) → IsHistory (replaying (race_of c)) ms → map fact_of (stuck_of c (done_by_moves c ms)) ≡ stuck_facts (race_of c).scripts (at ms).left
  stuck-in ms h =
      all-stuck (left_in c (done_by_moves c ms)) 1 c.scripts (at ms).left (many-left ms)
      (λ j script found.
      let here = is-at c ms h j script found in
      record {
        number = here.number;
        is = (λ i. left_of (1 + j) (script-is c ms h (1 + j) j script (more j) (less j) found i) (slice_index_or (done_by_moves c ms) (less j i) 0))
            ∙ ap (left_of (1 + j) script) (number-at (done_by_moves c ms) j here.number here.done);
        left_is = here.left;
      })
    where
      more : (j : ℕ) → 1 + j ≡ suc j
      more j = omega arith

      less : (j : ℕ) → 1 + j - 1 ≡ j
      less j = omega arith

pub stuck-so : ScheduleIsStuckThere
stuck-so c ms status closed h ended played none =
    ap (λ (s : Standing). map fact_of (stuck_of (with_schedule ms c) s.done)) (sym (ends-so c ms h ended played.standing status played.follows played.over none))
    ∙ stuck-in c ms h
