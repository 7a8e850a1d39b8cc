-- The reports that the messages of a queue bring.
use Rattle.std.proofs.Common.{◌≡◌, ℕ, min, ◌+◌, ◌-◌, ◌≤◌, ◌==◌, ◌&&◌, not, Bool, true, false, cond, Option, Some, List, [], ◌∷◌, ◌++◌, length, drop, slice_get, refl, sym, ◌∙◌, ap, subst, IfSome, arith, None, All}
use Rattle.std.proofs.lemmas.List.Elements.{All-head, All-tail}
use Rattle.chorus_ui.specs.declared.layout.Layout.{Layout}
use Rattle.chorus_entry.specs.declared.id.MsgId.{MsgId}
use Rattle.chorus_entry.specs.declared.answer.Answer.{Answer}
use Rattle.chorus_entry.specs.declared.packet.Cargo.{Cargo}
use Rattle.chorus_entry.specs.Answer.{is_final}
use Rattle.place_unsettled.specs.declared.wait.Wait.{Wait}
use Rattle.place_unsettled.specs.declared.wait.Key.{Key}
use Rattle.place_unsettled.specs.Queues.{Queue, Row, queue, changed, passed, with_last}
use Rattle.place_unsettled.proofs.Keys.{same_key-refl}
use Rattle.law_machine.specs.Trying.{report}
use Rattle.chorus_place.specs.PlaceTables.Going.{reports}
use Rattle.chorus_place.specs.PlaceTables.Tables.{MayWait}

pub report-length : (p home : ℕ) (x : MsgId) (a : Answer) → length (report p home x a) ≤ cond (home == p) 0 1
report-length p home x a = by (is_final a) (home == p)
  where
    by : (f b : Bool) → length {A = ℕ × Cargo} (cond (f && not b) ((home, Cargo.Report x a) ∷ []) []) ≤ cond b 0 1
    by true true = omega arith
    by true false = omega arith
    by false true = omega arith
    by false false = omega arith

pub reports-first : (p : ℕ) (ws : List Wait) (w : Wait) → slice_get ws 0 ≡ Some w → reports p ws ≡ cond (w.home == p) 0 1 + reports p (drop 1 ws)
reports-first p [] w h = cc
reports-first p (x ∷ xs) w h = let e : x ≡ w = cc in ap (λ (y : Wait). cond (y.home == p) 0 1 + reports p xs) e

-- the queue of k after its first message passed
pub passes : (k : Key) (qs : Key → Queue) → changed k passed qs k ≡ passed (qs k)
passes k qs = ap (λ b. cond b (passed (qs k)) (qs k)) (same_key-refl k)

pub at-key : (k : Key) (f : Queue → Queue) (qs : Key → Queue) → changed k f qs k ≡ f (qs k)
at-key k f qs = ap (λ b. cond b (f (qs k)) (qs k)) (same_key-refl k)

pub reports-passed : (p : ℕ) (k : Key) (rows more : List (Key × Row)) (w : Wait) → slice_get (queue rows k).waits 0 ≡ Some w
    → ((l : Key) → queue more l ≡ changed k passed (queue rows) l)
    → reports p (queue rows k).waits ≡ cond (w.home == p) 0 1 + reports p (queue more k).waits
reports-passed p k rows more w h e =
    reports-first p (queue rows k).waits w h
    ∙ ap (λ (q : Queue). cond (w.home == p) 0 1 + reports p q.waits) (sym (e k ∙ passes k (queue rows)))

-- what is left of the room
pub room-left : (cap more len spare n h r s now : ℕ) → n ≤ h → s ≡ h + r → now ≡ len + n → more ≡ cap
    → min (cap - len) (spare - len) + r ≤ min (more - now) (spare - now) + s
room-left cap more len spare n h r s now a b e f = omega (arith, a, b, e, f)

pub if-first : (o : Option Wait) (w : Wait) (P : Wait → Type 0) → o ≡ Some w → P w → IfSome o P
if-first o w P e h = subst (λ x. IfSome x P) (sym e) h

reports-append : (p : ℕ) (ws : List Wait) (w : Wait) → reports p (ws ++ w ∷ []) ≡ reports p ws + cond (w.home == p) 0 1
reports-append p [] w = omega arith
reports-append p (x ∷ xs) w = let e = reports-append p xs w in omega (arith, e)

pub here-none : (p : ℕ) (w : Wait) → w.home ≡ p → cond {A = ℕ} (w.home == p) 0 1 ≡ 0
here-none p w h = ap (λ b. cond {A = ℕ} b 0 1) (eq-is w.home p h)
  where
    eq-is : (a b : ℕ) → a ≡ b → (a == b) ≡ true
    eq-is a b e = grind (arith, e)

-- a message of this place is not reported
pub reports-own : (p : ℕ) (k : Key) (rows more : List (Key × Row)) (w : Wait) → ((l : Key) → queue more l ≡ changed k (with_last w) (queue rows) l) → w.home ≡ p
    → reports p (queue more k).waits ≡ reports p (queue rows k).waits
reports-own p k rows more w e h =
    let f = ap (λ (q : Queue). reports p q.waits) (e k ∙ at-key k (with_last w) (queue rows)) in
    let g = reports-append p (queue rows k).waits w in
    let n = here-none p w h in
    omega (arith, f, g, n)

-- What the messages of a queue report.

-- direct ones none
pub reports-direct : (l : Layout) (p : ℕ) (k : Key) (ws : List Wait) → All (MayWait l p k) ws → k.route ≡ None → reports p ws ≡ 0
reports-direct l p k [] m e = refl
reports-direct l p k (w ∷ ws) m e =
    let first = here-none p w ((All-head (MayWait l p k) w ws m).own e) in
    let rest = reports-direct l p k ws (All-tail (MayWait l p k) w ws m) e in omega (arith, first, rest)

-- each one at most
pub reports-most : (p : ℕ) (ws : List Wait) → reports p ws ≤ length ws
reports-most p [] = omega arith
reports-most p (w ∷ ws) = by (w.home == p) (reports-most p ws)
  where
    by : (b : Bool) → reports p ws ≤ length ws → cond b 0 1 + reports p ws ≤ length (w ∷ ws)
    by true h = omega (arith, h)
    by false h = omega (arith, h)
