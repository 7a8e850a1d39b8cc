-- A message is told what was decided.
use Rattle.std.proofs.Common.{◌≡◌, ℕ, min, ◌+◌, ◌-◌, ◌≤◌, ◌==◌, cond, Option, Some, None, List, length, slice_get, sym, ◌∙◌, ap, arith, All}
use Rattle.std.proofs.lemmas.List.Elements.{All-drop}
use Rattle.chorus_ui.specs.declared.ui.Ui.{Ui}
use Rattle.chorus_ui.specs.declared.layout.Layout.{Layout}
use Rattle.chorus_entry.specs.declared.id.MsgId.{MsgId}
use Rattle.chorus_entry.specs.declared.answer.Answer.{Answer}
use Rattle.chorus_entry.specs.declared.answer.Answer.TheVariants as A
use Rattle.chorus_world.specs.declared.place.Location.{Location}
use Rattle.chorus_hints.specs.Known.{Known, kept}
use Rattle.place_unsettled.specs.declared.wait.Wait.{Wait}
use Rattle.place_unsettled.specs.declared.wait.Key.{Key}
use Rattle.place_unsettled.specs.Queues.{Queue, Row, queue, changed}
use Rattle.law_machine.specs.Trying.{report}
use Rattle.law_machine.specs.Working.{taught_of, told, report_of}
use Rattle.chorus_place.specs.PlaceTables.Going.{reports}
use Rattle.chorus_place.specs.PlaceTables.Steps.{MayTeach}
use Rattle.chorus_place.specs.PlaceTables.Tables.{MayWait, AreWaiting, AreLocated}
use Rattle.chorus_place.proofs.PlaceTables.Kept.{waiting-changed, located-learned}
use Rattle.chorus_place.proofs.PlaceTables.Reports.{report-length, reports-first, at-key}
use Rattle.chorus_place.proofs.PlaceTables.Going.{head}

pub report-first : (p : ℕ) (x : MsgId) (a : Answer) (ws : List Wait) (w : Wait) → slice_get ws 0 ≡ Some w → report p w.home x a ≡ report_of p x a ws
report-first p x a ws w h = sym (ap (report_of p x a) (head ws w h))

pub waiting-told : (l : Layout) (p : ℕ) (rows more : List (Key × Row)) (k : Key) (a : Answer) → AreWaiting l p rows
    → ((u : Key) → queue more u ≡ changed k (told a) (queue rows) u) → AreWaiting l p more
waiting-told l p rows more k a w e = waiting-changed l p rows more k (told a) w e (by a)
  where
    by : (a : Answer) → All (MayWait l p k) (told a (queue rows k)).waits
    by (A.Stale to hop) = w k
    by _ = All-drop (MayWait l p k) 1 (queue rows k).waits (w k)

pub located-taught : (l : Layout) (known more : Known) (q : Ui) (o : Option Location) → AreLocated l known
    → ((u : Ui) → kept more u ≡ taught_of q o (kept known) u) → MayTeach l q o → AreLocated l more
located-taught l known more q None k e may = λ u to hop h. k u to hop (sym (e u) ∙ h)
located-taught l known more q (Some at) k e may = located-learned l known more q at.to at.hop k e may.1

reports-by : (p : ℕ) (w : Wait) (x : MsgId) (a : Answer) (q : Queue) → slice_get q.waits 0 ≡ Some w
    → length (report p w.home x a) + reports p (told a q).waits ≤ reports p q.waits
reports-by p w x a q h = by a (report-length p w.home x a)
  where
    by : (a : Answer) → length (report p w.home x a) ≤ cond (w.home == p) 0 1 → length (report p w.home x a) + reports p (told a q).waits ≤ reports p q.waits
    by (A.Stale to hop) n = omega arith
    by (A.Accepted m) n = let f = reports-first p q.waits w h in omega (arith, n, f)
    by (A.Full m) n = let f = reports-first p q.waits w h in omega (arith, n, f)
    by (A.Early m) n = let f = reports-first p q.waits w h in omega (arith, n, f)
    by A.NoPort n = let f = reports-first p q.waits w h in omega (arith, n, f)
    by A.Already n = let f = reports-first p q.waits w h in omega (arith, n, f)
    by A.ClientsFull n = let f = reports-first p q.waits w h in omega (arith, n, f)
    by (A.Elsewhere to hop) n = let f = reports-first p q.waits w h in omega (arith, n, f)
    by A.NoMember n = let f = reports-first p q.waits w h in omega (arith, n, f)
    by (A.Chosen m) n = let f = reports-first p q.waits w h in omega (arith, n, f)
    by A.Gone n = let f = reports-first p q.waits w h in omega (arith, n, f)

pub reports-told : (p : ℕ) (k : Key) (rows more : List (Key × Row)) (w : Wait) (x : MsgId) (a : Answer) → slice_get (queue rows k).waits 0 ≡ Some w
    → ((l : Key) → queue more l ≡ changed k (told a) (queue rows) l)
    → length (report p w.home x a) + reports p (queue more k).waits ≤ reports p (queue rows k).waits
reports-told p k rows more w x a h e =
    let n = reports-by p w x a (queue rows k) h in
    let f = ap (λ (q : Queue). reports p q.waits) (e k ∙ at-key k (told a) (queue rows)) in
    omega (arith, n, f)

-- what is left of the room
pub room-kept : (cap more len spare n r s now : ℕ) → n + r ≤ s → now ≡ len + n → more ≡ cap
    → min (cap - len) (spare - len) + r ≤ min (more - now) (spare - now) + s
room-kept cap more len spare n r s now a e f = omega (arith, a, e, f)
