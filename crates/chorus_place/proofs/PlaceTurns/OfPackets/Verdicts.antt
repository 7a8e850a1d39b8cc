-- A message hears its verdict.
use Rattle.std.proofs.Common.{◌≡◌, ℕ, max, ◌+◌, ◌^◌, ◌<◌, ◌≤◌, Result, Ok, Err, IfOk, Option, None, List, [], ◌∷◌, ◌++◌, length, drop, sym, ◌∙◌, ap, arith}
use Rattle.std.proofs.lemmas.List.{append-nil}
use Rattle.chorus_entry.specs.declared.id.MsgId.{MsgId}
use Rattle.chorus_entry.specs.declared.answer.Answer.{Answer}
use Rattle.chorus_entry.specs.declared.answer.Answer.TheVariants as A
use Rattle.chorus_world.specs.Places.{taught}
use Rattle.chorus_hints.specs.Known.{newest_of}
use Rattle.place_unsettled.specs.declared.wait.Key.{Key}
use Rattle.place_unsettled.specs.declared.wait.Wait.{Wait}
use Rattle.place_unsettled.specs.Queues.{Queue}
use Rattle.law_machine.specs.PlaceState.{Turn, location, greatest_clock}
use Rattle.law_machine.specs.Working.{taught_of, told}
use Rattle.chorus_place.specs.PlaceTables.Tables.{Tables}
use Rattle.chorus_place.specs.PlaceTables.Going.{leaving_to, leaving, leaving_after, waits_for, reports_for}
use Rattle.chorus_place.specs.PlaceTurns.OfPackets.Readiness.{settled_by, IsVerdictReady}
use Rattle.chorus_place.specs.PlaceTables.Steps.{told_by}
use Rattle.chorus_place.proofs.PlaceTables.MessagesLeave.{leaving-at}
use Rattle.chorus_place.proofs.PlaceTables.Reports.{at-key}

max-same : (n : ℕ) → max n n ≡ n
max-same n = omega arith

told-waits : (a : Answer) (q : Queue) → (told a q).waits ≡ drop (settled_by a) q.waits ++ []
told-waits (A.Stale to hop) q = sym (append-nil _)
told-waits _ q = sym (append-nil _)

told-length : (a : Answer) (q : Queue) → length (told a q).waits ≤ length q.waits
told-length a q = by a q.waits
  where
    less : (ws : List Wait) → length (drop 1 ws) ≤ length ws
    less [] = omega arith
    less (w ∷ ws) = omega arith

    by : (a : Answer) (ws : List Wait) → length (told a (record { tried = q.tried; waits = ws })).waits ≤ length ws
    by (A.Stale to hop) ws = omega arith
    by _ ws = less ws

pub tell-length : (k : Key) (x : MsgId) (a : Answer) (t u : Turn) → u ≡ told_by x k a t → length (u.place.waiting k).waits ≤ length (t.place.waiting k).waits
tell-length k x a t u e =
    let f = ap (λ (v : Turn). length (v.place.waiting k).waits) e ∙ ap (λ (q : Queue). length q.waits) (at-key k (told a) t.place.waiting) in
    let g = told-length a (t.place.waiting k) in omega (arith, f, g)

pub tell-clock : (k : Key) (x : MsgId) (a : Answer) (t u : Turn) → u ≡ told_by x k a t → greatest_clock u ≡ greatest_clock t + 1
tell-clock k x a t u e = ap greatest_clock e ∙ max-same (greatest_clock t + 1)

pub tell-leaving : (k : Key) (x : MsgId) (a : Answer) (t u : Turn) (o : Option Wait) → u ≡ told_by x k a t
    → o ≡ leaving_to t.place.layout t.place.number k.port (newest_of t.place.layout k.port (taught_of k.port (taught a) t.place.known k.port)).0 (drop (settled_by a) (t.place.waiting k).waits ++ [])
    → o ≡ leaving k u.place
tell-leaving k x a t u o e h =
    h
    ∙ leaving-at t.place.layout t.place.number k.port (taught_of k.port (taught a) t.place.known k.port) (drop (settled_by a) (t.place.waiting k).waits ++ [])
    ∙ sym (ap (λ (v : Turn). leaving k v.place) e
    ∙ ap (λ ws. leaving_to t.place.layout t.place.number k.port (location t.place.layout k.port (taught_of k.port (taught a) t.place.known k.port)).to ws)
    (ap (λ (q : Queue). q.waits) (at-key k (told a) t.place.waiting) ∙ told-waits a (t.place.waiting k)))

-- all is ready, by what was looked for behind the room
pub verdict-ready : {E : Type 0} (res : Result (Option Wait) E) (k : Key) (a : Answer) (n : ℕ) (p : Tables) → n ≡ settled_by a → IfOk res (λ o. o ≡ leaving_after k a n None p)
    → length (waits_for k p) < 2 ^ 63 → length (waits_for k p) + 1 ≤ p.journal.spare → reports_for k p + 1 ≤ p.room → IfOk res (λ o. IsVerdictReady k a o p)
verdict-ready (Ok o) k a n p is leaves few spare room =
    record { leaves = leaves ∙ ap (λ m. leaving_after k a m None p) is; few = few; spare = spare; room = room }
verdict-ready (Err x) k a n p is leaves few spare room = tt
