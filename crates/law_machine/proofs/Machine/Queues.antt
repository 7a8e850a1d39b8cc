-- The chain of one queue: whoever goes is the first of it, and nothing of it is under way. So what holds of a first message at
-- each verdict and at each try holds of the chain.
use Rattle.std.proofs.Common.{ℕ, ◌≡◌, cond, List, [], ◌∷◌, Option, Some, None, refl, ◌∙◌, ap}
use Rattle.chorus_entry.specs.declared.answer.Answer.{Answer}
use Rattle.place_unsettled.specs.declared.wait.Key.{Key}
use Rattle.place_unsettled.specs.declared.wait.Wait.{Wait}
use Rattle.place_unsettled.specs.Queues.{Queue, changed, passed}
use Rattle.place_unsettled.proofs.Keys.{same_key-refl}
use Rattle.law_machine.specs.PlaceState.{Turn, newest}
use Rattle.law_machine.specs.Trying.{settles_here, tries_at, verdict_here, tries, goes_on, goes_unless, go}

-- these wait for k, and nothing is under way
abbrev pub wait_for : Key → List Wait → Turn → Type 0
wait_for k ws t = t.place.waiting k ≡ record { tried = None; waits = ws }

-- and what the place knows of the first one is this
abbrev pub Finds : Key → Wait → Option Answer → Turn → Type 0
Finds k w o t = verdict_here k w (newest t.place k.port) t.place ≡ o

-- a change at k
pub at-key : (k : Key) (f : Queue → Queue) (queues : Key → Queue) → changed k f queues k ≡ f (queues k)
at-key k f queues = ap (λ b. cond b (f (queues k)) (queues k)) (same_key-refl k)

pub settled-passes : (k : Key) (w : Wait) (ws : List Wait) (h : ℕ) (a : Answer) (t : Turn) → wait_for k (w ∷ ws) t → wait_for k ws (settles_here k w h a t)
settled-passes k w ws h a t e = at-key k passed t.place.waiting ∙ ap passed e

module _ (k : Key) (P : Turn → Type 0)
    (settles : (w : Wait) (ws : List Wait) (a : Answer) (t : Turn) → wait_for k (w ∷ ws) t → Finds k w (Some a) t → P t → P (settles_here k w (newest t.place k.port).hop a t))
    (leaves : (w : Wait) (ws : List Wait) (t : Turn) → wait_for k (w ∷ ws) t → Finds k w None t → P t → P (tries_at k w (newest t.place k.port) t)) where
  tries-goes : (w : Wait) (ws : List Wait) (on : Turn → Turn) (o : Option Answer) (t : Turn) → ((u : Turn) → wait_for k ws u → P u → P (on u))
      → wait_for k (w ∷ ws) t → Finds k w o t → P t → P (tries k w (newest t.place k.port) on o t)
  tries-goes w ws on (Some a) t next e f p =
      let h = (newest t.place k.port).hop in
      next (settles_here k w h a t) (settled-passes k w ws h a t e) (settles w ws a t e f p)
  tries-goes w ws on None t next e f p = leaves w ws t e f p

  pub goes-on-goes : (ws : List Wait) (t : Turn) → wait_for k ws t → P t → P (goes_on k ws t)
  goes-on-goes [] t e p = p
  goes-on-goes (w ∷ ws) t e p = tries-goes w ws (goes_on k ws) (verdict_here k w (newest t.place k.port) t.place) t (goes-on-goes ws) e refl p

  pub go-goes : (t : Turn) → P t → P (go k t)
  go-goes t p = by (t.place.waiting k).tried refl
    where
      by : (o : Option ℕ) → (t.place.waiting k).tried ≡ o → P (goes_unless k o (t.place.waiting k).waits t)
      by None e = let q : t.place.waiting k ≡ record { tried = None; waits = (t.place.waiting k).waits } = ap (λ o. record { tried = o; waits = (t.place.waiting k).waits }) e in
          goes-on-goes (t.place.waiting k).waits t q p
      by (Some to) e = p
