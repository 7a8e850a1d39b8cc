-- What a pump does: a serve and then a publish, in one turn.
-- p is the number of a place; o and q are a reader of its board, before and after; v and w are what the pass knows and its
-- caller before the call, u and x after it.
use Rattle.std.specs.Prelude.{ℕ, ◌≡◌, ◌⊎◌, Option, Result, Ok, Err, IfOk, IfErr, OnOk, OnErr, IfSome}
use Rattle.std.specs.declared.alloc.AllocError.{AllocError}
use Rattle.chorus_calls.specs.Callers.{Seated}
use Rattle.chorus_board.specs.declared.reader.BoardReader.{BoardReader}
use Rattle.chorus_serve.specs.declared.served.Pump.{Pump}
use Rattle.chorus_turn.specs.declared.knowledge.Knowledge.{Knowledge}
use Rattle.chorus_turn.specs.Knowing.{IsSamePass, seen_at}
use Rattle.chorus_turn.specs.Journals.{entries_of}
use Rattle.chorus_turn.specs.Passes as turns
use Rattle.law_closing.specs.Places.{PlaceNote}
use Rattle.chorus_nucleus.specs.declared.fault.CallFault.{CallFault}
use Rattle.chorus_nucleus.specs.declared.fault.CallFault.TheVariants as call_faults
use Rattle.chorus_nucleus.specs.declared.nucleus.Nucleus.{Nucleus}
use Rattle.chorus_nucleus.specs.declared.pass.Pass.{Pass}
use Rattle.chorus_nucleus.specs.SiteTurns.Reading.{Follows}
use Rattle.chorus_nucleus.specs.Passes.{layout_of, known, caller_of, worn_by, reader_of, readers_at, home_of, IsCallerOf, IsPassOf, Reads}
use Rattle.chorus_nucleus.specs.Calls.{gave, worn_after, IsRefused, Serves, Stays, Unserved}
use Rattle.chorus_nucleus.specs.Reading.{FollowsAt, HasPublished}

-- the answer of a pump, from those of its serve and of its publish
abbrev pub pumped : Result Pump CallFault → Result (Unit {0}) AllocError → Result Pump CallFault
pumped (Ok x) (Ok done) = Ok x
pumped (Ok x) (Err none) = Err (call_faults.Memory none)
pumped (Err f) _ = Err f

-- why a place was not pumped: it was not served; or it was, and publishing found no memory
abbrev pub Unpumped : CallFault → Nucleus → ℕ → Knowledge PlaceNote → Seated → Knowledge PlaceNote → Seated → Type 0
Unpumped f n p v w u x =
    (Unserved f n p v w u x × IsRefused v w u x)
    ⊎ ((none : AllocError) × (f ≡ call_faults.Memory none) × (served : Pump) × Serves n p served v w u x)

-- what one turn that serves and then publishes did: at Ok all entries that the pass has then seen of the place are
-- published, on its board, and the reader follows
pub record PumpDone (n : Nucleus) (p : ℕ) (o q : Option BoardReader) (r : Result Pump CallFault)
    (v : Knowledge PlaceNote) (w : Seated) (u : Knowledge PlaceNote) (x : Seated) : Type 0 where
  pub caller : IsCallerOf n.layout u x
  pub served : IfOk r (λ y. Serves n p y v w u x)
  pub board : OnOk r (HasPublished (turns.handed n.turns) p (entries_of (seen_at p u)))
  pub follows : OnOk r (Follows {E = CallFault} o q (entries_of (seen_at p u)) (Ok tt))
  pub fault : IfErr r (λ f. Unpumped f n p v w u x)
  pub kept : OnErr r (q ≡ o)
  pub reads : IfSome q (λ s. Reads n.layout (turns.handed n.turns) p s)
  pub gave_is : gave u ≡ gave v
  pub stays : Stays w x

-- what a pump of the place p did
pub record IsPump (n : Nucleus) (p : ℕ) (old new : Pass) (r : Result Pump CallFault) : Type 0 where
  pub pass : IsPassOf n new
  pub standing : IsSamePass (known old) (known new)
  pub served : IfOk r (λ x. Serves n p x (known old) (caller_of old) (known new) (caller_of new))
  pub board : OnOk r (HasPublished (turns.handed n.turns) p (entries_of (seen_at p (known new))))
  pub follows : OnOk r (FollowsAt (home_of (layout_of n) (caller_of old)) p (reader_of old) (reader_of new)
      (entries_of (seen_at p (known new))))
  pub fault : IfErr r (λ f. Unpumped f n p (known old) (caller_of old) (known new) (caller_of new))
  pub worn : worn_by new ≡ worn_after (worn_by old) r
  pub gave_is : gave (known new) ≡ gave (known old)
  pub stays : Stays (caller_of old) (caller_of new)
  pub readers : (q : ℕ) → readers_at q new ≡ readers_at q old
