-- A take of a port that is made only where it is answered by a message.
-- n is a nucleus, l a layout, p the number of a place, q a port, v and w are what a pass knows and its caller before the
-- call, u and x after it.
use Rattle.std.specs.Prelude.{ℕ, ◌≡◌, List, [], ◌∷◌, ◌++◌, Option, Some, None, Result, Ok, Err, IfOk, IfErr, OnErr}
use Rattle.chorus_ui.specs.declared.ui.Ui.{Ui}
use Rattle.chorus_ui.specs.declared.layout.Layout.{Layout}
use Rattle.chorus_entry.specs.declared.command.Command.{Command}
use Rattle.chorus_calls.specs.Callers.{Seated}
use Rattle.law_machine.specs.PlaceState.{PlaceState}
use Rattle.law_closing.specs.Places.{PlaceNote}
use Rattle.chorus_turn.specs.declared.knowledge.Knowledge.{Knowledge}
use Rattle.chorus_turn.specs.Knowing.{IsSamePass}
use Rattle.chorus_nucleus.specs.declared.fault.CallFault.{CallFault}
use Rattle.chorus_nucleus.specs.declared.nucleus.Nucleus.{Nucleus}
use Rattle.chorus_nucleus.specs.declared.pass.Pass.{Pass}
use Rattle.chorus_nucleus.specs.declared.taken_message.TakenMessage.{TakenMessage}
use Rattle.chorus_nucleus.specs.SiteTurns.Turning.{Looks}
use Rattle.chorus_nucleus.specs.SiteTurns.Readiness.{GivesNone}
use Rattle.chorus_nucleus.specs.Passes.{layout_of, known, caller_of, worn_by, sight_of, IsPassOf}
use Rattle.chorus_nucleus.specs.Calls.{gave, Because, Grows, IsRefused, Performs, place_of, worn_after}
use Rattle.chorus_nucleus.specs.Answers.{reply_with}

-- The take was performed, in one turn, and answered by this message; or the turn looked at the place, where a take by
-- the caller would not have been answered by one.
abbrev pub TakesOrLooks : Layout → ℕ → Ui → Option TakenMessage → Knowledge PlaceNote → Seated → Knowledge PlaceNote
    → Seated → Type 0
TakesOrLooks l p q (Some m) v w u x = Performs l p (Command.Take q) (reply_with m) v w u x
TakesOrLooks l p q None v w u x = (s : PlaceState) × Looks l p s v w u x × GivesNone (Command.Take q) s w

-- with the take behind them where it was answered by a message
abbrev pub gave_ready : Ui → Result (Option TakenMessage) CallFault → List Command → List Command
gave_ready q (Ok (Some m)) cs = cs ++ Command.Take q ∷ []
gave_ready q (Ok None) cs = cs
gave_ready q (Err f) cs = cs

-- What it did. A look compares no clock: a port that gives no message is told so where clocks are worn too.
pub record IsReadyTake (n : Nucleus) (q : Ui) (r : Result (Option TakenMessage) CallFault) (old new : Pass) : Type 0 where
  pub pass : IsPassOf n new
  pub standing : IsSamePass (known old) (known new)
  pub answer : IfOk r (λ a. TakesOrLooks (layout_of n) (place_of n (Command.Take q) old) q a (known old) (caller_of old)
      (known new) (caller_of new))
  pub fault : IfErr r (λ f. Because f (layout_of n) (place_of n (Command.Take q) old) (known old) (caller_of old)
      (known new) (caller_of new))
  pub refused : OnErr r (IsRefused (known old) (caller_of old) (known new) (caller_of new))
  pub worn : worn_by new ≡ worn_after (worn_by old) r
  pub gave_is : gave (known new) ≡ gave_ready q r (gave (known old))
  pub grows : Grows (caller_of old) (caller_of new)
  pub sight : sight_of new ≡ sight_of old
