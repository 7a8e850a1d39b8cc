-- The commands that a pass gave: one more at each call that answers, and none more at any other.
use Rattle.std.proofs.Common.{ℕ, ◌≡◌, List, [], ◌∷◌, ◌++◌, refl, ◌∙◌, ap}
use Rattle.std.proofs.lemmas.List.{append-nil}
use Rattle.chorus_ui.specs.declared.layout.Layout.{Layout}
use Rattle.chorus_entry.specs.declared.command.Command.{Command}
use Rattle.chorus_entry.specs.declared.packet.Packet.{Packet}
use Rattle.chorus_calls.specs.Callers.{Seated}
use Rattle.law_machine.specs.PlaceState.{PlaceState}
use Rattle.chorus_turn.specs.declared.knowledge.Remarked.{Remarked}
use Rattle.chorus_turn.specs.declared.knowledge.Knowledge.{Knowledge}
use Rattle.chorus_turn.specs.Journals.{with_place}
use Rattle.law_history.specs.declared.turns.Input.{Input}
use Rattle.law_history.specs.Turns.{Turn}
use Rattle.law_history.specs.PlaceTurns.{machine}
use Rattle.law_history.specs.Runs.{with_command, commands_given}
use Rattle.law_closing.specs.Remarks.{turns_in, remarked}
use Rattle.law_closing.specs.Growth.{noted}
use Rattle.law_closing.specs.Places.{PlaceNote}
use Rattle.law_closing.proofs.Growth.{turns_in-append, turns_in-placed, turns_at-remarked}
use Rattle.chorus_nucleus.specs.SiteTurns.Turning.{TakesTurn, Looks}
use Rattle.chorus_nucleus.specs.Calls.{gave}

given-with : (i : Input Command Packet) (all bs cs : List Command) → all ≡ bs ++ cs → with_command i all ≡ with_command i bs ++ cs
given-with (Input.Command c) all bs cs e = ap (λ ds. c ∷ ds) e
given-with (Input.Packet a k) all bs cs e = e

given-append : (ts us : List (Turn Seated Command Packet)) → commands_given (ts ++ us) ≡ commands_given ts ++ commands_given us
given-append [] us = refl
given-append (t ∷ ts) us = given-with t.input (commands_given (ts ++ us)) (commands_given ts) (commands_given us) (given-append ts us)

pub gave-turn : (l : Layout) (p : ℕ) (i : Input Command Packet) (s : PlaceState) (v u : Knowledge PlaceNote) (w x : Seated) → TakesTurn l p i s v w u x → gave u ≡ gave v ++ with_command i []
gave-turn l p i s v u w x t =
    let r : PlaceNote = noted (machine l) p i s w in
    let news : List (Remarked PlaceNote) = remarked r (t.entry ∷ t.later) in
    ap gave t.knows ∙ ap commands_given (turns_in-append v.mine (with_place p v.seen news) ∙ ap (λ ts. turns_in v.mine ++ ts) (turns_in-placed p v.seen news ∙ turns_at-remarked p r t.entry t.later))
    ∙ given-append (turns_in v.mine) (_ ∷ [])

pub gave-look : (l : Layout) (p : ℕ) (s : PlaceState) (v u : Knowledge PlaceNote) (w x : Seated) → Looks l p s v w u x → gave u ≡ gave v
gave-look l p s v u w x t = ap gave t.knows ∙ ap (λ ms. commands_given (turns_in ms)) (append-nil v.mine)
