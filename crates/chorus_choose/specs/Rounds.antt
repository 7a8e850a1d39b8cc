-- What a receive appends.
-- n is a nucleus, l a layout, `asked` are ports that were asked in vain, one after another,
-- `earlier` those of earlier rounds, `ports` those of the receive in the order in which they are looked at; v and u are
-- what the pass knows before and after.
use Rattle.std.specs.Prelude.{ℕ, zero, suc, ◌≡◌, List, [], ◌∷◌, ◌++◌, length, Result, IfOk, IfErr}
use Rattle.chorus_ui.specs.declared.ui.Ui.{Ui}
use Rattle.chorus_ui.specs.declared.layout.Layout.{Layout}
use Rattle.chorus_entry.specs.declared.act.Act.{Act}
use Rattle.law_machine.specs.declared.reply.Reply.{Reply}
use Rattle.law_replies.specs.Taking.{taken_acts}
use Rattle.chorus_turn.specs.declared.knowledge.Knowledge.{Knowledge}
use Rattle.law_closing.specs.Places.{PlaceNote}
use Rattle.chorus_nucleus.specs.declared.fault.CallFault.{CallFault}
use Rattle.chorus_nucleus.specs.declared.nucleus.Nucleus.{Nucleus}
use Rattle.chorus_nucleus.specs.declared.pass.Pass.{Pass}
use Rattle.chorus_nucleus.specs.Passes.{layout_of, known, worn_by}
use Rattle.chorus_nucleus.specs.Calls.{worn_after}
use Rattle.chorus_nucleus.specs.Taking.{Appends, IsMiss, HasOrigin, KeepsPass, IsFault}
use Rattle.chorus_choose.specs.declared.received.Received.{Received}
use Rattle.chorus_choose.specs.declared.received.Received.TheVariants as receives

-- one Empty or NotHere for each port, in their order
abbrev pub AreMisses : List Ui → List Act → Type 0
AreMisses [] [] = Unit {0}
AreMisses [] (a ∷ acts) = ⊥
AreMisses (q ∷ qs) [] = ⊥
AreMisses (q ∷ qs) (a ∷ acts) = IsMiss q a × AreMisses qs acts

-- the ports were asked in vain, and nothing else was appended
pub record Missed (asked : List Ui) (v u : Knowledge PlaceNote) : Type 0 where
  pub acts : List Act
  pub misses : AreMisses asked acts
  pub appends : Appends acts v u

-- behind those in vain, of earlier rounds and of the ports before it, q gave a message, and what its take appended
-- stands behind
pub record GivesAfter (l : Layout) (earlier ports : List Ui) (q : Ui) (r : Reply)
    (v u : Knowledge PlaceNote) : Type 0 where
  pub front : List Ui
  pub rest : List Ui
  pub split : ports ≡ front ++ q ∷ rest
  pub acts : List Act
  pub misses : AreMisses (earlier ++ front) acts
  pub appends : Appends (acts ++ taken_acts q r) v u
  pub origin : HasOrigin l q r u

-- it was stopped at one of the ports by the fault of its take, and those before it were asked in vain
pub record StopsAfter (n : Nucleus) (earlier ports : List Ui) (f : CallFault) (old new : Pass) : Type 0 where
  pub front : List Ui
  pub at : Ui
  pub rest : List Ui
  pub split : ports ≡ front ++ at ∷ rest
  pub between : Pass
  pub missed : Missed (earlier ++ front) (known old) (known between)
  pub fault : IsFault n at f between new

abbrev pub Receives : Layout → List Ui → List Ui → Received → Knowledge PlaceNote → Knowledge PlaceNote → Type 0
Receives l earlier ports (receives.Taken q pos m settled) v u =
    GivesAfter l earlier ports q (Reply.Taken pos m settled) v u
Receives l earlier ports (receives.Empty looked) v u = (looked ≡ length ports) × Missed (earlier ++ ports) v u

-- what a receive did, with the rounds before it
pub record IsReceive (n : Nucleus) (earlier ports : List Ui) (r : Result Received CallFault)
    (old new : Pass) : Type 0 where
  pub keeps : KeepsPass n old new
  pub received : IfOk r (λ x. Receives (layout_of n) earlier ports x (known old) (known new))
  pub stopped : IfErr r (λ f. StopsAfter n earlier ports f old new)
  pub worn : worn_by new ≡ worn_after (worn_by old) r

-- n rounds of the ports
abbrev pub rounds : ℕ → List Ui → List Ui
rounds zero ports = []
rounds (suc n) ports = rounds n ports ++ ports
