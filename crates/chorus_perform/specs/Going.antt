-- How a pass goes on while it performs commands.
-- a and b are the pass before and after.
use Rattle.std.specs.Prelude.{ℕ, ◌≡◌, ◌≤◌, ◌<◌, ◌+◌, ◌^◌, ◌⊎◌, true, List, [], ◌++◌, length}
use Rattle.std.specs.List.{All}
use Rattle.chorus_entry.specs.declared.command.Command.{Command}
use Rattle.chorus_entry.specs.declared.packet.Packet.{Packet}
use Rattle.chorus_entry.specs.Command.{meets_conditions}
use Rattle.chorus_turn.specs.Knowing.{IsSamePass}
use Rattle.law_history.specs.declared.turns.Input.{Input}
use Rattle.law_history.specs.Journals.{PlaceTurn}
use Rattle.law_closing.specs.Remarks.{turns_in}
use Rattle.chorus_nucleus.specs.declared.pass.Pass.{Pass}
use Rattle.chorus_nucleus.specs.Passes.{known, caller_of}
use Rattle.chorus_nucleus.specs.Calls.{gave}
use Rattle.law_closing.specs.Actors.{AreIn}

-- each of the turns began above this clock, so that its entries have later ones
abbrev pub BeginAbove : ℕ → List PlaceTurn → Type 0
BeginAbove clock turns = All (λ (t : PlaceTurn). clock < t.first) turns

-- each of them that took a command began at this clock or an earlier one: its first entry, which answers the command,
-- has such a clock
abbrev pub BeginsUpTo : ℕ → ℕ → Input Command Packet → Type 0
BeginsUpTo clock first (Input.Command c) = first ≤ clock
BeginsUpTo clock first (Input.Packet a k) = Unit {0}

abbrev pub CommandsUpTo : ℕ → List PlaceTurn → Type 0
CommandsUpTo clock turns = All (λ (t : PlaceTurn). BeginsUpTo clock t.first t.input) turns

-- Its caller's clock does not fall. Its new turns began above the clock that the caller had, and those that took a
-- command at most at the one that it has now.
pub record Rises (given : List Command) (a b : Pass) : Type 0 where
  pub last : (caller_of a).last ≤ (caller_of b).last
  pub above : (clock : ℕ) → clock ≤ (caller_of a).last → BeginAbove clock (turns_in (known a).mine) →
      BeginAbove clock (turns_in (known b).mine)
  pub up_to : (clock : ℕ) → (given ≡ []) ⊎ ((caller_of b).last ≤ clock) → CommandsUpTo clock (turns_in (known a).mine) →
      CommandsUpTo clock (turns_in (known b).mine)

-- The pass gave these commands more, in this order, whatever packets it worked off between them. Its entries are in its
-- actor as they were; it is the same pass, in the same actor, and has counted at most as many posts more.
pub record Goes (given : List Command) (a b : Pass) : Type 0 where
  pub gave_is : gave (known b) ≡ gave (known a) ++ given
  pub within : AreIn (caller_of a).actor (known a).mine → AreIn (caller_of a).actor (known b).mine
  pub same : IsSamePass (known a) (known b)
  pub actor : (caller_of b).actor ≡ (caller_of a).actor
  pub posts : (caller_of b).posts ≤ (caller_of a).posts + length given
  pub rises : Rises given a b

-- it gave the first of these commands
pub record GoesAsFar (commands : List Command) (a b : Pass) : Type 0 where
  pub given : List Command
  pub left : List Command
  pub whole : commands ≡ given ++ left
  pub goes : Goes given a b

-- it may post so many messages more
abbrev pub MayPost : ℕ → Pass → Type 0
MayPost m pass = (caller_of pass).posts + m < 2 ^ 32

abbrev pub AllMeet : List Command → Type 0
AllMeet commands = All (λ (command : Command). meets_conditions command ≡ true) commands
