-- What a take of a port makes, and what it hands out.
-- n is a nucleus, l a layout, q a port, v and u are what a pass knows before and after.
use Rattle.std.specs.Prelude.{ℕ, ◌≡◌, ◌<◌, ◌≤◌, ◌⊎◌, Bool, true, false, List, [], ◌∷◌, ◌++◌, map, Result, IfOk, IfErr}
use Rattle.std.specs.List.{All}
use Rattle.chorus_ui.specs.declared.ui.Ui.{Ui}
use Rattle.chorus_ui.specs.declared.layout.Layout.{Layout}
use Rattle.chorus_ui.specs.Layout.{has_place}
use Rattle.chorus_entry.specs.declared.act.Act.{Act}
use Rattle.chorus_entry.specs.declared.command.Command.{Command}
use Rattle.chorus_entry.specs.Places.{place_for}
use Rattle.chorus_calls.specs.Callers.{Seated}
use Rattle.law_machine.specs.declared.reply.Reply.{Reply}
use Rattle.law_machine.specs.PlaceState.{PlaceState, started}
use Rattle.law_machine.specs.PlaceMachine.{begun}
use Rattle.law_machine.specs.Replies.{reply}
use Rattle.law_replies.specs.Taking.{taken_acts}
use Rattle.law_history.specs.declared.turns.Input.{Input}
use Rattle.law_history.specs.Histories.{Takes}
use Rattle.law_history.specs.Journals.{PlaceTurn}
use Rattle.law_history.specs.PlaceTurns.{machine}
use Rattle.chorus_turn.specs.declared.knowledge.Remarked.{Remarked}
use Rattle.chorus_turn.specs.declared.knowledge.Placed.{Placed}
use Rattle.chorus_turn.specs.declared.knowledge.Knowledge.{Knowledge}
use Rattle.chorus_turn.specs.Lists.{StartsWith}
use Rattle.chorus_turn.specs.Knowing.{IsSamePass, seen_at}
use Rattle.law_closing.specs.Actors.{AreIn}
use Rattle.law_closing.specs.Remarks.{turns_at, turns_in}
use Rattle.law_closing.specs.Places.{PlaceNote}
use Rattle.chorus_nucleus.specs.declared.fault.CallFault.{CallFault}
use Rattle.chorus_nucleus.specs.declared.nucleus.Nucleus.{Nucleus}
use Rattle.chorus_nucleus.specs.declared.pass.Pass.{Pass}
use Rattle.chorus_nucleus.specs.SiteTurns.Turning.{HasSeenMore}
use Rattle.chorus_nucleus.specs.Passes.{layout_of, known, caller_of, worn_by, sight_of, IsPassOf}
use Rattle.chorus_nucleus.specs.Calls.{Because, place_of, worn_after}
use Rattle.chorus_nucleus.specs.declared.taken_message.TakeAnswer.{TakeAnswer}
use Rattle.chorus_nucleus.specs.Answers.{reply_of}

-- the acts of what a pass made, in order
abbrev pub acts_made : List (Placed PlaceNote) → List Act
acts_made made = map (λ (m : Placed PlaceNote). m.remarked.entry.act) made

-- the pass made entries with these acts, and no others
pub record Appends (acts : List Act) (v u : Knowledge PlaceNote) : Type 0 where
  pub news : List (Placed PlaceNote)
  pub grown : u.mine ≡ v.mine ++ news
  pub acts_are : acts_made news ≡ acts

-- the port was asked in vain
abbrev pub IsMiss : Ui → Act → Type 0
IsMiss q a = (a ≡ Act.Empty q) ⊎ (a ≡ Act.NotHere q)

-- The turn that gave a reply: a place of the layout whose turns were those of the journal `found` gives it to a take of
-- the port. The pass has seen that journal, so it is a beginning of the place's when all is closed.
pub record HasOrigin (l : Layout) (q : Ui) (r : Reply) (v : Knowledge PlaceNote) : Type 0 where
  pub place : ℕ
  pub found : List (Remarked PlaceNote)
  pub state : PlaceState
  pub caller : Seated
  pub there : has_place l place ≡ true
  pub leads : Takes (machine l) place (started l place) (turns_at place found) state
  pub gives : reply (Command.Take q) (begun state caller) ≡ r
  pub seen : StartsWith (seen_at place v) found

-- A take of the port was answered by this reply: of a message the Take stands there, with what ends the call behind it;
-- of one in vain its Empty or NotHere alone.
pub record Gives (l : Layout) (q : Ui) (r : Reply) (v u : Knowledge PlaceNote) : Type 0 where
  pub appends : Appends (taken_acts q r) v u
  pub origin : HasOrigin l q r u

-- of each place the pass has seen what it had seen, and maybe more
abbrev pub SeesMore : Knowledge PlaceNote → Knowledge PlaceNote → Type 0
SeesMore v u = (p : ℕ) → StartsWith (seen_at p u) (seen_at p v)

-- what takes leave of a pass as it was
pub record KeepsPass (n : Nucleus) (old new : Pass) : Type 0 where
  pub pass : IsPassOf n new
  pub standing : IsSamePass (known old) (known new)
  pub sees : SeesMore (known old) (known new)
  pub seat : (caller_of new).seat ≡ (caller_of old).seat
  pub actor : (caller_of new).actor ≡ (caller_of old).actor
  pub sight : sight_of new ≡ sight_of old

-- A pass made this by takes of the port alone: at the place where the actor takes from it, in the actor, each turn a take,
-- and with all its entries above this clock, since the first of them is.
pub record IsByTakes (l : Layout) (q actor : Ui) (clock : ℕ) (mine : List (Placed PlaceNote)) : Type 0 where
  pub places : All (λ (m : Placed PlaceNote). m.place ≡ place_for l actor (Command.Take q)) mine
  pub within : AreIn actor mine
  pub turns : All (λ (t : PlaceTurn). t.input ≡ Input.Command (Command.Take q)) (turns_in mine)
  pub first : (m : Placed PlaceNote) (rest : List (Placed PlaceNote)) → mine ≡ m ∷ rest
      → clock < m.remarked.entry.clock

-- Its caller's clock does not fall; and what it made by takes of the port alone, above a clock that the caller had, it
-- goes on so.
pub record TakesOn (n : Nucleus) (q : Ui) (old new : Pass) : Type 0 where
  pub last : (caller_of old).last ≤ (caller_of new).last
  pub takes : (clock : ℕ) → clock ≤ (caller_of old).last
      → IsByTakes (layout_of n) q (caller_of old).actor clock (known old).mine
      → IsByTakes (layout_of n) q (caller_of old).actor clock (known new).mine

-- Nothing was made; and why not: the last try found the place held, no memory, or a worn clock. `tried` is what the
-- pass knew then.
pub record IsFault (n : Nucleus) (q : Ui) (f : CallFault) (old new : Pass) : Type 0 where
  pub tried : Knowledge PlaceNote
  pub before : tried.mine ≡ (known old).mine
  pub because : Because f (layout_of n) (place_of n (Command.Take q) old) tried (caller_of old) (known new)
      (caller_of new)
  pub mine : (known new).mine ≡ (known old).mine
  pub caller : HasSeenMore (caller_of old) (caller_of new)

-- what a take of the port did
pub record IsTake (n : Nucleus) (q : Ui) (r : Result TakeAnswer CallFault) (old new : Pass) : Type 0 where
  pub keeps : KeepsPass n old new
  pub goes : TakesOn n q old new
  pub answer : IfOk r (λ a. Gives (layout_of n) q (reply_of a) (known old) (known new))
  pub fault : IfErr r (λ f. IsFault n q f old new)
  pub worn : worn_by new ≡ worn_after (worn_by old) r

abbrev pub is_busy : CallFault → Bool
is_busy (CallFault.Busy by) = true
is_busy _ = false
