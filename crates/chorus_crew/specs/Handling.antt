-- How messages are handled, and what the pass of a job makes. q is the port, l the layout, S the type of the state that
-- is kept for a port, way how messages are folded into it, value what a message at its position is worth, v and u are
-- what the pass knows before and after.
use Rattle.std.specs.Prelude.{ℕ, ◌≡◌, ◌+◌, ◌%◌, ◌^◌, List, [], ◌∷◌, ◌++◌, length}
use Rattle.std.specs.List.{All}
use Rattle.chorus_ui.specs.declared.ui.Ui.{Ui}
use Rattle.chorus_ui.specs.declared.layout.Layout.{Layout}
use Rattle.chorus_entry.specs.declared.act.Act.{Act}
use Rattle.chorus_entry.specs.declared.message.Message.{Message}
use Rattle.law_replies.specs.Taking.{taken_acts}
use Rattle.chorus_turn.specs.declared.knowledge.Knowledge.{Knowledge}
use Rattle.law_closing.specs.Places.{PlaceNote}
use Rattle.chorus_nucleus.specs.declared.taken_message.TakenMessage.{TakenMessage}
use Rattle.chorus_nucleus.specs.Taking.{Appends, HasOrigin}
use Rattle.chorus_nucleus.specs.Answers.{reply_with}
use Rattle.chorus_crew.specs.declared.folding.EndedBy.{EndedBy}
use Rattle.chorus_crew.specs.Endings.{last_acts}

-- the state that a port begins with, and that after a message
pub record Way (S : Type 0) : Type 0 where
  pub begun : Ui → S
  pub after : Ui → TakenMessage → S → S

-- that after these messages, one after another, from the state s
abbrev pub after_all : {S : Type 0} → Way S → Ui → List TakenMessage → S → S
after_all way q [] s = s
after_all way q (t ∷ ts) s = after_all way q ts (way.after q t s)

-- the acts of these takes, in order
abbrev pub took_acts : Ui → List TakenMessage → List Act
took_acts q [] = []
took_acts q (t ∷ ts) = taken_acts q (reply_with t) ++ took_acts q ts

-- each of these messages was given by a turn that the pass has seen
abbrev pub AreGiven : Layout → Ui → List TakenMessage → Knowledge PlaceNote → Type 0
AreGiven l q took v = All (λ (t : TakenMessage). HasOrigin l q (reply_with t) v) took

-- the position of the first, or 0
abbrev pub first_position : List TakenMessage → ℕ
first_position [] = 0
first_position (t ∷ ts) = t.position

-- the numbers are those of these takes; and each of their messages was handled once, in this order
pub record Folds {S : Type 0} (way : Way S) (q : Ui) (took : List TakenMessage) (from count : ℕ) (state : S)
    : Type 0 where
  pub first : from ≡ first_position took
  pub number : count ≡ length took
  pub state_is : state ≡ after_all way q took (way.begun q)

-- these messages were taken and handled, and so it ended; nothing else was appended
pub record Drains {S : Type 0} (way : Way S) (l : Layout) (q : Ui) (from count : ℕ) (state : S)
    (ended : EndedBy) (v u : Knowledge PlaceNote) : Type 0 where
  pub took : List TakenMessage
  pub given : AreGiven l q took u
  pub appends : Appends (took_acts q took ++ last_acts q ended) v u
  pub folds : Folds way q took from count state

-- Values that are added up: the state is their sum, modulo 2^64.

abbrev pub adding : (Ui → ℕ → Message → ℕ) → Way ℕ
adding value = record {
  begun = λ q. 0;
  after = λ q t total. (total + value q t.position t.message) % 2 ^ 64;
}

-- the values of these messages, each once, added up
abbrev pub worth : (Ui → ℕ → Message → ℕ) → Ui → List TakenMessage → ℕ
worth value q [] = 0
worth value q (t ∷ ts) = value q t.position t.message + worth value q ts

-- the numbers are those of these takes
pub record Counts (value : Ui → ℕ → Message → ℕ) (q : Ui) (took : List TakenMessage)
    (from count total : ℕ) : Type 0 where
  pub first : from ≡ first_position took
  pub number : count ≡ length took
  pub sum : total ≡ worth value q took % 2 ^ 64
