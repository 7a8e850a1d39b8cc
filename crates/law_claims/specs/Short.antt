-- What the short forms say of the lines of facts. The words of each line are given; x is a message, p and q are ports, n a number.
use Rattle.std.specs.Prelude.{◌≡◌, ℕ, Bool, true, false, List, [], ◌∷◌, ◌++◌, ◌⊎◌, None, codes, Contains}
use Rattle.std.specs.List.{list_any}
use Rattle.chorus_claims.specs.Words.{words, words_in, is_mark, is_throughout}
use Rattle.chorus_claims.specs.Pieces.{Claim, meets}
use Rattle.chorus_claims.specs.Places.{is_fact}
use Rattle.chorus_claims.specs.Shapes.{claim_of, fault_of}

-- the claim is met exactly where this is so of the lines
abbrev pub Says : List ℕ → (List (List (List ℕ)) → Type 0) → Type 0
Says claim IsSo =
    (text : List ℕ) → (meets (claim_of claim) text ≡ true → IsSo (words_in text)) × (IsSo (words_in text) → meets (claim_of claim) text ≡ true)

-- the message was accepted, or members were chosen for it
abbrev pub IsTaken : List (List (List ℕ)) → List ℕ → Type 0
IsTaken lines x =
    Contains lines (codes "verdict" ∷ x ∷ codes "accepted" ∷ []) ⊎ Contains lines (codes "verdict" ∷ x ∷ codes "chosen" ∷ [])

abbrev pub RefusesNothing : List (List (List ℕ)) → Type 0
RefusesNothing lines =
    (x answer : List ℕ) (rest : List (List ℕ)) → Contains lines (codes "verdict" ∷ x ∷ answer ∷ rest) → IsTaken lines x

-- a command of a script received it
pub record IsReceived (lines : List (List (List ℕ))) (x : List ℕ) : Type 0 where
  pub script : List ℕ
  pub number : List ℕ
  pub port : List ℕ
  pub rest : List (List ℕ)
  pub told : Contains lines (codes "answer" ∷ script ∷ number ∷ codes "take" ∷ port ∷ x ∷ rest)

-- it waits in a port
pub record Waits (lines : List (List (List ℕ))) (x : List ℕ) : Type 0 where
  pub port : List ℕ
  pub actor : List ℕ
  pub front : List (List ℕ)
  pub behind : List (List ℕ)
  pub told : Contains lines (codes "port" ∷ port ∷ actor ∷ front ++ x ∷ behind)

abbrev pub LosesNothing : List (List (List ℕ)) → Type 0
LosesNothing lines =
    (x : List ℕ) → Contains lines (codes "verdict" ∷ x ∷ codes "accepted" ∷ []) → IsReceived lines x ⊎ Waits lines x

abbrev pub LeavesNothing : List (List (List ℕ)) → Type 0
LeavesNothing lines =
    (p actor : List ℕ) (rest : List (List ℕ)) → Contains lines (codes "port" ∷ p ∷ actor ∷ rest) →
    Contains lines (codes "port" ∷ p ∷ actor ∷ [])

-- the script posted a reply to this number of that client
pub record IsReplied (lines : List (List (List ℕ))) (server client n : List ℕ) : Type 0 where
  pub number : List ℕ
  pub message : List ℕ
  pub port : List ℕ
  pub rest : List (List ℕ)
  pub told : Contains lines
      (codes "answer" ∷ server ∷ number ∷ codes "post" ∷ message ∷ codes "port" ∷ port ∷ codes "reply" ∷ client ∷ n ∷ rest)

-- who receives x, which is request n of a script, replies to that script and this number
abbrev pub RepliesToRequests : List (List (List ℕ)) → Type 0
RepliesToRequests lines =
    (server i p x client j dest q n : List ℕ) (rest more : List (List ℕ)) →
    Contains lines (codes "answer" ∷ server ∷ i ∷ codes "take" ∷ p ∷ x ∷ rest) →
    Contains lines (codes "answer" ∷ client ∷ j ∷ codes "post" ∷ x ∷ dest ∷ q ∷ codes "request" ∷ n ∷ more) →
    IsReplied lines server client n

-- a command took a reply that came late
pub record IsLate (lines : List (List (List ℕ))) : Type 0 where
  pub script : List ℕ
  pub number : List ℕ
  pub port : List ℕ
  pub message : List ℕ
  pub call : List ℕ
  pub told : Contains lines
      (codes "answer" ∷ script ∷ number ∷ codes "take" ∷ port ∷ message ∷ codes "late" ∷ call ∷ [])

-- a call of a script is outstanding
pub record IsOutstanding (lines : List (List (List ℕ))) : Type 0 where
  pub script : List ℕ
  pub number : List ℕ
  pub told : Contains lines (codes "outstanding" ∷ script ∷ number ∷ [])

abbrev pub NothingRefused : Type 0
NothingRefused = Says (codes "nothing refused") RefusesNothing

abbrev pub NothingLost : Type 0
NothingLost = Says (codes "nothing lost") LosesNothing

abbrev pub NothingLeft : Type 0
NothingLeft = Says (codes "nothing left") LeavesNothing

abbrev pub RequestsReplied : Type 0
RequestsReplied = Says (codes "requests replied") RepliesToRequests

abbrev pub NothingLate : Type 0
NothingLate = Says (codes "nothing late") (λ lines. IsLate lines → ⊥)

abbrev pub CallsSettled : Type 0
CallsSettled = Says (codes "calls settled") (λ lines. IsOutstanding lines → ⊥)

-- each short form is a claim of every scenario
abbrev pub ShortFormsAreClaims : Type 0
ShortFormsAreClaims =
    (sites : ℕ) (commands : List ℕ) →
    (fault_of sites commands (codes "nothing refused") ≡ None) × (fault_of sites commands (codes "nothing lost") ≡ None)
    × (fault_of sites commands (codes "nothing left") ≡ None) × (fault_of sites commands (codes "requests replied") ≡ None)
    × (fault_of sites commands (codes "nothing late") ≡ None) × (fault_of sites commands (codes "calls settled") ≡ None)

-- When a claim is asked.

-- the texts with a space (32) between
abbrev pub joined : List ℕ → List ℕ → List ℕ
joined one other = one ++ (32 ∷ other)

abbrev pub at_each_moment : Claim → Claim
at_each_moment k = record k { throughout = true }

-- behind `throughout` a claim is the same, asked at each moment
abbrev pub ThroughoutAsksAtEachMoment : Type 0
ThroughoutAsksAtEachMoment =
    (text : List ℕ) → is_throughout text ≡ false →
    claim_of (joined (codes "throughout") text) ≡ at_each_moment (claim_of text)

-- the words are those of one fact: they begin as a fact does, and none is a mark
abbrev pub begins_fact : List (List ℕ) → Bool
begins_fact [] = false
begins_fact (w ∷ ws) = is_fact w

pub record IsOneFact (text : List ℕ) : Type 0 where
  pub begins : begins_fact (words text) ≡ true
  pub plain : list_any is_mark (words text) ≡ false

-- one fact before another is what that long form says
abbrev pub BeforeIsThroughout : Type 0
BeforeIsThroughout =
    (first second : List ℕ) → IsOneFact first → IsOneFact second →
    claim_of (joined first (joined (codes "before") second))
    ≡ claim_of (joined (codes "throughout") (joined second (joined (codes "=>") first)))
