-- How the passes of jobs end in the caller's.
-- n is the nucleus, `ended` are the passes that were retired, in this order.
use Rattle.std.specs.Prelude.{ℕ, ◌≡◌, ◌≤◌, ◌+◌, Bool, true, ◌&&◌, Option, Some, List, [], ◌∷◌, ◌++◌, length, map, is_none}
use Rattle.std.specs.List.{All}
use Rattle.std.specs.Option.{option_or}
use Rattle.chorus_ui.specs.declared.ui.Ui.{Ui}
use Rattle.chorus_turn.specs.declared.knowledge.Note.{Note}
use Rattle.chorus_turn.specs.declared.knowledge.Placed.{Placed}
use Rattle.chorus_turn.specs.Knowing.{note_of}
use Rattle.law_closing.specs.Places.{PlaceNote}
use Rattle.chorus_nucleus.specs.SiteTurns.Turning.{HasSeenMore}
use Rattle.chorus_nucleus.specs.declared.nucleus.Nucleus.{Nucleus}
use Rattle.chorus_nucleus.specs.declared.pass.Pass.{Pass}
use Rattle.chorus_nucleus.specs.Passes.{known, caller_of, worn_by, IsPassOf}
use Rattle.chorus_nucleus.specs.declared.taken_message.TakenMessage.{TakenMessage}
use Rattle.chorus_nucleus.specs.Taking.{acts_made, SeesMore}
use Rattle.chorus_crew.specs.declared.folding.EndedBy.{EndedBy}
use Rattle.chorus_crew.specs.declared.folding.Folded.{Folded}
use Rattle.chorus_crew.specs.declared.job.Done.{Done}
use Rattle.chorus_crew.specs.declared.job.Tally.{Tally}
use Rattle.chorus_crew.specs.Endings.{last_acts, fault_of}
use Rattle.chorus_crew.specs.Handling.{took_acts}
use Rattle.chorus_crew.specs.Jobs.{IsPlain}

abbrev pub passes_of : {S : Type 0} → List (Done S) → List Pass
passes_of {S} dones = map (λ (d : Done S). d.pass) dones

-- what a job gave, and what all did
abbrev pub folded_with : {S : Type 0} → Ui → Tally S → Folded S
folded_with q t = record { port = q; from = t.from; count = t.count; state = t.state; ended = t.ended }

abbrev pub folded_of : {S : Type 0} → List (Done S) → List (Folded S)
folded_of [] = []
folded_of (d ∷ dones) = folded_with d.port d.tally ∷ folded_of dones

-- whether all were done to their end
abbrev pub is_done : {S : Type 0} → List (Done S) → Bool
is_done [] = true
is_done (d ∷ dones) = is_none (fault_of d.tally.ended) && is_done dones

-- the first worn clock, behind one that was there
abbrev pub worn_of : {S : Type 0} → Option ℕ → List (Done S) → Option ℕ
worn_of o [] = o
worn_of o (d ∷ dones) = worn_of (option_or o (worn_by d.pass)) dones

-- the job of the slot is done, and its pass draws no numbers
abbrev pub IsFullSlot : {S : Type 0} → Nucleus → Option (Done S) → Type 0
IsFullSlot {S} n s = (d : Done S) × (s ≡ Some d) × IsPlain n d.pass

-- passes that draw no numbers were retired into the pass: their notes stand behind its own, and it has seen, and its
-- caller was shown, what they have
pub record TakesIn (n : Nucleus) (old new : Pass) (ended : List Pass) : Type 0 where
  pub pass : IsPassOf n new
  pub seat : (known new).seat ≡ (known old).seat
  pub keeper : (known new).keeper ≡ (known old).keeper
  pub made : (known new).made ≡ (known old).made
  pub mine : (known new).mine ≡ (known old).mine
  pub caller : HasSeenMore (caller_of old) (caller_of new)
  pub notes : (known new).notes ≡ (known old).notes ++ map (λ (p : Pass). note_of (known p)) ended
  pub sees : SeesMore (known old) (known new)
  pub seen : All (λ (p : Pass). SeesMore (known p) (known new)) ended

-- the pass made nothing but takes of one port, and at most one in vain at the end
pub record TookAlone (made : List (Placed PlaceNote)) : Type 0 where
  pub port : Ui
  pub took : List TakenMessage
  pub ended : EndedBy
  pub acts : acts_made made ≡ took_acts port took ++ last_acts port ended

-- the caller's pass is still the keeper, and each pass that was drawn ended in it: so the numbers drawn, less the
-- passes ended, are as before
pub record IsRetired (n : Nucleus) (old new : Pass) : Type 0 where
  pub pass : IsPassOf n new
  pub keeper : (known new).keeper ≡ true
  pub seat : (known new).seat ≡ (known old).seat
  pub mine : (known new).mine ≡ (known old).mine
  pub caller : HasSeenMore (caller_of old) (caller_of new)
  pub news : List (Note PlaceNote)
  pub notes : (known new).notes ≡ (known old).notes ++ news
  pub drawn : (known new).made ≡ (known old).made + length news
  pub alone : All (λ (m : Note PlaceNote). TookAlone m.mine) news

-- the passes that were drawn made nothing
pub record HasTakenNothing (old new : Pass) : Type 0 where
  pub news : List (Note PlaceNote)
  pub notes : (known new).notes ≡ (known old).notes ++ news
  pub nothing : All (λ (m : Note PlaceNote). m.mine ≡ []) news
