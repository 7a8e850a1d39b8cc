-- Positions behind which the same may come: all that a turn reads is the same, and all that an outcome tells.
-- j and k are journals, x is an id, s and t are positions, r is a race, ms and os are moves, the latest first.
use Rattle.std.specs.Prelude.{ℕ, ◌≡◌, Bool, true, List, length, map}
use Rattle.std.specs.Option.{option_map}
use Rattle.chorus_ui.specs.declared.ui.Ui.{Ui}
use Rattle.chorus_entry.specs.declared.entry.Entry.{Entry}
use Rattle.chorus_entry.specs.declared.id.MsgId.{MsgId}
use Rattle.chorus_world.specs.GroupLaws.{copies_of}
use Rattle.chorus_world.specs.Messages.{verdict}
use Rattle.chorus_world.specs.declared.place.Sent.{Sent}
use Rattle.law_explore.specs.Alike.{ReadAlike, NetsAlike}
use Rattle.law_explore.specs.Search.{state_after}
use Rattle.law_explore.specs.declared.moves.Move.{Move}
use Rattle.law_explore.specs.Races.{Race, Position, Told, replaying, next_moves}
use Rattle.law_explore.specs.Moment.{accepts_by, sent_by}
use Rattle.law_explore.specs.Outcome.{plain_act, plain_answer, is_stale_at, made_by}

-- all that a turn reads of a journal is the same, and all that an outcome tells of it: verdicts, copies, what was told
-- `stale`, and which ports were made
pub record TellAlike (j k : List Entry) : Type 0 where
  pub reads : ReadAlike j k
  pub verdicts : (x : MsgId) → option_map plain_answer (verdict x j) ≡ option_map plain_answer (verdict x k)
  pub copies : (x : MsgId) → map (λ (m : Sent). m.id) (copies_of x j) ≡ map (λ (m : Sent). m.id) (copies_of x k)
  pub stale : (x : MsgId) → is_stale_at x j ≡ is_stale_at x k
  pub made : made_by j ≡ made_by k

-- Where claims are asked, also which messages each port accepted, each with its position, and to which member each copy
-- goes.
pub record OrderAlike (j k : List Entry) : Type 0 where
  pub accepts : (q : Ui) → accepts_by q j ≡ accepts_by q k
  pub sent : (x : MsgId) → sent_by x j ≡ sent_by x k

pub record AskAlike (asks : Bool) (j k : List Entry) : Type 0 where
  pub tells : TellAlike j k
  pub order : asks ≡ true → OrderAlike j k

-- what answered, script by script, without the numbers that only tell when
abbrev pub plain_it : Told → Told
plain_it it = record { act = plain_act it.act; settles = it.settles }

abbrev pub plain_told : List (List Told) → List (List Told)
plain_told told = map (λ (its : List Told). map plain_it its) told

-- The networks are alike, the same is left of each script, and what was done of it was answered alike. Clocks may
-- differ, and in which order the entries of a journal came.
pub record PositionsAlike (count : ℕ) (s t : Position) : Type 0 where
  pub nets : NetsAlike TellAlike count s.net t.net
  pub left : t.left ≡ s.left
  pub told : plain_told t.told ≡ plain_told s.told

-- two histories of a race that come to positions that are alike
abbrev pub ComeAlike : Race → List Move → List Move → Type 0
ComeAlike r ms os = PositionsAlike (length r.scripts) (state_after (replaying r) ms) (state_after (replaying r) os)

-- the moves that may come behind a history
abbrev pub next_behind : Race → List Move → List Move
next_behind r ms = next_moves r (state_after (replaying r) ms)
