-- What a judgement did to its source and sink, by its end.
use Rattle.std.specs.Prelude.{◌≡◌, ℕ, List, Option, IfSome, Result, Ok, Err, reverse}
use Rattle.std.specs.Io.KnownBytes.{Appends}
use Rattle.chorus_ui.specs.declared.layout.Layout.{Layout}
use Rattle.chorus_entry.specs.declared.entry.Entry.{Entry}
use Rattle.chorus_io.specs.Bytes.{AppendsPrefix}
use Rattle.chorus_show.specs.declared.status.Status.{Status}
use Rattle.chorus_show.specs.declared.status.Status.TheVariants.{Done, WriteFault}
use Rattle.chorus_audit.specs.declared.judging.Audit.{Audit}
use Rattle.chorus_audit.specs.Tests.{IsRead}
use Rattle.judge_heads.specs.Heads.{layout_for, IsPlain}
use Rattle.judge_rules.specs.declared.blame.Blame.{Blame}
use Rattle.law_judge.specs.Open.{all_open}
use Rattle.chorus_judge.specs.Blaming.{BlamesBy}
use Rattle.chorus_judge.specs.declared.judgement.Judgement.{Judgement}
use Rattle.chorus_judge.specs.declared.asked.Asked.{Asked}
use Rattle.chorus_judge.specs.declared.asked.Measure.{Measure}
use Rattle.chorus_judge.specs.declared.asked.Measure.TheVariants.{Rules, Promises}
use Rattle.chorus_judge.specs.Judgements.{judgement_of}
use Rattle.chorus_judge.specs.Promising.{IsPromised}
use Rattle.chorus_judge.specs.Texts.{judged_text}

-- what is read of a text for a layout, what it is judged to be by that, and the text that says it
pub record IsJudgedFor (l : Layout) (text : List ℕ) (judgement : Judgement) (told : List ℕ) : Type 0 where
  pub entries : List Entry
  pub audit : Audit
  pub read : IsRead l text audit entries
  pub judged : judgement ≡ judgement_of audit (all_open l (reverse entries))
  pub blame : Option Blame
  pub blamed : BlamesBy l text audit entries blame
  pub is : told ≡ judged_text l audit blame (reverse entries)

-- by the rules of this system, or by the promises of any
abbrev pub IsJudgedBy : Measure → Layout → List ℕ → Judgement → List ℕ → Type 0
IsJudgedBy Rules l text judgement told = IsJudgedFor l text judgement told
IsJudgedBy Promises l text judgement told = IsPromised l text judgement told

-- it is judged with the plain head, for the layout that is asked for, else for the one that its own head names, if it
-- does
pub record IsJudged (asked : Asked) (text : List ℕ) (judgement : Judgement) (told : List ℕ) : Type 0 where
  pub named : Option Layout
  pub plain : List ℕ
  pub is_plain : IsPlain text named plain
  pub judged : IsJudgedBy asked.measure (layout_for asked.layout named) plain judgement told

-- where a journal was judged, all was done
abbrev pub status_of : Result Judgement Status → Status
status_of (Ok judgement) = Done
status_of (Err status) = status

-- the sink took the text of the judgement on what the source had, a prefix of it at WriteFault, and nothing at any other
-- status
abbrev pub Judges : Asked → Result Judgement Status → Option (List ℕ) → Option (List ℕ) → Option (List ℕ)
    → Type 0
Judges asked (Ok judgement) input old new =
    (told : List ℕ) × IfSome input (λ text. IsJudged asked text judgement told) × Appends old new told
Judges asked (Err WriteFault) input old new =
    (judgement : Judgement) × (told : List ℕ) × IfSome input (λ text. IsJudged asked text judgement told)
    × AppendsPrefix old new told
Judges asked (Err _) input old new = new ≡ old
