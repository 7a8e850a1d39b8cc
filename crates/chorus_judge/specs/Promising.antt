-- What a journal is judged to be by promises, and the text that says it.
use Rattle.std.specs.Prelude.{◌≡◌, ℕ, List, [], ◌∷◌, ◌++◌, Option, Some, None, codes, length}
use Rattle.chorus_ui.specs.declared.layout.Layout.{Layout}
use Rattle.chorus_entry.specs.declared.entry.Entry.{Entry}
use Rattle.chorus_show.specs.Journal.{count_line}
use Rattle.chorus_audit.specs.declared.judging.Audit.TheVariants as audits
use Rattle.chorus_audit.specs.declared.limits.TheConstants.{NO_LINE}
use Rattle.chorus_audit.specs.Lines.{AreLines}
use Rattle.chorus_audit.specs.Output.{verdict_text}
use Rattle.judge_promises.specs.Blames.{IsKept}
use Rattle.judge_promises.specs.Open.{all_open}
use Rattle.judge_rules.specs.declared.blame.Blame.{Blame}
use Rattle.law_judge.specs.declared.open.OpenAt.{OpenAt}
use Rattle.chorus_judge.specs.declared.judgement.Judgement.{Judgement}
use Rattle.chorus_judge.specs.declared.judgement.Judgement.TheVariants.{Quiet, Open, Wrong}
use Rattle.chorus_judge.specs.declared.promising.Found.{Found}
use Rattle.chorus_judge.specs.declared.promising.Found.TheVariants.{Kept, Broken, Stopped}
use Rattle.chorus_judge.specs.Texts.{blame_text, open_text}

-- of so many entries: what is said of the first that breaks a promise, if one does; else the line where the text stops
abbrev pub found_in : ℕ → Option ℕ → Option Blame → Found
found_in n stop (Some b) = Broken b
found_in n (Some line) None = Stopped line
found_in n None None = Kept n

abbrev pub found_judgement : Found → List OpenAt → Judgement
found_judgement (Kept n) [] = Quiet
found_judgement (Kept n) (o ∷ opens) = Open
found_judgement (Broken b) opens = Wrong
found_judgement (Stopped line) opens = Wrong

-- the verdict, and what is open
abbrev pub found_text : Found → List ℕ
found_text (Kept n) = count_line (codes "kept") n
found_text (Broken b) = blame_text b
found_text (Stopped line) = verdict_text (audits.Wrong line NO_LINE)

abbrev pub promised_text : Found → List OpenAt → List ℕ
promised_text found opens = found_text found ++ open_text opens

-- what is read of a text, whatever it says; which of its entries keep the promises, the newest first; what it is judged to
-- be by that, and the text that says it
pub record IsPromised (l : Layout) (text : List ℕ) (judgement : Judgement) (told : List ℕ) : Type 0 where
  pub entries : List Entry
  pub stop : Option ℕ
  pub lines : AreLines text entries stop
  pub past : List Entry
  pub blame : Option Blame
  pub kept : IsKept l entries past blame
  pub judged : judgement ≡ found_judgement (found_in (length entries) stop blame) (all_open past)
  pub is : told ≡ promised_text (found_in (length entries) stop blame) (all_open past)
