-- What is printed is read as it was printed, and no entry of it is out.
use Rattle.std.proofs.Common.{ℕ, ◌≡◌, List, ◌∷◌, ◌++◌, length, None, reverse, refl, sym, ◌∙◌, ap, arith, append_assoc, length-append}
use Rattle.std.specs.List.{flat_map}
use Rattle.chorus_ui.specs.declared.layout.Layout.{Layout}
use Rattle.chorus_entry.specs.declared.entry.Entry.{Entry}
use Rattle.chorus_world.proofs.Moments.{runs-are-legal}
use Rattle.chorus_show.specs.declared.status.Status.{Status}
use Rattle.chorus_show.specs.declared.status.Status.TheVariants.{Done, Usage, Scenario, ReadFault, WriteFault, Memory, Worn}
use Rattle.chorus_show.specs.Bounds.{AreWithin}
use Rattle.chorus_show.specs.Lines.{entry_text}
use Rattle.chorus_show.specs.Report.{report_with, summary_with}
use Rattle.chorus_net.specs.declared.closed.Closed.{Closed}
use Rattle.chorus_net.specs.Closing.{merge_of, past_of}
use Rattle.chorus_report.specs.Headline.{callers_of, AreWithinUnless}
use Rattle.chorus_audit.specs.declared.judging.Audit.{Audit}
use Rattle.chorus_audit.specs.declared.judging.Audit.TheVariants.{Legal, Wrong}
use Rattle.chorus_audit.specs.Report.{IsReport}
use Rattle.chorus_audit.specs.Tests.{head, IsRead}
use Rattle.chorus_audit.proofs.Agreeing.{Compared, Same, Fewer, More, compared, one_head}
use Rattle.chorus_audit.proofs.Steps.{verdict_of}
use Rattle.chorus_audit.proofs.Verdicts.{texts_have_one_verdict}
use Rattle.law_judge.specs.Open.{all_open}
use Rattle.judge_seats.specs.Seats.{first_out, seats_in}
use Rattle.judge_seats.proofs.Meaning.{runs_none_out}
use Rattle.chorus_judge.specs.Texts.{judged_text, legal_text}
use Rattle.law_judged.specs.Judged.{WhatIsPrintedIsJudgedARun}
use Rattle.law_judged.proofs.Seated.{callers_in}

within-both : (status : Status) (closed : Closed) → AreWithinUnless status closed → ((clock : ℕ) → status ≡ Worn clock → AreWithin (merge_of closed)) → AreWithin (merge_of closed)
within-both Done closed h worn = h
within-both Usage closed h worn = h
within-both (Scenario line reason) closed h worn = h
within-both ReadFault closed h worn = h
within-both WriteFault closed h worn = h
within-both Memory closed h worn = h
within-both (Worn clock) closed h worn = worn clock refl

-- One text is the report of one list.

module _ (l : Layout) (text : List ℕ) (es ds : List Entry) (he : IsReport l text es) (hd : IsReport l text ds) where
  abbrev behind-es : List ℕ
  behind-es = summary_with he.stuck es

  abbrev behind-ds : List ℕ
  behind-ds = summary_with hd.stuck ds

  same-texts : head (length es) ++ (flat_map entry_text es ++ behind-es) ≡ head (length ds) ++ (flat_map entry_text ds ++ behind-ds)
  same-texts =
      sym (append_assoc (head (length es)) (flat_map entry_text es) behind-es)
      ∙ sym he.is
      ∙ hd.is
      ∙ append_assoc (head (length ds)) (flat_map entry_text ds) behind-ds

  both : (length es ≡ length ds) × (flat_map entry_text es ++ behind-es ≡ flat_map entry_text ds ++ behind-ds)
  both = one_head (length es) (length ds) (flat_map entry_text es ++ behind-es) (flat_map entry_text ds ++ behind-ds) he.number hd.number same-texts

  longer : (xs : List Entry) (e : Entry) (tail : List Entry) → length xs ≡ length (xs ++ e ∷ tail) → ⊥
  longer xs e tail h = let k = length-append xs (e ∷ tail) in omega (arith, h, k)

  by-lists : Compared es behind-es ds behind-ds → es ≡ ds
  by-lists (Same same rest) = same
  by-lists (Fewer e tail is rest) = absurd (longer es e tail (both.0 ∙ ap (λ (xs : List Entry). length xs) is))
  by-lists (More e tail is rest) = absurd (longer ds e tail (sym both.0 ∙ ap (λ (xs : List Entry). length xs) is))

  pub one_list : es ≡ ds
  one_list = by-lists (compared es ds behind-es behind-ds he.within hd.within both.1)

read-legal : (l : Layout) (text : List ℕ) (audit : Audit) (es : List Entry) (n : ℕ) → audit ≡ Legal n → IsRead l text audit es → IsReport l text es
read-legal l text (Legal m) es n same h = h.0
read-legal l text (Wrong line rule) es n same h = absurd cc

pub judged_a_run : WhatIsPrintedIsJudgedARun
judged_a_run l told status closed shape h worn few stuck may judgement said judged = by-audit judged.audit refl
  where
    es : List Entry
    es = merge_of closed

    report-is : IsReport l (report_with stuck es) es
    report-is = record {
      number = few;
      within = within-both status closed h.within worn;
      legal = runs-are-legal l (callers_of h.scene) (past_of closed) h.plays.run;
      stuck = stuck;
      are = may;
      is = refl;
    }

    audit-is : judged.audit ≡ Legal (length es)
    audit-is = texts_have_one_verdict l (report_with stuck es) judged.audit (Legal (length es)) (verdict_of l (report_with stuck es) judged.audit judged.entries judged.read) (es, report-is, refl)

    entries-are : judged.entries ≡ es
    entries-are = one_list l (report_with stuck es) judged.entries es (read-legal l (report_with stuck es) judged.audit judged.entries (length es) audit-is judged.read) report-is

    none : first_out l (past_of closed) ≡ None
    none = runs_none_out l (past_of closed) (
      callers_of h.scene,
      record {
        actors = λ k a is. (callers_in l h.given.bytes h.scene shape h.given.given k a is).0;
        of_layout = λ k a is. (callers_in l h.given.bytes h.scene shape h.given.given k a is).1;
        run = h.plays.run;
      },
    )

    by-audit : (a : Audit) → judged.audit ≡ a → said ≡ legal_text (length es) None (seats_in l (past_of closed)) (all_open l (past_of closed))
    by-audit a same =
        judged.is
        ∙ (λ i. judged_text l (audit-is i) judged.blame (reverse (entries-are i)))
        ∙ ap (λ o. legal_text (length es) o (seats_in l (past_of closed)) (all_open l (past_of closed))) none
