-- A text has one verdict.
use Rattle.std.proofs.Common.{◌≡◌, ℕ, ◌+◌, ◌<◌, Bool, true, false, List, ◌∷◌, ◌++◌, length, reverse, refl, sym, ap, ◌∙◌, subst, append_assoc, arith, inl, inr}
use Rattle.std.specs.Prelude.{◌⊎◌, ◌↔◌}
use Rattle.chorus_ui.specs.declared.layout.Layout.{Layout}
use Rattle.chorus_entry.specs.declared.entry.Entry.{Entry}
use Rattle.chorus_world.specs.Steps.{may, is_legal}
use Rattle.chorus_checker.specs.Rules.{rule_of}
use Rattle.chorus_show.specs.Lines.{entry_text}
use Rattle.chorus_show.specs.Report.{summary_with}
use Rattle.chorus_audit.specs.declared.judging.Audit.{Audit}
use Rattle.chorus_audit.specs.declared.judging.Audit.TheVariants.{Legal, Wrong}
use Rattle.chorus_audit.specs.declared.limits.TheConstants.{NO_LINE}
use Rattle.chorus_show.specs.Bounds.{IsWithin, AreWithin}
use Rattle.chorus_audit.specs.Report.{IsReport}
use Rattle.chorus_audit.specs.Tests.{head, FailsAtHead, Begins, IsNoEntry, IsUnlawful, IsSummary, IsNoSummary, IsWrong, AtHead, AtEntry, AtSummary, IsVerdict, TextsHaveOneVerdict}
use Rattle.chorus_audit.proofs.Agreeing.{lines, one_entry, one_head, Compared, Same, Fewer, More, compared, legal_next, within_next, length_next}

true_false : (b : Bool) → b ≡ true → b ≡ false → ⊥
true_false b h k = grind arith

module _ (l : Layout) (text : List ℕ) where
  -- why a verdict stands where these entries were found
  data Reason (n : ℕ) (es : List Entry) (rest : List ℕ) (a : Audit) : Type 0 where
    Whole : length es ≡ n → IsSummary es rest → a ≡ Legal n → Reason n es rest a
    Differs : length es ≡ n → (shared : ℕ) → IsNoSummary es rest shared → a ≡ Wrong (length es + 2 + shared) NO_LINE → Reason n es rest a
    Stops : length es < n → (rule : ℕ) → IsNoEntry rest rule ⊎ IsUnlawful l (reverse es) rest rule → a ≡ Wrong (length es + 2) rule → Reason n es rest a

  record Ended (a : Audit) : Type 0 where
    told : ℕ
    entries : List Entry
    rest : List ℕ
    begins : Begins l text told entries rest
    reason : Reason told entries rest a

  data Way (a : Audit) : Type 0 where
    Headless : FailsAtHead text 1 NO_LINE → a ≡ Wrong 1 NO_LINE → Way a
    Found : Ended a → Way a

  whole : (es : List Entry) (n : ℕ) → IsReport l text es → length es ≡ n → Way (Legal n)
  whole es n h len =
      Found (record {
        told = n;
        entries = es;
        rest = summary_with h.stuck es;
        begins = record {
          number = subst (λ m. m < 4294967296) len h.number;
          few = omega (arith, len);
          within = h.within;
          legal = h.legal;
          is = h.is ∙ ap (λ m. (head m ++ lines es) ++ summary_with h.stuck es) len ∙ append_assoc (head n) (lines es) (summary_with h.stuck es);
        };
        reason = Whole len (h.stuck, h.are, refl) refl;
      })

  at_head : (line rule : ℕ) → FailsAtHead text line rule → Way (Wrong line rule)
  at_head line rule h = Headless (record { is_first = refl; is_rule = refl; no_head = h.no_head }) (λ i. Wrong (h.is_first i) (h.is_rule i))

  way : (a : Audit) → IsVerdict l text a → Way a
  way (Legal n) (es, h, len) = whole es n h len
  way (Wrong line rule) (AtHead h) = at_head line rule h
  way (Wrong line rule) (AtEntry h) =
      Found (record { told = h.told; entries = h.entries; rest = h.rest; begins = h.begins; reason = Stops h.more_told rule h.fails (ap (λ n. Wrong n rule) h.is_line) })
  way (Wrong line rule) (AtSummary h) =
      Found (record { told = length h.entries; entries = h.entries; rest = h.rest; begins = h.begins; reason = Differs refl h.shared h.none (λ i. Wrong (h.is_line i) (h.is_rule i)) })

  rules_agree : (past : List Entry) (rest : List ℕ) (r s : ℕ) → IsNoEntry rest r ⊎ IsUnlawful l past rest r → IsNoEntry rest s ⊎ IsUnlawful l past rest s → r ≡ s
  rules_agree past rest r s (inl h) (inl k) = h.is_rule ∙ sym k.is_rule
  rules_agree past rest r s (inl h) (inr k) = absurd (h.no_entry k.entry k.more k.within k.is)
  rules_agree past rest r s (inr h) (inl k) = absurd (k.no_entry h.entry h.more h.within h.is)
  rules_agree past rest r s (inr h) (inr k) =
      let same = one_entry h.entry k.entry h.more k.more h.within.numbers k.within.numbers (sym h.is ∙ k.is) in
      h.is_rule ∙ ap (rule_of l past) same.0 ∙ sym k.is_rule

  shares_agree : (es : List Entry) (rest : List ℕ) (m n : ℕ) → IsNoSummary es rest m → IsNoSummary es rest n → m ≡ n
  shares_agree es rest m n h k = omega (arith, h.shares, k.shares, h.most k.stuck k.are, k.most h.stuck h.are)

  reasons_agree : (n : ℕ) (es : List Entry) (rest : List ℕ) (a b : Audit) → Reason n es rest a → Reason n es rest b → a ≡ b
  reasons_agree n es rest a b (Whole p q e) (Whole p' q' e') = e ∙ sym e'
  reasons_agree n es rest a b (Whole p q e) (Differs p' m q' e') = absurd (q'.differs q)
  reasons_agree n es rest a b (Whole p q e) (Stops p' r q' e') = absurd (omega (arith, p, p'))
  reasons_agree n es rest a b (Differs p m q e) (Whole p' q' e') = absurd (q.differs q')
  reasons_agree n es rest a b (Differs p m q e) (Differs p' m' q' e') = e ∙ ap (λ k. Wrong (length es + 2 + k) NO_LINE) (shares_agree es rest m m' q q') ∙ sym e'
  reasons_agree n es rest a b (Differs p m q e) (Stops p' r q' e') = absurd (omega (arith, p, p'))
  reasons_agree n es rest a b (Stops p r q e) (Whole p' q' e') = absurd (omega (arith, p, p'))
  reasons_agree n es rest a b (Stops p r q e) (Differs p' m' q' e') = absurd (omega (arith, p, p'))
  reasons_agree n es rest a b (Stops p r q e) (Stops p' r' q' e') = e ∙ ap (Wrong (length es + 2)) (rules_agree (reverse es) rest r r' q q') ∙ sym e'

  -- where a verdict stands no entry follows that may come next
  no_more : (n : ℕ) (es : List Entry) (rest : List ℕ) (a : Audit) → Reason n es rest a → (e : Entry) (more : List ℕ) → length es < n → IsWithin e → rest ≡ entry_text e ++ more → may l (reverse es) e ≡ true → ⊥
  no_more n es rest a (Whole p q x) e more less within is may = omega (arith, p, less)
  no_more n es rest a (Differs p m q x) e more less within is may = omega (arith, p, less)
  no_more n es rest a (Stops p r (inl h) x) e more less within is may = h.no_entry e more within is
  no_more n es rest a (Stops p r (inr h) x) e more less within is allowed =
      let same = one_entry e h.entry more h.more within.numbers h.within.numbers (sym is ∙ h.is) in
      true_false (may l (reverse es) e) allowed (ap (may l (reverse es)) same.0 ∙ h.unlawful)

  goes_on : (n : ℕ) (es ds : List Entry) (x y : List ℕ) (a : Audit) → Reason n es x a → Begins l text n ds y → (e : Entry) (tail : List Entry) → ds ≡ es ++ e ∷ tail → x ≡ entry_text e ++ (lines tail ++ y) → ⊥
  goes_on n es ds x y a reason h e tail longer is =
      let legal = ap (λ zs. is_legal l (reverse zs)) (sym longer) ∙ h.legal in
      let within = within_next es e tail (subst AreWithin longer h.within) in
      let short : length es < n = omega (arith, length_next es e tail, ap (λ zs. length zs) longer, h.few) in
      no_more n es x a reason e (lines tail ++ y) short within is (legal_next l es e tail legal)

  moved : (n : ℕ) (es ds : List Entry) (x y : List ℕ) (b : Audit) → es ≡ ds → x ≡ y → Reason n ds y b → Reason n es x b
  moved n es ds x y b p q r = subst (λ zs. Reason n zs x b) (sym p) (subst (λ z. Reason n ds z b) (sym q) r)

  ends_agree : (n : ℕ) (es ds : List Entry) (x y : List ℕ) (a b : Audit) → Begins l text n es x → Begins l text n ds y → Reason n es x a → Reason n ds y b → Compared es x ds y → a ≡ b
  ends_agree n es ds x y a b h k r s (Same p q) = reasons_agree n es x a b r (moved n es ds x y b p q s)
  ends_agree n es ds x y a b h k r s (Fewer e tail p q) = absurd (goes_on n es ds x y a r k e tail p q)
  ends_agree n es ds x y a b h k r s (More e tail p q) = absurd (goes_on n ds es y x b s h e tail p q)

  told_same : (m n : ℕ) (ds : List Entry) (y : List ℕ) (b : Audit) → m ≡ n → Begins l text m ds y → Reason m ds y b → Begins l text n ds y × Reason n ds y b
  told_same m n ds y b e h r = (subst (λ k. Begins l text k ds y) e h, subst (λ k. Reason k ds y b) e r)

  ways_agree : (a b : Audit) → Way a → Way b → a ≡ b
  ways_agree a b (Headless h p) (Headless k q) = p ∙ sym q
  ways_agree a b (Headless h p) (Found k) = absurd (h.no_head k.told (lines k.entries ++ k.rest) k.begins.number k.begins.is)
  ways_agree a b (Found h) (Headless k q) = absurd (k.no_head h.told (lines h.entries ++ h.rest) h.begins.number h.begins.is)
  ways_agree a b (Found h) (Found k) =
      let heads = one_head h.told k.told (lines h.entries ++ h.rest) (lines k.entries ++ k.rest) h.begins.number k.begins.number (sym h.begins.is ∙ k.begins.is) in
      let other = told_same k.told h.told k.entries k.rest b (sym heads.0) k.begins k.reason in
      ends_agree h.told h.entries k.entries h.rest k.rest a b h.begins other.0 h.reason other.1
      (compared h.entries k.entries h.rest k.rest h.begins.within k.begins.within heads.1)

pub texts_have_one_verdict : TextsHaveOneVerdict
texts_have_one_verdict l text a b h k = ways_agree l text a b (way l text a h) (way l text b k)

-- what both clauses of an audit say
pub verdict_of : (l : Layout) (text : List ℕ) (a : Audit) → ((n : ℕ) → (a ≡ Legal n) ↔ ((es : List Entry) × IsReport l text es × (length es ≡ n)))
    → ((line rule : ℕ) → (a ≡ Wrong line rule) ↔ IsWrong l text line rule) → IsVerdict l text a
verdict_of l text (Legal n) legal wrong = (legal n).0 refl
verdict_of l text (Wrong line rule) legal wrong = (wrong line rule).0 refl
