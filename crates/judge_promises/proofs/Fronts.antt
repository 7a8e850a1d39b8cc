-- Entries are kept one after another.
use Rattle.std.proofs.Common.{◌≡◌, true, List, [], ◌∷◌, ◌++◌, reverse, Option, Some, None, is_none, refl, sym, ◌∙◌, ap, subst, append_assoc, append-nil}
use Rattle.std.proofs.lemmas.Bool.{and_from}
use Rattle.std.proofs.lemmas.List.{reverse-append}
use Rattle.chorus_ui.specs.declared.layout.Layout.{Layout}
use Rattle.chorus_entry.specs.declared.entry.Entry.{Entry}
use Rattle.chorus_world.specs.Steps.{State, opening}
use Rattle.checker_ledger.specs.Worlds.{with_entry}
use Rattle.judge_rules.specs.declared.blame.Blame.{Blame}
use Rattle.judge_promises.specs.Blames.{blame_by, IsKept}
use Rattle.judge_promises.specs.Breaches.{breach_by, keeps_promises}

-- those of the log are kept, and these are left
pub record Front (l : Layout) (es : List Entry) (w : State) (left : List Entry) : Type 0 where
  pub layout_is : w.layout ≡ l
  pub kept : keeps_promises l w.past ≡ true
  pub is : es ≡ reverse w.past ++ left

pub front-first : (l : Layout) (es left : List Entry) (w : State) → w ≡ opening l → es ≡ left → Front l es w left
front-first l es left w is same = subst (λ v. Front l es v left) (sym is) (record { layout_is = refl; kept = refl; is = same })

moved : (past left : List Entry) (e : Entry) → reverse past ++ (e ∷ left) ≡ reverse (e ∷ past) ++ left
moved past left e = sym (append_assoc (reverse past) (e ∷ []) left) ∙ ap (λ xs. xs ++ left) (sym (last past e))
  where
    last : (past : List Entry) (e : Entry) → reverse (e ∷ past) ≡ reverse past ++ e ∷ []
    last past e = reverse-append (e ∷ []) past

pub front-next : (l : Layout) (es left : List Entry) (w v : State) (e : Entry) → Front l es w (e ∷ left) → breach_by w.layout w.past e ≡ None → v ≡ with_entry w e → Front l es v left
front-next l es left w v e f none is = subst (λ u. Front l es u left) (sym is) (record {
  layout_is = f.layout_is;
  kept =
      and_from (is_none (breach_by l w.past e)) (keeps_promises l w.past)
      (ap is_none (ap (λ k. breach_by k w.past e) (sym f.layout_is) ∙ none)) f.kept;
  is = f.is ∙ moved w.past left e;
})

pub front-broken : (l : Layout) (es left : List Entry) (w : State) (e : Entry) (b : Blame) → Front l es w (e ∷ left) → blame_by w.layout w.past e ≡ Some b → IsKept l es w.past (Some b)
front-broken l es left w e b f is = record {
  behind = e ∷ left;
  is = f.is;
  kept = f.kept;
  blamed = (e, left, refl, ap (λ k. blame_by k w.past e) (sym f.layout_is) ∙ is);
}

pub front-end : (l : Layout) (es left : List Entry) (w : State) → Front l es w left → left ≡ [] → IsKept l es w.past None
front-end l es left w f none = record { behind = left; is = f.is; kept = f.kept; blamed = none }
