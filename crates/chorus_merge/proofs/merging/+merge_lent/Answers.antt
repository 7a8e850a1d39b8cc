use Rattle.std.proofs.Common.{◌≡◌, ◌/◌, List, length, IfOk, ◌∙◌, ap, subst, arith, take}
use Rattle.std.specs.Global.{Vec}
use Rattle.chorus_entry.specs.declared.entry.Entry.{Entry}
use Rattle.chorus_merge.specs.Merge.{merged}
use Rattle.chorus_merge.specs.Steps.{journals_of, lent, merge_two}
use Rattle.chorus_merge.proofs.Folds.{merged_single, merged_halves}
use Rattle.chorus_merge.proofs.merging.+merge_lent.Goals as goal

pub returns-in-len1 : goal.returns-in-len1
returns-in-len1 t c =
    let P : List Entry → Type 0 = λ ws. IfOk c.borrow_all.result (λ entries. lent entries.items ≡ ws) in
    subst P
    (c.deref.ensures.value ∙ merged_single c.args.journals.now c.journal-item.result (omega arith) (omega arith) c.journal-item.is)
    c.borrow_all.ensures

pub returns-in_ok-back-in_default : goal.returns-in_ok-back-in_default
returns-in_ok-back-in_default t c =
    let P : List Entry → Type 0 = λ ws. IfOk c.merge_two.result (λ entries. lent entries.items ≡ ws) in
    let halves : List (Vec Entry) → List Entry = λ journals. merged (journals_of journals) in
    let middle = length c.args.journals.now / 2 in
    let front = ap lent c.deref-in_default.ensures.value ∙ (c.in_ok-front-in_default.ensures ∙ ap halves c.split_at.ensures.front) in
    let back = ap lent c.deref-in_default-2.ensures.value ∙ (c.in_ok-back-in_default.ensures ∙ ap halves c.split_at.ensures.back) in
    subst P
    (ap (λ ws. merge_two ws (lent c.deref-in_default-2.result.now)) front
    ∙ ap (merge_two (halves (take middle c.args.journals.now))) back
    ∙ merged_halves c.args.journals.now middle)
    c.merge_two.ensures
