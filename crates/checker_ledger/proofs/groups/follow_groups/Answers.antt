use Rattle.std.proofs.Common.{◌==◌, ap, sym, refl, ◌∙◌, Some, is_some, cond}
use Rattle.std.specs.Prelude.{unwrap_or}
use Rattle.std.specs.Option.{option_copied_mut}
use Rattle.std.specs.HashMap.{get}
use Rattle.std.proofs.lemmas.Bool.{eq-eqb}
use Rattle.chorus_ui.proofs.Names.{same_ui-self}
use Rattle.checker_rows.specs.Keys.{same_name_at}
use Rattle.checker_ledger.specs.Groups.{no_group, changed_here, changed_own, group_in}
use Rattle.checker_rows.specs.declared.keys.NameAt.{NameAt}
use Rattle.checker_rows.proofs.KeyLemmas.{from_same_name_at}
use Rattle.checker_rows.proofs.Keeping.{put_row}
use Rattle.checker_ledger.proofs.GroupLemmas.{changes_own, changes_other}
use Rattle.checker_ledger.proofs.groups.follow_groups.Goals as goal

pub returns-in-Some-get_mut : goal.returns-in-Some-get_mut
returns-in-Some-get_mut c =
    let e = c.args.entry.now in
    let g = c.in-Some.group in
    let key : NameAt = record { place = e.place; name = g } in
    let row = c.change.new.self in
    let found = sym c.get_mut.ensures.value ∙ ap option_copied_mut c.in-Some-get_mut.is in
    put_row same_name_at from_same_name_at no_group (λ k r. cond (e.place == k.place) (changed_here k.name e.act r) r)
    (get same_name_at c.args.groups.now) (get same_name_at (c.get_mut.follows.lender row)) key row
    (((c.get_mut.follows.holds row).3 (ap is_some found)).0)
    (c.change.ensures
    ∙ (ap (λ o. changed_own e.act (unwrap_or o no_group)) (sym found)
    ∙ sym (changes_own key e g (group_in c.args.groups.now key) (sym c.in-Some.ensures) (eq-eqb e.place e.place refl) (same_ui-self g))))
    (λ q h r. changes_other q e g (sym c.in-Some.ensures) h r)

pub returns-in_default-get_mut : goal.returns-in_default-get_mut
returns-in_default-get_mut c =
    let e = c.args.entry.now in
    let g = c.in-Some.group in
    let key : NameAt = record { place = e.place; name = g } in
    let row = c.change-in-Some.new.self in
    let none = sym c.get_mut.ensures.value ∙ ap option_copied_mut c.in_default-get_mut.is in
    let same = c.get_mut.follows.holds-at-none in
    put_row same_name_at from_same_name_at no_group (λ k r. cond (e.place == k.place) (changed_here k.name e.act r) r)
    (get same_name_at c.args.groups.now) (get same_name_at c.put.new.rows) key row
    (λ q. c.put.ensures.rows q ∙ ap (λ m. cond (same_name_at key q) (Some row) (get same_name_at m q)) same)
    (c.change-in-Some.ensures
    ∙ (ap (changed_own e.act) (c.new-row.ensures ∙ ap (λ o. unwrap_or o no_group) (sym none))
    ∙ sym (changes_own key e g (group_in c.args.groups.now key) (sym c.in-Some.ensures) (eq-eqb e.place e.place refl) (same_ui-self g))))
    (λ q h r. changes_other q e g (sym c.in-Some.ensures) h r)
