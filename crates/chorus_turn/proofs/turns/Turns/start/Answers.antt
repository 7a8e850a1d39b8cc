use Rattle.std.proofs.Common.{rules, refl, ◌≡◌, ℕ, ◌+◌, ◌-◌, length, List, ap, ◌∙◌, sym, subst, arith}
use Rattle.std.specs.Prelude.{Option, slice_get}
use Rattle.atomic_table.specs.Table.{opening}
use Rattle.chorus_turn.specs.Journals.{IsJournal}
use Rattle.chorus_turn.specs.Rule.{word_of, Turned, first_view}
use Rattle.chorus_turn.specs.Calls.{IsMarked}
use Rattle.chorus_turn.proofs.Opens.{opens}
use Rattle.chorus_turn.specs.Lists.{somes}
use Rattle.chorus_turn.proofs.Rows.{somes_injective}
use Rattle.chorus_turn.proofs.turns.Turns.start.Goals as goal

pub new-requires-2 : goal.new-requires-2
new-requires-2 g c = let S : Type 0 = g.row.S.Denot in let w = c.in-Ok.ensures in
    let handed : c.args.states.items ≡ c.of-as_handed.result.value.items = sym (ap (λ v. v.items) c.of-as_handed.ensures) in
    let words : c.in-Ok.words.items ≡ c.as_slice.result.now = sym c.as_slice.ensures.value in
    let slots : somes c.args.states.items ≡ c.wrap.new.slots.items = sym c.wrap.ensures.slots in
    let wide : length c.in-Ok.words.items ≡ word_of (length c.args.states.items) + 1 = search rules in
    let rule = opens (IsJournal g.S.Kept.entries g.S.Kept.fits) (IsMarked g.S.Kept.mark c.args.states.items) c.in-Ok.words.items c.args.states.items wide w.1 w.2 c.requires.fresh (λ k x e. let back : k ≡ (k + 1) - 1 = omega arith in (x, ap (slice_get c.args.states.items) (sym back) ∙ e, refl)) in
    subst (λ (z : List S × List ℕ × List (Option S)). Turned (IsJournal g.S.Kept.entries g.S.Kept.fits) (IsMarked g.S.Kept.mark z.0) (opening z.1 z.2 (first_view {R = g.row.S-Remark.Denot}))) (λ i. (handed i, words i, slots i)) rule

pub returns-in-Err-clause-err : goal.returns-in-Err-clause-err
returns-in-Err-clause-err g c = somes_injective c.unwrap.new.states.items c.args.states.items (sym c.unwrap.ensures ∙ c.wrap.ensures.slots)

pub returns-clause-err : goal.returns-clause-err
returns-clause-err g c = somes_injective c.unwrap-in-Err-new.new.states.items c.args.states.items (sym c.unwrap-in-Err-new.ensures ∙ (c.in-Err-new.ensures.err ∙ c.wrap.ensures.slots))
