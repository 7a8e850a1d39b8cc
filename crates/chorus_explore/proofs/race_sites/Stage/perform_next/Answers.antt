use Rattle.std.proofs.Common.{ℕ, ◌≡◌, ◌<◌, ◌+◌, ◌++◌, length, set, get_or, slice_get, Some, refl, sym, ◌∙◌, ap, arith}
use Rattle.std.specs.Option.{option_map}
use Rattle.std.proofs.lemmas.Option.{slice_get_read}
use Rattle.std.proofs.lemmas.Result.{err_from_is_err_and}
use Rattle.chorus_ui.specs.declared.layout.Layout.{Layout}
use Rattle.chorus_ui.specs.Layout.{has_place}
use Rattle.chorus_entry.specs.declared.entry.Entry.{Entry}
use Rattle.law_network.specs.Network.{Act, happened, replied}
use Rattle.chorus_net.specs.Sites.{net}
use Rattle.chorus_explore.specs.Tellings.{answered_line, settles_in}
use Rattle.chorus_explore.proofs.Answering.{answered-by, next-few, performed-by, script-below, wears-next}
use Rattle.chorus_explore.proofs.Entering.{exit}
use Rattle.chorus_explore.proofs.Moving.{layout-at, of-script, some-same, within}
use Rattle.chorus_explore.proofs.race_sites.Stage.perform_next.Goals as goal

pub where_performed-place-requires : goal.where_performed-place-requires
where_performed-place-requires c = of-script c.args.scenario.now c.args.self.now c.requires.reached c.args.index c.args.command.now c.requires.next

pub act_at-requires-clause-place : goal.act_at-requires-clause-place
act_at-requires-clause-place c =
    ap (λ (l : Layout). has_place l c.where_performed-place.result) (layout-at c.args.scenario.now c.args.self.now c.requires.reached) ∙ c.where_performed-place.ensures.in_layout

pub returns-in_err-at-clause-worn : goal.returns-in_err-at-clause-worn
returns-in_err-at-clause-worn c clock is =
    let p = err_from_is_err_and c.from_residual.result c.from_residual.ensures.1 in
    let worn = c.act_at.ensures.worn clock (exit c.from_residual.result c.act_at.result _ p.0 _ p.1 p.2 c.in_err-at.was is) in
    wears-next c.args.scenario.now c.args.self.now c.args.index c.args.command.now c.from.result clock c.requires.reached c.requires.next c.requires.comes c.from.ensures worn.1 worn.0

pub journal-requires : goal.journal-requires
journal-requires c =
    ap (λ (l : Layout). has_place l c.where_performed-place.result) (c.act_at.ensures.layout ∙ layout-at c.args.scenario.now c.args.self.now c.requires.reached)
    ∙ c.where_performed-place.ensures.in_layout

pub bounds-journal-at : goal.bounds-journal-at
bounds-journal-at c =
    let a = answered-by c.args.scenario.now c.args.self.now c.requires.reached c.args.index c.args.command.now c.requires.next c.from.result _ c.where_performed-place.result (net c.act_at.new.sites)
    c.journal.result.now c.in_ok-at.at c.from.ensures c.layout-sites.ensures.scheduled c.where_performed-place.ensures.value c.where_performed-place.ensures.in_layout c.in_ok-at.ensures.ok c.journal.ensures
    c.in_ok-at.ensures.index in
    within c.journal.result.now c.in_ok-at.at a.entry a.stands

pub offset_bounds-journal-at : goal.offset_bounds-journal-at
offset_bounds-journal-at c =
    let a = answered-by c.args.scenario.now c.args.self.now c.requires.reached c.args.index c.args.command.now c.requires.next c.from.result _ c.where_performed-place.result (net c.act_at.new.sites)
    c.journal.result.now c.in_ok-at.at c.from.ensures c.layout-sites.ensures.scheduled c.where_performed-place.ensures.value c.where_performed-place.ensures.in_layout c.in_ok-at.ensures.ok c.journal.ensures
    c.in_ok-at.ensures.index in
    let below = within c.journal.result.now c.in_ok-at.at a.entry a.stands in
    omega (arith, below, c.journal.type_inv.1)

pub index_mut-script-requires : goal.index_mut-script-requires
index_mut-script-requires c =
    let lt = script-below c.args.scenario.now c.args.self.now c.args.index c.args.command.now c.requires.reached c.requires.next in
    let e = c.from-2.ensures in
    omega (arith, lt, e, c.args.self.now.scripts.ok.0)

pub answered-requires : goal.answered-requires
answered-requires c =
    let s = c.args.self.now in
    let lt : c.from-2.result < length s.scripts.items = (let b = script-below c.args.scenario.now s c.args.index c.args.command.now c.requires.reached c.requires.next in let e = c.from-2.ensures in omega (arith, b, e)) in
    let found : slice_get s.scripts.items c.args.index ≡ Some c.index_mut-script.result.now = ap (λ (n : ℕ). slice_get s.scripts.items n) (sym c.from-2.ensures) ∙ slice_get_read _ _ _ _ refl lt c.index_mut-script.ensures.value in
    let few = next-few c.args.scenario.now s c.args.index c.args.command.now c.index_mut-script.result.now c.requires.reached c.requires.next c.layout-scene.ensures.keeps found in
    omega (arith, few)

pub returns-clause-at : goal.returns-clause-at
returns-clause-at c =
    let scene = c.args.scenario.now in
    let s = c.args.self.now in
    let i = c.args.index in
    let d = c.args.command.now in
    let old = c.index_mut-script.result.now in
    let new = c.answered.new.self in
    let act = (get_or c.journal.result.now c.in_ok-at.at c.index-journal-at.result).act in
    let a = answered-by scene s c.requires.reached i d c.requires.next c.from.result _ c.where_performed-place.result (net c.act_at.new.sites) c.journal.result.now c.in_ok-at.at c.from.ensures
    c.layout-sites.ensures.scheduled c.where_performed-place.ensures.value c.where_performed-place.ensures.in_layout c.in_ok-at.ensures.ok c.journal.ensures c.in_ok-at.ensures.index in
    let at : slice_get c.journal.result.now c.in_ok-at.at ≡ Some c.index-journal-at.result =
    slice_get_read _ _ _ _ refl (within c.journal.result.now c.in_ok-at.at a.entry a.stands) c.index-journal-at.is in
    let lt : c.from-2.result < length s.scripts.items = (let b = script-below scene s i d c.requires.reached c.requires.next in let e = c.from-2.ensures in omega (arith, b, e)) in
    let found : slice_get s.scripts.items i ≡ Some c.index_mut-script.result.now = ap (λ (n : ℕ). slice_get s.scripts.items n) (sym c.from-2.ensures) ∙ slice_get_read _ _ _ _ refl lt c.index_mut-script.ensures.value in
    performed-by scene s _ i d old new act c.in_ok-at.settles c.requires.reached c.requires.next
    (c.in_ok-at.ensures.ok ∙ ap (λ (k : ℕ). happened (Act (k + 1) d) (net s.sites)) c.from.ensures)
    found (ap (λ (k : ℕ). set s.scripts.items k c.answered.new.self) c.from-2.ensures) refl
    (ap (λ (e : Entry). e.act) (sym c.index-journal-at.is ∙ some-same c.index-journal-at.result a.entry (sym at ∙ a.stands)) ∙ a.act)
    (c.in_ok-at.ensures.settles ∙ ap (λ (k : ℕ). option_map settles_in (replied (k + 1) d (net s.sites))) c.from.ensures)
    c.in_ok-answered.ensures.next
    (c.in_ok-answered.ensures.answers
    ∙ ap (λ (k : ℕ). c.index_mut-script.result.now.answers.items ++ answered_line s.asks (k + 1) (c.index_mut-script.result.now.next + 1) (get_or c.journal.result.now c.in_ok-at.at c.index-journal-at.result).act c.in_ok-at.settles)
    c.from-3.ensures)
    c.in_ok-answered.ensures.posts
