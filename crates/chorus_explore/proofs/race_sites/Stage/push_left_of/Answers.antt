use Rattle.std.proofs.Common.{◌≡◌, ◌<◌, ◌++◌, length, slice_get, Some, refl, sym, ◌∙◌, ap, arith}
use Rattle.std.proofs.lemmas.List.{append-nil}
use Rattle.std.proofs.lemmas.Option.{slice_get_read}
use Rattle.std.proofs.lemmas.Result.{on_ok_weaker}
use Rattle.chorus_explore.proofs.Answering.{next-few}
use Rattle.chorus_explore.proofs.Facts.{line-next, line-none}
use Rattle.chorus_explore.proofs.Moving.{as-many}
use Rattle.chorus_explore.proofs.race_sites.Stage.push_left_of.Goals as goal

pub returns-in_default : goal.returns-in_default
returns-in_default c =
    sym (append-nil c.args.text.now.items)
    ∙ sym (ap (λ xs. c.args.text.now.items ++ xs) (line-none c.args.scenario.now c.args.self.now c.requires.reached c.args.index c.requires.index c.args.ended (c.in_default.ensures.none refl)))

pub index-requires : goal.index-requires
index-requires c =
    let n = as-many c.args.scenario.now c.args.self.now c.requires.reached in
    let lt = c.requires.index in
    omega (arith, n, lt, c.args.self.now.scripts.ok.0)

pub overflow_add-index-2 : goal.overflow_add-index-2
overflow_add-index-2 c =
    let scene = c.args.scenario.now in
    let s = c.args.self.now in
    let below : c.args.index < length s.scripts.items = (let n = as-many scene s c.requires.reached in let lt = c.requires.index in omega (arith, n, lt)) in
    let few = next-few scene s c.args.index _ c.index.result.now c.requires.reached c.in-Some.ensures.some c.layout-layout.ensures.keeps (slice_get_read _ _ _ _ refl below c.index.ensures) in
    omega (arith, few)

pub returns : goal.returns
returns c =
    let scene = c.args.scenario.now in
    let s = c.args.self.now in
    let below : c.args.index < length s.scripts.items = (let n = as-many scene s c.requires.reached in let lt = c.requires.index in omega (arith, n, lt)) in
    let found : slice_get s.scripts.items c.args.index ≡ Some c.index.result.now = slice_get_read _ _ _ _ refl below c.index.ensures in
    on_ok_weaker c.push_next_line.result
    (λ told. told ∙ sym (ap (λ xs. c.args.text.now.items ++ xs) (line-next scene s c.requires.reached c.args.index c.requires.index c.args.ended _ c.index.result.now c.in-Some.ensures.some found)))
    c.push_next_line.ensures
