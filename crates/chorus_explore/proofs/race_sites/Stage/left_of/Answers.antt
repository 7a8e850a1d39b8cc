use Rattle.std.proofs.Common.{ℕ, ◌≡◌, ◌<◌, length, slice_get, Some, refl, sym, ◌∙◌, ap, ap₂, arith}
use Rattle.std.specs.Option.{option_copied}
use Rattle.std.proofs.lemmas.Option.{slice_get_read}
use Rattle.chorus_explore.specs.Stages.{moves_of, next_command}
use Rattle.chorus_explore.proofs.Adding.{found-next, found-none, lent-at}
use Rattle.chorus_explore.proofs.Moving.{as-many, next-command}
use Rattle.chorus_explore.proofs.race_sites.Stage.left_of.Goals as goal

pub index-requires : goal.index-requires
index-requires c =
    let n = as-many c.args.scenario.now c.args.self.now c.requires.reached in
    let e = c.from-2.ensures in
    let lt = c.requires.index in
    omega (arith, n, e, lt, c.args.self.now.scripts.ok.0)

pub returns-clause-some : goal.returns-clause-some
returns-clause-some c =
    let scene = c.args.scenario.now in
    let s = c.args.self.now in
    let i = c.args.index in
    let lt : c.from.result < length c.scripts.result.now = (let b = c.requires.index in let n = ap length c.scripts.ensures in let e = c.from.ensures in omega (arith, b, n, e)) in
    let below : c.from-2.result < length s.scripts.items = (let n = as-many scene s c.requires.reached in let e = c.from-2.ensures in let b = c.requires.index in omega (arith, n, e, b)) in
    let script : slice_get scene.scripts i ≡ Some c.index-scripts-from.result =
    sym (ap₂ (λ xs (n : ℕ). slice_get xs n) c.scripts.ensures c.from.ensures) ∙ slice_get_read _ _ _ _ refl lt c.index-scripts-from.is in
    let progress : slice_get s.scripts.items i ≡ Some c.index.result.now = ap (λ (n : ℕ). slice_get s.scripts.items n) (sym c.from-2.ensures) ∙ slice_get_read _ _ _ _ refl below c.index.ensures in
    let all : option_copied c.get.result ≡ next_command scene (moves_of s) i =
    lent-at c.commands.result.now c.index.result.now.next c.get.result c.get.ensures.lookup ∙ ap (λ ds. slice_get ds c.index.result.now.next) c.commands.ensures
    ∙ sym (next-command scene s c.requires.reached i c.index-scripts-from.result c.index.result.now script progress) in
    found-next scene (moves_of s) i c.get.result all

pub returns-clause-none : goal.returns-clause-none
returns-clause-none c = λ none.
    let scene = c.args.scenario.now in
    let s = c.args.self.now in
    let i = c.args.index in
    let lt : c.from.result < length c.scripts.result.now = (let b = c.requires.index in let n = ap length c.scripts.ensures in let e = c.from.ensures in omega (arith, b, n, e)) in
    let below : c.from-2.result < length s.scripts.items = (let n = as-many scene s c.requires.reached in let e = c.from-2.ensures in let b = c.requires.index in omega (arith, n, e, b)) in
    let script : slice_get scene.scripts i ≡ Some c.index-scripts-from.result =
    sym (ap₂ (λ xs (n : ℕ). slice_get xs n) c.scripts.ensures c.from.ensures) ∙ slice_get_read _ _ _ _ refl lt c.index-scripts-from.is in
    let progress : slice_get s.scripts.items i ≡ Some c.index.result.now = ap (λ (n : ℕ). slice_get s.scripts.items n) (sym c.from-2.ensures) ∙ slice_get_read _ _ _ _ refl below c.index.ensures in
    let all : option_copied c.get.result ≡ next_command scene (moves_of s) i =
    lent-at c.commands.result.now c.index.result.now.next c.get.result c.get.ensures.lookup ∙ ap (λ ds. slice_get ds c.index.result.now.next) c.commands.ensures
    ∙ sym (next-command scene s c.requires.reached i c.index-scripts-from.result c.index.result.now script progress) in
    found-none scene (moves_of s) i c.get.result all none
