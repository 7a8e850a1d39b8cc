use Rattle.std.proofs.Common.{ℕ, ◌≡◌, ◌<◌, ◌+◌, ◌||◌, Bool, not, length, slice_get, Some, refl, sym, ◌∙◌, ap, ap₂, subst, arith}
use Rattle.std.proofs.lemmas.Option.{slice_get_read}
use Rattle.chorus_ui.specs.Layout.{IsLayout}
use Rattle.law_awaits.specs.Awaits.{would_take}
use Rattle.law_network.specs.Network.{Act, NetState}
use Rattle.law_network.specs.Schedules.{may_happen}
use Rattle.chorus_net.specs.Sites.{net}
use Rattle.chorus_explore.specs.Stages.{moves_of}
use Rattle.chorus_explore.proofs.Adding.{goes-on-is}
use Rattle.chorus_explore.proofs.Happening.{next-happens}
use Rattle.chorus_explore.proofs.Moving.{as-many, layout-at}
use Rattle.chorus_explore.proofs.race_sites.Stage.goes_on.Goals as goal

pub index-requires : goal.index-requires
index-requires c =
    let n = as-many c.args.scenario.now c.args.self.now c.requires.reached in
    let e = c.from-2.ensures in
    let lt = c.requires.index in
    omega (arith, n, e, lt, c.args.self.now.scripts.ok.0)

pub may_come-requires : goal.may_come-requires
may_come-requires c =
    let scene = c.args.scenario.now in
    let s = c.args.self.now in
    ap (λ (n : NetState). may_happen (Act (c.from-3.result + 1) c.args.command.now) n) c.requires.reached.at.net
    ∙ next-happens scene (subst IsLayout (layout-at scene s c.requires.reached) c.layout-sites.ensures.shape) c.layout-scene.ensures.keeps (moves_of s) c.requires.reached.history c.args.index (c.from-3.result + 1)
    c.args.command.now (ap (λ (k : ℕ). k + 1) c.from-3.ensures) c.requires.next

pub returns : goal.returns
returns c =
    let scene = c.args.scenario.now in
    let s = c.args.self.now in
    let i = c.args.index in
    let lt : c.from.result < length c.scripts.result.now = (let b = c.requires.index in let n = ap length c.scripts.ensures in let e = c.from.ensures in omega (arith, b, n, e)) in
    let below : c.from-2.result < length s.scripts.items = (let n = as-many scene s c.requires.reached in let e = c.from-2.ensures in let b = c.requires.index in omega (arith, n, e, b)) in
    let script : slice_get scene.scripts i ≡ Some c.index-scripts-from.result =
    sym (ap₂ (λ xs (n : ℕ). slice_get xs n) c.scripts.ensures c.from.ensures) ∙ slice_get_read _ _ _ _ refl lt c.index-scripts-from.is in
    let progress : slice_get s.scripts.items i ≡ Some c.index.result.now = ap (λ (n : ℕ). slice_get s.scripts.items n) (sym c.from-2.ensures) ∙ slice_get_read _ _ _ _ refl below c.index.ensures in
    c.may_come.ensures
    ∙ ap₂ (λ (b : Bool) (k : ℕ). not b || would_take (k + 1) c.args.command.now (net s.sites)) c.is_await-waits.ensures c.from-3.ensures
    ∙ sym (goes-on-is scene s c.requires.reached i c.index-scripts-from.result c.index.result.now script progress c.args.command.now c.requires.next)
