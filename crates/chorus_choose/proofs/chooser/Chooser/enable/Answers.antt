use Rattle.std.proofs.Common.{rules, ◌≡◌, ◌≤◌, ◌<◌, List, length, refl, arith}
use Rattle.chorus_choose.specs.declared.chooser.Enabled.{Enabled}
use Rattle.chorus_choose.specs.Looking.{index_of}
use Rattle.chorus_choose.proofs.Order.{enable-keeps}
use Rattle.chorus_choose.proofs.chooser.Chooser.enable.Goals as goal

pub invariant_of-self : goal.invariant_of-self
invariant_of-self c =
    let xs : List Enabled = c.self.inside.enabled.items in
    let at : c.index_of-at.result ≡ index_of c.args.port xs = search rules in
    let out : length xs ≤ c.index_of-at.result = omega (arith, c.if-at-len.false) in
    let room : length xs < 32 = omega (arith, c.if-len-ge-ENABLED_LIMIT.false) in
    let same : c.as_slice-2.result.now ≡ xs = search rules in
    (search rules, enable-keeps c.args.port c.args.priority xs c.as_slice-2.result.now c.insert.new.self.items c.index_of-at.result c.place_of-to.result c.self.invariant.1 c.requires at out room same (c.place_of-to.ensures.stands _ refl) c.in-Ok.ensures.items)
