use Rattle.std.proofs.Common.{rules, ◌≡◌, ◌≤◌, ◌<◌, List, length, refl, sym, subst, arith}
use Rattle.chorus_choose.specs.declared.chooser.Enabled.{Enabled}
use Rattle.chorus_choose.specs.Looking.{index_of, turned, IsChooser}
use Rattle.chorus_choose.proofs.Order.{chooser-turned, rest-is, turned-by, turned-out}
use Rattle.chorus_choose.proofs.chooser.Chooser.turn.Goals as goal

pub returns-then-at-len : goal.returns-then-at-len
returns-then-at-len c =
    let xs : List Enabled = c.self.inside.enabled.items in
    let v : c.args.self.now ≡ xs = search rules in
    let at : c.index_of-at.result ≡ index_of c.args.port xs = search rules in
    let out : length xs ≤ c.index_of-at.result = omega (arith, c.if-at-len.true) in
    subst (λ (zs : List Enabled). zs ≡ turned c.args.port zs) (sym v) (turned-out c.args.port xs c.index_of-at.result at out)

pub invariant_of-self : goal.invariant_of-self
invariant_of-self c =
    let xs : List Enabled = c.self.inside.enabled.items in
    let at : c.index_of-at.result ≡ index_of c.args.port xs = search rules in
    let same : c.as_slice-2.result.now ≡ c.remove-given.new.self.items = search rules in
    let in_it : c.index_of-at.result < length xs = omega (arith, c.if-at-len.false) in
    let is = turned-by c.args.port xs c.remove-given.new.self.items _ c.insert.new.self.items c.index_of-at.result c.place_of-behind.result c.remove-given.result at in_it c.remove-given.ensures.value c.remove-given.ensures.items (rest-is c.as_slice-2.result.now c.remove-given.new.self.items c.index_of-at.result same) (c.place_of-behind.ensures.stands c.remove-given.result refl) c.in-Ok.ensures.items in
    (search rules, subst IsChooser (sym is) (chooser-turned c.args.port xs c.self.invariant.1))

pub returns : goal.returns
returns c =
    let xs : List Enabled = c.self.inside.enabled.items in
    let v : c.args.self.now ≡ xs = search rules in
    let at : c.index_of-at.result ≡ index_of c.args.port xs = search rules in
    let same : c.as_slice-2.result.now ≡ c.remove-given.new.self.items = search rules in
    let in_it : c.index_of-at.result < length xs = omega (arith, c.if-at-len.false) in
    subst (λ (zs : List Enabled). c.insert.new.self.items ≡ turned c.args.port zs) (sym v)
    (turned-by c.args.port xs c.remove-given.new.self.items _ c.insert.new.self.items c.index_of-at.result c.place_of-behind.result c.remove-given.result at in_it c.remove-given.ensures.value c.remove-given.ensures.items (rest-is c.as_slice-2.result.now c.remove-given.new.self.items c.index_of-at.result same) (c.place_of-behind.ensures.stands c.remove-given.result refl) c.in-Ok.ensures.items)
