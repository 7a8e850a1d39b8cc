use Rattle.std.proofs.Common.{◌≡◌, ◌∙◌, sym, ap, subst, length, ◌<◌, arith}
use Rattle.std.proofs.lemmas.Grind.{common_steps}
use Rattle.chorus_entry.specs.Members.{index_of}
use Rattle.chorus_groups.specs.Groups.{Group, IsGroup, left}
use Rattle.chorus_groups.proofs.GroupLemmas.{left_is_group}
use Rattle.chorus_groups.proofs.group.Group.leave.Goals as goal

pub invariant_of-self : goal.invariant_of-self
invariant_of-self c =
    let x : Group = record { ui = c.self.inside.ui; members = c.self.inside.members.items; rotation = c.self.inside.rotation } in
    let after : Group = record x { members = c.remove-left.new.self.items; rotation = c.turned_back-self-inside.result } in
    let at : c.index_of-at.result ≡ index_of c.args.port x.members = c.index_of-at.ensures.value ∙ ap (index_of c.args.port) c.as_slice.ensures.value in
    let there : index_of c.args.port x.members < length x.members = omega (arith, at, c.if-at-len.false, c.len.ensures, c.self.inside.members.ok.0) in
    let same : after ≡ left c.args.port x = grind (arith, common_steps) in
    (c.remove-left.ensures.capacity ∙ c.self.invariant.0, subst IsGroup (sym same) (left_is_group c.args.port x c.self.invariant.1 there))
