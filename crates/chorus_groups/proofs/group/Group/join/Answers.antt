use Rattle.std.proofs.Common.{◌≡◌, ◌∙◌, sym, ap, subst, None}
use Rattle.chorus_groups.specs.Groups.{Group, IsGroup}
use Rattle.chorus_groups.specs.Faults.{refuses_join}
use Rattle.chorus_groups.proofs.GroupLemmas.{joined_is_group, joins_absent, joins_in_room}
use Rattle.chorus_groups.proofs.group.Group.join.Goals as goal

pub invariant_of-self : goal.invariant_of-self
invariant_of-self c =
    let x : Group = record { ui = c.self.inside.ui; members = c.self.inside.members.items; rotation = c.self.inside.rotation } in
    let may : refuses_join c.args.port x ≡ None = ap (refuses_join c.args.port) c.self.view_is ∙ sym c.join_fault.ensures ∙ c.in_default.is in (
      c.push_reserved.ensures.capacity ∙ c.self.invariant.0,
      subst (λ ms. IsGroup (record x { members = ms })) (sym c.push_reserved.ensures.items)
          (joined_is_group c.args.port x c.self.invariant.1 (joins_absent c.args.port x may) (joins_in_room c.args.port x may)),
    )
