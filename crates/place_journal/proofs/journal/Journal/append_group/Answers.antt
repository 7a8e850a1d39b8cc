use Rattle.std.proofs.Common.{◌+◌, ◌<◌, [], ◌∷◌, reverse, ap, sym, ◌∙◌, subst, arith}
use Rattle.std.proofs.lemmas.List.{reverse-append}
use Rattle.chorus_groups.specs.Groups.{after_make}
use Rattle.chorus_world.specs.Groups as world
use Rattle.place_journal.specs.Counting.{IsCounted}
use Rattle.place_journal.proofs.Counted.{counted_group, unmade}
use Rattle.place_journal.proofs.journal.Journal.append_group.Goals as goal

pub invariant_of-self-2 : goal.invariant_of-self-2
invariant_of-self-2 c =
    let past = ap reverse c.push_reserved.ensures.items ∙ reverse-append c.self.inside.entries.items (c.args.entry ∷ []) in
    let all = counted_group (reverse c.self.inside.entries.items) c.args.entry c.self.inside.clock c.self.inside.made_count c.self.inside.made c.self.inside.deleted
    c.self.inside.groups c.args.group c.self.invariant.2 c.requires.makes
    (c.requires.number ∙ ap (λ v. world.groups_made v.past + 1) (sym c.self.view_is)) (subst (λ v. world.groups_made v.past < 4) (sym c.self.view_is) c.requires.few) in (
      c.self.invariant.0,
      c.self.invariant.1,
      subst (λ groups. IsCounted (reverse c.push_reserved.new.self.items) c.args.entry.clock c.self.inside.made_count c.self.inside.made c.self.inside.deleted groups)
          (sym c.in_ok-make.ensures.ok)
          (subst (λ entries. IsCounted entries c.args.entry.clock c.self.inside.made_count c.self.inside.made c.self.inside.deleted (after_make c.self.inside.groups c.args.group)) (sym past) all),
    )

pub make-requires-clause-new : goal.make-requires-clause-new
make-requires-clause-new c =
    unmade (reverse c.self.inside.entries.items) c.self.inside.clock c.self.inside.made_count c.self.inside.made c.self.inside.deleted c.self.inside.groups c.args.group c.self.invariant.2
    (c.requires.number ∙ ap (λ v. world.groups_made v.past + 1) (sym c.self.view_is))

pub make-requires-clause-room : goal.make-requires-clause-room
make-requires-clause-room c =
    let few = subst (λ v. world.groups_made v.past < 4) (sym c.self.view_is) c.requires.few in
    let room = c.self.invariant.2.room_is in
    omega (arith, few, room)
