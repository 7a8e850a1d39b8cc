use Rattle.std.proofs.Common.{◌-◌, ◌<◌, ◌≤◌, inl, inr, sym, ◌∙◌, ap, arith, length}
use Rattle.place_publish.specs.Lessons.{port_in}
use Rattle.place_publish.proofs.Growing.{slice-at}
use Rattle.place_publish.proofs.Copies.{copies-none, copies-at, slice-none, not-below, below, rest}
use Rattle.place_publish.proofs.lesson.copy_in.Goals as goal

pub returns-then-post-id : goal.returns-then-post-id
returns-then-post-id c = sym (ap port_in (copies-none c.args.post c.args.id c.args.group 1 c.args.members.now (elim c.then-post-id.either [
  | inl h ↦ inl h
  | inr h ↦ (elim h [
    | inl k ↦ inr (inl k.1)
    | inr k ↦ inr (inr (omega (arith, k)))
  ])
])))

pub returns-in-Some : goal.returns-in-Some
returns-in-Some c =
    let one : 1 ≤ c.args.id.copy = rest c.args.id.copy c.if-id-eq0.false in
    let lt : c.args.id.copy - 1 < length c.args.members.now = below _ _ c.in-Some.ensures.lookup.0 in
    sym (copies-at c.args.post c.args.id c.args.group 1 c.args.members.now c.if-post-id.false c.if-post-id-2.false one
    ∙ slice-at c.args.members.now (c.args.id.copy - 1) c.in-Some.port.now lt c.in-Some.ensures.lookup.1)

pub returns-in-None : goal.returns-in-None
returns-in-None c =
    let one : 1 ≤ c.args.id.copy = rest c.args.id.copy c.if-id-eq0.false in
    sym (copies-at c.args.post c.args.id c.args.group 1 c.args.members.now c.if-post-id.false c.if-post-id-2.false one
    ∙ slice-none c.args.members.now (c.args.id.copy - 1) (not-below (c.args.id.copy - 1) (length c.args.members.now) c.in-None.ensures.lookup.0))
