use Rattle.std.proofs.Common.{◌∷◌, [], refl, sym, ap, ◌∙◌, subst, rules, arith}
use Rattle.chorus_lines.specs.declared.word.Word.TheVariants as words
use Rattle.chorus_scene.specs.Making.{next_name}
use Rattle.chorus_scene.specs.Grammar.{judge_fields, then_after}
use Rattle.chorus_scene.specs.Reader.{Gives, state_of, scene_of}
use Rattle.chorus_scene.proofs.Next.{port_read}
use Rattle.chorus_scene.proofs.reader.Reader.port_line.Goals as goal

pub make-requires-clause-making : goal.make-requires-clause-making
make-requires-clause-making c =
    let l = c.args.self.now.layout in
    let kind = c.in-Some-Some-Some.ensures.kind in
    let site = c.site.ensures.value in
    let number = c.number-2.ensures.value in
    record {
      kind = search rules;
      from_one = search rules;
      room = search rules;
      made = λ before i. next_name l (sym kind i) (sym site i) (sym number i) before ∷ [];
      said = λ before i. next_name l (sym kind i) (sym site i) (sym number i) before;
      joined = λ g. refl;
    }

pub returns-clause-gives : goal.returns-clause-gives
returns-clause-gives c =
    let r = c.args.self.now in
    let s = state_of r in
    let n = c.in-Some-Some-Some in
    let near = sym c.is_far.ensures ∙ c.if-is_far.false in
    let there = sym c.is_no_actor.ensures ∙ c.if-is_no_actor.false in
    let new = sym c.has_made.ensures ∙ c.if-has_made.false in
    let e = port_read s c.in-Some.port.now c.in-Some.actor.now c.in-Some.capacity.now n.port n.actor n.capacity n.port.kind c.site.result c.number-2.result c.in-Some.ensures.1 n.ensures.value n.ensures'.value n.ensures''
    c.if-capacity-eq0.false c.if-capacity.false (omega (arith, c.number.ensures.value, c.if-number-gt-PORTS_PER_SITE_LIMIT.false)) near there new n.ensures.kind c.site.ensures.value c.number-2.ensures.value in
    let f = ap (λ fs. then_after s (judge_fields (scene_of r) words.Port fs)) (sym c.in-Some.ensures.0) in
    subst (λ j. Gives (state_of c.make.new.self) c.make.result j) (e ∙ f) c.make.ensures.gives
