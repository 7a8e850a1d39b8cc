use Rattle.std.proofs.Common.{sym, ap, ◌∙◌, subst, arith}
use Rattle.chorus_scene.specs.Grammar.{judge_fields, then_after}
use Rattle.chorus_scene.specs.Reader.{Gives, state_of, scene_of}
use Rattle.chorus_lines.specs.declared.word.Word.TheVariants as words
use Rattle.chorus_scene.proofs.Next.{group_read}
use Rattle.chorus_scene.proofs.reader.Reader.group_line.Goals as goal

pub returns-clause-gives : goal.returns-clause-gives
returns-clause-gives c =
    let r = c.args.self.now in
    let s = state_of r in
    let g = c.in-Some-name_in.group in
    let near = sym c.is_far.ensures ∙ c.if-is_far.false in
    let new = sym c.has_made.ensures ∙ c.if-has_made.false in
    let e = group_read s c.in-Some.group.now g g.kind c.site-site.result c.in-Some.ensures.1 c.in-Some-name_in.ensures.value (omega (arith, c.number.ensures.value, c.if-number-gt-GROUPS_PER_SITE_LIMIT.false)) near new c.in-Some-name_in.ensures.kind c.site-site.ensures.value in
    let f = ap (λ fs. then_after s (judge_fields (scene_of r) words.Group fs)) (sym c.in-Some.ensures.0) in
    subst (λ j. Gives (state_of c.make.new.self) c.make.result j) (e ∙ f) c.make.ensures.gives
