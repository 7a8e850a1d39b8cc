use Rattle.std.proofs.Common.{ℕ, sym, ap, subst, ◌∙◌}
use Rattle.chorus_ui.specs.declared.ui.Ui.{Ui}
use Rattle.chorus_scene.specs.Making.{next_name}
use Rattle.chorus_scene.specs.Reader.{made_by, IsMaking}
use Rattle.chorus_scene.proofs.reader.Reader.make.Goals as goal

pub push_making-requires-clause-making : goal.push_making-requires-clause-making
push_making-requires-clause-making c =
    let site = sym c.if-site.false ∙ c.site.ensures.value in
    subst (λ s. IsMaking c.args.self.now.layout c.args.line c.args.ui s c.args.number) site c.requires.making

pub push_making-requires-clause-given : goal.push_making-requires-clause-given
push_making-requires-clause-given c =
    let u = c.args.ui in
    let r = c.args.self.now in
    let made = made_by r.layout r.setup in
    let mk : ℕ → Ui = λ n. record { site = u.site; kind = u.kind; number = n } in
    let site = sym c.if-site.false ∙ c.site.ensures.value in
    ap mk (sym c.number.ensures.value ∙ c.if-number-next.false ∙ c.next_number-next.ensures
    ∙ ap (λ k. (next_name r.layout k c.args.site c.args.number made).number) c.kind.ensures
    ∙ ap (λ s. (next_name r.layout u.kind s c.args.number made).number) site)
