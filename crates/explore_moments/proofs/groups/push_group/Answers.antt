use Rattle.std.proofs.Common.{ℕ, ◌≡◌, ◌++◌, ◌∙◌, ap, ap₂}
use Rattle.std.proofs.lemmas.Result.{on_ok_weaker}
use Rattle.chorus_ui.specs.declared.kind.Kind.TheVariants.{Group}
use Rattle.chorus_ui.specs.declared.ui.Ui.{Ui}
use Rattle.chorus_ui.specs.Layout.{site_of}
use Rattle.chorus_world.specs.Groups.{members}
use Rattle.chorus_place.specs.Calls.{Place, state}
use Rattle.law_explore.specs.Moment.{group_at}
use Rattle.law_explore.specs.Outcome.{Members}
use Rattle.explore_report.specs.Facts.{fact_line}
use Rattle.explore_moments.proofs.More.{named-is}
use Rattle.explore_moments.proofs.groups.push_group.Goals as goal

pub returns : goal.returns
returns c =
    let is : c.in-Some.group ≡ group_at (state c.args.place.now) c.args.number =
    named-is c.site_of-site.result Group c.args.number c.in-Some.group c.in-Some.ensures.value
    ∙ ap (λ (n : ℕ). record { site = n; kind = Group; number = c.args.number }) (c.site_of-site.ensures.value ∙ ap₂ site_of c.layout.ensures c.number.ensures.value) in
    let ms : c.members.result.now ≡ members (group_at (state c.args.place.now) c.args.number) c.args.place.now.journal =
    c.members.ensures.members ∙ c.groups.ensures.members c.in-Some.group ∙ ap₂ (λ (g : Ui) (p : Place). members g p.journal) is c.tables.ensures in
    on_ok_weaker c.push_members.result (λ e. e ∙ ap₂ (λ (g : Ui) qs. c.args.text.now.items ++ fact_line (Members g qs)) is ms) c.push_members.ensures
