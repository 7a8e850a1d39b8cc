use Rattle.std.proofs.Common.{All, ap, subst, ◌∙◌, map}
use Rattle.chorus_groups.specs.Choosing.{choice as table_choice}
use Rattle.law_machine.specs.Choosing.{choice}
use Rattle.chorus_world.specs.Groups as world
use Rattle.chorus_place.specs.PlaceTables.Tables.{Tables, IsPort, state}
use Rattle.chorus_place.specs.PlaceTables.Groups.{site_at}
use Rattle.chorus_place.proofs.PlaceTables.Choosing.{chosen-same, chosen-as, all-chosen}
use Rattle.chorus_place.proofs.tables.Tables.choice.Goals as goal

pub returns-clause-value : goal.returns-clause-value
returns-clause-value c =
    let s = state c.args.self.now in
    let t = c.groups-groups.result.now in
    let past = ap (λ (p : Tables). p.journal.past) c.self.view_is in
    let sites = c.deref.ensures.value ∙ c.in_ok-sites.ensures ∙ ap (map (site_at s)) c.members.ensures.members in
    chosen-as c.chosen.result (table_choice t c.args.dest.now c.deref.result.now) (choice c.args.dest.now s)
    (chosen-same c.args.dest.now c.args.group s t c.deref.result.now c.requires.group (λ h. c.groups-groups.ensures.members h ∙ ap (world.members h) past)
    (λ h. c.groups-groups.ensures.rotation h ∙ ap (world.rotation h) past) sites)
    c.chosen.ensures.value

pub returns-clause-kinds : goal.returns-clause-kinds
returns-clause-kinds c =
    let past = ap (λ (p : Tables). p.journal.past) c.self.view_is in
    all-chosen IsPort c.args.dest.now c.args.group (state c.args.self.now) c.requires.group (subst (λ x. All IsPort (world.members c.args.group x)) past (c.self.invariant.2.grouped c.args.group))

pub returns-in_err-sites-clause-kinds : goal.returns-in_err-sites-clause-kinds
returns-in_err-sites-clause-kinds c =
    let past = ap (λ (p : Tables). p.journal.past) c.self.view_is in
    all-chosen IsPort c.args.dest.now c.args.group (state c.args.self.now) c.requires.group (subst (λ x. All IsPort (world.members c.args.group x)) past (c.self.invariant.2.grouped c.args.group))
