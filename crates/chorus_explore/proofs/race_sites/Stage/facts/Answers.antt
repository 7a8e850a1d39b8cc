use Rattle.std.proofs.Common.{ℕ, ◌≡◌, ◌+◌, All, List, length, sym, ◌∙◌, ap, subst}
use Rattle.chorus_ui.specs.Layout.{places}
use Rattle.chorus_place.specs.Calls.{Place}
use Rattle.chorus_explore.proofs.Facts.{all-lists, facts-text}
use Rattle.chorus_explore.proofs.race_sites.Stage.facts.Goals as goal

pub push_under_way-requires : goal.push_under_way-requires
push_under_way-requires c =
    let s = c.args.self.now.sites in
    let count : c.places.result ≡ places s.layout = c.places.ensures.value ∙ ap places c.layout.ensures.value in
    subst (λ (ps : List Place). All (λ (p : Place). length p.out.lists ≡ c.places.result + 1) ps) (sym c.places-places.ensures.value)
    (subst (λ (n : ℕ). All (λ (p : Place). length p.out.lists ≡ n + 1) s.places) (sym count) (all-lists s c.places-places.ensures.kept))

pub returns : goal.returns
returns c =
    facts-text c.args.scenario.now c.args.self.now c.requires.reached c.requires.asks
    c.in_ok-text.text.items c.push_answers.new.text.items c.push_all_posts.new.text.items c.push_ports.new.text.items
    c.push_under_way.new.text.items c.push_groups.new.text.items c.push_callers.new.text.items c.push_left.new.text.items
    c.deref.result.now c.deref-2.result.now c.places-places.result.now c.callers.result.now _
    c.in_ok-text.ensures.items c.in_ok-push_answers.ensures c.in_ok-push_all_posts.ensures c.in_ok-push_ports.ensures
    c.in_ok-push_under_way.ensures c.in_ok-push_groups.ensures c.in_ok-push_callers.ensures c.in_ok-push_left.ensures
    c.deref.ensures.value c.deref-2.ensures.value c.places-places.ensures.value c.callers.ensures (ap length c.scripts.ensures)
