use Rattle.std.proofs.Common.{◌∙◌, ap}
use Rattle.law_network.specs.Calls.{just_started}
use Rattle.chorus_explore.proofs.Closing.{outcome-text}
use Rattle.chorus_explore.proofs.Moving.{layout-at}
use Rattle.chorus_explore.proofs.race_sites.Stage.outcome.Goals as goal

pub returns-clause-text : goal.returns-clause-text
returns-clause-text c = λ asks.
    outcome-text c.args.scenario.now c.args.self c.in_ok-closed.closed c.in_ok-text.text.items c.push_answers.new.text.items c.push_posted.new.text.items c.push_all_ports.new.text.items
    c.extend_from_slice.new.self.items c.new-stuck.result.items c.push_left.new.text.items c.deref-6.result.now
    c.deref.result.now c.deref-2.result.now c.deref-3.result.now c.deref-4.result.now c.deref-5.result.now c.requires asks c.in_ok-closed.ensures.closed.left
    c.in_ok-text.ensures.items c.in_ok-push_answers.ensures c.in_ok-push_posted.ensures c.in_ok-push_all_ports.ensures
    c.new-stuck.ensures.items c.in_ok-push_left.ensures c.deref-6.ensures.value c.in_ok-extend_from_slice.ensures.items
    c.deref.ensures.value c.deref-2.ensures.value c.deref-3.ensures.value c.deref-4.ensures.value c.deref-5.ensures.value

pub returns-clause-sites : goal.returns-clause-sites
returns-clause-sites c = c.in_ok-closed.ensures.started ∙ ap just_started (layout-at c.args.scenario.now c.args.self c.requires)
