use Rattle.std.proofs.Common.{ap, sym, refl, ◌∙◌, subst}
use Rattle.std.proofs.lemmas.List.{append-nil}
use Rattle.chorus_ui.specs.Layout.{has_place}
use Rattle.chorus_entry.specs.declared.dest.Dest.{Dest}
use Rattle.chorus_entry.specs.declared.act.Act.TheVariants as Act
use Rattle.chorus_calls.specs.Callers.{after_post}
use Rattle.place_unsettled.specs.Queues.{queue, changed, with_last}
use Rattle.law_machine.specs.Doing.{post}
use Rattle.chorus_place.specs.PlaceTables.Tables.{Tables, IsSound}
use Rattle.chorus_place.proofs.PlaceTables.States.{same_turn}
use Rattle.chorus_place.proofs.PlaceTables.Reports.{reports-own}
use Rattle.chorus_place.proofs.PlaceTables.Kept.{said-by, kept-plain, kept-waits, waiting-last}
use Rattle.chorus_place.proofs.PlaceTables.Counted.{counted-later}
use Rattle.chorus_place.proofs.tables.Tables.post.Goals as goal

pub invariant_of-self : goal.invariant_of-self
invariant_of-self c =
    let i = c.self.inside in
    let act = Act.Post c.args.message (Dest.Port c.args.key.now.port) in
    let said = said-by i.number act c.args.caller.now i.journal c.say.new.journal c.say.ensures.journal in
    let kept = c.self.invariant.2 in
    let home = ap (λ w. w.home) c.requires.may.copy ∙ ap (λ (p : Tables). p.number) (sym c.self.view_is) in (
      ap (λ j. j.layout) c.say.ensures.journal ∙ c.self.invariant.0,
      c.self.invariant.1,
      kept-waits i.layout i.number c.say.new.journal.past i.ports.records i.hints i.waits c.push.new.self i.puts.items
          (kept-plain i.layout i.number i.journal.past c.say.new.journal.past act i.ports.records i.hints i.waits i.puts.items kept said refl)
          (waiting-last i.layout i.number i.waits c.push.new.self c.args.key.now c.args.wait kept.waiting c.push.ensures.queues
          (record { home = ap (has_place i.layout) home ∙ kept.place; own = λ _. home; message = subst IsSound (sym (ap (λ w. w.message) c.requires.may.copy)) c.requires.may.sound })),
      counted-later i.puts.items i.out said c.self.invariant.3,
    )

pub returns-clause-turn : goal.returns-clause-turn
returns-clause-turn c =
    let i = c.self.inside in
    let key = c.args.key.now in
    let copy = c.requires.may.copy ∙ ap (λ (p : Tables). post c.args.message p.number) (sym c.self.view_is) in
    rw (← c.self.view_is)
    (same_turn _ _ refl refl (ap (λ j. j.past) c.say.ensures.journal) refl (λ q. refl)
    (λ k. c.push.ensures.queues k ∙ ap (λ w. changed key (with_last w) (queue i.waits) k) copy
    ∙ ap (λ r. changed (record { port = key.port; route = r }) (with_last (post c.args.message i.number)) (queue i.waits) k) c.requires.may.direct)
    (λ x. refl) (c.posted.ensures.after ∙ ap after_post c.say.ensures.caller) (sym (append-nil _)))

pub returns-clause-reports : goal.returns-clause-reports
returns-clause-reports c =
    let i = c.self.inside in
    rw (← c.self.view_is)
    (reports-own i.number c.args.key.now i.waits c.push.new.self c.args.wait c.push.ensures.queues
    (ap (λ w. w.home) c.requires.may.copy ∙ ap (λ (p : Tables). p.number) (sym c.self.view_is)))
