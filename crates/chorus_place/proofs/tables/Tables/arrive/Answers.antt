use Rattle.std.proofs.Common.{ap, refl, sym, ◌∙◌, is_some, arith}
use Rattle.chorus_ui.specs.Layout.{can_make_port, creation_place}
use Rattle.chorus_entry.specs.declared.act.Act.TheVariants as Act
use Rattle.chorus_world.specs.Places.{last_clock, is_made_here}
use Rattle.chorus_ports.specs.Table.{find}
use Rattle.law_machine.specs.PlaceState.{greatest_clock}
use Rattle.chorus_place.specs.PlaceTables.Tables.{turn}
use Rattle.chorus_place.proofs.PlaceTables.States.{same_turn}
use Rattle.chorus_place.proofs.PlaceTables.Kept.{said-by, kept-plain, made-more}
use Rattle.chorus_place.proofs.PlaceTables.Ports.{kept-ports, kept-learned, held-came, no-more}
use Rattle.chorus_place.proofs.PlaceTables.Counted.{counted-later}
use Rattle.chorus_place.proofs.tables.Tables.arrive.Goals as goal

pub invariant_of-self : goal.invariant_of-self
invariant_of-self c =
    let i = c.self.inside in
    let r = c.args.port in
    let act = Act.Arrive r.ui r.hop in
    let kept = c.self.invariant.2 in
    let said = said-by i.number act c.args.caller.now i.journal c.say.new.journal c.say.ensures.journal in
    let more = ap (λ j. last_clock j.past) c.say.ensures.journal in
    let seen = ap (λ p. greatest_clock (turn p c.args.caller.now)) c.self.view_is in
    let end = c.requires.may.position in
    let hop = c.requires.may.hop in
    let layout = ap (λ p. p.layout) c.self.view_is in
    let number = ap (λ p. p.number) c.self.view_is in (
      ap (λ j. j.layout) c.say.ensures.journal ∙ c.self.invariant.0,
      c.self.invariant.1,
      kept-learned i.layout i.number c.say.new.journal.past c.arrive.new.self.records i.hints c.learn.new.self i.waits i.puts.items r.ui i.number r.hop
          (kept-ports i.layout i.number c.say.new.journal.past i.ports.records c.arrive.new.self.records i.hints i.waits i.puts.items
          (kept-plain i.layout i.number i.journal.past c.say.new.journal.past act i.ports.records i.hints i.waits i.puts.items kept said refl)
          (held-came i.layout i.number i.journal.past c.say.new.journal.past act i.ports.records c.arrive.new.self.records r kept.held said (record {
            kind = c.requires.may.kind;
            can_make = ap (λ l. can_make_port l r.ui) layout ∙ c.requires.may.can_make;
            position = omega (arith, more, seen, end);
            pending = c.requires.may.pending;
            hop = omega (arith, more, seen, hop);
            own = λ e. made-more i.journal.past c.say.new.journal.past act r.ui said
                (ap (λ p. is_made_here r.ui p.journal.past) c.self.view_is ∙ c.requires.may.own (sym (ap (λ l. creation_place l r.ui) layout) ∙ e ∙ number));
          }) (ap (λ p. is_some (find r.ui p.ports.records)) c.self.view_is ∙ c.requires.may.absent) (ap (λ t. t.records) c.arrive.ensures)))
          c.learn.ensures.layout c.learn.ensures.pairs kept.place,
      counted-later i.puts.items i.out said c.self.invariant.3,
    )

pub returns-clause-turn : goal.returns-clause-turn
returns-clause-turn c =
    rw (← c.self.view_is)
    (same_turn _ _ refl refl (ap (λ j. j.past) c.say.ensures.journal) (ap (λ t. t.records) c.arrive.ensures) c.learn.ensures.pairs (λ k. refl) (λ x. refl) c.say.ensures.caller
    (no-more _))

pub learn-requires-clause-port : goal.learn-requires-clause-port
learn-requires-clause-port c = c.requires.may.kind

pub learn-requires-clause-in_layout : goal.learn-requires-clause-in_layout
learn-requires-clause-in_layout c =
    ap (λ l. can_make_port l c.args.port.ui) (c.self.invariant.2.layout ∙ ap (λ p. p.layout) c.self.view_is) ∙ c.requires.may.can_make

pub arrive-requires-clause-not_held : goal.arrive-requires-clause-not_held
arrive-requires-clause-not_held c = ap (λ p. is_some (find c.args.port.ui p.ports.records)) c.self.view_is ∙ c.requires.may.absent

pub arrive-requires-clause-limits : goal.arrive-requires-clause-limits
arrive-requires-clause-limits c = c.requires.may.limits
