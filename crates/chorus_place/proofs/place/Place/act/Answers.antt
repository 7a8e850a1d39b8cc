use Rattle.std.proofs.Common.{ap, subst, sym, ◌∙◌}
use Rattle.chorus_place.specs.Calls.{Called, Stays}
use Rattle.chorus_place.specs.Calls as calls
use Rattle.chorus_place.proofs.PlaceTurns.Posting.{on_err}
use Rattle.chorus_place.proofs.Ended.{called, stays}
use Rattle.chorus_place.proofs.Bounded.{refused-at-rest, acts-at-rest}
use Rattle.chorus_place.proofs.place.Place.act.Goals as goal

pub invariant_of-self : goal.invariant_of-self
invariant_of-self c =
    let p = c.deref_mut-tables.result.now in
    let rest = subst calls.IsAtRest (sym c.deref_mut-tables.ensures.value) c.self.invariant in
    refused-at-rest p c.perform.new.tables c.args.caller.now c.perform.new.caller rest c.in_err-reply.ensures.refused c.perform.ensures.out

pub invariant_of-self-2 : goal.invariant_of-self-2
invariant_of-self-2 c =
    let p = c.deref_mut-tables.result.now in
    let rest = subst calls.IsAtRest (sym c.deref_mut-tables.ensures.value) c.self.invariant in
    let sent = c.send_out.ensures in
    acts-at-rest c.args.command p c.perform.new.tables c.send_out.new.self c.args.caller.now c.perform.new.caller rest c.in_ok-reply.ensures.performed.done c.perform.ensures.out
    (record { state = sent.state; lists = sent.lists; count = sent.count; spare = ap (λ j. j.spare) sent.journal; room = sent.room }) sent.none c.requires.may.conditions c.are_within.ensures.body c.are_within.ensures.caller

pub returns-in_err-reply-clause-refused : goal.returns-in_err-reply-clause-refused
returns-in_err-reply-clause-refused c =
    let p = c.deref_mut-tables.result.now in
    let rest = subst calls.IsAtRest (sym c.deref_mut-tables.ensures.value) c.self.invariant in
    let seen = ap calls.place_of c.deref_mut-tables.ensures.value ∙ c.self.view_is in
    let same = c.in_err-reply.ensures.refused in
    on_err c.from_residual.result _ (
      subst (λ p. Stays p (calls.place_of c.perform.new.tables)) seen
          (stays p c.perform.new.tables c.args.caller.now c.perform.new.caller rest.none same c.perform.ensures.out c.perform.ensures.kept),
      ap (λ t. t.caller) same,
    )

pub returns-clause-called : goal.returns-clause-called
returns-clause-called c =
    let p = c.deref_mut-tables.result.now in
    let rest = subst calls.IsAtRest (sym c.deref_mut-tables.ensures.value) c.self.invariant in
    let seen = ap calls.place_of c.deref_mut-tables.ensures.value ∙ c.self.view_is in
    let sent = c.send_out.ensures in
    subst (λ p. Called p (calls.place_of c.send_out.new.self) c.args.caller.now c.perform.new.caller c.args.command c.in_ok-reply.reply) seen
    (called p c.perform.new.tables c.send_out.new.self c.args.caller.now c.perform.new.caller c.args.command c.in_ok-reply.reply rest.none
    c.in_ok-reply.ensures.performed c.perform.ensures.out c.perform.ensures.kept
    (record { state = sent.state; lists = sent.lists; count = sent.count; spare = ap (λ j. j.spare) sent.journal; room = sent.room }))
