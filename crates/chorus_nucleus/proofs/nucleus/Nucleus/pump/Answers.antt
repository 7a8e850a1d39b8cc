use Rattle.std.proofs.Common.{None, refl, sym, ◌∙◌, ap, subst}
use Rattle.chorus_turn.specs.Knowing.{IsSamePass}
use Rattle.chorus_turn.specs.Passes.{known}
use Rattle.chorus_nucleus.specs.declared.sight.Sight.{Sight}
use Rattle.chorus_nucleus.specs.Calls.{worn_after}
use Rattle.chorus_nucleus.specs.Pumping.{PumpDone, IsPump}
use Rattle.chorus_nucleus.proofs.Asking.{home-is}
use Rattle.chorus_nucleus.proofs.Pumping.{at-home, away}
use Rattle.chorus_nucleus.proofs.nucleus.Nucleus.pump.Goals as goal

pub returns-then-place-home : goal.returns-then-place-home
returns-then-place-home g c =
    let n = c.args.self.now in
    let old = c.args.pass.now in
    let p = c.args.place in
    let taken = c.take_caller-caller in
    let with = c.pump_with-caller in
    let after = with.new.turner in
    let home = home-is n.layout old.caller c.actor-actor.result c.site.result c.place_at-home.result c.actor-actor.ensures c.site.ensures.value c.place_at-home.ensures.value in
    let done = subst (λ w. PumpDone n p c.take-own.result with.result.1 with.result.2 (known old.turner) w (known after) with.result.0) taken.ensures.caller
    (subst (λ t. PumpDone n p c.take-own.result with.result.1 with.result.2 (known t) taken.result (known after) with.result.0) taken.ensures.turner with.ensures.done) in
    at-home n p old after c.requires.pass with.ensures.turner (subst (λ t. IsSamePass (known t) (known after)) taken.ensures.turner with.ensures.standing) with.result.0 c.note_worn-pass.result with.result.2
    (c.note_worn-pass.ensures ∙ ap (λ o. worn_after o with.result.2) taken.ensures.worn) with.result.1 record { reader = with.result.1; spare = taken.new.pass.sight.spare } (c.if-place-home.true ∙ home) refl
    (ap (λ (z : Sight). z.spare) taken.ensures.sight)
    (subst (λ o. PumpDone n p o with.result.1 with.result.2 (known old.turner) old.caller (known after) with.result.0) (c.take-own.ensures.value ∙ ap (λ (z : Sight). z.reader) taken.ensures.sight) done)

pub returns-else-place-home : goal.returns-else-place-home
returns-else-place-home g c =
    let n = c.args.self.now in
    let old = c.args.pass.now in
    let p = c.args.place in
    let taken = c.take_caller-caller in
    let with = c.pump_with-caller-else-place-home in
    let after = with.new.turner in
    let home = home-is n.layout old.caller c.actor-actor.result c.site.result c.place_at-home.result c.actor-actor.ensures c.site.ensures.value c.place_at-home.ensures.value in
    let done = subst (λ w. PumpDone n p None with.result.1 with.result.2 (known old.turner) w (known after) with.result.0) taken.ensures.caller
    (subst (λ t. PumpDone n p None with.result.1 with.result.2 (known t) taken.result (known after) with.result.0) taken.ensures.turner with.ensures.done) in
    subst (λ s. IsPump n p old (record { turner = after; caller = with.result.0; worn = c.note_worn-pass-else-place-home.result; sight = s }) with.result.2) (sym taken.ensures.sight)
    (away n p old after c.requires.pass with.ensures.turner (subst (λ t. IsSamePass (known t) (known after)) taken.ensures.turner with.ensures.standing) with.result.0 c.note_worn-pass-else-place-home.result with.result.2
    (c.note_worn-pass-else-place-home.ensures ∙ ap (λ o. worn_after o with.result.2) taken.ensures.worn) with.result.1 (λ e. c.if-place-home.false (e ∙ sym home)) done)
