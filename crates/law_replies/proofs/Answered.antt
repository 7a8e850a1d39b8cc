-- So it is the one act that answers the command.
use Rattle.std.proofs.Common.{◌≡◌, true, Option, Some, None, slice_get, refl, sym, ap, subst, arith}
use Rattle.std.specs.Option.{option_map}
use Rattle.chorus_ui.specs.declared.ui.Ui.{Ui}
use Rattle.chorus_ui.specs.Layout.{has_actor, place_at}
use Rattle.chorus_ui.specs.NameKind.{is_actor}
use Rattle.chorus_entry.specs.Places.{place_for}
use Rattle.chorus_world.specs.Views.{by}
use Rattle.chorus_world.specs.Seats.{posts_stay}
use Rattle.chorus_world.specs.Answering.{IsOnly}
use Rattle.chorus_world.proofs.Seats.Answered.{one-answers}
use Rattle.chorus_calls.specs.Callers.{Seated}
use Rattle.law_network.specs.Answering.{OwnActAnswers}
use Rattle.law_network.specs.Stands.{actor_of}
use Rattle.law_network.proofs.Commands.OwnIsAnswer.{own-is}

-- who has an actor is a caller in it
some-caller : (o : Option Seated) (a : Ui) → option_map (λ (c : Seated). c.actor) o ≡ Some a → (c : Seated) × (o ≡ Some c) × (c.actor ≡ a)
some-caller None a h = absurd (cc)
some-caller (Some c) a h = (c, refl, cc)

pub own-act-answers : OwnActAnswers
own-act-answers n past k caller c clock shape w r e conditions here mine =
    let is = w.callers k caller e in
    let le = is.clock in
    let one = one-answers n.layout (actor_of n) past k caller.actor c clock shape w.run
    (λ j a who.
    let found = some-caller (slice_get n.callers j) a who in
    let it : Seated = found.0 in
    let its = w.callers j it found.1 in
    let same = found.2 in (
      subst (λ b. has_actor n.layout b ≡ true) same its.actor,
      subst (λ b. is_actor b ≡ true) same its.kind,
      subst (λ b. posts_stay (place_at n.layout b.site b) (by j past) ≡ true) same its.stays,
    ))
    (ap (option_map (λ (z : Seated). z.actor)) e) conditions (r.ended (place_for n.layout caller.actor c)) here (omega (arith, le, mine)) in
    subst (IsOnly n.layout (actor_of n) past k caller.actor c clock) (sym (own-is n past k caller shape w e c)) one
