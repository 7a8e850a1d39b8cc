use Rattle.std.proofs.Common.{◌≡◌, ◌+◌, ◌-◌, ◌<◌, ◌≤◌, ◌↔◌, nat_le, ◌&&◌, length, set, slice_get, Some, true, IsErrOf, refl, sym, ◌∙◌, ap, subst, arith}
use Rattle.std.proofs.lemmas.Bool.{and_parts}
use Rattle.std.proofs.lemmas.Option.{slice_get_read}
use Rattle.chorus_ui.specs.declared.ui.Ui.{Ui}
use Rattle.chorus_ui.specs.declared.limits.TheConstants.{CLOCK_LIMIT}
use Rattle.chorus_ui.specs.Layout.{has_site}
use Rattle.chorus_entry.specs.Places.{place_for}
use Rattle.chorus_place.specs.declared.fault.PlaceFault.TheVariants as fault
use Rattle.law_machine.specs.PlaceState.{greatest_clock}
use Rattle.law_machine.specs.PlaceMachine.{begun}
use Rattle.law_network.specs.Network.{Act, happened, replied}
use Rattle.law_network.specs.Schedules.{may_happen, may_give}
use Rattle.law_network.specs.Calls.{compared, compared_with}
use Rattle.chorus_place.specs.Calls.{state, TakesNone}
use Rattle.chorus_net.specs.Room.{UsesRoom, KeepRoom, TakesNoneAt, puts_in}
use Rattle.chorus_net.proofs.Rooms.{keep-set, room-found}
use Rattle.chorus_net.specs.Sites.{SitesState, net}
use Rattle.chorus_net.proofs.Events.{acted-uses, caller-of, seat-given, stands-at-index, given-may, given-posts, place-found, acted-net, acted-sites, acted-reply, refused-net, refused-sites, by-result, if-ok, on-err}
use Rattle.chorus_net.proofs.Numbers.{call-left}
use Rattle.chorus_net.proofs.sites.Sites.act.Goals as goal

pub place_for-number-requires-clause-site : goal.place_for-number-requires-clause-site
place_for-number-requires-clause-site c =
    let s : SitesState = record { layout = c.self.inside.layout; mark = c.self.inside.mark; places = c.self.inside.places.items; callers = c.self.inside.callers.items } in
    let may : may_happen (Act c.args.seat c.args.command) (net s) ≡ true = subst (λ (v : SitesState). may_happen (Act c.args.seat c.args.command) (net v) ≡ true) (sym c.self.view_is) c.requires in
    let given = seat-given c.self.inside.callers.items c.args.seat c.args.command may in
    let found : slice_get c.self.inside.callers.items c.args.seat ≡ Some c.index_mut-caller.result.now = slice_get_read c.self.inside.callers.items _ c.args.seat c.index_mut-caller.result.now refl given c.index_mut-caller.ensures.value in
    let l = c.self.inside.layout in
    let a = c.index_mut-caller.result.now.actor in
    let has = (caller-of c.self.inside.layout (net s) c.self.invariant.shape c.self.invariant.scheduled c.args.seat c.index_mut-caller.result.now found).1 in
    ap (λ (u : Ui). has_site c.self.inside.layout u.site) c.actor.ensures
    ∙ (and_parts (has_site l a.site) (nat_le 1 a.number) (and_parts (has_site l a.site && nat_le 1 a.number) (nat_le a.number 8) has).0).0

pub act-requires-clause-may : goal.act-requires-clause-may
act-requires-clause-may c =
    let s : SitesState = record { layout = c.self.inside.layout; mark = c.self.inside.mark; places = c.self.inside.places.items; callers = c.self.inside.callers.items } in
    let i = c.from.result - 1 in
    let x = c.index_mut-caller.result.now in
    let p = c.index_mut-place.result.now in
    let may : may_happen (Act c.args.seat c.args.command) (net s) ≡ true = subst (λ (v : SitesState). may_happen (Act c.args.seat c.args.command) (net v) ≡ true) (sym c.self.view_is) c.requires in
    let given = seat-given c.self.inside.callers.items c.args.seat c.args.command may in
    let found : slice_get c.self.inside.callers.items c.args.seat ≡ Some c.index_mut-caller.result.now = slice_get_read c.self.inside.callers.items _ c.args.seat c.index_mut-caller.result.now refl given c.index_mut-caller.ensures.value in
    let stands = stands-at-index c.self.inside.layout c.place_for-number.result c.from.result (length c.self.inside.places.items) c.place_for-number.ensures.in_layout c.from.ensures c.self.invariant.all in
    let number : place_for c.self.inside.layout c.index_mut-caller.result.now.actor c.args.command ≡ 1 + (c.from.result - 1) = ap (λ (a : Ui). place_for c.self.inside.layout a c.args.command) (sym c.actor.ensures) ∙ sym c.place_for-number.ensures.value ∙ stands.0 in
    given-may s c.args.seat i c.args.command x p c.self.invariant may found number stands.1 c.index_mut-place.ensures.value

pub act-requires-clause-posts : goal.act-requires-clause-posts
act-requires-clause-posts c =
    let s : SitesState = record { layout = c.self.inside.layout; mark = c.self.inside.mark; places = c.self.inside.places.items; callers = c.self.inside.callers.items } in
    let i = c.from.result - 1 in
    let x = c.index_mut-caller.result.now in
    let p = c.index_mut-place.result.now in
    let may : may_happen (Act c.args.seat c.args.command) (net s) ≡ true = subst (λ (v : SitesState). may_happen (Act c.args.seat c.args.command) (net v) ≡ true) (sym c.self.view_is) c.requires in
    let given = seat-given c.self.inside.callers.items c.args.seat c.args.command may in
    let found : slice_get c.self.inside.callers.items c.args.seat ≡ Some c.index_mut-caller.result.now = slice_get_read c.self.inside.callers.items _ c.args.seat c.index_mut-caller.result.now refl given c.index_mut-caller.ensures.value in
    let stands = stands-at-index c.self.inside.layout c.place_for-number.result c.from.result (length c.self.inside.places.items) c.place_for-number.ensures.in_layout c.from.ensures c.self.invariant.all in
    let number : place_for c.self.inside.layout c.index_mut-caller.result.now.actor c.args.command ≡ 1 + (c.from.result - 1) = ap (λ (a : Ui). place_for c.self.inside.layout a c.args.command) (sym c.actor.ensures) ∙ sym c.place_for-number.ensures.value ∙ stands.0 in
    given-posts s c.args.seat i c.args.command x p c.self.invariant may found number stands.1 c.index_mut-place.ensures.value

pub invariant_of-self : goal.invariant_of-self
invariant_of-self c =
    let s : SitesState = record { layout = c.self.inside.layout; mark = c.self.inside.mark; places = c.self.inside.places.items; callers = c.self.inside.callers.items } in
    let i = c.from.result - 1 in
    let x = c.index_mut-caller.result.now in
    let p = c.index_mut-place.result.now in
    let may : may_happen (Act c.args.seat c.args.command) (net s) ≡ true = subst (λ (v : SitesState). may_happen (Act c.args.seat c.args.command) (net v) ≡ true) (sym c.self.view_is) c.requires in
    let given = seat-given c.self.inside.callers.items c.args.seat c.args.command may in
    let found : slice_get c.self.inside.callers.items c.args.seat ≡ Some c.index_mut-caller.result.now = slice_get_read c.self.inside.callers.items _ c.args.seat c.index_mut-caller.result.now refl given c.index_mut-caller.ensures.value in
    let stands = stands-at-index c.self.inside.layout c.place_for-number.result c.from.result (length c.self.inside.places.items) c.place_for-number.ensures.in_layout c.from.ensures c.self.invariant.all in
    let number : place_for c.self.inside.layout c.index_mut-caller.result.now.actor c.args.command ≡ 1 + (c.from.result - 1) = ap (λ (a : Ui). place_for c.self.inside.layout a c.args.command) (sym c.actor.ensures) ∙ sym c.place_for-number.ensures.value ∙ stands.0 in
    let here = c.index_mut-caller.ensures.value in
    by-result c.act.result _ _ _ c.act.ensures.called c.act.ensures.refused
    (λ r h. acted-sites s c.args.seat i c.args.command x p c.self.invariant may found number stands.1 c.index_mut-place.ensures.value c.act.new.self c.act.new.caller h.ended)
    (λ h. refused-sites s c.args.seat i x c.act.new.caller p c.act.new.self c.self.invariant stands.1 c.index_mut-place.ensures.value here h.0 h.1)

pub returns-clause-ok : goal.returns-clause-ok
returns-clause-ok c =
    let s : SitesState = record { layout = c.self.inside.layout; mark = c.self.inside.mark; places = c.self.inside.places.items; callers = c.self.inside.callers.items } in
    let i = c.from.result - 1 in
    let x = c.index_mut-caller.result.now in
    let p = c.index_mut-place.result.now in
    let may : may_happen (Act c.args.seat c.args.command) (net s) ≡ true = subst (λ (v : SitesState). may_happen (Act c.args.seat c.args.command) (net v) ≡ true) (sym c.self.view_is) c.requires in
    let given = seat-given c.self.inside.callers.items c.args.seat c.args.command may in
    let found : slice_get c.self.inside.callers.items c.args.seat ≡ Some c.index_mut-caller.result.now = slice_get_read c.self.inside.callers.items _ c.args.seat c.index_mut-caller.result.now refl given c.index_mut-caller.ensures.value in
    let stands = stands-at-index c.self.inside.layout c.place_for-number.result c.from.result (length c.self.inside.places.items) c.place_for-number.ensures.in_layout c.from.ensures c.self.invariant.all in
    let number : place_for c.self.inside.layout c.index_mut-caller.result.now.actor c.args.command ≡ 1 + (c.from.result - 1) = ap (λ (a : Ui). place_for c.self.inside.layout a c.args.command) (sym c.actor.ensures) ∙ sym c.place_for-number.ensures.value ∙ stands.0 in
    if-ok c.act.result _ _ c.act.ensures.called
    (λ r h. acted-net s c.args.seat i c.args.command x p c.self.invariant may found number stands.1 c.index_mut-place.ensures.value c.act.new.self c.act.new.caller h.ended
    ∙ ap (λ (v : SitesState). happened (Act c.args.seat c.args.command) (net v)) c.self.view_is)

pub returns-clause-reply : goal.returns-clause-reply
returns-clause-reply c =
    let s : SitesState = record { layout = c.self.inside.layout; mark = c.self.inside.mark; places = c.self.inside.places.items; callers = c.self.inside.callers.items } in
    let i = c.from.result - 1 in
    let x = c.index_mut-caller.result.now in
    let p = c.index_mut-place.result.now in
    let may : may_happen (Act c.args.seat c.args.command) (net s) ≡ true = subst (λ (v : SitesState). may_happen (Act c.args.seat c.args.command) (net v) ≡ true) (sym c.self.view_is) c.requires in
    let given = seat-given c.self.inside.callers.items c.args.seat c.args.command may in
    let found : slice_get c.self.inside.callers.items c.args.seat ≡ Some c.index_mut-caller.result.now = slice_get_read c.self.inside.callers.items _ c.args.seat c.index_mut-caller.result.now refl given c.index_mut-caller.ensures.value in
    let stands = stands-at-index c.self.inside.layout c.place_for-number.result c.from.result (length c.self.inside.places.items) c.place_for-number.ensures.in_layout c.from.ensures c.self.invariant.all in
    let number : place_for c.self.inside.layout c.index_mut-caller.result.now.actor c.args.command ≡ 1 + (c.from.result - 1) = ap (λ (a : Ui). place_for c.self.inside.layout a c.args.command) (sym c.actor.ensures) ∙ sym c.place_for-number.ensures.value ∙ stands.0 in
    if-ok c.act.result _ _ c.act.ensures.called
    (λ r h. acted-reply s c.args.seat i c.args.command x p c.self.invariant may found number stands.1 c.index_mut-place.ensures.value c.act.new.self c.act.new.caller h.ended r h.answer
    ∙ ap (λ (v : SitesState). replied c.args.seat c.args.command (net v)) c.self.view_is)

pub returns-clause-worn : goal.returns-clause-worn
returns-clause-worn c clock =
    let s : SitesState = record { layout = c.self.inside.layout; mark = c.self.inside.mark; places = c.self.inside.places.items; callers = c.self.inside.callers.items } in
    let i = c.from.result - 1 in
    let x = c.index_mut-caller.result.now in
    let p = c.index_mut-place.result.now in
    let may : may_happen (Act c.args.seat c.args.command) (net s) ≡ true = subst (λ (v : SitesState). may_happen (Act c.args.seat c.args.command) (net v) ≡ true) (sym c.self.view_is) c.requires in
    let given = seat-given c.self.inside.callers.items c.args.seat c.args.command may in
    let found : slice_get c.self.inside.callers.items c.args.seat ≡ Some c.index_mut-caller.result.now = slice_get_read c.self.inside.callers.items _ c.args.seat c.index_mut-caller.result.now refl given c.index_mut-caller.ensures.value in
    let stands = stands-at-index c.self.inside.layout c.place_for-number.result c.from.result (length c.self.inside.places.items) c.place_for-number.ensures.in_layout c.from.ensures c.self.invariant.all in
    let number : place_for c.self.inside.layout c.index_mut-caller.result.now.actor c.args.command ≡ 1 + (c.from.result - 1) = ap (λ (a : Ui). place_for c.self.inside.layout a c.args.command) (sym c.actor.ensures) ∙ sym c.place_for-number.ensures.value ∙ stands.0 in
    let same : compared c.args.seat c.args.command (net c.args.self.now) ≡ greatest_clock (begun (state c.index_mut-place.result.now) c.index_mut-caller.result.now) =
    ap (λ (v : SitesState). compared c.args.seat c.args.command (net v)) (sym c.self.view_is)
    ∙ ap (λ o. compared_with c.args.command o (net s)) found
    ∙ ap (λ z. greatest_clock (begun z c.index_mut-caller.result.now)) (place-found s c.args.seat i c.args.command x p c.self.invariant may found number stands.1 c.index_mut-place.ensures.value) in
    subst (λ n. IsErrOf c.act.result (fault.Worn clock) ↔ ((CLOCK_LIMIT ≤ n) × (clock ≡ n))) (sym same) (c.act.ensures.worn clock)

pub returns-clause-refused : goal.returns-clause-refused
returns-clause-refused c =
    let s : SitesState = record { layout = c.self.inside.layout; mark = c.self.inside.mark; places = c.self.inside.places.items; callers = c.self.inside.callers.items } in
    let i = c.from.result - 1 in
    let x = c.index_mut-caller.result.now in
    let p = c.index_mut-place.result.now in
    let may : may_happen (Act c.args.seat c.args.command) (net s) ≡ true = subst (λ (v : SitesState). may_happen (Act c.args.seat c.args.command) (net v) ≡ true) (sym c.self.view_is) c.requires in
    let given = seat-given c.self.inside.callers.items c.args.seat c.args.command may in
    let found : slice_get c.self.inside.callers.items c.args.seat ≡ Some c.index_mut-caller.result.now = slice_get_read c.self.inside.callers.items _ c.args.seat c.index_mut-caller.result.now refl given c.index_mut-caller.ensures.value in
    let stands = stands-at-index c.self.inside.layout c.place_for-number.result c.from.result (length c.self.inside.places.items) c.place_for-number.ensures.in_layout c.from.ensures c.self.invariant.all in
    let number : place_for c.self.inside.layout c.index_mut-caller.result.now.actor c.args.command ≡ 1 + (c.from.result - 1) = ap (λ (a : Ui). place_for c.self.inside.layout a c.args.command) (sym c.actor.ensures) ∙ sym c.place_for-number.ensures.value ∙ stands.0 in
    let here = c.index_mut-caller.ensures.value in
    on-err c.act.result _ _ c.act.ensures.refused
    (λ h. record {
      same = refused-net s c.args.seat i x c.act.new.caller p c.act.new.self c.self.invariant stands.1 c.index_mut-place.ensures.value here h.0 h.1 ∙ ap net c.self.view_is;
      room = subst (λ (v : SitesState). KeepRoom v.places (set c.self.inside.places.items (c.from.result - 1) c.act.new.self)) c.self.view_is
          (keep-set c.self.inside.places.items (c.from.result - 1) c.index_mut-place.result.now c.act.new.self c.index_mut-place.ensures.value h.0.spare);
    })

pub returns-clause-room : goal.returns-clause-room
returns-clause-room c =
    let s : SitesState = record { layout = c.self.inside.layout; mark = c.self.inside.mark; places = c.self.inside.places.items; callers = c.self.inside.callers.items } in
    let i = c.from.result - 1 in
    let x = c.index_mut-caller.result.now in
    let p = c.index_mut-place.result.now in
    let may : may_happen (Act c.args.seat c.args.command) (net s) ≡ true = subst (λ (v : SitesState). may_happen (Act c.args.seat c.args.command) (net v) ≡ true) (sym c.self.view_is) c.requires in
    let given = seat-given c.self.inside.callers.items c.args.seat c.args.command may in
    let found : slice_get c.self.inside.callers.items c.args.seat ≡ Some c.index_mut-caller.result.now = slice_get_read c.self.inside.callers.items _ c.args.seat c.index_mut-caller.result.now refl given c.index_mut-caller.ensures.value in
    let stands = stands-at-index c.self.inside.layout c.place_for-number.result c.from.result (length c.self.inside.places.items) c.place_for-number.ensures.in_layout c.from.ensures c.self.invariant.all in
    let number : place_for c.self.inside.layout c.index_mut-caller.result.now.actor c.args.command ≡ 1 + (c.from.result - 1) = ap (λ (a : Ui). place_for c.self.inside.layout a c.args.command) (sym c.actor.ensures) ∙ sym c.place_for-number.ensures.value ∙ stands.0 in
    if-ok c.act.result _ _ c.act.ensures.called
    (λ r h. subst (λ (v : SitesState). UsesRoom (puts_in (Act c.args.seat c.args.command) (net v)) v.places (set c.self.inside.places.items (c.from.result - 1) c.act.new.self)) c.self.view_is
    (acted-uses s c.args.seat i c.args.command x p c.self.invariant may found number stands.1 c.index_mut-place.ensures.value c.act.new.self c.act.new.caller h.ended))

pub returns-clause-takes_no_memory : goal.returns-clause-takes_no_memory
returns-clause-takes_no_memory c = λ takes below.
    let s : SitesState = record { layout = c.self.inside.layout; mark = c.self.inside.mark; places = c.self.inside.places.items; callers = c.self.inside.callers.items } in
    let i = c.from.result - 1 in
    let x = c.index_mut-caller.result.now in
    let p = c.index_mut-place.result.now in
    let may : may_happen (Act c.args.seat c.args.command) (net s) ≡ true = subst (λ (v : SitesState). may_happen (Act c.args.seat c.args.command) (net v) ≡ true) (sym c.self.view_is) c.requires in
    let given = seat-given c.self.inside.callers.items c.args.seat c.args.command may in
    let found : slice_get c.self.inside.callers.items c.args.seat ≡ Some c.index_mut-caller.result.now = slice_get_read c.self.inside.callers.items _ c.args.seat c.index_mut-caller.result.now refl given c.index_mut-caller.ensures.value in
    let stands = stands-at-index c.self.inside.layout c.place_for-number.result c.from.result (length c.self.inside.places.items) c.place_for-number.ensures.in_layout c.from.ensures c.self.invariant.all in
    let number : place_for c.self.inside.layout c.index_mut-caller.result.now.actor c.args.command ≡ 1 + (c.from.result - 1) = ap (λ (a : Ui). place_for c.self.inside.layout a c.args.command) (sym c.actor.ensures) ∙ sym c.place_for-number.ensures.value ∙ stands.0 in
    let here = place_for c.self.inside.layout c.index_mut-caller.result.now.actor c.args.command in
    let at : TakesNoneAt c.args.command (Some c.index_mut-caller.result.now) s =
    subst (λ o. TakesNoneAt c.args.command o s) found (subst (λ (v : SitesState). TakesNoneAt c.args.command (slice_get v.callers c.args.seat) v) (sym c.self.view_is) takes) in
    let same : compared c.args.seat c.args.command (net c.args.self.now) ≡ greatest_clock (begun (state c.index_mut-place.result.now) c.index_mut-caller.result.now) =
    ap (λ (v : SitesState). compared c.args.seat c.args.command (net v)) (sym c.self.view_is)
    ∙ ap (λ o. compared_with c.args.command o (net s)) found
    ∙ ap (λ z. greatest_clock (begun z c.index_mut-caller.result.now)) (place-found s c.args.seat i c.args.command x p c.self.invariant may found number stands.1 c.index_mut-place.ensures.value) in
    let room = room-found c.self.inside.layout 1 i here c.self.inside.places.items p c.self.invariant.places stands.1 number c.index_mut-place.ensures.value in
    let two = at.1 in
    c.act.ensures.takes_no_memory
    (subst (λ z. TakesNone c.args.command z c.index_mut-caller.result.now) (place-found s c.args.seat i c.args.command x p c.self.invariant may found number stands.1 c.index_mut-place.ensures.value) at.0)
    (omega (arith, room, two)) (subst (λ n. n < CLOCK_LIMIT) same below)

pub act-requires-clause-given : goal.act-requires-clause-given
act-requires-clause-given c = λ call.
    let s : SitesState = record { layout = c.self.inside.layout; mark = c.self.inside.mark; places = c.self.inside.places.items; callers = c.self.inside.callers.items } in
    let i = c.from.result - 1 in
    let x = c.index_mut-caller.result.now in
    let p = c.index_mut-place.result.now in
    let may : may_happen (Act c.args.seat c.args.command) (net s) ≡ true = subst (λ (v : SitesState). may_happen (Act c.args.seat c.args.command) (net v) ≡ true) (sym c.self.view_is) c.requires in
    let given = seat-given c.self.inside.callers.items c.args.seat c.args.command may in
    let found : slice_get c.self.inside.callers.items c.args.seat ≡ Some c.index_mut-caller.result.now = slice_get_read c.self.inside.callers.items _ c.args.seat c.index_mut-caller.result.now refl given c.index_mut-caller.ensures.value in
    let stands = stands-at-index c.self.inside.layout c.place_for-number.result c.from.result (length c.self.inside.places.items) c.place_for-number.ensures.in_layout c.from.ensures c.self.invariant.all in
    let number : place_for c.self.inside.layout c.index_mut-caller.result.now.actor c.args.command ≡ 1 + (c.from.result - 1) = ap (λ (a : Ui). place_for c.self.inside.layout a c.args.command) (sym c.actor.ensures) ∙ sym c.place_for-number.ensures.value ∙ stands.0 in
    call-left c.self.inside.layout (net s) c.self.invariant.scheduled c.args.seat x c.args.command found (ap (λ o. may_give o c.args.command) (sym found) ∙ may) call
