use Rattle.std.proofs.Common.{◌≡◌, ◌-◌, length, set, get_or, slice_get, Some, None, true, refl, sym, ◌∙◌, ap, subst, arith}
use Rattle.std.proofs.lemmas.Option.{slice_get_read}
use Rattle.chorus_ui.specs.Layout.{has_place}
use Rattle.place_outbox.specs.Waiting.{list_to, with_first, MayPutBack}
use Rattle.law_machine.specs.PlaceState.{greatest_clock}
use Rattle.law_machine.specs.PlaceMachine.{begun_by}
use Rattle.law_network.specs.declared.delivery.Delivered.{Delivered}
use Rattle.law_network.specs.Network.{Deliver, happened, delivery}
use Rattle.law_network.specs.Calls.{compared_at}
use Rattle.law_network.specs.Calls.{last_of}
use Rattle.chorus_net.specs.Drains.{seat_clock}
use Rattle.std.proofs.lemmas.List.{length-set}
use Rattle.law_machine.specs.PlaceState.{PlaceState}
use Rattle.chorus_net.specs.Room.{UsesRoom, KeepRoom, puts_in}
use Rattle.chorus_net.proofs.Rooms.{uses-set, keep-set, keep-on}
use Rattle.chorus_place.specs.Calls.{Place, state}
use Rattle.chorus_net.specs.Sites.{SitesState, net, IsSites}
use Rattle.chorus_net.proofs.Deliveries.{worked-uses, first-caller, idle-net, idle-sites, idle-event, idle-answer, idle-compared, lawful, served-answer, served-compared, worked-net, worked-sites, restored-net, restored-sites, not-worn, set-apart, why-worn, nobody-worn, risen, below-limit, slice_get-set}
use Rattle.chorus_net.proofs.Events.{stands-at-index}
use Rattle.chorus_net.proofs.sites.Sites.deliver.Goals as goal

pub invariant_of-self : goal.invariant_of-self
invariant_of-self c =
    let s : SitesState = record { layout = c.self.inside.layout; mark = c.self.inside.mark; places = c.self.inside.places.items; callers = c.self.inside.callers.items } in
    let h = c.self.invariant in
    let l = c.self.inside.layout in
    let a = c.args.from in
    let b = c.args.to in
    let i = c.from.result - 1 in
    let p = c.index_mut.result.now in
    let p' = c.out.new.self in
    let has : has_place c.self.inside.layout c.args.from ≡ true = ap (λ (v : SitesState). has_place v.layout c.args.from) c.self.view_is ∙ c.requires.link.from in
    let has' : has_place c.self.inside.layout c.args.to ≡ true = ap (λ (v : SitesState). has_place v.layout c.args.to) c.self.view_is ∙ c.requires.link.to in
    let fi = stands-at-index c.self.inside.layout c.args.from c.from.result (length c.self.inside.places.items) has c.from.ensures h.all in
    let j = c.args.to - 1 in
    let fj = stands-at-index c.self.inside.layout c.args.to c.args.to (length c.self.inside.places.items) has' refl h.all in
    let w = first-caller c.self.inside.callers.items h.some_seat in
    let none : slice_get (list_to c.args.to c.index_mut.result.now.out.lists) 0 ≡ None = sym c.out.ensures.value ∙ c.in_default.is in
    idle-sites s a b i j w.0 p p' h fi.0 fj.0 fi.1 fj.1 c.requires.link.apart c.index_mut.ensures.value w.1 has has' c.out.ensures.state c.out.ensures.waits none

pub returns-in_default-clause-ok : goal.returns-in_default-clause-ok
returns-in_default-clause-ok c =
    let s : SitesState = record { layout = c.self.inside.layout; mark = c.self.inside.mark; places = c.self.inside.places.items; callers = c.self.inside.callers.items } in
    let h = c.self.invariant in
    let l = c.self.inside.layout in
    let a = c.args.from in
    let b = c.args.to in
    let i = c.from.result - 1 in
    let p = c.index_mut.result.now in
    let p' = c.out.new.self in
    let has : has_place c.self.inside.layout c.args.from ≡ true = ap (λ (v : SitesState). has_place v.layout c.args.from) c.self.view_is ∙ c.requires.link.from in
    let has' : has_place c.self.inside.layout c.args.to ≡ true = ap (λ (v : SitesState). has_place v.layout c.args.to) c.self.view_is ∙ c.requires.link.to in
    let fi = stands-at-index c.self.inside.layout c.args.from c.from.result (length c.self.inside.places.items) has c.from.ensures h.all in
    let j = c.args.to - 1 in
    let fj = stands-at-index c.self.inside.layout c.args.to c.args.to (length c.self.inside.places.items) has' refl h.all in
    let w = first-caller c.self.inside.callers.items h.some_seat in
    let none : slice_get (list_to c.args.to c.index_mut.result.now.out.lists) 0 ≡ None = sym c.out.ensures.value ∙ c.in_default.is in
    idle-net s a b i j w.0 p p' h fi.0 fj.0 fi.1 fj.1 c.requires.link.apart c.index_mut.ensures.value w.1 has has' c.out.ensures.state c.out.ensures.waits none ∙ sym (idle-event s a b i j w.0 p p' h fi.0 fj.0 fi.1 fj.1 c.requires.link.apart c.index_mut.ensures.value w.1 has has' c.out.ensures.state c.out.ensures.waits none) ∙ ap (λ (v : SitesState). happened (Deliver 0 c.args.from c.args.to) (net v)) c.self.view_is

pub returns-in_default-clause-answer : goal.returns-in_default-clause-answer
returns-in_default-clause-answer c =
    let s : SitesState = record { layout = c.self.inside.layout; mark = c.self.inside.mark; places = c.self.inside.places.items; callers = c.self.inside.callers.items } in
    let h = c.self.invariant in
    let l = c.self.inside.layout in
    let a = c.args.from in
    let b = c.args.to in
    let i = c.from.result - 1 in
    let p = c.index_mut.result.now in
    let p' = c.out.new.self in
    let has : has_place c.self.inside.layout c.args.from ≡ true = ap (λ (v : SitesState). has_place v.layout c.args.from) c.self.view_is ∙ c.requires.link.from in
    let has' : has_place c.self.inside.layout c.args.to ≡ true = ap (λ (v : SitesState). has_place v.layout c.args.to) c.self.view_is ∙ c.requires.link.to in
    let fi = stands-at-index c.self.inside.layout c.args.from c.from.result (length c.self.inside.places.items) has c.from.ensures h.all in
    let j = c.args.to - 1 in
    let fj = stands-at-index c.self.inside.layout c.args.to c.args.to (length c.self.inside.places.items) has' refl h.all in
    let w = first-caller c.self.inside.callers.items h.some_seat in
    let none : slice_get (list_to c.args.to c.index_mut.result.now.out.lists) 0 ≡ None = sym c.out.ensures.value ∙ c.in_default.is in
    idle-answer s a b i j w.0 p p' h fi.0 fj.0 fi.1 fj.1 c.requires.link.apart c.index_mut.ensures.value w.1 has has' c.out.ensures.state c.out.ensures.waits none ∙ ap (λ (v : SitesState). delivery c.args.from c.args.to (net v)) c.self.view_is

pub returns-in_default-clause-worn : goal.returns-in_default-clause-worn
returns-in_default-clause-worn c clock =
    let s : SitesState = record { layout = c.self.inside.layout; mark = c.self.inside.mark; places = c.self.inside.places.items; callers = c.self.inside.callers.items } in
    let h = c.self.invariant in
    let l = c.self.inside.layout in
    let a = c.args.from in
    let b = c.args.to in
    let i = c.from.result - 1 in
    let p = c.index_mut.result.now in
    let p' = c.out.new.self in
    let has : has_place c.self.inside.layout c.args.from ≡ true = ap (λ (v : SitesState). has_place v.layout c.args.from) c.self.view_is ∙ c.requires.link.from in
    let has' : has_place c.self.inside.layout c.args.to ≡ true = ap (λ (v : SitesState). has_place v.layout c.args.to) c.self.view_is ∙ c.requires.link.to in
    let fi = stands-at-index c.self.inside.layout c.args.from c.from.result (length c.self.inside.places.items) has c.from.ensures h.all in
    let j = c.args.to - 1 in
    let fj = stands-at-index c.self.inside.layout c.args.to c.args.to (length c.self.inside.places.items) has' refl h.all in
    let w = first-caller c.self.inside.callers.items h.some_seat in
    let none : slice_get (list_to c.args.to c.index_mut.result.now.out.lists) 0 ≡ None = sym c.out.ensures.value ∙ c.in_default.is in
    nobody-worn Delivered.Nothing clock (compared_at 0 c.args.from c.args.to (net c.args.self.now)) (sym (ap (λ (v : SitesState). compared_at 0 c.args.from c.args.to (net v)) c.self.view_is) ∙ idle-compared s a b i j w.0 p p' h fi.0 fj.0 fi.1 fj.1 c.requires.link.apart c.index_mut.ensures.value w.1 has has' c.out.ensures.state c.out.ensures.waits none)

pub work-requires : goal.work-requires
work-requires c =
    let s : SitesState = record { layout = c.self.inside.layout; mark = c.self.inside.mark; places = c.self.inside.places.items; callers = c.self.inside.callers.items } in
    let h = c.self.invariant in
    let l = c.self.inside.layout in
    let a = c.args.from in
    let b = c.args.to in
    let i = c.from.result - 1 in
    let p = c.index_mut.result.now in
    let p' = c.out.new.self in
    let has : has_place c.self.inside.layout c.args.from ≡ true = ap (λ (v : SitesState). has_place v.layout c.args.from) c.self.view_is ∙ c.requires.link.from in
    let has' : has_place c.self.inside.layout c.args.to ≡ true = ap (λ (v : SitesState). has_place v.layout c.args.to) c.self.view_is ∙ c.requires.link.to in
    let fi = stands-at-index c.self.inside.layout c.args.from c.from.result (length c.self.inside.places.items) has c.from.ensures h.all in
    let j = c.from-2.result - 1 in
    let fj = stands-at-index c.self.inside.layout c.args.to c.from-2.result (length c.self.inside.places.items) has' c.from-2.ensures h.all in
    let x = c.index_mut-caller.result.now in
    let k = c.in-Some.packet in
    let r = c.index_mut-2.result.now in
    let found : slice_get c.self.inside.callers.items 0 ≡ Some c.index_mut-caller.result.now = slice_get_read c.self.inside.callers.items _ 0 c.index_mut-caller.result.now refl h.some_seat c.index_mut-caller.ensures.value in
    let some : slice_get (list_to c.args.to c.index_mut.result.now.out.lists) 0 ≡ Some c.in-Some.packet = sym c.out.ensures.value ∙ c.in-Some.is in
    lawful s a b i j x p p' h fi.0 fj.0 fi.1 fj.1 c.requires.link.apart c.index_mut.ensures.value found has has' c.out.ensures.state c.out.ensures.waits k r some c.index_mut-2.ensures.value

pub invariant_of-self-in-Ok : goal.invariant_of-self-in-Ok
invariant_of-self-in-Ok c =
    let s : SitesState = record { layout = c.self.inside.layout; mark = c.self.inside.mark; places = c.self.inside.places.items; callers = c.self.inside.callers.items } in
    let h = c.self.invariant in
    let l = c.self.inside.layout in
    let a = c.args.from in
    let b = c.args.to in
    let i = c.from.result - 1 in
    let p = c.index_mut.result.now in
    let p' = c.out.new.self in
    let has : has_place c.self.inside.layout c.args.from ≡ true = ap (λ (v : SitesState). has_place v.layout c.args.from) c.self.view_is ∙ c.requires.link.from in
    let has' : has_place c.self.inside.layout c.args.to ≡ true = ap (λ (v : SitesState). has_place v.layout c.args.to) c.self.view_is ∙ c.requires.link.to in
    let fi = stands-at-index c.self.inside.layout c.args.from c.from.result (length c.self.inside.places.items) has c.from.ensures h.all in
    let j = c.from-2.result - 1 in
    let fj = stands-at-index c.self.inside.layout c.args.to c.from-2.result (length c.self.inside.places.items) has' c.from-2.ensures h.all in
    let x = c.index_mut-caller.result.now in
    let k = c.in-Some.packet in
    let r = c.index_mut-2.result.now in
    let found : slice_get c.self.inside.callers.items 0 ≡ Some c.index_mut-caller.result.now = slice_get_read c.self.inside.callers.items _ 0 c.index_mut-caller.result.now refl h.some_seat c.index_mut-caller.ensures.value in
    let some : slice_get (list_to c.args.to c.index_mut.result.now.out.lists) 0 ≡ Some c.in-Some.packet = sym c.out.ensures.value ∙ c.in-Some.is in
    worked-sites s a b i j x p p' h fi.0 fj.0 fi.1 fj.1 c.requires.link.apart c.index_mut.ensures.value found has has' c.out.ensures.state c.out.ensures.waits k r some c.index_mut-2.ensures.value c.work.new.self c.work.new.caller c.in-Ok.ensures.worked

pub returns-in-Ok-clause-ok : goal.returns-in-Ok-clause-ok
returns-in-Ok-clause-ok c =
    let s : SitesState = record { layout = c.self.inside.layout; mark = c.self.inside.mark; places = c.self.inside.places.items; callers = c.self.inside.callers.items } in
    let h = c.self.invariant in
    let l = c.self.inside.layout in
    let a = c.args.from in
    let b = c.args.to in
    let i = c.from.result - 1 in
    let p = c.index_mut.result.now in
    let p' = c.out.new.self in
    let has : has_place c.self.inside.layout c.args.from ≡ true = ap (λ (v : SitesState). has_place v.layout c.args.from) c.self.view_is ∙ c.requires.link.from in
    let has' : has_place c.self.inside.layout c.args.to ≡ true = ap (λ (v : SitesState). has_place v.layout c.args.to) c.self.view_is ∙ c.requires.link.to in
    let fi = stands-at-index c.self.inside.layout c.args.from c.from.result (length c.self.inside.places.items) has c.from.ensures h.all in
    let j = c.from-2.result - 1 in
    let fj = stands-at-index c.self.inside.layout c.args.to c.from-2.result (length c.self.inside.places.items) has' c.from-2.ensures h.all in
    let x = c.index_mut-caller.result.now in
    let k = c.in-Some.packet in
    let r = c.index_mut-2.result.now in
    let found : slice_get c.self.inside.callers.items 0 ≡ Some c.index_mut-caller.result.now = slice_get_read c.self.inside.callers.items _ 0 c.index_mut-caller.result.now refl h.some_seat c.index_mut-caller.ensures.value in
    let some : slice_get (list_to c.args.to c.index_mut.result.now.out.lists) 0 ≡ Some c.in-Some.packet = sym c.out.ensures.value ∙ c.in-Some.is in
    worked-net s a b i j x p p' h fi.0 fj.0 fi.1 fj.1 c.requires.link.apart c.index_mut.ensures.value found has has' c.out.ensures.state c.out.ensures.waits k r some c.index_mut-2.ensures.value c.work.new.self c.work.new.caller c.in-Ok.ensures.worked ∙ ap (λ (v : SitesState). happened (Deliver 0 c.args.from c.args.to) (net v)) c.self.view_is

pub returns-in-Ok-clause-answer : goal.returns-in-Ok-clause-answer
returns-in-Ok-clause-answer c =
    let s : SitesState = record { layout = c.self.inside.layout; mark = c.self.inside.mark; places = c.self.inside.places.items; callers = c.self.inside.callers.items } in
    let h = c.self.invariant in
    let l = c.self.inside.layout in
    let a = c.args.from in
    let b = c.args.to in
    let i = c.from.result - 1 in
    let p = c.index_mut.result.now in
    let p' = c.out.new.self in
    let has : has_place c.self.inside.layout c.args.from ≡ true = ap (λ (v : SitesState). has_place v.layout c.args.from) c.self.view_is ∙ c.requires.link.from in
    let has' : has_place c.self.inside.layout c.args.to ≡ true = ap (λ (v : SitesState). has_place v.layout c.args.to) c.self.view_is ∙ c.requires.link.to in
    let fi = stands-at-index c.self.inside.layout c.args.from c.from.result (length c.self.inside.places.items) has c.from.ensures h.all in
    let j = c.from-2.result - 1 in
    let fj = stands-at-index c.self.inside.layout c.args.to c.from-2.result (length c.self.inside.places.items) has' c.from-2.ensures h.all in
    let x = c.index_mut-caller.result.now in
    let k = c.in-Some.packet in
    let r = c.index_mut-2.result.now in
    let found : slice_get c.self.inside.callers.items 0 ≡ Some c.index_mut-caller.result.now = slice_get_read c.self.inside.callers.items _ 0 c.index_mut-caller.result.now refl h.some_seat c.index_mut-caller.ensures.value in
    let some : slice_get (list_to c.args.to c.index_mut.result.now.out.lists) 0 ≡ Some c.in-Some.packet = sym c.out.ensures.value ∙ c.in-Some.is in
    served-answer s a b i j x p p' h fi.0 fj.0 fi.1 fj.1 c.requires.link.apart c.index_mut.ensures.value found has has' c.out.ensures.state c.out.ensures.waits k r some c.index_mut-2.ensures.value ∙ ap (λ (v : SitesState). delivery c.args.from c.args.to (net v)) c.self.view_is

pub returns-in-Ok-clause-worn : goal.returns-in-Ok-clause-worn
returns-in-Ok-clause-worn c clock =
    let s : SitesState = record { layout = c.self.inside.layout; mark = c.self.inside.mark; places = c.self.inside.places.items; callers = c.self.inside.callers.items } in
    let h = c.self.invariant in
    let l = c.self.inside.layout in
    let a = c.args.from in
    let b = c.args.to in
    let i = c.from.result - 1 in
    let p = c.index_mut.result.now in
    let p' = c.out.new.self in
    let has : has_place c.self.inside.layout c.args.from ≡ true = ap (λ (v : SitesState). has_place v.layout c.args.from) c.self.view_is ∙ c.requires.link.from in
    let has' : has_place c.self.inside.layout c.args.to ≡ true = ap (λ (v : SitesState). has_place v.layout c.args.to) c.self.view_is ∙ c.requires.link.to in
    let fi = stands-at-index c.self.inside.layout c.args.from c.from.result (length c.self.inside.places.items) has c.from.ensures h.all in
    let j = c.from-2.result - 1 in
    let fj = stands-at-index c.self.inside.layout c.args.to c.from-2.result (length c.self.inside.places.items) has' c.from-2.ensures h.all in
    let x = c.index_mut-caller.result.now in
    let k = c.in-Some.packet in
    let r = c.index_mut-2.result.now in
    let found : slice_get c.self.inside.callers.items 0 ≡ Some c.index_mut-caller.result.now = slice_get_read c.self.inside.callers.items _ 0 c.index_mut-caller.result.now refl h.some_seat c.index_mut-caller.ensures.value in
    let some : slice_get (list_to c.args.to c.index_mut.result.now.out.lists) 0 ≡ Some c.in-Some.packet = sym c.out.ensures.value ∙ c.in-Some.is in
    not-worn Delivered.Served c.work.result c.in-Ok.field-0 c.in-Some.packet clock (greatest_clock (begun_by (state c.index_mut-2.result.now) c.index_mut-caller.result.now c.in-Some.packet)) (compared_at 0 c.args.from c.args.to (net c.args.self.now)) c.in-Ok.is (sym (ap (λ (v : SitesState). compared_at 0 c.args.from c.args.to (net v)) c.self.view_is) ∙ served-compared s a b i j x p p' h fi.0 fj.0 fi.1 fj.1 c.requires.link.apart c.index_mut.ensures.value found has has' c.out.ensures.state c.out.ensures.waits k r some c.index_mut-2.ensures.value) c.work.ensures.worn

pub returns-in-Err-clause-worn : goal.returns-in-Err-clause-worn
returns-in-Err-clause-worn c clock =
    let s : SitesState = record { layout = c.self.inside.layout; mark = c.self.inside.mark; places = c.self.inside.places.items; callers = c.self.inside.callers.items } in
    let h = c.self.invariant in
    let l = c.self.inside.layout in
    let a = c.args.from in
    let b = c.args.to in
    let i = c.from.result - 1 in
    let p = c.index_mut.result.now in
    let p' = c.out.new.self in
    let has : has_place c.self.inside.layout c.args.from ≡ true = ap (λ (v : SitesState). has_place v.layout c.args.from) c.self.view_is ∙ c.requires.link.from in
    let has' : has_place c.self.inside.layout c.args.to ≡ true = ap (λ (v : SitesState). has_place v.layout c.args.to) c.self.view_is ∙ c.requires.link.to in
    let fi = stands-at-index c.self.inside.layout c.args.from c.from.result (length c.self.inside.places.items) has c.from.ensures h.all in
    let j = c.from-2.result - 1 in
    let fj = stands-at-index c.self.inside.layout c.args.to c.from-2.result (length c.self.inside.places.items) has' c.from-2.ensures h.all in
    let x = c.index_mut-caller.result.now in
    let k = c.in-Some.packet in
    let r = c.index_mut-2.result.now in
    let found : slice_get c.self.inside.callers.items 0 ≡ Some c.index_mut-caller.result.now = slice_get_read c.self.inside.callers.items _ 0 c.index_mut-caller.result.now refl h.some_seat c.index_mut-caller.ensures.value in
    let some : slice_get (list_to c.args.to c.index_mut.result.now.out.lists) 0 ≡ Some c.in-Some.packet = sym c.out.ensures.value ∙ c.in-Some.is in
    why-worn c.work.result c.in-Err.packet c.in-Some.packet c.in-Err.fault clock (greatest_clock (begun_by (state c.index_mut-2.result.now) c.index_mut-caller.result.now c.in-Some.packet)) (compared_at 0 c.args.from c.args.to (net c.args.self.now)) c.in-Err.is (sym (ap (λ (v : SitesState). compared_at 0 c.args.from c.args.to (net v)) c.self.view_is) ∙ served-compared s a b i j x p p' h fi.0 fj.0 fi.1 fj.1 c.requires.link.apart c.index_mut.ensures.value found has has' c.out.ensures.state c.out.ensures.waits k r some c.index_mut-2.ensures.value) c.work.ensures.worn

pub put_back-requires-clause-back : goal.put_back-requires-clause-back
put_back-requires-clause-back c =
    let h = c.self.invariant in
    let has : has_place c.self.inside.layout c.args.from ≡ true = ap (λ (v : SitesState). has_place v.layout c.args.from) c.self.view_is ∙ c.requires.link.from in
    let fi = stands-at-index c.self.inside.layout c.args.from c.from.result (length c.self.inside.places.items) has c.from.ensures h.all in
    let there = stands-at-index c.self.inside.layout c.args.to c.from-2.result (length c.self.inside.places.items) (ap (λ (v : SitesState). has_place v.layout c.args.to) c.self.view_is ∙ c.requires.link.to) c.from-2.ensures h.all in
    let n : c.from-in-Err.result ≡ c.from.result = c.from-in-Err.ensures ∙ sym c.from.ensures in
    let taken : c.index_mut-in-Err.result.now ≡ c.out.new.self =
    c.index_mut-in-Err.ensures.value ∙ ap (λ m. get_or (set (set c.self.inside.places.items (c.from.result - 1) c.out.new.self) (c.from-2.result - 1) c.work.new.self) (m - 1) c.index_mut-in-Err.result.now) n
    ∙ set-apart c.self.inside.places.items c.args.from c.args.to (c.from.result - 1) (c.from-2.result - 1) c.out.new.self c.work.new.self c.index_mut-in-Err.result.now fi.0 there.0 fi.1 c.requires.link.apart in
    subst (λ (q : Place). MayPutBack c.args.to q.out) (sym taken) c.in-Some.ensures.taken

pub invariant_of-self-in-Err : goal.invariant_of-self-in-Err
invariant_of-self-in-Err c =
    let s : SitesState = record { layout = c.self.inside.layout; mark = c.self.inside.mark; places = c.self.inside.places.items; callers = c.self.inside.callers.items } in
    let h = c.self.invariant in
    let l = c.self.inside.layout in
    let a = c.args.from in
    let b = c.args.to in
    let i = c.from.result - 1 in
    let p = c.index_mut.result.now in
    let p' = c.out.new.self in
    let has : has_place c.self.inside.layout c.args.from ≡ true = ap (λ (v : SitesState). has_place v.layout c.args.from) c.self.view_is ∙ c.requires.link.from in
    let has' : has_place c.self.inside.layout c.args.to ≡ true = ap (λ (v : SitesState). has_place v.layout c.args.to) c.self.view_is ∙ c.requires.link.to in
    let fi = stands-at-index c.self.inside.layout c.args.from c.from.result (length c.self.inside.places.items) has c.from.ensures h.all in
    let j = c.from-2.result - 1 in
    let fj = stands-at-index c.self.inside.layout c.args.to c.from-2.result (length c.self.inside.places.items) has' c.from-2.ensures h.all in
    let x = c.index_mut-caller.result.now in
    let k = c.in-Some.packet in
    let r = c.index_mut-2.result.now in
    let found : slice_get c.self.inside.callers.items 0 ≡ Some c.index_mut-caller.result.now = slice_get_read c.self.inside.callers.items _ 0 c.index_mut-caller.result.now refl h.some_seat c.index_mut-caller.ensures.value in
    let some : slice_get (list_to c.args.to c.index_mut.result.now.out.lists) 0 ≡ Some c.in-Some.packet = sym c.out.ensures.value ∙ c.in-Some.is in
    let same : c.in-Err.packet ≡ c.in-Some.packet = c.in-Err.ensures.back in
    let back : c.put_back.new.self.out.lists ≡ with_first c.args.to c.in-Some.packet c.index_mut-in-Err.result.now.out.lists =
    c.put_back.ensures.waits ∙ ap (λ z. with_first c.args.to z c.index_mut-in-Err.result.now.out.lists) same in
    let n : c.from-in-Err.result ≡ c.from.result = c.from-in-Err.ensures ∙ sym c.from.ensures in
    subst (λ m. IsSites (record { layout = c.self.inside.layout; mark = c.self.inside.mark; places = set (set (set c.self.inside.places.items (c.from.result - 1) c.out.new.self) (c.from-2.result - 1) c.work.new.self) (m - 1) c.put_back.new.self; callers = set c.self.inside.callers.items 0 c.work.new.caller })) (sym n)
    (restored-sites s a b i j x p p' h fi.0 fj.0 fi.1 fj.1 c.requires.link.apart c.index_mut.ensures.value found has has' c.out.ensures.state c.out.ensures.waits k r some c.index_mut-2.ensures.value c.work.new.self c.index_mut-in-Err.result.now c.put_back.new.self c.work.new.caller c.in-Err.ensures.refused.0 c.in-Err.ensures.refused.1 c.index_mut-caller.ensures.value (c.index_mut-in-Err.ensures.value ∙ ap (λ m. get_or (set (set c.self.inside.places.items (c.from.result - 1) c.out.new.self) (c.from-2.result - 1) c.work.new.self) (m - 1) c.index_mut-in-Err.result.now) n) c.put_back.ensures.state back)

pub returns-in-Err-clause-refused : goal.returns-in-Err-clause-refused
returns-in-Err-clause-refused c =
    let s : SitesState = record { layout = c.self.inside.layout; mark = c.self.inside.mark; places = c.self.inside.places.items; callers = c.self.inside.callers.items } in
    let h = c.self.invariant in
    let l = c.self.inside.layout in
    let a = c.args.from in
    let b = c.args.to in
    let i = c.from.result - 1 in
    let p = c.index_mut.result.now in
    let p' = c.out.new.self in
    let has : has_place c.self.inside.layout c.args.from ≡ true = ap (λ (v : SitesState). has_place v.layout c.args.from) c.self.view_is ∙ c.requires.link.from in
    let has' : has_place c.self.inside.layout c.args.to ≡ true = ap (λ (v : SitesState). has_place v.layout c.args.to) c.self.view_is ∙ c.requires.link.to in
    let fi = stands-at-index c.self.inside.layout c.args.from c.from.result (length c.self.inside.places.items) has c.from.ensures h.all in
    let j = c.from-2.result - 1 in
    let fj = stands-at-index c.self.inside.layout c.args.to c.from-2.result (length c.self.inside.places.items) has' c.from-2.ensures h.all in
    let x = c.index_mut-caller.result.now in
    let k = c.in-Some.packet in
    let r = c.index_mut-2.result.now in
    let found : slice_get c.self.inside.callers.items 0 ≡ Some c.index_mut-caller.result.now = slice_get_read c.self.inside.callers.items _ 0 c.index_mut-caller.result.now refl h.some_seat c.index_mut-caller.ensures.value in
    let some : slice_get (list_to c.args.to c.index_mut.result.now.out.lists) 0 ≡ Some c.in-Some.packet = sym c.out.ensures.value ∙ c.in-Some.is in
    let same : c.in-Err.packet ≡ c.in-Some.packet = c.in-Err.ensures.back in
    let back : c.put_back.new.self.out.lists ≡ with_first c.args.to c.in-Some.packet c.index_mut-in-Err.result.now.out.lists =
    c.put_back.ensures.waits ∙ ap (λ z. with_first c.args.to z c.index_mut-in-Err.result.now.out.lists) same in
    let n : c.from-in-Err.result ≡ c.from.result = c.from-in-Err.ensures ∙ sym c.from.ensures in
    let moved = ap (λ m. net (record { layout = c.self.inside.layout; mark = c.self.inside.mark; places = set (set (set c.self.inside.places.items (c.from.result - 1) c.out.new.self) (c.from-2.result - 1) c.work.new.self) (m - 1) c.put_back.new.self; callers = set c.self.inside.callers.items 0 c.work.new.caller })) n in
    let ps = c.self.inside.places.items in
    let one = keep-set c.self.inside.places.items (c.from.result - 1) c.index_mut.result.now c.out.new.self c.index_mut.ensures.value c.out.ensures.spare in
    let two = keep-set (set c.self.inside.places.items (c.from.result - 1) c.out.new.self) (c.from-2.result - 1) c.index_mut-2.result.now c.work.new.self c.index_mut-2.ensures.value c.in-Err.ensures.refused.0.spare in
    let three = keep-set (set (set c.self.inside.places.items (c.from.result - 1) c.out.new.self) (c.from-2.result - 1) c.work.new.self) (c.from-in-Err.result - 1) c.index_mut-in-Err.result.now c.put_back.new.self c.index_mut-in-Err.ensures.value c.put_back.ensures.spare in
    let m₁ = length-set c.self.inside.places.items (c.from.result - 1) c.out.new.self in
    let m₂ = length-set (set c.self.inside.places.items (c.from.result - 1) c.out.new.self) (c.from-2.result - 1) c.work.new.self in
    record {
      same = moved ∙ restored-net s a b i j x p p' h fi.0 fj.0 fi.1 fj.1 c.requires.link.apart c.index_mut.ensures.value found has has' c.out.ensures.state c.out.ensures.waits k r some c.index_mut-2.ensures.value c.work.new.self c.index_mut-in-Err.result.now c.put_back.new.self c.work.new.caller c.in-Err.ensures.refused.0 c.in-Err.ensures.refused.1 c.index_mut-caller.ensures.value (c.index_mut-in-Err.ensures.value ∙ ap (λ m. get_or (set (set c.self.inside.places.items (c.from.result - 1) c.out.new.self) (c.from-2.result - 1) c.work.new.self) (m - 1) c.index_mut-in-Err.result.now) n) c.put_back.ensures.state back ∙ ap net c.self.view_is;
      room = subst (λ (v : SitesState). KeepRoom v.places (set (set (set c.self.inside.places.items (c.from.result - 1) c.out.new.self) (c.from-2.result - 1) c.work.new.self) (c.from-in-Err.result - 1) c.put_back.new.self)) c.self.view_is
          (keep-on ps _ _ (sym m₁) one (keep-on _ _ _ (sym m₂) two three));
    }

pub returns-in-Ok-clause-ticks : goal.returns-in-Ok-clause-ticks
returns-in-Ok-clause-ticks c = λ ok.
    let s : SitesState = record { layout = c.self.inside.layout; mark = c.self.inside.mark; places = c.self.inside.places.items; callers = c.self.inside.callers.items } in
    let h = c.self.invariant in
    let l = c.self.inside.layout in
    let a = c.args.from in
    let b = c.args.to in
    let i = c.from.result - 1 in
    let p = c.index_mut.result.now in
    let p' = c.out.new.self in
    let has : has_place c.self.inside.layout c.args.from ≡ true = ap (λ (v : SitesState). has_place v.layout c.args.from) c.self.view_is ∙ c.requires.link.from in
    let has' : has_place c.self.inside.layout c.args.to ≡ true = ap (λ (v : SitesState). has_place v.layout c.args.to) c.self.view_is ∙ c.requires.link.to in
    let fi = stands-at-index c.self.inside.layout c.args.from c.from.result (length c.self.inside.places.items) has c.from.ensures h.all in
    let j = c.from-2.result - 1 in
    let fj = stands-at-index c.self.inside.layout c.args.to c.from-2.result (length c.self.inside.places.items) has' c.from-2.ensures h.all in
    let x = c.index_mut-caller.result.now in
    let k = c.in-Some.packet in
    let r = c.index_mut-2.result.now in
    let found : slice_get c.self.inside.callers.items 0 ≡ Some c.index_mut-caller.result.now = slice_get_read c.self.inside.callers.items _ 0 c.index_mut-caller.result.now refl h.some_seat c.index_mut-caller.ensures.value in
    let some : slice_get (list_to c.args.to c.index_mut.result.now.out.lists) 0 ≡ Some c.in-Some.packet = sym c.out.ensures.value ∙ c.in-Some.is in
    let g = greatest_clock (begun_by (state c.index_mut-2.result.now) c.index_mut-caller.result.now c.in-Some.packet) in
    let below = below-limit c.work.result c.in-Ok.field-0 c.in-Some.packet (greatest_clock (begun_by (state c.index_mut-2.result.now) c.index_mut-caller.result.now c.in-Some.packet)) c.in-Ok.is c.work.ensures.worn in
    let up = risen s a b i j x p p' h fi.0 fj.0 fi.1 fj.1 c.requires.link.apart c.index_mut.ensures.value found has has' c.out.ensures.state c.out.ensures.waits k r some c.index_mut-2.ensures.value c.work.new.self c.work.new.caller c.in-Ok.ensures.worked in
    let old : seat_clock (net c.args.self.now) ≡ c.index_mut-caller.result.now.last = ap (λ (v : SitesState). seat_clock (net v)) (sym c.self.view_is) ∙ ap last_of found in
    let new : last_of (slice_get (set c.self.inside.callers.items 0 c.work.new.caller) 0) ≡ c.work.new.caller.last = ap last_of (slice_get-set c.self.inside.callers.items c.work.new.caller h.some_seat) in
    record { below = omega (arith, below, old); risen = omega (arith, up, old, new) }

pub returns-in_default-clause-room : goal.returns-in_default-clause-room
returns-in_default-clause-room c =
    subst (λ (v : SitesState). UsesRoom (puts_in (Deliver 0 c.args.from c.args.to) (net c.args.self.now)) v.places (set c.self.inside.places.items (c.from.result - 1) c.out.new.self)) c.self.view_is
    (uses-set (puts_in (Deliver 0 c.args.from c.args.to) (net c.args.self.now)) c.self.inside.places.items (c.from.result - 1) c.index_mut.result.now c.out.new.self c.index_mut.ensures.value
    (ap (λ (z : PlaceState). z.number) c.out.ensures.state)
    (let a = c.out.ensures.spare in let b = ap (λ (z : PlaceState). length z.journal) c.out.ensures.state in omega (arith, a, b)))

pub returns-in-Ok-clause-room : goal.returns-in-Ok-clause-room
returns-in-Ok-clause-room c =
    let s : SitesState = record { layout = c.self.inside.layout; mark = c.self.inside.mark; places = c.self.inside.places.items; callers = c.self.inside.callers.items } in
    let h = c.self.invariant in
    let l = c.self.inside.layout in
    let a = c.args.from in
    let b = c.args.to in
    let i = c.from.result - 1 in
    let p = c.index_mut.result.now in
    let p' = c.out.new.self in
    let has : has_place c.self.inside.layout c.args.from ≡ true = ap (λ (v : SitesState). has_place v.layout c.args.from) c.self.view_is ∙ c.requires.link.from in
    let has' : has_place c.self.inside.layout c.args.to ≡ true = ap (λ (v : SitesState). has_place v.layout c.args.to) c.self.view_is ∙ c.requires.link.to in
    let fi = stands-at-index c.self.inside.layout c.args.from c.from.result (length c.self.inside.places.items) has c.from.ensures h.all in
    let j = c.from-2.result - 1 in
    let fj = stands-at-index c.self.inside.layout c.args.to c.from-2.result (length c.self.inside.places.items) has' c.from-2.ensures h.all in
    let x = c.index_mut-caller.result.now in
    let k = c.in-Some.packet in
    let r = c.index_mut-2.result.now in
    let found : slice_get c.self.inside.callers.items 0 ≡ Some c.index_mut-caller.result.now = slice_get_read c.self.inside.callers.items _ 0 c.index_mut-caller.result.now refl h.some_seat c.index_mut-caller.ensures.value in
    let some : slice_get (list_to c.args.to c.index_mut.result.now.out.lists) 0 ≡ Some c.in-Some.packet = sym c.out.ensures.value ∙ c.in-Some.is in
    subst (λ (v : SitesState). UsesRoom (puts_in (Deliver 0 c.args.from c.args.to) (net v)) v.places (set (set c.self.inside.places.items (c.from.result - 1) c.out.new.self) (c.from-2.result - 1) c.work.new.self)) c.self.view_is
    (worked-uses s a b i j x p p' h fi.0 fj.0 fi.1 fj.1 c.requires.link.apart c.index_mut.ensures.value found has has' c.out.ensures.state c.out.ensures.waits k r some c.index_mut-2.ensures.value
    c.work.new.self c.work.new.caller c.in-Ok.ensures.worked c.out.ensures.spare)
