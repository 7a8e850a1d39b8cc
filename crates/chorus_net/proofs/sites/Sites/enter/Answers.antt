use Rattle.std.proofs.Common.{◌≡◌, ◌≢◌, get_or, List, [], ◌∷◌, ◌++◌, length, is_some, not, true, slice_get, refl, sym, ◌∙◌, ap, arith}
use Rattle.std.proofs.lemmas.Bool.{and_from}
use Rattle.std.proofs.lemmas.List.{length_push}
use Rattle.std.proofs.lemmas.Option.{slice_get_read}
use Rattle.chorus_ui.specs.Layout.{has_actor, creation_place}
use Rattle.chorus_ui.specs.NameKind.{is_actor}
use Rattle.chorus_calls.specs.Callers.{Seated, new_caller}
use Rattle.law_network.specs.Calls.{entering, last_of}
use Rattle.chorus_net.specs.Sites.{SitesState, net}
use Rattle.chorus_net.proofs.Events.{next-event, has-home}
use Rattle.chorus_net.proofs.sites.Sites.enter.Goals as goal

pub invariant_of-self-2 : goal.invariant_of-self-2
invariant_of-self-2 c =
    let i = c.self.invariant in
    let l = c.self.inside.layout in
    let cs = c.self.inside.callers.items in
    let s : SitesState = record { layout = c.self.inside.layout; mark = c.self.inside.mark; places = c.self.inside.places.items; callers = c.self.inside.callers.items } in
    let kept : c.reserve.new.self.items ≡ c.self.inside.callers.items = c.reserve.ensures.items in
    let made : c.seats-made.result ≡ length c.self.inside.callers.items = (let a = c.seats-made.ensures in let b = ap (λ (v : SitesState). length v.callers) c.self.view_is in omega (arith, a, b)) in
    let last : c.last-last.result ≡ last_of (slice_get c.self.inside.callers.items 0) =
    c.last-last.ensures ∙ sym (ap last_of (slice_get_read c.self.inside.callers.items _ 0 c.index.result.now refl i.some_seat (c.index.ensures ∙ ap (λ xs. get_or xs 0 c.index.result.now) kept))) in
    let actor : has_actor c.self.inside.layout c.args.actor ≡ true =
    has-home (has_actor l c.args.actor) (creation_place l c.args.actor) (sym (ap is_some c.home.ensures.value) ∙ c.is_none.ensures ∙ ap not c.if-is_none.false) in
    let callers : c.push_reserved.new.self.items ≡ c.self.inside.callers.items ++ new_caller (length c.self.inside.callers.items) c.args.actor (last_of (slice_get c.self.inside.callers.items 0)) ∷ [] =
    c.push_reserved.ensures.items ∙ ap (λ xs. xs ++ c.new.result ∷ []) kept
    ∙ ap (λ x. c.self.inside.callers.items ++ x ∷ []) (c.new.ensures ∙ ap (λ n. new_caller n c.args.actor c.last-last.result) made ∙ ap (λ n. new_caller (length c.self.inside.callers.items) c.args.actor n) last) in
    let count = ap (λ (xs : List Seated). length xs) callers ∙ length_push c.self.inside.callers.items _ in
    let full : c.seats-made.result ≢ 1048576 = c.if-made-eq-SEATS_LIMIT.false in
    let few = i.few_seats in
    record {
      shape = i.shape;
      places = i.places;
      all = i.all;
      scheduled = next-event l (net s) _ (entering c.args.actor (net s)) i.scheduled (and_from (is_actor c.args.actor) (has_actor l c.args.actor) c.requires actor)
          (λ j. record { layout = c.self.inside.layout; places = (net s).places; packets = (net s).packets; callers = callers j });
      some_seat = omega (arith, count);
      few_seats = omega (arith, count, full, few, made);
    }
