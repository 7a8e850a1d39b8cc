use Rattle.std.proofs.Common.{◌≡◌, List, [], ◌∷◌, ◌++◌, length, true, refl, sym, ◌∙◌, ap, arith}
use Rattle.std.proofs.lemmas.Bool.{and_from}
use Rattle.std.proofs.lemmas.Option.{same_Some}
use Rattle.chorus_ui.specs.declared.ui.Ui.{Ui}
use Rattle.chorus_ui.specs.Layout.{has_actor, places}
use Rattle.chorus_calls.specs.Callers.{Seated, new_caller}
use Rattle.law_network.specs.Calls.{starting, first_actor}
use Rattle.chorus_net.proofs.Events.{first-may}
use Rattle.chorus_net.proofs.Fresh.{are-places, none-waiting, all-started}
use Rattle.chorus_net.proofs.sites.Sites.of.Goals as goal

pub returns : goal.returns
returns c =
    let ps = c.args.places.items in
    let l = c.args.layout in
    let actor : first_actor ≡ c.unwrap-actor.result = same_Some first_actor c.unwrap-actor.result (sym c.new.ensures.value ∙ c.unwrap-actor.ensures) in
    let callers : c.push.new.self.items ≡ new_caller 0 first_actor 0 ∷ [] =
    c.in_ok-push.ensures.items ∙ ap (λ cs. cs ++ c.new-2.result ∷ []) c.requires.nobody ∙ ap (λ x. x ∷ []) (c.new-2.ensures ∙ ap (λ (a : Ui). new_caller 0 a 0) (sym actor)) in
    let here = all-started l 1 (places l) ps c.requires.started c.requires.all in
    let none = none-waiting l 1 ps c.requires.started in
    λ j. record { layout = c.args.layout; places = here j; packets = none j; callers = callers j }

pub invariant_of-result : goal.invariant_of-result
invariant_of-result c =
    let ps = c.args.places.items in
    let l = c.args.layout in
    let actor : first_actor ≡ c.unwrap-actor.result = same_Some first_actor c.unwrap-actor.result (sym c.new.ensures.value ∙ c.unwrap-actor.ensures) in
    let callers : c.push.new.self.items ≡ new_caller 0 first_actor 0 ∷ [] =
    c.in_ok-push.ensures.items ∙ ap (λ cs. cs ++ c.new-2.result ∷ []) c.requires.nobody ∙ ap (λ x. x ∷ []) (c.new-2.ensures ∙ ap (λ (a : Ui). new_caller 0 a 0) (sym actor)) in
    let here = all-started l 1 (places l) ps c.requires.started c.requires.all in
    let none = none-waiting l 1 ps c.requires.started in
    let count = ap (λ (cs : List Seated). length cs) callers in
    record {
      shape = c.requires.shape;
      places = are-places l 1 ps c.requires.started;
      all = c.requires.all;
      scheduled = record {
        events = starting ∷ [];
        may = and_from (has_actor l first_actor) true (first-may l c.requires.shape) refl;
        is = λ j. record { layout = l; places = here j; packets = none j; callers = callers j };
      };
      some_seat = omega (arith, count);
      few_seats = omega (arith, count);
    }
