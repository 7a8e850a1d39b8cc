use Rattle.std.proofs.Common.{◌≡◌, ap, sym, ◌∙◌, reverse}
use Rattle.chorus_world.specs.Posts.{post_of}
use Rattle.chorus_world.specs.SenderLaws.{route_of}
use Rattle.chorus_world.specs.Steps.{State}
use Rattle.judge_promises.specs.Steps.{route_in}
use Rattle.judge_promises.specs.Terms.{is_above, latest, read}
use Rattle.judge_promises.proofs.Ties.{brief-route}
use Rattle.judge_promises.proofs.log.Log.is_in_order.Goals as goal

pub returns : goal.returns
returns c =
    let x = c.args.id in
    let q = c.args.port in
    let past = read c.args.self.now.past in
    let inside = read (reverse c.self.inside.entries.items) in
    let route : c.route_in-route.result ≡ route_of x past = c.route_in-route.ensures ∙ (ap route_in c.post_of.ensures ∙ brief-route (post_of x past)) in
    c.is_above.ensures
    ∙ ap (is_above x.number) (
    c.self.invariant.1.routes (record { port = q; seat = x.seat; route = c.route_in-route.result })
    ∙ (ap (λ r. latest q x.seat r inside) route
    ∙ ap (λ (w : State). latest q x.seat (route_of x past) (read w.past)) c.self.view_is)
    )
