use Rattle.std.proofs.Common.{◌<◌, length, set, ◌∙◌, ap, subst, arith}
use Rattle.chorus_net.specs.Room.{KeepRoom}
use Rattle.chorus_net.specs.Sites.{SitesState, net}
use Rattle.chorus_net.proofs.Events.{kept-net, kept-sites, if-ok}
use Rattle.chorus_net.proofs.Rooms.{keep-set, room-set}
use Rattle.chorus_net.proofs.sites.Sites.reserve_at.Goals as goal

pub invariant_of-self : goal.invariant_of-self
invariant_of-self c =
    let s : SitesState = record { layout = c.self.inside.layout; mark = c.self.inside.mark; places = c.self.inside.places.items; callers = c.self.inside.callers.items } in
    let lt : c.args.index < length c.self.inside.places.items = (let r = c.requires in let v = ap (λ (z : SitesState). length z.places) c.self.view_is in omega (arith, r, v)) in
    kept-sites s c.args.index c.index_mut.result.now c.reserve.new.self c.self.invariant lt c.index_mut.ensures.value c.reserve.ensures.same

pub returns-clause-same : goal.returns-clause-same
returns-clause-same c =
    let s : SitesState = record { layout = c.self.inside.layout; mark = c.self.inside.mark; places = c.self.inside.places.items; callers = c.self.inside.callers.items } in
    let lt : c.args.index < length c.self.inside.places.items = (let r = c.requires in let v = ap (λ (z : SitesState). length z.places) c.self.view_is in omega (arith, r, v)) in
    kept-net s c.args.index c.index_mut.result.now c.reserve.new.self c.self.invariant lt c.index_mut.ensures.value c.reserve.ensures.same ∙ ap net c.self.view_is

pub returns-clause-reserved : goal.returns-clause-reserved
returns-clause-reserved c =
    let at = keep-set c.self.inside.places.items c.args.index c.index_mut.result.now c.reserve.new.self c.index_mut.ensures.value c.reserve.ensures.same.spare in
    record {
      place = c.reserve.new.self;
      is = ap (λ (z : SitesState). set z.places c.args.index c.reserve.new.self) c.self.view_is;
      kept = subst (λ (z : SitesState). KeepRoom z.places (set c.self.inside.places.items c.args.index c.reserve.new.self)) c.self.view_is at;
    }

pub returns-clause-room : goal.returns-clause-room
returns-clause-room c = if-ok c.reserve.result _ _ c.reserve.ensures.ok (λ v le. room-set c.args.more c.self.inside.places.items c.args.index c.reserve.new.self le)
