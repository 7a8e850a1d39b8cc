use Rattle.std.proofs.Common.{◌≡◌, ◌+◌, List, suc, length, take, refl, sym, ◌∙◌, ap, subst, arith}
use Rattle.std.proofs.lemmas.List.{length-set}
use Rattle.chorus_place.specs.Calls.{Place}
use Rattle.chorus_net.specs.Room.{HaveRoom}
use Rattle.chorus_net.specs.Sites.{SitesState}
use Rattle.chorus_net.proofs.Rooms.{keep-self, keep-on, room-on, room-before}
use Rattle.chorus_net.proofs.sites.Sites.reserve.Goals as goal

pub loop-index-init : goal.loop-index-init
loop-index-init c =
    let a = c.len-count.ensures in
    let o = c.self.inside.places.ok in
    let v = ap (λ (z : SitesState). length z.places) c.self.view_is in
    record { same = refl; layout = refl; mark = refl; all = omega (arith, a, o, v); first = omega (arith, a, o, v); most = omega arith; room = tt; kept = keep-self c.args.self.now.places }

pub returns-in_err-reserve_at-clause-kept : goal.returns-in_err-reserve_at-clause-kept
returns-in_err-reserve_at-clause-kept c =
    let i = c.loop-index.invariant in
    keep-on c.args.self.now.places c.loop-index.self.places c.reserve_at.new.self.places (i.first ∙ sym i.all) i.kept c.reserve_at.ensures.reserved.kept

pub loop-index-preserved : goal.loop-index-preserved
loop-index-preserved c =
    let i = c.loop-index.invariant in
    let r = c.reserve_at.ensures.reserved in
    let t = c.loop-index-test.true in
    let q = c.reserve_at.ensures.reserved.place in
    let n = c.reserve_at.new.self.places in
    let before : HaveRoom c.args.more (take c.loop-index.index c.reserve_at.new.self.places) =
    subst (λ (ps : List Place). HaveRoom c.args.more (take c.loop-index.index ps)) (sym r.is) (room-before c.args.more c.loop-index.index c.loop-index.self.places q i.room) in
    let e : suc c.loop-index.index ≡ c.loop-index.index + 1 = omega arith in
    record {
      same = c.reserve_at.ensures.same ∙ i.same;
      layout = c.reserve_at.ensures.layout ∙ i.layout;
      mark = c.reserve_at.ensures.mark ∙ i.mark;
      all = ap (λ (ps : List Place). length ps) r.is ∙ length-set c.loop-index.self.places c.loop-index.index q ∙ i.all;
      first = i.first;
      most = omega (arith, t);
      room = subst (λ k. HaveRoom c.args.more (take k c.reserve_at.new.self.places)) e (room-on c.args.more c.loop-index.index n before c.in_ok-reserve_at.ensures.room);
      kept = keep-on c.args.self.now.places c.loop-index.self.places c.reserve_at.new.self.places (i.first ∙ sym i.all) i.kept r.kept;
    }
