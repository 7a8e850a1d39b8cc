use Rattle.std.proofs.Common.{◌∙◌, ap, arith, subst}
use Rattle.chorus_turn.specs.declared.knowledge.Knowledge.{Knowledge}
use Rattle.law_closing.specs.Places.{PlaceNote}
use Rattle.chorus_nucleus.specs.Passes.{known}
use Rattle.chorus_nucleus.specs.Calls.{gave}
use Rattle.chorus_sessions.specs.Playing.{IsNewSession}
use Rattle.chorus_sessions.proofs.Playing.{come-next}
use Rattle.chorus_sessions.proofs.Comings.{came}
use Rattle.chorus_sessions.proofs.coming.enter_all.Goals as goal

pub loop-index-preserved : goal.loop-index-preserved
loop-index-preserved g c =
    let i = c.loop-index.invariant in
    let more = came c.args.nucleus.now c.in-Ok.session c.loop-index.pass c.enter_one.new.pass c.loop-index.sessions.items c.push_reserved.new.self.items i.1 c.in-Ok.ensures.drawn i.2 c.in-Ok.ensures.session c.push_reserved.ensures.items in
    let longer = more.2 in
    let count = i.3 in
    let room = i.4 in
    let cap = c.push_reserved.ensures.capacity in (
      c.enter_one.ensures.pass,
      more.0,
      more.1,
      omega (arith, longer, count),
      omega (arith, room, cap),
      ap (λ (v : Knowledge PlaceNote). gave v) c.in-Ok.ensures.drawn ∙ i.5,
      come-next g.B.Behaviour.in_actor c.args.nucleus.now c.args.behaviours.now c.loop-index.index (known c.loop-index.pass).made _ _ c.loop-index.sessions.items c.push_reserved.new.self.items c.in-Ok.session
          c.loop-index-test.true c.index-behaviours-index.is i.6 (let made = i.1.drawn_is in omega (arith, made, count)) (subst (λ a. IsNewSession c.args.nucleus.now a (known c.loop-index.pass).made c.in-Ok.session) c.actor.ensures c.in-Ok.ensures.new) c.push_reserved.ensures.items,
    )
