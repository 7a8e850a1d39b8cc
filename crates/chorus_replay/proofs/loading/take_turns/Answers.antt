use Rattle.std.proofs.Common.{◌+◌, ◌-◌, ◌∙◌, ap, sym, subst}
use Rattle.std.proofs.lemmas.Result.{err_from_is_err_and}
use Rattle.law_network.specs.Network.{Act}
use Rattle.law_network.specs.Calls.{delivering}
use Rattle.chorus_net.specs.Sites.{SitesState, net}
use Rattle.chorus_replay.specs.Load.{load_layout, load_order, to_draw}
use Rattle.chorus_replay.specs.Performing.{AreLeft}
use Rattle.chorus_replay.proofs.Loops.{exit, act-unworn, deliver-unworn}
use Rattle.chorus_replay.proofs.LoadTasks.{load-can, behind, turn-next, no-delivery, one-delivery}
use Rattle.chorus_replay.proofs.Stepping.{step-may, deliver-may, step-done, step-worn, act-done, act-worn}
use Rattle.chorus_replay.proofs.loading.take_turns.Goals.{then-from-to+in_ok-deliver, else-from-to}
use Rattle.chorus_replay.proofs.loading.take_turns.Goals as goal

pub act-requires : goal.act-requires
act-requires c =
    let first = c.args.first in
    let commands = c.args.commands in
    let i = c.loop-index.index in
    let d = c.in_ok-seat.field-0 in
    let rest = to_draw (commands - (i + 1)) (i + 1 + 1) c.next_state-state.result in
    let next = turn-next first commands i c.loop-index.state c.next_state-state.result d (net c.loop-index.sites) c.next_state-state.ensures c.in_ok-seat.ensures c.loop-index-test.true c.loop-index.invariant.0 in
    step-may (load-can first commands c.requires.commands) (Act d.seat d.command) (behind d rest) (net c.loop-index.sites) next

pub returns-in_err-act-clause-worn : goal.returns-in_err-act-clause-worn
returns-in_err-act-clause-worn c clock is =
    let first = c.args.first in
    let commands = c.args.commands in
    let i = c.loop-index.index in
    let d = c.in_ok-seat.field-0 in
    let next = turn-next first commands i c.loop-index.state c.next_state-state.result d (net c.loop-index.sites) c.next_state-state.ensures c.in_ok-seat.ensures c.loop-index-test.true c.loop-index.invariant.0 in
    let p = err_from_is_err_and c.from_residual-in_err-act.result c.from_residual-in_err-act.ensures.1 in
    act-worn (load-can first commands c.requires.commands) d.seat d.command _ _ _ clock next c.in_err-act.ensures.refused.same
    ((c.act.ensures.worn clock).0 (exit c.from_residual-in_err-act.result c.act.result _ p.0 _ p.1 p.2 c.in_err-act.was is))

pub deliver-requires : goal.deliver-requires
deliver-requires c =
    let first = c.args.first in
    let commands = c.args.commands in
    let i = c.loop-index.index in
    let d = c.in_ok-seat.field-0 in
    let rest = to_draw (commands - (i + 1)) (i + 1 + 1) c.next_state-state.result in
    let can = load-can first commands c.requires.commands in
    let next = turn-next first commands i c.loop-index.state c.next_state-state.result d (net c.loop-index.sites) c.next_state-state.ensures c.in_ok-seat.ensures c.loop-index-test.true c.loop-index.invariant.0 in
    let acted = act-done can d.seat d.command (behind d rest) _ (net c.act.new.self) next c.in_ok-act.ensures.ok (act-unworn c.act.result c.in_ok-act.field-0 _ c.in_ok-act.was c.act.ensures.worn) in
    let here = subst (λ ts. AreLeft load_layout (load_order first commands) ts (net c.act.new.self)) (one-delivery d rest c.if-from-to.true) acted in
    record { link = deliver-may can d.from d.to rest (net c.act.new.self) here }

pub returns-in_err-deliver-clause-worn : goal.returns-in_err-deliver-clause-worn
returns-in_err-deliver-clause-worn c clock is =
    let first = c.args.first in
    let commands = c.args.commands in
    let i = c.loop-index.index in
    let d = c.in_ok-seat.field-0 in
    let rest = to_draw (commands - (i + 1)) (i + 1 + 1) c.next_state-state.result in
    let can = load-can first commands c.requires.commands in
    let next = turn-next first commands i c.loop-index.state c.next_state-state.result d (net c.loop-index.sites) c.next_state-state.ensures c.in_ok-seat.ensures c.loop-index-test.true c.loop-index.invariant.0 in
    let acted = act-done can d.seat d.command (behind d rest) _ (net c.act.new.self) next c.in_ok-act.ensures.ok (act-unworn c.act.result c.in_ok-act.field-0 _ c.in_ok-act.was c.act.ensures.worn) in
    let here = subst (λ ts. AreLeft load_layout (load_order first commands) ts (net c.act.new.self)) (one-delivery d rest c.if-from-to.true) acted in
    let p = err_from_is_err_and c.from_residual-in_err-deliver.result c.from_residual-in_err-deliver.ensures.1 in
    let worn = (c.deliver.ensures.worn clock).0 (exit c.from_residual-in_err-deliver.result c.deliver.result _ p.0 _ p.1 p.2 c.in_err-deliver.was is) in
    step-worn can (delivering d.from d.to) rest _ _ clock here c.in_err-deliver.ensures.refused.same worn.1 worn.0

pub loop-index-preserved : goal.loop-index-preserved
loop-index-preserved c =
    let first = c.args.first in
    let commands = c.args.commands in
    let i = c.loop-index.index in
    let d = c.in_ok-seat.field-0 in
    let rest = to_draw (commands - (i + 1)) (i + 1 + 1) c.next_state-state.result in
    let can = load-can first commands c.requires.commands in
    let next = turn-next first commands i c.loop-index.state c.next_state-state.result d (net c.loop-index.sites) c.next_state-state.ensures c.in_ok-seat.ensures c.loop-index-test.true c.loop-index.invariant.0 in
    let acted = act-done can d.seat d.command (behind d rest) _ (net c.act.new.self) next c.in_ok-act.ensures.ok (act-unworn c.act.result c.in_ok-act.field-0 _ c.in_ok-act.was c.act.ensures.worn) in
    elim c.if-from-to.branch [
      | then-from-to+in_ok-deliver w ↦
          (let here = subst (λ ts. AreLeft load_layout (load_order first commands) ts (net c.act.new.self)) (one-delivery d rest w.if-from-to.true) acted in
          let done = step-done can (delivering d.from d.to) rest _ (net w.deliver.new.self) here w.in_ok-deliver.ensures.ok (deliver-unworn w.deliver.result w.in_ok-deliver.field-0 _ w.in_ok-deliver.was w.deliver.ensures.worn) (λ past h. tt) in (
            subst (λ s. AreLeft load_layout (load_order first commands) rest (net s)) (sym w.sites-is) done,
            ap (λ (s : SitesState). s.mark) w.sites-is ∙ w.in_ok-deliver.ensures.mark ∙ c.in_ok-act.ensures.mark ∙ c.loop-index.invariant.1,
          ))
      | else-from-to w ↦
          (let here = subst (λ ts. AreLeft load_layout (load_order first commands) ts (net c.act.new.self)) (no-delivery d rest w.if-from-to.false) acted in (
            subst (λ s. AreLeft load_layout (load_order first commands) rest (net s)) (sym w.sites-is) here,
            ap (λ (s : SitesState). s.mark) w.sites-is ∙ c.in_ok-act.ensures.mark ∙ c.loop-index.invariant.1,
          ))
    ]
