use Rattle.std.proofs.Common.{◌+◌, ◌-◌, arith}
use Rattle.chorus_nucleus.specs.Passes.{known}
use Rattle.chorus_run.specs.DrawnCrew.Sends.{sendings}
use Rattle.chorus_run.specs.DrawnCrew.Filling.{commands_of, sends_of}
use Rattle.chorus_run.proofs.DrawnCrew.Sent.{all-sent, leads-begin, leads-end, leads-send, none-sent, one-post, same-self, same-then}
use Rattle.chorus_run.proofs.drawn_crew.filling.send_all.Goals as goal

pub loop-index-init : goal.loop-index-init
loop-index-init g c = record {
  pass = c.requires.pass;
  same = same-self (known c.args.pass.now);
  posts = omega (arith, c.requires.posts);
  leads = leads-begin (commands_of (sendings (c.args.commands - 0) 1 c.args.first)) (sends_of c.args.first c.args.commands) c.args.pass.now (all-sent (c.args.commands - 0) c.args.commands 1 c.args.first (omega arith));
}

pub send_drawn-requires-clause-posts : goal.send_drawn-requires-clause-posts
send_drawn-requires-clause-posts g c = omega (arith, c.loop-index.invariant.posts, c.loop-index-test.true, c.requires.commands)

pub returns-in_err-send_drawn-clause-same : goal.returns-in_err-send_drawn-clause-same
returns-in_err-send_drawn-clause-same g c =
    same-then (known c.args.pass.now) (known c.loop-index.pass) (known c.send_drawn.new.pass) c.loop-index.invariant.same c.send_drawn.ensures.same

pub loop-index-preserved : goal.loop-index-preserved
loop-index-preserved g c =
    let posts = c.loop-index.invariant.posts in
    let more = one-post c.site_drawn.result (c.loop-index.index + 1) c.loop-index.pass c.send_drawn.new.pass c.in_ok-send_drawn.ensures.ok in
    record {
      pass = c.send_drawn.ensures.pass;
      same = same-then (known c.args.pass.now) (known c.loop-index.pass) (known c.send_drawn.new.pass) c.loop-index.invariant.same c.send_drawn.ensures.same;
      posts = omega (arith, posts, more);
      leads =
          leads-send (c.args.commands - c.loop-index.index) (c.args.commands - (c.loop-index.index + 1)) (c.loop-index.index + 1) c.loop-index.state c.next_state-state.result c.site_drawn.result (sends_of c.args.first c.args.commands)
          c.args.pass.now c.loop-index.pass c.send_drawn.new.pass (omega (arith, c.loop-index-test.true)) c.next_state-state.ensures c.site_drawn.ensures.value c.loop-index.invariant.leads c.in_ok-send_drawn.ensures.ok;
    }

pub returns-clause-same : goal.returns-clause-same
returns-clause-same g c = c.loop-index.invariant.same

pub returns-clause-ok : goal.returns-clause-ok
returns-clause-ok g c =
    leads-end (commands_of (sendings (c.args.commands - c.loop-index.index) (c.loop-index.index + 1) c.loop-index.state)) (sends_of c.args.first c.args.commands) c.args.pass.now c.loop-index.pass
    (none-sent (c.args.commands - c.loop-index.index) (c.loop-index.index + 1) c.loop-index.state (omega (arith, c.loop-index-test.false))) c.loop-index.invariant.leads
