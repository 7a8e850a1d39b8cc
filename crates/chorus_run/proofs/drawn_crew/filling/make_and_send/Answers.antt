use Rattle.std.proofs.Common.{arith}
use Rattle.chorus_nucleus.specs.Passes.{known}
use Rattle.chorus_perform.proofs.Steps.{goes-then}
use Rattle.chorus_run.specs.declared.drawn_crew.names.TheConstants.{CREW_PORTS}
use Rattle.chorus_run.specs.DrawnCrew.Filling.{makes, sends_of}
use Rattle.chorus_run.proofs.DrawnCrew.Sent.{ok-so, same-then}
use Rattle.chorus_run.proofs.drawn_crew.filling.make_and_send.Goals as goal

pub send_all-requires-clause-posts : goal.send_all-requires-clause-posts
send_all-requires-clause-posts g c = let none = c.requires.posts in let few = c.in_ok-make_ports.ensures.ok.posts in omega (arith, none, few)

pub returns-clause-same : goal.returns-clause-same
returns-clause-same g c = same-then (known c.args.pass.now) (known c.make_ports.new.pass) (known c.send_all.new.pass) c.make_ports.ensures.same c.send_all.ensures.same

pub returns-clause-ok : goal.returns-clause-ok
returns-clause-ok g c =
    ok-so c.send_all.result _ _ (goes-then (makes CREW_PORTS 1) (sends_of c.args.first c.args.commands) c.args.pass.now c.make_ports.new.pass c.send_all.new.pass c.in_ok-make_ports.ensures.ok) c.send_all.ensures.ok
