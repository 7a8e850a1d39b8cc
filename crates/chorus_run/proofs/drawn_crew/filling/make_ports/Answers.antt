use Rattle.std.proofs.Common.{◌≡◌, ◌+◌, ◌-◌, ◌∙◌, false, true, ap, refl, sym, arith}
use Rattle.chorus_entry.specs.Command.{is_post, meets_conditions}
use Rattle.chorus_nucleus.specs.Passes.{known}
use Rattle.chorus_run.specs.declared.drawn_crew.names.TheConstants.{CREW_PORTS}
use Rattle.chorus_run.specs.DrawnCrew.Filling.{makes}
use Rattle.chorus_run.proofs.DrawnCrew.Sent.{leads-begin, leads-end, leads-make, same-self, same-then}
use Rattle.chorus_run.proofs.drawn_crew.filling.make_ports.Goals as goal

pub loop-index-init : goal.loop-index-init
loop-index-init g c = record {
  pass = c.requires.pass;
  same = same-self (known c.args.pass.now);
  leads = leads-begin (makes CREW_PORTS 1) (makes CREW_PORTS 1) c.args.pass.now refl;
}

pub perform_command-requires-clause-conditions : goal.perform_command-requires-clause-conditions
perform_command-requires-clause-conditions g c = ap meets_conditions c.make_port.ensures

pub perform_command-requires-clause-posts : goal.perform_command-requires-clause-posts
perform_command-requires-clause-posts g c is = absurd (let bad : false ≡ true = sym (ap is_post c.make_port.ensures) ∙ is in cc)

pub returns-in_err-perform_command-clause-same : goal.returns-in_err-perform_command-clause-same
returns-in_err-perform_command-clause-same g c =
    same-then (known c.args.pass.now) (known c.loop-index.pass) (known c.perform_command.new.pass) c.loop-index.invariant.same c.in_err-perform_command.ensures.err.same

pub loop-index-preserved : goal.loop-index-preserved
loop-index-preserved g c = record {
  pass = c.perform_command.ensures.pass;
  same = same-then (known c.args.pass.now) (known c.loop-index.pass) (known c.perform_command.new.pass) c.loop-index.invariant.same c.in_ok-perform_command.ensures.ok.same;
  leads =
      leads-make (CREW_PORTS - c.loop-index.index) (CREW_PORTS - (c.loop-index.index + 1)) (c.loop-index.index + 1) (makes CREW_PORTS 1) c.args.pass.now c.loop-index.pass c.perform_command.new.pass c.make_port.result
      (omega (arith, c.loop-index-test.true)) c.make_port.ensures c.loop-index.invariant.leads c.in_ok-perform_command.ensures.ok;
}

pub returns-clause-same : goal.returns-clause-same
returns-clause-same g c = c.loop-index.invariant.same

pub returns-clause-ok : goal.returns-clause-ok
returns-clause-ok g c =
    leads-end (makes (CREW_PORTS - c.loop-index.index) (c.loop-index.index + 1)) (makes CREW_PORTS 1) c.args.pass.now c.loop-index.pass
    (ap (λ n. makes n (c.loop-index.index + 1)) (let none : CREW_PORTS - c.loop-index.index ≡ 0 = omega (arith, c.loop-index-test.false) in none)) c.loop-index.invariant.leads
