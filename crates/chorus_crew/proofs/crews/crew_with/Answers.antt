use Rattle.std.proofs.Common.{◌∙◌}
use Rattle.chorus_nucleus.specs.Passes.{layout_of}
use Rattle.chorus_crew.proofs.Asked.{pairs_are}
use Rattle.chorus_crew.proofs.Faults.{no-seats, no-memory}
use Rattle.chorus_crew.proofs.Handing.{retired-none}
use Rattle.chorus_crew.proofs.crews.crew_with.Goals as goal

pub run_crew-requires-clause-seats : goal.run_crew-requires-clause-seats
run_crew-requires-clause-seats g c κs within = record { pairs_are = pairs_are (layout_of c.args.nucleus.now) c.args.ports.now c.requires.ports; seats = c.in_default.ensures.ok }

pub returns-in-Err-clause-retired : goal.returns-in-Err-clause-retired
returns-in-Err-clause-retired g c = retired-none c.args.nucleus.now c.args.pass.now c.requires.caller.pass c.requires.caller.keeper

pub returns-in_default-tools_for-clause-retired : goal.returns-in_default-tools_for-clause-retired
returns-in_default-tools_for-clause-retired g c = retired-none c.args.nucleus.now c.args.pass.now c.requires.caller.pass c.requires.caller.keeper

pub returns-in_default-with_capacity-clause-retired : goal.returns-in_default-with_capacity-clause-retired
returns-in_default-with_capacity-clause-retired g c = retired-none c.args.nucleus.now c.args.pass.now c.requires.caller.pass c.requires.caller.keeper

pub returns-in-Err-clause-faults : goal.returns-in-Err-clause-faults
returns-in-Err-clause-faults g c =
    no-seats _ _ _ c.args.pass.now (λ e. ((λ h. h), λ h. h)) (c.not_begun.ensures.fault ∙ c.in-Err.ensures.no_seat.0) c.in-Err.ensures.no_seat.1

pub returns-in_default-tools_for-clause-faults : goal.returns-in_default-tools_for-clause-faults
returns-in_default-tools_for-clause-faults g c = no-memory _ _ _ _ c.args.pass.now c.args.pass.now (λ e h. h) c.not_begun-in_default-tools_for.ensures.fault c.in_default.ensures.ok

pub returns-in_default-with_capacity-clause-faults : goal.returns-in_default-with_capacity-clause-faults
returns-in_default-with_capacity-clause-faults g c = no-memory _ _ _ _ c.args.pass.now c.args.pass.now (λ e h. h) c.not_begun-in_default-with_capacity.ensures.fault c.in_default.ensures.ok
