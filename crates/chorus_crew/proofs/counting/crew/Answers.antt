use Rattle.std.proofs.Common.{◌≡◌, ℕ, List, [], ◌++◌, inl, length, map, refl, ap, ◌∙◌, arith}
use Rattle.chorus_crew.specs.declared.folding.Folded.{Folded}
use Rattle.chorus_crew.specs.declared.handler.Handled.{Handled}
use Rattle.chorus_crew.specs.Counting.{handled_from}
use Rattle.chorus_crew.specs.Handling.{adding}
use Rattle.chorus_crew.specs.Crews.{HasStoppedAdding}
use Rattle.chorus_crew.proofs.Adding.{has-handled, folded-count, on-err, told-faults}
use Rattle.chorus_crew.proofs.Handing.{retired-none, took-nothing}
use Rattle.chorus_crew.proofs.counting.crew.Goals as goal

pub returns-in_err-seats_for-clause-retired : goal.returns-in_err-seats_for-clause-retired
returns-in_err-seats_for-clause-retired g c = retired-none c.args.nucleus.now c.args.pass.now c.requires.caller.pass c.requires.caller.keeper

pub returns-in_err-seats_for-clause-stopped : goal.returns-in_err-seats_for-clause-stopped
returns-in_err-seats_for-clause-stopped g c =
    on-err c.from_residual.result (HasStoppedAdding (g.H.Handler.value c.args.handler.now) c.args.nucleus.now c.args.ports.now c.args.pass.now c.args.pass.now)
    ([], inl (refl, took-nothing c.args.pass.now))

pub returns-in_default-clause-retired : goal.returns-in_default-clause-retired
returns-in_default-clause-retired g c = retired-none c.args.nucleus.now c.args.pass.now c.requires.caller.pass c.requires.caller.keeper

pub count_all-requires : goal.count_all-requires
count_all-requires g c =
    let none : length c.in-Ok.handled.items ≡ 0 = ap (λ (xs : List Handled). length xs) c.in-Ok.ensures.items in
    let same = ap (λ (xs : List (Folded ℕ)). length xs) c.deref.ensures.value in
    let count = folded-count (adding (g.H.Handler.value c.args.handler.now)) c.args.nucleus.now c.args.ports.now c.in-Ok-crew_with.folded.items c.args.pass.now c.crew_with.new.pass c.in-Ok-crew_with.ensures.ok.0 in
    let room = c.in-Ok.ensures.capacity in
    omega (arith, none, same, count, room)

pub returns-in-Ok-crew_with-clause-ok : goal.returns-in-Ok-crew_with-clause-ok
returns-in-Ok-crew_with-clause-ok g c =
    has-handled (g.H.Handler.value c.args.handler.now) c.args.nucleus.now c.args.ports.now c.in-Ok-crew_with.folded.items c.count_all.new.handled.items c.args.pass.now c.crew_with.new.pass
    (c.count_all.ensures ∙ ap (λ (xs : List Handled). xs ++ map handled_from c.deref.result.now) c.in-Ok.ensures.items ∙ ap (λ (xs : List (Folded ℕ)). map handled_from xs) c.deref.ensures.value)
    c.in-Ok-crew_with.ensures.ok

pub returns-in-Err-clause-faults : goal.returns-in-Err-clause-faults
returns-in-Err-clause-faults g c = told-faults c.in-Err.unfinished (length c.args.ports.now) c.args.pass.now c.crew_with.new.pass c.in-Err.ensures.faults
