use Rattle.std.proofs.Common.{◌≡◌, Option, List, length, refl, arith, ap, subst, sym, ◌∙◌}
use Rattle.std.specs.List.{All}
use Rattle.chorus_nucleus.specs.Passes.{known}
use Rattle.chorus_crew.specs.declared.fault.CrewFault.TheVariants as faults
use Rattle.chorus_crew.specs.declared.job.Done.{Done}
use Rattle.chorus_crew.specs.Retiring.{IsFullSlot}
use Rattle.chorus_crew.proofs.Handing.{entered-jobs, entered-numbers, entered-count, done-slots, done-count, all-retired, has-folded, ok-folded, ok-unworn, err-folded}
use Rattle.chorus_crew.proofs.Faults.{no-memory, seats-there}
use Rattle.chorus_crew.proofs.crews.run_crew.Goals as goal

pub do_jobs-slots-requires-clause-tools : goal.do_jobs-slots-requires-clause-tools
do_jobs-slots-requires-clause-tools g c κs within =
    let t = c.requires.equipped.tools.tools in
    let len : length c.enter_all.new.jobs.items ≡ length c.args.ports.now = entered-count c.args.nucleus.now 0 (known c.args.pass.now).made c.args.ports.now c.enter_all.new.jobs.items c.in_default.ensures.ok.1 in
    record {
      view_is = t.view_is;
      flavor = t.flavor;
      thief = t.thief;
      rooms = t.rooms;
      empty = t.empty;
      hands = t.hands;
      refused = (t.refused.0, let r = t.refused.1 in omega (arith, r, len));
      slots = t.slots ∙ sym len;
      none = t.none;
    }

pub do_jobs-slots-requires-clause-jobs : goal.do_jobs-slots-requires-clause-jobs
do_jobs-slots-requires-clause-jobs g c κs within =
    entered-jobs c.args.nucleus.now 0 (known c.args.pass.now).made c.args.ports.now c.enter_all.new.jobs.items c.requires.seats.pairs_are.ports c.in_default.ensures.ok.1

pub do_jobs-slots-requires-clause-numbers : goal.do_jobs-slots-requires-clause-numbers
do_jobs-slots-requires-clause-numbers g c κs within =
    entered-numbers c.args.nucleus.now (known c.args.pass.now).made c.args.ports.now c.enter_all.new.jobs.items c.in_default.ensures.ok.1

pub retire_done-all-requires-clause-slots : goal.retire_done-all-requires-clause-slots
retire_done-all-requires-clause-slots g c =
    let n = c.args.nucleus.now in
    let d = c.do_jobs-slots.ensures in
    subst (λ (l : List (Option (Done g.row.F-State.Denot))). All (IsFullSlot n) l) (sym d.1)
    (done-slots (g.F.Fold.way c.args.fold.now) n 0 (known c.args.pass.now).made c.args.ports.now c.enter_all.new.jobs.items d.0 c.in_default.ensures.ok.1 d.2)

pub retire_done-all-requires-clause-room : goal.retire_done-all-requires-clause-room
retire_done-all-requires-clause-room g c =
    let n = c.args.nucleus.now in
    let d = c.do_jobs-slots.ensures in
    let len = entered-count n 0 (known c.args.pass.now).made c.args.ports.now c.enter_all.new.jobs.items c.in_default.ensures.ok.1 in
    let count = done-count (g.F.Fold.way c.args.fold.now) n c.enter_all.new.jobs.items d.0 d.2 in
    let slots = ap length d.1 in
    let room = c.requires.equipped.room.1 in
    (c.requires.equipped.room.0, omega (arith, len, count, slots, room))

pub returns-clause-retired : goal.returns-clause-retired
returns-clause-retired g c =
    let d = c.do_jobs-slots.ensures in
    all-retired (g.F.Fold.way c.args.fold.now) c.args.nucleus.now c.args.ports.now c.enter_all.new.jobs.items d.0 c.args.pass.now c.enter_all.new.pass c.retire_done-all.new.pass
    c.requires.caller.keeper c.in_default.ensures.ok.0 c.in_default.ensures.ok.1 d.2 (c.retire_done-all.ensures.retired d.0 d.1)

pub returns-clause-ok : goal.returns-clause-ok
returns-clause-ok g c =
    let d = c.do_jobs-slots.ensures in
    let k = c.retire_done-all.ensures in
    let way = g.F.Fold.way c.args.fold.now in
    let n = c.args.nucleus.now in
    ok-folded way n c.args.ports.now d.0 c.args.pass.now c.retire_done-all.new.pass c.retire_done-all.new.folded c.retire_done-all.result c.worn.result c.answer.result c.answer.ensures.ok (k.folded d.0 d.1) (k.done d.0 d.1)
    (has-folded way n c.args.ports.now c.enter_all.new.jobs.items d.0 c.args.pass.now c.enter_all.new.pass c.retire_done-all.new.pass c.retire_done-all.new.folded.items
    c.in_default.ensures.ok.0 c.in_default.ensures.ok.1 c.in_default.ensures.ok.2 d.2 (k.retired d.0 d.1) (k.folded d.0 d.1))

pub returns-clause-stopped : goal.returns-clause-stopped
returns-clause-stopped g c =
    let d = c.do_jobs-slots.ensures in
    let k = c.retire_done-all.ensures in
    let way = g.F.Fold.way c.args.fold.now in
    let n = c.args.nucleus.now in
    err-folded way n c.args.ports.now d.0 c.args.pass.now c.retire_done-all.new.pass c.retire_done-all.new.folded c.retire_done-all.result c.worn.result c.answer.result (sym c.worn.ensures) c.answer.ensures.stopped c.answer.ensures.cause (k.folded d.0 d.1) (k.done d.0 d.1)
    (has-folded way n c.args.ports.now c.enter_all.new.jobs.items d.0 c.args.pass.now c.enter_all.new.pass c.retire_done-all.new.pass c.retire_done-all.new.folded.items
    c.in_default.ensures.ok.0 c.in_default.ensures.ok.1 c.in_default.ensures.ok.2 d.2 (k.retired d.0 d.1) (k.folded d.0 d.1))

pub returns-clause-unworn : goal.returns-clause-unworn
returns-clause-unworn g c = ok-unworn _ c.worn.result c.retire_done-all.new.folded c.retire_done-all.result c.answer.result c.answer.ensures.ok (sym c.worn.ensures)

pub returns-in-Err-clause-faults : goal.returns-in-Err-clause-faults
returns-in-Err-clause-faults g c =
    no-memory _ _ (faults.Memory c.in-Err.fault) c.in-Err.fault c.args.pass.now c.enter_all.new.pass (λ e h. h) refl c.requires.seats.seats

pub returns-clause-faults : goal.returns-clause-faults
returns-clause-faults g c = seats-there _ _ c.args.pass.now c.retire_done-all.new.pass c.requires.seats.seats (λ clock is. sym c.worn.ensures ∙ c.answer.ensures.worn clock is) c.answer.ensures.no_seat
