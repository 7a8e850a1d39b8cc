use Rattle.std.specs.List.{All}
use Rattle.std.proofs.Common.{◌≡◌, ◌≤◌, ◌+◌, ◌++◌, true, List, [], ◌∷◌, take, arith, ap, subst, sym}
use Rattle.std.proofs.lemmas.List.Elements.{All-get_or, All-nil, All-push}
use Rattle.chorus_ui.specs.declared.ui.Ui.{Ui}
use Rattle.chorus_calls.specs.Callers.{Seated}
use Rattle.chorus_turn.specs.declared.knowledge.Knowledge.{Knowledge}
use Rattle.law_closing.specs.Places.{PlaceNote}
use Rattle.chorus_ui.specs.Layout.{has_actor}
use Rattle.chorus_ui.specs.NameKind.{is_actor}
use Rattle.chorus_nucleus.specs.Passes.{caller_of, known, layout_of}
use Rattle.chorus_crew.specs.declared.job.Job.{Job}
use Rattle.chorus_crew.specs.Jobs.{AreEntered, BeginAt}
use Rattle.chorus_crew.proofs.Handing.{entered-count, undone-nothing}
use Rattle.chorus_crew.proofs.Entered.{drawn-none, drawn-more, drawn-same, entered-next, entered-plain, take-length, undone}
use Rattle.chorus_crew.proofs.making_jobs.enter_all.Goals as goal

pub loop-index-init : goal.loop-index-init
loop-index-init c = record {
  drawn = drawn-none c.args.nucleus.now c.args.pass.now c.requires.pass;
  entered = subst (λ (l : List Job). AreEntered c.args.nucleus.now 0 (known c.args.pass.now).made [] l) (sym c.requires.room.0) tt;
  later = subst (λ (l : List Job). BeginAt (caller_of c.args.pass.now).last l) (sym c.requires.room.0) (All-nil (λ (j : Job). (caller_of c.args.pass.now).last ≤ (caller_of j.pass).last));
  room = c.requires.room.1;
}

pub enter_one-requires-clause-actor : goal.enter_one-requires-clause-actor
enter_one-requires-clause-actor c =
    let P = λ (p : Ui × Ui). (is_actor p.1 ≡ true) × (has_actor (layout_of c.args.nucleus.now) p.1 ≡ true) in
    subst P (sym c.index-ports-index.is) (All-get_or P c.args.ports.now c.loop-index.index c.index-ports-index.result c.loop-index-test.true c.requires.actors)

pub push_reserved-requires : goal.push_reserved-requires
push_reserved-requires c =
    let i = c.loop-index.invariant in
    let small = c.loop-index-test.true in
    let count = entered-count c.args.nucleus.now 0 (known c.args.pass.now).made (take c.loop-index.index c.args.ports.now) c.loop-index.jobs.items i.entered in
    let len = take-length c.args.ports.now c.loop-index.index (omega (arith, small)) in
    let room = i.room in
    omega (arith, small, count, len, room)

pub retire_jobs-requires-clause-jobs : goal.retire_jobs-requires-clause-jobs
retire_jobs-requires-clause-jobs c = entered-plain c.args.nucleus.now 0 (known c.args.pass.now).made (take c.loop-index.index c.args.ports.now) c.loop-index.jobs.items c.loop-index.invariant.entered

pub returns-in-Err-clause-retired : goal.returns-in-Err-clause-retired
returns-in-Err-clause-retired c =
    let n = c.args.nucleus.now in
    let i = c.loop-index.invariant in
    let small = c.loop-index-test.true in
    undone n c.loop-index.index (take c.loop-index.index c.args.ports.now) c.loop-index.jobs.items c.args.pass.now c.enter_one.new.pass c.retire_jobs.new.pass c.requires.keeper
    (take-length c.args.ports.now c.loop-index.index (omega (arith, small))) i.entered
    (drawn-same n c.loop-index.index c.args.pass.now c.loop-index.pass c.enter_one.new.pass i.drawn c.enter_one.ensures.kept c.in-Err.ensures.refused) c.retire_jobs.ensures

pub loop-index-preserved : goal.loop-index-preserved
loop-index-preserved c =
    let i = c.loop-index.invariant in
    let n = c.args.nucleus.now in
    let e = c.in-Ok.ensures.ok in
    let items : c.push_reserved.new.self.items ≡ c.loop-index.jobs.items ++ c.in-Ok.job ∷ [] = c.push_reserved.ensures.items in
    record {
      drawn = drawn-more n c.loop-index.index c.args.pass.now c.loop-index.pass c.enter_one.new.pass i.drawn c.enter_one.ensures.kept e.1;
      entered = subst (λ (l : List Job). AreEntered n 0 (known c.args.pass.now).made (take (c.loop-index.index + 1) c.args.ports.now) l) (sym items)
          (entered-next n (known c.args.pass.now).made c.loop-index.index (known c.loop-index.pass).made c.args.ports.now c.index-ports-index.result c.index-ports-index.result c.loop-index.jobs.items c.in-Ok.job
          c.loop-index-test.true c.index-ports-index.is (ap (λ (v : Knowledge PlaceNote). v.made) i.drawn.knows) i.entered e.0);
      later =
          let B = λ (j : Job). (caller_of c.args.pass.now).last ≤ (caller_of j.pass).last in
          let same = ap (λ (w : Seated). w.last) i.drawn.caller in
          let last = c.in-Ok.ensures.last in
          subst (All B) (sym items) (All-push B c.loop-index.jobs.items c.in-Ok.job i.later (omega (arith, same, last)));
      room = let r = i.room in let m = c.push_reserved.ensures.capacity in omega (arith, r, m);
    }

pub returns-in-Err-clause-nothing : goal.returns-in-Err-clause-nothing
returns-in-Err-clause-nothing c =
    let n = c.args.nucleus.now in
    let i = c.loop-index.invariant in
    undone-nothing n c.loop-index.index (known c.args.pass.now).made (take c.loop-index.index c.args.ports.now) c.loop-index.jobs.items c.args.pass.now c.enter_one.new.pass c.retire_jobs.new.pass i.entered
    (drawn-same n c.loop-index.index c.args.pass.now c.loop-index.pass c.enter_one.new.pass i.drawn c.enter_one.ensures.kept c.in-Err.ensures.refused) c.retire_jobs.ensures
