use Rattle.std.proofs.Common.{Option, List, [], ◌∷◌, ◌++◌, length, arith, ap, subst, sym, ◌∙◌}
use Rattle.std.specs.List.{All}
use Rattle.chorus_crew.specs.declared.job.Done.{Done}
use Rattle.chorus_crew.specs.Retiring.{IsFullSlot}
use Rattle.chorus_crew.proofs.Filling.{all_front, all_last}
use Rattle.chorus_crew.proofs.Ended.{all-reverse, slot-plain, collected-none, collected-more, collected-all, not-full, no-slots}
use Rattle.chorus_crew.proofs.retiring.retire_done.Goals as goal

pub loop-slot-init : goal.loop-slot-init
loop-slot-init g c = record {
  full = subst (λ (l : List (Option (Done g.row.S.Denot))). All (IsFullSlot c.args.nucleus.now) l) (sym c.reverse.ensures.items) (all-reverse (IsFullSlot c.args.nucleus.now) c.args.slots.now.items c.requires.slots);
  room = let n = c.reverse.ensures.len in let r = c.requires.room.1 in let z = ap length c.requires.room.0 in grind (arith, n, r, z);
  collected = collected-none c.args.nucleus.now c.args.pass.now c.args.slots.now.items c.reverse.new.self.items c.args.folded.now.items c.requires.pass c.requires.slots c.reverse.ensures.items c.requires.room.0;
}

pub loop-slot-preserved : goal.loop-slot-preserved
loop-slot-preserved g c =
    let n = c.args.nucleus.now in
    let i = c.loop-slot.invariant in
    let f = subst (λ (l : List (Option (Done g.row.S.Denot))). All (IsFullSlot n) l) c.in-Some.ensures.items i.full in
    let p = slot-plain n c.in-Some.slot c.in-Some-slot.done (all_last (IsFullSlot n) c.pop.new.self.items c.in-Some.slot f) c.in-Some-slot.is in
    record {
      full = all_front (IsFullSlot n) c.pop.new.self.items (c.in-Some.slot ∷ []) f;
      room = let r = i.room in let k = c.in-Some.ensures.len in let m = c.push_reserved.ensures.len in let cap = c.push_reserved.ensures.capacity in omega (arith, r, k, m, cap);
      collected = collected-more n c.args.pass.now c.loop-slot.pass c.retire.new.into c.args.slots.now.items c.loop-slot.slots.items c.pop.new.self.items c.loop-slot.folded.items c.loop-slot.all i.collected
          c.in-Some.slot c.in-Some-slot.done c.in-Some.ensures.items c.in-Some-slot.is p c.retire.ensures c.push_reserved.new.self.items _
          (c.push_reserved.ensures.items ∙ ap (λ h. c.loop-slot.folded.items ++ h ∷ []) c.folded_by.ensures) c.are_whole-all.ensures;
    }

pub retire-requires-clause-pass : goal.retire-requires-clause-pass
retire-requires-clause-pass g c =
    let n = c.args.nucleus.now in
    let f = subst (λ (l : List (Option (Done g.row.S.Denot))). All (IsFullSlot n) l) c.in-Some.ensures.items c.loop-slot.invariant.full in
    (slot-plain n c.in-Some.slot c.in-Some-slot.done (all_last (IsFullSlot n) c.pop.new.self.items c.in-Some.slot f) c.in-Some-slot.is).of_nucleus

pub unreachable-requires : goal.unreachable-requires
unreachable-requires g c =
    let n = c.args.nucleus.now in
    let f = subst (λ (l : List (Option (Done g.row.S.Denot))). All (IsFullSlot n) l) c.in-Some.ensures.items c.loop-slot.invariant.full in
    not-full n c.in-Some.slot (all_last (IsFullSlot n) c.pop.new.self.items c.in-Some.slot f) c.in-None.is

pub returns-clause-retired : goal.returns-clause-retired
returns-clause-retired g c = λ dones is.
    (collected-all c.args.nucleus.now c.args.pass.now c.loop-slot.pass c.args.slots.now.items c.loop-slot.slots.items c.loop-slot.folded.items c.loop-slot.all c.loop-slot.invariant.collected
    (no-slots c.loop-slot.slots.items (omega (arith, c.in_default.ensures.cases.0, c.loop-slot.slots.ok.0))) dones is).takes_in

pub returns-clause-worn : goal.returns-clause-worn
returns-clause-worn g c = λ dones is.
    (collected-all c.args.nucleus.now c.args.pass.now c.loop-slot.pass c.args.slots.now.items c.loop-slot.slots.items c.loop-slot.folded.items c.loop-slot.all c.loop-slot.invariant.collected
    (no-slots c.loop-slot.slots.items (omega (arith, c.in_default.ensures.cases.0, c.loop-slot.slots.ok.0))) dones is).worn

pub returns-clause-folded : goal.returns-clause-folded
returns-clause-folded g c = λ dones is.
    (collected-all c.args.nucleus.now c.args.pass.now c.loop-slot.pass c.args.slots.now.items c.loop-slot.slots.items c.loop-slot.folded.items c.loop-slot.all c.loop-slot.invariant.collected
    (no-slots c.loop-slot.slots.items (omega (arith, c.in_default.ensures.cases.0, c.loop-slot.slots.ok.0))) dones is).folded_is

pub returns-clause-done : goal.returns-clause-done
returns-clause-done g c = λ dones is.
    (collected-all c.args.nucleus.now c.args.pass.now c.loop-slot.pass c.args.slots.now.items c.loop-slot.slots.items c.loop-slot.folded.items c.loop-slot.all c.loop-slot.invariant.collected
    (no-slots c.loop-slot.slots.items (omega (arith, c.in_default.ensures.cases.0, c.loop-slot.slots.ok.0))) dones is).all_is
