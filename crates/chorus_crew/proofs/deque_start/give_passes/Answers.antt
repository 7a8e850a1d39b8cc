use Rattle.std.proofs.Common.{◌≡◌, ◌∙◌, ℕ, List, [], ◌∷◌, ◌++◌, ap, arith, rules, subst, sym}
use Rattle.crossbeam_deque.specs.Handles.{IsPassOf, view, worker_deque, worker_view}
use Rattle.chorus_crew.specs.declared.job.Job.{Job}
use Rattle.chorus_crew.specs.declared.rule.Share.{Share}
use Rattle.chorus_crew.specs.Rule.{share}
use Rattle.std.specs.List.{All}
use Rattle.std.specs.Global.{Vec}
use Rattle.std.proofs.lemmas.List.Elements.{All-push}
use Rattle.chorus_crew.specs.declared.job.Done.{Done}
use Rattle.chorus_crew.specs.declared.worker.Hand.{Hand}
use Rattle.chorus_crew.proofs.Filling.{all_front, all_last}
use Rattle.chorus_crew.proofs.Deque.{forks, left_is}
use Rattle.chorus_crew.proofs.deque_start.give_passes.Goals as goal

pub another-hold-requires : goal.another-hold-requires
another-hold-requires g c = forks _ _ (let p = c.loop-done.invariant.parts in let q = c.requires.parts in let n = c.in-Some.ensures.len in let k = c.loop-done.invariant.count in omega (arith, p, q, n, k))

pub loop-done-preserved : goal.loop-done-preserved
loop-done-preserved g c =
    let Room : Vec (Done g.row.S.Denot) → Type 0 = λ room. room.items ≡ [] in
    let i = c.loop-done.invariant in
    let put : List Job = (worker_view c.args.owner.now).put in
    let taken : List ℕ = (worker_view c.args.owner.now).taken in
    let v : Share = worker_view c.loop-done.owner in
    let w : Share = worker_view c.another-hold.new.self in
    let P : Hand g.row.S.Denot → Type 0 = λ h. IsPassOf (worker_deque c.args.owner.now) h.hold × (view h.hold ≡ share 1 put []) × (h.done.items ≡ []) in
    let rooms : All Room (c.pop.new.self.items ++ c.in-Some.done ∷ []) = subst (All Room) c.in-Some.ensures.items i.empty in
    let one : P (record { hold = c.another-hold.result; done = c.in-Some.done }) = (
      subst (λ d. IsPassOf d c.another-hold.result) i.deque c.another-hold.ensures.same.2,
      c.another-hold.ensures.rule.1 ∙ ap (λ (s : Share). share 1 s.put []) i.view_is,
      all_last Room c.pop.new.self.items c.in-Some.done rooms,
    ) in
    record {
      deque = search rules;
      flavor = search rules;
      view_is = left_is v w put taken i.view_is c.another-hold.ensures.rule.0;
      parts = let p = ap (λ (s : Share). s.parts) c.another-hold.ensures.rule.0 in let q = i.parts in let n = c.in-Some.ensures.len in let k = i.count in let r = c.requires.parts in omega (arith, p, q, n, k, r);
      room = let r = i.room in let n = c.in-Some.ensures.len in let m = c.push_reserved.ensures.len in let k = c.push_reserved.ensures.capacity in omega (arith, r, n, m, k);
      count = let r = i.count in let n = c.in-Some.ensures.len in let m = c.push_reserved.ensures.len in omega (arith, r, n, m);
      empty = all_front Room c.pop.new.self.items (c.in-Some.done ∷ []) rooms;
      ready = subst (All P) (sym c.push_reserved.ensures.items) (All-push P c.loop-done.hands.items (record { hold = c.another-hold.result; done = c.in-Some.done }) i.ready one);
    }
