use Rattle.std.proofs.Common.{◌≡◌, ◌+◌, None, [], ◌∷◌, ◌++◌, arith, subst, sym, refl, ap, ◌∙◌, length, length-append}
use Rattle.std.specs.List.{All}
use Rattle.std.specs.Prelude.{Option}
use Rattle.std.proofs.lemmas.List.Elements.{All-push}
use Rattle.chorus_crew.specs.declared.job.Done.{Done}
use Rattle.chorus_crew.proofs.tools.slots_for.Goals as goal

pub loop-preserved : goal.loop-preserved
loop-preserved g c =
    let items : c.push.new.self.items ≡ c.loop.slots.items ++ None ∷ [] = c.in_ok-push.ensures.items in
    let i = c.loop.invariant in
    let t = c.loop-test.true in
    let n : length c.push.new.self.items ≡ length c.loop.slots.items + 1 = ap length items ∙ length-append c.loop.slots.items (None ∷ []) in
    let P : Option (Done g.row.S.Denot) → Type 0 = λ s. s ≡ None in
    (omega (arith, n, i.0), omega (arith, t), subst (All P) (sym items) (All-push P c.loop.slots.items None i.2 refl))
