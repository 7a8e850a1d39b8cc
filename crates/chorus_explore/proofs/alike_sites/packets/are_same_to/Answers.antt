use Rattle.std.proofs.Common.{refl, ◌≡◌, slice_get, sym, ◌∙◌, ap, arith}
use Rattle.std.specs.Option.{option_map}
use Rattle.place_outbox.specs.Waiting.{list_to}
use Rattle.chorus_explore.specs.AlikeSites.Packets.{plain, are_plain}
use Rattle.chorus_explore.proofs.AlikeSites.Lists.{same-till-none, below-next, get-map}
use Rattle.chorus_explore.proofs.alike_sites.packets.are_same_to.Goals as goal

pub returns-then-is_none_at : goal.returns-then-is_none_at
returns-then-is_none_at c = λ e.
    let xs = list_to c.args.to c.args.one.now.lists in
    let ys = list_to c.args.to c.args.other.now.lists in
    same-till-none (are_plain xs) (are_plain ys) c.loop-at.at c.loop-at.invariant
    (get-map plain xs c.loop-at.at ∙ ap (option_map plain) (c.if-is_none_at.ensures refl))
    (get-map plain ys c.loop-at.at ∙ ap (option_map plain) (c.is_none_at-none.ensures e))

pub loop-at-preserved : goal.loop-at-preserved
loop-at-preserved c =
    let xs = list_to c.args.to c.args.one.now.lists in
    let ys = list_to c.args.to c.args.other.now.lists in
    let next = below-next (λ i. slice_get (are_plain xs) i ≡ slice_get (are_plain ys) i) c.loop-at.at c.loop-at.invariant
    (get-map plain xs c.loop-at.at ∙ ap (option_map plain) (sym c.get.ensures)
    ∙ (c.if-not-is_same_at.ensures refl)
    ∙ ap (option_map plain) c.get-in-loop-at.ensures ∙ sym (get-map plain ys c.loop-at.at)) in
    λ i l. next i (omega (arith, l))
