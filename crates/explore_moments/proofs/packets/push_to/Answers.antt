use Rattle.std.proofs.Common.{◌≡◌, ◌++◌, take, slice_get, Some, sym, ◌∙◌, ap, append_assoc}
use Rattle.std.specs.Option.{option_copied}
use Rattle.place_outbox.specs.Waiting.{list_to}
use Rattle.explore_report.proofs.More.{flat-next}
use Rattle.explore_moments.specs.Moments.{list_lines, packet_lines}
use Rattle.explore_moments.proofs.packets.push_to.Goals as goal

pub loop-at-preserved : goal.loop-at-preserved
loop-at-preserved c =
    let all = list_to c.args.to c.args.out.now.lists in
    let i = c.loop-at.at in
    let it = c.in-Some.packet.now in
    let at : slice_get (list_to c.args.to c.args.out.now.lists) c.loop-at.at ≡ Some c.in-Some.packet.now = sym c.get.ensures ∙ ap (λ o. option_copied o) c.in-Some.is in
    c.in_ok-push_cargo.ensures ∙ ap (λ xs. xs ++ packet_lines it) c.loop-at.invariant
    ∙ append_assoc c.args.text.now.items (list_lines (take i all)) (packet_lines it)
    ∙ ap (λ ys. c.args.text.now.items ++ ys) (sym (flat-next packet_lines all i it at))
