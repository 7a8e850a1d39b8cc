use Rattle.std.proofs.Common.{◌++◌, ◌-◌, ◌∙◌, ap, append_assoc, arith, length, take, take_all}
use Rattle.std.specs.Prelude.{codes}
use Rattle.std.specs.List.{flat_map}
use Rattle.chorus_show.specs.Report.{stuck_line}
use Rattle.chorus_report.proofs.Texts.{before_end, on_ok}
use Rattle.chorus_report.proofs.writing.push_stuck_lines.Goals as goal

pub returns : goal.returns
returns c =
    let text = c.args.text.now.items in
    let stuck = c.args.stuck.now in
    on_ok c.extend_from_slice.result _ _ _ _ c.extend_from_slice.ensures.items
    (λ put front is.
    put
    ∙ ap (λ t. t ++ codes "end\n")
    (c.loop-script.invariant
    ∙ ap (λ xs. take (length text - 4) text ++ flat_map stuck_line xs) (take_all c.loop-script.script-index stuck (omega (arith, c.loop-script-test.false)))
    ∙ ap (λ t. t ++ flat_map stuck_line stuck) (before_end front text is))
    ∙ append_assoc front (flat_map stuck_line stuck) (codes "end\n"))
