use Rattle.std.proofs.Common.{Some, sym, ◌∙◌, ap}
use Rattle.std.specs.Cmp.{booleans_Decides}
use Rattle.std.specs.Cmp.Lexicographic.{pointwise_decides}
use Rattle.std.specs.Option.{option_copied}
use Rattle.chorus_explore.proofs.alike_sites.hints_and_waits.are_same_marks.Goals as goal

pub returns-in-Some-other : goal.returns-in-Some-other
returns-in-Some-other c = λ e.
    ap option_copied c.in-Some.is
    ∙ ap Some ((pointwise_decides booleans_Decides c.in-Some.marks.now c.in-Some-other.same.now).0 (sym c.eq.ensures ∙ e))
    ∙ sym (ap option_copied c.in-Some-other.is)
