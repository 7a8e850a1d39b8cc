use Rattle.std.proofs.Common.{List, Err, length, ap, refl, subst, sym, ◌∙◌}
use Rattle.chorus_nucleus.specs.Passes.{caller_of, known, layout_of}
use Rattle.chorus_perform.specs.declared.stopped.Stopped.{Stopped}
use Rattle.chorus_run.proofs.Owning.{is-closed-by}
use Rattle.chorus_crew.specs.declared.handler.Handled.{Handled}
use Rattle.chorus_run.specs.DrawnCrew.Names.{crew_pairs}
use Rattle.chorus_run.specs.DrawnCrew.Value.{message_value}
use Rattle.chorus_run.specs.DrawnCrew.Takes.{HasCrewed}
use Rattle.chorus_run.proofs.DrawnCrew.Endings.{as-many, ends-stopped}
use Rattle.chorus_run.proofs.drawn_crew.drawn.handle_drawn.Goals as goal

pub print_counts-requires : goal.print_counts-requires
print_counts-requires g c =
    let last = c.fill_and_handle-handled.new.pass in
    let crewed = c.in-Ok-handled.ensures.ok in
    ap (λ (hs : List Handled). length hs) c.deref.ensures.value
    ∙ as-many message_value (layout_of c.args.nucleus) (known last) (caller_of crewed.before).last 1 crew_pairs (known last).notes c.in-Ok-handled.handled.items crewed.handled_is

pub returns-in-Ok-handled : goal.returns-in-Ok-handled
returns-in-Ok-handled g c =
    let last = c.fill_and_handle-handled.new.pass in
    c.print_counts.ensures c.args.nucleus last c.args.first c.args.commands c.requires.sites c.requires.commands (is-closed-by c.args.nucleus last c.in-Ok.closed c.in-Ok.ensures)
    (subst (λ (hs : List Handled). HasCrewed c.args.nucleus c.args.first c.args.commands hs last) (sym c.deref.ensures.value) c.in-Ok-handled.ensures.ok)

pub returns-in-Err : goal.returns-in-Err
returns-in-Err g c =
    let last = c.fill_and_handle-handled.new.pass in
    ends-stopped c.args.nucleus c.args.first c.args.commands c.stopped.result _ _ c.args.sink.now c.args.sink.now last c.in-Err.why c.in-Ok.closed
    (is-closed-by c.args.nucleus last c.in-Ok.closed c.in-Ok.ensures)
    (λ k e. c.fill_and_handle-handled.ensures.worn k (c.in-Err.is ∙ ap (λ (x : Stopped). Err x) e))
    c.stopped.ensures refl
