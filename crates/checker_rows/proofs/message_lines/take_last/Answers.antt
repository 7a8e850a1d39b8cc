use Rattle.std.proofs.Common.{ap, sym, ◌∙◌, is_some, take, ◌-◌}
use Rattle.std.specs.Option.{option_copied_mut}
use Rattle.std.specs.HashMap.{get}
use Rattle.checker_rows.specs.Keys.{same_line}
use Rattle.checker_rows.specs.Lines.{items_of, but_last}
use Rattle.checker_rows.proofs.LineChanges.{put_by}
use Rattle.checker_rows.proofs.message_lines.take_last.Goals as goal

pub returns-in-Some : goal.returns-in-Some
returns-in-Some c =
    let found = sym c.get_mut.ensures.value ∙ ap option_copied_mut c.in-Some.is in
    put_by but_last (get same_line c.args.lines.now) (get same_line (c.get_mut.follows.lender c.pop_back.new.self)) c.args.key.now c.pop_back.new.self
    (((c.get_mut.follows.holds c.pop_back.new.self).3 (ap is_some found)).0)
    (c.pop_back.ensures.rest ∙ ap (λ n. take (n - 1) c.in-Some.line.now.items) c.in-Some.line.now.ok.0 ∙ ap (λ o. but_last (items_of o)) (sym found))
