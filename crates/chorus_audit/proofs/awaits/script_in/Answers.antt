use Rattle.std.proofs.Common.{Some, codes, ◌∙◌}
use Rattle.std.specs.Option.{option_copied}
use Rattle.std.proofs.lemmas.Bool.Decides.{Decides-eqb}
use Rattle.std.proofs.lemmas.Slice.Eq.{strip_prefix_is}
use Rattle.chorus_audit.specs.Calls.{parts_behind}
use Rattle.chorus_audit.proofs.Waiters.{script_read}
use Rattle.chorus_audit.proofs.awaits.script_in.Goals as goal

pub returns-clause-script : goal.returns-clause-script
returns-clause-script c =
    let whole = strip_prefix_is Decides-eqb c.args.text.now (codes "stuck ") (Some c.in_ok-numbers.numbers) c.in_ok-numbers.ensures.cases in
    λ s more fits is. c.read.ensures.value ∙ script_read c.args.text.now c.in_ok-numbers.numbers.now c.cut.result.0.now (parts_behind 32 (option_copied c.cut.result.1)) whole c.cut.ensures.parts s more fits is
