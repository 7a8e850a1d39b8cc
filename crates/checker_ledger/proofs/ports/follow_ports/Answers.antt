use Rattle.std.proofs.Common.{sym, ◌∙◌, ap, Some}
use Rattle.chorus_ui.specs.Name.{same_ui}
use Rattle.chorus_ui.proofs.Names.{same_ui-self}
use Rattle.chorus_entry.specs.Same.{are_same}
use Rattle.checker_ledger.proofs.ports.follow_ports.Goals as goal

pub change-requires : goal.change-requires
change-requires c = λ f h.
    c.requires.takes c.in-Some.port f
    (ap (are_same same_ui (Some c.in-Some.port)) (sym c.in-Some.ensures) ∙ same_ui-self c.in-Some.port) h
