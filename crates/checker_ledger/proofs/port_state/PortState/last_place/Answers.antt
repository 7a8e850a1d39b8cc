use Rattle.std.proofs.Common.{sym, ◌∙◌, ap}
use Rattle.std.specs.Option.{option_copied}
use Rattle.chorus_world.specs.Ports.{last_of, PortState}
use Rattle.checker_ledger.proofs.PortLemmas.{last_is}
use Rattle.checker_ledger.proofs.port_state.PortState.last_place.Goals as goal

pub returns-in-Some : goal.returns-in-Some
returns-in-Some c = last_is c.deref.result.now c.in-Some.place.now (sym c.last.ensures.value ∙ ap option_copied c.in-Some.is) ∙ (ap (last_of 0) c.deref.ensures.value ∙ ap (λ (f : PortState). last_of 0 f.path) c.self.view_is)
