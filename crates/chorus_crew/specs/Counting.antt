-- What a crew that adds up tells.
use Rattle.std.specs.Prelude.{ℕ}
use Rattle.chorus_crew.specs.declared.folding.Folded.{Folded}
use Rattle.chorus_crew.specs.declared.handler.Handled.{Handled}

abbrev pub handled_from : Folded ℕ → Handled
handled_from f = record { port = f.port; from = f.from; count = f.count; total = f.state }
