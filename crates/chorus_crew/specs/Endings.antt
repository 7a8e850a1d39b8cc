-- Why a crew's takes of a port ended.
use Rattle.std.specs.Prelude.{Option, Some, None, List, [], ◌∷◌}
use Rattle.chorus_ui.specs.declared.ui.Ui.{Ui}
use Rattle.chorus_entry.specs.declared.act.Act.{Act}
use Rattle.chorus_nucleus.specs.declared.fault.CallFault.{CallFault}
use Rattle.chorus_crew.specs.declared.folding.EndedBy.{EndedBy}
use Rattle.chorus_crew.specs.declared.folding.EndedBy.TheVariants as ends

-- what the last take appended: a fault nothing
abbrev pub last_acts : Ui → EndedBy → List Act
last_acts q ends.Empty = Act.Empty q ∷ []
last_acts q ends.NotHere = Act.NotHere q ∷ []
last_acts q (ends.Fault f) = []

abbrev pub fault_of : EndedBy → Option CallFault
fault_of ends.Empty = None
fault_of ends.NotHere = None
fault_of (ends.Fault f) = Some f
