-- The line that the program prints to standard error, by its status.
use Rattle.std.specs.Prelude.{ℕ, List, [], ◌∷◌, ◌++◌, codes, decimal}
use Rattle.chorus_show.specs.declared.status.Status.{Status}
use Rattle.chorus_show.specs.declared.status.Status.TheVariants.{Done, Usage, Scenario, ReadFault, WriteFault, Memory, Worn}
use Rattle.chorus_show.specs.Phrases.{phrase}

abbrev pub fault_line : Status → List ℕ
fault_line Done = []
fault_line Usage = codes "chorus: usage: chorus replay, run, or load FIRST COMMANDS\n"
fault_line (Scenario line reason) =
    phrase (codes "chorus: scenario line") (decimal line ∷ codes "reason" ∷ decimal reason ∷ []) ++ 10 ∷ []
fault_line ReadFault = codes "chorus: read fault\n"
fault_line WriteFault = codes "chorus: write fault\n"
fault_line Memory = codes "chorus: out of memory\n"
fault_line (Worn clock) = phrase (codes "chorus: worn at clock") (decimal clock ∷ []) ++ 10 ∷ []

-- the program's exit status
abbrev pub status_number : Status → ℕ
status_number Done = 0
status_number Usage = 1
status_number (Scenario line reason) = 2
status_number ReadFault = 3
status_number WriteFault = 4
status_number Memory = 5
status_number (Worn clock) = 6
