-- The number and the line of each status, and a summary with each of its numbers under its word, computed.
use Rattle.std.proofs.Common.{ℕ, zero, suc, ◌≡◌, List, [], ◌∷◌, ◌++◌, map, codes, refl, arith}
use Rattle.std.proofs.lemmas.Fmt.{decimal_digit}
use Rattle.chorus_ui.specs.declared.kind.Kind.TheVariants as kinds
use Rattle.chorus_ui.specs.declared.ui.Ui.{Ui}
use Rattle.chorus_entry.specs.declared.act.Act.{Act}
use Rattle.chorus_entry.specs.declared.entry.Entry.{Entry}
use Rattle.chorus_entry.specs.declared.id.MsgId.{MsgId}
use Rattle.chorus_show.specs.declared.status.Status.TheVariants.{Done, Usage, Scenario, ReadFault, WriteFault, Memory, Worn}
use Rattle.chorus_show.specs.declared.status.TheConstants.Status.{TOO_LONG}
use Rattle.chorus_show.specs.Faults.{fault_line, status_number}
use Rattle.chorus_show.specs.Summary.{summary_text}

numbers : (status_number Done ≡ 0) × (status_number Usage ≡ 1) × (status_number (Scenario 4 2) ≡ 2) × (status_number ReadFault ≡ 3) × (status_number WriteFault ≡ 4) × (status_number Memory ≡ 5) × (status_number (Worn 7) ≡ 6)
numbers = (refl, refl, refl, refl, refl, refl, refl)

lines : (fault_line Done ≡ []) × (fault_line Usage ≡ codes "chorus: usage: chorus replay, run, or load FIRST COMMANDS\n") × (fault_line ReadFault ≡ codes "chorus: read fault\n") × (fault_line WriteFault ≡ codes "chorus: write fault\n") × (fault_line Memory ≡ codes "chorus: out of memory\n")
lines = (refl, refl, refl, refl, refl)

refused-line : fault_line (Scenario 4 2) ≡ codes "chorus: scenario line 4 reason 2\n"
refused-line = rw (decimal_digit 4 (omega arith), decimal_digit 2 (omega arith)) refl

worn-line : fault_line (Worn 7) ≡ codes "chorus: worn at clock 7\n"
worn-line = rw (decimal_digit 7 (omega arith)) refl

-- what is too long is refused as a scenario that is too long
too-long : TOO_LONG ≡ Scenario 0 6
too-long = refl

-- A summary in which each number is another one: four messages of the first port are accepted and one is taken, two of the second
-- port, which departs, and the third port is deleted with four. Each kind of refusal stands once.

abbrev port : ℕ → Ui
port number = record { site = 1; kind = kinds.Port; number = number }

abbrev actor : Ui
actor = record { site = 1; kind = kinds.Actor; number = 1 }

abbrev id : MsgId
id = record { seat = 0; number = 1; copy = 0 }

abbrev times : ℕ → Act → List Act
times zero act = []
times (suc n) act = act ∷ times n act

abbrev refusals : List Act
refusals =
    Act.Full id (port 1) 1
    ∷ Act.Early id (port 1) 1
    ∷ Act.NoPort id (port 1)
    ∷ Act.Already id (port 1)
    ∷ Act.ClientsFull id (port 1)
    ∷ Act.Elsewhere id (port 1) 2 1
    ∷ Act.NoMember id (port 1)
    ∷ Act.Gone id (port 1)
    ∷ []

abbrev acts : List Act
acts =
    (Act.Make (port 1) actor 64 ∷ Act.Make (port 2) actor 64 ∷ Act.Make (port 3) actor 64 ∷ [])
    ++ times 4 (Act.Accept id (port 1) 0)
    ++ times 2 (Act.Accept id (port 2) 0)
    ++ (Act.Take (port 1) 0 id ∷ Act.Delete (port 3) (id ∷ id ∷ id ∷ id ∷ []) ∷ [])
    ++ times 5 (Act.Depart (port 2) 2 actor 1)
    ++ times 7 (Act.Stale id (port 1) 0 2 1)
    ++ refusals

abbrev entry : Act → Entry
entry act = record { clock = 1; place = 1; seat = 0; act = act }

summed-up : summary_text (map entry acts) ≡ codes "summary\nposted 0\naccepted 6\ntaken 1\nqueued 3\nmoving 2\ndiscarded 4\nrefused 8\nstale 7\ndeparts 5\nend\n"
summed-up =
    rw (decimal_digit 0 (omega arith), decimal_digit 1 (omega arith), decimal_digit 2 (omega arith), decimal_digit 3 (omega arith), decimal_digit 4 (omega arith), decimal_digit 5 (omega arith), decimal_digit 6 (omega arith), decimal_digit 7 (omega arith), decimal_digit 8 (omega arith)) refl
