-- What a function returned that reads the fields of more than one command.
use Rattle.std.specs.Prelude.{◌≡◌, Result, Ok, Err}
use Rattle.chorus_ui.specs.declared.ui.Ui.{Ui}
use Rattle.chorus_entry.specs.declared.command.Command.{Command}
use Rattle.chorus_lines.specs.declared.word.Reason.{Reason}
use Rattle.chorus_lines.specs.declared.fault.Stop.{Stop}
use Rattle.chorus_scene.specs.Line.{Line, CommandLine, AwaitLine}
use Rattle.chorus_scene.specs.Reader.{Fails}

-- the command made of it is what judging gives, unless memory ran out
abbrev pub TellsAs : {A : Type 0} → (A → Command) → Result A Stop → Result Line Reason → Type 0
TellsAs command (Ok a) judged = judged ≡ Ok (CommandLine (command a))
TellsAs command (Err stop) judged = Fails stop judged

-- the same of an await of the port
abbrev pub TellsAwait : Result Ui Stop → Result Line Reason → Type 0
TellsAwait (Ok port) judged = judged ≡ Ok (AwaitLine port)
TellsAwait (Err stop) judged = Fails stop judged
