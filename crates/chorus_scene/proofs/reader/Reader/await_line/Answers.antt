use Rattle.std.proofs.Common.{◌≡◌, false, List, ℕ, Option, Ok}
use Rattle.chorus_ui.specs.declared.ui.Ui.{Ui}
use Rattle.chorus_lines.specs.Text.{fields}
use Rattle.chorus_lines.specs.declared.word.Word.TheVariants as words
use Rattle.chorus_scene.specs.Line.{AwaitLine, cuts}
use Rattle.chorus_scene.specs.Grammar.{last_is_full}
use Rattle.chorus_scene.specs.declared.reader.Reader.{Reader}
use Rattle.chorus_scene.specs.Reader.{await_with, scene_of}
use Rattle.chorus_scene.proofs.Again.{await_room}
use Rattle.chorus_scene.proofs.reader.Reader.await_line.Goals as goal

room : (r : Reader) (rest : Option (List ℕ)) (port : Ui) → await_with r rest ≡ Ok (AwaitLine port) → last_is_full (scene_of r) ≡ false
room r rest port h = await_room (scene_of r) (fields (cuts words.Await) rest) port h

pub push_await-requires-clause-room : goal.push_await-requires-clause-room
push_await-requires-clause-room c = room c.args.self.now _ c.in_ok-port.port c.in_ok-port.ensures.waits
