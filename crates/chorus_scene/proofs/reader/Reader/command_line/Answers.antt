use Rattle.chorus_lines.specs.declared.word.Word.TheVariants as words
use Rattle.chorus_scene.specs.Reader.{scene_of}
use Rattle.chorus_scene.proofs.Again.{room_of}
use Rattle.chorus_scene.proofs.reader.Reader.command_line.Goals as goal

pub push_command-requires-clause-room : goal.push_command-requires-clause-room
push_command-requires-clause-room c = room_of (scene_of c.args.self.now) (words.Command c.args.verb) _ c.in_ok-command.command c.in_ok-command.ensures
