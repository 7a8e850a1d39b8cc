-- A command of a caller, carried out whole.
use Rattle.std.specs.Prelude.{◌≡◌}
use Rattle.chorus_entry.specs.declared.command.Command.{Command}
use Rattle.law_machine.specs.declared.reply.Reply.{Reply}
use Rattle.law_machine.specs.PlaceState.{Turn}
use Rattle.law_machine.specs.PlaceMachine.{act}
use Rattle.law_machine.specs.Replies.{reply}
use Rattle.place_outbox.specs.Waiting.{Waiting}

-- the turn is the machine's, and so is the reply
pub record Performed (command : Command) (before after : Turn) (told : Reply) : Type 0 where
  pub done : after ≡ act command before
  pub answer : told ≡ reply command before

-- nothing goes out but at the end of a turn
pub record StaysOut (before after : Waiting) : Type 0 where
  pub lists : after.lists ≡ before.lists
  pub puts : after.puts ≡ before.puts
