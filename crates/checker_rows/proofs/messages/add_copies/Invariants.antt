use Rattle.std.proofs.Common.{◌≡◌, ◌≤◌, ◌+◌, take}
use Rattle.std.specs.HashMap.{spare}
use Rattle.chorus_entry.specs.declared.id.MsgId.{MsgId}
use Rattle.chorus_world.specs.Places.{find_sent, copies}
use Rattle.checker_rows.specs.Messages.{message_in, sending_at, with_sending}
use Rattle.checker_rows.proofs.messages.add_copies.Given as goal

abbrev pub invariant-loop-i : goal.invariant-loop-i
invariant-loop-i l =
    (spare l.initial.messages ≤ spare l.messages + l.i)
    × ((x : MsgId) → message_in l.messages x ≡ with_sending (sending_at l.place (find_sent x (copies l.post l.group 1 (take l.i l.members)))) (message_in l.initial.messages x))
