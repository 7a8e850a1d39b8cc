-- What a take of a port answers.
use Rattle.std.specs.Prelude.{Option, Some, None}
use Rattle.law_machine.specs.declared.reply.Reply.{Reply}
use Rattle.chorus_nucleus.specs.declared.taken_message.TakenMessage.{TakenMessage}
use Rattle.chorus_nucleus.specs.declared.taken_message.TakeAnswer.{TakeAnswer}
use Rattle.chorus_nucleus.specs.declared.taken_message.TakeAnswer.TheVariants as answers

abbrev pub reply_with : TakenMessage → Reply
reply_with m = Reply.Taken m.position m.message m.settled

-- the reply of the place that it stands for
abbrev pub reply_of : TakeAnswer → Reply
reply_of (answers.Took m) = reply_with m
reply_of answers.Empty = Reply.Empty
reply_of answers.NotHere = Reply.NotHere

abbrev pub taken_of : TakeAnswer → Option TakenMessage
taken_of (answers.Took m) = Some m
taken_of answers.Empty = None
taken_of answers.NotHere = None
