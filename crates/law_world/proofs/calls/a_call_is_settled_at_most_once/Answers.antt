use Rattle.law_world.specs.Calls.{DoneByReply, LateByReply, SettlesOnce, SettlesWhatWasCalled}
use Rattle.chorus_world.proofs.Moments.{always-legal, legal-entries}
use Rattle.law_world.proofs.Settling.{settles-once, settles-called, done-by-reply, late-by-reply}
use Rattle.law_world.proofs.calls.a_call_is_settled_at_most_once.Goals as goal

pub returns-clause-once : goal.returns-clause-once
returns-clause-once c = always-legal SettlesOnce settles-once

pub returns-clause-called : goal.returns-clause-called
returns-clause-called c = legal-entries (λ l. SettlesWhatWasCalled) settles-called

pub returns-clause-done : goal.returns-clause-done
returns-clause-done c = legal-entries (λ l. DoneByReply) done-by-reply

pub returns-clause-late : goal.returns-clause-late
returns-clause-late c = legal-entries (λ l. LateByReply) late-by-reply
