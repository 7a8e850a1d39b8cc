use Rattle.std.proofs.Common.{◌≡◌, Some, sym, ap, ◌∙◌, arith, length}
use Rattle.std.specs.List.{slice_get}
use Rattle.std.specs.Option.{option_copied}
use Rattle.chorus_frame.specs.Numbers.{number}
use Rattle.chorus_frame.specs.Spelling.{message_fields}
use Rattle.chorus_frame.specs.Held.{IsHeldMessage}
use Rattle.chorus_frame.proofs.Written.{kept_after, on_err, got_none, written_more, held_more}
use Rattle.chorus_frame.proofs.encoding.record.push_pending.Goals as goal

pub returns-in_err-push_message-in-Some-clause-err : goal.returns-in_err-push_message-in-Some-clause-err
returns-in_err-push_message-in-Some-clause-err c =
    on_err _ (kept_after _ _ _ _ c.loop-at.invariant.written c.in_err-push_message-in-Some.ensures.err)

pub unreachable-requires : goal.unreachable-requires
unreachable-requires c =
    got_none c.args.pending.now c.loop-at.at (omega arith) (sym c.get.ensures ∙ ap option_copied c.in-None.is)

pub loop-at-preserved : goal.loop-at-preserved
loop-at-preserved c =
    let got : slice_get c.args.pending.now c.loop-at.at ≡ Some c.in-Some.message.now = sym c.get.ensures ∙ ap option_copied c.in-Some.is in
    record {
      written = written_more message_fields _ (number 1 (length c.args.pending.now)) c.args.pending.now c.loop-at.at _ _ _ got c.loop-at.invariant.written c.in_ok-push_message-in-Some.ensures.ok;
      held = held_more IsHeldMessage c.args.pending.now c.loop-at.at _ got c.loop-at.invariant.held c.in_ok-push_message-in-Some.ensures.held;
    }
