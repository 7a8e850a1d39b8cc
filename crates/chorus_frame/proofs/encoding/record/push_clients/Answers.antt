use Rattle.std.proofs.Common.{◌≡◌, Some, sym, ◌∙◌, arith, length}
use Rattle.std.specs.List.{slice_get}
use Rattle.chorus_frame.specs.Numbers.{number}
use Rattle.chorus_frame.specs.Spelling.{client_fields}
use Rattle.chorus_frame.specs.Held.{IsHeldClient}
use Rattle.chorus_frame.proofs.Written.{kept_after, on_err, got_none, written_more, held_more}
use Rattle.chorus_frame.proofs.encoding.record.push_clients.Goals as goal

pub returns-in_err-push_client-in-Some-clause-err : goal.returns-in_err-push_client-in-Some-clause-err
returns-in_err-push_client-in-Some-clause-err c =
    on_err _ (kept_after _ _ _ _ c.loop-at.invariant.written c.in_err-push_client-in-Some.ensures.err)

pub unreachable-requires : goal.unreachable-requires
unreachable-requires c =
    got_none c.args.clients.now c.loop-at.at (omega (arith, c.len-at-end.ensures.len)) (sym c.get.ensures ∙ c.in-None.is)

pub loop-at-preserved : goal.loop-at-preserved
loop-at-preserved c =
    let got : slice_get c.args.clients.now c.loop-at.at ≡ Some (c.in-Some.client, c.in-Some.number) = sym c.get.ensures ∙ c.in-Some.is in
    record {
      written = written_more client_fields _ (number 1 (length c.args.clients.now)) c.args.clients.now c.loop-at.at _ _ _ got c.loop-at.invariant.written c.in_ok-push_client-in-Some.ensures.ok;
      held = held_more IsHeldClient c.args.clients.now c.loop-at.at _ got c.loop-at.invariant.held c.in_ok-push_client-in-Some.ensures.held;
    }
