use Rattle.std.proofs.Common.{sym, ◌∙◌, ap}
use Rattle.std.proofs.lemmas.Result.{IfOk-weaker, on_err_weaker}
use Rattle.chorus_serve.specs.Desks.{DeskOf, in_hand, seen}
use Rattle.chorus_serve.specs.Serving.{Answers}
use Rattle.chorus_serve.specs.Working.{HandlesPacket}
use Rattle.chorus_serve.proofs.Joining.{sealed-rests, none-idle, held-rests, handled-answers, ok-emptied, in-none, on-err}
use Rattle.chorus_serve.proofs.serving.take_turn.Goals as goal

pub returns-in_err-from-clause-refused : goal.returns-in_err-from-clause-refused
returns-in_err-from-clause-refused g c =
    on-err c.from_residual-in_err-from.result
    (sealed-rests (seen g.E.Ends.links g.E.Ends.packet c.args.desk.now) (seen g.E.Ends.links g.E.Ends.packet c.send_out.new.desk) (seen g.E.Ends.links g.E.Ends.packet c.take_up.new.desk)
    c.send_out.ensures.sends c.take_up.ensures.took (seen g.E.Ends.links g.E.Ends.packet c.lay_down.new.desk) c.args.caller.now c.lay_down.ensures.same
    (ap (in_hand g.E.Ends.packet) c.in_err-from.ensures.refused))

pub returns-in_default-clause-ok : goal.returns-in_default-clause-ok
returns-in_default-clause-ok g c =
    let none = sym c.in_ok-from.ensures.packet ∙ c.in_default.is in (
      none-idle (seen g.E.Ends.links g.E.Ends.packet c.args.desk.now) (seen g.E.Ends.links g.E.Ends.packet c.send_out.new.desk) (seen g.E.Ends.links g.E.Ends.packet c.take_up.new.desk)
          c.send_out.ensures.sends c.take_up.ensures.took (seen g.E.Ends.links g.E.Ends.packet c.lay_down.new.desk) c.args.caller.now c.lay_down.ensures.same none
          (ap (in_hand g.E.Ends.packet) c.in_ok-from.ensures.none) (c.take_up.ensures.none (in-none g.E.Ends.packet c.take_up.new.desk.hand none)),
      c.puts-put.ensures ∙ ap (λ (d : DeskOf _ _). d.place.out.puts) c.desk.view_is,
      ap (λ (d : DeskOf _ _). d.worked) c.desk.view_is,
    )

pub returns-clause-ok : goal.returns-clause-ok
returns-clause-ok g c =
    let a = seen g.E.Ends.links g.E.Ends.packet c.args.desk.now in
    let b = seen g.E.Ends.links g.E.Ends.packet c.send_out.new.desk in
    let up = seen g.E.Ends.links g.E.Ends.packet c.take_up.new.desk in
    let d = seen g.E.Ends.links g.E.Ends.packet c.lay_down.new.desk in
    let e = seen g.E.Ends.links g.E.Ends.packet c.handle_packet.new.desk in
    let w = c.args.caller.now in
    let x = c.handle_packet.new.caller in
    IfOk-weaker c.handle_packet.result (λ pump. HandlesPacket pump c.in-Some.from c.in-Some.packet d e w x) (λ pump. Answers pump a e w x)
    (handled-answers a b up c.send_out.ensures.sends c.take_up.ensures.took d e c.lay_down.ensures.same c.in-Some.from c.in-Some.packet (sym c.in_ok-from.ensures.packet ∙ c.in-Some.is) w x) c.handle_packet.ensures.ok

pub returns-clause-emptied : goal.returns-clause-emptied
returns-clause-emptied g c =
    let a = seen g.E.Ends.links g.E.Ends.packet c.args.desk.now in
    let b = seen g.E.Ends.links g.E.Ends.packet c.send_out.new.desk in
    let up = seen g.E.Ends.links g.E.Ends.packet c.take_up.new.desk in
    let d = seen g.E.Ends.links g.E.Ends.packet c.lay_down.new.desk in
    let e = seen g.E.Ends.links g.E.Ends.packet c.handle_packet.new.desk in
    ok-emptied a b up c.send_out.ensures.sends c.take_up.ensures.took d e c.lay_down.ensures.same c.in-Some.from c.in-Some.packet (sym c.in_ok-from.ensures.packet ∙ c.in-Some.is) c.args.caller.now
    c.handle_packet.new.caller c.in_ok-send_out.ensures.emptied c.handle_packet.result c.handle_packet.ensures.ok

pub returns-clause-refused : goal.returns-clause-refused
returns-clause-refused g c =
    let a = seen g.E.Ends.links g.E.Ends.packet c.args.desk.now in
    let b = seen g.E.Ends.links g.E.Ends.packet c.send_out.new.desk in
    let up = seen g.E.Ends.links g.E.Ends.packet c.take_up.new.desk in
    let d = seen g.E.Ends.links g.E.Ends.packet c.lay_down.new.desk in
    let e = seen g.E.Ends.links g.E.Ends.packet c.handle_packet.new.desk in
    on_err_weaker c.handle_packet.result
    (held-rests a b up c.send_out.ensures.sends c.take_up.ensures.took d e c.lay_down.ensures.same c.in-Some.from c.in-Some.packet (sym c.in_ok-from.ensures.packet ∙ c.in-Some.is) c.args.caller.now
    c.handle_packet.new.caller)
    c.handle_packet.ensures.refused
