use Rattle.std.proofs.Common.{None, ap, subst, sym, ◌∙◌, arith}
use Rattle.chorus_ui.specs.Layout.{has_site}
use Rattle.chorus_entry.specs.declared.dest.Dest.{Dest}
use Rattle.place_unsettled.specs.Queues.{Row}
use Rattle.place_unsettled.proofs.Keys.{same_row}
use Rattle.law_machine.specs.Doing.{direct}
use Rattle.law_machine.specs.Deciding.{decide}
use Rattle.law_machine.specs.Replies.{verdict_reply}
use Rattle.chorus_place.specs.PlaceTables.Groups.{posted_alone}
use Rattle.chorus_place.specs.PlaceTables.Tables.{Tables, turn, IsSound}
use Rattle.chorus_place.specs.PlaceTables.AtOnce.{decided}
use Rattle.chorus_place.proofs.PlaceTurns.AtOnce.{at-once, posted-alone-clock}
use Rattle.chorus_place.proofs.PlaceTurns.Told.{reply-told}
use Rattle.chorus_place.proofs.turns.messages.post_at_once.Goals as goal

pub decide_at_once-answer-requires-clause-site : goal.decide_at_once-answer-requires-clause-site
decide_at_once-answer-requires-clause-site c =
    ap (λ (p : Tables). has_site p.layout c.args.port.site) c.post_alone.ensures.same ∙ c.requires.ready.free.site

pub decide_at_once-answer-requires-clause-sound : goal.decide_at_once-answer-requires-clause-sound
decide_at_once-answer-requires-clause-sound c = subst IsSound (sym (ap (λ w. w.message) c.requires.message.copy)) c.requires.message.sound

pub decide_at_once-answer-requires-clause-entry : goal.decide_at_once-answer-requires-clause-entry
decide_at_once-answer-requires-clause-entry c =
    let left = c.post_alone.ensures.spare in
    let room = c.requires.ready.spare in
    let clock = posted-alone-clock c.args.message (Dest.Port c.args.port) (turn c.args.tables.now c.args.caller.now) _ c.post_alone.ensures.turn in
    let worn = c.requires.clock in
    record { spare = omega (arith, left, room); clock = omega (arith, clock, worn) }

pub returns-clause-turn : goal.returns-clause-turn
returns-clause-turn c =
    let q = c.args.port in
    let m = c.args.message in
    let hop = c.args.hop in
    let p = c.args.tables.now in
    let t = turn p c.args.caller.now in
    c.decide_at_once-answer.ensures.turn
    ∙ ap (decided c.args.wait.message q hop) c.post_alone.ensures.turn
    ∙ ap (λ x. decided x q hop (posted_alone m (Dest.Port q) t)) (ap (λ w. w.message) c.requires.message.copy)
    ∙ at-once q m hop t c.requires.ready.free (λ l h. ap (λ (r : Row). r.queue) (same_row p.waits (direct q) l h))

pub returns-clause-reply : goal.returns-clause-reply
returns-clause-reply c =
    let q = c.args.port in
    let m = c.args.message in
    let hop = c.args.hop in
    let t = turn c.post_alone.new.self c.post_alone.new.caller in
    let same = ap (λ w. w.message) c.requires.message.copy in
    let after = c.decide_at_once-answer in
    reply-told m q hop t (turn after.new.self after.new.caller) c.verdict_reply.result (after.ensures.turn ∙ ap (λ x. decided x q hop t) same)
    (c.verdict_reply.ensures ∙ ap (verdict_reply m.id) (after.ensures.answer ∙ ap (λ x. decide x q None hop t.place) same))

pub returns-clause-out : goal.returns-clause-out
returns-clause-out c = c.decide_at_once-answer.ensures.out ∙ ap (λ (p : Tables). p.out) c.post_alone.ensures.same
