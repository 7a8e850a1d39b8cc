use Rattle.std.proofs.Common.{List, ◌∙◌, length, subst, arith}
use Rattle.chorus_sessions.specs.declared.session.Session.{Session}
use Rattle.chorus_sessions.specs.Sessions.{AreSessions}
use Rattle.chorus_sessions.proofs.Comings.{sessions-but-last, went}
use Rattle.chorus_sessions.proofs.Playing.{gone-more, retires-gave}
use Rattle.chorus_sessions.proofs.coming.retire_all.Goals as goal

pub retire-requires-clause-pass : goal.retire-requires-clause-pass
retire-requires-clause-pass c =
    let n = c.args.nucleus.now in
    let all = subst (λ (ps : List Session). AreSessions n ps) c.in-Some.ensures.items c.loop-session.invariant.2 in
    (sessions-but-last n c.pop.new.self.items c.in-Some.session all).1.pass

pub loop-session-preserved : goal.loop-session-preserved
loop-session-preserved c =
    let n = c.args.nucleus.now in
    let i = c.loop-session.invariant in
    let all = subst (λ (ps : List Session). AreSessions n ps) c.in-Some.ensures.items i.2 in
    let two = sessions-but-last n c.pop.new.self.items c.in-Some.session all in
    let more = went n (length c.args.sessions.items) c.in-Some.session c.loop-session.pass c.retire.new.into c.loop-session.hands.items c.push_reserved.new.self.items c.retire.ensures two.1 i.1 i.5 c.push_reserved.ensures.items in
    let longer = more.2 in
    let shorter = c.in-Some.ensures.len in
    let count = i.3 in
    let room = i.4 in
    let cap = c.push_reserved.ensures.capacity in (
      c.retire.ensures.pass,
      more.0,
      two.0,
      omega (arith, longer, shorter, count),
      omega (arith, room, cap),
      more.1,
      gone-more n c.args.sessions.items c.loop-session.sessions.items c.pop.new.self.items c.in-Some.session c.loop-session.hands.items c.push_reserved.new.self.items c.loop-session.pass c.retire.new.into
          i.6 c.in-Some.ensures.items c.retire.ensures two.1 c.push_reserved.ensures.items,
      retires-gave n c.in-Some.session.pass c.loop-session.pass c.retire.new.into c.retire.ensures ∙ i.7,
    )
