use Rattle.std.proofs.Common.{◌≡◌, ◌≤◌, ◌+◌, length}
use Rattle.std.specs.Vec.{vec_len, vec_capacity}
use Rattle.chorus_nucleus.specs.Passes.{layout_of, known, IsPassOf}
use Rattle.chorus_nucleus.specs.Calls.{gave}
use Rattle.chorus_sessions.specs.Hands.{AreKept}
use Rattle.chorus_sessions.proofs.Playing.{HaveGone}
use Rattle.chorus_sessions.specs.Sessions.{AreSessions, IsKeeper}
use Rattle.chorus_sessions.proofs.coming.retire_all.Given as goal

abbrev pub decreases-loop-session : goal.decreases-loop-session
decreases-loop-session l = vec_len l.sessions

abbrev pub invariant-loop-session : goal.invariant-loop-session
invariant-loop-session l =
    IsPassOf l.nucleus l.pass × IsKeeper (length l.fn.sessions.items) (length l.hands.items) l.pass
    × AreSessions l.nucleus l.sessions.items × (length l.hands.items + length l.sessions.items ≡ length l.fn.sessions.items)
    × (length l.fn.sessions.items ≤ vec_capacity l.hands) × AreKept (layout_of l.nucleus) (known l.pass) (known l.pass).notes l.hands.items
    × HaveGone l.fn.sessions.items l.sessions.items l.hands.items l.pass × (gave (known l.pass) ≡ gave (known l.fn.pass))
