use Rattle.std.proofs.Common.{◌≡◌, ◌≤◌, length, take}
use Rattle.std.specs.Vec.{vec_capacity}
use Rattle.chorus_nucleus.specs.Passes.{known, IsPassOf}
use Rattle.chorus_nucleus.specs.Calls.{gave}
use Rattle.chorus_sessions.specs.Playing.{HaveCome}
use Rattle.chorus_sessions.specs.Sessions.{AreSessions, IsKeeper}
use Rattle.chorus_sessions.proofs.coming.enter_all.Given as goal

abbrev pub invariant-loop-index : goal.invariant-loop-index
invariant-loop-index g l =
    IsPassOf l.nucleus l.pass × IsKeeper (length l.sessions.items) 0 l.pass × AreSessions l.nucleus l.sessions.items
    × (length l.sessions.items ≡ l.index) × (length l.behaviours ≤ vec_capacity l.sessions)
    × (gave (known l.pass) ≡ gave (known l.fn.pass)) × HaveCome g.B.Behaviour.in_actor l.nucleus 1 (take l.index l.behaviours) l.sessions.items
