use Rattle.std.proofs.Common.{◌≡◌, ◌-◌}
use Rattle.chorus_ui.specs.declared.limits.TheConstants.{CLOCK_LIMIT}
use Rattle.chorus_net.specs.Drains.{GoesRounds, RoundsUse, seat_clock}
use Rattle.chorus_net.specs.Sites.{net}
use Rattle.chorus_net.proofs.sites.Sites.drain.Given as goal

abbrev pub invariant-loop-more : goal.invariant-loop-more
invariant-loop-more l = record { goes : GoesRounds l.initial.self.layout (net l.initial.self) (net l.self) l.served; room : RoundsUse l.initial.self l.self; layout : l.self.layout ≡ l.initial.self.layout; mark : l.self.mark ≡ l.initial.self.mark }

abbrev pub decreases-loop-more : goal.decreases-loop-more
decreases-loop-more l = CLOCK_LIMIT - seat_clock (net l.self)
