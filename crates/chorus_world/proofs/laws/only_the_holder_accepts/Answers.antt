use Rattle.chorus_world.specs.DecisionLaws.{AcceptsWithRoom, FullWithoutRoom, MeetsWhereHeld}
use Rattle.chorus_world.proofs.Messages.Decided.{accepts_with_room, full_without_room, meets_where_held}
use Rattle.chorus_world.proofs.Moments.{legal-entries}
use Rattle.chorus_world.proofs.laws.only_the_holder_accepts.Goals as goal

pub returns : goal.returns
returns c =
    record {
      held = legal-entries (λ l. MeetsWhereHeld) meets_where_held;
      room = legal-entries (λ l. AcceptsWithRoom) accepts_with_room;
      full = legal-entries (λ l. FullWithoutRoom) full_without_room;
    }
