-- The schedule of a claim that fails is replayed.
-- c is a scenario, k is a claim, ms are moves, the latest first.
use Rattle.std.proofs.Common.{◌≡◌, Bool, true, false, cond, List, refl, sym, subst}
use Rattle.std.proofs.lemmas.Bool.{false≢true}
use Rattle.law_explore.specs.declared.moves.Move.{Move}
use Rattle.law_explore.specs.Races.{IsWhole, replaying}
use Rattle.law_explore.specs.Search.{IsHistory}
use Rattle.law_replay.specs.Shown.{race_of, with_schedule}
use Rattle.law_replay.proofs.Shown.{shows}
use Rattle.chorus_scene.specs.Scene.{Scene}
use Rattle.chorus_net.specs.Closing.{IsClosed}
use Rattle.chorus_explore.specs.Checked.{FailuresAreReplayed}
use Rattle.chorus_explore.specs.Stages.{position}
use Rattle.chorus_explore.proofs.Returning.{comes-behind}
use Rattle.chorus_explore.proofs.Whole.{ended}

-- where a claim is asked a history leads, and a whole one where it is asked at ends alone
is-history : (c : Scene) (ms : List Move) (b : Bool) → cond b (IsHistory (replaying (race_of c)) ms) (IsWhole (race_of c) ms) → IsHistory (replaying (race_of c)) ms
is-history c ms true h = h
is-history c ms false h = h.0

is-whole : (c : Scene) (ms : List Move) (b : Bool) → b ≡ false → cond b (IsHistory (replaying (race_of c)) ms) (IsWhole (race_of c) ms) → IsWhole (race_of c) ms
is-whole c ms true e h = absurd (false≢true (sym e))
is-whole c ms false e h = h

pub failures-are-replayed : FailuresAreReplayed
failures-are-replayed c k ms status closed shape keeps asked unmet played unworn =
    let h = is-history c ms k.throughout asked in
    record {
      unmet = unmet;
      at_the_end = λ ends.
          (let whole = is-whole c ms k.throughout ends asked in
          shows c ms status closed whole.0 (ended c ms whole shape keeps) played unworn);
      goes_on = λ scene.
          (let w = comes-behind (with_schedule ms c) shape scene ms h refl status closed played unworn in
          (w.more, subst (λ (os : List Move). IsWhole (race_of c) os × IsClosed (position c os).net closed) w.goes_on (w.whole, w.closes)));
    }
