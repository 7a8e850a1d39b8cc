use Rattle.std.proofs.Common.{◌≡◌, map, take}
use Rattle.law_explore.specs.Moment.{sent_in}
use Rattle.explore_moments.specs.Moments.{sent_as, states}
use Rattle.explore_moments.proofs.messages.sent_in.Given as goal

-- those that the places passed tell of
abbrev pub invariant-loop-place : goal.invariant-loop-place
invariant-loop-place l = map sent_as l.copies.items ≡ sent_in l.id (states (take l.place-index l.places))
