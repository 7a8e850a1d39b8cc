use Rattle.std.proofs.Common.{ℕ, ◌≡◌, ◌<◌, Some}
use Rattle.place_unsettled.specs.Unheard.{post_at, copies_of}
use Rattle.chorus_explore.proofs.alike_sites.hints_and_waits.are_posts_in.Given as goal

-- of the posts passed the other keeps the same
abbrev pub invariant-loop-at : goal.invariant-loop-at
invariant-loop-at l =
    (i : ℕ) → i < l.at → (seat number : ℕ) → post_at l.one i ≡ Some (seat, number) → copies_of l.one seat number ≡ copies_of l.other seat number
