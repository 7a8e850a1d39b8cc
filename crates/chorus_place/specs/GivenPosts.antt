-- How many call numbers a caller gave. c is the caller.
use Rattle.std.specs.Prelude.{◌≤◌}
use Rattle.chorus_calls.specs.Callers.{Seated}

-- it gave at most as many call numbers as it posted messages
abbrev pub GaveWithinPosts : Seated → Type 0
GaveWithinPosts c = c.client.given ≤ c.posts
