-- A place that does not hold a port answers by the hops that were tried and that it knows.
use Rattle.std.proofs.Common.{◌≡◌, refl}
use Rattle.chorus_entry.specs.declared.answer.Answer.TheVariants as A
use Rattle.std.specs.Prelude.{ℕ, Some, None}
use Rattle.chorus_world.specs.declared.place.Location.{Location}
use Rattle.law_machine.specs.Deciding.{answer_away}

abbrev known_at : ℕ → ℕ → Location
known_at to hop = record { to = to; hop = hop }

-- the port went on to place 2 by a later hop
pub newer-elsewhere : answer_away 3 None 0 (known_at 2 1) ≡ A.Stale 2 1
newer-elsewhere = refl

-- and the message demands a site
pub newer-elsewhere-at-a-site : answer_away 3 (Some 1) 0 (known_at 2 1) ≡ A.Elsewhere 2 1
newer-elsewhere-at-a-site = refl

-- the port is on its way here by a later hop
pub newer-here : answer_away 3 None 1 (known_at 3 2) ≡ A.Early 2
newer-here = refl

-- and the message demands a site
pub newer-here-at-a-site : answer_away 3 (Some 1) 1 (known_at 3 2) ≡ A.Early 2
newer-here-at-a-site = refl

-- nothing later is known: it is on its way here by the hop tried
pub same-hop : answer_away 3 None 1 (known_at 2 1) ≡ A.Early 1
same-hop = refl

-- the same, where less is known
pub older-hop : answer_away 3 (Some 1) 3 (known_at 2 1) ≡ A.Early 3
older-hop = refl

-- it was never made
pub no-hop : answer_away 3 None 0 (known_at 3 0) ≡ A.NoPort
no-hop = refl

-- the same, of a port that another place makes
pub no-hop-of-another : answer_away 3 (Some 1) 0 (known_at 1 0) ≡ A.NoPort
no-hop-of-another = refl
