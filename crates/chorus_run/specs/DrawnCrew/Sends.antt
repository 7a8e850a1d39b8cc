-- What is sent to the eight ports, and what of it they hold.
-- x is what the generator has come to, r what it draws, i the number of a draw, from 1.
use Rattle.std.specs.Prelude.{ℕ, zero, suc, ◌+◌, ◌/◌, ◌%◌, ◌==◌, min, nat_lt, if◌then◌else◌, List, [], ◌∷◌, ◌++◌, length, map, take, sum, Option, Some, None}
use Rattle.std.specs.List.{filter}
use Rattle.chorus_ui.specs.declared.limits.TheConstants.{PENDING_LIMIT}
use Rattle.chorus_draw.specs.Draws.{next_state, number_of}
use Rattle.chorus_run.specs.declared.drawn_crew.names.TheConstants.{CREW_PORTS}
use Rattle.chorus_run.specs.declared.drawn_crew.draws.Tally.{Tally}

-- half of the draws are sends, each to the port of one of the eight sites
abbrev pub site_drawn : ℕ → Option ℕ
site_drawn r = if nat_lt (r % 8) 4 then Some (r / 8 % CREW_PORTS + 1) else None

-- the body of a send is the number of its draw, in decimals
pub record Sending : Type 0 where
  pub site : ℕ
  pub number : ℕ

abbrev pub sending : Option ℕ → ℕ → List Sending
sending None i = []
sending (Some site) i = record { site = site; number = i } ∷ []

-- the sends among so many draws, from the one of this number on
abbrev pub sendings : ℕ → ℕ → ℕ → List Sending
sendings zero i x = []
sendings (suc count) i x = sending (site_drawn (number_of (next_state x))) i ++ sendings count (i + 1) (next_state x)

-- what is sent to the port of this site, in order
abbrev pub numbers_to : ℕ → List Sending → List ℕ
numbers_to site sends = map (λ (s : Sending). s.number) (filter (λ (s : Sending). s.site == site) sends)

-- a port holds the first 64 of these messages: how many they are, and the sum of their numbers
abbrev pub tally_of : List ℕ → Tally
tally_of numbers = record { count = min PENDING_LIMIT (length numbers); total = sum (take PENDING_LIMIT numbers) }

-- of the draws of the words, from the state `first` on
unfoldable pub tally : ℕ → ℕ → ℕ → Tally
tally first commands site = tally_of (numbers_to site (sendings commands 1 first))
