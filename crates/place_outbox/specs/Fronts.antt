-- The packets that were put back stand in front of the others of their places.
use Rattle.std.specs.Prelude.{ℕ, ◌≡◌, ◌+◌, ◌^◌, ◌<◌, ◌≤◌, Bool, true, false, List, [], ◌∷◌, ◌++◌, length, map, Option, is_none}
use Rattle.chorus_entry.specs.declared.packet.Packet.{Packet}
use Rattle.place_outbox.specs.Chains.{listed}
use Rattle.place_outbox.specs.Waiting.{Pooled, count}

abbrev pub with_fronts : List (Option Packet) → List (List Packet) → List (List Packet)
with_fronts [] ls = []
with_fronts (o ∷ os) [] = []
with_fronts (o ∷ os) (l ∷ ls) = (listed o ++ l) ∷ with_fronts os ls

-- how many were put back
abbrev pub fronts : List (Option Packet) → ℕ
fronts [] = 0
fronts (o ∷ os) = length (listed o) + fronts os

abbrev pub are_free : List (Option Packet) → List Bool
are_free os = map (λ (o : Option Packet). is_none o) os

-- whether some wait
abbrev pub is_filled : List Packet → Bool
is_filled [] = false
is_filled (packet ∷ l) = true

-- what each outbox keeps
pub record IsOutbox (os : List (Option Packet)) (pool : Pooled) (back : ℕ) : Type 0 where
  pub places : length os ≡ length pool.lists
  pub counted : back ≡ fronts os
  pub at_most : fronts os + count pool.lists ≤ pool.puts
  pub fits : pool.puts < 2 ^ 64
