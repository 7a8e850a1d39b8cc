-- The packets that were put and not worked off. They stand by the place that put them, then by the place that they go
-- to, and those of one such pair in the order in which they were put.
-- a and b are numbers of places, o is a packet and os are packets with the places that they go to.
use Rattle.std.specs.Prelude.{ℕ, ◌≡◌, ◌==◌, nat_lt, Bool, false, ◌&&◌, ◌||◌, if◌then◌else◌, List, [], ◌∷◌, Option, Some, None}
use Rattle.chorus_entry.specs.declared.packet.Packet.{Packet}
use Rattle.law_machine.specs.declared.outgoing.Outgoing.{Outgoing}

-- the packet goes from a to b
abbrev pub is_link : ℕ → ℕ → Outgoing → Bool
is_link a b o = (o.packet.from == a) && (o.to == b)

-- the pair of places of the first packet stands before that of the second
abbrev pub is_link_before : Outgoing → Outgoing → Bool
is_link_before o u =
    nat_lt o.packet.from u.packet.from || ((o.packet.from == u.packet.from) && nat_lt o.to u.to)

-- the packets stand by their pairs of places: none stands behind one whose pair comes later
abbrev pub AreNotBefore : Outgoing → List Outgoing → Type 0
AreNotBefore o [] = Unit {0}
AreNotBefore o (u ∷ us) = (is_link_before u o ≡ false) × AreNotBefore o us

abbrev pub AreByLink : List Outgoing → Type 0
AreByLink [] = Unit {0}
AreByLink (o ∷ os) = AreNotBefore o os × AreByLink os

-- the packets with one more, the last of its pair
abbrev pub put : Outgoing → List Outgoing → List Outgoing
put o [] = o ∷ []
put o (u ∷ us) = if is_link_before o u then o ∷ u ∷ us else u ∷ put o us

-- with these, one after the other
abbrev pub put_all : List Outgoing → List Outgoing → List Outgoing
put_all [] us = us
put_all (o ∷ os) us = put_all os (put o us)

-- the first packet from a to b
abbrev pub first_on : ℕ → ℕ → List Outgoing → Option Packet
first_on a b [] = None
first_on a b (o ∷ os) = if is_link a b o then Some o.packet else first_on a b os

-- the packets without it
abbrev pub rest_on : ℕ → ℕ → List Outgoing → List Outgoing
rest_on a b [] = []
rest_on a b (o ∷ os) = if is_link a b o then os else o ∷ rest_on a b os
