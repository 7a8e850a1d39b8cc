-- When a whole turn may be made.
-- q and `to` are ports, a an actor, hand what the caller has in hand, p the tables of the place, c the caller.
use Rattle.std.specs.Prelude.{ℕ, ◌≡◌, ◌-◌, ◌^◌, ◌<◌, ◌≤◌, Some}
use Rattle.chorus_ui.specs.declared.ui.Ui.{Ui}
use Rattle.chorus_ui.specs.declared.kind.Kind.TheVariants as kinds
use Rattle.chorus_ui.specs.declared.limits.TheConstants.{PENDING_LIMIT}
use Rattle.chorus_entry.specs.declared.command.Command.TheVariants.{Make}
use Rattle.chorus_entry.specs.declared.hand.Hand.{Hand}
use Rattle.chorus_entry.specs.Places.{place_for}
use Rattle.chorus_calls.specs.Callers.{Seated}
use Rattle.chorus_place.specs.PlaceTables.Tables.{Tables}

-- the caller may make a port of this capacity for the actor, and this is the place that makes it
pub record MayMakePort (a : Ui) (capacity : ℕ) (p : Tables) (c : Seated) : Type 0 where
  pub kind : a.kind ≡ kinds.Actor
  pub least : 1 ≤ capacity
  pub most : capacity ≤ PENDING_LIMIT
  pub here : place_for p.layout c.actor (Make a capacity) ≡ p.number

-- the caller may call the port q, with the reply to the port `to`
pub record MayBeginCall (q to : Ui) (c : Seated) : Type 0 where
  pub port : q.kind ≡ kinds.Port
  pub back : to.kind ≡ kinds.Port
  pub posts : c.posts < 2 ^ 32 - 1
  pub given : c.client.given < 2 ^ 32 - 1

-- the caller may reply to the request that it has in hand
pub record MayReply (hand : Hand) (c : Seated) : Type 0 where
  pub held : c.hand ≡ Some hand
  pub number : 1 ≤ hand.number
  pub back : hand.back.kind ≡ kinds.Port
  pub posts : c.posts < 2 ^ 32 - 1
