-- The nucleus that was closed: its table was shut, and its places taken apart.
use Rattle.std.proofs.Common.{◌≡◌, List, length, ◌∙◌, ap, subst}
use Rattle.std.specs.Global.{Vec}
use Rattle.chorus_ui.specs.Layout.{places}
use Rattle.chorus_entry.specs.declared.entry.Entry.{Entry}
use Rattle.chorus_entry.specs.declared.packet.Packet.{Packet}
use Rattle.chorus_merge.specs.Steps.{journals_of}
use Rattle.law_history.specs.Places.{by_link}
use Rattle.law_network.specs.declared.placed.Placed.{Placed}
use Rattle.chorus_ruled_ends.specs.Ruled.{Ruled}
use Rattle.chorus_serve.specs.Desks.{DeskOf}
use Rattle.chorus_turn.specs.Passes as turns
use Rattle.chorus_net.specs.declared.closed.Closed.{Closed}
use Rattle.chorus_net.specs.Closing.{closed_journals, journals_in, ports_of, HasParts, IsOfTurns}
use Rattle.chorus_nucleus.specs.declared.apart.Parted.{Parted}
use Rattle.chorus_nucleus.specs.Apart.{places_in, goes_from, IsParted}
use Rattle.chorus_nucleus.specs.declared.nucleus.Nucleus.{Nucleus}
use Rattle.chorus_nucleus.specs.declared.pass.Pass.{Pass}
use Rattle.chorus_nucleus.specs.declared.close.Shut.{Shut}
use Rattle.chorus_nucleus.specs.Leaving.{desks_in, left_at, AreClosedWith, IsShut}
use Rattle.chorus_nucleus.specs.Closing.{IsClosed}
use Rattle.chorus_nucleus.proofs.Leaving.{desks-count, settles}
use Rattle.chorus_nucleus.proofs.Left.{closes, closes-for}

module _ (n : Nucleus) (pass : Pass) (s : Shut) (is : IsShut n pass s) (h : Parted) (apart : IsParted (desks_in s.sites.items) h) (c : Closed) (parts : HasParts h.journals h.rest h.ports c) (origin : IsOfTurns s.spent s.worn c) where
  abbrev ds : List (DeskOf Ruled Packet)
  ds = desks_in s.sites.items

  many : length ds ≡ places n.layout
  many = desks-count s.sites.items ∙ is.count

  journals : closed_journals c ≡ journals_in (places_in ds)
  journals = ap (λ (j : Vec (Vec Entry)). journals_of j.items) parts.0 ∙ apart.journals

  rest : c.rest.items ≡ by_link (places n.layout) (goes_from ds)
  rest = ap (λ (r : Vec Packet). r.items) parts.1 ∙ apart.rest ∙ ap (λ k. by_link k (goes_from ds)) many

  ports : c.ports.items ≡ ports_of (places_in ds)
  ports = ap (λ (p : Vec Placed). p.items) parts.2 ∙ apart.ports

  closed-with : AreClosedWith n.layout is.log (turns.known pass.turner) ds (left_at ds)
  closed-with = is.closed (left_at ds) (settles n.layout ds many apart.settled)

  pub ended : IsClosed n pass c
  ended =
      let k = closes n.layout is.shape ds many is.log (turns.known pass.turner) c journals rest ports is.told is.behind closed-with in
      record {
        shape = is.shape;
        comers = k.0;
        closes = k.1;
        for_actors = closes-for n.layout is.shape ds many is.log (turns.known pass.turner) c journals rest ports is.told is.behind closed-with;
        spent = s.spent;
        origin = subst (λ w. IsOfTurns s.spent w c) is.worn origin;
        left = is.left;
      }
