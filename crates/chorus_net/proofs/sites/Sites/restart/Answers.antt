use Rattle.std.proofs.Common.{sym, ◌∙◌, ap}
use Rattle.law_network.specs.Left.{journals, packets_left, placed}
use Rattle.chorus_net.specs.Sites.{SitesState, net}
use Rattle.chorus_net.proofs.Parts.{journals-are, packets-are, ports-are}
use Rattle.chorus_net.proofs.Renewing.{sites-untouched}
use Rattle.chorus_net.proofs.sites.Sites.restart.Goals as goal

pub restart_places-requires-clause-untouched : goal.restart_places-requires-clause-untouched
restart_places-requires-clause-untouched c =
    let s : SitesState = record { layout = c.self.inside.layout; mark = c.self.inside.mark; places = c.self.inside.places.items; callers = c.self.inside.callers.items } in
    sites-untouched s c.self.invariant

pub returns-clause-closed : goal.returns-clause-closed
returns-clause-closed c =
    let a = c.in_ok-closed.ensures.closed in
    record {
      left = record {
        journals = a.journals ∙ sym (journals-are c.self.inside.places.items) ∙ ap (λ (v : SitesState). journals (net v)) c.self.view_is;
        rest = a.rest ∙ sym (packets-are c.self.inside.places.items) ∙ ap (λ (v : SitesState). packets_left (net v)) c.self.view_is;
        ports = a.ports ∙ sym (ports-are c.self.inside.places.items) ∙ ap (λ (v : SitesState). placed (net v)) c.self.view_is;
      };
      origin = (c.self.inside.mark, a.origin);
    }
