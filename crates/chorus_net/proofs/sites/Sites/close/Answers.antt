use Rattle.std.proofs.Common.{◌∙◌, ap, sym}
use Rattle.law_network.specs.Left.{journals, packets_left, placed}
use Rattle.chorus_net.specs.Sites.{SitesState, net}
use Rattle.chorus_net.proofs.Parts.{journals-are, packets-are, ports-are}
use Rattle.chorus_net.proofs.sites.Sites.close.Goals as goal

pub returns-clause-ok : goal.returns-clause-ok
returns-clause-ok c =
    let ps = c.self.inside.places.items in
    let a = c.take_apart.ensures in
    record {
      left = record {
        journals = a.journals ∙ sym (journals-are c.self.inside.places.items) ∙ ap (λ (v : SitesState). journals (net v)) c.self.view_is;
        rest = a.rest ∙ sym (packets-are c.self.inside.places.items) ∙ ap (λ (v : SitesState). packets_left (net v)) c.self.view_is;
        ports = a.ports ∙ sym (ports-are c.self.inside.places.items) ∙ ap (λ (v : SitesState). placed (net v)) c.self.view_is;
      };
      origin = (c.self.inside.mark, a.origin);
    }
