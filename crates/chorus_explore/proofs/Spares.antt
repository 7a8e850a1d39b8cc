-- Spare sites, as some are taken and given back.
-- c is a scenario, old and new are spare sites, s are sites.
use Rattle.std.proofs.Common.{◌≡◌, List, [], ◌∷◌, ◌++◌, option_to_list, Option, sym, subst}
use Rattle.std.proofs.lemmas.List.Elements.{All-pop, All-push}
use Rattle.law_network.specs.Calls.{just_started}
use Rattle.chorus_net.specs.Sites.{SitesState, net}
use Rattle.chorus_scene.specs.Scene.{Scene}
use Rattle.chorus_explore.specs.Stages.{AreFresh, AreSpare}

module _ (c : Scene) where
  pub taken : (old new : List SitesState) (o : Option SitesState) → old ≡ new ++ option_to_list o → AreSpare c old → AreSpare c new × AreFresh c o
  taken old new o e h = All-pop (λ (s : SitesState). net s ≡ just_started c.layout) old new o e h

  pub given-back : (old new : List SitesState) (s : SitesState) → new ≡ old ++ s ∷ [] → AreSpare c old → net s ≡ just_started c.layout → AreSpare c new
  given-back old new s e h is = subst (AreSpare c) (sym e) (All-push (λ (s : SitesState). net s ≡ just_started c.layout) old s h is)
