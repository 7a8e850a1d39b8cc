use mathlib.Core.Bool.{beq}
use Rattle.std.proofs.Common.{◌≡◌, Bool, true, false, not, List, length, map, refl, sym, ◌∙◌, ap, subst}
use Rattle.std.proofs.lemmas.Bool.{false≢true}
use Rattle.law_explore.specs.Alike.{NetsAlike}
use Rattle.law_explore.specs.Positions.{AskAlike}
use Rattle.chorus_scene.specs.Scene.{Script}
use Rattle.chorus_net.specs.Sites.{net}
use Rattle.chorus_explore.specs.Tellings.{kept_of}
use Rattle.chorus_explore.proofs.Alike.{come-alike}
use Rattle.chorus_explore.proofs.Moving.{layout-at}
use Rattle.chorus_explore.proofs.race_sites.Stage.is_alike.Goals as goal

pub are_alike-requires : goal.are_alike-requires
are_alike-requires c =
    layout-at c.args.scenario.now c.args.other.now c.requires.other ∙ sym (layout-at c.args.scenario.now c.args.self.now c.requires.one)

same-asks : (a b : Bool) → not (beq a b) ≡ false → a ≡ b
same-asks true true e = refl
same-asks false false e = refl
same-asks true false e = absurd (false≢true (sym e))
same-asks false true e = absurd (false≢true (sym e))

pub returns : goal.returns
returns c = λ e.
    come-alike c.args.scenario.now c.args.self.now c.args.other.now c.requires.one c.requires.other
    (same-asks c.args.self.now.asks c.args.other.now.asks c.if-self-other.false)
    (sym (ap (map kept_of) c.as_slice.ensures.value) ∙ (c.if-not-are_as_far.ensures refl) ∙ ap (map kept_of) c.as_slice-2.ensures.value)
    (subst (λ (ss : List Script). NetsAlike (AskAlike c.args.self.now.asks) (length ss) (net c.args.self.now.sites) (net c.args.other.now.sites)) c.scripts.ensures
    (c.in_ok-alike.ensures e))
